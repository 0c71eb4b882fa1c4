-- Document 01's number and values for each case of the answer enum, and the test that two answers are the same. The document
-- numbers refusals only; so that answers can be compared, `kind` gives each case its place in the enum.
use Rattle.std.specs.Prelude.{ℕ, Bool, true, false, ◌&&◌, List, [], ◌∷◌, ◌==◌}
use Rattle.one_core.specs.declared.Answer.{Answer}
use Rattle.one_core.specs.declared.Answer.TheVariants.{Ready, Running, Queued, Begun, Value, Written, Waits, Committed, SetBack, Ended, Finished, Refused}

-- the number of a refusal; 0 for an answer that is none
unfoldable pub refusal_number : Answer → ℕ
refusal_number Ready = 0
refusal_number Running = 0
refusal_number Queued = 0
refusal_number (Begun t) = 0
refusal_number (Value v n) = 0
refusal_number Written = 0
refusal_number (Waits c) = 0
refusal_number (Committed n) = 0
refusal_number SetBack = 0
refusal_number Ended = 0
refusal_number (Finished j) = 0
refusal_number (Refused n) = n

-- which case it is: its place in the enum
unfoldable pub kind : Answer → ℕ
kind Ready = 0
kind Running = 1
kind Queued = 2
kind (Begun t) = 3
kind (Value v n) = 4
kind Written = 5
kind (Waits c) = 6
kind (Committed n) = 7
kind SetBack = 8
kind Ended = 9
kind (Finished j) = 10
kind (Refused n) = 11

-- the values that an answer carries: begin's ticket, read's value and version, the core named by waits, commit's setbacks, finish's job,
-- refusal's number
unfoldable pub values : Answer → List ℕ
values Ready = []
values Running = []
values Queued = []
values (Begun t) = t ∷ []
values (Value v n) = v ∷ n ∷ []
values Written = []
values (Waits c) = c ∷ []
values (Committed n) = n ∷ []
values SetBack = []
values Ended = []
values (Finished j) = j ∷ []
values (Refused n) = n ∷ []

unfoldable pub same_list : List ℕ → List ℕ → Bool
same_list [] [] = true
same_list [] (y ∷ ys) = false
same_list (x ∷ xs) [] = false
same_list (x ∷ xs) (y ∷ ys) = x == y && same_list xs ys

unfoldable pub same_answer : Answer → Answer → Bool
same_answer a b = kind a == kind b && same_list (values a) (values b)
