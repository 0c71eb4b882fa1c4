-- A call that gives what the rule gives, gives document 01's number and values: the smallest number that applies, and the rule's
-- values.
use Rattle.std.proofs.Common.{◌≡◌, ℕ, Bool, List, sym, ap, subst}
use Rattle.machine.specs.declared.Outcome.{Outcome}
use Rattle.one_core.specs.declared.Answer.{Answer}
use Rattle.machine.specs.Answers.{refusal_number, values}
use Rattle.machine.specs.Refusals.{Smallest, Tabled}
use Rattle.machine.specs.Rule.{Result}

-- what came back is what was expected, whose number is the smallest that applies
told-by : {A : Type 0} (answer_of : A → Answer) (r expected : A) {conditions : List (Bool × ℕ)}
    → Smallest (refusal_number (answer_of expected)) conditions → r ≡ expected → (r ≡ expected) × Tabled (answer_of r) conditions (answer_of expected)
told-by answer_of r expected {conditions} smallest e =
    (e, (subst (λ x. Smallest (refusal_number (answer_of x)) conditions) (sym e) smallest, ap (λ x. values (answer_of x)) e))

-- a call that is lent no table
pub told : {r expected : Outcome} {conditions : List (Bool × ℕ)} → Smallest (refusal_number expected.answer) conditions → r ≡ expected
    → (r ≡ expected) × Tabled r.answer conditions expected.answer
told {r} {expected} = told-by (λ (x : Outcome). x.answer) r expected

-- a call that is lent the tables
pub lent-told : {r expected : Result} {conditions : List (Bool × ℕ)} → Smallest (refusal_number expected.answer) conditions → r ≡ expected
    → (r ≡ expected) × Tabled r.answer conditions expected.answer
lent-told {r} {expected} = told-by (λ (x : Result). x.answer) r expected
