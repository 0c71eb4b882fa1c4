-- What a refused call gives (document 01): the table of refusals, and 'the smallest number that applies'.
use Rattle.std.specs.Prelude.{◌≡◌, ℕ, ◌<◌, ◌≤◌, Bool, true, false, not, ◌&&◌, ◌||◌, List, [], ◌∷◌, ◌==◌}
use Rattle.machine.specs.declared.Machine.{Machine}
use Rattle.one_core.specs.declared.Answer.{Answer}
use Rattle.machine.specs.Answers.{refusal_number, values}
use Rattle.machine.specs.Record.{active_at}
use Rattle.machine.specs.Rule.{World, sizes_out_of_range, misfit, unsound, wrong_tables, no_such_core, no_such_object, full_list, jobless, tickets_spent, setup, rule, Call, Release, Begin, Read, Write, Commit, GiveUp, Finish, core_of}

-- the card that a read or a write names
abbrev pub object_named : Call → ℕ
object_named (Release c number deadline) = 0
object_named (Begin c) = 0
object_named (Read c d) = d
object_named (Write c d v) = d
object_named (Commit c) = 0
object_named (GiveUp c) = 0
object_named (Finish c) = 0

-- the entry for a call in a row of the table
abbrev pub at : Call → Bool → Bool → Bool → Bool → Bool → Bool → Bool → Bool
at (Release c number deadline) r b d w k g f = r
at (Begin c) r b d w k g f = b
at (Read c e) r b d w k g f = d
at (Write c e v) r b d w k g f = w
at (Commit c) r b d w k g f = k
at (GiveUp c) r b d w k g f = g
at (Finish c) r b d w k g f = f

-- the call can be refused so, and it cannot
abbrev ✓ : Bool
✓ = true

abbrev ∘ : Bool
∘ = false

-- the table of the calls after setup, in document 01's order: the conditions and their numbers; the columns are release, begin, read,
-- write, commit, give up, finish, and a row without columns is for all of them
unfoldable pub refusals : World → Call → List (Bool × ℕ)
refusals w call =
    let m : Machine = w.machine in
    let c : ℕ = core_of call in
    (unsound m, 2)
    ∷ (at call ∘ ∘ ✓ ✓ ✓ ∘ ∘ && wrong_tables w, 3)
    ∷ (no_such_core m c, 4)
    ∷ (at call ∘ ∘ ✓ ✓ ∘ ∘ ∘ && no_such_object m (object_named call), 5)
    ∷ (at call ✓ ∘ ∘ ∘ ∘ ∘ ∘ && full_list m c, 6)
    ∷ (at call ∘ ✓ ∘ ∘ ∘ ∘ ✓ && jobless m c, 7)
    ∷ (at call ∘ ✓ ∘ ∘ ∘ ∘ ✓ && active_at m c, 8)
    ∷ (at call ∘ ∘ ✓ ✓ ✓ ✓ ∘ && not (active_at m c), 9)
    ∷ (at call ∘ ✓ ∘ ∘ ∘ ∘ ∘ && tickets_spent m, 10) ∷ []

-- the table of setup
unfoldable pub setup_refusals : ℕ → ℕ → List ℕ → List ℕ → List (Bool × ℕ)
setup_refusals cores objects committed pending = (sizes_out_of_range cores objects, 1) ∷ (misfit cores objects committed pending, 3) ∷ []

-- number n applies: a condition of that number holds
unfoldable pub applies : ℕ → List (Bool × ℕ) → Bool
applies n [] = false
applies n (x ∷ xs) = x.1 == n && x.0 || applies n xs

-- n is the smallest number that applies, or 0 where none does
pub record Smallest (n : ℕ) (xs : List (Bool × ℕ)) : Type 0 where
  -- it is given only if its condition holds
  pub it_applies : 0 < n → applies n xs ≡ true
  -- and if any number applies, one is given that is no greater
  pub none_smaller : (k : ℕ) → applies k xs ≡ true → (0 < n) × (n ≤ k)

-- document 01's number and values of an answer: the smallest number that applies, and the values of the answer that is expected
abbrev pub Tabled : Answer → List (Bool × ℕ) → Answer → Type 0
Tabled a conditions expected = Smallest (refusal_number a) conditions × (values a ≡ values expected)

-- of the answer to a call after setup; expected is the rule's answer
abbrev pub Numbered : World → Call → Answer → Type 0
Numbered w call a = Tabled a (refusals w call) (rule w call).answer

-- and of the answer to setup
abbrev pub NumberedSetup : ℕ → ℕ → List ℕ → List ℕ → Answer → Type 0
NumberedSetup cores objects committed pending a =
    Tabled a (setup_refusals cores objects committed pending) (setup cores objects committed pending).answer
