-- Setbacks that no run has, whatever becomes of the transaction: told without a strike, twice for one strike, or after the end; and a
-- read-only one that was told of every strike, set back at its commit. Where it is given up no commit reports them, and still no list with
-- one keeps the claim.
use Rattle.std.proofs.Common.{◌≡◌, ℕ, List, [], ◌∷◌, refl, arith}
use Rattle.objset.specs.Objset.{some}
use Rattle.one_core.specs.declared.Answer.TheVariants.{Begun, SetBack, Committed}
use Rattle.machine.specs.Answers.{kind, values}
use Rattle.machine.specs.Rule.{Begin, Commit}
use Rattle.machine.specs.Words.{Event, Deed, begins, reads, writes, commits, told, gives, amounts, deeds, in_progress, any, touched, wrote, wrote_nothing, crosses, attempt, struck, set_backs}
use Rattle.machine.specs.Claims.{Served, ReadOnly}
use Rattle.machine.proofs.Run.Births.{clash}

-- one that is told and then given up was struck
not-without-a-strike : Served (gives 0 ∷ told 0 ∷ begins 0 ∷ []) → ⊥
unfolding in_progress struck set_backs
not-without-a-strike s = let one : ◌≡◌ {A = ℕ} 0 1 = (s.told_a_strike (gives 0 ∷ []) (begins 0 ∷ []) 0 refl).1 in omega (arith, one)

-- core 0 has struck core 1's; newest first
strike : List Deed
strike = commits 0 0 ∷ writes 0 0 5 ∷ reads 1 0 0 ∷ begins 1 ∷ begins 0 ∷ []

not-twice : Served (gives 1 ∷ told 1 ∷ told 1 ∷ strike) → ⊥
unfolding strike in_progress any touched wrote crosses attempt struck set_backs some
not-twice s = let two : ◌≡◌ {A = ℕ} 1 2 = (s.told_a_strike (gives 1 ∷ []) (told 1 ∷ strike) 1 refl).1 in omega (arith, two)

not-after-its-end : Served (told 1 ∷ gives 1 ∷ strike) → ⊥
unfolding strike in_progress
not-after-its-end s = clash (s.told_a_strike [] (gives 1 ∷ strike) 1 refl).0 refl

-- a commit request just after the begin
begun : List Event
begun = record { call = Begin 0; answer = Begun 0 } ∷ []

no-read-only-one : ReadOnly (record { call = Commit 0; answer = SetBack } ∷ begun) → ⊥
unfolding begun amounts deeds kind values in_progress any wrote_nothing attempt struck set_backs
no-read-only-one s =
    let same : SetBack ≡ Committed 0 = s.readonly_commits [] begun 0 SetBack refl refl refl refl in
    let z : ◌≡◌ {A = ℕ} 0 1 = cc in
    omega arith
