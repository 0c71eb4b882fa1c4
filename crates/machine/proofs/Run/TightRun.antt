-- A run in which both bounds of demand 3 are met, with k = 1 and L = 1: T is set back once, and it is in progress until the last of its
-- (k + 1) × (L + 2) rounds. No claim with a smaller bound holds of it, not even one that speaks of k ≥ 1 alone. That the rule gives this run
-- is computed in examples_run (`tight-played`).
use Rattle.std.proofs.Common.{◌≡◌, ℕ, ◌<◌, ◌≤◌, Bool, true, false, leb, List, [], ◌∷◌, ◌++◌, refl, arith, leb-false, leb-true}
use Rattle.objset.specs.Objset.{some, each}
use Rattle.machine.specs.Record.{tally}
use Rattle.machine.specs.Words.{Deed, begins, reads, writes, waits, commits, told, other, in_progress, births, born, ahead, any, touched, wrote, crosses, attempt, struck}
use Rattle.machine.specs.Rounds.{among, is_round, Rounds, in-progress, committed, given-up, fate, AtMost}
use Rattle.machine.specs.Claims.{Served}
use Rattle.machine.proofs.Run.ShortAttempts.{core_begun, begun_below, short, all_short, at_most}
use Rattle.machine.proofs.Run.CountedRounds.{all_rounds, all-rounds, fewer}

-- two cores and one card, newest first: X on core 0 has struck E on core 1 and committed
unfoldable pub early : List Deed
early = commits 0 0 ∷ writes 0 0 5 ∷ reads 1 0 0 ∷ begins 1 ∷ begins 0 ∷ other ∷ other ∷ []

-- T is begun on core 0, with E ahead of it
unfoldable pub start : List Deed
start = begins 0 ∷ early

-- a refused call, and five rounds of T and E: T writes, so that it has to wait; E is told, writes, and commits, which strikes T; T is told, and reads
unfoldable pub five : List Deed
five = reads 0 0 6 ∷ told 0 ∷ commits 1 1 ∷ waits 0 1 ∷ waits 0 1 ∷ writes 1 0 6 ∷ told 1 ∷ writes 0 0 7 ∷ other ∷ []

-- in the sixth T commits
unfoldable pub tight : List Deed
tight = commits 0 1 ∷ five ++ start

-- ---- set back once

one-of-one : (ahead tight 0 ≡ 1) × (struck tight 0 ≡ 1)
unfolding early start five tight tally in_progress ahead any touched wrote crosses attempt struck some
one-of-one = (refl, refl)

-- what the claim says of T, which has committed: one is at most k
set-back-once : Served tight → 1 ≤ 1
unfolding early start five tight tally in_progress ahead any touched wrote crosses attempt struck some
set-back-once s = s.at_most_k [] tight 0 refl

-- ---- in progress after five rounds

five-rounds : Rounds 2 start 5 (five ++ start)
unfolding early start five in_progress births born any among is_round each all_rounds
five-rounds = all-rounds 2 start (1 ∷ 1 ∷ 2 ∷ 2 ∷ 2 ∷ []) five refl

one_at_most : AtMost 1 2 start five
unfolding early start five in_progress any touched wrote crosses attempt some each core_begun begun_below short all_short
one_at_most = at_most 2 1 2 start five refl

in-progress-is-not : (in-progress ≡ committed → ⊥) × (in-progress ≡ given-up → ⊥)
in-progress-is-not = (λ e. let z : ◌≡◌ {A = ℕ} 0 1 = cc in omega arith, λ e. let z : ◌≡◌ {A = ℕ} 0 1 = cc in omega arith)

-- a number of rounds that is enough for T is more than five
not-in-five : (n : ℕ) → (Rounds 2 start n (five ++ start) → fate five 0 ≡ committed) → 5 < n
unfolding five fate
not-in-five n enough = go (leb n 5) refl
  where
    go : (b : Bool) → leb n 5 ≡ b → 5 < n
    go true q = absurd (in-progress-is-not.0 (enough (fewer five-rounds n (leb-true n 5 q))))
    go false q = omega (arith, leb-false n 5 q)

-- what the claim says of T, with k = 1 and L = 1: its rounds, six, are more than those
more-than-five : Served tight → 5 < 6
unfolding early start five tight tally in_progress births fate
more-than-five s = not-in-five _ (λ r. s.within_rounds (commits 0 1 ∷ []) five early 0 1 refl one_at_most r in-progress-is-not.1)
