-- What 'the first of them' adds to 'an earlier one in conflict': an answer that names a later one of two keeps `waits_behind`, and no list with
-- it keeps `none_before`.
use Rattle.std.proofs.Common.{◌≡◌, ◌<◌, ◌≤◌, true, List, [], ◌∷◌, refl, arith}
use Rattle.objset.specs.Objset.{some}
use Rattle.machine.specs.Words.{Deed, begins, reads, writes, waits, in_progress, births, born, any, touched, wrote, crosses, attempt, conflict}
use Rattle.machine.specs.Claims.{Served}

-- begun on cores 2, 0 and 1, one after another; the first two read the card that the third writes; newest first
early : List Deed
early = writes 1 0 5 ∷ reads 0 0 0 ∷ reads 2 0 0 ∷ begins 1 ∷ begins 0 ∷ begins 2 ∷ []

-- core 0 has an earlier one in conflict with core 1's
earlier-in-conflict : (in_progress early 0 ≡ true) × (born early 0 < born early 1) × (conflict early 1 0 ≡ true)
unfolding early in_progress births born any touched wrote crosses attempt conflict some
earlier-in-conflict = (refl, omega arith, refl)

-- but core 2's is the first, so that waits may not name core 0
not-the-first : Served (waits 1 0 ∷ early) → ⊥
unfolding early in_progress births born any touched wrote crosses attempt conflict some
not-the-first s = let first : 1 ≤ 0 = s.none_before [] early 1 0 2 refl refl (omega arith) refl in omega (arith, first)
