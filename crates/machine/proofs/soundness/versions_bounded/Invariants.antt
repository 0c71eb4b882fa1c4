-- `machine::soundness::versions_bounded` meets its contract: the answer is of the versions passed.
use Rattle.std.proofs.Common.{◌≡◌}
use Rattle.objset.specs.Objset.{each}
use Rattle.machine.proofs.SoundLaws.{card_at}
use Rattle.machine.proofs.soundness.versions_bounded.Given as goal

abbrev pub invariant-loop-d : goal.invariant-loop-d
invariant-loop-d l = l.kept ≡ each l.d (card_at l.m)
