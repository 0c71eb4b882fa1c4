-- `machine::soundness::turn_kept` meets its contract: the smaller ones before index k are counted.
use Rattle.std.proofs.Common.{◌≡◌, ◌+◌, ◌≤◌}
use Rattle.machine.specs.Record.{tally}
use Rattle.machine.specs.Sound.{smaller_at}
use Rattle.machine.proofs.soundness.turn_kept.Given as goal

abbrev pub invariant-loop-k : goal.invariant-loop-k
invariant-loop-k l = (l.smaller ≤ l.aborts + l.k-index) × (l.smaller ≡ l.aborts + tally l.k-index (smaller_at l.m l.ticket))
