-- `sheet::reading::read_tasks` meets its contract. The loop's invariant: the lines from `from` on decide. The measure is what is left of the bytes.
use Prim.Native.Nat.{◌+◌, ◌-◌}
use lib.ListN.{length}
use Rattle.sheet.proofs.ReadLaws.{Reads}
use Rattle.sheet.proofs.reading.read_tasks.Given as goal

abbrev pub invariant-loop-from : goal.invariant-loop-from
invariant-loop-from l = Reads l.bytes l.first l.at l.tasks l.n l.from

abbrev pub decreases-loop-from : goal.decreases-loop-from
decreases-loop-from l = length l.bytes + 1 - l.from
