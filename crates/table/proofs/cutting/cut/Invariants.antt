-- `table::cutting::cut` meets its contract. The loop's invariant: i fields' beginnings stand in their places. After it the last field begins within the line and ends with it, or the line has more or fewer.
use mathlib.Core.Path.{◌≡◌}
use Rattle.table.specs.Cut.{filled, beginnings}
use Rattle.table.proofs.cutting.cut.Given as goal

abbrev pub invariant-loop-i : goal.invariant-loop-i
invariant-loop-i l = l.begins ≡ filled 6 0 (beginnings l.i l.line 0)
