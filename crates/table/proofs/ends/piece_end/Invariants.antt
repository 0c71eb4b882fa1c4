-- `table::ends::piece_end` meets its contract. The loop's invariant: the piece ends where it does from `i` on.
use mathlib.Core.Path.{◌≡◌}
use Prim.Native.Nat.{◌≤◌, max}
use lib.ListN.{length}
use Rattle.table.specs.Fields.{piece_end}
use Rattle.table.proofs.ends.piece_end.Given as goal

abbrev pub invariant-loop-i : goal.invariant-loop-i
invariant-loop-i l = (piece_end l.at l.line l.i ≡ piece_end l.at l.line l.from) × (l.i ≤ max l.from (length l.line))
