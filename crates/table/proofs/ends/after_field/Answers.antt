-- `table::ends::after_field` meets its contract: the branch's test says which case of `after_field` holds.
use native.Mathlib.Omega.{arith}
use borrow.Author.Tests.{le-leb, lt-leb}
use Rattle.table.specs.Fields.{field_end, after_field}
use Rattle.table.proofs.PieceEnds.{inside}
use Rattle.table.proofs.ends.after_field.Goals as goal

pub returns-then-line-from : goal.returns-then-line-from
unfolding after_field
returns-then-line-from c = rw (lt-leb _ _ c.if-line-from.true)

pub overflow_add-result : goal.overflow_add-result
unfolding field_end
overflow_add-result c = omega (arith, inside _ _ _ _ c.field_end.ensures (omega arith))

pub returns : goal.returns
unfolding after_field
returns c = rw (le-leb _ _ c.if-line-from.false, c.field_end.ensures)
