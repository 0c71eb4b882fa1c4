-- What a caller knows of lines: a line of more than 64 bytes spells no call and gives no order.
use mathlib.Core.Path.{◌≡◌}
use mathlib.Core.List.{List}
use Prim.Native.Nat.{ℕ, ◌<◌}
use lib.ListN.{length}
use Rattle.table.specs.Fields.{place, all_stand, columns, columns_of}
use Rattle.table.proofs.Cuts.{no_fields}
use Rattle.std.specs.Prelude.{None}
use Rattle.script.specs.declared.Columns.{Columns}
use Rattle.script.specs.Line.{longest, fields, ordered, names, verb, whole, meant, spells}

pub too_long : (at : Columns) (line : List ℕ) → longest < length line → spells at line ≡ None
unfolding spells meant fields verb whole
too_long at line h = rw (no_fields longest 4 line h)

pub names-too-long : (line : List ℕ) → longest < length line → names line ≡ None
unfolding names ordered columns_of columns all_stand place
names-too-long line h = rw (no_fields longest 4 line h)
