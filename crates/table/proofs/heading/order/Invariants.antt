-- `table::heading::order` meets its contract. The loop's invariant: the first i names all stand, and their places are the first i.
use mathlib.Core.Path.{◌≡◌}
use mathlib.Core.Bool.{true}
use lib.ListN.{take}
use Rattle.table.specs.Pieces.{pieces}
use Rattle.table.specs.Fields.{places_of, all_stand}
use Rattle.table.specs.Cut.{most_fields, filled, fields_by}
use Rattle.table.proofs.heading.order.Given as goal

abbrev pub invariant-loop-i : goal.invariant-loop-i
invariant-loop-i l =
    (l.places ≡ filled most_fields most_fields (places_of (take l.i (pieces 32 l.names)) (fields_by l.f)))
    × (all_stand (take l.i (pieces 32 l.names)) (fields_by l.f) ≡ true)
