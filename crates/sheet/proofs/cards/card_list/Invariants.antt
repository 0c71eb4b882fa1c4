-- `sheet::cards::card_list` meets its contract.
use Rattle.std.proofs.Common.{◌≡◌, ◌≤◌, map, length, drop}
use Rattle.decimal.specs.Bytes.{byte}
use Rattle.decimal.specs.Reading.{read_as_number}
use Rattle.objset.specs.Objset.{most_objects}
use Rattle.table.specs.Pieces.{pieces}
use Rattle.sheet.specs.Sheet.{rising, card_list}
use Rattle.sheet.proofs.cards.card_list.Given as goal

-- the set so far and the numbers that are left make the field's set
abbrev pub invariant-loop-number : goal.invariant-loop-number
invariant-loop-number l = record {
  small : l.least ≤ most_objects;
  rest : rising l.least l.set (map read_as_number (drop (length l.yielded) (pieces (byte ",") l.fn.field))) ≡ card_list l.fn.field;
}
