-- `sheet::reading::read` meets its contract.
use Rattle.std.proofs.Common.{sym, ◌∙◌, ◌≤◌, length, arith}
use lib.Seq.{length-take-le}
use Rattle.decimal.specs.Bytes.{byte}
use Rattle.table.specs.Pieces.{pieces, onto}
use Rattle.table.proofs.PieceEnds.{inside}
use Rattle.sheet.proofs.NamesLaws.{by_names, bad-names}
use Rattle.sheet.proofs.ReadLaws.{given-same, given-none}
use Rattle.sheet.proofs.reading.read.Goals as goal
use Rattle.sheet.proofs.reading.read.Goals.{After-piece_end-end}

-- the line of names ends within the bytes
ends : (c : After-piece_end-end) → c.piece_end-end.result ≤ length c.args.bytes.now
ends c = inside (byte "\n") _ 0 c.piece_end-end.result c.piece_end-end.ensures (omega arith)

pub slice_bounds-order-end-2 : goal.slice_bounds-order-end-2
slice_bounds-order-end-2 c = sym (length-take-le _ _ (ends (goal.at.slice_bounds-order-end-2 c).After-piece_end-end))

pub overflow_add-end : goal.overflow_add-end
overflow_add-end c = record { fits = omega (arith, ends (goal.at.overflow_add-end c).After-piece_end-end) }

pub returns-in_err-at : goal.returns-in_err-at
unfolding pieces onto
returns-in_err-at c =
    given-none _ _ c.from_residual.ensures
    (bad-names c.args.bytes.now c.piece_end-end.result c.piece_end-end.ensures (sym c.order.ensures ∙ c.in_err-at.was))

pub returns : goal.returns
unfolding pieces onto
returns c =
    given-same c.read_tasks.result
    (by_names c.args.bytes.now c.piece_end-end.result c.piece_end-end.ensures (sym c.order.ensures ∙ c.in_ok-at.was)) c.read_tasks.ensures
