-- `sheet::line::task_line` meets its contract.
use Rattle.std.proofs.Common.{◌≡◌, sym, ap, ◌∙◌, Some}
use Rattle.decimal.specs.Reading.{read_as_number}
use Rattle.table.specs.Cut.{cut_of}
use Rattle.table.proofs.Cuts.{fielded}
use Rattle.sheet.specs.Sheet.{longest_line, card_list}
use Rattle.sheet.proofs.LineLaws.{uncut, field, no-number, no-core, no-deadline, no-cards, spells}
use Rattle.sheet.proofs.line.task_line.Goals as goal
use Rattle.sheet.proofs.line.task_line.Goals.{In_ok-fields, In_ok-number, In_ok-core, In_ok-deadline}

-- the fields that were cut
cut : (c : In_ok-fields) → cut_of longest_line 4 c.args.line ≡ Some c.in_ok-fields.fields
cut c = sym c.cut.ensures ∙ c.in_ok-fields.was

pub part-requires : goal.part-requires
part-requires c = fielded longest_line 4 _ (cut (goal.at.part-requires c).In_ok-fields)

pub part-requires-2 : goal.part-requires-2
part-requires-2 c = fielded longest_line 4 _ (cut (goal.at.part-requires-2 c).In_ok-fields)

pub part-requires-3 : goal.part-requires-3
part-requires-3 c = fielded longest_line 4 _ (cut (goal.at.part-requires-3 c).In_ok-fields)

pub part-requires-4 : goal.part-requires-4
part-requires-4 c = fielded longest_line 4 _ (cut (goal.at.part-requires-4 c).In_ok-fields)

-- what its fields read as
number : (c : In_ok-number) → read_as_number (field c.args.at c.args.line c.in_ok-fields.fields (cut (goal.at.In_ok-number c).In_ok-fields) 0) ≡ Some c.in_ok-number.number
number c = ap read_as_number (sym c.part.ensures) ∙ sym c.read.ensures ∙ c.in_ok-number.was

core : (c : In_ok-core) → read_as_number (field c.args.at c.args.line c.in_ok-fields.fields (cut (goal.at.In_ok-core c).In_ok-fields) 1) ≡ Some c.in_ok-core.core
core c = ap read_as_number (sym c.part-2.ensures) ∙ sym c.read-2.ensures ∙ c.in_ok-core.was

deadline : (c : In_ok-deadline) → read_as_number (field c.args.at c.args.line c.in_ok-fields.fields (cut (goal.at.In_ok-deadline c).In_ok-fields) 2) ≡ Some c.in_ok-deadline.deadline
deadline c = ap read_as_number (sym c.part-3.ensures) ∙ sym c.read-3.ensures ∙ c.in_ok-deadline.was

pub returns-in_err-fields : goal.returns-in_err-fields
returns-in_err-fields c = c.from_residual.ensures ∙ sym (uncut c.args.at c.args.line (sym c.cut.ensures ∙ c.in_err-fields.was))

pub returns-in_err-number : goal.returns-in_err-number
returns-in_err-number c =
    let at = goal.at.returns-in_err-number c in
    c.from_residual-in_err-number.ensures
    ∙ sym (no-number c.args.at c.args.line _ (cut at.In_ok-fields)
    (ap read_as_number (sym c.part.ensures) ∙ sym c.read.ensures ∙ c.in_err-number.was))

pub returns-in_err-core : goal.returns-in_err-core
returns-in_err-core c =
    let at = goal.at.returns-in_err-core c in
    c.from_residual-in_err-core.ensures
    ∙ sym (no-core c.args.at c.args.line _ (cut at.In_ok-fields) _ (number at.In_ok-number)
    (ap read_as_number (sym c.part-2.ensures) ∙ sym c.read-2.ensures ∙ c.in_err-core.was))

pub returns-in_err-deadline : goal.returns-in_err-deadline
returns-in_err-deadline c =
    let at = goal.at.returns-in_err-deadline c in
    c.from_residual-in_err-deadline.ensures
    ∙ sym (no-deadline c.args.at c.args.line _ (cut at.In_ok-fields) _ (number at.In_ok-number) _ (core at.In_ok-core)
    (ap read_as_number (sym c.part-3.ensures) ∙ sym c.read-3.ensures ∙ c.in_err-deadline.was))

pub returns-in_err-cards : goal.returns-in_err-cards
returns-in_err-cards c =
    let at = goal.at.returns-in_err-cards c in
    c.from_residual-in_err-cards.ensures
    ∙ sym (no-cards c.args.at c.args.line _ (cut at.In_ok-fields) _ (number at.In_ok-number) _ (core at.In_ok-core) _ (deadline at.In_ok-deadline)
    (ap card_list (sym c.part-4.ensures) ∙ sym c.card_list.ensures ∙ c.in_err-cards.was))

pub returns : goal.returns
returns c =
    let at = goal.at.returns c in
    c.spelled.ensures
    ∙ sym (spells c.args.at c.args.line _ (cut at.In_ok-fields) _ (number at.In_ok-number) _ (core at.In_ok-core) _ (deadline at.In_ok-deadline) _
    (ap card_list (sym c.part-4.ensures) ∙ sym c.card_list.ensures ∙ c.in_ok-cards.was))
