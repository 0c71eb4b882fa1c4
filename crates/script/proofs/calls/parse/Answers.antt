-- `script::calls::parse` meets its contract: each part is the field that the definition takes, and `spelt` says what they spell.
use mathlib.Core.Path.{refl, sym, ◌∙◌}
use Rattle.table.proofs.Cuts.{fielded}
use Rattle.script.specs.Line.{whole}
use Rattle.script.proofs.Parts.{no_fields-spelled, parts-spelled}
use Rattle.script.proofs.calls.parse.Goals as goal

pub returns-in_err-f : goal.returns-in_err-f
returns-in_err-f c = c.from_residual.ensures ∙ sym (no_fields-spelled c.args.at c.args.line c.in_err-f.ensures)

pub part-requires : goal.part-requires
part-requires c = fielded _ _ _ (sym c.in_ok-f.ensures)

pub part-requires-2 : goal.part-requires-2
part-requires-2 c = fielded _ _ _ (sym c.in_ok-f.ensures)

pub part-requires-3 : goal.part-requires-3
part-requires-3 c = fielded _ _ _ (sym c.in_ok-f.ensures)

pub part-requires-4 : goal.part-requires-4
part-requires-4 c = fielded _ _ _ (sym c.in_ok-f.ensures)

pub returns-in_err-called : goal.returns-in_err-called
unfolding whole
returns-in_err-called c =
    c.from_residual-in_err-called.ensures
    ∙ sym (parts-spelled c.args.at c.args.line c.in_ok-f.f c.in_ok-f.ensures _ _ _ _ c.part.ensures refl refl refl ∙ rw (← c.in_err-called.ensures))

pub returns-in_err-core : goal.returns-in_err-core
unfolding whole
returns-in_err-core c =
    c.from_residual-in_err-core.ensures
    ∙ sym
    (parts-spelled c.args.at c.args.line c.in_ok-f.f c.in_ok-f.ensures _ _ _ _ c.part.ensures c.part-2.ensures refl refl
    ∙ rw (← c.in_ok-called.ensures, ← c.in_err-core.ensures))

pub returns-in_err-card : goal.returns-in_err-card
unfolding whole
returns-in_err-card c =
    c.from_residual-in_err-card.ensures
    ∙ sym
    (parts-spelled c.args.at c.args.line c.in_ok-f.f c.in_ok-f.ensures _ _ _ _ c.part.ensures c.part-2.ensures c.part-3.ensures refl
    ∙ rw (← c.in_ok-called.ensures, ← c.in_ok-core.ensures, ← c.in_err-card.ensures))

pub returns-in_err-value : goal.returns-in_err-value
unfolding whole
returns-in_err-value c =
    c.from_residual-in_err-value.ensures
    ∙ sym
    (parts-spelled c.args.at c.args.line c.in_ok-f.f c.in_ok-f.ensures _ _ _ _ c.part.ensures c.part-2.ensures c.part-3.ensures c.part-4.ensures
    ∙ rw (← c.in_ok-called.ensures, ← c.in_ok-core.ensures, ← c.in_ok-card.ensures, ← c.in_err-value.ensures))

pub returns : goal.returns
unfolding whole
returns c =
    c.spelt.ensures
    ∙ sym
    (parts-spelled c.args.at c.args.line c.in_ok-f.f c.in_ok-f.ensures _ _ _ _ c.part.ensures c.part-2.ensures c.part-3.ensures c.part-4.ensures
    ∙ rw (← c.in_ok-called.ensures, ← c.in_ok-core.ensures, ← c.in_ok-card.ensures, ← c.in_ok-value.ensures))
