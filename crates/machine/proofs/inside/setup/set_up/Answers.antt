-- `machine::inside::setup::set_up` meets its contract.
use Rattle.std.proofs.Common.{◌≡◌, length, replicate, sym, ◌∙◌, rules}
use Rattle.machine.proofs.DoorLaws.{setup-range, setup-misfit, setup-made}
use Rattle.machine.proofs.inside.setup.set_up.Goals as goal

pub returns-then-not-in_range : goal.returns-then-not-in_range
returns-then-not-in_range c = rw c.blank.ensures (setup-range _ _ _ _ (sym c.if-not-in_range.ensures))

pub returns-then-not-tables_fit : goal.returns-then-not-tables_fit
returns-then-not-tables_fit c =
    rw c.blank.ensures (setup-misfit _ _ _ _ (sym c.in_range.ensures ∙ c.if-not-in_range.false) (sym c.if-not-tables_fit.ensures))

pub returns : goal.returns
returns c =
    let committed : c.fill.new.self ≡ replicate (length c.args.committed.now) 0 = search rules in
    let pending : c.fill-2.new.self ≡ replicate (length c.args.pending.now) 0 = search rules in
    rw (c.blank.ensures, committed, pending)
    (setup-made _ _ _ _ (sym c.in_range.ensures ∙ c.if-not-in_range.false) (sym c.tables_fit.ensures ∙ c.if-not-tables_fit.false))
