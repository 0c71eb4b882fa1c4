-- `runner::setup::set_up` meets its contract: setup accepts the numbers in range with the words that they ask for, and refuses the
-- others with none.
use Rattle.std.proofs.Common.{sym, ◌∙◌}
use Rattle.runner.proofs.Setups.{Done, lent-accepts, lent-refuses}
use Rattle.runner.proofs.setup.set_up.Goals as goal
use Rattle.runner.proofs.setup.set_up.Goals.{then-in_range, else-in_range}

pub returns : goal.returns
returns c =
    let all : Done c.args.committed.now c.args.pending.now c.args.cores c.args.cards _ _ _ =
    elim c.if-in_range.branch [
      | then-in_range w ↦ lent-accepts _ _ _ _ c.requires.0 c.requires.1 _ _ _ _ w.cores_lent-is (sym c.in_range.ensures ∙ w.if-in_range.true) c.set_up.auto.committed c.set_up.auto.pending c.set_up.ensures
      | else-in_range w ↦ lent-refuses _ _ _ _ c.requires.0 c.requires.1 _ _ _ _ w.cores_lent-is (sym c.in_range.ensures ∙ w.if-in_range.false) c.set_up.auto.committed c.set_up.auto.pending c.set_up.ensures
    ] in
    record { answer = all.0; world = all.1.0; kept = all.1.1.0; tables = all.1.1.1 }
