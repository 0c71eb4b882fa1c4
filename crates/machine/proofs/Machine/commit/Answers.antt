-- `machine::Machine::commit` meets its contract.
use Rattle.machine.specs.Rule.{lent, rule, Commit}
use Rattle.machine.proofs.Refusals.{smallest-given}
use Rattle.machine.proofs.Told.{lent-told}
use Rattle.machine.proofs.Machine.commit.Goals as goal

pub returns : goal.returns
unfolding rule
returns c =
    let t = lent-told (smallest-given (lent c.args.self c.args.committed.now c.args.pending.now) (Commit c.args.core)) c.committed.ensures in
    rw c.of.ensures (record { rule = t.0; paper = t.1 })
