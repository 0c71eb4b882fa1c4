-- `machine::Machine::read` meets its contract.
use Rattle.machine.specs.Rule.{lent, rule, Read}
use Rattle.machine.proofs.Refusals.{smallest-given}
use Rattle.machine.proofs.Told.{lent-told}
use Rattle.machine.proofs.Machine.read.Goals as goal

pub returns : goal.returns
unfolding rule
returns c =
    let t = lent-told (smallest-given (lent c.args.self c.args.committed.now c.args.pending.now) (Read c.args.core c.args.object)) c.lent.ensures in
    rw c.of.ensures (record { rule = t.0; paper = t.1 })
