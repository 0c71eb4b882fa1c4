-- `machine::Machine::setup` meets its contract.
use Rattle.machine.proofs.Run.WholeRun.{every-run}
use Rattle.machine.proofs.Refusals.{setup-smallest-given}
use Rattle.machine.proofs.Told.{lent-told}
use Rattle.machine.proofs.Machine.setup.Goals as goal

pub returns-clause-runs : goal.returns-clause-runs
returns-clause-runs c = rw c.of.ensures (every-run c.args.cores c.args.objects c.args.committed.now c.args.pending.now _ _ _ c.set_up-given.ensures)

pub returns-clause-paper : goal.returns-clause-paper
returns-clause-paper c =
    rw c.of.ensures (lent-told (setup-smallest-given c.args.cores c.args.objects c.args.committed.now c.args.pending.now) c.set_up-given.ensures).1
