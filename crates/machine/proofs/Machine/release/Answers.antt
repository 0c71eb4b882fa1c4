-- `machine::Machine::release` meets its contract.
use Rattle.std.proofs.Common.{[]}
use Rattle.machine.specs.Rule.{lent, rule, Release}
use Rattle.machine.proofs.Refusals.{smallest-given}
use Rattle.machine.proofs.Told.{told}
use Rattle.machine.proofs.Machine.release.Goals as goal

pub returns : goal.returns
unfolding rule
returns c =
    let t = told (smallest-given (lent c.args.self [] []) (Release c.args.core c.args.job c.args.deadline)) c.unlent.ensures in
    rw c.of.ensures (record { rule = t.0; paper = t.1 })
