-- `machine::Machine::give_up` meets its contract.
use Rattle.std.proofs.Common.{[]}
use Rattle.machine.specs.Rule.{lent, rule, GiveUp}
use Rattle.machine.proofs.Refusals.{smallest-given}
use Rattle.machine.proofs.Told.{told}
use Rattle.machine.proofs.Machine.give_up.Goals as goal

pub returns : goal.returns
unfolding rule
returns c =
    let t = told (smallest-given (lent c.args.self [] []) (GiveUp c.args.core)) c.unlent.ensures in
    rw c.of.ensures (record { rule = t.0; paper = t.1 })
