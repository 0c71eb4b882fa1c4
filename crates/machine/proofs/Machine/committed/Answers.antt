-- `machine::Machine::committed` meets its contract.
use Rattle.std.proofs.Common.{refl, ◌∙◌}
use Rattle.std.proofs.lemmas.Result.{err_from_is_err_and}
use Rattle.machine.specs.Rule.{rule, Commit}
use Rattle.machine.proofs.CallLaws.{refused-as}
use Rattle.machine.proofs.DoorLaws.{tested-fine, tested-refused}
use Rattle.machine.proofs.Machine.committed.Goals as goal

pub returns-in_err-tested : goal.returns-in_err-tested
unfolding rule
returns-in_err-tested c =
    let p = err_from_is_err_and c.from_residual.result c.from_residual.ensures.1 in
    rw p.1 (refused-as _ _ _ p.2 ∙ tested-refused _ (Commit c.args.core) _ refl c.in_err-tested.ensures)

pub commit-requires : goal.commit-requires
commit-requires c = tested-fine _ c.in_ok-tested.ensures
