-- `machine::Machine::lent` meets its contract.
use Rattle.std.proofs.Common.{◌≡◌, ℕ, true, false, refl, ◌∙◌}
use Rattle.std.proofs.lemmas.Result.{err_from_is_err_and}
use Rattle.one_core.specs.declared.calls.Act.{Act}
use Rattle.machine.specs.Refusals.{at}
use Rattle.machine.specs.OneCore.{call_of, lends}
use Rattle.machine.proofs.CallLaws.{refused-as}
use Rattle.machine.proofs.DoorLaws.{tested-fine, tested-refused}
use Rattle.machine.proofs.Machine.lent.Goals as goal

-- the table of refusals says the same of which calls are lent the tables
lent-both : (a : Act) (c : ℕ) → lends a ≡ true → at (call_of a c) false false true true true false false ≡ true
lent-both (Act.Read d) c e = refl
lent-both (Act.Write d v) c e = refl
lent-both (Act.Release number deadline) c e = cc
lent-both Act.Begin c e = cc
lent-both Act.GiveUp c e = cc
lent-both Act.Finish c e = cc

pub returns-in_err-tested : goal.returns-in_err-tested
returns-in_err-tested c =
    let p = err_from_is_err_and c.from_residual.result c.from_residual.ensures.1 in
    rw p.1 (refused-as _ _ _ p.2 ∙ tested-refused _ _ _ (lent-both c.args.act c.args.core c.requires) c.in_err-tested.ensures)

pub access-requires : goal.access-requires
access-requires c = tested-fine _ c.in_ok-tested.ensures
