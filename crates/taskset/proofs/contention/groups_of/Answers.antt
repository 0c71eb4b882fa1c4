-- `taskset::contention::groups_of` meets its contract.
use Rattle.std.proofs.Common.{◌≡◌, sym, ap, ◌∙◌, true, false, Ok}
use Rattle.taskset.specs.Tasks.{is_task_set, standing}
use Rattle.taskset.specs.Groups.{groups_given}
use Rattle.taskset.proofs.Typed.{standing-words}
use Rattle.taskset.proofs.TaskLaws.{set-most, refused}
use Rattle.taskset.proofs.GroupTurns.{grouped-made}
use Rattle.taskset.proofs.Chains.{groups-given, right-groups}
use Rattle.taskset.proofs.contention.groups_of.Goals as goal

pub returns-in_err-tasks : goal.returns-in_err-tasks
returns-in_err-tasks c =
    let s = c.args.set in
    let rule = refused c.from_residual.result c.from_residual.ensures.0 ∙ sym (groups-given (standing s) false c.in_err-tasks.ensures.which) in
    record { rule = rule; paper = right-groups (standing s) (standing-words s _ c.well_formed.0) _ rule }

pub group_cards-requires : goal.group_cards-requires
group_cards-requires c = rw c.in_ok-tasks.ensures.tasks (set-most (standing c.args.set) (sym c.in_ok-tasks.ensures.which))

pub returns : goal.returns
returns c =
    let s = c.args.set in
    let ts = c.in_ok-tasks.tasks.now in
    let same : ts ≡ standing s = c.in_ok-tasks.ensures.tasks in
    let rule =
    ap Ok (grouped-made ts c.group_cards.result c.group_cards.ensures)
    ∙ sym (groups-given ts true (c.in_ok-tasks.ensures.which ∙ ap is_task_set (sym same)))
    ∙ ap groups_given same in
    record { rule = rule; paper = right-groups (standing s) (standing-words s _ c.well_formed.0) _ rule }
