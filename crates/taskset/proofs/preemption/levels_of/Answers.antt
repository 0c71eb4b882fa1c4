-- `taskset::preemption::levels_of` meets its contract.
use Rattle.std.proofs.Common.{◌≡◌, sym, ap, ◌∙◌, ℕ, ◌-◌, ◌≤◌, true, false, Ok, List, length, take, arith}
use lib.ListN.{length-append, length-replicate}
use lib.Seq.{take_at, length-take-le}
use Rattle.taskset.specs.Tasks.{most_tasks, is_task_set, deadlines_of, standing}
use Rattle.taskset.specs.Levels.{task_levels, levels_given}
use Rattle.taskset.proofs.Typed.{standing-words}
use Rattle.taskset.proofs.TaskLaws.{set-most, refused}
use Rattle.taskset.proofs.GroupTurns.{group-cards-front, group-cards-long}
use Rattle.taskset.proofs.LevelList.{levels-fit, levelled-made}
use Rattle.taskset.proofs.Ceilings.{levels-given, right-levels}
use Rattle.taskset.proofs.preemption.levels_of.Goals as goal
use Rattle.taskset.proofs.preemption.levels_of.Goals.{In_ok-tasks, After-group_cards-groups, After-task_levels-levels}

pub returns-in_err-tasks : goal.returns-in_err-tasks
returns-in_err-tasks c =
    let s = c.args.set in
    let rule = refused c.from_residual.result c.from_residual.ensures.0 ∙ sym (levels-given (standing s) false c.in_err-tasks.ensures.which) in
    record { rule = rule; paper = right-levels (standing s) (standing-words s _ c.well_formed.0) _ rule }

-- the tasks are a task set, so they are few
few : (c : In_ok-tasks) → length c.in_ok-tasks.tasks.now ≤ most_tasks
few c = rw c.in_ok-tasks.ensures.tasks (set-most (standing c.args.set) (sym c.in_ok-tasks.ensures.which))

pub group_cards-groups-requires : goal.group_cards-groups-requires
group_cards-groups-requires c = few (goal.at.group_cards-groups-requires c).In_ok-tasks

pub task_levels-levels-requires : goal.task_levels-levels-requires
task_levels-levels-requires c = few (goal.at.task_levels-levels-requires c).In_ok-tasks

groups_long : (c : After-group_cards-groups) → length c.group_cards-groups.result ≡ most_tasks
groups_long c = ap (λ (xs : List ℕ). length xs) c.group_cards-groups.ensures ∙ group-cards-long c.in_ok-tasks.tasks.now (few (goal.at.After-group_cards-groups c).In_ok-tasks)

levels_long : (c : After-task_levels-levels) → length c.task_levels-levels.result ≡ most_tasks
levels_long c =
    let ts = c.in_ok-tasks.tasks.now in
    ap (λ (xs : List ℕ). length xs) c.task_levels-levels.ensures ∙ length-append (task_levels (deadlines_of ts)) _
    ∙ omega (arith, levels-fit ts, length-replicate {A = ℕ} (most_tasks - length ts) 0, few (goal.at.After-task_levels-levels c).In_ok-tasks)

pub slice_bounds-groups-end : goal.slice_bounds-groups-end
slice_bounds-groups-end c = omega (arith, groups_long (goal.at.slice_bounds-groups-end c).After-group_cards-groups, few (goal.at.slice_bounds-groups-end c).In_ok-tasks)

pub slice_bounds-side_by_side-end : goal.slice_bounds-side_by_side-end
slice_bounds-side_by_side-end c = sym (length-take-le _ _ (omega (arith, groups_long (goal.at.slice_bounds-side_by_side-end c).After-group_cards-groups, few (goal.at.slice_bounds-side_by_side-end c).In_ok-tasks)))

pub slice_bounds-levels-end : goal.slice_bounds-levels-end
slice_bounds-levels-end c = omega (arith, levels_long (goal.at.slice_bounds-levels-end c).After-task_levels-levels, few (goal.at.slice_bounds-levels-end c).In_ok-tasks)

pub slice_bounds-side_by_side-end-2 : goal.slice_bounds-side_by_side-end-2
slice_bounds-side_by_side-end-2 c = sym (length-take-le _ _ (omega (arith, levels_long (goal.at.slice_bounds-side_by_side-end-2 c).After-task_levels-levels, few (goal.at.slice_bounds-side_by_side-end-2 c).In_ok-tasks)))

pub side_by_side-list-requires : goal.side_by_side-list-requires
side_by_side-list-requires c =
    let ts = c.in_ok-tasks.tasks.now in
    record {
      few = few (goal.at.side_by_side-list-requires c).In_ok-tasks;
      by_group = ap (λ (xs : List ℕ). take (length ts) xs) c.group_cards-groups.ensures ∙ group-cards-front ts;
      by_level = ap (λ (xs : List ℕ). take (length ts) xs) c.task_levels-levels.ensures ∙ take_at (task_levels (deadlines_of ts)) _ (length ts) (levels-fit ts);
    }

pub returns : goal.returns
returns c =
    let s = c.args.set in
    let ts = c.in_ok-tasks.tasks.now in
    let same : ts ≡ standing s = c.in_ok-tasks.ensures.tasks in
    let rule =
    ap Ok (levelled-made ts c.side_by_side-list.result c.side_by_side-list.ensures)
    ∙ sym (levels-given ts true (c.in_ok-tasks.ensures.which ∙ ap is_task_set (sym same)))
    ∙ ap levels_given same in
    record { rule = rule; paper = right-levels (standing s) (standing-words s _ c.well_formed.0) _ rule }
