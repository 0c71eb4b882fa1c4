-- `taskset::preemption::task_levels` meets its contract.
use Rattle.std.proofs.Common.{◌≡◌, sym, ap, ◌∙◌, ℕ, get_or, length, replicate, arith}
use Rattle.std.specs.List.{count_by}
use lib.Dec.{leb}
use Rattle.taskset.specs.Tasks.{most_tasks, no_task, deadlines_of}
use Rattle.taskset.specs.Levels.{task_levels}
use Rattle.taskset.proofs.Columns.{listed, listed_next, listed-whole}
use Rattle.taskset.proofs.Counting.{count-distinct}
use Rattle.taskset.proofs.LevelList.{task-level-at, levels-fit}
use Rattle.taskset.proofs.preemption.task_levels.Goals as goal

pub loop-i-preserved : goal.loop-i-preserved
loop-i-preserved c =
    let ts = c.args.tasks.now in
    let ds = deadlines_of ts in
    let at = c.loop-i in
    listed_next (replicate most_tasks 0) (task_levels ds) at.levels at.i c.level.result 0 (omega (arith, levels-fit ts)) (omega (arith, c.requires))
    (c.level.ensures ∙ ap (count_by (leb (get_or ts at.i no_task).deadline)) c.different-n.ensures.list ∙ count-distinct _ ds ∙ sym (task-level-at ts at.i (omega arith)))
    at.invariant

pub returns : goal.returns
returns c =
    let ts = c.args.tasks.now in
    let last : c.loop-i.i ≡ length ts = omega arith in
    c.loop-i.invariant
    ∙ ap (λ (i : ℕ). listed (replicate most_tasks 0) i (task_levels (deadlines_of ts))) last
    ∙ listed-whole 0 (task_levels (deadlines_of ts)) (length ts) (levels-fit ts)
