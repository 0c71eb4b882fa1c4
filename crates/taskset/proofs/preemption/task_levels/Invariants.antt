-- `taskset::preemption::task_levels` meets its contract.
use Rattle.std.proofs.Common.{◌≡◌, replicate}
use Rattle.taskset.specs.Tasks.{most_tasks, deadlines_of}
use Rattle.taskset.specs.Levels.{task_levels}
use Rattle.taskset.proofs.Columns.{listed}
use Rattle.taskset.proofs.preemption.task_levels.Given as goal

-- the first i levels are worked out
abbrev pub invariant-loop-i : goal.invariant-loop-i
invariant-loop-i l = l.levels ≡ listed (replicate most_tasks 0) l.i (task_levels (deadlines_of l.tasks))
