-- `taskset::preemption::side_by_side` meets its contract.
use Rattle.std.proofs.Common.{◌≡◌, replicate}
use Rattle.taskset.specs.Tasks.{most_tasks}
use Rattle.taskset.specs.Levels.{levels_of, no_level}
use Rattle.taskset.proofs.Columns.{listed}
use Rattle.taskset.proofs.preemption.side_by_side.Given as goal

-- the first i levels are listed
abbrev pub invariant-loop-i : goal.invariant-loop-i
invariant-loop-i l = l.list ≡ listed (replicate most_tasks no_level) l.i (levels_of l.tasks)
