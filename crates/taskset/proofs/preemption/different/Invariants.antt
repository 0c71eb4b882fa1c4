-- `taskset::preemption::different` meets its contract.
use Rattle.std.proofs.Common.{◌≡◌, ◌≤◌, ◌++◌, take, drop}
use Rattle.taskset.specs.Tasks.{deadlines_of}
use Rattle.taskset.specs.Counted.{distinct}
use Rattle.taskset.proofs.preemption.different.Given as goal

-- those that stand in the first places, and the different deadlines from `i` on, are all of them
abbrev pub invariant-loop-i : goal.invariant-loop-i
invariant-loop-i l = record {
  few : l.n ≤ l.i;
  all : take l.n l.deadlines ++ distinct (drop l.i (deadlines_of l.tasks)) ≡ distinct (deadlines_of l.tasks);
}
