-- `taskset::contention::join_groups` meets its contract.
use Rattle.std.proofs.Common.{◌≡◌, ◌≤◌, ◌++◌, length, take, drop}
use Rattle.taskset.specs.Groups.{groups_of}
use Rattle.taskset.proofs.contention.join_groups.Given as goal

-- from `i` on stand the groups of the tasks from `i` on, and before it the cards as they were lent
abbrev pub invariant-loop-i : goal.invariant-loop-i
invariant-loop-i l = record {
  within : l.i ≤ length l.initial.groups;
  same_length : length l.groups ≡ length l.initial.groups;
  rest : l.groups ≡ take l.i l.initial.groups ++ groups_of (drop l.i l.initial.groups);
}
