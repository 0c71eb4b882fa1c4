-- `taskset::contention::replace` meets its contract.
use Rattle.std.proofs.Common.{◌≡◌}
use Rattle.taskset.specs.Groups.{replaced}
use Rattle.taskset.proofs.Columns.{listed}
use Rattle.taskset.proofs.contention.replace.Given as goal

-- the groups before the one whose turn it is are replaced
abbrev pub invariant-loop-group : goal.invariant-loop-group
invariant-loop-group l = l.groups ≡ listed l.initial.groups l.group-index (replaced l.cards l.whole l.initial.groups)
