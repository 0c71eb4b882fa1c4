-- `taskset::contention::group_cards` meets its contract.
use Rattle.std.proofs.Common.{◌≡◌, replicate}
use Rattle.taskset.specs.Tasks.{most_tasks, cards_of}
use Rattle.taskset.proofs.Columns.{listed}
use Rattle.taskset.proofs.contention.group_cards.Given as goal

-- the first i entries are the cards of the tasks there
abbrev pub invariant-loop-i : goal.invariant-loop-i
invariant-loop-i l = l.cards ≡ listed (replicate most_tasks 0) l.i (cards_of l.tasks)
