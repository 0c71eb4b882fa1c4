-- `taskset::contention::group_cards` meets its contract.
use Rattle.std.proofs.Common.{◌≡◌, ap, ◌∙◌, ℕ, replicate, length, arith}
use Rattle.taskset.specs.Tasks.{most_tasks, cards_of}
use Rattle.taskset.proofs.Columns.{listed}
use Rattle.taskset.proofs.GroupTurns.{groups-made}
use Rattle.taskset.proofs.contention.group_cards.Goals as goal

pub returns : goal.returns
returns c =
    let ts = c.args.tasks.now in
    let last : c.loop-i.i ≡ length ts = omega arith in
    groups-made ts c.loop-i.cards c.join_groups.new.groups
    (c.loop-i.invariant ∙ ap (λ (i : ℕ). listed (replicate most_tasks 0) i (cards_of ts)) last) c.join_groups.ensures
