-- `taskset::contention::join_groups` meets its contract.
use Rattle.std.proofs.Common.{◌≡◌, ◌+◌, ◌-◌, refl, arith}
use Rattle.taskset.specs.Groups.{groups_of}
use Rattle.taskset.proofs.GroupTurns.{still, groups_long, groups-turn}
use Rattle.taskset.proofs.contention.join_groups.Goals as goal

pub loop-i-init : goal.loop-i-init
unfolding groups_of
loop-i-init c = record { within = omega arith; same_length = refl; rest = still groups_of c.args.groups.now refl }

pub loop-i-preserved : goal.loop-i-preserved
loop-i-preserved c =
    let cs = c.args.groups.now in
    let at = c.loop-i in
    let next : at.i - 1 + 1 ≡ at.i = omega arith in
    let turned = groups-turn cs at.i (omega arith) at.invariant.within at.groups at.invariant.rest _ _ (rw next at c.reach-whole.ensures) (rw next at c.replace.ensures) in
    rw next (record { within = omega arith; same_length = groups_long cs (at.i - 1) _ (omega arith) turned; rest = turned })
