-- `taskset::preemption::side_by_side` meets its contract.
use Rattle.std.proofs.Common.{◌≡◌, sym, ap, ◌∙◌, ℕ, List, length, replicate, arith}
use lib.ListN.{length-map}
use Rattle.taskset.specs.declared.Task.{Task}
use Rattle.taskset.specs.Tasks.{most_tasks, cards_of}
use Rattle.taskset.specs.Levels.{levels_of, no_level}
use Rattle.taskset.proofs.Columns.{listed, listed_next}
use Rattle.taskset.proofs.GroupLaws.{groups-length}
use Rattle.taskset.proofs.LevelList.{levels-fit, levels_long, level-made, filled-whole}
use Rattle.taskset.proofs.preemption.side_by_side.Goals as goal
use Rattle.taskset.proofs.preemption.side_by_side.Goals.{Start}

groups_long : (c : Start) → length c.args.groups.now ≡ length c.args.tasks.now
groups_long c = ap (λ (xs : List ℕ). length xs) c.requires.by_group ∙ groups-length (cards_of c.args.tasks.now) ∙ length-map c.args.tasks.now (λ (t : Task). t.cards)

long : (c : Start) → length c.args.levels.now ≡ length c.args.tasks.now
long c = ap (λ (xs : List ℕ). length xs) c.requires.by_level ∙ levels-fit c.args.tasks.now

pub bounds-levels-i : goal.bounds-levels-i
bounds-levels-i c = omega (arith, long (goal.at.bounds-levels-i c).Start)

pub bounds-groups-i : goal.bounds-groups-i
bounds-groups-i c = omega (arith, groups_long (goal.at.bounds-groups-i c).Start)

pub highest-requires : goal.highest-requires
highest-requires c = long (goal.at.highest-requires c).Start ∙ sym (groups_long (goal.at.highest-requires c).Start)

pub loop-i-preserved : goal.loop-i-preserved
loop-i-preserved c =
    let ts = c.args.tasks.now in
    let at = c.loop-i in
    listed_next (replicate most_tasks no_level) (levels_of ts) at.list at.i _ no_level (omega (arith, levels_long ts)) (omega (arith, c.requires.few))
    (level-made ts c.args.groups.now c.args.levels.now c.requires at.i (omega arith) c.highest.result c.highest.ensures) at.invariant

pub returns : goal.returns
returns c =
    let ts = c.args.tasks.now in
    let last : c.loop-i.i ≡ length ts = omega arith in
    c.loop-i.invariant ∙ ap (λ (i : ℕ). listed (replicate most_tasks no_level) i (levels_of ts)) last ∙ filled-whole ts
