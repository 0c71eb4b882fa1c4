-- Levels and groups at the edges of the rule, computed. Table 6.1 stands in `sheet`, worked out from the bytes of its sheet.
use mathlib.Core.Path.{◌≡◌, refl}
use mathlib.Core.Bool.{true, false}
use mathlib.Core.List.{[], ◌∷◌, map}
use Rattle.objset.specs.Objset as Objset
use Rattle.taskset.specs.Tasks as Tasks
use Rattle.taskset.specs.Groups as Groups
use Rattle.taskset.specs.Levels as Levels

-- ---- task levels: equal deadlines count once, and one's own counts

pub task-levels : map Levels.task_levels ((7 ∷ []) ∷ (50 ∷ 50 ∷ 80 ∷ []) ∷ (80 ∷ 50 ∷ 80 ∷ 50 ∷ []) ∷ (0 ∷ 4294967295 ∷ 0 ∷ []) ∷ [])
    ≡ (1 ∷ []) ∷ (2 ∷ 2 ∷ 1 ∷ []) ∷ (1 ∷ 2 ∷ 1 ∷ 2 ∷ []) ∷ (2 ∷ 1 ∷ 2 ∷ []) ∷ []
unfolding Levels.task_levels Levels.task_level Levels.different Levels.at_least Tasks.occurs
task-levels = refl

-- ---- groups, as sets of cards: card d is the digit of weight 2 to the power d

-- a chain whose last task joins what stood apart; two groups; a task without cards; two tasks with the same cards
pub groups : map Groups.groups_of ((1 ∷ 4 ∷ 3 ∷ 6 ∷ []) ∷ (1 ∷ 2 ∷ 3 ∷ 8 ∷ []) ∷ (0 ∷ 5 ∷ 0 ∷ []) ∷ (9 ∷ 9 ∷ []) ∷ [])
    ≡ (7 ∷ 7 ∷ 7 ∷ 7 ∷ []) ∷ (3 ∷ 3 ∷ 3 ∷ 8 ∷ []) ∷ (0 ∷ 5 ∷ 0 ∷ []) ∷ (9 ∷ 9 ∷ []) ∷ []
unfolding Groups.groups_of Groups.with_task Groups.reached Groups.replaced Objset.meeting Objset.some Objset.has Objset.joined Objset.collect
groups = refl

-- ---- transaction levels: the highest of the group, 0 without cards

pub transaction-levels : Levels.transaction_levels (7 ∷ 7 ∷ 8 ∷ 0 ∷ []) (1 ∷ 3 ∷ 2 ∷ 4 ∷ []) ≡ 3 ∷ 3 ∷ 2 ∷ 0 ∷ []
unfolding Levels.transaction_levels Levels.highest_of Objset.meeting Objset.some Objset.has
transaction-levels = refl

-- ---- ceilings of objects: the highest level of the tasks that use them, 0 where none does

pub object-ceilings : map (λ d. Levels.object_ceiling d (1 ∷ 3 ∷ 2 ∷ 0 ∷ []) (1 ∷ 3 ∷ 2 ∷ 4 ∷ [])) (0 ∷ 1 ∷ 2 ∷ []) ≡ 3 ∷ 3 ∷ 0 ∷ []
unfolding Levels.highest_of Objset.has
object-ceilings = refl

-- ---- which lists are a task set: at most 32 tasks, cores to 15, numbers that differ

pub numbers-differ : map Tasks.all_differ ([] ∷ (1 ∷ 2 ∷ 3 ∷ []) ∷ (1 ∷ 2 ∷ 1 ∷ []) ∷ [])
    ≡ true ∷ true ∷ false ∷ []
unfolding Tasks.all_differ Tasks.occurs
numbers-differ = refl
