-- The preemption levels of a task set (source 002, 6.3.1, definitions 33 to 35), worked out. Ceilings.antt has paper 2's sentences as they are;
-- what is worked out is proved to keep them.
use Rattle.std.specs.Prelude.{ℕ, suc, ◌-◌, max, Bool, cond, List, [], ◌∷◌, ◌++◌, map, leb, length, replicate, Result, Ok, Err}
use Rattle.objset.specs.Objset.{has, meeting}
use Rattle.taskset.specs.declared.Task.{Task}
use Rattle.taskset.specs.declared.Level.{Level}
use Rattle.taskset.specs.declared.Levels.{Levels}
use Rattle.taskset.specs.declared.NotTasks.{NotTasks}
use Rattle.taskset.specs.Tasks.{most_tasks, occurs, deadlines_of, cards_of, is_task_set, not_tasks}
use Rattle.taskset.specs.Groups.{groups_of}

-- ---- task levels

-- how many different numbers a list has
unfoldable pub different : List ℕ → ℕ
different [] = 0
different (n ∷ ns) = cond (occurs n ns) (different ns) (suc (different ns))

-- the numbers of a list that are at least d
unfoldable pub at_least : ℕ → List ℕ → List ℕ
at_least d [] = []
at_least d (n ∷ ns) = cond (leb d n) (n ∷ at_least d ns) (at_least d ns)

-- a task's level: the count of different deadlines at least its own
unfoldable pub task_level : List ℕ → ℕ → ℕ
task_level deadlines d = different (at_least d deadlines)

-- the level of each task
unfoldable pub task_levels : List ℕ → List ℕ
task_levels deadlines = map (task_level deadlines) deadlines

-- ---- transaction levels

-- the highest of the levels whose sets pass a test; 0 where none does
unfoldable pub highest_of : (ℕ → Bool) → List ℕ → List ℕ → ℕ
highest_of test [] levels = 0
highest_of test (s ∷ ss) [] = 0
highest_of test (s ∷ ss) (l ∷ ls) = cond (test s) (max l (highest_of test ss ls)) (highest_of test ss ls)

-- the ceiling of an object (definition 33): the highest level of the tasks that use it
abbrev pub object_ceiling : ℕ → List ℕ → List ℕ → ℕ
object_ceiling d cards levels = highest_of (λ (c : ℕ). has c d) cards levels

-- the ceiling of a contention group (definition 34): the highest level of the tasks whose groups have a card of this one; 0 where none has, so for a
-- task without cards
abbrev pub highest : ℕ → List ℕ → List ℕ → ℕ
highest g groups levels = highest_of (meeting g) groups levels

-- the level of each transaction: the highest task level in its group, 0 without cards (definition 35)
unfoldable pub transaction_levels : List ℕ → List ℕ → List ℕ
transaction_levels groups levels = map (λ (g : ℕ). highest g groups levels) groups

-- ---- both, for each task in the sheet's order

-- the number, the task level and the transaction level of each task
unfoldable pub side_by_side : List Task → List ℕ → List ℕ → List Level
side_by_side [] ls ms = []
side_by_side (t ∷ ts) [] ms = []
side_by_side (t ∷ ts) (l ∷ ls) [] = []
side_by_side (t ∷ ts) (l ∷ ls) (m ∷ ms) = record { number = t.number; task = l; transaction = m } ∷ side_by_side ts ls ms

-- the levels of tasks: all tasks count, on every core, with cards or without
unfoldable pub levels_of : List Task → List Level
levels_of ts =
    side_by_side ts (task_levels (deadlines_of ts)) (transaction_levels (groups_of (cards_of ts)) (task_levels (deadlines_of ts)))

-- a place where no level stands
abbrev pub no_level : Level
no_level = record { number = 0; task = 0; transaction = 0 }

-- levels in the first places of an array, zeros past them
unfoldable pub levelled : List Level → Levels
levelled ls = record { list = ls ++ replicate (most_tasks - length ls) no_level; count = length ls }

-- what a list of tasks is answered; refused where it is no task set
unfoldable pub levels_given : List Task → Result Levels NotTasks
levels_given ts = cond (is_task_set ts) (Ok (levelled (levels_of ts))) (Err not_tasks)
