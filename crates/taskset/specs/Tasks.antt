-- Which lists of tasks are a task set (paper 2: are the tasks of a sheet), and how one stands in an array.
use Rattle.std.specs.Prelude.{ℕ, ◌-◌, Bool, true, false, cond, not, ◌&&◌, ◌||◌, List, [], ◌∷◌, ◌++◌, map, eqb, leb, ltb, length, take, replicate}
use Rattle.taskset.specs.declared.Task.{Task}
use Rattle.taskset.specs.declared.TaskSet.{TaskSet}
use Rattle.taskset.specs.declared.NotTasks.{NotTasks}

-- a sheet has 1 to 32 tasks
abbrev pub most_tasks : ℕ
most_tasks = 32

-- cores are 0 to 15
abbrev pub last_core : ℕ
last_core = 15

-- whether a number stands in a list
unfoldable pub occurs : ℕ → List ℕ → Bool
occurs n [] = false
occurs n (m ∷ ms) = eqb n m || occurs n ms

-- task numbers differ
unfoldable pub all_differ : List ℕ → Bool
all_differ [] = true
all_differ (n ∷ ns) = not (occurs n ns) && all_differ ns

-- cores 0 to 15
unfoldable pub cores_exist : List Task → Bool
cores_exist [] = true
cores_exist (t ∷ ts) = leb t.core last_core && cores_exist ts

-- one number of each task
abbrev pub numbers_of : List Task → List ℕ
numbers_of ts = map (λ (t : Task). t.number) ts

abbrev pub deadlines_of : List Task → List ℕ
deadlines_of ts = map (λ (t : Task). t.deadline) ts

abbrev pub cards_of : List Task → List ℕ
cards_of ts = map (λ (t : Task). t.cards) ts

-- whether these are the tasks of some sheet: 1 to 32, on cores 0 to 15, with different numbers. That a number is at most 65,535, a deadline has 32
-- bits, and cards are 0 to 63, the types say.
unfoldable pub is_task_set : List Task → Bool
is_task_set ts = (ltb 0 (length ts) && leb (length ts) most_tasks) && (cores_exist ts && all_differ (numbers_of ts))

-- a place where no task stands: zeros, which the language reads past an array's end, and so 0 for the empty set
abbrev pub no_task : Task
no_task = record { number = 0; core = 0; deadline = 0; cards = 0 }

-- the tasks in the first places of an array, and how many they are; zeros past them
unfoldable pub packed : List Task → TaskSet
packed ts = record { tasks = ts ++ replicate (most_tasks - length ts) no_task; count = length ts }

-- the tasks that stand in the first places; none where the count is greater than the array
unfoldable pub standing : TaskSet → List Task
standing s = cond (leb s.count most_tasks) (take s.count s.tasks) []

-- the refusal of what is no task set
abbrev pub not_tasks : NotTasks
not_tasks = record {}

-- refusal 13: these are the tasks of no sheet
abbrev pub not_tasks_number : ℕ
not_tasks_number = 13
