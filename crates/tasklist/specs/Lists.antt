-- Tasks in a list that the caller lends (paper 2: 'They stand in the sheet's order; places beyond the last keep what they held, and so does the whole
-- list after a refusal').
use Rattle.std.specs.Prelude.{ℕ, Bool, cond, ◌&&◌, List, [], ◌++◌, leb, ltb, length, take, drop, Result, Ok, Err}
use Rattle.taskset.specs.declared.Task.{Task}
use Rattle.taskset.specs.declared.NotTasks.{NotTasks}
use Rattle.taskset.specs.Tasks.{most_tasks, not_tasks}

-- whether there are tasks, and the list has a place for each ('the lent list is shorter than it')
unfoldable pub have_room : List Task → List Task → Bool
have_room ts ys = ltb 0 (length ts) && leb (length ts) (length ys)

-- the answer: how many tasks were put into the list; refused where they have no room
unfoldable pub fill_given : List Task → List Task → Result ℕ NotTasks
fill_given ts ys = cond (have_room ts ys) (Ok (length ts)) (Err not_tasks)

-- the list: the tasks in the first places, and beyond them what was there; as it was where they have no room
unfoldable pub filled_list : List Task → List Task → List Task
filled_list ts ys = cond (have_room ts ys) (ts ++ drop (length ts) ys) ys

-- the first n tasks of a list; none where it has fewer, or where n is more than a task set has
unfoldable pub first_of : ℕ → List Task → List Task
first_of n ys = cond (leb n most_tasks && leb n (length ys)) (take n ys) []
