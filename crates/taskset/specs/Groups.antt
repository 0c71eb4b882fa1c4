-- The contention groups of a task set (source 002, definition 24; paper 2: 'Two tasks that use a common card are in one group, and so on through
-- chains; no others are'), worked out: for each task the set of all cards of its group. Chains.antt has the sentence as it is; the two
-- are proved the same.
use Rattle.std.specs.Prelude.{ℕ, ◌-◌, Bool, cond, ◌||◌, List, [], ◌∷◌, ◌++◌, map, eqb, length, get_or, replicate, Result, Ok, Err}
use Rattle.objset.specs.Objset.{none, joined, meeting}
use Rattle.taskset.specs.declared.Task.{Task}
use Rattle.taskset.specs.declared.Groups.{Groups}
use Rattle.taskset.specs.declared.NotTasks.{NotTasks}
use Rattle.taskset.specs.Tasks.{most_tasks, cards_of, is_task_set, not_tasks}

-- a task's cards, and those of each group that they meet
unfoldable pub reached : ℕ → List ℕ → ℕ
reached c [] = c
reached c (g ∷ gs) = cond (meeting c g) (joined g (reached c gs)) (reached c gs)

-- each group that a task's cards meet becomes the whole
unfoldable pub replaced : ℕ → ℕ → List ℕ → List ℕ
replaced c whole gs = map (λ (g : ℕ). cond (meeting c g) whole g) gs

-- one task more, in front of tasks whose groups are known
unfoldable pub with_task : ℕ → List ℕ → List ℕ
with_task c gs = reached c gs ∷ replaced c (reached c gs) gs

-- the groups of tasks with these cards: for each task the cards of its group
unfoldable pub groups_of : List ℕ → List ℕ
groups_of [] = []
groups_of (c ∷ cs) = with_task c (groups_of cs)

-- whether two tasks, by their places, are in one group of these: the same task, or their groups have a common card
unfoldable pub in_one_group : List ℕ → ℕ → ℕ → Bool
in_one_group gs i j = eqb i j || meeting (get_or gs i none) (get_or gs j none)

-- groups in the first places of an array, the empty set past them
unfoldable pub grouped : List ℕ → Groups
grouped gs = record { cards = gs ++ replicate (most_tasks - length gs) none; count = length gs }

-- what a list of tasks is answered; refused where it is no task set
unfoldable pub groups_given : List Task → Result Groups NotTasks
groups_given ts = cond (is_task_set ts) (Ok (grouped (groups_of (cards_of ts)))) (Err not_tasks)
