-- What the functions that work out levels tell each other.
use Rattle.std.specs.Prelude.{◌≡◌, ℕ, ◌≤◌, cond, List, [], ◌∷◌, length}
use Rattle.taskset.specs.declared.Task.{Task}
use Rattle.taskset.specs.Tasks.{most_tasks, occurs, deadlines_of, cards_of}
use Rattle.taskset.specs.Groups.{groups_of}
use Rattle.taskset.specs.Levels.{task_levels}

-- the different numbers of a list: each once, from the last place where it stands
unfoldable pub distinct : List ℕ → List ℕ
distinct [] = []
distinct (n ∷ ns) = cond (occurs n ns) (distinct ns) (n ∷ distinct ns)

-- the groups and the task levels of a set's tasks, entry by entry
pub record Columns (ts : List Task) (groups levels : List ℕ) : Type 0 where
  pub few : length ts ≤ most_tasks
  pub by_group : groups ≡ groups_of (cards_of ts)
  pub by_level : levels ≡ task_levels (deadlines_of ts)
