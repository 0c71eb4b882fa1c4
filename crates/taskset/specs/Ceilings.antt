-- Levels as paper 2 says them: 'A task's level is the count of different deadlines at least its own; a transaction's level is the highest task level in
-- its group, 0 without cards' (source 002, definitions 33 to 35). Tasks are known by their places.
use Rattle.std.specs.Prelude.{◌≡◌, true, ◌&&◌, List, ℕ, ◌≤◌, ◌<◌, leb, length, get_or, Result, IfOk}
use Rattle.taskset.specs.declared.Task.{Task}
use Rattle.taskset.specs.declared.Level.{Level}
use Rattle.taskset.specs.declared.Levels.{Levels}
use Rattle.taskset.specs.declared.NotTasks.{NotTasks}
use Rattle.taskset.specs.Tasks.{no_task, occurs, all_differ, deadlines_of, cards_of}
use Rattle.taskset.specs.Levels.{no_level}
use Rattle.taskset.specs.Chains.{Uses, UsesNone, Chain}

-- n is the count of the different numbers in ns that are at least d: there is a list of n numbers that differ, and they are those
pub record CountAtLeast (d : ℕ) (ns : List ℕ) (n : ℕ) : Type 0 where
  pub list : List ℕ
  pub differ : all_differ list ≡ true
  pub those : (m : ℕ) → occurs m list ≡ (leb d m && occurs m ns)
  pub count : length list ≡ n

-- what is handed back for each place are the levels of the task there
pub record AreLevels (ts : List Task) (level : ℕ → Level) : Type 0 where
  pub number : (i : ℕ) → i < length ts → (level i).number ≡ (get_or ts i no_task).number
  -- a task's level is the count of different deadlines at least its own
  pub counted : (i : ℕ) → i < length ts → CountAtLeast (get_or ts i no_task).deadline (deadlines_of ts) (level i).task
  -- a transaction's level is the task level of a task in its group,
  pub of_one : (i d : ℕ) → i < length ts → Uses (cards_of ts) i d
      → (j : ℕ) × (j < length ts) × Chain (cards_of ts) i j × ((level i).transaction ≡ (level j).task)
  -- the highest there,
  pub highest : (i j d : ℕ) → i < length ts → Uses (cards_of ts) i d → Chain (cards_of ts) i j
      → (level j).task ≤ (level i).transaction
  -- 0 without cards
  pub without_cards : (i : ℕ) → i < length ts → UsesNone (cards_of ts) i → (level i).transaction ≡ 0

-- an answer that is no refusal has the levels of the tasks, in their order
abbrev pub RightLevels : List Task → Result Levels NotTasks → Type 0
RightLevels ts r = IfOk r (λ (l : Levels). (l.count ≡ length ts) × AreLevels ts (λ i. get_or l.list i no_level))
