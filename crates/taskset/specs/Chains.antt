-- Groups as paper 2 says them: 'Two tasks that use a common card are in one group, and so on through chains; no others are' (source 002, definition
-- 24: any two are connected by a path of the contention graph). Tasks are known by their places; `cs` has the cards of each.
use Rattle.std.specs.Prelude.{◌≡◌, true, false, List, ℕ, ◌<◌, length, get_or, Result, IfOk}
use Rattle.objset.specs.Objset.{has, none}
use Rattle.taskset.specs.declared.Task.{Task}
use Rattle.taskset.specs.declared.Groups.{Groups}
use Rattle.taskset.specs.declared.NotTasks.{NotTasks}
use Rattle.taskset.specs.Tasks.{cards_of}
use Rattle.taskset.specs.Groups.{in_one_group}

-- the task at a place uses a card
abbrev pub Uses : List ℕ → ℕ → ℕ → Type 0
Uses cs i d = has (get_or cs i none) d ≡ true

-- the task at a place is without cards
abbrev pub UsesNone : List ℕ → ℕ → Type 0
UsesNone cs i = (d : ℕ) → has (get_or cs i none) d ≡ false

-- two tasks use a common card
abbrev pub Shares : List ℕ → ℕ → ℕ → Type 0
Shares cs i j = (d : ℕ) × Uses cs i d × Uses cs j d

-- a chain from one task to another: each two neighbours use a common card
pub data Chain (cs : List ℕ) : ℕ → ℕ → Type 0 where
  alone : {i : ℕ} → Chain cs i i
  onward : {i j k : ℕ} → Shares cs i j → Chain cs j k → Chain cs i k

-- ---- of what is handed back

-- the sets gs, one for each task, are the groups of the tasks
pub record AreGroups (ts : List Task) (gs : List ℕ) : Type 0 where
  -- two tasks that use a common card are in one group, and so on through chains
  pub together : (i j : ℕ) → i < length ts → j < length ts → Chain (cards_of ts) i j → in_one_group gs i j ≡ true
  -- no others are
  pub no_others : (i j : ℕ) → i < length ts → j < length ts → in_one_group gs i j ≡ true → Chain (cards_of ts) i j
  -- the set of a task has each card that a task of its group uses
  pub whole : (i j d : ℕ) → i < length ts → Chain (cards_of ts) i j → Uses (cards_of ts) j d → has (get_or gs i none) d ≡ true
  -- and no other card
  pub used : (i d : ℕ) → i < length ts → has (get_or gs i none) d ≡ true
      → (j : ℕ) × (j < length ts) × Chain (cards_of ts) i j × Uses (cards_of ts) j d

-- an answer that is no refusal has the groups of the tasks, one for each
abbrev pub RightGroups : List Task → Result Groups NotTasks → Type 0
RightGroups ts r = IfOk r (λ (g : Groups). (g.count ≡ length ts) × AreGroups ts g.cards)
