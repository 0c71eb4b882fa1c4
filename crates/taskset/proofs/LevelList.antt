-- The list of levels, task by task, and where the loop that fills it stands.
use mathlib.Core.Path.{◌≡◌, refl, sym, ap, ◌∙◌}
use mathlib.Core.List.{List, [], ◌∷◌, ◌++◌}
use Prim.Native.Nat.{ℕ, zero, suc, ◌-◌, ◌<◌}
use native.Mathlib.Omega.{arith}
use lib.ListN.{length, length-map, get_or, replicate, get_or-map}
use Rattle.objset.proofs.Laws.{none-zero}
use Rattle.taskset.specs.declared.Task.{Task}
use Rattle.taskset.specs.declared.Level.{Level}
use Rattle.taskset.specs.Tasks.{most_tasks, no_task, deadlines_of, cards_of}
use Rattle.taskset.specs.Groups.{groups_of}
use Rattle.taskset.specs.Levels.{task_level, task_levels, highest, transaction_levels, side_by_side, levels_of, no_level, levelled}
use Rattle.taskset.specs.Counted.{Columns}
use Rattle.taskset.proofs.Columns.{listed, listed-whole, map_at}
use Rattle.taskset.proofs.GroupLaws.{groups-length}
use Rattle.taskset.proofs.CeilingLaws.{level-at}

-- ---- the levels of the task at a place

side-at : (ts : List Task) (ls ms : List ℕ) (i : ℕ) → i < length ts → length ls ≡ length ts → length ms ≡ length ts
    → get_or (side_by_side ts ls ms) i no_level ≡ record { number = (get_or ts i no_task).number; task = get_or ls i 0; transaction = get_or ms i 0 }
unfolding side_by_side
side-at [] ls ms i h p q = absurd (omega arith)
side-at (t ∷ ts) [] ms i h p q = absurd (omega arith)
side-at (t ∷ ts) (l ∷ ls) [] i h p q = absurd (omega arith)
side-at (t ∷ ts) (l ∷ ls) (m ∷ ms) zero h p q = refl
side-at (t ∷ ts) (l ∷ ls) (m ∷ ms) (suc i) h p q = side-at ts ls ms i (omega arith) (omega arith) (omega arith)

side-long : (ts : List Task) (ls ms : List ℕ) → length ls ≡ length ts → length ms ≡ length ts → length (side_by_side ts ls ms) ≡ length ts
unfolding side_by_side
side-long [] ls ms p q = refl
side-long (t ∷ ts) [] ms p q = absurd (omega arith)
side-long (t ∷ ts) (l ∷ ls) [] p q = absurd (omega arith)
side-long (t ∷ ts) (l ∷ ls) (m ∷ ms) p q = ap suc (side-long ts ls ms (omega arith) (omega arith))

module _ (ts : List Task) where
  abbrev groups : List ℕ
  groups = groups_of (cards_of ts)

  abbrev levels : List ℕ
  levels = task_levels (deadlines_of ts)

  pub levels-fit : length levels ≡ length ts
  unfolding task_levels
  levels-fit = length-map (deadlines_of ts) (task_level (deadlines_of ts)) ∙ length-map ts _

  transactions-fit : length (transaction_levels groups levels) ≡ length ts
  unfolding transaction_levels
  transactions-fit = length-map groups _ ∙ groups-length (cards_of ts) ∙ length-map ts _

  pub levels_long : length (levels_of ts) ≡ length ts
  unfolding levels_of
  levels_long = side-long ts levels (transaction_levels groups levels) levels-fit transactions-fit

  pub levels-at : (i : ℕ) → i < length ts → get_or (levels_of ts) i no_level
      ≡ record { number = (get_or ts i no_task).number; task = get_or levels i 0; transaction = get_or (transaction_levels groups levels) i 0 }
  unfolding levels_of
  levels-at i l = side-at ts levels (transaction_levels groups levels) i l levels-fit transactions-fit

  pub task-level-at : (i : ℕ) → i < length ts → get_or levels i 0 ≡ task_level (deadlines_of ts) (get_or ts i no_task).deadline
  unfolding task_levels
  task-level-at i l =
      map_at (task_level (deadlines_of ts)) (deadlines_of ts) i 0 0 (omega (arith, l, length-map ts (λ (t : Task). t.deadline)))
      ∙ ap (task_level (deadlines_of ts)) (get_or-map (λ (t : Task). t.deadline) ts i no_task)

-- the levels that are made of a task, a group and a level
pub level-made : (ts : List Task) (gs ls : List ℕ) → Columns ts gs ls → (i : ℕ) → i < length ts → (m : ℕ) → m ≡ highest (get_or gs i 0) gs ls
    → record { number = (get_or ts i no_task).number; task = get_or ls i 0; transaction = m } ≡ get_or (levels_of ts) i no_level
level-made ts gs ls columns i l m e =
    let level : m ≡ get_or (transaction_levels gs ls) i 0 = e ∙ ap (λ (x : ℕ). highest (get_or gs i x) gs ls) (sym none-zero) ∙ sym (level-at gs ls i) in
    rw (level, columns.by_group, columns.by_level) (sym (levels-at ts i l))

-- a list that is filled whole
pub filled-whole : (ts : List Task) → listed (replicate most_tasks no_level) (length ts) (levels_of ts) ≡ (levelled (levels_of ts)).list
unfolding levelled
filled-whole ts =
    listed-whole no_level (levels_of ts) (length ts) (levels_long ts)
    ∙ ap (λ (k : ℕ). levels_of ts ++ replicate (most_tasks - k) no_level) (sym (levels_long ts))

pub levelled-made : (ts : List Task) (list : List Level) → list ≡ (levelled (levels_of ts)).list → record { list = list; count = length ts } ≡ levelled (levels_of ts)
unfolding levelled
levelled-made ts list e = rw (e, levels_long ts) refl
