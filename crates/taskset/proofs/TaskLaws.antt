-- Which tasks are a task set, test by test; the tasks that stand in one by value.
use mathlib.Core.Path.{◌≡◌, refl, sym, ap}
use mathlib.Core.Bool.{Bool, true, false, ◌&&◌, true≢false}
use mathlib.Core.List.{List, [], ◌∷◌}
use Prim.Native.Nat.{◌-◌, ◌≤◌, ◌<◌}
use lib.Dec.{leb, ltb}
use lib.ListN.{length, take, replicate}
use lib.Seq.{take-append_seam}
use borrow.Author.Tests.{le-leb, lt-leb, lt-ltb, leb-true, ltb-true}
use Rattle.std.specs.List.{list_all}
use Rattle.std.specs.Prelude.{Result, Ok, Err, IsErr}
use Rattle.taskset.specs.declared.NotTasks.{NotTasks}
use Rattle.objset.proofs.Laws.{both_left, both_right}
use Rattle.taskset.specs.declared.Task.{Task}
use Rattle.taskset.specs.declared.TaskSet.{TaskSet}
use Rattle.taskset.specs.Tasks.{most_tasks, last_core, cores_exist, all_differ, numbers_of, is_task_set, no_task, packed, standing, not_tasks}

-- ---- the tasks that stand

module _ (s : TaskSet) where
  pub standing-few : s.count ≤ most_tasks → standing s ≡ take s.count s.tasks
  unfolding standing
  standing-few h = rw (le-leb s.count most_tasks h)

  pub standing-none : most_tasks < s.count → standing s ≡ []
  unfolding standing
  standing-none h = rw (lt-leb s.count most_tasks h)

-- packed into one by value, at most 32 tasks stand as they were
pub standing-packed : (ts : List Task) → length ts ≤ most_tasks → standing (packed ts) ≡ ts
unfolding standing packed
standing-packed ts h = rw (le-leb (length ts) most_tasks h) (take-append_seam ts (replicate (most_tasks - length ts) no_task))

-- ---- all tests

and-false : (t : Bool) → (t && false) ≡ false
and-false true = refl
and-false false = refl

pub none-set : is_task_set [] ≡ false
unfolding is_task_set
none-set = refl

-- the cores, as the iterator's test of each task
pub cores-all : (ts : List Task) → list_all (λ (t : Task). leb t.core last_core) ts ≡ cores_exist ts
unfolding cores_exist
cores-all [] = refl
cores-all (t ∷ ts) = ap (λ (b : Bool). leb t.core last_core && b) (cores-all ts)

module _ (ts : List Task) where
  pub set-sized : (0 < length ts → length ts ≤ most_tasks → ⊥) → is_task_set ts ≡ false
  unfolding is_task_set
  set-sized h = go (ltb 0 (length ts)) refl (leb (length ts) most_tasks) refl
    where
      go : (a : Bool) → ltb 0 (length ts) ≡ a → (b : Bool) → leb (length ts) most_tasks ≡ b
          → ((a && b) && (cores_exist ts && all_differ (numbers_of ts))) ≡ false
      go false p b q = refl
      go true p false q = refl
      go true p true q = absurd (h (ltb-true 0 (length ts) p) (leb-true (length ts) most_tasks q))

  pub cores-not-set : cores_exist ts ≡ false → is_task_set ts ≡ false
  unfolding is_task_set
  cores-not-set e = rw e (and-false (ltb 0 (length ts) && leb (length ts) most_tasks))

  pub set-differ : 0 < length ts → length ts ≤ most_tasks → cores_exist ts ≡ true → is_task_set ts ≡ all_differ (numbers_of ts)
  unfolding is_task_set
  set-differ h l e = rw (lt-ltb 0 (length ts) h, le-leb (length ts) most_tasks l, e)

-- a task set has at most 32 tasks
pub set-most : (ts : List Task) → is_task_set ts ≡ true → length ts ≤ most_tasks
unfolding is_task_set
set-most ts e =
    leb-true (length ts) most_tasks
    (both_right (ltb 0 (length ts)) (leb (length ts) most_tasks)
    (both_left (ltb 0 (length ts) && leb (length ts) most_tasks) (cores_exist ts && all_differ (numbers_of ts)) e))

-- there is one refusal
pub refused : {A : Type 0} (r : Result A NotTasks) → IsErr r → r ≡ Err not_tasks
refused (Ok x) e = absurd (true≢false (sym e))
refused (Err x) e = refl
