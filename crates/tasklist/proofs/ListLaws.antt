-- What callers know of tasks in a list that they lend: which tasks have room, what `fill` leaves and answers, and that what was filled is taken back.
use mathlib.Core.Path.{◌≡◌, refl, sym, ◌∙◌, ap}
use Prim.Native.Nat.{ℕ, ◌≤◌, ◌<◌}
use mathlib.Core.Logic.{dite}
use native.Mathlib.Decide.{dec_le}
use native.Mathlib.Omega.{arith}
use mathlib.Core.Bool.{Bool, true, false, cond, ◌&&◌}
use mathlib.Core.List.{List, [], ◌∷◌, ◌++◌}
use lib.Dec.{leb, ltb, lit≤}
use lib.ListN.{length, take, drop, length-append}
use lib.Seq.{take-append_seam, length-take-le}
use borrow.Author.Tests.{lt-ltb, le-ltb, le-leb, lt-leb, ltb-true, leb-true}
use Rattle.objset.proofs.Laws.{both_left, both_right}
use Rattle.taskset.specs.declared.Task.{Task}
use Rattle.taskset.specs.declared.NotTasks.{NotTasks}
use Rattle.std.specs.Prelude.{Result, Ok, Err}
use Rattle.std.specs.Result.{result_unwrap_or}
use Rattle.taskset.specs.Tasks.{most_tasks, cores_exist, all_differ, numbers_of, is_task_set, packed, standing, not_tasks}
use Rattle.taskset.proofs.TaskLaws.{standing-packed}
use Rattle.tasklist.specs.Lists.{have_room, fill_given, filled_list, first_of}

abbrev pub refused : Result ℕ NotTasks
refused = Err not_tasks

-- how many tasks were counted; 0 where they were refused
abbrev pub counted : List Task → List Task → ℕ
counted ts ys = result_unwrap_or (fill_given ts ys) 0

-- ---- which tasks have room

no_second : (a b : Bool) → b ≡ false → (a && b) ≡ false
no_second true b h = h
no_second false b h = refl

module _ (ts ys : List Task) where
  pub room : 0 < length ts → length ts ≤ length ys → have_room ts ys ≡ true
  unfolding have_room
  room h k = rw (lt-ltb 0 (length ts) h) (le-leb (length ts) (length ys) k)

  pub none-refused : length ts ≤ 0 → have_room ts ys ≡ false
  unfolding have_room
  none-refused h = ap (λ (t : Bool). t && leb (length ts) (length ys)) (le-ltb 0 (length ts) h)

  pub short-refused : length ys < length ts → have_room ts ys ≡ false
  unfolding have_room
  short-refused h = no_second (ltb 0 (length ts)) (leb (length ts) (length ys)) (lt-leb (length ts) (length ys) h)

  -- ---- what is answered, and what the list then holds

  pub fills : have_room ts ys ≡ true → fill_given ts ys ≡ Ok (length ts)
  unfolding fill_given
  fills h = rw h refl

  pub fills-list : have_room ts ys ≡ true → filled_list ts ys ≡ ts ++ drop (length ts) ys
  unfolding filled_list
  fills-list h = rw h refl

  pub refuses : have_room ts ys ≡ false → fill_given ts ys ≡ refused
  unfolding fill_given
  refuses h = rw h refl

  pub keeps-list : have_room ts ys ≡ false → filled_list ts ys ≡ ys
  unfolding filled_list
  keeps-list h = rw h refl

  pub few-counted : length ts ≤ most_tasks → counted ts ys ≤ most_tasks
  few-counted h = go (have_room ts ys) refl
    where
      go : (t : Bool) → have_room ts ys ≡ t → counted ts ys ≤ most_tasks
      go true e = rw (fills e) h
      go false e = rw (refuses e) (lit≤ tt)

-- ---- the first n of a list

module _ (n : ℕ) (ys : List Task) where
  pub first-all : n ≤ most_tasks → n ≤ length ys → first_of n ys ≡ take n ys
  unfolding first_of
  first-all h k = rw (le-leb n most_tasks h, le-leb n (length ys) k) refl

  pub first-many : most_tasks < n → first_of n ys ≡ []
  unfolding first_of
  first-many h = ap (λ (t : Bool). cond (t && leb n (length ys)) (take n ys) []) (lt-leb n most_tasks h)

  pub first_short : length ys < n → first_of n ys ≡ []
  unfolding first_of
  first_short h = ap (λ (t : Bool). cond t (take n ys) []) (no_second (leb n most_tasks) (leb n (length ys)) (lt-leb n (length ys) h))

-- ---- task sets

-- the tasks that were taken from a list stand in the task set
pub standing-first : (n : ℕ) (ys : List Task) → standing (packed (first_of n ys)) ≡ first_of n ys
standing-first n ys = standing-packed (first_of n ys) few
  where
    few : length (first_of n ys) ≤ most_tasks
    few = dite (dec_le n most_tasks) (λ h. dite (dec_le n (length ys))
        (λ k. rw (first-all n ys h k, length-take-le n ys k) h)
        (λ k. rw (first_short n ys (omega (arith, k))) (lit≤ tt)))
        (λ h. rw (first-many n ys (omega (arith, h))) (lit≤ tt))

-- what was filled is taken back, by the count that was answered
first_back : (ts rest : List Task) → length ts ≤ most_tasks → first_of (length ts) (ts ++ rest) ≡ ts
first_back ts rest few = first-all (length ts) (ts ++ rest) few longer ∙ take-append_seam ts rest
  where
    longer : length ts ≤ length (ts ++ rest)
    longer = rw (length-append ts rest) (omega arith)

pub filled-back : (ts ys : List Task) → length ts ≤ most_tasks → length ts ≤ length ys
    → first_of (counted ts ys) (filled_list ts ys) ≡ ts
filled-back [] ys few enough =
    rw (refuses [] ys (none-refused [] ys few'), keeps-list [] ys (none-refused [] ys few')) (first-all 0 ys few enough)
  where
    few' : 0 ≤ 0
    few' = lit≤ tt
filled-back (t ∷ ts) ys few enough =
    rw (fills (t ∷ ts) ys has_room, fills-list (t ∷ ts) ys has_room) (first_back (t ∷ ts) (drop (length (t ∷ ts)) ys) few)
  where
    has_room : have_room (t ∷ ts) ys ≡ true
    has_room = room (t ∷ ts) ys (omega arith) enough

-- ---- a sheet and a list

-- the list is shorter than the sheet
module _ (ts ys : List Task) (h : length ys < length ts) where
  pub sheet-refused : fill_given ts ys ≡ refused
  sheet-refused = refuses ts ys (short-refused ts ys h)

  pub sheet-keeps : filled_list ts ys ≡ ys
  sheet-keeps = keeps-list ts ys (short-refused ts ys h)

-- the tasks are those of some sheet, and the list has a place for each
module _ (ts ys : List Task) (h : is_task_set ts ≡ true) (enough : length ts ≤ length ys) where
  few : (ltb 0 (length ts) && leb (length ts) most_tasks) ≡ true
  unfolding is_task_set
  few = both_left (ltb 0 (length ts) && leb (length ts) most_tasks) (cores_exist ts && all_differ (numbers_of ts)) h

  has_room : have_room ts ys ≡ true
  has_room = room ts ys (ltb-true 0 (length ts) (both_left (ltb 0 (length ts)) (leb (length ts) most_tasks) few)) enough

  pub sheet-answer : fill_given ts ys ≡ Ok (length ts)
  sheet-answer = fills ts ys has_room

  pub sheet-list : filled_list ts ys ≡ ts ++ drop (length ts) ys
  sheet-list = fills-list ts ys has_room

  pub sheet-back : first_of (counted ts ys) (filled_list ts ys) ≡ ts
  sheet-back = filled-back ts ys (leb-true (length ts) most_tasks (both_right (ltb 0 (length ts)) (leb (length ts) most_tasks) few)) enough

-- there are no tasks, as of bytes that are no sheet
module _ (ys : List Task) where
  pub empty-answer : fill_given [] ys ≡ refused
  empty-answer = refuses [] ys (none-refused [] ys (lit≤ tt))

  pub empty-keeps : filled_list [] ys ≡ ys
  empty-keeps = keeps-list [] ys (none-refused [] ys (lit≤ tt))

-- tasks that a list has a place for are refused only where there are none
pub none-filled : (ts ys : List Task) → length ts ≤ length ys → {e : NotTasks} → fill_given ts ys ≡ Err e → ts ≡ []
none-filled [] ys enough h = refl
none-filled (t ∷ ts) ys enough h =
    absurd (no_answer (sym (fills (t ∷ ts) ys (room (t ∷ ts) ys (omega arith) enough)) ∙ h))
  where
    no_answer : {n : ℕ} {e : NotTasks} → Ok n ≡ Err e → ⊥
    no_answer h = cc
