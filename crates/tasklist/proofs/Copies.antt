-- What the tests and the copies of `taken` come to.
use mathlib.Core.Path.{◌≡◌, sym, ◌∙◌, ap}
use Prim.Native.Nat.{ℕ, zero, suc, ◌-◌, ◌≤◌, ◌<◌}
use native.Mathlib.Nat.{suc-sub-suc, zero-sub, sub-zero}
use mathlib.Core.List.{List, ◌++◌}
use lib.ListN.{length, take, drop, replicate}
use lib.Seq.{length-take-le}
use Rattle.taskset.specs.declared.Task.{Task}
use Rattle.taskset.specs.declared.TaskSet.{TaskSet}
use Rattle.taskset.specs.Tasks.{most_tasks, no_task, packed}
use Rattle.tasklist.specs.Lists.{first_of}
use Rattle.tasklist.proofs.ListLaws.{first-all, first-many, first_short}

abbrev pub no_tasks : List Task
no_tasks = replicate most_tasks no_task

drop-replicate : (i n : ℕ) → drop i (replicate n no_task) ≡ replicate (n - i) no_task
drop-replicate zero n = ap (λ (k : ℕ). replicate k no_task) (sym (sub-zero n))
drop-replicate (suc i) zero = ap (λ (k : ℕ). replicate k no_task) (sym (zero-sub (suc i)))
drop-replicate (suc i) (suc n) = drop-replicate i n ∙ ap (λ (k : ℕ). replicate k no_task) (sym (suc-sub-suc n i))

abbrev pub made : ℕ → List Task → TaskSet
made c zs = record { tasks = zs; count = c }

module _ (n : ℕ) (ys : List Task) where
  pub takes : n ≤ most_tasks → n ≤ length ys → made n (take n ys ++ drop n no_tasks) ≡ packed (first_of n ys)
  unfolding packed
  takes h k =
      ap (λ (zs : List Task). made n (take n ys ++ zs)) (drop-replicate n most_tasks)
      ∙ ap (λ (m : ℕ). made m (take n ys ++ replicate (most_tasks - m) no_task)) (sym (length-take-le n ys k))
      ∙ ap packed (sym (first-all n ys h k))

  pub too_many : most_tasks < n → made 0 no_tasks ≡ packed (first_of n ys)
  unfolding packed
  too_many h = ap packed (sym (first-many n ys h))

  pub too_short : length ys < n → made 0 no_tasks ≡ packed (first_of n ys)
  unfolding packed
  too_short h = ap packed (sym (first_short n ys h))
