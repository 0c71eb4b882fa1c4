-- The running job, and what the scheduler relies on in a core's list of jobs: the place of the first job of least deadline, and
-- the list without one job.
use Rattle.std.specs.Prelude.{◌≡◌, ℕ, zero, suc, ◌+◌, ◌-◌, ◌<◌, ◌≤◌, Bool, true, false, cond, eqb, ltb, List, [], ◌∷◌, ◌++◌, length, get_or, take, drop}
use mathlib.Core.Path.{refl, ap, ◌∙◌}
use native.Mathlib.Omega.{arith}
use lib.ListN.{length-append, length-drop, get_or-append}
use lib.Seq.{length-take-le, get_or-append-add, get_or-drop, get_or_at}
use borrow.Author.Tests.{ltb-true, ltb-false, eqb-true, eqb-false}
use Rattle.one_core.specs.declared.Core.{Core}
use Rattle.one_core.specs.declared.Job.{Job}
use Rattle.one_core.specs.Parts.{no_job, least, running}
use Rattle.one_core.specs.Life.{without}

-- while a transaction is in progress, the running job stays: it is the transaction's own
pub running-stays : (k : Core) → k.active ≡ true → running k ≡ k.owner
unfolding running
running-stays k on = ap (λ (b : Bool). cond b k.owner (least k.jobs k.count)) on

-- while none is, it is the job of least deadline
pub running-least : (k : Core) → k.active ≡ false → running k ≡ least k.jobs k.count
unfolding running
running-least k off = ap (λ (b : Bool). cond b k.owner (least k.jobs k.count)) off

-- the deadline of the job at place p
abbrev due : List Job → ℕ → ℕ
due jobs p = (get_or jobs p no_job).deadline

-- the least of the first n is one of them
pub least-listed : (jobs : List Job) (n : ℕ) → 0 < n → least jobs n < n
unfolding least
least-listed jobs zero h = absurd (omega arith)
least-listed jobs (suc zero) h = go (ltb (due jobs 0) (due jobs 0))
  where
    go : (b : Bool) → cond b 0 0 < 1
    go true = omega arith
    go false = omega arith
least-listed jobs (suc (suc n)) h = go (ltb (due jobs (suc n)) (due jobs (least jobs (suc n)))) (least-listed jobs (suc n) (omega arith))
  where
    go : (b : Bool) → least jobs (suc n) < suc n → cond b (suc n) (least jobs (suc n)) < suc (suc n)
    go true l = omega arith
    go false l = omega arith

-- none of the first n is due before it
pub least-due : (jobs : List Job) (n p : ℕ) → p < n → due jobs (least jobs n) ≤ due jobs p
unfolding least
least-due jobs zero p h = absurd (omega arith)
least-due jobs (suc n) p h = go (ltb (due jobs n) (due jobs (least jobs n))) refl (eqb p n) refl (least-due jobs n p)
  where
    go : (b : Bool) → ltb (due jobs n) (due jobs (least jobs n)) ≡ b → (q : Bool) → eqb p n ≡ q → (p < n → due jobs (least jobs n) ≤ due jobs p)
        → due jobs (cond b n (least jobs n)) ≤ due jobs p
    go true e true t more = omega (arith, ap (due jobs) (eqb-true p n t))
    go true e false t more = omega (arith, ltb-true (due jobs n) (due jobs (least jobs n)) e, more (omega (arith, eqb-false p n t)))
    go false e true t more = omega (arith, ap (due jobs) (eqb-true p n t), ltb-false (due jobs n) (due jobs (least jobs n)) e)
    go false e false t more = more (omega (arith, eqb-false p n t))

-- those listed before it are due after it
pub least_first : (jobs : List Job) (n p : ℕ) → p < least jobs n → due jobs (least jobs n) < due jobs p
unfolding least
least_first jobs zero p h = absurd (omega arith)
least_first jobs (suc n) p h = go (ltb (due jobs n) (due jobs (least jobs n))) refl (least_first jobs n p) h
  where
    go : (b : Bool) → ltb (due jobs n) (due jobs (least jobs n)) ≡ b → (p < least jobs n → due jobs (least jobs n) < due jobs p)
        → p < cond b n (least jobs n) → due jobs (cond b n (least jobs n)) < due jobs p
    go true e more h = omega (arith, ltb-true (due jobs n) (due jobs (least jobs n)) e, least-due jobs n p h)
    go false e more h = more h

-- the list without one job is as long, and its last place is unused
pub without-long : (jobs : List Job) (p : ℕ) → p < length jobs → length (without jobs p) ≡ length jobs
without-long jobs p h = simp (length-append, length-drop) (omega (arith, length-take-le p jobs (omega arith)))

pub without-unused : (jobs : List Job) (p n : ℕ) → p < n → ((q : ℕ) → q < length jobs → n ≤ q → get_or jobs q no_job ≡ no_job)
    → (q : ℕ) → q < length jobs → n - 1 ≤ q → get_or (without jobs p) q no_job ≡ no_job
without-unused jobs p n h unused q l u = go (ltb q (length front)) refl
  where
    front : List Job
    front = take p jobs ++ drop (suc p) jobs

    before : length (take p jobs) ≡ p
    before = length-take-le p jobs (omega arith)

    front_long : length front ≡ length jobs - 1
    front_long = simp (length-append, length-drop) (omega (arith, before))

    split : q ≡ length (take p jobs) + (q - p)
    split = omega (arith, before)

    go : (b : Bool) → ltb q (length front) ≡ b → get_or (front ++ (no_job ∷ [])) q no_job ≡ no_job
    go true t =
        get_or-append front (no_job ∷ []) no_job q (ltb-true q (length front) t)
        ∙ ap (λ (x : ℕ). get_or front x no_job) split
        ∙ get_or-append-add (take p jobs) (drop (suc p) jobs) (q - p) no_job
        ∙ get_or-drop (suc p) jobs (q - p) no_job
        ∙ unused (suc p + (q - p)) (omega (arith, ltb-true q (length front) t, front_long)) (omega arith)
    go false t = get_or_at front no_job [] no_job q (omega (arith, ltb-false q (length front) t, front_long))
