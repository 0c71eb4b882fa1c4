-- The search for the job of least deadline by turns over the list's places and jobs.
use Rattle.std.specs.Prelude.{◌≡◌, ℕ, suc, ◌+◌, ◌<◌, ◌≤◌, Bool, true, false, cond, ltb, List, [], ◌∷◌, length, get_or, map, take}
use mathlib.Core.Path.{refl, sym, ap, ap₂, ◌∙◌}
use native.Mathlib.Omega.{arith}
use borrow.Author.Tests.{lt-ltb, le-ltb}
use lib.Seq.{length-take-le}
use Rattle.std.specs.List.{FoldsTo, enumerate_from}
use Rattle.std.proofs.lemmas.List.FromFn.{get_or-enumerate_from, length-enumerate_from}
use Rattle.std.proofs.lemmas.List.{get_or-take, length-map}
use Rattle.one_core.proofs.JobLaws.{least-one}
use Rattle.std.proofs.Common.{Ordering, Less, Equal, Greater}
use Rattle.std.specs.Ordering.{nat_cmp, min_by_ordering, MatchOrdering}
use Rattle.std.proofs.lemmas.Cmp.{ranked}
use Rattle.one_core.specs.declared.Job.{Job}
use Rattle.one_core.specs.Parts.{no_job, least}

abbrev pub due : List Job → ℕ → ℕ
due jobs p = (get_or jobs p no_job).deadline

module _ {A F : Type 0} (v : A → ℕ × Job) (R : (F × ℕ) × A → A → (F × ℕ) × A → Type 0)
    (turn : (p : (F × ℕ) × A) (x : A) (q : (F × ℕ) × A) → R p x q
    → (q.0.1 ≡ cond (ltb (v x).1.deadline p.0.1) (v x).1.deadline p.0.1) × ((v q.1).0 ≡ cond (ltb (v x).1.deadline p.0.1) (v x).0 (v p.1).0))
    (jobs : List Job) where
  abbrev pub Listed : ℕ → List A → Type 0
  Listed i xs = (j : ℕ) → j < length xs → get_or (map v xs) j (0, no_job) ≡ (i + j, get_or jobs (i + j) no_job)

  pub turns : (xs : List A) (i : ℕ) (p q : (F × ℕ) × A) → Listed i xs → (v p.1).0 ≡ least jobs i → p.0.1 ≡ due jobs (least jobs i) → FoldsTo R p xs q
      → (v q.1).0 ≡ least jobs (i + length xs)
  unfolding least
  turns [] i p q h at key f = ap (λ (s : (F × ℕ) × A). (v s.1).0) (sym f) ∙ at ∙ ap (least jobs) (omega arith)
  turns (x ∷ xs) i p q h at key (s, r, f) =
      turns xs (suc i) s q (λ j l. h (suc j) (omega (arith, l)) ∙ ap (λ (k : ℕ). (k, get_or jobs k no_job)) (omega arith)) place last f
      ∙ ap (least jobs) (omega arith)
    where
      b : Bool
      b = ltb (due jobs i) (due jobs (least jobs i))

      here : v x ≡ (i, get_or jobs i no_job)
      here = h 0 (omega arith) ∙ ap (λ (k : ℕ). (k, get_or jobs k no_job)) (omega arith)

      test : ltb (v x).1.deadline p.0.1 ≡ b
      test = ap₂ ltb (ap (λ (y : ℕ × Job). y.1.deadline) here) key

      place : (v s.1).0 ≡ least jobs (suc i)
      place = (turn p x s r).1 ∙ ap (λ (t : Bool). cond t (v x).0 (v p.1).0) test ∙ ap₂ (cond b) (ap (λ (y : ℕ × Job). y.0) here) at

      index : (t : Bool) (n m : ℕ) → cond t (due jobs n) (due jobs m) ≡ due jobs (cond t n m)
      index true n m = refl
      index false n m = refl

      last : s.0.1 ≡ due jobs (least jobs (suc i))
      last =
          (turn p x s r).0
          ∙ ap (λ (t : Bool). cond t (v x).1.deadline p.0.1) test
          ∙ ap₂ (cond b) (ap (λ (y : ℕ × Job). y.1.deadline) here) key
          ∙ index b i (least jobs i)

  pub whole : (n : ℕ) (x : A) (xs : List A) (f : F) (k : ℕ) (q : (F × ℕ) × A) → n ≤ length jobs → map v (x ∷ xs) ≡ enumerate_from 0 (take n jobs) → k ≡ (v x).1.deadline
      → FoldsTo R ((f, k), x) xs q → (v q.1).0 ≡ least jobs n
  whole n x xs f k q long all key folds =
      turns xs 1 ((f, k), x) q (λ j l. at (suc j) (omega (arith, l)) ∙ ap (λ (i : ℕ). (i, get_or jobs i no_job)) (omega arith)) (ap (λ (y : ℕ × Job). y.0) (at 0 (omega arith)) ∙ sym (least-one jobs))
      (key ∙ ap (λ (y : ℕ × Job). y.1.deadline) (at 0 (omega arith)) ∙ ap (due jobs) (sym (least-one jobs))) folds
      ∙ ap (least jobs) (omega (arith, count))
    where
      count : length xs + 1 ≡ n
      count = omega (arith, length-map (x ∷ xs) v, ap (length {A = ℕ × Job}) all, length-enumerate_from 0 (take n jobs), length-take-le n jobs long)

      at : (j : ℕ) → j < length xs + 1 → get_or (map v (x ∷ xs)) j (0, no_job) ≡ (j, get_or jobs j no_job)
      at j l =
          ap (λ (ys : List (ℕ × Job)). get_or ys j (0, no_job)) all
          ∙ get_or-enumerate_from 0 (take n jobs) j (0, no_job) (omega (arith, count, l, length-take-le n jobs long))
          ∙ ap₂ (λ (i : ℕ) (y : Job). (i, y)) (omega arith) (get_or-take n jobs j no_job (omega (arith, count, l)))

-- one turn of `min_by_key`: the first of equals stays
pub taken-turn : {X : Type 0} (g : X → ℕ) (a k d : ℕ) (o : Ordering) (x y z : X) (e : ℕ) → k ≡ d → nat_cmp a k ≡ o → e ≡ min_by_ordering o a k → z ≡ min_by_ordering o x y
    → (e ≡ cond (ltb d a) d a) × (g z ≡ cond (ltb d a) (g y) (g x))
taken-turn {X} g a k d o x y z e kd c m l = go o (ranked a k o (sym c)) m l
  where
    go : (o : Ordering) → MatchOrdering o (a < k) (a ≡ k) (k < a) → e ≡ min_by_ordering o a k → z ≡ min_by_ordering o x y
        → (e ≡ cond (ltb d a) d a) × (g z ≡ cond (ltb d a) (g y) (g x))
    go Less h m l = rw (le-ltb d a (omega (arith, h, kd))) (m, ap g l)
    go Equal h m l = rw (le-ltb d a (omega (arith, h, kd))) (m, ap g l)
    go Greater h m l = rw (lt-ltb d a (omega (arith, h, kd))) (m ∙ kd, ap g l)
