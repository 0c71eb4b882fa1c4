-- The law of `least` of one job, and the laws of `without`.
use Rattle.std.specs.Prelude.{◌≡◌, ℕ, suc, ◌+◌, ◌-◌, ◌<◌, Bool, true, false, cond, ltb, List, [], ◌∷◌, ◌++◌, length, get_or, take, drop, set}
use mathlib.Core.Path.{refl, ap, ap₂, ◌∙◌}
use native.Mathlib.Numerals.{add-one}
use native.Mathlib.Omega.{arith}
use lib.ListN.{length-append, length-drop}
use lib.Seq.{set_split, length-take-le, take_all}
use Rattle.std.proofs.lemmas.List.{take-append-le, drop_all}
use Rattle.std.specs.List.{copy_within}
use Rattle.one_core.specs.declared.Job.{Job}
use Rattle.one_core.specs.Parts.{no_job, least}
use Rattle.one_core.specs.Life.{without}

pub least-one : (jobs : List Job) → ◌≡◌ {A = ℕ} (least jobs 1) 0
unfolding least
least-one jobs = go (ltb (get_or jobs 0 no_job).deadline (get_or jobs 0 no_job).deadline)
  where
    go : (b : Bool) → ◌≡◌ {A = ℕ} (cond b 0 0) 0
    go true = refl
    go false = refl

-- ---- a job leaves the list

-- those behind place p are copied to p, and the last place becomes unused
pub moved-up : (jobs : List Job) (p : ℕ) (copied : List Job) (j : Job) → length jobs ≡ 8 → p < 8 → copied ≡ copy_within jobs (p + 1) (length jobs) p
    → j ≡ no_job → set copied 7 j ≡ without jobs p
moved-up jobs p copied j long h e n =
    set_split copied 7 j (omega (arith, copied_long))
    ∙ ap₂ (λ (xs ys : List Job). xs ++ j ∷ ys) front (drop_all 8 copied (omega (arith, copied_long)))
    ∙ ap (λ (x : Job). rest ++ x ∷ []) n
  where
    rest : List Job
    rest = take p jobs ++ drop (suc p) jobs

    last : p + (length jobs - (p + 1)) ≡ 7
    last = omega arith

    rest_long : length rest ≡ 7
    rest_long = simp (length-append, length-drop) (omega (arith, length-take-le p jobs (omega arith)))

    body : copied ≡ rest ++ drop 7 jobs
    body =
        e
        ∙ ap₂ (λ (xs : List Job) (k : ℕ). take p jobs ++ xs ++ drop k jobs)
        (take_all (length jobs - (p + 1)) (drop (p + 1) jobs) (omega (arith, length-drop (p + 1) jobs))) last
        ∙ ap (λ (k : ℕ). take p jobs ++ drop k jobs ++ drop 7 jobs) (add-one p)

    copied_long : length copied ≡ 8
    copied_long = ap length body ∙ length-append rest (drop 7 jobs) ∙ omega (arith, rest_long, length-drop 7 jobs)

    front : take 7 copied ≡ rest
    front = ap (take 7) body ∙ take-append-le 7 rest (drop 7 jobs) (omega (arith, rest_long)) ∙ take_all 7 rest (omega (arith, rest_long))
