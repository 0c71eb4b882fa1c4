-- The highest of the levels whose sets pass a test: none of them is higher, and it is one of them. The empty set does not pass.
use mathlib.Core.Path.{◌≡◌, refl, sym, ap, ◌∙◌}
use mathlib.Core.Bool.{Bool, true, false, cond, true≢false}
use mathlib.Core.List.{List, [], ◌∷◌, map}
use Prim.Native.Nat.{ℕ, zero, suc, ◌≤◌, ◌<◌, max}
use native.Mathlib.Omega.{arith}
use lib.Dec.{leb, eqb}
use lib.ListN.{get_or, get_or-map}
use borrow.Author.Tests.{leb-true, leb-false, eqb-true, eqb-false}
use Rattle.objset.specs.Objset.{none, meeting}
use Rattle.objset.proofs.Laws.{none-meeting}
use Rattle.taskset.specs.Levels.{highest_of, highest, transaction_levels}

module _ (test : ℕ → Bool) where
  -- a place whose set passes and whose level is the highest
  pub record Highest (ss ls : List ℕ) : Type 0 where
    pub place : ℕ
    pub passes : test (get_or ss place none) ≡ true
    pub level : get_or ls place 0 ≡ highest_of test ss ls

  highest-some : (ss ls : List ℕ) → 0 < highest_of test ss ls → Highest ss ls
  unfolding highest_of
  highest-some [] ls p = absurd (omega arith)
  highest-some (s ∷ ss) [] p = absurd (omega arith)
  highest-some (s ∷ ss) (l ∷ ls) p = go (test s) refl p (highest-some ss ls)
    where
      level : Bool → ℕ
      level b = cond b (max l (highest_of test ss ls)) (highest_of test ss ls)

      later : Highest ss ls → (b : Bool) → test s ≡ b → highest_of test ss ls ≡ level b → Highest (s ∷ ss) (l ∷ ls)
      later at b m e = record { place = suc at.place; passes = at.passes; level = at.level ∙ e ∙ rw m }

      go : (b : Bool) → test s ≡ b → 0 < level b → (0 < highest_of test ss ls → Highest ss ls) → Highest (s ∷ ss) (l ∷ ls)
      go false m q more = later (more q) false m refl
      go true m q more = higher (leb (highest_of test ss ls) l) refl
        where
          higher : (b : Bool) → leb (highest_of test ss ls) l ≡ b → Highest (s ∷ ss) (l ∷ ls)
          higher true t = record { place = 0; passes = m; level = rw m (omega (arith, leb-true (highest_of test ss ls) l t)) }
          higher false t =
              let below : l < highest_of test ss ls = leb-false (highest_of test ss ls) l t in
              later (more (omega arith)) true m (omega arith)

  -- where none passes, it is 0
  pub highest-none : (ss ls : List ℕ) → ((j : ℕ) → test (get_or ss j none) ≡ false) → highest_of test ss ls ≡ 0
  unfolding highest_of
  highest-none [] ls fails = refl
  highest-none (s ∷ ss) [] fails = refl
  highest-none (s ∷ ss) (l ∷ ls) fails = rw (fails 0) (highest-none ss ls (λ j. fails (suc j)))

  module _ (none-fails : test none ≡ false) where
    -- no level whose set passes is higher
    pub highest-above : (ss ls : List ℕ) (j : ℕ) → test (get_or ss j none) ≡ true → get_or ls j 0 ≤ highest_of test ss ls
    unfolding highest_of
    highest-above [] ls j m = absurd (true≢false (sym m ∙ none-fails))
    highest-above (s ∷ ss) [] j m = omega arith
    highest-above (s ∷ ss) (l ∷ ls) zero m = rw m (omega arith)
    highest-above (s ∷ ss) (l ∷ ls) (suc j) m = go (test s) (highest-above ss ls j m)
      where
        go : (b : Bool) → get_or ls j 0 ≤ highest_of test ss ls → get_or ls j 0 ≤ cond b (max l (highest_of test ss ls)) (highest_of test ss ls)
        go true p = omega arith
        go false p = p

    -- where one passes, it is one of them
    pub highest-one : (ss ls : List ℕ) (i : ℕ) → test (get_or ss i none) ≡ true → Highest ss ls
    highest-one ss ls i m = go (eqb (highest_of test ss ls) 0) refl
      where
        go : (b : Bool) → eqb (highest_of test ss ls) 0 ≡ b → Highest ss ls
        go true t = record { place = i; passes = m; level = omega (arith, highest-above ss ls i m, eqb-true (highest_of test ss ls) 0 t) }
        go false t = highest-some ss ls (omega (arith, eqb-false (highest_of test ss ls) 0 t))

-- the level at a place; past the end there is no group, and it is 0
pub level-at : (gs ls : List ℕ) (i : ℕ) → get_or (transaction_levels gs ls) i 0 ≡ highest (get_or gs i none) gs ls
unfolding transaction_levels
level-at gs ls i =
    let level : ℕ → ℕ = λ g. highest g gs ls in
    ap (get_or (map level gs) i) (sym (highest-none (meeting none) gs ls (λ j. none-meeting (get_or gs j none)))) ∙ get_or-map level gs i none
