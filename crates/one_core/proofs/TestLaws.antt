-- Laws of tests that code makes one by one: a test after another, and a test of each of the first n numbers.
use Rattle.std.specs.Prelude.{◌≡◌, ℕ, zero, suc, ◌+◌, ◌<◌, ◌≤◌, Bool, true, false, not, ◌&&◌}
use mathlib.Core.Path.{refl, sym, ap, ap₂, ◌∙◌}
use mathlib.Core.Bool.{true≢false}
use native.Mathlib.Omega.{arith}
use native.Mathlib.Numerals.{add-one}
use borrow.Author.Tests.{not-true, not-false}
use Rattle.objset.specs.Objset.{each}
use Rattle.objset.proofs.Laws.{each-one, both_left, both_right}
use Rattle.one_core.specs.Tidy.{◌⇒◌}

-- ---- tests

-- a test that cannot pass fails
pub fails : (b : Bool) → (b ≡ true → ⊥) → false ≡ b
fails true h = absurd (h refl)
fails false h = refl

-- two tests that pass in the same cases are one
pub same_test : (a b : Bool) → (a ≡ true → b ≡ true) → (b ≡ true → a ≡ true) → a ≡ b
same_test true b h g = sym (h refl)
same_test false b h g = fails b (λ e. true≢false (sym (g e)))

-- a call answered a test, and control went past `if !answer` or into it
pub holds : {r b : Bool} → r ≡ b → not r ≡ false → b ≡ true
holds {r} e t = sym e ∙ not-false r t

pub breaks : {r b : Bool} → r ≡ b → not r ≡ true → b ≡ false
breaks {r} e t = sym e ∙ not-true r t

pub and-true : (a : Bool) → (a && true) ≡ a
and-true true = refl
and-true false = refl

-- ---- rules and conjunctions

pub if-true : (a b : Bool) → (a ⇒ b) ≡ true → a ≡ true → b ≡ true
if-true true b e p = e
if-true false b e p = absurd (true≢false (sym p))

pub true-if : (a b : Bool) → (a ≡ true → b ≡ true) → (a ⇒ b) ≡ true
true-if true b h = h refl
true-if false b h = refl

pub both : (a b : Bool) → (a && b) ≡ true → (a ≡ true) × (b ≡ true)
both a b e = (both_left a b e, both_right a b e)

-- ---- tests of each, one by one

-- one that fails
pub each-fails : (n : ℕ) (f : ℕ → Bool) (i : ℕ) → i < n → f i ≡ false → false ≡ each n f
each-fails n f i l e = fails (each n f) (λ a. true≢false (sym (each-one n f a i l) ∙ e))

pub each_none : (f : ℕ → Bool) → each 0 f ≡ true
unfolding each
each_none f = refl

-- one more that passes
pub each_on : (n : ℕ) (f : ℕ → Bool) → f n ≡ true → each n f ≡ each (n + 1) f
unfolding each
each_on n f here = sym (ap (λ (x : ℕ). each x f) (add-one n) ∙ ap (λ (b : Bool). b && each n f) here)

pub each_more : (n : ℕ) (f : ℕ → Bool) → each n f ≡ true → f n ≡ true → each (n + 1) f ≡ true
each_more n f all here = sym (each_on n f here) ∙ all

-- the end is reached
pub each_all : (n i : ℕ) (f : ℕ → Bool) → n ≤ i → i ≤ n → each i f ≡ true → true ≡ each n f
each_all n i f p q e = let s : i ≡ n = omega arith in sym (ap (λ (x : ℕ). each x f) (sym s) ∙ e)

-- two tests that agree on each of the first n numbers
pub each_same : (n : ℕ) (f g : ℕ → Bool) → ((d : ℕ) → d < n → f d ≡ g d) → each n f ≡ each n g
unfolding each
each_same zero f g h = refl
each_same (suc n) f g h = ap₂ ◌&&◌ (h n (omega arith)) (each_same n f g (λ d l. h d (omega arith)))

and-swap : (a b p q : Bool) → (a && b && (p && q)) ≡ (a && p && (b && q))
and-swap true true p q = refl
and-swap true false true q = refl
and-swap true false false q = refl
and-swap false b p q = refl

-- two tests of each are two tests over all
pub each_both : (n : ℕ) (f g : ℕ → Bool) → each n (λ i. f i && g i) ≡ (each n f && each n g)
unfolding each
each_both zero f g = refl
each_both (suc n) f g = ap (λ (b : Bool). f n && g n && b) (each_both n f g) ∙ and-swap (f n) (g n) (each n f) (each n g)

-- one more test of each, after those that a stands for
pub gather : (n : ℕ) (f g : ℕ → Bool) (a : Bool) → each n f ≡ a → each n (λ i. f i && g i) ≡ (a && each n g)
gather n f g a e = each_both n f g ∙ ap (λ (b : Bool). b && each n g) e
