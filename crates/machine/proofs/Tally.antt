-- Laws of `tally`, how many of the numbers below n pass a test.
use Rattle.std.proofs.Common.{◌≡◌, ℕ, zero, suc, ◌+◌, ◌<◌, ◌≤◌, Bool, true, false, cond, ◌||◌, eqb, leb, sym, refl, ap, ◌∙◌, ap₂, true≢false, add-one, arith, eq-eqb, ne_eqb, eqb-true, leb-false, leb-true}
use borrow.Author.Tests.{eqb-false}
use Rattle.machine.specs.Record.{tally}

pub tally-same : (n : ℕ) (f g : ℕ → Bool) → ((i : ℕ) → i < n → f i ≡ g i) → tally n f ≡ tally n g
unfolding tally
tally-same zero f g h = refl
tally-same (suc n) f g h = ap₂ (λ (b : Bool) (r : ℕ). cond b 1 0 + r) (h n (omega arith)) (tally-same n f g (λ i l. h i (omega arith)))

pub tally-bounded : (n : ℕ) (f : ℕ → Bool) → tally n f ≤ n
unfolding tally
tally-bounded zero f = omega arith
tally-bounded (suc n) f = go (f n) (tally-bounded n f)
  where
    go : (b : Bool) → tally n f ≤ n → cond b 1 0 + tally n f ≤ suc n
    go true h = omega arith
    go false h = omega arith

-- no number from j on passes
pub tally-within : (n j : ℕ) (f : ℕ → Bool) → ((i : ℕ) → i < n → j ≤ i → f i ≡ false) → tally n f ≤ j
unfolding tally
tally-within zero j f h = omega arith
tally-within (suc n) j f h = go (f n) refl (leb j n) refl (tally-within n j f (λ i l. h i (omega arith)))
  where
    go : (b : Bool) → f n ≡ b → (q : Bool) → leb j n ≡ q → tally n f ≤ j → cond b 1 0 + tally n f ≤ j
    go true e true t less = absurd (true≢false (sym e ∙ h n (omega arith) (leb-true j n t)))
    go true e false t less = omega (arith, leb-false j n t, tally-bounded n f)
    go false e q t less = omega arith

-- a test that lets more pass
pub tally-more : (n : ℕ) (f g : ℕ → Bool) → ((i : ℕ) → i < n → f i ≡ true → g i ≡ true) → tally n f ≤ tally n g
unfolding tally
tally-more zero f g h = omega arith
tally-more (suc n) f g h = go (f n) refl (g n) refl (tally-more n f g (λ i l. h i (omega arith)))
  where
    go : (a : Bool) → f n ≡ a → (b : Bool) → g n ≡ b → tally n f ≤ tally n g → cond a 1 0 + tally n f ≤ cond b 1 0 + tally n g
    go true p true q more = omega arith
    go true p false q more = absurd (true≢false (sym (h n (omega arith) p) ∙ q))
    go false p true q more = omega arith
    go false p false q more = omega arith

-- the tests agree but at c, which passes only the second
pub tally-one-more : (n : ℕ) (f g : ℕ → Bool) (c : ℕ) → c < n → f c ≡ false → g c ≡ true
    → ((i : ℕ) → i < n → (i ≡ c → ⊥) → f i ≡ g i) → tally n g ≡ suc (tally n f)
unfolding tally
tally-one-more zero f g c l p q h = absurd (omega arith)
tally-one-more (suc n) f g c l p q h = go (eqb n c) refl (λ s. tally-one-more n f g c s p q (λ i m. h i (omega arith)))
  where
    go : (b : Bool) → eqb n c ≡ b → (c < n → tally n g ≡ suc (tally n f)) → cond (g n) 1 0 + tally n g ≡ suc (cond (f n) 1 0 + tally n f)
    go true e more =
        let s : n ≡ c = eqb-true n c e in
        rw (ap f s ∙ p, ap g s ∙ q) (omega (arith, tally-same n f g (λ i m. h i (omega arith) (λ r. omega arith))))
    go false e more =
        let d : n ≡ c → ⊥ = eqb-false n c e in
        rw (h n (omega arith) d) (omega (arith, more (omega (arith, d))))

-- one number that does not pass is let pass besides
with_one : (ℕ → Bool) → ℕ → ℕ → Bool
with_one f c i = f i || eqb i c

or-true : (a : Bool) → (a || true) ≡ true
or-true true = refl
or-true false = refl

or-false : (a : Bool) → (a || false) ≡ a
or-false true = refl
or-false false = refl

tally-with-one : (n : ℕ) (f : ℕ → Bool) (c : ℕ) → c < n → f c ≡ false → tally n (with_one f c) ≡ suc (tally n f)
unfolding with_one
tally-with-one n f c l p =
    tally-one-more n f (with_one f c) c l p (rw (eq-eqb c c refl) (or-true (f c))) (λ i m d. rw (ne_eqb i c d) (sym (or-false (f i))))

-- a test that lets more pass, and one of them c
pub tally-less : (n : ℕ) (f g : ℕ → Bool) (c : ℕ) → c < n → f c ≡ false → g c ≡ true
    → ((i : ℕ) → i < n → f i ≡ true → g i ≡ true) → tally n f < tally n g
unfolding with_one
tally-less n f g c l p q h =
    omega (arith, tally-with-one n f c l p, tally-more n (with_one f c) g (λ i m. go i (f i) refl (h i m) (eqb i c) refl))
  where
    go : (i : ℕ) (a : Bool) → f i ≡ a → (f i ≡ true → g i ≡ true) → (b : Bool) → eqb i c ≡ b → (a || b) ≡ true → g i ≡ true
    go i true e more b t r = more e
    go i false e more true t r = ap g (eqb-true i c t) ∙ q
    go i false e more false t r = absurd (true≢false (sym r))

-- no number from j on passes, and c below j does not
pub tally-spared : (n j : ℕ) (f : ℕ → Bool) (c : ℕ) → c < n → c < j → f c ≡ false → ((i : ℕ) → i < n → j ≤ i → f i ≡ false)
    → tally n f < j
unfolding with_one
tally-spared n j f c l s p h =
    omega (
      arith,
      tally-with-one n f c l p,
      tally-within n j (with_one f c) (λ i m r. rw (h i m r, ne_eqb i c (λ d. omega arith))),
    )

at_most_one : (a : Bool) → cond a 1 0 ≤ 1
at_most_one true = omega arith
at_most_one false = omega arith

-- a test that lets all pass but one, which counts at most once
pub tally-but-one : (n : ℕ) (f g : ℕ → Bool) (c : ℕ) → ((i : ℕ) → (i ≡ c → ⊥) → f i ≡ true → g i ≡ true) → tally n f ≤ suc (tally n g)
unfolding tally
tally-but-one zero f g c h = omega arith
tally-but-one (suc n) f g c h = go (eqb n c) refl (f n) refl (g n) refl (tally-but-one n f g c h)
  where
    go : (e : Bool) → eqb n c ≡ e → (a : Bool) → f n ≡ a → (b : Bool) → g n ≡ b → tally n f ≤ suc (tally n g)
        → cond a 1 0 + tally n f ≤ suc (cond b 1 0 + tally n g)
    go true e a p b q rest =
        omega (arith, tally-more n f g (λ i l. h i (λ r. omega (arith, eqb-true n c e))), at_most_one a)
    go false e true p true q rest = omega arith
    go false e true p false q rest = absurd (true≢false (sym (h n (eqb-false n c e) p) ∙ q))
    go false e false p b q rest = omega arith

-- one below n that passes is counted
pub tally-some : (n : ℕ) (f : ℕ → Bool) (c : ℕ) → c < n → f c ≡ true → 0 < tally n f
tally-some n f c l e = omega (arith, tally-less n (λ i. false) f c l refl e (λ i m p. absurd (true≢false (sym p))))

-- ---- counts, one by one

pub tally-none : (f : ℕ → Bool) → ◌≡◌ {A = ℕ} 0 (tally 0 f)
unfolding tally
tally-none f = refl

-- one more is counted, or not
pub tally-counts : (n i : ℕ) (f : ℕ → Bool) → n ≡ tally i f → f i ≡ true → n + 1 ≡ tally (i + 1) f
unfolding tally
tally-counts n i f e t = sym (ap (λ (x : ℕ). tally x f) (add-one i) ∙ rw t (omega arith))

pub tally-skips : (n i : ℕ) (f : ℕ → Bool) → n ≡ tally i f → f i ≡ false → n ≡ tally (i + 1) f
unfolding tally
tally-skips n i f e t = sym (ap (λ (x : ℕ). tally x f) (add-one i) ∙ rw t (omega arith))
