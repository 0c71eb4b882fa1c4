-- The bitwise operators on 64-bit words are the definitions by membership.
use mathlib.Core.Path.{◌≡◌, refl, sym, ap, ap₂, ◌∙◌, subst}
use mathlib.Core.Bool.{Bool, true, false, cond, not, ◌&&◌, ◌||◌, true≢false}
use Prim.Native.Nat.{ℕ, ◌-◌, ◌*◌, ◌%◌, ◌^◌, ◌≤◌, ◌<◌}
use native.Mathlib.Omega.{arith}
use native.Mathlib.Nat.{lt_of_lt_of_le, le_of_lt, one-mul, mod-eq_of_lt}
use lib.Bits.{bit_and, bit_or, and_le_l, and_lt, or_lt, or_zero_r}
use lib.Dec.{eqb, ltb}
use lib.Pow.{pow-lt, pow_mono}
use borrow.Author.Tests.{lt-ltb, le-ltb, ltb-true, ltb-false, eq-eqb, ne_eqb}
use Rattle.objset.specs.Objset.{has, collect, mask_of, is_empty, added, removed, joined, meeting, below}
use Rattle.objset.proofs.Digits.{has-or, has-and, has-not, has-mask, has-zero, has-past, collect-fits, has-collect}
use Rattle.objset.proofs.Laws.{same-members, filled-one, one-filled, has-added, has-removed, has-joined, added-fits, removed-fits, joined-fits, added-outside, meeting-one, one-meeting, below-member, member_below}

-- a word is 0 if and only if its set is empty
pub zero-means-empty : (s : ℕ) → s < 2 ^ 64 → eqb s 0 ≡ is_empty s
zero-means-empty s hs = go (is_empty s) refl
  where
    go : (q : Bool) → is_empty s ≡ q → eqb s 0 ≡ q
    go true t = eq-eqb s 0 (same-members s 0 hs (omega arith) (λ d l. outside d l (has s d) refl ∙ sym (has-zero d)))
      where
        outside : (d : ℕ) → d < 64 → (b : Bool) → has s d ≡ b → b ≡ false
        outside d l true p = sym t ∙ one-filled s d l p
        outside d l false p = refl
    go false t = let m = filled-one s t in ne_eqb s 0 (λ z. true≢false (sym m.2 ∙ ap (λ (x : ℕ). has x m.0) z ∙ has-zero m.0))

-- `a | b` is the union
pub or-joined : (a b : ℕ) → a < 2 ^ 64 → b < 2 ^ 64 → bit_or a b ≡ joined a b
or-joined a b ha hb =
    same-members (bit_or a b) (joined a b) (or_lt 64 a b ha hb) (joined-fits a b)
    (λ d l. has-or a b d ∙ sym (has-joined a b d ha hb))

-- `s | 2 to the power d` is s with d added
or-added : (s d : ℕ) → s < 2 ^ 64 → d < 64 → bit_or s (2 ^ d) ≡ added s d
or-added s d hs hd =
    same-members (bit_or s (2 ^ d)) (added s d) (or_lt 64 s (2 ^ d) hs (pow-lt hd)) (added-fits s d)
    (λ e l. has-or s (2 ^ d) e ∙ ap (λ (x : Bool). has s e || x) (has-mask d e) ∙ sym (has-added s d e hs hd))

-- the mask of an object from 0 to 63, and what stands for that of any other number
pub mask-inside : (d : ℕ) → d < 64 → mask_of d ≡ 2 ^ d
unfolding mask_of
mask-inside d h = ap (λ (b : Bool). cond b (2 ^ d) 0) (lt-ltb d 64 h)

pub mask-outside : (d : ℕ) → 64 ≤ d → mask_of d ≡ 0
unfolding mask_of
mask-outside d h = ap (λ (b : Bool). cond b (2 ^ d) 0) (le-ltb d 64 h)

mask_fits : (d : ℕ) → mask_of d < 2 ^ 64
mask_fits d = go (ltb d 64) refl
  where
    go : (b : Bool) → ltb d 64 ≡ b → mask_of d < 2 ^ 64
    go true t = subst (λ (m : ℕ). m < 2 ^ 64) (sym (mask-inside d (ltb-true d 64 t))) (pow-lt (ltb-true d 64 t))
    go false t = subst (λ (m : ℕ). m < 2 ^ 64) (sym (mask-outside d (ltb-false d 64 t))) (omega arith)

-- `s | mask of d` is s with d added, for any d
pub or-mask : (s d : ℕ) → s < 2 ^ 64 → bit_or s (mask_of d) ≡ added s d
or-mask s d hs = go (ltb d 64) refl
  where
    go : (b : Bool) → ltb d 64 ≡ b → bit_or s (mask_of d) ≡ added s d
    go true t = ap (bit_or s) (mask-inside d (ltb-true d 64 t)) ∙ or-added s d hs (ltb-true d 64 t)
    go false t = ap (bit_or s) (mask-outside d (ltb-false d 64 t)) ∙ or_zero_r s ∙ sym (added-outside s d hs (ltb-false d 64 t))

-- the mask of d holds d alone, of the objects from 0 to 63
has-mask_of : (d e : ℕ) → e < 64 → has (mask_of d) e ≡ eqb e d
has-mask_of d e l = go (ltb d 64) refl
  where
    go : (b : Bool) → ltb d 64 ≡ b → has (mask_of d) e ≡ eqb e d
    go true t = ap (λ (x : ℕ). has x e) (mask-inside d (ltb-true d 64 t)) ∙ has-mask d e
    go false t = ap (λ (x : ℕ). has x e) (mask-outside d (ltb-false d 64 t)) ∙ has-zero e ∙ sym (ne_eqb e d (λ p. omega (arith, ltb-false d 64 t)))

-- `s & !mask of d` is s without d, for any d
pub and-not-mask : (s d : ℕ) → s < 2 ^ 64 → bit_and s (2 ^ 64 - 1 - mask_of d) ≡ removed s d
and-not-mask s d hs =
    same-members (bit_and s (2 ^ 64 - 1 - mask_of d)) (removed s d) (and_lt 64 s (2 ^ 64 - 1 - mask_of d) hs (omega arith)) (removed-fits s d)
    (λ e l.
    has-and s (2 ^ 64 - 1 - mask_of d) e
    ∙ ap (λ (b : Bool). has s e && b) (has-not 64 (mask_of d) e (mask_fits d) l ∙ ap not (has-mask_of d e l))
    ∙ sym (has-removed s d e hs))

and-false : (b : Bool) → (b && false) ≡ false
and-false true = refl
and-false false = refl

-- a set is a smaller word once an object is taken out
pub removed-less : (s d : ℕ) → s < 2 ^ 64 → has s d ≡ true → removed s d < s
removed-less s d hs p =
    omega (
      arith,
      sym (and-not-mask s d hs),
      and_le_l s (2 ^ 64 - 1 - mask_of d),
      (λ (e : removed s d ≡ s). true≢false (sym p ∙ ap (λ (x : ℕ). has x d) (sym e) ∙ has-removed s d d hs ∙ rw (eq-eqb d d refl) (and-false (has s d)))),
    )

-- `a & b` is not 0 if and only if a and b meet
pub and-meeting : (a b : ℕ) → a < 2 ^ 64 → b < 2 ^ 64 → not (eqb (bit_and a b) 0) ≡ meeting a b
and-meeting a b ha hb = go (meeting a b) refl
  where
    go : (m : Bool) → meeting a b ≡ m → not (eqb (bit_and a b) 0) ≡ m
    go true t =
        let w = meeting-one a b t in
        ap not (ne_eqb (bit_and a b) 0
        (λ z. true≢false (sym (has-and a b w.0 ∙ ap₂ ◌&&◌ w.2 w.3) ∙ ap (λ (x : ℕ). has x w.0) z ∙ has-zero w.0)))
    go false t =
        ap not (eq-eqb (bit_and a b) 0
        (same-members (bit_and a b) 0 (and_lt 64 a b ha hb) (omega arith)
        (λ d l. has-and a b d ∙ apart (has a d) (has b d) (λ p q. true≢false (sym (one-meeting a b d ha p q) ∙ t)) ∙ sym (has-zero d))))
      where
        apart : (x y : Bool) → (x ≡ true → y ≡ true → ⊥) → (x && y) ≡ false
        apart true true h = absurd (h refl refl)
        apart true false h = refl
        apart false y h = refl

-- `1 << n` is the mask of n
pub shifted_one : (n : ℕ) → n < 64 → 1 * 2 ^ n % 2 ^ 64 ≡ 2 ^ n
shifted_one n h = ap (λ (x : ℕ). x % 2 ^ 64) (one-mul (2 ^ n)) ∙ mod-eq_of_lt (pow-lt h)

-- a word below the mask of n lies within the first n objects
fits_below : (s n : ℕ) → s < 2 ^ n → below s n ≡ true
fits_below s n h = member_below s n (λ d p. go d p (ltb d n) refl)
  where
    go : (d : ℕ) → has s d ≡ true → (b : Bool) → ltb d n ≡ b → d < n
    go d p true t = ltb-true d n t
    go d p false t = absurd (true≢false (sym p ∙ has-past s n d h (ltb-false d n t)))

-- a set within the first n objects is the collection of its members below n, so below the mask of n
below-fits : (s n : ℕ) → s < 2 ^ 64 → n < 64 → below s n ≡ true → s < 2 ^ n
below-fits s n hs hn e =
    let same : s ≡ collect n (has s) =
    same-members s (collect n (has s)) hs (lt_of_lt_of_le (collect-fits n (has s)) (pow_mono (le_of_lt hn)))
    (λ d l. sym (has-collect n d (has s) ∙ inside d (has s d) refl)) in
    subst (λ (x : ℕ). x < 2 ^ n) (sym same) (collect-fits n (has s))
  where
    inside : (d : ℕ) (b : Bool) → has s d ≡ b → (ltb d n && has s d) ≡ has s d
    inside d true p = ap (λ (x : Bool). x && has s d) (lt-ltb d n (below-member s n d hs e p))
    inside d false p = ap (λ (x : Bool). ltb d n && x) p ∙ and-false (ltb d n) ∙ sym p

pub less-below : (s n : ℕ) → s < 2 ^ 64 → n < 64 → ltb s (2 ^ n) ≡ below s n
less-below s n hs hn = go (ltb s (2 ^ n)) refl (below s n) refl
  where
    go : (x : Bool) → ltb s (2 ^ n) ≡ x → (y : Bool) → below s n ≡ y → x ≡ y
    go true t y u = sym (fits_below s n (ltb-true s (2 ^ n) t)) ∙ u
    go false t true u = sym t ∙ lt-ltb s (2 ^ n) (below-fits s n hs hn u)
    go false t false u = refl

-- every set lies within the first n objects, where n is 64 or more
pub all-below : (s n : ℕ) → s < 2 ^ 64 → 64 ≤ n → below s n ≡ true
all-below s n hs hn = fits_below s n (lt_of_lt_of_le hs (pow_mono hn))
