-- Membership is a binary digit of the word: what `|`, `&` and a mask do to it, and that a word is known by its digits.
use mathlib.Core.Path.{◌≡◌, refl, sym, ap, fun_ext, ◌∙◌}
use mathlib.Core.Bool.{Bool, true, false, cond, not, ◌&&◌, ◌||◌}
use Prim.Native.Nat.{ℕ, zero, suc, ◌+◌, ◌-◌, ◌/◌, ◌%◌, ◌^◌, ◌≤◌, ◌<◌, min, max}
use native.Mathlib.Nat.{mod-lt, div-one, div-eq_of_lt, pow-suc, mul-div_cancel, mul-mod_left, lt_of_lt_of_le, zero-lt-suc, one-mul, zero-add}
use native.Mathlib.Numerals.{one-add}
use native.Mathlib.Omega.{arith}
use lib.Bits.{bit_and, bit_or, and_step, or_step, and_shr, or_shr, or_shifted}
use lib.Count.{count_trailing_zeros, under}
use lib.Dec.{eqb, ltb, eqb-zero-suc, eqb-suc-zero, eqb-suc-suc}
use lib.Pow.{pow_mono, shr-shr}
use borrow.Author.Tests.{eqb-true, eqb-false, lt-ltb, le-ltb, ltb-true, ltb-false}
use Rattle.std.specs.Prelude.{None, Some}
use Rattle.std.specs.Option.{option_map}
use Rattle.objset.specs.Objset.{has, collect, first_passing}

-- ---- one digit

either-digit : (u v : ℕ) → u < 2 → v < 2 → eqb (max u v) 1 ≡ (eqb u 1 || eqb v 1)
either-digit zero zero hu hv = refl
either-digit zero (suc zero) hu hv = refl
either-digit (suc zero) zero hu hv = refl
either-digit (suc zero) (suc zero) hu hv = refl
either-digit zero (suc (suc v)) hu hv = absurd (omega arith)
either-digit (suc zero) (suc (suc v)) hu hv = absurd (omega arith)
either-digit (suc (suc u)) v hu hv = absurd (omega arith)

both-digits : (u v : ℕ) → u < 2 → v < 2 → eqb (min u v) 1 ≡ (eqb u 1 && eqb v 1)
both-digits zero zero hu hv = refl
both-digits zero (suc zero) hu hv = refl
both-digits (suc zero) zero hu hv = refl
both-digits (suc zero) (suc zero) hu hv = refl
both-digits zero (suc (suc v)) hu hv = absurd (omega arith)
both-digits (suc zero) (suc (suc v)) hu hv = absurd (omega arith)
both-digits (suc (suc u)) v hu hv = absurd (omega arith)

other-digit : (u v : ℕ) → u + v ≡ 1 → eqb v 1 ≡ not (eqb u 1)
other-digit zero zero h = absurd (omega arith)
other-digit zero (suc zero) h = refl
other-digit (suc zero) zero h = refl
other-digit (suc zero) (suc v) h = absurd (omega arith)
other-digit zero (suc (suc v)) h = absurd (omega arith)
other-digit (suc (suc u)) v h = absurd (omega arith)

or-last : (x y : ℕ) → bit_or x y % 2 ≡ max (x % 2) (y % 2)
or-last x y = omega (arith, or_step x y, mod-lt x (zero-lt-suc 1), mod-lt y (zero-lt-suc 1))

and_last : (x y : ℕ) → bit_and x y % 2 ≡ min (x % 2) (y % 2)
and_last x y = omega (arith, and_step x y, mod-lt x (zero-lt-suc 1), mod-lt y (zero-lt-suc 1))

pub has-or : (a b d : ℕ) → has (bit_or a b) d ≡ (has a d || has b d)
unfolding has
has-or a b d =
    ap (λ (x : ℕ). eqb (x % 2) 1) (or_shr a b d) ∙ ap (λ (x : ℕ). eqb x 1) (or-last (a / 2 ^ d) (b / 2 ^ d))
    ∙ either-digit (a / 2 ^ d % 2) (b / 2 ^ d % 2) (mod-lt (a / 2 ^ d) (zero-lt-suc 1)) (mod-lt (b / 2 ^ d) (zero-lt-suc 1))

pub has-and : (a b d : ℕ) → has (bit_and a b) d ≡ (has a d && has b d)
unfolding has
has-and a b d =
    ap (λ (x : ℕ). eqb (x % 2) 1) (and_shr a b d) ∙ ap (λ (x : ℕ). eqb x 1) (and_last (a / 2 ^ d) (b / 2 ^ d))
    ∙ both-digits (a / 2 ^ d % 2) (b / 2 ^ d % 2) (mod-lt (a / 2 ^ d) (zero-lt-suc 1)) (mod-lt (b / 2 ^ d) (zero-lt-suc 1))

-- the last digit, and the others
pub has_first : (a : ℕ) → has a 0 ≡ eqb (a % 2) 1
unfolding has
has_first a = ap (λ (x : ℕ). eqb (x % 2) 1) (div-one a)

pub has-half : (a d : ℕ) → has a (suc d) ≡ has (a / 2) d
unfolding has
has-half a d = ap (λ (x : ℕ). eqb (x % 2) 1) (ap (λ (n : ℕ). a / 2 ^ n) (sym (one-add d)) ∙ sym (shr-shr a 1 d))

-- the digits of the complement of a word of n digits
pub has-not : (n a d : ℕ) → a < 2 ^ n → d < n → has (2 ^ n - 1 - a) d ≡ not (has a d)
has-not zero a d h l = absurd (omega arith)
has-not (suc n) a zero h l =
    has_first (2 ^ suc n - 1 - a)
    ∙ other-digit (a % 2) ((2 ^ suc n - 1 - a) % 2) (omega (arith, pow-suc 2 n, h))
    ∙ ap not (sym (has_first a))
has-not (suc n) a (suc d) h l =
    has-half (2 ^ suc n - 1 - a) d
    ∙ ap (λ (x : ℕ). has x d) (omega (arith, pow-suc 2 n))
    ∙ has-not n (a / 2) d (omega (arith, pow-suc 2 n)) (omega arith)
    ∙ ap not (sym (has-half a d))

-- a word below 2 to the power d has no digit from d on
pub has-past : (s n d : ℕ) → s < 2 ^ n → n ≤ d → has s d ≡ false
unfolding has
has-past s n d h l = ap (λ (x : ℕ). eqb (x % 2) 1) (div-eq_of_lt (lt_of_lt_of_le h (pow_mono l)))

pub has-zero : (d : ℕ) → has 0 d ≡ false
has-zero d = has-past 0 0 d (zero-lt-suc 0) (omega arith)

-- ---- one mask

double-half : (n : ℕ) → 2 ^ suc n / 2 ≡ 2 ^ n
double-half n = ap (λ (x : ℕ). x / 2) (pow-suc 2 n) ∙ mul-div_cancel (2 ^ n) (zero-lt-suc 1)

-- the mask of object n holds n and nothing else
pub has-mask : (n d : ℕ) → has (2 ^ n) d ≡ eqb d n
has-mask zero zero = unfold has in refl
has-mask zero (suc d) = has-past 1 1 (suc d) (omega arith) (omega arith) ∙ sym (eqb-suc-zero d)
has-mask (suc n) zero =
    has_first (2 ^ suc n) ∙ ap (λ (x : ℕ). eqb x 1) (ap (λ (x : ℕ). x % 2) (pow-suc 2 n) ∙ mul-mod_left (2 ^ n) 2) ∙ sym (eqb-zero-suc n)
has-mask (suc n) (suc d) =
    has-half (2 ^ suc n) d ∙ ap (λ (x : ℕ). has x d) (double-half n) ∙ has-mask n d ∙ sym (eqb-suc-suc d n)

-- ---- a word is known by its digits

last-digit : (a b : ℕ) → has a 0 ≡ has b 0 → a % 2 ≡ b % 2
last-digit a b e =
    go (a % 2) (b % 2) (mod-lt a (zero-lt-suc 1)) (mod-lt b (zero-lt-suc 1)) (sym (has_first a) ∙ e ∙ has_first b)
  where
    go : (u v : ℕ) → u < 2 → v < 2 → eqb u 1 ≡ eqb v 1 → u ≡ v
    go zero zero hu hv e = refl
    go zero (suc zero) hu hv e = absurd (eqb-false 0 1 refl (eqb-true 0 1 e))
    go (suc zero) zero hu hv e = absurd (eqb-false 0 1 refl (eqb-true 0 1 (sym e)))
    go (suc zero) (suc zero) hu hv e = refl
    go zero (suc (suc v)) hu hv e = absurd (omega arith)
    go (suc zero) (suc (suc v)) hu hv e = absurd (omega arith)
    go (suc (suc u)) v hu hv e = absurd (omega arith)

pub same_digits : (n a b : ℕ) → a < 2 ^ n → b < 2 ^ n → ((d : ℕ) → d < n → has a d ≡ has b d) → a ≡ b
same_digits zero a b ha hb e = omega arith
same_digits (suc n) a b ha hb e =
    omega (
      arith,
      same_digits n (a / 2) (b / 2) (omega (arith, pow-suc 2 n)) (omega (arith, pow-suc 2 n))
          (λ d h. sym (has-half a d) ∙ e (suc d) (omega arith) ∙ has-half b d),
      last-digit a b (e 0 (omega arith)),
    )

-- ---- the objects that pass a test

pub collect-fits : (n : ℕ) (f : ℕ → Bool) → collect n f < 2 ^ n
unfolding collect
collect-fits zero f = omega arith
collect-fits (suc n) f = go (f n) (collect-fits n f)
  where
    go : (b : Bool) → collect n f < 2 ^ n → cond b (2 ^ n) 0 + collect n f < 2 ^ suc n
    go true h = omega (arith, pow-suc 2 n)
    go false h = omega (arith, pow-suc 2 n)

-- the sum of a mask and a set of smaller objects is their union
has-mask-more : (n r d : ℕ) (b : Bool) → r < 2 ^ n → has (cond b (2 ^ n) 0 + r) d ≡ ((b && eqb d n) || has r d)
has-mask-more n r d true h =
    ap (λ (x : ℕ). has x d) (ap (λ (x : ℕ). x + r) (sym (one-mul (2 ^ n))) ∙ sym (or_shifted 1 n r h) ∙ ap (λ (x : ℕ). bit_or x r) (one-mul (2 ^ n)))
    ∙ has-or (2 ^ n) r d ∙ ap (λ (x : Bool). x || has r d) (has-mask n d)
has-mask-more n r d false h = ap (λ (x : ℕ). has x d) (zero-add r)

-- a number other than n is below n + 1 where it is below n
shorter : (d n : ℕ) → (d ≡ n → ⊥) → ltb d (suc n) ≡ ltb d n
shorter d n p = go (ltb d n) refl
  where
    go : (b : Bool) → ltb d n ≡ b → ltb d (suc n) ≡ b
    go true t = lt-ltb d (suc n) (omega (arith, ltb-true d n t))
    go false t = le-ltb d (suc n) (omega (arith, ltb-false d n t, p))

only : (b : Bool) → ((b && true) || false) ≡ b
only true = refl
only false = refl

rest : (a b : Bool) → ((a && false) || b) ≡ b
rest true b = refl
rest false b = refl

-- the objects of `collect n f` are those below n that pass f
pub has-collect : (n d : ℕ) (f : ℕ → Bool) → has (collect n f) d ≡ (ltb d n && f d)
unfolding collect
has-collect zero d f = has-zero d ∙ ap (λ (x : Bool). x && f d) (sym (le-ltb d 0 (omega arith)))
has-collect (suc n) d f =
    has-mask-more n (collect n f) d (f n) (collect-fits n f)
    ∙ ap (λ (x : Bool). (f n && eqb d n) || x) (has-collect n d f)
    ∙ go (eqb d n) refl
  where
    go : (e : Bool) → eqb d n ≡ e → ((f n && eqb d n) || (ltb d n && f d)) ≡ (ltb d (suc n) && f d)
    go true e =
        let p : d ≡ n = eqb-true d n e in
        rw (e, le-ltb d n (omega arith), lt-ltb d (suc n) (omega arith), p) (only (f n))
    go false e = rw (e, shorter d n (eqb-false d n e)) (rest (f n) (ltb d n && f d))

-- ---- the first digit that is 1

-- the digits below it are the trailing zeros; where none of the first k is 1, there are k of them
pub trailing-first : (k n : ℕ) → first_passing k (has n) ≡ cond (ltb (count_trailing_zeros k n) k) (Some (count_trailing_zeros k n)) None
unfolding count_trailing_zeros first_passing
trailing-first zero n = refl
trailing-first (suc k) n =
    ap (λ (b : Bool). cond b (Some 0) (option_map suc (first_passing k (λ e. has n (suc e))))) (has_first n)
    ∙ go (n % 2) (mod-lt n (zero-lt-suc 1)) (ap (first_passing k) (fun_ext (λ e. has-half n e)) ∙ trailing-first k (n / 2))
  where
    t : ℕ
    t = count_trailing_zeros k (n / 2)

    later : (b : Bool) → ltb t k ≡ b → option_map suc (cond b (Some t) None) ≡ cond (ltb (suc t) (suc k)) (Some (suc t)) None
    later true e = rw (lt-ltb (suc t) (suc k) (omega (arith, ltb-true t k e))) refl
    later false e = rw (le-ltb (suc t) (suc k) (omega (arith, ltb-false t k e))) refl

    go : (u : ℕ) → u < 2 → first_passing k (λ e. has n (suc e)) ≡ cond (ltb t k) (Some t) None
        → cond (eqb u 1) (Some 0) (option_map suc (first_passing k (λ e. has n (suc e)))) ≡ cond (ltb (under u t) (suc k)) (Some (under u t)) None
    go zero h e = ap (option_map suc) e ∙ later (ltb t k) refl
    go (suc zero) h e = rw (lt-ltb 0 (suc k) (omega arith)) refl
    go (suc (suc u)) h e = absurd (omega arith)
