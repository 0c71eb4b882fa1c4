-- What decides how a field reads: three tests, its digits one by one, and the number that they come to.
use mathlib.Core.Path.{◌≡◌, refl, sym, ◌∙◌, ap}
use mathlib.Core.Logic.{dite}
use mathlib.Core.Bool.{and-false, Bool, true, false, cond, ◌&&◌, and-eq-true_iff}
use mathlib.Core.List.{List, [], ◌∷◌}
use Prim.Native.Nat.{ℕ, ◌+◌, ◌-◌, ◌*◌, ◌≤◌, ◌<◌}
use native.Mathlib.Decide.{dec_lt}
use native.Mathlib.Numerals.{add-one}
use native.Mathlib.Omega.{arith}
use lib.Dec.{leb}
use lib.ListN.{length, get_or, drop, drop_of_length-le}
use lib.Seq.{drop-cons}
use borrow.Author.Tests.{le-leb, lt-leb, leb-true}
use Rattle.std.specs.Prelude.{Some, None}
use Rattle.decimal.specs.Reading.{largest, all_digits, no_leading_zero, value_after, is_number, read_as_number}

-- ---- digits

-- the first byte of digits is a digit, and the rest are digits
pub record Digits (b : ℕ) (bs : List ℕ) : Type 0 where
  pub low : 48 ≤ b
  pub high : b ≤ 57
  pub rest : all_digits bs ≡ true

pub digits : {b : ℕ} {bs : List ℕ} → all_digits (b ∷ bs) ≡ true → Digits b bs
unfolding all_digits
digits {b} {bs} e =
    let k = (and-eq-true_iff (leb 48 b && leb b 57) (all_digits bs)).0 e in
    let d = (and-eq-true_iff (leb 48 b) (leb b 57)).0 k.0 in
    record { low = leb-true 48 b d.0; high = leb-true b 57 d.1; rest = k.1 }

pub past-digit : (b : ℕ) (bs : List ℕ) → 48 ≤ b → b ≤ 57 → all_digits (b ∷ bs) ≡ all_digits bs
unfolding all_digits
past-digit b bs l h = rw (le-leb 48 b l, le-leb b 57 h)

-- digits after those of n come to no less than n
pub value_grows : (n : ℕ) (bs : List ℕ) → n ≤ value_after n bs
unfolding value_after
value_grows n [] = omega arith
value_grows n (b ∷ bs) = omega (arith, value_grows (n * 10 + (b - 48)) bs)

-- ---- a field is malformed by any one of three tests, and a number by all

no-digits : (field : List ℕ) → all_digits field ≡ false → read_as_number field ≡ None
unfolding read_as_number is_number
no-digits field e = rw e

pub no_front : (field : List ℕ) → no_leading_zero field ≡ false → read_as_number field ≡ None
unfolding read_as_number is_number
no_front field e = rw (e, and-false)

too_large : (field : List ℕ) → largest < value_after 0 field → read_as_number field ≡ None
unfolding read_as_number is_number
too_large field h = rw (lt-leb (value_after 0 field) largest h, and-false)

pub a-number : (field : List ℕ) (n : ℕ) → all_digits field ≡ true → no_leading_zero field ≡ true → value_after 0 field ≡ n → n ≤ largest → read_as_number field ≡ Some n
unfolding read_as_number is_number
a-number field n d f v h = rw (d, f, v, le-leb n largest h)

-- what a field that reads as n is
pub record Reads (field : List ℕ) (n : ℕ) : Type 0 where
  pub all : all_digits field ≡ true
  pub fronted : no_leading_zero field ≡ true
  pub small : n ≤ largest
  pub value : value_after 0 field ≡ n

value_of : (t : Bool) (x n : ℕ) → cond t (Some x) None ≡ Some n → (t ≡ true) × (x ≡ n)
value_of true x n e = (refl, cc)
value_of false x n e = let z : ◌≡◌ {A = ℕ} 0 1 = cc in absurd (omega arith)

pub reads_as : (field : List ℕ) (n : ℕ) → read_as_number field ≡ Some n → Reads field n
unfolding read_as_number is_number
reads_as field n e =
    let v = value_of (is_number field) (value_after 0 field) n e in
    let k = (and-eq-true_iff (all_digits field && no_leading_zero field) (leb (value_after 0 field) largest)).0 v.0 in
    let d = (and-eq-true_iff (all_digits field) (no_leading_zero field)).0 k.0 in
    record { all = d.0; fronted = d.1; small = omega (arith, leb-true (value_after 0 field) largest k.1, v.1); value = v.1 }

-- ---- byte by byte: the bytes before i are digits that stand for n

pub record ReadTo (field : List ℕ) (n i : ℕ) : Type 0 where
  pub all : all_digits (drop i field) ≡ all_digits field
  pub value : value_after n (drop i field) ≡ value_after 0 field

module _ (field : List ℕ) (n i : ℕ) (so_far : ReadTo field n i) (h : i < length field) where
  rest : drop i field ≡ get_or field i 0 ∷ drop (i + 1) field
  rest = rw (add-one, drop-cons field i 0)

  all_rest : all_digits field ≡ all_digits (get_or field i 0 ∷ drop (i + 1) field)
  all_rest = sym so_far.all ∙ ap all_digits rest

  value-rest : value_after 0 field ≡ value_after (n * 10 + (get_or field i 0 - 48)) (drop (i + 1) field)
  unfolding value_after
  value-rest = sym so_far.value ∙ ap (value_after n) rest

  above-digits : ((48 ≤ get_or field i 0) × (get_or field i 0 ≤ 57) → ⊥) → 48 ≤ get_or field i 0 → 57 < get_or field i 0
  above-digits none low = dite (dec_lt 57 (get_or field i 0)) (λ u. u) (λ u. absurd (none (low, omega arith)))

  pub no-digit : ((48 ≤ get_or field i 0) × (get_or field i 0 ≤ 57) → ⊥) → read_as_number field ≡ None
  unfolding all_digits
  no-digit none =
      no-digits field
      (all_rest
      ∙ dite (dec_lt (get_or field i 0) 48) (λ l. rw (lt-leb 48 (get_or field i 0) l))
      (λ l. rw (lt-leb (get_or field i 0) 57 (above-digits none (omega arith)), and-false)))

  pub past-largest : largest < n * 10 + (get_or field i 0 - 48) → read_as_number field ≡ None
  past-largest l =
      let m : ℕ = n * 10 + (get_or field i 0 - 48) in
      too_large field (omega (arith, value-rest, value_grows m (drop (i + 1) field)))

  pub one_more : 48 ≤ get_or field i 0 → get_or field i 0 ≤ 57 → ReadTo field (n * 10 + (get_or field i 0 - 48)) (i + 1)
  one_more l u = record {
    all = sym (all_rest ∙ past-digit (get_or field i 0) (drop (i + 1) field) l u);
    value = sym value-rest;
  }

pub read_whole : (field : List ℕ) (n i : ℕ) → ReadTo field n i → length field ≤ i → no_leading_zero field ≡ true → n ≤ largest → read_as_number field ≡ Some n
unfolding all_digits value_after
read_whole field n i so_far end front small =
    let none = drop_of_length-le field end in
    a-number field n (sym so_far.all ∙ ap all_digits none) front (sym so_far.value ∙ ap (value_after n) none) small
