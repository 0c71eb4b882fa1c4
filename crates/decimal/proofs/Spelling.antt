-- What is known of a number's spelling: its digits one by one, what they stand for, and that no zero leads them.
use mathlib.Core.Path.{◌≡◌, refl, sym, ap, ◌∙◌}
use mathlib.Core.Logic.{dite}
use mathlib.Core.Bool.{true}
use mathlib.Core.List.{List, [], ◌∷◌, ◌++◌}
use Prim.Native.Nat.{ℕ, zero, suc, ◌+◌, ◌-◌, ◌*◌, ◌/◌, ◌%◌, ◌^◌, ◌≤◌, ◌<◌}
use native.Mathlib.Nat.{pow-suc, one-le-pow, div-lt_iff_lt-mul, div-add-mod'}
use native.Mathlib.Decide.{dec_lt}
use native.Mathlib.Omega.{arith}
use lib.Dec.{lit<}
use lib.ListN.{length, get_or, length-append}
use borrow.Author.Tests.{lt-ltb, le-ltb, ne_eqb}
use Rattle.decimal.specs.Spelling.{glyph, spelling_in, spelling}
use Rattle.decimal.specs.Reading.{all_digits, no_leading_zero, value_after}
use Rattle.decimal.proofs.Reading.{digits, past-digit}

-- ---- digit by digit

-- a number has one digit or more
pub by_digits : {P : Type 0} (n : ℕ) → (n < 10 → P) → (10 ≤ n → P) → P
by_digits n one more = dite (dec_lt n 10) one (λ l. more (omega arith))

pub in_one : (places n : ℕ) → n < 10 → spelling_in (suc places) n ≡ glyph n ∷ []
unfolding spelling_in
in_one places n h = rw (lt-ltb n 10 h)

pub in-more : (places n : ℕ) → 10 ≤ n → spelling_in (suc places) n ≡ spelling_in places (n / 10) ++ (glyph (n % 10) ∷ [])
unfolding spelling_in
in-more places n h = rw (le-ltb n 10 h)

tenth : (places n : ℕ) → n < 10 ^ suc places → n / 10 < 10 ^ places
tenth places n h = (div-lt_iff_lt-mul (lit< tt)).1 (rw pow-suc at h)

-- places past those that a number takes do not change its spelling
wider : (places n : ℕ) → n < 10 ^ suc places → spelling_in (suc (suc places)) n ≡ spelling_in (suc places) n
wider zero n h = in_one 1 n h ∙ sym (in_one 0 n h)
wider (suc places) n h =
    by_digits n
    (λ l. in_one (suc (suc places)) n l ∙ sym (in_one (suc places) n l))
    (λ m. rw (in-more (suc (suc places)) n m, wider places (n / 10) (tenth (suc places) n h), ← in-more (suc places) n m))

pub spelling-one : (n : ℕ) → n < 10 → spelling n ≡ glyph n ∷ []
unfolding spelling
spelling-one n h = in_one 9 n h

pub spelling-more : (n : ℕ) → 10 ≤ n → n < 10 ^ 10 → spelling n ≡ spelling (n / 10) ++ (glyph (n % 10) ∷ [])
unfolding spelling
spelling-more n m h = in-more 9 n m ∙ rw (wider 8 (n / 10) (tenth 9 n h))

pub spelling-longer : (n : ℕ) → 10 ≤ n → n < 10 ^ 10 → length (spelling n) ≡ length (spelling (n / 10)) + 1
spelling-longer n m h = rw (spelling-more n m h, length-append)

-- a number of d digits more than one
pub spelling-places : (d n : ℕ) → 10 ^ d ≤ n → n < 10 ^ suc d → n < 10 ^ 10 → length (spelling n) ≡ suc d
spelling-places zero n low high h = ap length (spelling-one n high)
spelling-places (suc d) n low high h =
    let some = one-le-pow d 10 (lit< tt) in
    let least : 10 ^ d * 10 ≤ n = rw pow-suc at low in
    omega (arith, spelling-longer n (omega arith) h, spelling-places d (n / 10) (omega arith) (tenth (suc d) n high) (omega arith))

-- ---- every byte is a digit

digits-snoc : (ds : List ℕ) (d : ℕ) → all_digits ds ≡ true → d < 10 → all_digits (ds ++ (glyph d ∷ [])) ≡ true
digits-snoc [] d e h = past-digit (glyph d) [] (omega arith) (omega arith) ∙ e
digits-snoc (b ∷ ds) d e h = past-digit b (ds ++ (glyph d ∷ [])) (digits e).low (digits e).high ∙ digits-snoc ds d (digits e).rest h

digits_in : (places n : ℕ) → all_digits (spelling_in places n) ≡ true
unfolding spelling_in all_digits
digits_in zero n = refl
digits_in (suc places) n =
    by_digits n
    (λ l. rw (in_one places n l) (digits-snoc [] n refl l))
    (λ m. rw (in-more places n m) (digits-snoc (spelling_in places (n / 10)) (n % 10) (digits_in places (n / 10)) (omega arith)))

pub spelling-digits : (n : ℕ) → all_digits (spelling n) ≡ true
unfolding spelling
spelling-digits n = digits_in 10 n

-- ---- the digits stand for the number

value-snoc : (n : ℕ) (ds : List ℕ) (d : ℕ) → value_after n (ds ++ (glyph d ∷ [])) ≡ value_after n ds * 10 + d
unfolding value_after
value-snoc n [] d = omega arith
value-snoc n (b ∷ ds) d = value-snoc (n * 10 + (b - 48)) ds d

value_in : (places n : ℕ) → n < 10 ^ places → value_after 0 (spelling_in places n) ≡ n
unfolding spelling_in value_after
value_in zero n h = omega arith
value_in (suc places) n h =
    by_digits n
    (λ l. rw (in_one places n l) (value-snoc 0 [] n ∙ omega arith))
    (λ m. rw (in-more places n m, value-snoc, value_in places (n / 10) (tenth places n h)) (div-add-mod' n 10))

pub spelling-value : (n : ℕ) → n < 10 ^ 10 → value_after 0 (spelling n) ≡ n
unfolding spelling
spelling-value n h = value_in 10 n h

-- ---- the first digit is no zero, unless it is alone

front : (ds es : List ℕ) → 48 < get_or ds 0 0 → 48 < get_or (ds ++ es) 0 0
front [] es h = absurd (omega arith)
front (d ∷ ds) es h = h

front-in : (places n : ℕ) → 1 ≤ n → n < 10 ^ places → 48 < get_or (spelling_in places n) 0 0
front-in zero n p h = absurd (omega arith)
front-in (suc places) n p h =
    by_digits n
    (λ l. rw (in_one places n l) (omega arith))
    (λ m. rw (in-more places n m) (front (spelling_in places (n / 10)) _ (front-in places (n / 10) (omega arith) (tenth places n h))))

leads : (ds : List ℕ) → 48 < get_or ds 0 0 → no_leading_zero ds ≡ true
unfolding no_leading_zero
leads [] h = absurd (omega arith)
leads (d ∷ []) h = refl
leads (d ∷ e ∷ ds) h = rw (ne_eqb d 48 (λ q. omega arith))

pub spelling-leads : (n : ℕ) → n < 10 ^ 10 → no_leading_zero (spelling n) ≡ true
unfolding spelling spelling_in no_leading_zero
spelling-leads zero h = refl
spelling-leads (suc n) h = leads (spelling (suc n)) (front-in 10 (suc n) (omega arith) h)
