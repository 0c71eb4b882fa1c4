-- A field reads as a number exactly where it is that number's spelling: what is printed reads as its number, and nothing else does. No
-- function cites it; it is what a reader of the two definitions is told.
use mathlib.Core.Path.{◌≡◌, sym, ◌∙◌}
use mathlib.Core.Bool.{true, false≢true}
use mathlib.Core.List.{List, [], ◌∷◌, ◌++◌, append-nil, append_assoc}
use Prim.Native.Nat.{ℕ, ◌+◌, ◌-◌, ◌*◌, ◌/◌, ◌%◌, ◌^◌, ◌≤◌, ◌<◌}
use native.Mathlib.Omega.{arith}
use lib.Dec.{eqb}
use borrow.Author.Tests.{eqb-false, not-true}
use Rattle.std.specs.Prelude.{Some}
use Rattle.decimal.specs.Spelling.{glyph, spelling}
use Rattle.decimal.specs.Reading.{largest, all_digits, no_leading_zero, value_after, read_as_number}
use Rattle.decimal.proofs.Spelling.{spelling-one, spelling-more, spelling-digits, spelling-value, spelling-leads}
use Rattle.decimal.proofs.Reading.{digits, value_grows, a-number, reads_as}

-- ---- a spelling reads as its number

pub reads-spelling : (n : ℕ) → n ≤ largest → read_as_number (spelling n) ≡ Some n
reads-spelling n h =
    let fits : n < 10 ^ 10 = omega arith in
    a-number (spelling n) n (spelling-digits n) (spelling-leads n fits) (spelling-value n fits) h

-- ---- a field that reads as a number is that number's spelling, and the number is at most the largest

-- digits after those of n are spelled after n's spelling
spelled-on : (n : ℕ) (bs : List ℕ) → 1 ≤ n → all_digits bs ≡ true → value_after n bs < 10 ^ 10 → spelling (value_after n bs) ≡ spelling n ++ bs
unfolding value_after
spelled-on n [] p e h = sym (append-nil (spelling n))
spelled-on n (b ∷ bs) p e h =
    let d = digits e in
    let m : ℕ = n * 10 + (b - 48) in
    let before : m / 10 ≡ n = omega arith in
    let last : glyph (m % 10) ≡ b = omega arith in
    let one_more : spelling m ≡ spelling n ++ (b ∷ []) = rw (before, last) at (spelling-more m (omega arith) (omega (arith, value_grows m bs))) in
    spelled-on m bs (omega arith) d.rest h ∙ rw (one_more, append_assoc)

spelled : (field : List ℕ) → all_digits field ≡ true → no_leading_zero field ≡ true → value_after 0 field < 10 ^ 10 → field ≡ spelling (value_after 0 field)
unfolding no_leading_zero value_after
spelled [] e f h = absurd (false≢true f)
spelled (b ∷ []) e f h =
    let d = digits e in
    let byte : glyph (0 * 10 + (b - 48)) ≡ b = omega arith in
    sym (rw byte at (spelling-one (0 * 10 + (b - 48)) (omega arith)))
spelled (b ∷ c ∷ bs) e f h =
    let d = digits e in
    let m : ℕ = 0 * 10 + (b - 48) in
    let no_zero : b ≡ 48 → ⊥ = eqb-false b 48 (not-true (eqb b 48) f) in
    let byte : glyph m ≡ b = omega arith in
    let first : spelling m ≡ b ∷ [] = rw byte at (spelling-one m (omega arith)) in
    sym (spelled-on m (c ∷ bs) (omega arith) d.rest h ∙ rw first)

pub reads-only-spelling : (field : List ℕ) (n : ℕ) → read_as_number field ≡ Some n → (field ≡ spelling n) × (n ≤ largest)
reads-only-spelling field n e =
    let r = reads_as field n e in
    (rw r.value at (spelled field r.all r.fronted (omega (arith, r.small, r.value))), r.small)
