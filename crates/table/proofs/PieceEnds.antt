-- Where a piece of a line ends, byte by byte, and how that cuts the line.
use mathlib.Core.Path.{◌≡◌, refl, ◌∙◌}
use mathlib.Core.Bool.{Bool, true, false, cond}
use mathlib.Core.List.{List, [], ◌∷◌}
use Prim.Native.Nat.{ℕ, suc, ◌+◌, ◌-◌, ◌≤◌, ◌<◌}
use native.Mathlib.Numerals.{add-one}
use native.Mathlib.Omega.{arith}
use lib.Dec.{eqb}
use lib.ListN.{length, get_or, take, drop, drop_of_length-le, length-drop}
use lib.Seq.{drop-cons, drop-drop}
use borrow.Author.Tests.{eq-eqb, ne_eqb}
use Rattle.table.specs.Pieces.{onto, pieces}
use Rattle.table.specs.Fields.{until_byte, piece_end}

-- the bytes from one place up to another
abbrev pub bytes_between : ℕ → ℕ → List ℕ → List ℕ
bytes_between from to bs = take (to - from) (drop from bs)

-- ---- a piece ends at the byte `at`, or goes on, or the line ends

module _ (at : ℕ) (line : List ℕ) (i : ℕ) where
  pub ends-here : i < length line → get_or line i 0 ≡ at → piece_end at line i ≡ i
  unfolding piece_end until_byte
  ends-here h e = rw (drop-cons line i 0 h, eq-eqb (get_or line i 0) at e) (omega arith)

  pub goes_on : i < length line → (get_or line i 0 ≡ at → ⊥) → piece_end at line i ≡ piece_end at line (i + 1)
  unfolding piece_end until_byte
  goes_on h n = rw (drop-cons line i 0 h, ne_eqb (get_or line i 0) at n, add-one) (omega arith)

  pub line-ends : length line ≤ i → piece_end at line i ≡ i
  unfolding piece_end until_byte
  line-ends h = rw (drop_of_length-le line h) (omega arith)

-- ---- pieces, by where the first of them ends

at_most : (t : Bool) (n m : ℕ) → n ≤ m → cond t 0 (suc n) ≤ suc m
at_most true n m h = omega arith
at_most false n m h = omega arith

ends-within : (at : ℕ) (bs : List ℕ) → until_byte at bs ≤ length bs
unfolding until_byte
ends-within at [] = omega arith
ends-within at (b ∷ bs) = at_most (eqb b at) (until_byte at bs) (length bs) (ends-within at bs)

-- the bytes before the first byte `at` and those after it
Cut : ℕ → List ℕ → Type 0
Cut at bs = until_byte at bs < length bs → pieces at bs ≡ take (until_byte at bs) bs ∷ pieces at (drop (suc (until_byte at bs)) bs)

cut-test : (at b : ℕ) (bs : List ℕ) (t : Bool) → eqb b at ≡ t → Cut at bs → Cut at (b ∷ bs)
unfolding Cut until_byte pieces onto
cut-test at b bs true e ih h = rw e
cut-test at b bs false e ih h = rw (e, ih (omega (arith, rw e at h)))

cut-first : (at : ℕ) (bs : List ℕ) → Cut at bs
unfolding Cut
cut-first at [] h = absurd (omega arith)
cut-first at (b ∷ bs) h = cut-test at b bs (eqb b at) refl (cut-first at bs) h

-- no byte `at`
Whole : ℕ → List ℕ → Type 0
Whole at bs = length bs ≤ until_byte at bs → pieces at bs ≡ bs ∷ []

whole-test : (at b : ℕ) (bs : List ℕ) (t : Bool) → eqb b at ≡ t → Whole at bs → Whole at (b ∷ bs)
unfolding Whole until_byte pieces onto
whole-test at b bs true e ih h = absurd (omega (arith, rw e at h))
whole-test at b bs false e ih h = rw (e, ih (omega (arith, rw e at h)))

whole-first : (at : ℕ) (bs : List ℕ) → Whole at bs
unfolding Whole pieces
whole-first at [] h = refl
whole-first at (b ∷ bs) h = whole-test at b bs (eqb b at) refl (whole-first at bs) h

-- ---- a line, by where the piece that begins at a place ends

module _ (at : ℕ) (line : List ℕ) (from to : ℕ) (e : to ≡ piece_end at line from) where
  pub not-before : from ≤ to
  unfolding piece_end
  not-before = omega arith

  pub inside : from ≤ length line → to ≤ length line
  unfolding piece_end
  inside h = omega (arith, ends-within at (drop from line), length-drop from line)

  pub cut_at : to < length line → pieces at (drop from line) ≡ bytes_between from to line ∷ pieces at (drop (to + 1) line)
  unfolding piece_end Cut
  cut_at h =
      let bs = drop from line in
      let k = until_byte at bs in
      let size : to - from ≡ k = omega arith in
      let next : from + suc k ≡ to + 1 = omega arith in
      cut-first at bs (omega (arith, length-drop from line)) ∙ rw (size, drop-drop (suc k) from line, next)

  pub cut-last : length line ≤ to → pieces at (drop from line) ≡ drop from line ∷ []
  unfolding piece_end Whole
  cut-last h = whole-first at (drop from line) (omega (arith, length-drop from line))
