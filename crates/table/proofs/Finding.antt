-- How the fields of a line are found: each begins after the one before, and the last ends with the line.
use mathlib.Core.Path.{◌≡◌, refl, sym, ap, ◌∙◌}
use mathlib.Core.List.{List, [], ◌∷◌, ◌++◌}
use Prim.Native.Nat.{ℕ, suc, ◌+◌, ◌-◌, ◌≤◌, ◌<◌}
use native.Mathlib.Numerals.{add-one}
use native.Mathlib.Omega.{arith}
use denote.Ref.{Bor}
use lib.ListN.{length, get_or, set}
use Rattle.std.specs.Prelude.{Some, None}
use Rattle.table.specs.Pieces.{pieces}
use Rattle.table.specs.Fields.{field_end, after_field}
use Rattle.table.specs.Cut.{most_fields, filled, beginnings, marked, cut_of}
use Rattle.table.proofs.PieceEnds.{inside}
use Rattle.table.proofs.Begins.{begin, next-begin, more, after-end, one_further, no-further, nth-begin, how-many-begin, one_more}
use Rattle.table.proofs.Filling.{fill-next, filled_in}
use Rattle.table.proofs.Cuts.{not-so-many, cut-all, cut-nothing}

-- the places where i fields begin, and none yet at those past them
module _ (line : List ℕ) (places : List ℕ) (i : ℕ) (some : 1 ≤ i) (few : i ≤ most_fields) (e : places ≡ filled (suc most_fields) 0 (beginnings i line 0)) where
  pub last-begin : get_or places (i - 1) 0 ≡ begin line 0 (i - 1)
  last-begin =
      ap (λ (ns : List ℕ). get_or ns (i - 1) 0) e
      ∙ filled_in (suc most_fields) 0 (beginnings i line 0) (i - 1) (omega (arith, how-many-begin line i 0)) ∙ nth-begin line i (i - 1) 0 (omega arith)

  pub one-added : (next : ℕ) → next ≡ begin line 0 i → set places i next ≡ filled (suc most_fields) 0 (beginnings (i + 1) line 0)
  one-added next n =
      let all = one_more line i 0 ∙ ap (λ (b : ℕ). beginnings i line 0 ++ (b ∷ [])) (sym n) in
      rw (e, fill-next (suc most_fields) 0 (beginnings i line 0) i next (how-many-begin line i 0) (omega arith), add-one, all)

  -- the next field begins after the last of them
  pub next-added : (next : ℕ) → next ≡ after_field line (get_or places (i - 1) 0) → set places i next ≡ filled (suc most_fields) 0 (beginnings (i + 1) line 0)
  next-added next n =
      let back : suc (i - 1) ≡ i = omega arith in
      one-added next (n ∙ ap (after_field line) last-begin ∙ sym (next-begin line (i - 1) 0) ∙ ap (begin line 0) back)

-- ---- as many fields as were asked for, or more or fewer

module _ (longest count : ℕ) (line : Bor (List ℕ)) (short : length line.now ≤ longest) (some : 1 ≤ count) (last : ℕ) (e : last ≡ begin line.now 0 (count - 1)) where
  pub fewer : length line.now < last → cut_of longest count line ≡ None
  fewer h = cut-nothing longest count line (not-so-many longest count line.now short (λ n. omega (arith, no-further line.now (count - 1) last e h)))

  module _ (h : last ≤ length line.now) where
    past-last : (field_end line.now last + 1 ≡ begin line.now 0 count) × (count - 1 < length (pieces 32 line.now))
    past-last =
        let further = one_further line.now (count - 1) last e h (field_end line.now last + 1) (sym (after-end line.now last h)) in
        let back : count - 1 + 1 ≡ count = omega arith in
        (further.0 ∙ ap (begin line.now 0) back, further.3)

    pub over : field_end line.now last < length line.now → cut_of longest count line ≡ None
    over k =
        let within : begin line.now 0 count ≤ length line.now = omega (arith, past-last) in
        cut-nothing longest count line (not-so-many longest count line.now short (λ n. omega (arith, (more line.now count 0 (omega arith)).1 within)))

    pub exact : length line.now ≤ field_end line.now last → count ≤ most_fields → (cut_of longest count line ≡ Some (marked count line)) × (length line.now + 1 ≡ begin line.now 0 count)
    unfolding field_end
    exact k few =
        let there : length line.now + 1 ≡ begin line.now 0 count = omega (arith, past-last, inside 32 line.now last (field_end line.now last) refl h) in
        let size : length (pieces 32 line.now) ≡ count = omega (arith, past-last, no-further line.now count (length line.now + 1) there (omega arith)) in
        (cut-all longest count line few short size, there)
