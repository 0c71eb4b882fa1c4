-- What the places of the four names make of a line of names.
use mathlib.Core.Path.{◌≡◌, ap, ◌∙◌}
use mathlib.Core.Logic.{⊎_elim}
use mathlib.Core.List.{List}
use Prim.Native.Nat.{ℕ, ◌<◌}
use native.Mathlib.Omega.{arith}
use lib.ListN.{length, get_or}
use borrow.Author.Tests.{eq-eqb}
use Rattle.std.specs.Prelude.{Some, None}
use Rattle.table.specs.Fields.{columns_of}
use Rattle.table.specs.Cut.{most_fields, filled, held_places}
use Rattle.table.proofs.Ordering.{held-some, held-none, nth-held, all_placed}
use Rattle.script.specs.Line.{longest, four_names, ordered, names}

module _ (line : List ℕ) where
  abbrev at : List ℕ
  at = columns_of four_names longest line

  -- each of the names stands in a field
  pub all-stand : (places : List ℕ) → Some places ≡ held_places at
      → names line ≡ Some (record { call = get_or places 0 0; core = get_or places 1 0; card = get_or places 2 0; value = get_or places 3 0 })
  unfolding names ordered
  all-stand places e =
      ⊎_elim (λ none. let no : Some places ≡ None = e ∙ ap held_places none ∙ held-none in cc)
      (λ some.
      let size = some.0 in
      let all : Some places ≡ Some (filled most_fields most_fields at) = e ∙ held-some at (omega (arith, size)) (omega (arith, size)) in
      let same : places ≡ filled most_fields most_fields at = cc in
      let nth = λ (i : ℕ) (h : i < length at). ap (λ (ns : List ℕ). get_or ns i 0) same ∙ nth-held at i h in
      rw (nth 0 (omega (arith, size)), nth 1 (omega (arith, size)), nth 2 (omega (arith, size)), nth 3 (omega (arith, size)), eq-eqb (length at) 4 size))
      (all_placed four_names longest line)

  -- they stand nowhere
  pub one-missing : None ≡ held_places at → names line ≡ None
  unfolding names ordered
  one-missing e =
      ⊎_elim (λ none. rw none)
      (λ some.
      let size = some.0 in
      let no : None ≡ Some (filled most_fields most_fields at) = e ∙ held-some at (omega (arith, size)) (omega (arith, size)) in
      cc)
      (all_placed four_names longest line)
