-- The cards of a task, number by number.
use mathlib.Core.Path.{◌≡◌, refl, sym, ap, ◌∙◌}
use mathlib.Core.Bool.{Bool, true, false, cond, ◌&&◌}
use mathlib.Core.List.{List, [], ◌∷◌, map}
use Prim.Native.Nat.{ℕ, suc, ◌+◌, ◌≤◌, ◌<◌}
use native.Mathlib.Numerals.{add-one}
use lib.Dec.{eqb, leb}
use lib.ListN.{length, get_or, drop, drop_of_length-le}
use lib.Seq.{drop-cons}
use borrow.Author.Tests.{le-leb, lt-leb, lt-ltb, le-ltb}
use Rattle.std.specs.Prelude.{Option, None, Some}
use Rattle.std.specs.List.{onto_first, slice_split}
use Rattle.std.specs.Str.{bytes_eq}
use Rattle.decimal.specs.Bytes.{byte, ascii}
use Rattle.decimal.specs.Reading.{read_as_number}
use Rattle.objset.specs.Objset.{most_objects, none, added}
use Rattle.table.specs.Pieces.{pieces, onto}
use Rattle.sheet.specs.Sheet.{rising, comma_list, card_list}

-- ---- `-`, or a list

module _ (field : List ℕ) where
  pub is-dash : bytes_eq field (ascii "-") ≡ true → card_list field ≡ Some none
  unfolding card_list
  is-dash e = rw e

  pub is-list : bytes_eq field (ascii "-") ≡ false → card_list field ≡ rising 0 none (comma_list field)
  unfolding card_list
  is-list e = rw e

-- a split at a byte gives the pieces
onto-first : (b : ℕ) (ps : List (List ℕ)) → onto_first b ps ≡ onto b ps
unfolding onto
onto-first b [] = refl
onto-first b (p ∷ ps) = refl

pub split-pieces : (at : ℕ) (bs : List ℕ) → slice_split (λ b. eqb b at) bs ≡ pieces at bs
unfolding pieces
split-pieces at [] = refl
split-pieces at (b ∷ bs) = go (eqb b at) (split-pieces at bs)
  where
    go : (t : Bool) → slice_split (λ b. eqb b at) bs ≡ pieces at bs
        → cond t ([] ∷ slice_split (λ b. eqb b at) bs) (onto_first b (slice_split (λ b. eqb b at) bs)) ≡ cond t ([] ∷ pieces at bs) (onto b (pieces at bs))
    go true e = ap (λ (ps : List (List ℕ)). [] ∷ ps) e
    go false e = ap (onto_first b) e ∙ onto-first b (pieces at bs)

-- ---- the numbers of the list from a place on

module _ (field : List ℕ) (i : ℕ) (p : List ℕ) (at : (i < length (pieces (byte ",") field)) × (p ≡ get_or (pieces (byte ",") field) i p)) (least s : ℕ) where
  abbrev below : List (Option ℕ)
  below = map read_as_number (drop (i + 1) (pieces (byte ",") field))

  first-number : rising least s (map read_as_number (drop i (pieces (byte ",") field))) ≡ rising least s (read_as_number p ∷ below)
  first-number =
      let ps = pieces (byte ",") field in
      ap (λ (qs : List (List ℕ)). rising least s (map read_as_number qs)) (drop-cons ps i p at.0)
      ∙ ap (λ (q : List ℕ). rising least s (read_as_number q ∷ map read_as_number (drop (suc i) ps))) (sym at.1)
      ∙ ap (λ (k : ℕ). rising least s (read_as_number p ∷ map read_as_number (drop k ps))) (sym (add-one i))

  pub no_number : read_as_number p ≡ None → rising least s (map read_as_number (drop i (pieces (byte ",") field))) ≡ None
  unfolding rising
  no_number n = first-number ∙ rw n

  module _ (d : ℕ) (n : read_as_number p ≡ Some d) where
    pub not-rising : d < least → rising least s (map read_as_number (drop i (pieces (byte ",") field))) ≡ None
    unfolding rising
    not-rising l = first-number ∙ rw (n, lt-leb least d l)

    pub no-card : most_objects ≤ d → rising least s (map read_as_number (drop i (pieces (byte ",") field))) ≡ None
    unfolding rising
    no-card l = first-number ∙ rw (n, le-ltb d most_objects l) (both-no (leb least d))
      where
        both-no : (t : Bool) → cond (t && false) (rising (suc d) (added s d) below) None ≡ None
        both-no true = refl
        both-no false = refl

    pub one-card : least ≤ d → d < most_objects → rising least s (map read_as_number (drop i (pieces (byte ",") field))) ≡ rising (d + 1) (added s d) below
    unfolding rising
    one-card l k = first-number ∙ rw (n, le-leb least d l, lt-ltb d most_objects k, add-one d)

pub all-cards : (ps : List (List ℕ)) (i least s : ℕ) → length ps ≤ i → rising least s (map read_as_number (drop i ps)) ≡ Some s
unfolding rising
all-cards ps i least s h = rw (drop_of_length-le ps h)
