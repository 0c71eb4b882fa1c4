-- What a caller knows of where names stand in a line of names, and how that is found, name by name.
use mathlib.Core.Path.{◌≡◌, refl, sym, ap, ◌∙◌}
use mathlib.Core.Logic.{◌⊎◌, inl, inr, ⊎_elim, dite}
use mathlib.Core.Bool.{and-false, true}
use mathlib.Core.List.{List, [], ◌∷◌, ◌++◌}
use Prim.Native.Nat.{ℕ, ◌+◌, ◌≤◌, ◌<◌}
use native.Mathlib.Decide.{dec_lt}
use native.Mathlib.Numerals.{add-one}
use native.Mathlib.Omega.{arith}
use denote.Ref.{Bor}
use lib.ListN.{length, get_or, take, set}
use lib.Seq.{take-suc, take_all, length-take-le}
use borrow.Author.Tests.{lt-ltb, le-leb, lt-leb}
use Rattle.std.specs.Prelude.{Some, None}
use Rattle.table.specs.declared.Fields.{Fields}
use Rattle.table.specs.Pieces.{pieces}
use Rattle.table.specs.Fields.{fields_of, place, places_of, all_stand, columns, columns_of}
use Rattle.table.specs.Cut.{most_fields, filled, marked, cut_of, Fielded, fields_by, held_places}
use Rattle.table.proofs.Laws.{first, others, some-piece}
use Rattle.table.proofs.Cuts.{so-many, at_most, cut-none, cut_found, fielded, found_in, how-many-found}
use Rattle.table.proofs.Filling.{fill-next, filled_in}
use Rattle.table.proofs.Places.{places-one-more, how-many-places, stand-one-more, each_stands, nth-place, all-columns, placed-or-not, none-stand}

-- ---- the places as they are held

module _ (ps : List ℕ) where
  pub held-some : 0 < length ps → length ps ≤ most_fields → held_places ps ≡ Some (filled most_fields most_fields ps)
  unfolding held_places
  held-some some few = rw (lt-ltb 0 (length ps) some, le-leb (length ps) most_fields few)

  pub held-many : most_fields < length ps → held_places ps ≡ None
  unfolding held_places
  held-many h = rw (lt-leb (length ps) most_fields h, and-false)

  pub nth-held : (i : ℕ) → i < length ps → get_or (filled most_fields most_fields ps) i 0 ≡ get_or ps i 0
  nth-held i k = filled_in most_fields most_fields ps i k

pub held-none : held_places [] ≡ None
unfolding held_places
held-none = refl

-- ---- a caller's names all have a place before their number, or none has

module _ (names : List (List ℕ)) (longest : ℕ) (line : List ℕ) where
  pub all_placed : (columns_of names longest line ≡ [])
      ⊎ ((length (columns_of names longest line) ≡ length names)
      × ((i : ℕ) → i < length names → get_or (columns_of names longest line) i 0 < length names))
  unfolding columns_of
  all_placed =
      let fs = fields_of longest (length names) line in
      ⊎_elim
      (λ (p : (all_stand names fs ≡ true) × (columns names fs ≡ places_of names fs)).
      inr (
        ap length p.1 ∙ how-many-places fs names,
        λ i h.
            let at : get_or (columns names fs) i 0 ≡ place (get_or names i []) fs = ap (λ (ns : List ℕ). get_or ns i 0) p.1 ∙ nth-place fs names i h in
            omega (arith, at, each_stands fs names p.0 i h, at_most longest (length names) line),
      ))
      (λ none. inl none) (placed-or-not fs names)

  -- more names than a line may have fields
  pub too_many : most_fields < length names → held_places (columns_of names longest line) ≡ None
  too_many h =
      ⊎_elim (λ none. ap held_places none ∙ held-none) (λ some. held-many (columns_of names longest line) (omega (arith, some.0))) all_placed

-- ---- the names of one line, found in another

module _ (names line : Bor (List ℕ)) (longest count : ℕ) (n : count ≡ length (pieces 32 names.now)) where
  abbrev ns : List (List ℕ)
  ns = pieces 32 names.now

  -- there are more names.now than a line.now may have fields
  pub names-uncut : cut_of (length names.now) count names ≡ None → held_places (columns_of ns longest line.now) ≡ None
  names-uncut none =
      dite (dec_lt most_fields count) (λ h. too_many ns longest line.now (omega arith))
      (λ h.
      let all = so-many (length names.now) count names.now (omega arith) (sym n) in
      absurd (omega (arith, ap length (cut-none (length names.now) count names none (omega arith)), ap length all, ap length (some-piece 32 names.now))))

  -- no fields: the names.now stand nowhere
  pub line-uncut : cut_of longest count line ≡ None → held_places (columns_of ns longest line.now) ≡ None
  unfolding columns_of
  line-uncut none =
      dite (dec_lt most_fields count) (λ h. too_many ns longest line.now (omega arith))
      (λ h.
      let empty : fields_of longest (length ns) line.now ≡ [] = rw n at (cut-none longest count line none (omega arith)) in
      ap held_places
      (ap (columns ns) empty ∙ ap (λ (ms : List (List ℕ)). columns ms []) (some-piece 32 names.now)
      ∙ none-stand (first (pieces 32 names.now)) (others (pieces 32 names.now))) ∙ held-none)

  module _ {wanted f : Fields} (w : cut_of (length names.now) count names ≡ Some wanted) (e : cut_of longest count line ≡ Some f) where
    abbrev fs : List (List ℕ)
    fs = fields_by f

    in_names : Fielded wanted
    in_names = fielded (length names.now) count names w

    in_line : Fielded f
    in_line = fielded longest count line e

    few : count ≤ most_fields
    few = (cut_found longest count line e).few

    pub all : f.count ≡ count
    unfolding marked
    all = ap (λ (g : Fields). g.count) (cut_found longest count line e).marks

    size : length fs ≡ count
    size = how-many-found in_line ∙ all

    the-columns : columns_of ns longest line.now ≡ columns ns fs
    unfolding columns_of
    the-columns =
        let fields : fields_of longest (length ns) line.now ≡ pieces 32 line.now = rw n at (cut_found longest count line e).fields in
        ap (columns ns) (fields ∙ sym (found_in longest count line e))

    -- a name that stands
    module _ (i : ℕ) (h : i < count) (name : List ℕ) (is : name ≡ get_or (fields_by wanted) i []) where
      named : name ≡ get_or ns i []
      named = is ∙ ap (λ (ms : List (List ℕ)). get_or ms i []) (found_in (length names.now) count names w)

      next : take (i + 1) ns ≡ take i ns ++ (get_or ns i [] ∷ [])
      next = ap (λ (k : ℕ). take k ns) (add-one i) ∙ take-suc ns i [] (omega (arith, n))

      pub name-placed : (at : ℕ) → at ≡ place name fs → (places : List ℕ) → places ≡ filled most_fields most_fields (places_of (take i ns) fs)
          → set places i at ≡ filled most_fields most_fields (places_of (take (i + 1) ns) fs)
      name-placed at found places p =
          let size = how-many-places fs (take i ns) ∙ length-take-le i ns (omega (arith, n)) in
          rw (p, fill-next most_fields most_fields (places_of (take i ns) fs) i at size (omega (arith, few)), next, places-one-more, found, named)

      pub name-stands : place name fs < length fs → all_stand (take i ns) fs ≡ true → all_stand (take (i + 1) ns) fs ≡ true
      name-stands k a = rw next (stand-one-more fs (take i ns) (get_or ns i []) a (rw named at k))

      -- a name that is missing
      pub name-missing : (place name fs < length fs → ⊥) → held_places (columns_of ns longest line.now) ≡ None
      name-missing k =
          ap held_places the-columns
          ∙ ⊎_elim
          (λ (p : (all_stand ns fs ≡ true) × (columns ns fs ≡ places_of ns fs)).
          absurd (k (rw named (each_stands fs ns p.0 i (omega (arith, n))))))
          (λ none. ap held_places none ∙ held-none) (placed-or-not fs ns)

    -- after the last name
    pub names-placed : (i : ℕ) (places : List ℕ) → count ≤ i → places ≡ filled most_fields most_fields (places_of (take i ns) fs)
        → all_stand (take i ns) fs ≡ true → held_places (columns_of ns longest line.now) ≡ Some places
    names-placed i places h p a =
        let whole : take i ns ≡ ns = take_all i ns (omega (arith, n)) in
        let columns-are : columns ns fs ≡ places_of ns fs = all-columns fs ns (rw whole at a) in
        let many : length (places_of ns fs) ≡ count = how-many-places fs ns ∙ sym n in
        ap held_places (the-columns ∙ columns-are)
        ∙ held-some (places_of ns fs) (omega (arith, many, n, ap length (some-piece 32 names.now))) (omega (arith, many, few))
        ∙ ap Some (sym (p ∙ ap (λ (ms : List (List ℕ)). filled most_fields most_fields (places_of ms fs)) whole))
