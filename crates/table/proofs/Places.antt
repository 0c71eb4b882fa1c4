-- Where names stand among fields: one name, field by field, and several, name by name.
use mathlib.Core.Path.{◌≡◌, refl, sym, ap, ◌∙◌}
use mathlib.Core.Logic.{◌⊎◌, inl, inr}
use mathlib.Core.Bool.{Bool, true, false, and-eq-true_iff}
use mathlib.Core.List.{List, [], ◌∷◌, ◌++◌}
use Prim.Native.Nat.{ℕ, zero, suc, ◌+◌, ◌≤◌, ◌<◌}
use native.Mathlib.Numerals.{add-one}
use native.Mathlib.Omega.{arith}
use lib.ListN.{length, get_or, drop, drop_of_length-le}
use lib.Seq.{drop-cons}
use borrow.Author.Tests.{lt-ltb, ltb-true}
use Rattle.std.specs.Prelude.{Option, Some, None, SomeIff, MatchOption}
use Rattle.std.specs.Str.{bytes_eq}
use Rattle.table.specs.Fields.{place, stands, places_of, all_stand, columns}

module _ (name : List ℕ) (fs : List (List ℕ)) (i : ℕ) where
  pub found : i < length fs → bytes_eq (get_or fs i []) name ≡ true → i + place name (drop i fs) ≡ i
  unfolding place
  found h e = rw (drop-cons fs i [] h, e) (omega arith)

  pub passed : i < length fs → bytes_eq (get_or fs i []) name ≡ false → i + place name (drop i fs) ≡ i + 1 + place name (drop (i + 1) fs)
  unfolding place
  passed h e = rw (drop-cons fs i [] h, e, add-one) (omega arith)

  pub nowhere : length fs ≤ i → i + place name (drop i fs) ≡ i
  unfolding place
  nowhere h = rw (drop_of_length-le fs h) (omega arith)

-- fields that are another name are passed
module _ (name : List ℕ) (fs : List (List ℕ)) where
  goes : (i : ℕ) → i ≤ length fs → ((k : ℕ) → 0 ≤ k → k < i → bytes_eq (get_or fs k []) name ≡ false) → place name fs ≡ i + place name (drop i fs)
  goes zero h other = omega arith
  goes (suc i) h other =
      goes i (omega arith) (λ k p l. other k p (omega arith)) ∙ rw (add-one i) at (passed name fs i (omega arith) (other i (omega arith) (omega arith)))

  -- the first field that is the name, if there is one
  pub first_is : (n : ℕ) → length fs ≡ n → (r : Option ℕ)
      → MatchOption r ((k : ℕ) → 0 ≤ k → k < n → bytes_eq (get_or fs k []) name ≡ false)
      (λ i. (0 ≤ i) × (i < n) × (bytes_eq (get_or fs i []) name ≡ true) × ((k : ℕ) → 0 ≤ k → k < i → bytes_eq (get_or fs k []) name ≡ false))
      → SomeIff r (place name fs < length fs) (place name fs)
  first_is n e None other =
      let end = goes n (omega arith) other in
      let gone = nowhere name fs n (omega arith) in
      λ h. omega arith
  first_is n e (Some i) is =
      let here = goes i (omega (arith, is.1)) is.3 ∙ found name fs i (omega (arith, is.1)) is.2 in
      (omega (arith, here, is.1), sym here)

-- ---- several names

module _ (fs : List (List ℕ)) where
  pub places-one-more : (ns : List (List ℕ)) (n : List ℕ) → places_of (ns ++ (n ∷ [])) fs ≡ places_of ns fs ++ (place n fs ∷ [])
  unfolding places_of
  places-one-more [] n = refl
  places-one-more (m ∷ ns) n = ap (◌∷◌ (place m fs)) (places-one-more ns n)

  pub how-many-places : (ns : List (List ℕ)) → length (places_of ns fs) ≡ length ns
  unfolding places_of
  how-many-places [] = refl
  how-many-places (n ∷ ns) = ap suc (how-many-places ns)

  pub stand-one-more : (ns : List (List ℕ)) (n : List ℕ) → all_stand ns fs ≡ true → place n fs < length fs → all_stand (ns ++ (n ∷ [])) fs ≡ true
  unfolding all_stand
  stand-one-more [] n a h = rw (lt-ltb (place n fs) (length fs) h)
  stand-one-more (m ∷ ns) n a h =
      let both = (and-eq-true_iff (stands m fs) (all_stand ns fs)).0 a in
      rw both.0 (stand-one-more ns n both.1 h)

  -- each of the names stands, where all do
  pub each_stands : (ns : List (List ℕ)) → all_stand ns fs ≡ true → (i : ℕ) → i < length ns → place (get_or ns i []) fs < length fs
  unfolding all_stand
  each_stands [] a i h = absurd (omega arith)
  each_stands (n ∷ ns) a zero h = ltb-true (place n fs) (length fs) ((and-eq-true_iff (stands n fs) (all_stand ns fs)).0 a).0
  each_stands (n ∷ ns) a (suc i) h = each_stands ns ((and-eq-true_iff (stands n fs) (all_stand ns fs)).0 a).1 i (omega arith)

  pub nth-place : (ns : List (List ℕ)) (i : ℕ) → i < length ns → get_or (places_of ns fs) i 0 ≡ place (get_or ns i []) fs
  unfolding places_of
  nth-place [] i h = absurd (omega arith)
  nth-place (n ∷ ns) zero h = refl
  nth-place (n ∷ ns) (suc i) h = nth-place ns i (omega arith)

  -- ---- all stand, or one is missing

  pub all-columns : (ns : List (List ℕ)) → all_stand ns fs ≡ true → columns ns fs ≡ places_of ns fs
  unfolding columns
  all-columns ns a = rw a

  pub no-columns : (ns : List (List ℕ)) → all_stand ns fs ≡ false → columns ns fs ≡ []
  unfolding columns
  no-columns ns a = rw a

  either : (ns : List (List ℕ)) (t : Bool) → all_stand ns fs ≡ t → ((all_stand ns fs ≡ true) × (columns ns fs ≡ places_of ns fs)) ⊎ (columns ns fs ≡ [])
  either ns true e = inl (e, all-columns ns e)
  either ns false e = inr (no-columns ns e)

  pub placed-or-not : (ns : List (List ℕ)) → ((all_stand ns fs ≡ true) × (columns ns fs ≡ places_of ns fs)) ⊎ (columns ns fs ≡ [])
  placed-or-not ns = either ns (all_stand ns fs) refl

-- names stand nowhere among no fields
pub none-stand : (n : List ℕ) (ns : List (List ℕ)) → columns (n ∷ ns) [] ≡ []
unfolding columns all_stand place
none-stand n ns = refl
