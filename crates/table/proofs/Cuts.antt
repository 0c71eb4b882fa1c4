-- What a caller knows of the fields that were found in a line.
use mathlib.Core.Path.{◌≡◌, refl, sym, ap, ◌∙◌}
use mathlib.Core.Logic.{◌⊎◌, inl, inr, ⊎_elim}
use mathlib.Core.Bool.{and-false, Bool, true, false, cond, ◌&&◌, and-eq-true_iff, false≢true}
use mathlib.Core.List.{List, []}
use Prim.Native.Nat.{ℕ, suc, ◌+◌, ◌-◌, ◌≤◌, ◌<◌}
use native.Mathlib.Numerals.{add-one}
use native.Mathlib.Omega.{arith}
use denote.Ref.{Bor}
use lib.Dec.{eqb, leb, ltb}
use lib.ListN.{length, get_or}
use lib.Seq.{take-length}
use borrow.Author.Tests.{lt-ltb, ltb-true, leb-true, lt-leb, le-leb, eq-eqb, ne_eqb, eqb-true}
use Rattle.std.specs.Prelude.{Some, None}
use Rattle.table.specs.declared.Fields.{Fields}
use Rattle.table.specs.Pieces.{pieces}
use Rattle.table.specs.Fields.{fields_of}
use Rattle.table.specs.Cut.{most_fields, beginnings, marked, cut_of, Fielded, fields_by}
use Rattle.table.proofs.Laws.{some-piece}
use Rattle.table.proofs.PieceEnds.{bytes_between}
use Rattle.table.proofs.Begins.{begin, more, nth-field, rising, nth-begin, how-many-begin}
use Rattle.table.proofs.Filling.{filled_in}

-- ---- the fields of a line are all its pieces, or there are none

module _ (longest count : ℕ) (line : List ℕ) where
  pub no_fields : longest < length line → fields_of longest count line ≡ []
  unfolding fields_of
  no_fields h = rw (lt-leb (length line) longest h)

  pub so-many : length line ≤ longest → length (pieces 32 line) ≡ count → fields_of longest count line ≡ pieces 32 line
  unfolding fields_of
  so-many h e = rw (le-leb (length line) longest h, eq-eqb (length (pieces 32 line)) count e)

  pub not-so-many : length line ≤ longest → (length (pieces 32 line) ≡ count → ⊥) → fields_of longest count line ≡ []
  unfolding fields_of
  not-so-many h n = rw (le-leb (length line) longest h, ne_eqb (length (pieces 32 line)) count n)

  either : (t : Bool) → (leb (length line) longest && eqb (length (pieces 32 line)) count) ≡ t
      → (fields_of longest count line ≡ []) ⊎ ((fields_of longest count line ≡ pieces 32 line) × (length (pieces 32 line) ≡ count))
  unfolding fields_of
  either true e = inr (rw e, eqb-true (length (pieces 32 line)) count ((and-eq-true_iff (leb (length line) longest) (eqb (length (pieces 32 line)) count)).0 e).1)
  either false e = inl (rw e)

  pub all-or-none : (fields_of longest count line ≡ []) ⊎ ((fields_of longest count line ≡ pieces 32 line) × (length (pieces 32 line) ≡ count))
  all-or-none = either (leb (length line) longest && eqb (length (pieces 32 line)) count) refl

  pub at_most : length (fields_of longest count line) ≤ count
  at_most =
      ⊎_elim (λ none. omega (arith, ap length none))
      (λ (all : (fields_of longest count line ≡ pieces 32 line) × (length (pieces 32 line) ≡ count)). omega (arith, ap length all.0, all.1)) all-or-none

  pub none-asked : count ≡ 0 → fields_of longest count line ≡ []
  none-asked z = ⊎_elim (λ none. none) (λ all. absurd (omega (arith, all, ap length (some-piece 32 line)))) all-or-none

module _ (longest count : ℕ) (line : Bor (List ℕ)) where
  -- all the fields that were asked for
  pub cut-all : count ≤ most_fields → length line.now ≤ longest → length (pieces 32 line.now) ≡ count → cut_of longest count line ≡ Some (marked count line)
  unfolding cut_of
  cut-all few h e =
      let some : 0 < length (fields_of longest count line.now) = omega (arith, ap length (so-many longest count line.now h e), ap length (some-piece 32 line.now)) in
      rw (lt-ltb 0 (length (fields_of longest count line.now)) some, le-leb count most_fields few)

  -- a line without its fields has nothing found, and nor has one where more are asked for than a line may have
  pub cut-nothing : fields_of longest count line.now ≡ [] → cut_of longest count line ≡ None
  unfolding cut_of
  cut-nothing e = rw e

  pub cut-over : most_fields < count → cut_of longest count line ≡ None
  unfolding cut_of
  cut-over h = rw (lt-leb count most_fields h, and-false)

-- ---- what `cut` found

-- the fields that were asked for, each where it begins
pub record Found (longest count : ℕ) (line : Bor (List ℕ)) (f : Fields) : Type 0 where
  pub few : count ≤ most_fields
  pub marks : f ≡ marked count line
  pub all : length (pieces 32 line.now) ≡ count
  pub fields : fields_of longest count line.now ≡ pieces 32 line.now

some_of : {A : Type 0} (t : Bool) (x f : A) → cond t (Some x) None ≡ Some f → (t ≡ true) × (f ≡ x)
some_of true x f e = (refl, cc)
some_of false x f e = cc

none_of : {A : Type 0} (t : Bool) (x : A) → cond t (Some x) None ≡ None → t ≡ false
none_of true x e = cc
none_of false x e = refl

module _ (longest count : ℕ) (line : Bor (List ℕ)) where
  pub cut_found : {f : Fields} → cut_of longest count line ≡ Some f → Found longest count line f
  unfolding cut_of
  cut_found {f} e =
      let s = some_of (ltb 0 (length (fields_of longest count line.now)) && leb count most_fields) (marked count line) f e in
      let k = (and-eq-true_iff (ltb 0 (length (fields_of longest count line.now))) (leb count most_fields)).0 s.0 in
      let few = leb-true count most_fields k.1 in
      ⊎_elim (λ none. absurd (omega (arith, ltb-true 0 (length (fields_of longest count line.now)) k.0, ap length none)))
      (λ all. record { few = few; marks = s.1; all = all.1; fields = all.0 })
      (all-or-none longest count line.now)

  -- nothing is found, though a line may have so many fields
  pub cut-none : cut_of longest count line ≡ None → count ≤ most_fields → fields_of longest count line.now ≡ []
  unfolding cut_of
  cut-none e few =
      let t = none_of (ltb 0 (length (fields_of longest count line.now)) && leb count most_fields) (marked count line) e in
      ⊎_elim (λ none. none)
      (λ all.
      let some : 0 < length (fields_of longest count line.now) = omega (arith, ap length all.0, ap length (some-piece 32 line.now)) in
      absurd (false≢true (sym t ∙ rw (lt-ltb 0 (length (fields_of longest count line.now)) some, le-leb count most_fields few))))
      (all-or-none longest count line.now)

  -- they are the line's
  pub its_line : {f : Fields} → cut_of longest count line ≡ Some f → f.line ≡ line
  unfolding marked
  its_line e = ap (λ (g : Fields). g.line) (cut_found e).marks

  pub fielded : {f : Fields} → cut_of longest count line ≡ Some f → Fielded f
  fielded {f} e = record { longest = longest; asked = count; found = ap (cut_of longest count) (its_line e) ∙ e }

  pub room : {f : Fields} → cut_of longest count line ≡ Some f → count ≤ most_fields
  room e = (cut_found e).few

-- ---- a field of those that were found

module _ {f : Fields} (fits : Fielded f) where
  abbrev line : List ℕ
  line = f.line.now

  k : Found fits.longest fits.asked f.line f
  k = cut_found fits.longest fits.asked f.line fits.found

  pub how-many : f.count ≡ length (pieces 32 line)
  unfolding marked
  how-many = ap (λ (g : Fields). g.count) k.marks ∙ sym k.all

  pub few-found : f.count ≤ most_fields
  few-found = omega (arith, how-many, k.all, k.few)

  pub fields-found : fields_by f ≡ pieces 32 line
  unfolding fields_by
  fields-found = rw how-many (take-length (pieces 32 line))

  pub how-many-found : length (fields_by f) ≡ f.count
  how-many-found = ap length fields-found ∙ sym how-many

  -- where field n begins
  pub mark : (n : ℕ) → n ≤ f.count → get_or f.begins n 0 ≡ begin line 0 n
  unfolding marked
  mark n h =
      let m = suc fits.asked in
      ap (λ (g : Fields). get_or g.begins n 0) k.marks
      ∙ filled_in (suc most_fields) 0 (beginnings m line 0) n (omega (arith, how-many-begin line m 0, how-many, k.all))
      ∙ nth-begin line m n 0 (omega (arith, how-many, k.all))

  module _ (n : ℕ) (h : n < f.count) where
    -- field n begins before the next one would, and that at most one byte past the line's end
    pub spans : (get_or f.begins n 0 < get_or f.begins (n + 1) 0) × (get_or f.begins (n + 1) 0 ≤ length line + 1)
    spans =
        let up = rising line n ((more line n 0 (omega arith)).0 (omega (arith, how-many))) in
        let next = mark (n + 1) (omega arith) ∙ ap (begin line 0) (add-one n) in
        (omega (arith, mark n (omega arith), next, up.0), omega (arith, next, up.1))

    -- the bytes of field n
    pub field-bytes : bytes_between (get_or f.begins n 0) (get_or f.begins (n + 1) 0 - 1) line ≡ get_or (fields_by f) n []
    field-bytes =
        rw (mark n (omega arith), mark (n + 1) (omega arith), add-one)
        (sym (ap (λ (fs : List (List ℕ)). get_or fs n []) fields-found ∙ nth-field line n 0 (omega arith) (omega (arith, how-many))))

-- the fields that were found in a line are its pieces
pub found_in : (longest count : ℕ) (line : Bor (List ℕ)) {f : Fields} → cut_of longest count line ≡ Some f → fields_by f ≡ pieces 32 line.now
found_in longest count line e =
    fields-found (fielded longest count line e) ∙ ap (λ (l : Bor (List ℕ)). pieces 32 l.now) (its_line longest count line e)
