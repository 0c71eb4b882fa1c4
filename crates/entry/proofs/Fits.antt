-- The listing fits the output, or is refused. The first run is lent no byte of the output: `part` is what it leaves of none.
use mathlib.Core.Path.{◌≡◌, refl, sym, ap, ◌∙◌}
use mathlib.Core.Bool.{Bool, true, false, cond}
use mathlib.Core.List.{List, [], ◌∷◌, ◌++◌}
use Prim.Native.Nat.{ℕ, ◌≤◌, ◌<◌}
use native.Mathlib.Nat.{zero-add}
use native.Mathlib.Omega.{arith}
use lib.Dec.{leb}
use lib.ListN.{length, drop}
use borrow.Author.Tests.{le-leb, lt-leb}
use Rattle.listing.specs.Text.{fitting_at, placed}
use Rattle.entry.specs.Fitting.{whole_or_none, output_after}

none : (xs : List ℕ) → length xs ≡ 0 → xs ≡ []
none [] e = refl
none (x ∷ xs) e = absurd (omega (arith, e))

pub refused : (text out : List ℕ) → length out < length text → whole_or_none text out ≡ []
unfolding whole_or_none
refused text out h = rw (lt-leb (length text) (length out) h) refl

pub whole : (text out : List ℕ) → length text ≤ length out → whole_or_none text out ≡ text
unfolding whole_or_none
whole text out h = rw (le-leb (length text) (length out) h) refl

pub output-after : (text out text' : List ℕ) → whole_or_none text out ≡ text' → output_after text out ≡ text' ++ drop (length text') out
unfolding output_after
output-after text out text' e = rw e refl

-- a listing for which the output surely has room
pub has_room : (text out : List ℕ) → length text ≤ length out → (m : ℕ) (out' : List ℕ) → m ≡ length text
    → (m ≤ length out → out' ≡ text ++ drop m out) → (m ≡ length (whole_or_none text out)) × (out' ≡ output_after text out)
has_room text out room m out' count put =
    let all = whole text out room in (
      count ∙ sym (ap length all),
      put (omega (arith, room, count)) ∙ ap (λ (k : ℕ). text ++ drop k out) count ∙ sym (output-after text out text all),
    )

module _ (text out part : List ℕ) (no_byte : length part ≡ 0) (n : ℕ) (count : n ≡ length text) where
  same : part ++ out ≡ out
  same = ap (λ (x : List ℕ). x ++ out) (none part no_byte)

  pub too_long : length (part ++ out) < n → (0 ≡ length (whole_or_none text out)) × (part ++ out ≡ output_after text out)
  too_long h =
      let short : length out < length text = omega (arith, h, ap length same, count) in
      let nothing = refused text out short in
      (sym (ap length nothing), same ∙ sym (output-after text out [] nothing))

  pub fits : n ≤ length (part ++ out) → (m : ℕ) (out' : List ℕ) → m ≡ length text → (m ≤ length (part ++ out) → out' ≡ text ++ drop m (part ++ out))
      → (m ≡ length (whole_or_none text out)) × (out' ≡ output_after text out)
  fits h m out' count' put =
      has_room text out (omega (arith, h, ap length same, count)) m out' count'
      (λ room. put (omega (arith, room, ap length same)) ∙ ap (λ (x : List ℕ). text ++ drop m x) same)

put_same : (text out : List ℕ) → (fitting_at 0 text out ≡ whole_or_none text out) × (placed 0 text out ≡ output_after text out)
unfolding fitting_at placed output_after whole_or_none
put_same text out = rw zero-add (refl, go (leb (length text) (length out)))
  where
    go : (t : Bool) → cond t (text ++ drop (length text) out) out ≡ cond t text [] ++ drop (length (cond t text [])) out
    go true = refl
    go false = refl

-- a text that is put over the first bytes, where it fits
pub put-at-start : (text out : List ℕ) {n : ℕ} {out' : List ℕ} → n ≡ length (fitting_at 0 text out) → out' ≡ placed 0 text out
    → (n ≡ length (whole_or_none text out)) × (out' ≡ output_after text out)
put-at-start text out count bytes =
    let same = put_same text out in
    (count ∙ ap length same.0, bytes ∙ same.1)
