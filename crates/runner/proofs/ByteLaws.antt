-- What a byte leaves that ends no line, or one that ends a line while lines are read no more.
use Rattle.std.proofs.Common.{◌≡◌, ℕ, suc, ◌+◌, ◌<◌, ◌≤◌, Bool, true, false, not, ◌&&◌, eqb, List, [], ◌∷◌, ◌++◌, take, set, sym, refl, ap, ◌∙◌, subst, true≢false, append_assoc, arith, length-set, length-take-le, take-suc-set, ne_eqb}
use Rattle.table.specs.Pieces.{lines, free}
use Rattle.runner.specs.declared.Reading.{Reading}
use Rattle.runner.specs.Kept.{held, listed_from, unfinished, rest, ReadingFits}
use Rattle.runner.proofs.LineLaws.{byte-lost}
use Rattle.runner.proofs.Stepping.{reading}

-- a byte that is no newline, at the end of bytes that are none
free-joined : (p : List ℕ) (b : ℕ) → free 10 p ≡ true → (b ≡ 10 → ⊥) → free 10 (p ++ b ∷ []) ≡ true
unfolding free
free-joined [] b f ne = rw (ne_eqb b 10 ne) refl
free-joined (x ∷ p) b f ne = go (eqb x 10) f (λ f'. free-joined p b f' ne)
  where
    go : (e : Bool) → not e && free 10 p ≡ true → (free 10 p ≡ true → free 10 (p ++ b ∷ []) ≡ true) → not e && free 10 (p ++ b ∷ []) ≡ true
    go true f h = absurd (true≢false (sym f))
    go false f h = h f

one_more : (n : ℕ) → suc n ≡ n + 1
one_more n = omega arith

module _ (r : Reading) (cs ps : List ℕ) (fit : ReadingFits r cs ps) (b : ℕ) where
  -- lines are read no more
  pub skipped : r.going ≡ false → (bytes : List ℕ) → rest r cs ps (b ∷ bytes) ≡ rest r cs ps bytes
  unfolding rest listed_from
  skipped over bytes = rw over refl

  module _ (ne : b ≡ 10 → ⊥) where
    -- past 64 bytes, one byte more is not kept
    pub lost : 65 ≤ r.length → (bytes : List ℕ) → rest r cs ps (b ∷ bytes) ≡ rest r cs ps bytes
    unfolding rest
    lost long bytes =
        byte-lost r.going r.columns r.number (held r.machine cs ps) (unfinished r) b bytes fit.no_newline
        (subst (λ (n : ℕ). 64 < n)
        (sym (length-take-le r.length r.line (subst (λ (n : ℕ). r.length ≤ n) (sym fit.line_long) fit.few_bytes)))
        long) ne

    -- a byte joins the unfinished line
    module _ (short : r.length < 65) where
      abbrev pub with_byte : Reading
      with_byte = reading r.going r.columns r.number (set r.line r.length b) (r.length + 1) r.machine

      joined : take (r.length + 1) (set r.line r.length b) ≡ unfinished r ++ b ∷ []
      joined =
          sym (ap (λ (n : ℕ). take n (set r.line r.length b)) (one_more r.length))
          ∙ take-suc-set r.line r.length b (subst (λ (n : ℕ). r.length < n) (sym fit.line_long) short)

      pub joined-fit : ReadingFits with_byte cs ps
      joined-fit =
          record {
            holds = fit.holds;
            line_long = length-set r.line r.length b ∙ fit.line_long;
            few_bytes = omega (arith, short);
            no_newline = ap (free 10) joined ∙ free-joined (unfinished r) b fit.no_newline ne;
            some_line = fit.some_line;
            few_lines = fit.few_lines;
            first_blank = fit.first_blank;
          }

      pub joined-listed : (bytes : List ℕ) → rest r cs ps (b ∷ bytes) ≡ rest with_byte cs ps bytes
      unfolding rest
      joined-listed bytes =
          ap (λ (x : List ℕ). listed_from r.going r.columns r.number (held r.machine cs ps) (lines x))
          (sym (append_assoc (unfinished r) (b ∷ []) bytes) ∙ ap (λ (x : List ℕ). x ++ bytes) (sym joined))
