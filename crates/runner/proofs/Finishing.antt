-- What is left to be listed at the script's end, and at its start.
use Rattle.std.proofs.Common.{◌≡◌, ℕ, ◌<◌, ◌≤◌, Bool, true, false, ◌||◌, eqb, ltb, List, [], ◌∷◌, ◌++◌, take, sym, refl, ap, ◌∙◌, subst, true≢false, arith, length-take-le, ltb-false, ltb-true, eqb-true}
use borrow.Author.Tests.{eqb-false}
use Rattle.machine.specs.Rule.{World}
use Rattle.table.specs.Pieces.{lines}
use Rattle.table.proofs.Laws.{lines-empty, lines-newline}
use Rattle.runner.specs.declared.Reading.{Reading}
use Rattle.runner.specs.Listing.{rows, listed}
use Rattle.runner.specs.Kept.{held, listed_from, unfinished, rest, ReadingFits, KeptState, state, after_byte}
use Rattle.runner.proofs.Stepping.{after-ended}
use Rattle.runner.proofs.LineLaws.{last_line, no_line, no_names}

-- no byte of a line, after the line of names
pub none-begun : (r : Reading) (cs ps : List ℕ) → r.length ≡ 0 → 1 < r.number → rest r cs ps [] ≡ []
unfolding rest
none-begun r cs ps none later =
    ap (λ (n : ℕ). listed_from r.going r.columns r.number (held r.machine cs ps) (lines (take n r.line ++ []))) none
    ∙ ap (listed_from r.going r.columns r.number (held r.machine cs ps)) lines-empty
    ∙ no_line r.going r.columns r.number (held r.machine cs ps) later

-- nor after a newline
pub newline-none : (r : Reading) (cs ps : List ℕ) → 0 < r.number → r.going ≡ true → (r' : Reading) (cs' ps' : List ℕ)
    → state r' cs' ps' ≡ after_byte (state r cs ps) 10 → rest r' cs' ps' [] ≡ []
newline-none r cs ps some going r' cs' ps' e =
    let past = e ∙ after-ended r cs ps 10 refl going in
    let number = ap (λ (s : KeptState). s.reading.number) past in
    none-begun r' cs' ps' (ap (λ (s : KeptState). s.reading.length) past) (omega (arith, some, number))

module _ (r : Reading) (cs ps : List ℕ) (f : ReadingFits r cs ps) where
  abbrev w : World
  w = held r.machine cs ps

  -- lines are read no more
  pub over : r.going ≡ false → [] ≡ rest r cs ps []
  unfolding rest listed_from
  over e = rw e refl

  -- no line is left
  pub none_left : eqb r.number 1 || ltb 0 r.length ≡ false → [] ≡ rest r cs ps []
  none_left e = go (eqb r.number 1) refl (ltb 0 r.length) refl e
    where
      go : (a : Bool) → eqb r.number 1 ≡ a → (b : Bool) → ltb 0 r.length ≡ b → a || b ≡ false → [] ≡ rest r cs ps []
      go true i b j e = absurd (true≢false e)
      go false i true j e = absurd (true≢false e)
      go false i false j e =
          sym
          (none-begun r cs ps (omega (arith, ltb-false 0 r.length j))
          (omega (arith, f.some_line, eqb-false r.number 1 i)))

  -- a line is left: a newline would end it
  pub line-left : r.going ≡ true → eqb r.number 1 || ltb 0 r.length ≡ true → rest r cs ps (10 ∷ []) ≡ rest r cs ps []
  unfolding rest
  line-left on e =
      rw on
      (ap (listed_from true r.columns r.number w) (lines-newline (unfinished r) [] f.no_newline ∙ ap (λ (ls : List (List ℕ)). unfinished r ∷ ls) lines-empty)
      ∙ sym (go (eqb r.number 1) refl (ltb 0 r.length) refl e))
    where
      some : 0 < r.length → listed_from true r.columns r.number w (lines (unfinished r ++ [])) ≡ listed_from true r.columns r.number w (unfinished r ∷ [])
      some h =
          last_line true r.columns r.number w (unfinished r) f.no_newline
          (subst (λ (n : ℕ). 0 < n)
          (sym (length-take-le r.length r.line (subst (λ (n : ℕ). r.length ≤ n) (sym f.line_long) f.few_bytes))) h)

      first : r.number ≡ 1 → (b : Bool) → ltb 0 r.length ≡ b
          → listed_from true r.columns r.number w (lines (unfinished r ++ [])) ≡ listed_from true r.columns r.number w (unfinished r ∷ [])
      first one true j = some (ltb-true 0 r.length j)
      first one false j = rw (one, no_byte) (no_names r.columns w)
        where
          no_byte : r.length ≡ 0
          no_byte = omega (arith, ltb-false 0 r.length j)

      go : (a : Bool) → eqb r.number 1 ≡ a → (b : Bool) → ltb 0 r.length ≡ b → a || b ≡ true
          → listed_from true r.columns r.number w (lines (unfinished r ++ [])) ≡ listed_from true r.columns r.number w (unfinished r ∷ [])
      go true i b j e = first (eqb-true r.number 1 i) b j
      go false i true j e = some (ltb-true 0 r.length j)
      go false i false j e = absurd (true≢false (sym e))

-- before the first byte
pub whole-script : (r : Reading) (cs ps : List ℕ) → r.going ≡ true → r.number ≡ 1 → r.length ≡ 0 → (bytes : List ℕ)
    → rest r cs ps bytes ≡ listed (rows bytes)
unfolding rest listed_from
whole-script r cs ps going one none bytes = rw (going, one, none) refl
