-- What each kind of byte leaves of what is kept.
use Rattle.std.proofs.Common.{◌≡◌, ℕ, ◌+◌, ◌<◌, ◌≤◌, Bool, true, false, ◌||◌, eqb, ltb, List, refl, ap, ◌∙◌, le-ltb, lt-ltb, eq-eqb, ne_eqb}
use Rattle.machine.specs.Rule.{World}
use Rattle.machine.specs.declared.Machine.{Machine}
use Rattle.script.specs.declared.Columns.{Columns}
use Rattle.runner.specs.declared.Reading.{Reading}
use Rattle.runner.specs.Kept.{state, held, unfinished, overlaid, line_end, past_line, joining, after_byte, at_end}

abbrev pub reading : Bool → Columns → ℕ → List ℕ → ℕ → Machine → Reading
reading going columns number line length machine =
    record { going = going; columns = columns; number = number; line = line; length = length; machine = machine }

-- past the end of a line, by other names
pub past-made : (r : Reading) (cs ps : List ℕ) (at : Columns) (w : World) {going going' : Bool} {m' : Machine} {cs' ps' : List ℕ}
    → going ≡ going' → w.machine ≡ m' → overlaid w.committed cs ≡ cs' → overlaid w.pending ps ≡ ps'
    → past_line (state r cs ps) (record { going = going; columns = at; world = w })
    ≡ state (reading going' at (r.number + 1) r.line 0 m') cs' ps'
past-made r cs ps at w {going} {going'} {m'} {cs'} {ps'} a b c d =
    ap (λ (x : Bool). state (reading x at (r.number + 1) r.line 0 w.machine) (overlaid w.committed cs) (overlaid w.pending ps)) a
    ∙ ap (λ (x : Machine). state (reading going' at (r.number + 1) r.line 0 x) (overlaid w.committed cs) (overlaid w.pending ps)) b
    ∙ ap (λ (x : List ℕ). state (reading going' at (r.number + 1) r.line 0 m') x (overlaid w.pending ps)) c
    ∙ ap (λ (x : List ℕ). state (reading going' at (r.number + 1) r.line 0 m') cs' x) d

module _ (r : Reading) (cs ps : List ℕ) (b : ℕ) where
  pub after-skipped : b ≡ 10 → r.going ≡ false → after_byte (state r cs ps) b ≡ state r cs ps
  unfolding after_byte
  after-skipped newline over = rw (eq-eqb b 10 newline, over) refl

  pub after-ended : b ≡ 10 → r.going ≡ true
      → after_byte (state r cs ps) b ≡ past_line (state r cs ps) (line_end r.columns r.number (held r.machine cs ps) (unfinished r))
  unfolding after_byte
  after-ended newline going = rw (eq-eqb b 10 newline, going) refl

  module _ (ne : b ≡ 10 → ⊥) where
    pub after-lost : 65 ≤ r.length → after_byte (state r cs ps) b ≡ state r cs ps
    unfolding after_byte
    after-lost long = rw (ne_eqb b 10 ne, le-ltb r.length 65 long) refl

    pub after-joined : r.length < 65 → after_byte (state r cs ps) b ≡ state (joining r b) cs ps
    unfolding after_byte
    after-joined short = rw (ne_eqb b 10 ne, lt-ltb r.length 65 short) refl

-- ---- the script ends

module _ (r : Reading) (cs ps : List ℕ) where
  pub at-end-over : r.going ≡ false → at_end (state r cs ps) ≡ state r cs ps
  unfolding at_end
  at-end-over over = rw over refl

  pub at-end-none : r.going ≡ true → eqb r.number 1 || ltb 0 r.length ≡ false → at_end (state r cs ps) ≡ state r cs ps
  unfolding at_end
  at-end-none going none = rw (going, none) refl

  pub at-end-line : r.going ≡ true → eqb r.number 1 || ltb 0 r.length ≡ true → at_end (state r cs ps) ≡ after_byte (state r cs ps) 10
  unfolding at_end
  at-end-line going some = rw (going, some) refl
