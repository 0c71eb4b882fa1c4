-- How many lines a script has, and how many bytes are enough for so many.
use mathlib.Core.Path.{◌≡◌, refl, sym, ap, ◌∙◌}
use mathlib.Core.Bool.{Bool, true, false, cond}
use mathlib.Core.List.{List, [], ◌∷◌, ◌++◌, append_assoc, append-nil}
use Prim.Native.Nat.{ℕ, suc, ◌+◌, ◌-◌, ◌*◌, ◌%◌, ◌≤◌, ◌<◌}
use native.Mathlib.Numerals.{add-one}
use native.Mathlib.Omega.{arith}
use lib.Dec.{eqb, leb}
use lib.ListN.{length, drop, get_or, length-drop, length-append, drop_of_length-le}
use lib.Seq.{drop-cons, drop-append-add}
use borrow.Author.Tests.{eq-eqb, ne_eqb, leb-true}
use Rattle.table.specs.Pieces.{onto, pieces, without_last_empty, lines}
use Rattle.table.proofs.Laws.{some-piece}
use Rattle.runner.specs.Listing.{listing}
use Rattle.runner.proofs.Bounds.{enough, enough-any, not_empty}
use Rattle.entry.specs.Fitting.{whole_or_none}
use Rattle.entry.specs.Enough.{Enough}
use Rattle.entry.proofs.Fits.{whole}

-- ---- a byte in front makes one piece more, and one line more, where it is a newline

abbrev newline : ℕ → ℕ
newline b = cond (eqb b 10) 1 0

is_newline : (b : ℕ) → b ≡ 10 → newline b ≡ 1
is_newline b e = rw (eq-eqb b 10 e) refl

no_newline : (b : ℕ) → (b ≡ 10 → ⊥) → newline b ≡ 0
no_newline b ne = rw (ne_eqb b 10 ne) refl

pieces_none : length (pieces 10 []) ≡ 1
pieces_none = unfold pieces in refl

pieces-one-more : (b : ℕ) (bs : List ℕ) → length (pieces 10 (b ∷ bs)) ≡ newline b + length (pieces 10 bs)
unfolding pieces onto
pieces-one-more b bs = go (eqb b 10) _ _ (some-piece 10 bs)
  where
    go : (t : Bool) (p : List ℕ) (ps : List (List ℕ)) → pieces 10 bs ≡ p ∷ ps
        → length (cond t ([] ∷ pieces 10 bs) (onto b (pieces 10 bs))) ≡ cond t 1 0 + length (pieces 10 bs)
    go true p ps e = omega arith
    go false p ps e = rw e (omega arith)

lines-one-more : (b x : ℕ) (bs : List ℕ) → length (lines (b ∷ x ∷ bs)) ≡ newline b + length (lines (x ∷ bs))
unfolding lines without_last_empty pieces onto
lines-one-more b x bs = rw (some-piece 10 bs) (go (eqb b 10) (eqb x 10) _ _)
  where
    go : (t u : Bool) (p : List ℕ) (ps : List (List ℕ))
        → length (without_last_empty (cond t ([] ∷ cond u ([] ∷ p ∷ ps) (onto x (p ∷ ps))) (onto b (cond u ([] ∷ p ∷ ps) (onto x (p ∷ ps))))))
        ≡ cond t 1 0 + length (without_last_empty (cond u ([] ∷ p ∷ ps) (onto x (p ∷ ps))))
    go true true p ps = omega arith
    go true false p ps = omega arith
    go false true p ps = omega arith
    go false false p [] = omega arith
    go false false p (q ∷ ps) = omega arith

-- one byte, or none, is at most one line
pub short : (bs : List ℕ) → length bs ≤ 1 → length (lines bs) ≤ 1
unfolding lines without_last_empty pieces onto
short [] h = omega arith
short (x ∷ []) h = go (eqb x 10)
  where
    go : (t : Bool) → length (without_last_empty (cond t ([] ∷ [] ∷ []) (onto x ([] ∷ [])))) ≤ 1
    go true = omega arith
    go false = omega arith
short (x ∷ y ∷ bs) h = absurd (omega (arith, h))

ended-short : (ps : List (List ℕ)) → length (without_last_empty ps) ≤ length ps
unfolding without_last_empty
ended-short [] = omega arith
ended-short ([] ∷ []) = omega arith
ended-short ((b ∷ bs) ∷ []) = omega arith
ended-short (p ∷ q ∷ ps) = omega (arith, ended-short (q ∷ ps))

-- there are no more lines than pieces, of which there is always one
few_lines : (bs : List ℕ) → (1 ≤ length (pieces 10 bs)) × (length (lines bs) ≤ length (pieces 10 bs))
unfolding lines
few_lines bs = (omega (arith, ap length (some-piece 10 bs)), ended-short (pieces 10 bs))

-- ---- the newlines of a block: n stand before the byte at i, and the rest has the others

abbrev pub Found : List ℕ → ℕ → ℕ → Type 0
Found block n i = n + length (pieces 10 (drop i block)) ≡ length (pieces 10 block)

module _ (block : List ℕ) (n i : ℕ) (inv : Found block n i) where
  pub all_found : length block ≤ i → length (pieces 10 block) ≡ n + 1
  all_found h = omega (arith, inv, ap (λ (bs : List ℕ). length (pieces 10 bs)) (drop_of_length-le block h), pieces_none)

  module _ (h : i < length block) where
    abbrev b : ℕ
    b = get_or block i 0

    next : length (pieces 10 (drop i block)) ≡ newline b + length (pieces 10 (drop (i + 1) block))
    next = rw (add-one, drop-cons block i 0) (pieces-one-more b (drop (suc i) block))

    pub newline-found : b ≡ 10 → Found block (n + 1) (i + 1)
    newline-found e = omega (arith, inv, next, is_newline b e)

    pub byte-passed : (b ≡ 10 → ⊥) → Found block n (i + 1)
    byte-passed ne = omega (arith, inv, next, no_newline b ne)

-- ---- the lines of a script: n begin up to the byte at i, and the rest has the others

-- a block in front of other bytes makes as many lines more as it has newlines
in-front : (block rest : List ℕ) → 1 ≤ length rest → length (lines (block ++ rest)) + 1 ≡ length (pieces 10 block) + length (lines rest)
in-front [] rest some = omega (arith, pieces_none)
in-front (b ∷ bs) rest some =
    omega (arith, in-front bs rest some, pieces-one-more b bs, more b (bs ++ rest) (omega (arith, some, length-append bs rest)))
  where
    more : (b : ℕ) (after : List ℕ) → 1 ≤ length after → length (lines (b ∷ after)) ≡ newline b + length (lines after)
    more b [] h = absurd (omega (arith, h))
    more b (x ∷ xs) h = lines-one-more b x xs

-- n lines begin in what is read of all bytes but the last; `left` is what is not read of them
abbrev pub Counted : List ℕ → ℕ → List ℕ → Type 0
Counted script n left = (1 ≤ n) × (n + length left ≤ length script) × (n + length (lines (left ++ drop (length script - 1) script)) ≡ suc (length (lines script)))

pub counted-starts : (script left : List ℕ) → left ++ drop (length script - 1) script ≡ script → 1 ≤ length script → Counted script 1 left
counted-starts script left split some = (
  omega arith,
  omega (arith, some, ap length split, length-append left (drop (length script - 1) script), length-drop (length script - 1) script),
  omega (arith, ap (λ (bs : List ℕ). length (lines bs)) split),
)

pub block-counted : (script : List ℕ) (n r : ℕ) (left block left' : List ℕ) → Counted script n left → left ≡ block ++ left'
    → (length (pieces 10 block) ≡ r + 1) × (r ≤ length block) → Counted script (n + r) left'
block-counted script n r left block left' inv cut found = (
  omega (arith, inv.0),
  omega (arith, inv.1, found.1, long),
  omega (
    arith,
    inv.2,
    found.0,
    ap (λ (bs : List ℕ). length (lines bs)) split,
    in-front block (left' ++ last) (omega (arith, inv.0, inv.1, length-append left' last, length-drop (length script - 1) script)),
  ),
)
  where
    last : List ℕ
    last = drop (length script - 1) script

    long : length left ≡ length block + length left'
    long = ap length cut ∙ length-append block left'

    split : left ++ last ≡ block ++ (left' ++ last)
    split = ap (λ (bs : List ℕ). bs ++ last) cut ∙ append_assoc block left' last

-- what whole blocks of the bytes leave
abbrev pub Remains : List ℕ → List ℕ → Type 0
Remains left end = drop (length left - length left % 224) left ≡ end

pub remains-after : (left block left' end : List ℕ) → Remains left end → left ≡ block ++ left' → length block ≡ 224 → Remains left' end
remains-after left block left' end inv cut long =
    sym (drop-append-add block left' (length left' - length left' % 224))
    ∙ ap (λ (k : ℕ). drop k (block ++ left')) (omega (arith, long, ap length cut, length-append block left'))
    ∙ ap (drop (length left - length left % 224)) (sym cut)
    ∙ inv

pub remains-last : (left end : List ℕ) → Remains left end → length left < 224 → left ≡ end ++ []
remains-last left end inv few =
    ap (λ (k : ℕ). drop k left) (let none : 0 ≡ length left - length left % 224 = omega (arith, few) in none) ∙ inv ∙ sym (append-nil end)

-- before the last byte all are counted
pub all-counted : (script : List ℕ) (n : ℕ) (left : List ℕ) → Counted script n left → length left ≡ 0 → length (lines script) ≤ n
all-counted script n left inv none =
    omega (
      arith,
      inv.0,
      inv.1,
      inv.2,
      short (left ++ drop (length script - 1) script)
          (omega (arith, none, inv.0, inv.1, length-append left (drop (length script - 1) script), length-drop (length script - 1) script)),
    )

-- ---- so many bytes are enough

-- with an output that is enough, the listing's length is the answer
pub always-enough : (script output : List ℕ) (n : ℕ) → n ≡ length (whole_or_none (listing script) output) → Enough script output n
always-enough script output n count =
    record {
      by_lines = λ k some few room. fits (omega (arith, enough script k some few, room));
      by_newlines = λ room.
          let few = few_lines script in fits (omega (arith, enough script (length (pieces 10 script)) few.0 few.1, room));
      for_any = λ room. fits (omega (arith, enough-any script, room));
      not_empty = not_empty script;
    }
  where
    fits : length (listing script) ≤ length output → n ≡ length (listing script)
    fits room = count ∙ ap length (whole (listing script) output room)

pub enough-room : (script : List ℕ) (k bytes : ℕ) → (1 ≤ k) × (length (lines script) ≤ k) → leb (18 + 29 * k) bytes ≡ true
    → length (listing script) ≤ bytes
enough-room script k bytes few e = omega (arith, enough script k few.0 few.1, leb-true (18 + 29 * k) bytes e)
