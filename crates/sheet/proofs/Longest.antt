-- How long a sheet can be: 33 lines of at most 1,024 bytes and their newlines. More bytes are none.
use Rattle.std.specs.Prelude.{Option, None, Some}
use mathlib.Core.Path.{◌≡◌, refl, sym, ap, ◌∙◌}
use mathlib.Core.Bool.{Bool, true, false, cond, not, ◌&&◌, true≢false, and-eq-true_iff}
use mathlib.Core.List.{List, [], ◌∷◌, ◌++◌, map}
use Prim.Native.Nat.{ℕ, suc, ◌+◌, ◌*◌, ◌≤◌, ◌<◌}
use native.Mathlib.Omega.{arith}
use lib.Dec.{eqb, leb, ltb}
use lib.ListN.{length, length-append}
use borrow.Author.Tests.{leb-true, leb-false, lt-leb, ltb-true}
use Rattle.decimal.specs.Bytes.{byte}
use Rattle.decimal.specs.Reading.{all_digits, no_leading_zero, is_number, read_as_number}
use Rattle.table.specs.Pieces.{onto, pieces, without_last_empty, lines}
use Rattle.table.specs.Fields.{fields_of, all_stand, columns, columns_of, place}
use Rattle.taskset.specs.declared.Task.{Task}
use Rattle.taskset.specs.Tasks.{most_tasks, occurs, numbers_of}
use Rattle.sheet.specs.Sheet.{longest_line, longest_sheet, sheet_names, goes_on, task_of, task_line, gathered, tasks_below, tasks_of_lines, sheet_tasks}

-- ---- the bytes of lines, each with a newline

abbrev total : List (List ℕ) → ℕ
total [] = 0
total (p ∷ ps) = length p + 1 + total ps

-- a list with a first piece
abbrev Filled : List (List ℕ) → Type 0
Filled ps = (p : List ℕ) × (qs : List (List ℕ)) × (ps ≡ p ∷ qs)

onto-total : (b : ℕ) (ps : List (List ℕ)) → Filled ps → (total (onto b ps) ≡ suc (total ps)) × Filled (onto b ps)
unfolding onto
onto-total b [] s = absurd (nil s)
  where
    nil : Filled [] → ⊥
    nil s = omega (arith, ap (λ (ps : List (List ℕ)). length ps) s.2)
onto-total b (p ∷ ps) s = (omega arith, ((b ∷ p), ps, refl))

pieces-total : (at : ℕ) (bs : List ℕ) → (total (pieces at bs) ≡ length bs + 1) × Filled (pieces at bs)
unfolding pieces
pieces-total at [] = (refl, ([], [], refl))
pieces-total at (b ∷ bs) = go (eqb b at) (pieces-total at bs)
  where
    go : (t : Bool) → (total (pieces at bs) ≡ length bs + 1) × Filled (pieces at bs)
        → (total (cond t ([] ∷ pieces at bs) (onto b (pieces at bs))) ≡ suc (length bs) + 1) × Filled (cond t ([] ∷ pieces at bs) (onto b (pieces at bs)))
    go true h = (omega (arith, h.0), ([], pieces at bs, refl))
    go false h = let o = onto-total b (pieces at bs) h.1 in (omega (arith, h.0, o.0), o.1)

without-total : (ps : List (List ℕ)) → total ps ≤ total (without_last_empty ps) + 1
unfolding without_last_empty
without-total [] = omega arith
without-total ([] ∷ []) = omega arith
without-total ((b ∷ bs) ∷ []) = omega arith
without-total (p ∷ q ∷ ps) = omega (arith, without-total (q ∷ ps))

lines-total : (bytes : List ℕ) → length bytes ≤ total (lines bytes)
unfolding lines
lines-total bytes = omega (arith, (pieces-total (byte "\n") bytes).0, without-total (pieces (byte "\n") bytes))

-- ---- a line that is too long is none of a sheet's

no_fields : (count : ℕ) (line : List ℕ) → longest_line < length line → fields_of longest_line count line ≡ []
unfolding fields_of
no_fields count line h = rw (lt-leb (length line) longest_line h)

long-task : (at line : List ℕ) → longest_line < length line → task_line at line ≡ None
unfolding task_line task_of goes_on read_as_number is_number all_digits no_leading_zero
long-task at line h = rw (no_fields 4 line h)

long-names : (line : List ℕ) → longest_line < length line → columns_of sheet_names longest_line line ≡ []
unfolding columns_of columns all_stand place
long-names line h = rw (no_fields 4 line h)

short : (line : List ℕ) → (longest_line < length line → ⊥) → length line ≤ longest_line
short line h = go (leb (length line) longest_line) refl
  where
    go : (t : Bool) → leb (length line) longest_line ≡ t → length line ≤ longest_line
    go true e = leb-true (length line) longest_line e
    go false e = absurd (h (leb-false (length line) longest_line e))

abbrev is_spelled : Option Task → Bool
is_spelled (Some t) = true
is_spelled None = false

-- ---- lines that are a sheet

-- so many tasks fit below those that stand, each on a line that is short enough
gathered-short : (at : List ℕ) (ts : List Task) (ls : List (List ℕ)) → length ts ≤ most_tasks → 0 < length (gathered ts (map (task_line at) ls))
    → (length ts + length ls ≤ most_tasks) × (total ls ≤ (longest_line + 1) * length ls)
unfolding gathered
gathered-short at ts [] few h = (omega arith, omega arith)
gathered-short at ts (l ∷ ls) few h = go (task_line at l) refl h (λ t. gathered-short at (ts ++ (t ∷ [])) ls)
  where
    go : (line : Option Task) → task_line at l ≡ line → 0 < length (gathered ts (line ∷ map (task_line at) ls))
        → ((t : Task) → length (ts ++ (t ∷ [])) ≤ most_tasks → 0 < length (gathered (ts ++ (t ∷ [])) (map (task_line at) ls))
        → (length (ts ++ (t ∷ [])) + length ls ≤ most_tasks) × (total ls ≤ (longest_line + 1) * length ls))
        → (length ts + suc (length ls) ≤ most_tasks) × (length l + 1 + total ls ≤ (longest_line + 1) * suc (length ls))
    go None e k more = absurd (omega arith)
    go (Some t) e k more = taken (ltb (length ts) most_tasks && not (occurs t.number (numbers_of ts))) refl k
      where
        fits : length l ≤ longest_line
        fits = short l (λ p. true≢false (ap is_spelled (sym e ∙ long-task at l p)))

        taken : (q : Bool) → (ltb (length ts) most_tasks && not (occurs t.number (numbers_of ts))) ≡ q
            → 0 < length (cond q (gathered (ts ++ (t ∷ [])) (map (task_line at) ls)) [])
            → (length ts + suc (length ls) ≤ most_tasks) × (length l + 1 + total ls ≤ (longest_line + 1) * suc (length ls))
        taken false q k = absurd (omega arith)
        taken true q k =
            let room = ltb-true (length ts) most_tasks ((and-eq-true_iff (ltb (length ts) most_tasks) (not (occurs t.number (numbers_of ts)))).0 q).0 in
            let rest = more t (omega (arith, length-append ts (t ∷ []), room)) k in
            (omega (arith, rest.0, length-append ts (t ∷ [])), omega (arith, rest.1, fits))

below-short : (at : List ℕ) (ls : List (List ℕ)) → 0 < length (tasks_below at ls)
    → ((at ≡ [] → ⊥) × (length ls ≤ most_tasks) × (total ls ≤ (longest_line + 1) * length ls))
unfolding tasks_below
below-short [] ls h = absurd (omega arith)
below-short (c ∷ cs) ls h =
    let fit = gathered-short (c ∷ cs) [] ls (omega arith) h in
    ((λ e. omega (arith, ap (λ (xs : List ℕ). length xs) e)), omega (arith, fit.0), fit.1)

lines-short : (ls : List (List ℕ)) → 0 < length (tasks_of_lines ls) → total ls ≤ longest_sheet
unfolding tasks_of_lines
lines-short [] h = absurd (omega arith)
lines-short (l ∷ ls) h =
    let fit = below-short (columns_of sheet_names longest_line l) ls h in
    omega (arith, short l (λ p. fit.0 (long-names l p)), fit.1, fit.2)

none_left : (ts : List Task) → (0 < length ts → ⊥) → ts ≡ []
none_left [] h = refl
none_left (t ∷ ts) h = absurd (h (omega arith))

-- more bytes than a sheet can have are no sheet
pub longest-sheet : (bytes : List ℕ) → longest_sheet < length bytes → sheet_tasks bytes ≡ []
unfolding sheet_tasks
longest-sheet bytes h = none_left (sheet_tasks bytes) (λ p. omega (arith, lines-total bytes, lines-short (lines bytes) p))
