-- A sheet by its line of names: the lines below it are read by where the names stand; where they stand nowhere the bytes are no sheet.
use mathlib.Core.Path.{◌≡◌, refl, sym, ap, ◌∙◌}
use mathlib.Core.Logic.{⊎_elim}
use mathlib.Core.Bool.{Bool, true, false}
use mathlib.Core.List.{List, [], ◌∷◌, map}
use Prim.Native.Nat.{ℕ, ◌+◌, ◌≤◌, ◌<◌}
use native.Mathlib.Nat.{sub-zero}
use native.Mathlib.Omega.{arith}
use lib.Dec.{ltb}
use lib.ListN.{length, get_or, take, drop}
use borrow.Author.Tests.{ltb-true, ltb-false}
use Rattle.std.specs.Prelude.{Option, None, Some}
use Rattle.std.specs.Option.{unwrap_or}
use Rattle.decimal.specs.Bytes.{byte}
use Rattle.table.specs.Pieces.{lines}
use Rattle.table.specs.Fields.{piece_end, columns_of}
use Rattle.table.specs.Cut.{most_fields, filled, held_places}
use Rattle.table.proofs.Following.{lines_none, lines_next}
use Rattle.table.proofs.Ordering.{held-some, held-none, nth-held, all_placed}
use Rattle.sheet.specs.Sheet.{longest_line, sheet_names, task_of, task_line, gathered, tasks_below, tasks_of_lines, sheet_tasks}

-- ---- names that stand somewhere

module _ (cs : List ℕ) (size : length cs ≡ 4) where
  column : (i : ℕ) → i < 4 → get_or (filled most_fields most_fields cs) i 0 ≡ get_or cs i 0
  column i h = nth-held cs i (omega arith)

  line-held : (line : List ℕ) → task_line (filled most_fields most_fields cs) line ≡ task_line cs line
  unfolding task_line task_of
  line-held line = rw (column 0 (omega arith), column 1 (omega arith), column 2 (omega arith), column 3 (omega arith))

  lines-held : (ls : List (List ℕ)) → map (task_line (filled most_fields most_fields cs)) ls ≡ map (task_line cs) ls
  lines-held [] = refl
  lines-held (l ∷ ls) = rw (line-held l, lines-held ls)

some_below : (cs : List ℕ) → length cs ≡ 4 → (ls : List (List ℕ)) → gathered [] (map (task_line (filled most_fields most_fields cs)) ls) ≡ tasks_below cs ls
unfolding tasks_below
some_below [] size ls = absurd (omega arith)
some_below (c ∷ cs) size ls = ap (gathered []) (lines-held (c ∷ cs) size ls)

-- ---- what the line of names decides of the lines below it

module _ (names : List ℕ) (ls : List (List ℕ)) where
  abbrev cs : List ℕ
  cs = columns_of sheet_names longest_line names

  held : length cs ≡ 4 → held_places cs ≡ Some (filled most_fields most_fields cs)
  held size = held-some cs (omega arith) (omega arith)

  below : {at : List ℕ} → held_places cs ≡ Some at → gathered [] (map (task_line at) ls) ≡ tasks_below cs ls
  below {at} e =
      ⊎_elim (λ none. absurd (no_option (sym held-none ∙ ap held_places (sym none) ∙ e)))
      (λ some.
      let same : filled most_fields most_fields cs ≡ at = ap (λ (o : Option (List ℕ)). unwrap_or o []) (sym (held some.0) ∙ e) in
      ap (λ (ps : List ℕ). gathered [] (map (task_line ps) ls)) (sym same) ∙ some_below cs some.0 ls)
      (all_placed sheet_names longest_line names)
    where
      no_option : {x : List ℕ} → None ≡ Some x → ⊥
      no_option e = cc

  none-below : held_places cs ≡ None → tasks_below cs ls ≡ []
  unfolding tasks_below
  none-below e =
      ⊎_elim (λ none. rw none refl) (λ some. absurd (no_option (sym e ∙ held some.0))) (all_placed sheet_names longest_line names)
    where
      no_option : {x : List ℕ} → None ≡ Some x → ⊥
      no_option e = cc

-- ---- of all bytes

no_lines : tasks_of_lines [] ≡ gathered [] []
unfolding tasks_of_lines gathered
no_lines = refl

module _ (bytes : List ℕ) (end : ℕ) (e : end ≡ piece_end (byte "\n") bytes 0) where
  abbrev names : List ℕ
  names = take end bytes

  abbrev under : List (List ℕ)
  under = lines (drop (end + 1) bytes)

  -- with bytes there is a first line, and with none there are no lines
  some-bytes : 0 < length bytes → sheet_tasks bytes ≡ tasks_below (columns_of sheet_names longest_line names) under
  unfolding sheet_tasks tasks_of_lines
  some-bytes h = ap tasks_of_lines (lines_next bytes 0 end e h) ∙ rw (sub-zero end)

  no_bytes : length bytes ≤ 0 → (sheet_tasks bytes ≡ gathered [] []) × (under ≡ [])
  unfolding sheet_tasks
  no_bytes h = (ap tasks_of_lines (lines_none bytes 0 h) ∙ no_lines, lines_none bytes (end + 1) (omega arith))

  pub by_names : {at : List ℕ} → held_places (columns_of sheet_names longest_line names) ≡ Some at → gathered [] (map (task_line at) under) ≡ sheet_tasks bytes
  by_names {at} p = go (ltb 0 (length bytes)) refl
    where
      go : (t : Bool) → ltb 0 (length bytes) ≡ t → gathered [] (map (task_line at) under) ≡ sheet_tasks bytes
      go true t = below names under p ∙ sym (some-bytes (ltb-true 0 (length bytes) t))
      go false t = let none = no_bytes (ltb-false 0 (length bytes) t) in ap (λ (ls : List (List ℕ)). gathered [] (map (task_line at) ls)) none.1 ∙ sym none.0

  pub bad-names : held_places (columns_of sheet_names longest_line names) ≡ None → sheet_tasks bytes ≡ []
  unfolding gathered
  bad-names p = go (ltb 0 (length bytes)) refl
    where
      go : (t : Bool) → ltb 0 (length bytes) ≡ t → sheet_tasks bytes ≡ []
      go true t = some-bytes (ltb-true 0 (length bytes) t) ∙ none-below names under p
      go false t = (no_bytes (ltb-false 0 (length bytes) t)).0
