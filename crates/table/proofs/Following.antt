-- The pieces of a line, and the lines of a file, one after another: those from a place on, by where the first of them ends.
use mathlib.Core.Path.{◌≡◌, refl, sym, ap, ◌∙◌}
use mathlib.Core.Bool.{Bool, true, false, cond}
use mathlib.Core.List.{List, [], ◌∷◌}
use Prim.Native.Nat.{ℕ, ◌+◌, ◌-◌, ◌≤◌, ◌<◌}
use native.Mathlib.Omega.{arith}
use lib.Dec.{leb, ltb}
use lib.ListN.{length, drop, drop_of_length-le, length-drop}
use lib.Seq.{take_all}
use borrow.Author.Tests.{le-leb, lt-leb, ltb-true, ltb-false}
use Rattle.decimal.specs.Bytes.{byte}
use Rattle.table.specs.Pieces.{pieces, without_last_empty, lines}
use Rattle.table.specs.Fields.{piece_end}
use Rattle.table.proofs.PieceEnds.{bytes_between, cut_at, cut-last}
use Rattle.table.proofs.Laws.{some-piece}

-- ---- pieces

-- the pieces from a place on; none past the end
abbrev pub pieces_from : ℕ → List ℕ → ℕ → List (List ℕ)
pieces_from at line from = cond (leb from (length line)) (pieces at (drop from line)) []

-- up to the end of the line they are the pieces of what is left
pieces-some : (at : ℕ) (line : List ℕ) (from : ℕ) → from ≤ length line → pieces at (drop from line) ≡ pieces_from at line from
pieces-some at line from h = rw (le-leb from (length line) h) refl

pub pieces_none : (at : ℕ) (line : List ℕ) (from : ℕ) → length line < from → pieces_from at line from ≡ []
pieces_none at line from h = rw (lt-leb from (length line) h)

-- up to the end of the line, all of it
between-all : (line : List ℕ) (from to : ℕ) → length line ≤ to → bytes_between from to line ≡ drop from line
between-all line from to h = take_all (to - from) (drop from line) (omega (arith, length-drop from line))

pub pieces-next : (at : ℕ) (line : List ℕ) (from to : ℕ) → to ≡ piece_end at line from → from ≤ length line
    → pieces_from at line from ≡ bytes_between from to line ∷ pieces_from at line (to + 1)
pieces-next at line from to e h = rw (le-leb from (length line) h) (go (ltb to (length line)) refl)
  where
    go : (t : Bool) → ltb to (length line) ≡ t → pieces at (drop from line) ≡ bytes_between from to line ∷ pieces_from at line (to + 1)
    go true t =
        let l : to < length line = ltb-true to (length line) t in
        let m : to + 1 ≤ length line = omega arith in
        cut_at at line from to e l ∙ rw (le-leb (to + 1) (length line) m)
    go false t =
        let l : length line ≤ to = ltb-false to (length line) t in
        let m : length line < to + 1 = omega arith in
        cut-last at line from to e l ∙ rw (between-all line from to l, lt-leb (to + 1) (length line) m)

-- ---- lines

-- the lines from a place on
abbrev pub lines_from : List ℕ → ℕ → List (List ℕ)
lines_from file from = lines (drop from file)

pub lines_none : (file : List ℕ) (from : ℕ) → length file ≤ from → lines_from file from ≡ []
unfolding lines pieces without_last_empty
lines_none file from h = rw (drop_of_length-le file h)

more-than-one : (p : List ℕ) (ps : List (List ℕ)) → ((q : List ℕ) × (qs : List (List ℕ)) × (ps ≡ q ∷ qs)) → without_last_empty (p ∷ ps) ≡ p ∷ without_last_empty ps
unfolding without_last_empty
more-than-one p ps s = rw s.2

only_one : (p : List ℕ) → 0 < length p → without_last_empty (p ∷ []) ≡ p ∷ []
unfolding without_last_empty
only_one [] h = absurd (omega arith)
only_one (b ∷ bs) h = refl

-- a line is a piece, and what follows it are the lines of what follows
pub lines_next : (file : List ℕ) (from to : ℕ) → to ≡ piece_end (byte "\n") file from → from < length file
    → lines_from file from ≡ bytes_between from to file ∷ lines_from file (to + 1)
unfolding lines
lines_next file from to e h = go (ltb to (length file)) refl
  where
    line : List ℕ
    line = bytes_between from to file

    cut : pieces (byte "\n") (drop from file) ≡ line ∷ pieces_from (byte "\n") file (to + 1)
    cut = pieces-some (byte "\n") file from (omega (arith, h)) ∙ pieces-next (byte "\n") file from to e (omega (arith, h))

    go : (t : Bool) → ltb to (length file) ≡ t → lines_from file from ≡ line ∷ lines_from file (to + 1)
    go true t =
        let l : to < length file = ltb-true to (length file) t in
        let more = pieces-some (byte "\n") file (to + 1) (omega (arith, l)) in
        ap without_last_empty (cut ∙ ap (λ (ps : List (List ℕ)). line ∷ ps) (sym more))
        ∙ more-than-one line (pieces (byte "\n") (drop (to + 1) file)) (_, _, some-piece (byte "\n") (drop (to + 1) file))
    go false t =
        let l : length file ≤ to = ltb-false to (length file) t in
        ap without_last_empty (cut ∙ ap (λ (ps : List (List ℕ)). line ∷ ps) (pieces_none (byte "\n") file (to + 1) (omega (arith, l))))
        ∙ only_one line (omega (arith, h, ap length (between-all file from to l), length-drop from file))
        ∙ ap (λ (ls : List (List ℕ)). line ∷ ls) (sym (lines_none file (to + 1) (omega (arith, l))))
