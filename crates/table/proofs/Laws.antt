-- What a caller knows of lines and pieces: how they go by what stands in front of a newline, or of another byte that cuts.
use mathlib.Core.Path.{◌≡◌, refl, ap, ◌∙◌}
use mathlib.Core.Bool.{Bool, true, false, not, cond, and-eq-true_iff}
use mathlib.Core.List.{List, [], ◌∷◌, ◌++◌, append-nil}
use Prim.Native.Nat.{ℕ, ◌+◌, ◌-◌, ◌<◌}
use native.Mathlib.Omega.{arith}
use lib.Dec.{eqb}
use lib.ListN.{length}
use Rattle.std.specs.List.{count_by}
use Rattle.std.proofs.lemmas.List.Recursion.{is_count_by}
use borrow.Author.Tests.{eq-eqb, not-true}
use Rattle.table.specs.Pieces.{onto, pieces, without_last_empty, lines, free}

-- ---- the first piece of a list, and the others

unfoldable pub first : List (List ℕ) → List ℕ
first [] = []
first (p ∷ ps) = p

unfoldable pub others : List (List ℕ) → List (List ℕ)
others [] = []
others (p ∷ ps) = ps

onto-first : (b : ℕ) (ps : List (List ℕ)) → onto b ps ≡ (b ∷ first ps) ∷ others ps
unfolding onto first others
onto-first b [] = refl
onto-first b (p ∷ ps) = refl

some-cut : (t : Bool) (b : ℕ) (ps : List (List ℕ))
    → cond t ([] ∷ ps) (onto b ps) ≡ first (cond t ([] ∷ ps) (onto b ps)) ∷ others (cond t ([] ∷ ps) (onto b ps))
unfolding first others
some-cut true b ps = refl
some-cut false b ps = rw onto-first

-- there is a first piece
pub some-piece : (at : ℕ) (bs : List ℕ) → pieces at bs ≡ first (pieces at bs) ∷ others (pieces at bs)
unfolding pieces first others
some-piece at [] = refl
some-piece at (b ∷ bs) = some-cut (eqb b at) b (pieces at bs)

-- one piece more than there are places where the list is cut
one_counted : (t : Bool) (b : ℕ) (ps : List (List ℕ)) → 0 < length ps
    → length (cond t ([] ∷ ps) (onto b ps)) - 1 ≡ cond t (1 + (length ps - 1)) (length ps - 1)
unfolding onto
one_counted true b ps h = omega arith
one_counted false b [] h = absurd (omega arith)
one_counted false b (p ∷ ps) h = refl

pub how-many-pieces : (at : ℕ) (bs : List ℕ) → count_by (λ b. eqb b at) bs + 1 ≡ length (pieces at bs)
unfolding pieces
how-many-pieces at bs =
    let counted = is_count_by (λ bs. length (pieces at bs) - 1) (λ b. eqb b at) refl
    (λ b bs. one_counted (eqb b at) b (pieces at bs) (omega (arith, ap length (some-piece at bs)))) bs in
    omega (arith, counted, ap length (some-piece at bs))

-- bytes that are not cut stand in front of the first piece
pub pieces-begun : (at : ℕ) (p rest : List ℕ) → free at p ≡ true → pieces at (p ++ rest) ≡ (p ++ first (pieces at rest)) ∷ others (pieces at rest)
unfolding free pieces onto
pieces-begun at [] rest h = some-piece at rest
pieces-begun at (b ∷ p) rest h =
    let k = (and-eq-true_iff (not (eqb b at)) (free at p)).0 h in
    rw (not-true (eqb b at) k.0, pieces-begun at p rest k.1)

pub pieces-cut : (at : ℕ) (p rest : List ℕ) → free at p ≡ true → pieces at (p ++ at ∷ rest) ≡ p ∷ pieces at rest
unfolding pieces first others
pieces-cut at p rest h =
    let here : pieces at (at ∷ rest) ≡ [] ∷ pieces at rest = rw (eq-eqb at at refl) in
    pieces-begun at p (at ∷ rest) h ∙ rw (here, append-nil)

-- ---- the lines of a file

pub lines-empty : lines [] ≡ []
unfolding lines pieces without_last_empty
lines-empty = refl

-- a newline ends a line
pub lines-newline : (p rest : List ℕ) → free 10 p ≡ true → lines (p ++ 10 ∷ rest) ≡ p ∷ lines rest
unfolding lines without_last_empty
lines-newline p rest h = rw (pieces-cut 10 p rest h, some-piece 10 rest)

-- the rest of a line whose first bytes are gone, and the lines after it
unfoldable pub rest-of-line : List ℕ → List ℕ
rest-of-line rest = first (pieces 10 rest)

unfoldable pub later-lines : List ℕ → List (List ℕ)
later-lines rest = without_last_empty (others (pieces 10 rest))

last-kept : (b : ℕ) (p : List ℕ) (ps : List (List ℕ)) → without_last_empty ((b ∷ p) ∷ ps) ≡ (b ∷ p) ∷ without_last_empty ps
unfolding without_last_empty
last-kept b p [] = refl
last-kept b p (q ∷ ps) = refl

-- bytes that hold no newline begin a line
pub lines-begun : (b : ℕ) (p rest : List ℕ) → free 10 (b ∷ p) ≡ true → lines (b ∷ p ++ rest) ≡ (b ∷ p ++ rest-of-line rest) ∷ later-lines rest
unfolding lines rest-of-line later-lines
lines-begun b p rest h = rw (pieces-begun 10 (b ∷ p) rest h, last-kept)

-- the last newline may be missing
pub lines-last : (b : ℕ) (p : List ℕ) → free 10 (b ∷ p) ≡ true → lines (b ∷ p) ≡ (b ∷ p) ∷ []
unfolding rest-of-line later-lines pieces first others without_last_empty
lines-last b p h = rw append-nil at (lines-begun b p [] h)
