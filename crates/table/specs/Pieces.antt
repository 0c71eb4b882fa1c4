-- A list of bytes cut at a byte, and the lines of a file.
use Rattle.std.specs.Prelude.{ℕ, Bool, true, cond, not, ◌&&◌, List, [], ◌∷◌, eqb}
use Rattle.decimal.specs.Bytes.{byte}

-- a byte in front of the first piece
unfoldable pub onto : ℕ → List (List ℕ) → List (List ℕ)
onto b [] = (b ∷ []) ∷ []
onto b (p ∷ ps) = (b ∷ p) ∷ ps

-- the pieces of a list before, between and after the places of the byte `at`: one piece more than there are such places
unfoldable pub pieces : ℕ → List ℕ → List (List ℕ)
pieces at [] = [] ∷ []
pieces at (b ∷ bs) = cond (eqb b at) ([] ∷ pieces at bs) (onto b (pieces at bs))

-- without a last piece that has no byte
unfoldable pub without_last_empty : List (List ℕ) → List (List ℕ)
without_last_empty [] = []
without_last_empty ([] ∷ []) = []
without_last_empty ((b ∷ bs) ∷ []) = (b ∷ bs) ∷ []
without_last_empty (p ∷ q ∷ ps) = p ∷ without_last_empty (q ∷ ps)

-- the lines of a file, without their newlines; the last newline may be missing
unfoldable pub lines : List ℕ → List (List ℕ)
lines file = without_last_empty (pieces (byte "\n") file)

-- whether a byte is nowhere in a list
unfoldable pub free : ℕ → List ℕ → Bool
free at [] = true
free at (b ∷ bs) = not (eqb b at) && free at bs
