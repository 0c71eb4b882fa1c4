-- Joining and meeting over any number of words: object d stands in word d / 64 at place d % 64. A set of one word is the
-- list of that word.
use Rattle.std.specs.Prelude.{Bool, false, ◌||◌, List, [], ◌∷◌, ℕ, ◌/◌, ◌%◌, ◌^◌, ◌<◌, get_or}
use Rattle.objset.specs.Objset.{has, joined, meeting}

-- each entry of the list is a word of 64 digits
abbrev pub Words : List ℕ → Type 0
Words [] = Unit {0}
Words (x ∷ xs) = (x < 2 ^ 64) × Words xs

-- object d is in the set
unfoldable pub has_in : List ℕ → ℕ → Bool
has_in xs d = has (get_or xs (d / 64) 0) (d % 64)

-- the objects of both sets together, word by word
unfoldable pub joined_all : List ℕ → List ℕ → List ℕ
joined_all [] ys = ys
joined_all (x ∷ xs) [] = x ∷ xs
joined_all (x ∷ xs) (y ∷ ys) = joined x y ∷ joined_all xs ys

-- some object is in both sets, word by word
unfoldable pub meeting_all : List ℕ → List ℕ → Bool
meeting_all [] ys = false
meeting_all (x ∷ xs) [] = false
meeting_all (x ∷ xs) (y ∷ ys) = meeting x y || meeting_all xs ys
