-- The fields of a line, one space between, and where names stand among them.
use Rattle.std.specs.Prelude.{ℕ, suc, ◌+◌, Bool, true, cond, ◌&&◌, List, [], ◌∷◌, eqb, leb, ltb, length, drop}
use Rattle.decimal.specs.Bytes.{byte}
use Rattle.std.specs.Str.{bytes_eq}
use Rattle.table.specs.Pieces.{pieces}

-- ---- where a piece of a line ends

-- how many bytes stand before the first byte `at`, or before the end
unfoldable pub until_byte : ℕ → List ℕ → ℕ
until_byte at [] = 0
until_byte at (b ∷ bs) = cond (eqb b at) 0 (suc (until_byte at bs))

-- where the piece that begins at a place ends: at the first byte `at` from there on, or at the line's end; past the end, at the place itself
unfoldable pub piece_end : ℕ → List ℕ → ℕ → ℕ
piece_end at line from = from + until_byte at (drop from line)

-- where the field that begins at a place ends: at the first space from there on, or at the line's end; past the end, at the place itself
unfoldable pub field_end : List ℕ → ℕ → ℕ
field_end line from = piece_end (byte " ") line from

-- where the field after the one that begins at a place begins: past that one and its space, past the line's end where it is the last;
-- past the end, at the place itself
unfoldable pub after_field : List ℕ → ℕ → ℕ
after_field line from = cond (leb from (length line)) (field_end line from + 1) from

-- ---- the fields of a line

-- the fields of a line, one space between; none where the line is longer than `longest`, or has more or fewer fields than `count`
unfoldable pub fields_of : ℕ → ℕ → List ℕ → List (List ℕ)
fields_of longest count line = cond (leb (length line) longest && eqb (length (pieces (byte " ") line)) count) (pieces (byte " ") line) []

-- ---- the line of names: each once, in any order

-- the place of the first field that is this name; past the last, where none is
unfoldable pub place : List ℕ → List (List ℕ) → ℕ
place name [] = 0
place name (f ∷ fs) = cond (bytes_eq f name) 0 (suc (place name fs))

abbrev pub stands : List ℕ → List (List ℕ) → Bool
stands name fs = ltb (place name fs) (length fs)

-- the place of each name, in the order of the names
unfoldable pub places_of : List (List ℕ) → List (List ℕ) → List ℕ
places_of [] fs = []
places_of (name ∷ names) fs = place name fs ∷ places_of names fs

unfoldable pub all_stand : List (List ℕ) → List (List ℕ) → Bool
all_stand [] fs = true
all_stand (name ∷ names) fs = stands name fs && all_stand names fs

-- where each name stands among fields; nowhere, where one is missing. As many names as fields that all stand in them stand in one each
unfoldable pub columns : List (List ℕ) → List (List ℕ) → List ℕ
columns names fs = cond (all_stand names fs) (places_of names fs) []

-- where each name stands in a line of names; nowhere, where the line is longer than `longest`, has more or fewer fields than there are
-- names, or one is missing
unfoldable pub columns_of : List (List ℕ) → ℕ → List ℕ → List ℕ
columns_of names longest line = columns names (fields_of longest (length names) line)
