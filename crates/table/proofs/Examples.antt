-- Lines at the edges of the rule, with other limits and other names, as tables that antt computes.
use mathlib.Core.Path.{◌≡◌, refl}
use mathlib.Core.List.{List, [], ◌∷◌, map}
use Prim.Native.Nat.{ℕ}
use denote.Ref.{Bor}
use Rattle.std.specs.Prelude.{Option, Some, None, option_map}
use Rattle.decimal.specs.Bytes.{ascii}
use Rattle.table.specs.Pieces.{onto, pieces}
use Rattle.table.specs.Fields.{until_byte, piece_end, field_end, after_field, fields_of, place, places_of, all_stand, columns, columns_of}
use Rattle.table.specs.Cut.{filled, beginnings, marked, cut_of, held_places}

abbrev a : List ℕ
a = ascii "a"

abbrev b : List ℕ
b = ascii "b"

abbrev c : List ℕ
c = ascii "c"

abbrev d : List ℕ
d = ascii "d"

abbrev e : List ℕ
e = ascii "e"

-- ---- fields: the longest line, how many fields are asked for, the line, its fields

abbrev field_rows : List (ℕ × ℕ × List ℕ × List (List ℕ))
field_rows =
    -- exactly at the limit, and one byte more
    (7, 3, ascii "a bb cc", a ∷ ascii "bb" ∷ ascii "cc" ∷ [])
    ∷ (6, 3, ascii "a bb cc", [])
    -- fewer fields than asked for, and more
    ∷ (7, 4, ascii "a bb cc", [])
    ∷ (7, 2, ascii "a bb cc", [])
    -- two spaces in a row, a space in front, a space at the end: a field without a byte
    ∷ (9, 3, ascii "a  b", a ∷ [] ∷ b ∷ [])
    ∷ (9, 2, ascii "a  b", [])
    ∷ (9, 2, ascii " a", [] ∷ a ∷ [])
    ∷ (9, 2, ascii "a ", a ∷ [] ∷ [])
    -- a line without a byte has one field
    ∷ (9, 1, [], [] ∷ [])
    ∷ (9, 0, [], [])
    -- five
    ∷ (9, 5, ascii "a b c d e", a ∷ b ∷ c ∷ d ∷ e ∷ [])
    ∷ []

each-fields : map (λ row. fields_of row.0 row.1 row.2) field_rows ≡ map (λ row. row.3) field_rows
unfolding fields_of pieces onto
each-fields = refl

-- ---- what `cut` finds of the same kind of lines: where the fields begin, where one more would, and how many there are

abbrev cut_rows : List (ℕ × ℕ × List ℕ × Option (List ℕ × ℕ))
cut_rows =
    (7, 3, ascii "a bb cc", Some (0 ∷ 2 ∷ 5 ∷ 8 ∷ 0 ∷ 0 ∷ [], 3))
    ∷ (9, 2, ascii "a ", Some (0 ∷ 2 ∷ 3 ∷ 0 ∷ 0 ∷ 0 ∷ [], 2))
    ∷ (9, 1, [], Some (0 ∷ 1 ∷ 0 ∷ 0 ∷ 0 ∷ 0 ∷ [], 1))
    ∷ (9, 5, ascii "a b c d e", Some (0 ∷ 2 ∷ 4 ∷ 6 ∷ 8 ∷ 10 ∷ [], 5))
    -- too long, and more fields than are ever looked for
    ∷ (6, 3, ascii "a bb cc", None)
    ∷ (11, 6, ascii "a b c d e f", None)
    ∷ []

each-cut : (at : Bor (List ℕ)) → map (λ row. option_map (λ f. (f.begins, f.count)) (cut_of row.0 row.1 (record at { now = row.2 }))) cut_rows ≡ map (λ row. row.3) cut_rows
unfolding cut_of marked filled beginnings after_field field_end piece_end until_byte fields_of pieces onto
each-cut at = refl

-- ---- lines of names: the names, the longest line, the line, the place of each name

abbrev three : List (List ℕ)
three = a ∷ b ∷ c ∷ []

abbrev five : List (List ℕ)
five = a ∷ b ∷ c ∷ d ∷ e ∷ []

abbrev name_rows : List (List (List ℕ) × ℕ × List ℕ × List ℕ)
name_rows =
    (three, 5, ascii "a b c", 0 ∷ 1 ∷ 2 ∷ [])
    ∷ (three, 5, ascii "c a b", 1 ∷ 2 ∷ 0 ∷ [])
    ∷ (five, 9, ascii "e d c b a", 4 ∷ 3 ∷ 2 ∷ 1 ∷ 0 ∷ [])
    -- one byte too long, one missing, one twice, one too many, two spaces in a row, a space at the end, no byte
    ∷ (three, 4, ascii "a b c", [])
    ∷ (three, 9, ascii "a b d", [])
    ∷ (three, 9, ascii "a b b", [])
    ∷ (three, 9, ascii "a b c c", [])
    ∷ (three, 9, ascii "a b", [])
    ∷ (three, 9, ascii "a  b c", [])
    ∷ (three, 9, ascii "a b c ", [])
    ∷ (five, 9, [], [])
    ∷ []

each-order : map (λ row. columns_of row.0 row.1 row.2) name_rows ≡ map (λ row. row.3) name_rows
unfolding columns_of columns all_stand places_of place fields_of pieces onto
each-order = refl

-- the same as they are held: 5 past the names
each-held : map held_places ((1 ∷ 2 ∷ 0 ∷ []) ∷ [] ∷ (0 ∷ 1 ∷ 2 ∷ 3 ∷ 4 ∷ 5 ∷ []) ∷ []) ≡ Some (1 ∷ 2 ∷ 0 ∷ 5 ∷ 5 ∷ []) ∷ None ∷ None ∷ []
unfolding held_places filled
each-held = refl
