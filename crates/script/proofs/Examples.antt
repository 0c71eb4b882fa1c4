-- Lines at the edges of the rule, as tables that antt computes.
use mathlib.Core.Path.{◌≡◌, refl}
use mathlib.Core.Bool.{Bool, true, false, ◌&&◌}
use mathlib.Core.List.{List, [], ◌∷◌, ◌++◌, map}
use Prim.Native.Nat.{ℕ}
use lib.ListN.{get_or, replicate}
use Rattle.std.specs.Prelude.{Option, Some, None}
use Rattle.std.specs.Str.{bytes_eq}
use Rattle.decimal.specs.Bytes.{byte, ascii}
use Rattle.decimal.specs.Spelling.{spelling, spelling_in}
use Rattle.decimal.specs.Reading.{all_digits, no_leading_zero, value_after, is_number, read_as_number}
use Rattle.script.specs.declared.Call.{Call}
use Rattle.script.specs.declared.Columns.{Columns}
use Rattle.table.specs.Pieces.{onto, pieces}
use Rattle.table.specs.Fields.{fields_of, place, places_of, all_stand, columns, columns_of}
use Rattle.script.specs.Line.{call_name, core_name, card_name, value_name, four_names, fields, ordered, names, verb, field, with_number, with_dash, spelt, whole, meant, spells}

-- ---- words, and a line of them with one space between

abbrev setup : List ℕ
setup = ascii "setup"

abbrev release : List ℕ
release = ascii "release"

abbrev begin : List ℕ
begin = ascii "begin"

abbrev read : List ℕ
read = ascii "read"

abbrev write : List ℕ
write = ascii "write"

abbrev commit : List ℕ
commit = ascii "commit"

abbrev giveup : List ℕ
giveup = ascii "giveup"

abbrev finish : List ℕ
finish = ascii "finish"

abbrev dash : List ℕ
dash = ascii "-"

abbrev joined : List (List ℕ) → List ℕ
joined [] = []
joined (w ∷ []) = w
joined (w ∷ v ∷ ws) = w ++ ascii " " ++ joined (v ∷ ws)

-- ---- lines of values: each of the eight calls, then lines that spell none

abbrev in_order : Columns
in_order = record { call = 0; core = 1; card = 2; value = 3 }

abbrev table : List (List (List ℕ) × Option Call)
table =
    (setup ∷ spelling 2 ∷ spelling 64 ∷ dash ∷ [], Some (Call.Setup 2 64))
    ∷ (release ∷ spelling 0 ∷ spelling 65535 ∷ spelling 100 ∷ [], Some (Call.Release 0 65535 100))
    ∷ (begin ∷ spelling 1 ∷ dash ∷ dash ∷ [], Some (Call.Begin 1))
    ∷ (read ∷ spelling 1 ∷ spelling 0 ∷ dash ∷ [], Some (Call.Read 1 0))
    ∷ (write ∷ spelling 0 ∷ spelling 0 ∷ spelling 4294967295 ∷ [], Some (Call.Write 0 0 4294967295))
    ∷ (commit ∷ spelling 1 ∷ dash ∷ dash ∷ [], Some (Call.Commit 1))
    ∷ (giveup ∷ spelling 4294967295 ∷ dash ∷ dash ∷ [], Some (Call.GiveUp 4294967295))
    ∷ (finish ∷ spelling 10 ∷ dash ∷ dash ∷ [], Some (Call.Finish 10))
    -- an empty line, no call's name, a name cut short, a carriage return at the end
    ∷ ([], None)
    ∷ ([] ∷ spelling 1 ∷ dash ∷ dash ∷ [], None)
    ∷ (ascii "beg" ∷ spelling 1 ∷ dash ∷ dash ∷ [], None)
    ∷ (begin ∷ spelling 1 ∷ dash ∷ ascii "-\r" ∷ [], None)
    -- three fields, five, two spaces in a row, a space at the end, 65 bytes
    ∷ (begin ∷ spelling 1 ∷ dash ∷ [], None)
    ∷ (begin ∷ spelling 1 ∷ dash ∷ dash ∷ dash ∷ [], None)
    ∷ (begin ∷ [] ∷ spelling 1 ∷ dash ∷ dash ∷ [], None)
    ∷ (begin ∷ spelling 1 ∷ dash ∷ dash ∷ [] ∷ [], None)
    ∷ (begin ∷ spelling 1 ∷ dash ∷ replicate 55 (byte "-") ∷ [], None)
    -- a number where `-` is due, `-` where a number is, a leading zero, a job above 65,535, a number above 4,294,967,295
    ∷ (begin ∷ spelling 1 ∷ spelling 0 ∷ dash ∷ [], None)
    ∷ (read ∷ spelling 1 ∷ spelling 0 ∷ spelling 0 ∷ [], None)
    ∷ (write ∷ spelling 1 ∷ spelling 0 ∷ dash ∷ [], None)
    ∷ (finish ∷ dash ∷ dash ∷ dash ∷ [], None)
    ∷ (write ∷ spelling 1 ∷ spelling 0 ∷ ascii "01" ∷ [], None)
    ∷ (release ∷ spelling 0 ∷ spelling 65536 ∷ spelling 100 ∷ [], None)
    ∷ (write ∷ spelling 0 ∷ spelling 0 ∷ spelling 4294967296 ∷ [], None)
    ∷ []

each_line : map (λ row. spells in_order (joined row.0)) table ≡ map (λ row. row.1) table
unfolding spells meant fields fields_of pieces onto verb field with_number with_dash spelt whole read_as_number is_number all_digits no_leading_zero value_after spelling spelling_in
each_line = refl

-- ---- lines of names: all 24 orders of the four, then lines that give none

-- a word put at every place of a list
abbrev everywhere : List ℕ → List (List ℕ) → List (List (List ℕ))
everywhere w [] = (w ∷ []) ∷ []
everywhere w (v ∷ vs) = (w ∷ v ∷ vs) ∷ map (λ us. v ∷ us) (everywhere w vs)

abbrev each : List ℕ → List (List (List ℕ)) → List (List (List ℕ))
each w [] = []
each w (o ∷ os) = everywhere w o ++ each w os

abbrev orders : List (List ℕ) → List (List (List ℕ))
orders [] = [] ∷ []
orders (w ∷ ws) = each w (orders ws)

-- whether the places are those of the four names in this order
abbrev placed : List (List ℕ) → Option Columns → Bool
placed o (Some c) =
    bytes_eq (get_or o c.call []) call_name && bytes_eq (get_or o c.core []) core_name && bytes_eq (get_or o c.card []) card_name
    && bytes_eq (get_or o c.value []) value_name
placed o None = false

each-order : map (λ o. placed o (names (joined o))) (orders four_names) ≡ replicate 24 true
unfolding names ordered columns_of columns all_stand places_of fields_of pieces onto place
each-order = refl

-- no byte, one name missing, one twice, five, two spaces in a row, a space at the end
abbrev bad : List (List (List ℕ))
bad =
    []
    ∷ (call_name ∷ core_name ∷ card_name ∷ [])
    ∷ (call_name ∷ core_name ∷ card_name ∷ card_name ∷ [])
    ∷ (call_name ∷ core_name ∷ card_name ∷ value_name ∷ value_name ∷ [])
    ∷ (call_name ∷ [] ∷ core_name ∷ card_name ∷ value_name ∷ [])
    ∷ (call_name ∷ core_name ∷ card_name ∷ value_name ∷ [] ∷ [])
    ∷ []

bad-names : map (λ ws. names (joined ws)) bad ≡ replicate 6 None
unfolding names ordered columns_of columns all_stand places_of fields_of pieces onto place
bad-names = refl
