-- Which call a line spells, and which order of the fields a line of names gives.
use Rattle.std.specs.Prelude.{ℕ, cond, List, [], ◌∷◌, Option, Some, None, option_map, eqb, leb, length, get_or}
use Rattle.std.specs.Str.{bytes_eq}
use Rattle.decimal.specs.Bytes.{ascii}
use Rattle.decimal.specs.Reading.{read_as_number}
use Rattle.script.specs.declared.Call.{Call}
use Rattle.script.specs.declared.Columns.{Columns}
use Rattle.script.specs.declared.Verb.{Verb}
use Rattle.script.specs.declared.Field.{Field}
use Rattle.table.specs.Fields.{fields_of, columns_of}

-- ---- the fields of a line

-- the most bytes that a line may have, without its newline
abbrev pub longest : ℕ
longest = 64

-- the four fields of a line, one space between; none where the line is too long or has more or fewer fields
unfoldable pub fields : List ℕ → List (List ℕ)
fields line = fields_of longest 4 line

-- ---- the line of names: call, core, card, value, each once, in any order

abbrev pub call_name : List ℕ
call_name = ascii "call"

abbrev pub core_name : List ℕ
core_name = ascii "core"

abbrev pub card_name : List ℕ
card_name = ascii "card"

abbrev pub value_name : List ℕ
value_name = ascii "value"

abbrev pub four_names : List (List ℕ)
four_names = call_name ∷ core_name ∷ card_name ∷ value_name ∷ []

-- the order of the fields, by the places of the four names; none where they stand nowhere
unfoldable pub ordered : List ℕ → Option Columns
ordered at = cond (eqb (length at) 4) (Some (record { call = get_or at 0 0; core = get_or at 1 0; card = get_or at 2 0; value = get_or at 3 0 })) None

unfoldable pub names : List ℕ → Option Columns
names line = ordered (columns_of four_names longest line)

-- ---- a line of values

-- how the calls are written
unfoldable pub verb : List ℕ → Option Verb
verb f =
    cond (bytes_eq f (ascii "setup")) (Some Verb.Setup)
    (cond (bytes_eq f (ascii "release")) (Some Verb.Release)
    (cond (bytes_eq f (ascii "begin")) (Some Verb.Begin)
    (cond (bytes_eq f (ascii "read")) (Some Verb.Read)
    (cond (bytes_eq f (ascii "write")) (Some Verb.Write)
    (cond (bytes_eq f (ascii "commit")) (Some Verb.Commit)
    (cond (bytes_eq f (ascii "giveup")) (Some Verb.GiveUp)
    (cond (bytes_eq f (ascii "finish")) (Some Verb.Finish) None)))))))

-- an unused field is `-`; numbers have no leading zeros and are at most 4,294,967,295
unfoldable pub field : List ℕ → Option Field
field f = cond (bytes_eq f (ascii "-")) (Some Field.Unused) (option_map Field.Number (read_as_number f))

-- a field that must be a number: the line goes on with it, and spells nothing where it is none
unfoldable pub with_number : Field → (ℕ → Option Call) → Option Call
with_number Field.Unused k = None
with_number (Field.Number n) k = k n

-- a field that must be unused: the line spells nothing where it is not
unfoldable pub with_dash : Field → Option Call → Option Call
with_dash Field.Unused l = l
with_dash (Field.Number n) l = None

-- setup puts its two numbers under core and card; release puts the job number, at most 65,535, under card and the deadline under value
unfoldable pub spelt : Verb → Field → Field → Field → Option Call
spelt Verb.Setup core card value = with_number core (λ n. with_number card (λ d. with_dash value (Some (Call.Setup n d))))
spelt Verb.Release core card value =
    with_number core (λ c. with_number card (λ j. with_number value (λ t. cond (leb j 65535) (Some (Call.Release c j t)) None)))
spelt Verb.Begin core card value = with_number core (λ c. with_dash card (with_dash value (Some (Call.Begin c))))
spelt Verb.Read core card value = with_number core (λ c. with_number card (λ d. with_dash value (Some (Call.Read c d))))
spelt Verb.Write core card value = with_number core (λ c. with_number card (λ d. with_number value (λ v. Some (Call.Write c d v))))
spelt Verb.Commit core card value = with_number core (λ c. with_dash card (with_dash value (Some (Call.Commit c))))
spelt Verb.GiveUp core card value = with_number core (λ c. with_dash card (with_dash value (Some (Call.GiveUp c))))
spelt Verb.Finish core card value = with_number core (λ c. with_dash card (with_dash value (Some (Call.Finish c))))

-- the call that a name and three fields spell; none where one of them is malformed
unfoldable pub whole : Option Verb → Option Field → Option Field → Option Field → Option Call
whole (Some v) (Some core) (Some card) (Some value) = spelt v core card value
whole v core card value = None

-- the call that four fields in this order spell
unfoldable pub meant : Columns → List (List ℕ) → Option Call
meant at fs =
    whole (verb (get_or fs at.call [])) (field (get_or fs at.core [])) (field (get_or fs at.card []))
    (field (get_or fs at.value []))

-- the call that a line spells, or that it spells none
unfoldable pub spells : Columns → List ℕ → Option Call
spells at line = meant at (fields line)
