-- What the functions that read a line tell each other: where its fields begin, and where its names stand.
use Rattle.std.specs.Prelude.{◌≡◌, ℕ, zero, suc, ◌-◌, cond, ◌&&◌, List, [], ◌∷◌, ◌++◌, Option, Some, None, leb, ltb, length, replicate, take}
use denote.Ref.{Bor}
use Rattle.decimal.specs.Bytes.{byte}
use Rattle.table.specs.declared.Fields.{Fields}
use Rattle.table.specs.Pieces.{pieces}
use Rattle.table.specs.Fields.{after_field, fields_of}

-- the most fields that a line may have, and what is held past the places of the names
abbrev pub most_fields : ℕ
most_fields = 5

-- numbers, and one and the same at each place past them
unfoldable pub filled : ℕ → ℕ → List ℕ → List ℕ
filled places n ns = ns ++ replicate (places - length ns) n

-- where so many fields of a line begin, the first of them at this place
unfoldable pub beginnings : ℕ → List ℕ → ℕ → List ℕ
beginnings zero line from = []
beginnings (suc n) line from = from ∷ beginnings n line (after_field line from)

-- where the first fields of a line begin, and where the one after them would
unfoldable pub marked : ℕ → Bor (List ℕ) → Fields
marked n line = record { line = line; begins = filled (suc most_fields) 0 (beginnings (suc n) line.now 0); count = n }

-- where the fields of a line begin; none, where it is too long, has more or fewer than were asked for, or none were asked for, or more than a
-- line may have
unfoldable pub cut_of : ℕ → ℕ → Bor (List ℕ) → Option Fields
cut_of longest count line = cond (ltb 0 (length (fields_of longest count line.now)) && leb count most_fields) (Some (marked count line)) None

-- the fields are those that were found in their line
pub record Fielded (f : Fields) : Type 0 where
  pub longest : ℕ
  pub asked : ℕ
  pub found : cut_of longest asked f.line ≡ Some f

-- the bytes of the fields that were found
unfoldable pub fields_by : Fields → List (List ℕ)
fields_by f = take f.count (pieces (byte " ") f.line.now)

-- where each name stands, as it is held; none where they stand nowhere, or where there are more names than a line may have fields
unfoldable pub held_places : List ℕ → Option (List ℕ)
held_places ps = cond (ltb 0 (length ps) && leb (length ps) most_fields) (Some (filled most_fields most_fields ps)) None
