-- The parts of a line whose fields were found: what the line spells is what they spell.
use mathlib.Core.Path.{◌≡◌, sym, ◌∙◌}
use mathlib.Core.List.{List, []}
use Prim.Native.Nat.{ℕ}
use denote.Ref.{Bor}
use lib.ListN.{get_or}
use Rattle.std.specs.Prelude.{Some, None}
use Rattle.table.specs.declared.Fields.{Fields}
use Rattle.table.specs.Cut.{cut_of, fields_by}
use Rattle.table.proofs.Cuts.{found_in, cut_found, cut-none}
use native.Mathlib.Omega.{arith}
use Rattle.script.specs.declared.Columns.{Columns}
use Rattle.script.specs.Line.{longest, fields, verb, field, whole, meant, spells}

-- a line without its four fields
pub no_fields-spelled : (at : Columns) (line : Bor (List ℕ)) → None ≡ cut_of longest 4 line → spells at line.now ≡ None
unfolding spells meant fields verb whole
no_fields-spelled at line e = rw (cut-none longest 4 line (sym e) (omega arith))

module _ (at : Columns) (line : Bor (List ℕ)) (f : Fields) (e : Some f ≡ cut_of longest 4 line) where
  abbrev part : ℕ → List ℕ
  part n = get_or (fields_by f) n []

  found : fields line.now ≡ fields_by f
  unfolding fields
  found = (cut_found longest 4 line (sym e)).fields ∙ sym (found_in longest 4 line (sym e))

  pub parts-spelled : (name core card value : List ℕ) → name ≡ part at.call → core ≡ part at.core → card ≡ part at.card → value ≡ part at.value
      → spells at line.now ≡ whole (verb name) (field core) (field card) (field value)
  unfolding spells meant
  parts-spelled name core card value n c d v = rw (found, n, c, d, v)
