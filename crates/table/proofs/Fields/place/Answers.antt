-- `table::Fields::place` meets its contract: the first field that is the name stands at the name's place.
use mathlib.Core.Path.{◌≡◌}
use mathlib.Core.Bool.{true, false}
use mathlib.Core.List.{[]}
use lib.ListN.{get_or}
use Rattle.std.proofs.Common.{rules}
use Rattle.std.proofs.lemmas.Iterator.{first_from_Range}
use Rattle.std.specs.Str.{bytes_eq}
use Rattle.table.specs.Cut.{fields_by}
use Rattle.table.proofs.Cuts.{how-many-found}
use Rattle.table.proofs.Places.{first_is}
use Rattle.table.proofs.Fields.place.Goals as goal

pub returns : goal.returns
returns c =
    let fs = fields_by c.args.self.now in
    let name = c.args.name.now in
    first_is name fs c.args.self.now.count (how-many-found c.requires) c.find.result
    (first_from_Range _ _ _ _ (λ i. bytes_eq (get_or fs i []) name ≡ true) (λ i. bytes_eq (get_or fs i []) name ≡ false) c.find.ensures.ran
    (λ x q k. search rules)
    (λ x q k. (search rules, search rules)))
