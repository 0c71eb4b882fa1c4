-- `table::heading::how_many` meets its contract: there is one field more than there are spaces.
use Rattle.std.proofs.Common.{rules, arith}
use mathlib.Core.Path.{◌≡◌}
use lib.Dec.{eqb}
use Rattle.std.specs.List.{count_by}
use Rattle.table.proofs.Laws.{how-many-pieces}
use Rattle.table.proofs.heading.how_many.Goals as goal

pub returns : goal.returns
returns c =
    let spaces : c.count.result ≡ count_by (λ b. eqb b 32) c.args.line.now = search rules in
    omega (arith, spaces, how-many-pieces 32 c.args.line.now)
