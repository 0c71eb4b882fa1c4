-- `objset::contains` meets its contract: the shift moves the digit of d to the last place.
use mathlib.Core.Path.{◌∙◌, sym}
use borrow.Author.Rules.{rules}
use borrow.Author.Tests.{le-ltb}
use Rattle.objset.specs.Objset.{has}
use Rattle.objset.proofs.Laws.{has-outside}
use Rattle.objset.proofs.contains.Goals as goal

pub returns-then-d-lt-OBJECTS : goal.returns-then-d-lt-OBJECTS
unfolding has
returns-then-d-lt-OBJECTS c = search rules

pub returns-else-d-lt-OBJECTS : goal.returns-else-d-lt-OBJECTS
returns-else-d-lt-OBJECTS c =
    le-ltb c.args.d 64 (search rules) ∙ sym (has-outside c.args.s c.args.d (search rules) (search rules))
