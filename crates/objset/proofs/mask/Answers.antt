-- `objset::mask` meets its contract: the shift multiplies 1 by 2 to the power d.
use mathlib.Core.Path.{◌∙◌, sym}
use borrow.Author.Rules.{rules}
use Rattle.objset.proofs.Bitwise.{shifted_one, mask-inside, mask-outside}
use Rattle.objset.proofs.mask.Goals as goal

pub overflow_shl-result : goal.overflow_shl-result
overflow_shl-result c = search rules

pub returns-then-d-lt-OBJECTS : goal.returns-then-d-lt-OBJECTS
returns-then-d-lt-OBJECTS c = shifted_one c.args.d (search rules) ∙ sym (mask-inside c.args.d (search rules))

pub returns-else-d-lt-OBJECTS : goal.returns-else-d-lt-OBJECTS
returns-else-d-lt-OBJECTS c = sym (mask-outside c.args.d (search rules))
