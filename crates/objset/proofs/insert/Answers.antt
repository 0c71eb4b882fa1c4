-- `objset::insert` meets its contract: `|` with the mask adds the object.
use mathlib.Core.Path.{◌∙◌, ap}
use lib.Bits.{bit_or}
use borrow.Author.Rules.{rules}
use Rattle.objset.proofs.Bitwise.{or-mask}
use Rattle.objset.proofs.insert.Goals as goal

pub returns : goal.returns
returns c = ap (bit_or c.args.s) c.mask.ensures ∙ or-mask c.args.s c.args.d (search rules)
