-- `objset::within` meets its contract: a word below 2 to the power n has no digit from n on.
use mathlib.Core.Path.{◌∙◌, ap, sym}
use Prim.Native.Nat.{ℕ}
use lib.Dec.{ltb}
use borrow.Author.Rules.{rules}
use borrow.Author.Tests.{le-leb}
use Rattle.objset.proofs.Bitwise.{shifted_one, less-below, all-below}
use Rattle.objset.proofs.within.Goals as goal

pub returns-then-n-ge-OBJECTS : goal.returns-then-n-ge-OBJECTS
returns-then-n-ge-OBJECTS c =
    le-leb 64 c.args.n (search rules) ∙ sym (all-below c.args.s c.args.n (search rules) (search rules))

pub returns-else-n-ge-OBJECTS : goal.returns-else-n-ge-OBJECTS
returns-else-n-ge-OBJECTS c =
    ap (λ (m : ℕ). ltb c.args.s m) (shifted_one c.args.n (search rules))
    ∙ less-below c.args.s c.args.n (search rules) (search rules)
