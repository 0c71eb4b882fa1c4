-- `objset::remove` meets its contract: `&` with the complement of the mask takes the object out.
use mathlib.Core.Path.{◌∙◌, ap}
use Prim.Native.Nat.{ℕ, ◌-◌, ◌^◌}
use lib.Bits.{bit_and}
use borrow.Author.Rules.{rules}
use Rattle.objset.proofs.Bitwise.{and-not-mask}
use Rattle.objset.proofs.remove.Goals as goal

pub returns : goal.returns
returns c =
    ap (λ (m : ℕ). bit_and c.args.s (2 ^ 64 - 1 - m)) c.mask.ensures
    ∙ and-not-mask c.args.s c.args.d (search rules)
