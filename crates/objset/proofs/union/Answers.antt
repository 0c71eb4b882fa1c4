-- `objset::union` meets its contract: `|` is the union.
use borrow.Author.Rules.{rules}
use Rattle.objset.proofs.Bitwise.{or-joined}
use Rattle.objset.proofs.union.Goals as goal

pub returns : goal.returns
returns c = or-joined c.args.a c.args.b (search rules) (search rules)
