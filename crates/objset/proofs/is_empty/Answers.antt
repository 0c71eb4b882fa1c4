-- `objset::is_empty` meets its contract: the word of the empty set, and of no other, is 0.
use borrow.Author.Rules.{rules}
use Rattle.objset.proofs.Bitwise.{zero-means-empty}
use Rattle.objset.proofs.is_empty.Goals as goal

pub returns : goal.returns
returns c = zero-means-empty c.args.s (search rules)
