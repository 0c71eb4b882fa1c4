-- `objset::meets` meets its contract: `&` leaves a digit if and only if the sets meet.
use borrow.Author.Rules.{rules}
use Rattle.objset.proofs.Bitwise.{and-meeting}
use Rattle.objset.proofs.meets.Goals as goal

pub returns : goal.returns
returns c = and-meeting c.args.a c.args.b (search rules) (search rules)
