-- `one_core::Core::is_struck` meets its contract.
use Rattle.std.proofs.Common.{◌∙◌, rules}
use Rattle.one_core.proofs.LifeLaws.{data-met}
use Rattle.one_core.proofs.Core.is_struck.Goals as goal

pub returns-then-self : goal.returns-then-self
returns-then-self c = c.meets.ensures ∙ data-met c.args.ws c.args.self.now _ c.if-self.true (search rules)
