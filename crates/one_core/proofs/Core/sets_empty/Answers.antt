-- `one_core::Core::sets_empty` meets its contract: both sets together are empty.
use Rattle.std.proofs.Common.{ap, ◌∙◌}
use Rattle.objset.specs.Objset.{is_empty}
use Rattle.objset.proofs.Laws.{joined-empty}
use Rattle.one_core.proofs.Core.sets_empty.Goals as goal

pub returns : goal.returns
returns c = c.is_empty.ensures ∙ ap is_empty c.data_set.ensures ∙ joined-empty c.args.self.now.reads c.args.self.now.writes
