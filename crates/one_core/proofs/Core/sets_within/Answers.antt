-- `one_core::Core::sets_within` meets its contract: both sets together lie within the objects.
use Rattle.std.proofs.Common.{ℕ, ap, ◌∙◌}
use Rattle.objset.specs.Objset.{below}
use Rattle.one_core.proofs.TidyLaws.{joined-below}
use Rattle.one_core.proofs.Core.sets_within.Goals as goal

pub returns : goal.returns
returns c =
    c.within.ensures ∙ ap (λ (s : ℕ). below s c.args.objects) c.data_set.ensures
    ∙ joined-below c.args.self.now.reads c.args.self.now.writes c.args.objects
