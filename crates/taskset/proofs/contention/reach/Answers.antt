-- `taskset::contention::reach` meets its contract.
use Rattle.std.proofs.Common.{rules, tests, ◌∙◌, ℕ}
use Rattle.std.proofs.lemmas.Iterator.Adapters.{YieldsList-from_rev_slice}
use Rattle.std.proofs.lemmas.Iterator.Consumers.{YieldsList-at, YieldsList-from_filter, fold_from_yields_List}
use Rattle.objset.specs.Objset.{joined, meeting}
use Rattle.taskset.proofs.GroupTurns.{reached-fold}
use Rattle.taskset.proofs.contention.reach.Goals as goal

pub returns : goal.returns
returns c =
    fold_from_yields_List _ (λ (whole group : ℕ). joined group whole) _ _ c.fold.ensures.ran
    (YieldsList-from_filter _ (meeting c.args.cards) (YieldsList-at c.filter.ensures.source (YieldsList-from_rev_slice c.args.groups.now (cc))) c.filter.ensures.closure (λ x b q k. search (rules, tests)))
    (λ a x b q k. search (rules, tests))
    ∙ reached-fold c.args.cards c.args.groups.now
