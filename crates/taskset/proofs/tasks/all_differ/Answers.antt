-- `taskset::tasks::all_differ` meets its contract.
use Rattle.std.proofs.Common.{rules, tests, refl, ◌∙◌}
use Rattle.std.proofs.lemmas.Iterator.{YieldsList-from_slice}
use Rattle.std.proofs.lemmas.Iterator.Consumers.{YieldsList-at, YieldsList-from_enumerate}
use Rattle.std.proofs.lemmas.Iterator.Search.{all_from_yields_List}
use Rattle.taskset.proofs.Numbers.{new-at, all-new}
use Rattle.taskset.proofs.tasks.all_differ.Goals as goal

pub returns : goal.returns
returns c =
    let ts = c.args.tasks.now in
    all_from_yields_List (new-at ts) _ _ _ c.all.ensures.ran
    (YieldsList-from_enumerate (YieldsList-at c.enumerate.ensures.source (YieldsList-from_slice ts c.iter.ensures.rest)) c.enumerate.ensures.count)
    (λ x b q k. search (rules, tests))
    ∙ all-new ts ts 0 refl
