-- `taskset::tasks::is_new` meets its contract.
use Rattle.std.proofs.Common.{rules, tests, ap, ◌∙◌, not}
use Rattle.std.proofs.lemmas.Iterator.{YieldsList-from_slice}
use Rattle.std.proofs.lemmas.Iterator.Search.{any_from_yields_List}
use lib.Dec.{eqb}
use Rattle.taskset.specs.declared.Task.{Task}
use Rattle.taskset.proofs.Numbers.{occurs-column}
use Rattle.taskset.proofs.tasks.is_new.Goals as goal

pub returns : goal.returns
returns c =
    let ts = c.args.tasks.now in
    ap not (any_from_yields_List (λ (t : Task). eqb c.args.number t.number) _ _ _ c.any.ensures.ran (YieldsList-from_slice ts c.iter.ensures.rest) (λ x b q k. search (rules, tests))
    ∙ occurs-column (λ (t : Task). t.number) c.args.number ts)
