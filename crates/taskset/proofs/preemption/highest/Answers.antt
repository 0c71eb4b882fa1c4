-- `taskset::preemption::highest` meets its contract.
use Rattle.std.proofs.Common.{rules, tests, ◌∙◌, ℕ}
use Rattle.std.proofs.lemmas.Iterator.{YieldsList-from_slice, YieldsList-from_zip, YieldsList-from_map}
use Rattle.std.proofs.lemmas.Iterator.Consumers.{YieldsList-at, YieldsList-from_filter, max_from_yields_List}
use Rattle.objset.specs.Objset.{meeting}
use Rattle.taskset.proofs.Counting.{highest-picked}
use Rattle.taskset.proofs.preemption.highest.Goals as goal

pub returns : goal.returns
returns c =
    let s = c.args in
    c.unwrap_or.ensures
    ∙ highest-picked s.group s.groups.now s.levels.now c.max.result
    (max_from_yields_List {v = λ (x : ℕ). x} c.map.result c.max.result c.max.ensures.ran
    (YieldsList-from_map _ (λ (p : ℕ × ℕ). p.1)
    (YieldsList-at c.map.ensures.source
    (YieldsList-from_filter _ (λ (p : ℕ × ℕ). meeting s.group p.0)
    (YieldsList-at c.filter.ensures.source
    (YieldsList-from_zip (YieldsList-from_slice s.groups.now (cc)) (YieldsList-from_slice s.levels.now (cc))))
    c.filter.ensures.closure (λ x b q k. search (rules, tests))))
    c.map.ensures.closure (λ x r q k. search (rules, tests))))
