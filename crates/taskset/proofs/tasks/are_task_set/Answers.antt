-- `taskset::tasks::are_task_set` meets its contract.
use Rattle.std.proofs.Common.{rules, tests, ◌≡◌, sym, ◌∙◌, ◌≤◌, ◌<◌, true, false, true≢false, length, arith}
use Rattle.std.proofs.lemmas.Iterator.{YieldsList-from_slice}
use Rattle.std.proofs.lemmas.Iterator.Search.{all_from_yields_List}
use lib.Dec.{leb}
use Rattle.taskset.specs.declared.Task.{Task}
use Rattle.taskset.specs.Tasks.{most_tasks, cores_exist, is_task_set}
use Rattle.taskset.proofs.TaskLaws.{cores-all, set-differ, cores-not-set, set-sized}
use Rattle.taskset.proofs.tasks.are_task_set.Goals as goal
use Rattle.taskset.proofs.tasks.are_task_set.Goals.{After-contains, then-contains, else-contains}

sized : (c : After-contains) → c.contains.result ≡ true → (0 < length c.args.tasks.now) × (length c.args.tasks.now ≤ most_tasks)
sized c e = (grind (arith, c.contains.ensures.cases, c.new.ensures.start, c.new.ensures.end, e), search (rules, tests))

unsized : (c : After-contains) → c.contains.result ≡ false → is_task_set c.args.tasks.now ≡ false
unsized c e = set-sized c.args.tasks.now (λ h l. grind (arith, c.contains.ensures.cases, c.new.ensures.start, c.new.ensures.end, e))

pub returns-then-all : goal.returns-then-all
returns-then-all c =
    let ts = c.args.tasks.now in
    c.all_differ.ensures ∙ sym (elim c.if-contains.branch [
      | then-contains w ↦
          let size = sized (goal.at.returns-then-all c).After-contains w.if-contains.true in
          let cores : w.all.result ≡ cores_exist ts = all_from_yields_List (λ (t : Task). leb t.core 15) _ _ _ w.all.ensures.ran (YieldsList-from_slice ts w.iter.ensures.rest) (λ x b q k. search (rules, tests)) ∙ cores-all ts in
          set-differ ts size.0 size.1 (sym cores ∙ sym w.value-is ∙ c.if-all.true)
      | else-contains w ↦ absurd (true≢false (sym c.if-all.true ∙ w.value-is ∙ w.if-contains.false))
    ])

pub returns-else-all : goal.returns-else-all
returns-else-all c =
    let ts = c.args.tasks.now in
    c.if-all.false ∙ sym (elim c.if-contains.branch [
      | then-contains w ↦
          let cores : w.all.result ≡ cores_exist ts = all_from_yields_List (λ (t : Task). leb t.core 15) _ _ _ w.all.ensures.ran (YieldsList-from_slice ts w.iter.ensures.rest) (λ x b q k. search (rules, tests)) ∙ cores-all ts in
          cores-not-set ts (sym cores ∙ sym w.value-is ∙ c.if-all.false)
      | else-contains w ↦ unsized (goal.at.returns-else-all c).After-contains w.if-contains.false
    ])
