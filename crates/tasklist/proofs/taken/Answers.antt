-- `tasklist::taken` meets its contract.
use Rattle.std.proofs.Common.{rules, ◌≡◌, ap, ◌∙◌, ◌++◌, List, take, drop, replicate, arith}
use Rattle.taskset.specs.declared.Task.{Task}
use Rattle.taskset.specs.Tasks.{most_tasks, no_task}
use Rattle.tasklist.proofs.Copies.{made, takes, too_many, too_short}
use Rattle.tasklist.proofs.taken.Goals as goal
use Rattle.tasklist.proofs.taken.Goals.{then-n-gt-TASKS-via-then-n-gt-TASKS, then-n-gt-TASKS-via-else-n-gt-TASKS+then-list-n}

pub returns-then-n-gt-TASKS : goal.returns-then-n-gt-TASKS
returns-then-n-gt-TASKS c =
    let blank : c.default-tasks.result ≡ no_task = search rules in
    ap (λ (t : Task). made 0 (replicate most_tasks t)) blank
    ∙ elim c.then-n-gt-TASKS.branch [
      | then-n-gt-TASKS-via-then-n-gt-TASKS w ↦ too_many c.args.n c.args.list.now (omega arith)
      | then-n-gt-TASKS-via-else-n-gt-TASKS+then-list-n w ↦ too_short c.args.n c.args.list.now (omega arith)
    ]

pub returns : goal.returns
returns c =
    let n = c.args.n in
    let ys = c.args.list.now in
    let blank : c.default-tasks.result ≡ no_task = search rules in
    ap (λ (ts : List Task). made n (ts ++ drop n (replicate most_tasks c.default-tasks.result))) c.copy_from_slice.ensures.after
    ∙ ap (λ (t : Task). made n (take n ys ++ drop n (replicate most_tasks t))) blank
    ∙ takes n ys (omega arith) (omega arith)
