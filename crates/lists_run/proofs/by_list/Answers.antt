-- `lists_run::by_list` meets its contract. The first n places are lent and come back as `read_into` promises; the place after the tasks holds the mark.
use mathlib.Core.Path.{◌≡◌, refl, sym, ap, ◌∙◌}
use mathlib.Core.List.{◌++◌}
use Prim.Native.Nat.{ℕ, ◌-◌, ◌≤◌, ◌<◌}
use native.Mathlib.Omega.{arith}
use lib.ListN.{length, take, drop, get_or, replicate}
use lib.Seq.{take-append_seam}
use Rattle.std.proofs.lemmas.List.{get_or_default}
use Rattle.taskset.specs.Tasks.{most_tasks, no_task}
use Rattle.tasklist.specs.Lists.{fill_given, filled_list}
use Rattle.std.specs.Prelude.{Result}
use Rattle.std.specs.Result.{result_unwrap_or}
use Rattle.taskset.specs.declared.NotTasks.{NotTasks}
use Rattle.tasklist.proofs.ListLaws.{counted, few-counted}
use Rattle.sheet.specs.Sheet.{sheet_tasks}
use Rattle.sheet.proofs.Gathered.{sheet-few}
use Rattle.lists_run.specs.Listed.{places, mark, marks, asked, listed_of}
use Rattle.lists_run.proofs.Marks.{marks-long, marks-lent, marks-kept, whole_long, beyond-marked}
use Rattle.lists_run.proofs.by_list.Goals as goal
use Rattle.lists_run.proofs.by_list.Goals.{After-groups-groups}

-- the reader's answer, and the places that were lent as it leaves them
answered : (c : After-groups-groups) → c.read_into-filled.result ≡ fill_given (sheet_tasks c.args.bytes.now) (marks c.args.n)
unfolding mark
answered c = c.read_into-filled.ensures.answer ∙ ap (fill_given (sheet_tasks c.args.bytes.now)) (marks-lent c.args.n c.requires)

left : (c : After-groups-groups) → c.read_into-filled.new.list ≡ filled_list (sheet_tasks c.args.bytes.now) (marks c.args.n)
unfolding mark
left c = c.read_into-filled.ensures.list ∙ ap (filled_list (sheet_tasks c.args.bytes.now)) (marks-lent c.args.n c.requires)

same : (c : After-groups-groups) → length c.read_into-filled.new.list ≡ length (marks c.args.n)
unfolding mark
same c = c.read_into-filled.auto.list ∙ ap length (marks-lent c.args.n c.requires)

-- how many tasks were counted
count : (c : After-groups-groups) → c.unwrap_or-count.result ≡ counted (sheet_tasks c.args.bytes.now) (marks c.args.n)
count c = c.unwrap_or-count.ensures ∙ ap (λ (r : Result ℕ NotTasks). result_unwrap_or r 0) (answered c)

few : (c : After-groups-groups) → c.unwrap_or-count.result ≤ most_tasks
few c = rw (count c) (few-counted (sheet_tasks c.args.bytes.now) (marks c.args.n) (sheet-few c.args.bytes.now))

pub offset_bounds-list-count : goal.offset_bounds-list-count
offset_bounds-list-count c = record { fits = omega (arith, few c) }

pub bounds-list-count : goal.bounds-list-count
bounds-list-count c = omega (arith, few c)

-- the first n places of the whole list, as `levels` and `groups` are given them
shared : (c : After-groups-groups)
    → take c.args.n (c.read_into-filled.new.list ++ drop c.args.n (replicate 40 mark)) ≡ filled_list (sheet_tasks c.args.bytes.now) (marks c.args.n)
shared c =
    let us = c.read_into-filled.new.list in
    let others = drop c.args.n (replicate 40 mark) in
    ap (λ (k : ℕ). take k (us ++ others)) (sym (same c ∙ marks-long c.args.n)) ∙ take-append_seam us others ∙ left c

-- the place after the tasks, in the whole list
beyond : (c : After-groups-groups)
    → get_or (c.read_into-filled.new.list ++ drop c.args.n (replicate 40 mark)) c.unwrap_or-count.result no_task ≡ mark
beyond c =
    let ts = sheet_tasks c.args.bytes.now in
    let n = c.args.n in
    let many : c.unwrap_or-count.result < length (c.read_into-filled.new.list ++ drop n (replicate 40 mark)) =
    rw (marks-kept n c.requires, whole_long n c.requires c.read_into-filled.new.list (same c)) (omega (arith, few c)) in
    get_or_default (c.read_into-filled.new.list ++ drop n (replicate 40 mark)) c.unwrap_or-count.result no_task mark many
    ∙ rw (marks-kept n c.requires, count c, left c) (beyond-marked ts n (places - n))

pub returns : goal.returns
unfolding listed_of asked mark
returns c =
    let at = (goal.at.returns c).After-groups-groups in
    rw (at.levels-levels.ensures.rule, at.groups-groups.ensures.rule, beyond at, shared at, count at, answered at) refl
