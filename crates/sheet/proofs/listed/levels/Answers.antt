-- `sheet::listed::levels` meets its contract.
use Rattle.std.proofs.Common.{◌≡◌, sym, ap, ◌∙◌, ℕ, List, [], replicate, false, Result, subst}
use Rattle.std.specs.Result.{result_unwrap_or}
use Rattle.taskset.specs.declared.Task.{Task}
use Rattle.taskset.specs.declared.NotTasks.{NotTasks}
use Rattle.taskset.specs.Tasks.{most_tasks}
use Rattle.taskset.specs.Levels.{levels_given}
use Rattle.taskset.specs.Ceilings.{RightLevels}
use Rattle.taskset.proofs.TaskLaws.{none-set, refused}
use Rattle.taskset.proofs.Ceilings.{levels-given}
use Rattle.tasklist.specs.Lists.{first_of}
use Rattle.tasklist.proofs.ListLaws.{counted, filled-back, none-filled}
use Rattle.sheet.specs.Sheet.{sheet_tasks}
use Rattle.sheet.proofs.Gathered.{sheet-few}
use Rattle.sheet.proofs.listed.levels.Goals as goal

pub returns-in_err-count-clause-rule : goal.returns-in_err-count-clause-rule
returns-in_err-count-clause-rule c =
    let bytes = c.args.bytes.now in
    let none : sheet_tasks bytes ≡ [] = none-filled (sheet_tasks bytes) (replicate most_tasks c.default-list.result) (sheet-few bytes) (sym c.in_err-count.ensures.answer) in
    refused c.from_residual.result c.from_residual.ensures.0 ∙ sym (ap levels_given none ∙ levels-given [] false (sym none-set))

pub returns : goal.returns
returns c =
    let bytes = c.args.bytes.now in
    let ts = sheet_tasks bytes in
    let blank : List Task = replicate most_tasks c.default-list.result in
    let count : c.in_ok-count.count ≡ counted ts blank = ap (λ (r : Result ℕ NotTasks). result_unwrap_or r 0) c.in_ok-count.ensures.answer in
    let same : first_of c.in_ok-count.count c.read_into.new.list ≡ ts =
    ap (λ (n : ℕ). first_of n c.read_into.new.list) count
    ∙ ap (first_of (counted ts blank)) c.in_ok-count.ensures.list
    ∙ filled-back ts blank (sheet-few bytes) (sheet-few bytes) in
    record {
      rule = c.levels.ensures.rule ∙ ap levels_given same;
      paper = subst (λ (us : List Task). RightLevels us c.levels.result) same c.levels.ensures.paper;
    }
