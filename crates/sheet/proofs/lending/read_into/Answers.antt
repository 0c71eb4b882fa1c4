-- `sheet::lending::read_into` meets its contract.
use Rattle.std.proofs.Common.{◌≡◌, sym, ap, ◌∙◌, List, [], Option, None, Some, Ok, Err}
use Rattle.std.specs.Option.{ok_or}
use Rattle.taskset.specs.declared.Task.{Task}
use Rattle.taskset.specs.declared.TaskSet.{TaskSet}
use Rattle.taskset.specs.declared.NotTasks.{NotTasks}
use Rattle.taskset.specs.Tasks.{packed, standing}
use Rattle.taskset.proofs.TaskLaws.{standing-packed, refused}
use Rattle.tasklist.specs.Lists.{fill_given, filled_list}
use Rattle.tasklist.proofs.ListLaws.{empty-answer, empty-keeps}
use Rattle.sheet.specs.Sheet.{sheet_tasks}
use Rattle.sheet.proofs.Gathered.{sheet-few}
use Rattle.sheet.proofs.ReadLaws.{Given}
use Rattle.sheet.proofs.lending.read_into.Goals as goal

-- what was read, by how the reading went
none_read : (ts : List Task) (r : Option TaskSet) {x y : NotTasks} → ok_or r x ≡ Err y → Given ts r → ts ≡ []
none_read ts None e h = h
none_read ts (Some s) e h = cc

set_read : (ts : List Task) (r : Option TaskSet) {x : NotTasks} {s : TaskSet} → ok_or r x ≡ Ok s → Given ts r → s ≡ packed ts
set_read ts None e h = cc
set_read ts (Some t) {s = s} e h = let same : t ≡ s = cc in sym same ∙ h

pub returns-in_err-set : goal.returns-in_err-set
returns-in_err-set c =
    let ys = c.args.list.now in
    let none : sheet_tasks c.args.bytes.now ≡ [] = none_read (sheet_tasks c.args.bytes.now) c.read.result (sym c.ok_or.ensures.value ∙ c.in_err-set.was) c.read.ensures in
    record {
      answer = refused c.from_residual.result c.from_residual.ensures.0 ∙ sym (ap (λ (ts : List Task). fill_given ts ys) none ∙ empty-answer ys);
      list = sym (ap (λ (ts : List Task). filled_list ts ys) none ∙ empty-keeps ys);
    }

pub returns : goal.returns
returns c =
    let ys = c.args.list.now in
    let ts = sheet_tasks c.args.bytes.now in
    let same : standing c.in_ok-set.set ≡ ts =
    ap standing (set_read ts c.read.result (sym c.ok_or.ensures.value ∙ c.in_ok-set.was) c.read.ensures) ∙ standing-packed ts (sheet-few c.args.bytes.now) in
    record {
      answer = c.fill.ensures.answer ∙ ap (λ (us : List Task). fill_given us ys) same;
      list = c.fill.ensures.list ∙ ap (λ (us : List Task). filled_list us ys) same;
    }
