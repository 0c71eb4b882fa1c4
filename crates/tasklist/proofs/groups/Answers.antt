-- `groups` meets its contract: in the task set that it hands on stand the tasks that it took.
use mathlib.Core.Path.{◌≡◌, ap, ◌∙◌, subst}
use mathlib.Core.List.{List}
use Rattle.taskset.specs.declared.Task.{Task}
use Rattle.taskset.specs.Tasks.{standing}
use Rattle.taskset.specs.Groups.{groups_given}
use Rattle.taskset.specs.Chains.{RightGroups}
use Rattle.tasklist.specs.Lists.{first_of}
use Rattle.tasklist.proofs.ListLaws.{standing-first}
use Rattle.tasklist.proofs.groups.Goals as goal

pub returns : goal.returns
returns c =
    let same : standing c.taken.result ≡ first_of c.args.n c.args.list.now =
    ap standing c.taken.ensures ∙ standing-first c.args.n c.args.list.now in
    record {
      rule = c.groups_of.ensures.rule ∙ ap groups_given same;
      paper = subst (λ (ts : List Task). RightGroups ts c.groups_of.result) same c.groups_of.ensures.paper;
    }
