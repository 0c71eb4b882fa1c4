-- `levels` meets its contract: in the task set that it hands on stand the tasks that it took.
use mathlib.Core.Path.{◌≡◌, ap, ◌∙◌, subst}
use mathlib.Core.List.{List}
use Rattle.taskset.specs.declared.Task.{Task}
use Rattle.taskset.specs.Tasks.{standing}
use Rattle.taskset.specs.Levels.{levels_given}
use Rattle.taskset.specs.Ceilings.{RightLevels}
use Rattle.tasklist.specs.Lists.{first_of}
use Rattle.tasklist.proofs.ListLaws.{standing-first}
use Rattle.tasklist.proofs.levels.Goals as goal

pub returns : goal.returns
returns c =
    let same : standing c.taken.result ≡ first_of c.args.n c.args.list.now =
    ap standing c.taken.ensures ∙ standing-first c.args.n c.args.list.now in
    record {
      rule = c.levels_of.ensures.rule ∙ ap levels_given same;
      paper = subst (λ (ts : List Task). RightLevels ts c.levels_of.result) same c.levels_of.ensures.paper;
    }
