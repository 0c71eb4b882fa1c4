-- `one_core::Core::leave` meets its contract.
use Rattle.std.proofs.Common.{◌≡◌, ◌-◌, List, length, rules, ap}
use Rattle.one_core.specs.declared.Job.{Job}
use Rattle.one_core.specs.Parts.{no_job}
use Rattle.one_core.specs.Life.{with_list}
use Rattle.one_core.proofs.JobLaws.{moved-up}
use Rattle.one_core.proofs.Core.leave.Goals as goal

pub returns : goal.returns
returns c =
    let k = c.args.self.now in
    let long : length k.jobs ≡ 8 = search rules in
    let none : ◌≡◌ {A = Job} c.default.result no_job = search rules in
    ap (λ (jobs : List Job). with_list k jobs (k.count - 1)) (moved-up k.jobs c.args.p _ _ long c.requires.0 c.copy_within.ensures.after none)
