-- `one_core::Core::unused_zero` meets its contract.
use Rattle.std.proofs.Common.{ℕ, Bool, rules, ◌∙◌}
use borrow.Author.Tests.{tests}
use Rattle.std.specs.Prelude.{nat_le}
use Rattle.std.proofs.lemmas.Iterator.{YieldsList-from_slice}
use Rattle.std.proofs.lemmas.Iterator.Consumers.{YieldsList-from_enumerate, YieldsList-at}
use Rattle.std.proofs.lemmas.Iterator.Search.{all_from_yields_List}
use Rattle.one_core.specs.declared.Job.{Job}
use Rattle.one_core.specs.Tidy.{◌⇒◌, zero_job}
use Rattle.one_core.proofs.TidyLaws.{places-each}
use Rattle.one_core.proofs.Core.unused_zero.Goals as goal

pub returns : goal.returns
returns c =
    let k = c.args.self.now in
    let clean : ℕ × Job → Bool = λ x. nat_le k.count x.0 ⇒ zero_job x.1 in
    all_from_yields_List clean _ _ _ c.all.ensures.ran
    (YieldsList-from_enumerate (YieldsList-at c.enumerate.ensures.source (YieldsList-from_slice k.jobs cc)) cc) (λ x b q h. search (rules, tests))
    ∙ places-each clean k.jobs (search rules)
