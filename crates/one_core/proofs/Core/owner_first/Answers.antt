-- `one_core::Core::owner_first` meets its contract.
use Rattle.std.proofs.Common.{rules, take, Bool, refl, ◌∙◌, arith, ltb-true, lt-ltb}
use borrow.Author.Tests.{tests}
use Rattle.std.specs.Prelude.{nat_lt}
use Rattle.std.proofs.lemmas.Iterator.{YieldsList-from_slice}
use Rattle.std.proofs.lemmas.Iterator.Search.{all_from_yields_List}
use Rattle.one_core.specs.declared.Job.{Job}
use Rattle.one_core.specs.Parts.{job_at}
use Rattle.one_core.proofs.TidyLaws.{part-each}
use Rattle.one_core.proofs.Core.owner_first.Goals as goal

pub returns : goal.returns
returns c =
    let k = c.args.self.now in
    let later : Job → Bool = λ j. nat_lt (job_at k k.owner).deadline j.deadline in
    all_from_yields_List later _ _ _ c.all.ensures.ran (YieldsList-from_slice (take k.owner k.jobs) cc) (λ x b q h. search (rules, tests))
    ∙ part-each later (λ q. nat_lt q k.owner) k.jobs (take k.owner k.jobs) 0 k.owner (search rules) refl (omega arith) (λ q b t. (omega arith, omega (arith, ltb-true q k.owner t)))
    (λ q l h. lt-ltb q k.owner (omega arith))
