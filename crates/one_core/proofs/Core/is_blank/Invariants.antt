-- `one_core::Core::is_blank` meets its contract: what is joined is 0 if and only if the numbers beside the jobs and the jobs passed are.
use Rattle.std.specs.Prelude.{◌≡◌, ◌&&◌, eqb, get_or}
use Rattle.objset.specs.Objset.{each}
use Rattle.one_core.specs.Parts.{no_job}
use Rattle.one_core.specs.Tidy.{zero_job}
use Rattle.one_core.proofs.TidyLaws.{numbers}
use Rattle.one_core.proofs.Core.is_blank.Given as goal

abbrev pub invariant-loop-j : goal.invariant-loop-j
invariant-loop-j l = eqb l.all 0 ≡ (eqb (numbers l.self) 0 && each l.j-index (λ q. zero_job (get_or l.self.jobs q no_job)))
