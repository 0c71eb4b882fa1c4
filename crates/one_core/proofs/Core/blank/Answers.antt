-- `one_core::Core::blank` meets its contract: a default array holds the default in each place.
use Rattle.std.specs.Prelude.{◌≡◌, ℕ, ◌<◌, List, length, get_or, replicate}
use mathlib.Core.Path.{sym, ◌∙◌}
use native.Mathlib.Omega.{arith}
use Rattle.std.proofs.Common.{rules}
use Rattle.std.proofs.lemmas.List.{ext_get_or, get_or-replicate}
use Rattle.objset.specs.Objset as Objset
use Rattle.one_core.specs.declared.Job.{Job}
use Rattle.one_core.specs.Parts.{no_job, most_jobs}
use Rattle.one_core.proofs.Core.blank.Goals as goal

-- a job whose fields are 0
zeros : (j : Job) → j.number ≡ 0 → j.deadline ≡ 0 → j ≡ no_job
zeros j n d = search (rules, n, d)

module _ (jobs : List Job) (long : length jobs ≡ most_jobs) (zero : (i : ℕ) → i < most_jobs → (get_or jobs i no_job ≡ no_job)) where
  blank_jobs : jobs ≡ replicate most_jobs no_job
  blank_jobs = ext_get_or no_job jobs (replicate most_jobs no_job) long (λ i l. zero i (omega (arith, long)) ∙ sym (get_or-replicate most_jobs i no_job no_job (omega (arith, long))))

pub returns : goal.returns
unfolding Objset.none Objset.collect
returns c =
    let d = c.default.ensures in
    search (rules, d, blank_jobs c.default.result.jobs d.0.long (λ i l. zeros (get_or c.default.result.jobs i no_job) (d.0.at i no_job l).0 (d.0.at i no_job l).1))
