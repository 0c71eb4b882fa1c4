-- `bench_calls::bench_calls_inside` meets its contract: the world of an accepted setup is good, and another is left as setup
-- leaves it.
use Rattle.std.proofs.Common.{ap, ◌∙◌}
use Rattle.machine.proofs.InsideLaws.{setup-left}
use Rattle.bench_calls.specs.Lists.{Progress}
use Rattle.bench_calls.proofs.Runs.{inside-ready, inside-refused}
use Rattle.bench_calls.proofs.bench_calls_inside.Goals as goal

pub inside_run-requires : goal.inside_run-requires
inside_run-requires c =
    setup-left _ _ _ _ _ _ _ c.setup-made.ensures.rule c.in-Ready.is

pub returns-in-Ready : goal.returns-in-Ready
returns-in-Ready c =
    let same = inside-ready _ _ _ _ _ c.setup-made.ensures.rule c.in-Ready.is in
    let said = c.inside_run.ensures in record { number = said.number ∙ ap (λ (s : Progress). s.last) same; committed = said.committed ∙ ap (λ (s : Progress). s.world.committed) same; pending = said.pending ∙ ap (λ (s : Progress). s.world.pending) same }

pub returns-in_default : goal.returns-in_default
returns-in_default c =
    let same = inside-refused _ _ _ _ _ c.setup-made.ensures.rule c.in_default.not-Ready in
    record { number = c.number_of.ensures ∙ ap (λ (s : Progress). s.last) same; committed = ap (λ (s : Progress). s.world.committed) same; pending = ap (λ (s : Progress). s.world.pending) same }
