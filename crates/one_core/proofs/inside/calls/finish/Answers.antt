-- `one_core::inside::calls::finish` meets its contract: where there is a job, the running one has a place.
use native.Mathlib.Omega.{arith}
use Rattle.std.specs.Prelude.{◌<◌}
use Rattle.one_core.proofs.Jobs.{running-least, least-listed}
use Rattle.one_core.proofs.inside.calls.finish.Goals as goal
use Rattle.one_core.proofs.inside.calls.finish.Goals.{After-running-p}

place : (c : After-running-p) → c.running-p.result < 8
place c =
    let k = c.args.k in
    omega (arith, c.running-p.ensures, running-least k c.if-k.false, least-listed k.jobs k.count (omega (arith, c.if-k-eq0.false)), c.requires)

pub bounds-k-p : goal.bounds-k-p
bounds-k-p c = place (goal.at.bounds-k-p c).After-running-p

pub leave-requires : goal.leave-requires
leave-requires c = (place (goal.at.leave-requires c).After-running-p, omega (arith, c.if-k-eq0.false))
