-- `runner::Reading::finish` meets its contract: what the doors do not refuse is fit.
use Rattle.std.proofs.Common.{sym, ◌∙◌, arith, length}
use Rattle.runner.proofs.Typed.{reading-formed}
use Rattle.runner.proofs.Doors.{taken-fit}
use Rattle.runner.proofs.Reading.finish.Goals as goal

pub finish-fed-requires : goal.finish-fed-requires
finish-fed-requires c =
    taken-fit c.args.self c.args.committed.now c.args.pending.now 1 (length c.args.output.now)
    (reading-formed c.args.self _ c.well_formed.0) (sym c.refusal_of-misfit.ensures ∙ c.in_default.is)

pub returns-clause-after : goal.returns-clause-after
returns-clause-after c =
    let fits = taken-fit c.args.self c.args.committed.now c.args.pending.now 1 (length c.args.output.now)
    (reading-formed c.args.self _ c.well_formed.0) (sym c.refusal_of-misfit.ensures ∙ c.in_default.is) in
    (omega (arith, c.finish-fed.ensures.after.0, fits.1), c.finish-fed.ensures.after.1)
