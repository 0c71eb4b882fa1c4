-- `machine::inside::commit::ahead_of` meets its contract: nobody for a read-only one; else, after the turn of core e, the first of the cores
-- below it.
use Rattle.std.proofs.Common.{◌+◌, sym, ◌∙◌, subst₂, arith}
use Rattle.machine.proofs.Least.{Looked, looked-none, looked-here, looked-past, looked-at-nobody, looked-all}
use Rattle.machine.proofs.inside.commit.ahead_of.Goals as goal
use Rattle.machine.proofs.inside.commit.ahead_of.Goals.{then-holds_back, else-holds_back}

pub returns-then-is_read_only : goal.returns-then-is_read_only
returns-then-is_read_only c = looked-at-nobody c.args.cores.now c.args.k.now (sym c.is_read_only.ensures ∙ c.if-is_read_only.true)

pub loop-e-init : goal.loop-e-init
loop-e-init c = looked-none c.args.cores.now c.args.k.now

pub loop-e-preserved : goal.loop-e-preserved
loop-e-preserved c =
    let at = c.loop-e in
    let cores = c.args.cores.now in
    let k = c.args.k.now in
    elim c.if-holds_back.branch [
      | then-holds_back w ↦
          subst₂ (Looked cores k (at.e + 1)) (sym w.ahead-is) (sym w.below-is)
          (looked-here cores k at.e (at.e + 1) at.ahead at.below (omega arith) at.invariant (sym c.holds_back.ensures ∙ w.if-holds_back.true))
      | else-holds_back w ↦
          subst₂ (Looked cores k (at.e + 1)) (sym w.ahead-is) (sym w.below-is)
          (looked-past cores k at.e (at.e + 1) at.ahead at.below (omega arith) at.invariant (sym c.holds_back.ensures ∙ w.if-holds_back.false))
    ]

pub returns : goal.returns
returns c =
    looked-all _ _ _ _ _ (sym c.is_read_only.ensures ∙ c.if-is_read_only.false) (omega (arith, c.loop-e-test.false, c.loop-e.auto.e-end))
    c.loop-e.invariant
