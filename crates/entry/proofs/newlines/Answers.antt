-- `entry::newlines` meets its contract.
use native.Mathlib.Omega.{arith}
use Rattle.entry.proofs.Lines.{all_found, newline-found, byte-passed}
use Rattle.entry.proofs.newlines.Goals as goal
use Rattle.entry.proofs.newlines.Goals.{then-b-eq10, else-b-eq10}

pub loop-b-preserved : goal.loop-b-preserved
loop-b-preserved c =
    let inv = c.loop-b.invariant in
    let test = c.loop-b-test.true in
    elim c.if-b-eq10.branch [
      | then-b-eq10 w ↦ (omega arith, omega (arith, newline-found _ _ _ inv.1 test w.if-b-eq10.true))
      | else-b-eq10 w ↦ (omega arith, omega (arith, byte-passed _ _ _ inv.1 test w.if-b-eq10.false))
    ]

pub returns : goal.returns
returns c = let inv = c.loop-b.invariant in (all_found _ _ _ inv.1 c.loop-b-test.false, omega arith)
