-- `table::ends::piece_end` meets its contract. The loop's invariant: the piece ends where it does from `i` on.
use mathlib.Core.Path.{sym, ◌∙◌}
use Prim.Native.Nat.{◌≤◌}
use native.Mathlib.Omega.{arith}
use lib.ListN.{length}
use Rattle.table.proofs.PieceEnds.{ends-here, goes_on, line-ends}
use Rattle.table.proofs.ends.piece_end.Goals as goal

pub returns-then-line-i : goal.returns-then-line-i
returns-then-line-i c =
    sym (ends-here c.args.at c.args.line.now c.loop-i.i c.loop-i-test.true c.if-line-i.true) ∙ c.loop-i.invariant.0

pub loop-i-preserved : goal.loop-i-preserved
loop-i-preserved c =
    (sym (goes_on c.args.at c.args.line.now c.loop-i.i c.loop-i-test.true c.if-line-i.false) ∙ c.loop-i.invariant.0, omega arith)

pub returns : goal.returns
returns c =
    let at = c.loop-i in
    let end : length c.args.line.now ≤ at.i = omega arith in
    let last = line-ends c.args.at c.args.line.now at.i end in
    omega (arith, last, at.invariant, c.max.ensures)
