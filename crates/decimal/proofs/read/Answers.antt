-- `decimal::read` meets its contract. The loop's invariant: the field has no leading zero, and its bytes before this one are digits that
-- stand for `n`.
use mathlib.Core.Path.{◌≡◌, sym, ◌∙◌}
use Prim.Native.Nat.{◌+◌, ◌-◌, ◌*◌}
use native.Mathlib.Omega.{arith}
use lib.ListN.{get_or}
use Rattle.decimal.proofs.Reading.{no_front, no-digit, past-largest, one_more, read_whole}
use Rattle.decimal.proofs.read.Goals as goal

pub returns-then-not-no_leading_zero : goal.returns-then-not-no_leading_zero
returns-then-not-no_leading_zero c =
    let front = c.no_leading_zero in
    sym (no_front c.args.field.now (sym front.ensures ∙ c.if-not-no_leading_zero.true))

pub returns-in_err-checked_mul : goal.returns-in_err-checked_mul
returns-in_err-checked_mul c =
    let at = c.loop-b in
    c.from_residual.ensures ∙ sym (past-largest c.args.field.now at.n at.b-index at.invariant.1 c.loop-b-test.true (omega (arith, c.in_err-checked_mul.ensures)))

pub returns-in_err-digit : goal.returns-in_err-digit
returns-in_err-digit c =
    let at = c.loop-b in
    c.from_residual-in_err-digit.ensures ∙ sym (no-digit c.args.field.now at.n at.b-index at.invariant.1 c.loop-b-test.true c.in_err-digit.ensures)

pub returns-in_err-n : goal.returns-in_err-n
returns-in_err-n c =
    let at = c.loop-b in
    c.from_residual-in_err-n.ensures
    ∙ sym
    (past-largest c.args.field.now at.n at.b-index at.invariant.1 c.loop-b-test.true
    (omega (arith, c.in_err-n.ensures, c.in_ok-digit.ensures, c.in_ok-checked_mul.ensures)))

pub loop-b-preserved : goal.loop-b-preserved
loop-b-preserved c =
    let at = c.loop-b in
    let digit = c.in_ok-digit.ensures in
    let more = one_more c.args.field.now at.n at.b-index at.invariant.1 c.loop-b-test.true digit.0.0 digit.0.1 in
    let sum : c.in_ok-n.n ≡ at.n * 10 + (get_or c.args.field.now at.b-index 0 - 48) = omega (arith, c.in_ok-n.ensures, digit, c.in_ok-checked_mul.ensures) in
    (at.invariant.0, rw sum more, omega (arith, c.in_ok-n.ensures))

pub returns : goal.returns
returns c =
    let at = c.loop-b in
    sym (read_whole c.args.field.now at.n at.b-index at.invariant.1 (omega arith) at.invariant.0 (omega arith))
