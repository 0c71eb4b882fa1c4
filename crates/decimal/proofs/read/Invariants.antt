-- `decimal::read` meets its contract. The loop's invariant: the field has no leading zero, and its bytes before this one are digits that
-- stand for `n`.
use mathlib.Core.Path.{◌≡◌}
use mathlib.Core.Bool.{true}
use Prim.Native.Nat.{◌≤◌}
use Rattle.decimal.specs.Reading.{largest, no_leading_zero}
use Rattle.decimal.proofs.Reading.{ReadTo}
use Rattle.decimal.proofs.read.Given as goal

abbrev pub invariant-loop-b : goal.invariant-loop-b
invariant-loop-b l = (no_leading_zero l.field ≡ true) × ReadTo l.field l.n l.b-index × (l.n ≤ largest)
