-- `decimal::fill` meets its contract. The loop's invariant: the spelling of the rest ends at place `i - 1`, and with the bytes from `i` on
-- behind it it makes what is asked.
use mathlib.Core.Path.{◌≡◌}
use mathlib.Core.List.{◌++◌}
use Prim.Native.Nat.{◌≤◌}
use lib.ListN.{length, drop}
use Rattle.decimal.specs.Spelling.{spelling}
use Rattle.decimal.proofs.fill.Given as goal

abbrev pub invariant-loop-i : goal.invariant-loop-i
invariant-loop-i l =
    (length (spelling l.rest) ≡ l.i) × (spelling l.rest ++ drop l.i l.scratch ≡ spelling l.n ++ drop l.k l.initial.scratch) × (l.rest ≤ l.n)
