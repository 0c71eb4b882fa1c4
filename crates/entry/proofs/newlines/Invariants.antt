-- n newlines stand before the byte (`Found`).
use Rattle.std.proofs.Common.{◌≤◌}
use Rattle.entry.proofs.Lines.{Found}
use Rattle.entry.proofs.newlines.Given as goal

abbrev pub invariant-loop-b : goal.invariant-loop-b
invariant-loop-b l = (l.n ≤ l.b-index) × Found l.block l.n l.b-index
