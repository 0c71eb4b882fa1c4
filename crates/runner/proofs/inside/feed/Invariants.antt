-- `runner::inside::feed` meets its contract: the loop's invariant is `Feeding`, of the reading with the length that stands beside it.
use Rattle.std.proofs.Common.{ℕ}
use Rattle.runner.specs.declared.Reading.{Reading}
use Rattle.runner.proofs.Stepping.{reading}
use Rattle.runner.proofs.Feeding.{Feeding}
use Rattle.runner.proofs.inside.feed.Given as goal

abbrev pub with_length : Reading → ℕ → Reading
with_length r n = reading r.going r.columns r.number r.line n r.machine

abbrev pub invariant-loop-b : goal.invariant-loop-b
invariant-loop-b l =
    Feeding l.initial.r l.initial.committed l.initial.pending l.initial.output l.chunk (with_length l.r l.length) l.committed l.pending l.output l.written l.b-index
