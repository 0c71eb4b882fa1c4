-- The reading fits its tables, and the buffers keep their lengths.
use Rattle.std.proofs.Common.{◌≡◌, length}
use Rattle.runner.specs.Kept.{ReadingFits}
use Rattle.cards.proofs.run.Given as goal

abbrev pub invariant-loop : goal.invariant-loop
invariant-loop g l =
    ReadingFits l.reading l.committed l.pending
    × (length l.output ≡ length l.initial.output)
