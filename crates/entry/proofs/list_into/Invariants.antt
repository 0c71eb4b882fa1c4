-- The invariant is `Running`, of what the iterator has left.
use Rattle.std.proofs.Common.{◌≡◌}
use Rattle.std.specs.Slice.Iter.{chunks_rest, chunks_size}
use Rattle.entry.proofs.Filling.{Running}
use Rattle.entry.proofs.list_into.Given as goal

abbrev pub invariant-loop-chunk : goal.invariant-loop-chunk
invariant-loop-chunk l =
    (chunks_size l.chunk-iterator ≡ 512)
    × Running l.script l.initial.output l.output l.committed l.pending l.text l.total l.reading (chunks_rest l.chunk-iterator)
