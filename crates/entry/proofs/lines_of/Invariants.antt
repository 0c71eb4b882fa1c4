-- n lines begin in what is read (`Counted`), and `rest` is what whole blocks leave of the others.
use Rattle.std.proofs.Common.{◌≡◌}
use Rattle.std.specs.Slice.Iter.{chunks_exact_rest, chunks_exact_size}
use Rattle.entry.proofs.Lines.{Counted, Remains}
use Rattle.entry.proofs.lines_of.Given as goal

abbrev pub invariant-loop-block : goal.invariant-loop-block
invariant-loop-block l =
    Counted l.script l.n (chunks_exact_rest l.block-iterator)
    × Remains (chunks_exact_rest l.block-iterator) l.rest
    × (chunks_exact_size l.block-iterator ≡ 224)
