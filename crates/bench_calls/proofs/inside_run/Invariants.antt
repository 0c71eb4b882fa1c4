-- `bench_calls::inside_run` meets its contract: the world is good with the record at hand and with the one kept, and what is left of the list
-- gives what the list gives.
use Rattle.std.proofs.Common.{◌≡◌, drop}
use Rattle.machine.specs.Rule.{lent}
use Rattle.machine.specs.Inside.{WellFormedWorld}
use Rattle.bench_calls.specs.Lists.{inside, run}
use Rattle.bench_calls.proofs.Runs.{state}
use Rattle.bench_calls.proofs.inside_run.Given as goal

abbrev pub invariant-loop-number : goal.invariant-loop-number
invariant-loop-number l =
    WellFormedWorld (lent l.m l.committed l.pending)
    × WellFormedWorld (lent l.kept l.committed l.pending)
    × (run inside (state l.last l.m l.committed l.pending l.kept) (drop l.number-index l.list) ≡ run inside (state l.initial.last l.initial.m l.initial.committed l.initial.pending l.initial.kept) l.list)
