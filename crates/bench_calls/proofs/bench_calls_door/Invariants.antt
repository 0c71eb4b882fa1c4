-- `bench_calls::bench_calls_door` meets its contract: what is left of the list gives what the list gives.
use Rattle.std.proofs.Common.{◌≡◌, drop}
use Rattle.bench_calls.specs.Lists.{door, run}
use Rattle.bench_calls.proofs.Runs.{state}
use Rattle.bench_calls.proofs.bench_calls_door.Given as goal

abbrev pub invariant-loop-number : goal.invariant-loop-number
invariant-loop-number l =
    run door (state l.last l.m l.committed l.pending l.kept) (drop l.number-index l.list) ≡ run door (state l.initial.last l.initial.m l.initial.committed l.initial.pending l.initial.kept) l.list
