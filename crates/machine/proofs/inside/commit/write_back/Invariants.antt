-- `machine::inside::commit::write_back` meets its contract.
use Rattle.std.proofs.Common.{◌+◌, get_or}
use Rattle.machine.proofs.SetLoop.{Left, Turned}
use Rattle.machine.proofs.inside.commit.write_back.Given as goal

abbrev pub invariant-loop-d : goal.invariant-loop-d
invariant-loop-d l =
    Left l.ws l.rest
    × Turned l.ws (λ e v. get_or l.own e 0) l.initial.committed l.rest l.committed
    × Turned l.ws (λ e v. v + 1) l.initial.versions l.rest l.versions

abbrev pub decreases-loop-d : goal.decreases-loop-d
decreases-loop-d l = l.rest
