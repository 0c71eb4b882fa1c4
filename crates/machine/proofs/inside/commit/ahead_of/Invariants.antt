-- `machine::inside::commit::ahead_of` meets its contract: after the turn of core e, the first of the cores below it.
use Rattle.machine.proofs.Least.{Looked}
use Rattle.machine.proofs.inside.commit.ahead_of.Given as goal

abbrev pub invariant-loop-e : goal.invariant-loop-e
invariant-loop-e l = Looked l.cores l.k l.e l.ahead l.below
