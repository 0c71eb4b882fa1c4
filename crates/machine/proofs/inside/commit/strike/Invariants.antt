-- `machine::inside::commit::strike` meets its contract: the cores before index k had their turn.
use Rattle.machine.specs.OneCore.{struck_all}
use Rattle.machine.proofs.Front.{Stands}
use Rattle.machine.proofs.inside.commit.strike.Given as goal

abbrev pub invariant-loop-k : goal.invariant-loop-k
invariant-loop-k l = Stands l.k-index (struck_all l.ws l.initial.cores) l.initial.cores l.cores
