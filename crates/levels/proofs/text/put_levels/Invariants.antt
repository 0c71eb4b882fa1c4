-- `levels::text::put_levels` meets its contract.
use Rattle.levels.proofs.Laws.{Lines}
use Rattle.levels.proofs.text.put_levels.Given as goal

-- the lines of the tasks before this one are put
abbrev pub invariant-loop-level : goal.invariant-loop-level
invariant-loop-level l = Lines l.levels l.initial.output l.level-index l.k l.output
