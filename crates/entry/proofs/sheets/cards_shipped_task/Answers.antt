-- `entry::sheets::cards_shipped_task` meets its contract: what stands in the constant table.
use mathlib.Core.Path.{ap}
use Rattle.taskset.specs.declared.Level.{Level}
use Rattle.entry.proofs.sheets.cards_shipped_task.Goals as goal

pub returns : goal.returns
returns c = ap (λ (l : Level). l.number) c.level.ensures
