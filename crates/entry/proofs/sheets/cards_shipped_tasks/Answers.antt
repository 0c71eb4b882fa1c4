-- `entry::sheets::cards_shipped_tasks` meets its contract: there are six levels.
use mathlib.Core.Path.{sym, ap}
use lib.ListN.{length}
use Rattle.sheet.proofs.Worked.{shipped-levels}
use Rattle.entry.proofs.sheets.cards_shipped_tasks.Goals as goal

pub returns : goal.returns
returns c = sym (ap length shipped-levels)
