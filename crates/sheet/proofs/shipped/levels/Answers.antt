-- `sheet::shipped::levels` meets its contract: the constant table is what is worked out from the sheet's bytes.
use mathlib.Core.Path.{sym}
use Rattle.sheet.proofs.Worked.{shipped-levels}
use Rattle.sheet.proofs.shipped.levels.Goals as goal

pub returns : goal.returns
returns c = sym shipped-levels
