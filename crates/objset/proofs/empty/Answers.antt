-- `objset::empty` meets its contract: the empty word is 0.
use mathlib.Core.Path.{sym}
use Rattle.objset.proofs.Laws.{none-zero}
use Rattle.objset.proofs.empty.Goals as goal

pub returns : goal.returns
returns c = sym none-zero
