-- `decimal::places` meets its contract: each arm's numbers have so many digits (`spelling-places`).
use mathlib.Core.Path.{sym, ap}
use native.Mathlib.Omega.{arith}
use lib.ListN.{length}
use Rattle.decimal.proofs.Spelling.{spelling-one, spelling-places}
use Rattle.decimal.proofs.places.Goals as goal

pub returns-in-0-to-9 : goal.returns-in-0-to-9
returns-in-0-to-9 c = sym (ap length (spelling-one _ (omega arith)))

pub returns-in-10-to-99 : goal.returns-in-10-to-99
returns-in-10-to-99 c = sym (spelling-places 1 _ (omega arith) (omega arith) (omega arith))

pub returns-in-100-to-999 : goal.returns-in-100-to-999
returns-in-100-to-999 c = sym (spelling-places 2 _ (omega arith) (omega arith) (omega arith))

pub returns-in-1000-to-9999 : goal.returns-in-1000-to-9999
returns-in-1000-to-9999 c = sym (spelling-places 3 _ (omega arith) (omega arith) (omega arith))

pub returns-in-10000-to-99999 : goal.returns-in-10000-to-99999
returns-in-10000-to-99999 c = sym (spelling-places 4 _ (omega arith) (omega arith) (omega arith))

pub returns-in-100000-to-999999 : goal.returns-in-100000-to-999999
returns-in-100000-to-999999 c = sym (spelling-places 5 _ (omega arith) (omega arith) (omega arith))

pub returns-in-1000000-to-9999999 : goal.returns-in-1000000-to-9999999
returns-in-1000000-to-9999999 c = sym (spelling-places 6 _ (omega arith) (omega arith) (omega arith))

pub returns-in-10000000-to-99999999 : goal.returns-in-10000000-to-99999999
returns-in-10000000-to-99999999 c = sym (spelling-places 7 _ (omega arith) (omega arith) (omega arith))

pub returns-in-100000000-to-999999999 : goal.returns-in-100000000-to-999999999
returns-in-100000000-to-999999999 c = sym (spelling-places 8 _ (omega arith) (omega arith) (omega arith))

pub returns-in_default : goal.returns-in_default
returns-in_default c = sym (spelling-places 9 _ (omega arith) (omega arith) (omega arith))
