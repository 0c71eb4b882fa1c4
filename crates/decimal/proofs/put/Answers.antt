-- `decimal::put` meets its contract: a scratch under 10 bytes shows no digit, and any other has the bytes that `fill` puts there, whose
-- number is `places`'s answer.
use native.Mathlib.Omega.{arith}
use Rattle.decimal.specs.Spelling.{printed}
use Rattle.decimal.proofs.Laws.{spelling-length, shown-short, shown-whole}
use Rattle.decimal.proofs.put.Goals as goal

pub returns-then-scratch-lt10 : goal.returns-then-scratch-lt10
unfolding printed
returns-then-scratch-lt10 c =
    let none = shown-short c.args.n c.args.scratch.now (omega arith) in
    record { count = rw none; bytes = rw none }

pub fill-requires : goal.fill-requires
fill-requires c = (c.places-k.ensures, omega (arith, spelling-length c.args.n))

pub returns : goal.returns
unfolding printed
returns c =
    let filled = c.fill in
    let counted = c.places-k in
    let whole = shown-whole c.args.n c.args.scratch.now (omega arith) in
    record { count = rw whole counted.ensures; bytes = rw (whole, ← counted.ensures) filled.ensures }
