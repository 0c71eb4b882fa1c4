-- `listing::put_bytes` meets its contract: where the text does not fit, nothing is placed. The copy is found by the check.
use Rattle.std.proofs.Common.{arith}
use Rattle.listing.proofs.Laws.{nothing_placed}
use Rattle.listing.proofs.put_bytes.Goals as goal

pub returns-then-output-text : goal.returns-then-output-text
returns-then-output-text c =
    let kept = nothing_placed c.args.at c.args.text.now c.args.output.now (omega arith) in
    record { count = kept.0; bytes = kept.1 }
