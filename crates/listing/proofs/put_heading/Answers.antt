-- `listing::put_heading` meets its contract: a short output shows nothing, and in any other the heading stands at the start.
use Rattle.std.proofs.Common.{zero-add, arith}
use Rattle.listing.specs.Text.{heading}
use Rattle.listing.proofs.Laws.{nothing_put, stands-none, stands-next, stands-put}
use Rattle.listing.proofs.put_heading.Goals as goal

pub returns-then-output-lt-ROOM : goal.returns-then-output-lt-ROOM
returns-then-output-lt-ROOM c =
    let kept = nothing_put heading c.args.output.now (omega arith) in
    record { count = kept.0; bytes = kept.1 }

pub returns : goal.returns
returns c =
    let output = c.args.output.now in
    let done = c.put_bytes.ensures in
    let stands = rw zero-add at (stands-put (stands-next heading (stands-none output) (omega arith) done.count done.bytes) (omega arith)) in
    record { count = stands.0; bytes = stands.1 }
