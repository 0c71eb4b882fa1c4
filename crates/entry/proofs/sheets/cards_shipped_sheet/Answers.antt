-- `entry::sheets::cards_shipped_sheet` meets its contract: its bytes are put, where they fit.
use Rattle.sheet.specs.Shipped.{shipped_sheet}
use Rattle.entry.proofs.Fits.{put-at-start}
use Rattle.entry.proofs.sheets.cards_shipped_sheet.Goals as goal

pub returns : goal.returns
returns c =
    let done = rw c.sheet-bytes.ensures at c.put_bytes.ensures in
    let all = put-at-start shipped_sheet c.args.output.now done.count done.bytes in
    record { count = all.0; bytes = all.1 }
