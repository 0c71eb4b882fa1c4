-- `levels::text::put_sheet` meets its contract.
use Rattle.std.proofs.Common.{sym, ◌≤◌, length, take, arith}
use native.Mathlib.Nat.{zero-add}
use lib.ListN.{length-take}
use Rattle.listing.proofs.Laws.{stands-none, stands-next}
use Rattle.taskset.specs.Tasks.{most_tasks}
use Rattle.levels.specs.Printed.{refused_line}
use Rattle.levels.proofs.Laws.{printed, refused}
use Rattle.levels.proofs.text.put_sheet.Goals as goal
use Rattle.levels.proofs.text.put_sheet.Goals.{In-Ok}

-- the levels that were handed back are at most 32
few : (c : In-Ok) → c.in-Ok.levels.count ≤ most_tasks
few c = (printed c.args.sheet.now c.levels.result c.levels.ensures.rule c.in-Ok.is).0

pub shared_ref_as_front-put_levels : goal.shared_ref_as_front-put_levels
shared_ref_as_front-put_levels c = few (goal.at.shared_ref_as_front-put_levels c).In-Ok

pub put_levels-requires : goal.put_levels-requires
put_levels-requires c =
    let l = c.in-Ok.levels in
    let n : length (take l.count l.list) ≤ most_tasks = omega (arith, few (goal.at.put_levels-requires c).In-Ok, length-take l.count l.list) in
    (n, c.requires)

pub returns-in-Ok : goal.returns-in-Ok
returns-in-Ok c =
    let lines = (printed c.args.sheet.now c.levels.result c.levels.ensures.rule c.in-Ok.is).1 in
    rw (sym lines) c.put_levels.ensures

pub returns-in-Err : goal.returns-in-Err
returns-in-Err c =
    let done = c.put_bytes.ensures in
    let line = refused c.args.sheet.now c.levels.result c.levels.ensures.rule c.in-Err.is in
    let there = rw zero-add at (stands-next refused_line (stands-none c.args.output.now) (omega (arith, c.requires)) done.count done.bytes) in
    rw line (record { count = there.count; bytes = there.bytes })
