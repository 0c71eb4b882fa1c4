-- `levels::text::put_levels` meets its contract.
use Rattle.std.proofs.Common.{◌≡◌, take, arith}
use native.Mathlib.Numerals.{add-one}
use lib.Seq.{take_all}
use Rattle.levels.proofs.Laws.{no_lines, next-line}
use Rattle.levels.proofs.text.put_levels.Goals as goal

pub loop-level-init : goal.loop-level-init
loop-level-init c = no_lines _ _

pub put_level-k-requires : goal.put_level-k-requires
put_level-k-requires c = let at = c.loop-level.invariant in omega (arith, at.short, at.long)

pub loop-level-preserved : goal.loop-level-preserved
loop-level-preserved c =
    let at = c.loop-level in
    let done = c.put_level-k.ensures in
    rw (add-one at.level-index) (next-line at.invariant (omega arith) (omega arith) done.end done.bytes)

pub returns : goal.returns
returns c =
    let at = c.loop-level in
    let ls = c.args.levels.now in
    let all : take at.level-index ls ≡ ls = take_all at.level-index ls (omega arith) in
    record { count = rw all at at.invariant.stands.count; bytes = rw all at at.invariant.stands.bytes }
