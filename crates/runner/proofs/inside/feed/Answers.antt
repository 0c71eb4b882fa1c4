-- `runner::inside::feed` meets its contract: each byte keeps the loop's invariant.
use Rattle.std.proofs.Common.{◌≡◌, ℕ, sym, ap, arith}
use Rattle.runner.specs.declared.Reading.{Reading}
use Rattle.runner.proofs.ByteLaws.{skipped, lost, joined-fit, joined-listed}
use Rattle.runner.proofs.Stepping.{after-skipped, after-lost, after-joined}
use Rattle.runner.proofs.Feeding.{feeding-starts, feeding-stays, newline-reads, feeding-done, feeding-kept, part_room, room-left}
use Rattle.runner.proofs.inside.feed.Invariants.{with_length}
use Rattle.runner.proofs.inside.feed.Goals as goal
use Rattle.runner.proofs.inside.feed.Goals.{then-b-ne10+then-length-lt-KEPT_BYTES, then-b-ne10+else-length-lt-KEPT_BYTES, else-b-ne10+then-r, else-b-ne10+else-r}

-- a reading with its own length
own-length : (r : Reading) (n : ℕ) → r.length ≡ n → with_length r n ≡ r
own-length r n e = ap (with_length r) (sym e)

pub loop-b-init : goal.loop-b-init
loop-b-init c = feeding-starts _ _ _ _ _ c.requires.0

pub line_listed-written-requires-clause-room : goal.line_listed-written-requires-clause-room
line_listed-written-requires-clause-room c = part_room _ _ (room-left c.loop-b.invariant c.loop-b-test.true c.requires.1)

pub loop-b-preserved : goal.loop-b-preserved
loop-b-preserved c =
    let f = c.loop-b.invariant in
    let turn = c.loop-b-test.true in
    elim c.if-b-ne10.branch [
      | then-b-ne10+then-length-lt-KEPT_BYTES w ↦
          rw (w.committed-is, w.pending-is, w.output-is, w.r-is, w.written-is, w.length-is)
          (feeding-stays _ _ _ _ _ _ _ _ _ _ _ f turn _ (joined-fit _ _ _ f.fit _ w.if-b-ne10.true w.if-length-lt-KEPT_BYTES.true)
          (joined-listed _ _ _ f.fit _ w.if-b-ne10.true w.if-length-lt-KEPT_BYTES.true)
          (after-joined _ _ _ _ w.if-b-ne10.true w.if-length-lt-KEPT_BYTES.true))
      | then-b-ne10+else-length-lt-KEPT_BYTES w ↦
          rw (w.committed-is, w.pending-is, w.output-is, w.r-is, w.written-is, w.length-is)
          (feeding-stays _ _ _ _ _ _ _ _ _ _ _ f turn _ f.fit (lost _ _ _ f.fit _ w.if-b-ne10.true w.if-length-lt-KEPT_BYTES.false)
          (after-lost _ _ _ _ w.if-b-ne10.true w.if-length-lt-KEPT_BYTES.false))
      | else-b-ne10+then-r w ↦
          let did = w.line_listed-written.ensures in
          rw (w.committed-is, w.pending-is, w.output-is, w.r-is, w.written-is, w.length-is, own-length w.line_listed-written.new.r 0 did.empty)
          (newline-reads _ _ _ _ _ _ _ _ _ _ _ f turn w.if-b-ne10.false _ _ _ _ _ did.fit did.listed did.after.0 did.after.1 w.line_listed-written.auto.output
          (omega (arith, room-left f turn c.requires.1)) did.kept)
      | else-b-ne10+else-r w ↦
          rw (w.committed-is, w.pending-is, w.output-is, w.r-is, w.written-is, w.length-is)
          (feeding-stays _ _ _ _ _ _ _ _ _ _ _ f turn _ f.fit (skipped _ _ _ f.fit _ w.if-r.false) (after-skipped _ _ _ _ w.if-b-ne10.false w.if-r.false))
    ]

pub returns-clause-listed : goal.returns-clause-listed
returns-clause-listed c = feeding-done c.loop-b.invariant c.loop-b-test.false

pub returns-clause-kept : goal.returns-clause-kept
returns-clause-kept c = feeding-kept c.loop-b.invariant c.loop-b-test.false
