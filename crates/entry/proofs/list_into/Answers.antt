-- `entry::list_into` meets its contract.
use Rattle.std.proofs.Common.{[], refl, sym, ◌∙◌, arith, rules, length-take-le}
use Rattle.entry.proofs.Filling.{Running, heading-put, running-starts, running-goes, all-run, passed, running-small, running-ends}
use Rattle.runner.proofs.Bounds.{enough-any}
use Rattle.entry.proofs.list_into.Goals as goal
use Rattle.entry.proofs.list_into.Goals.{in-None, in-Some+then-not-reading}

pub slice_bounds-text-end : goal.slice_bounds-text-end
slice_bounds-text-end c =
    let put = c.put_heading-total in
    let eighteen = (heading-put _ _ _ refl put.ensures.count put.ensures.bytes).0 in
    omega (arith, eighteen, put.auto.output)

pub slice_bounds-put_bytes-end : goal.slice_bounds-put_bytes-end
slice_bounds-put_bytes-end c =
    let put = c.put_heading-total in
    let eighteen = (heading-put _ _ _ refl put.ensures.count put.ensures.bytes).0 in
    sym (length-take-le _ _ (omega (arith, eighteen, put.auto.output)))

pub loop-chunk-init : goal.loop-chunk-init
loop-chunk-init c =
    let put = c.put_heading-total in (
      search rules,
      running-starts _ _ _ _ _ _ _ _ _ _ (heading-put _ _ _ refl put.ensures.count put.ensures.bytes) c.put_bytes.ensures.bytes
          put.auto.output c.start-reading.ensures refl refl (search rules),
    )

pub slice_bounds-text-end-in-loop-chunk : goal.slice_bounds-text-end-in-loop-chunk
slice_bounds-text-end-in-loop-chunk c =
    let chunk = c.in-Some.ensures.steps.1 in
    omega (arith, c.feed-fed.ensures.after.0, c.feed-fed.auto.output, c.loop-chunk.invariant.0, chunk.1, c.loop-chunk.invariant.1.scratch-long)

pub slice_bounds-put_bytes-end-in-loop-chunk : goal.slice_bounds-put_bytes-end-in-loop-chunk
slice_bounds-put_bytes-end-in-loop-chunk c =
    let chunk = c.in-Some.ensures.steps.1 in
    sym (length-take-le _ _ (omega (arith, c.feed-fed.ensures.after.0, c.feed-fed.auto.output, c.loop-chunk.invariant.0, chunk.1, c.loop-chunk.invariant.1.scratch-long)))

pub loop-chunk-preserved : goal.loop-chunk-preserved
loop-chunk-preserved c =
    let chunk = c.in-Some.ensures.steps.1 in (
      c.in-Some.ensures.steps.0 ∙ c.loop-chunk.invariant.0,
      running-goes _ _ _ _ _ _ _ _ _ c.loop-chunk.invariant.1 _ _ _ _ _ _ _ _ chunk.0 c.feed-fed.ensures.fit
          (c.feed-fed.auto.output ∙ c.loop-chunk.invariant.1.scratch-long) (omega (arith, c.feed-fed.ensures.after.0, c.loop-chunk.invariant.0, chunk.1))
          c.feed-fed.ensures.listed c.put_bytes-in-loop-chunk.ensures.bytes,
    )

pub overflow_add-total : goal.overflow_add-total
overflow_add-total c =
    let chunk = c.in-Some.ensures.steps.1 in
    record {
      fits = omega (
        arith,
        running-small _ _ _ _ _ _ _ _ _ c.loop-chunk.invariant.1,
        c.feed-fed.ensures.after.0,
        c.loop-chunk.invariant.0,
        chunk.1,
      );
    }

pub returns : goal.returns
returns c =
    let put = c.put_heading-total in
    let run = c.match-next in
    let all-is-run : Running c.args.script.now c.put_bytes.new.output run.output run.committed run.pending run.text run.total run.reading [] =
    elim c.match-next.branch [
      | in-None w ↦ rw (w.output-is, w.committed-is, w.pending-is, w.text-is, w.total-is, w.reading-is)
          (all-run _ _ _ _ _ _ _ _ _ c.loop-chunk.invariant.1 w.in-None.ensures.steps.1.0)
      | in-Some+then-not-reading w ↦
          let chunk = w.in-Some.ensures.steps.1 in
          rw (w.output-is, w.committed-is, w.pending-is, w.text-is, w.total-is, w.reading-is)
          (passed _ _ _ _ _ _ _ _ _ (running-goes _ _ _ _ _ _ _ _ _ c.loop-chunk.invariant.1 _ _ _ _ _ _ _ _ chunk.0 w.feed-fed.ensures.fit
          (w.feed-fed.auto.output ∙ c.loop-chunk.invariant.1.scratch-long) (omega (arith, w.feed-fed.ensures.after.0, c.loop-chunk.invariant.0, chunk.1))
          w.feed-fed.ensures.listed w.put_bytes-in-loop-chunk.ensures.bytes) w.if-not-reading.true)
    ] in
    let all = running-ends _ _ _ _ _ _ _ _ _ all-is-run _ _ _ _ c.finish-k.result.written refl c.put_bytes.ensures.bytes
    (heading-put _ _ _ refl put.ensures.count put.ensures.bytes).1 c.finish-k.ensures.listed
    (omega (arith, c.finish-k.ensures.after.0, c.finish-k.auto.output, all-is-run.scratch-long)) c.put_bytes-2.ensures.bytes in
    record { count = all.0; bytes = all.1 }

pub overflow_add-result : goal.overflow_add-result
overflow_add-result c =
    record { fits = omega (arith, (returns c).count, enough-any c.args.script.now) }
