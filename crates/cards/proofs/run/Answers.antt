-- The heading fits the buffer, and the runner starts fit.
use Rattle.std.proofs.Common.{length, refl, sym, ap, ◌∙◌, arith, length-take-le}
use Rattle.listing.specs.Text.{heading}
use Rattle.listing.proofs.Laws.{fitting-whole}
use Rattle.runner.proofs.Laws.{start-fit}
use Rattle.cards.proofs.run.Goals as goal

pub slice_bounds-output-end : goal.slice_bounds-output-end
slice_bounds-output-end g c =
    let eighteen = c.put_heading-heading.ensures.count ∙ ap length (fitting-whole heading _ (omega (arith, c.put_heading-heading.auto.output))) in
    omega (arith, eighteen, c.put_heading-heading.auto.output)

pub slice_bounds-write_all-end : goal.slice_bounds-write_all-end
slice_bounds-write_all-end g c = sym (length-take-le _ _ (slice_bounds-output-end g c.before))

pub loop-init : goal.loop-init
loop-init g c = (start-fit _ _ _ c.start-reading.ensures refl refl, refl)
