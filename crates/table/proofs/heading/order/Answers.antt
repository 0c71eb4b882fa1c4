-- `table::heading::order` meets its contract. The loop's invariant: the first i names all stand, and their places are the first i.
use mathlib.Core.Path.{refl, sym, ◌∙◌}
use native.Mathlib.Omega.{arith}
use Rattle.table.specs.Fields.{places_of, all_stand}
use Rattle.table.specs.Cut.{filled}
use Rattle.table.proofs.Cuts.{room, fielded}
use Rattle.table.proofs.Ordering.{names-uncut, line-uncut, name-placed, name-stands, name-missing, names-placed}
use Rattle.table.proofs.heading.order.Goals as goal

pub returns-in_err-wanted : goal.returns-in_err-wanted
returns-in_err-wanted c =
    c.from_residual.ensures
    ∙ sym (names-uncut c.args.names c.args.line c.args.longest c.how_many-count.result c.how_many-count.ensures (sym c.in_err-wanted.ensures))

pub returns-in_err-f : goal.returns-in_err-f
returns-in_err-f c =
    c.from_residual-in_err-f.ensures
    ∙ sym (line-uncut c.args.names c.args.line c.args.longest c.how_many-count.result c.how_many-count.ensures (sym c.in_err-f.ensures))

pub loop-i-init : goal.loop-i-init
unfolding filled places_of all_stand
loop-i-init c = (refl, refl)

pub part-requires : goal.part-requires
part-requires c = fielded _ _ _ (sym c.in_ok-wanted.ensures)

pub place-requires : goal.place-requires
place-requires c = fielded _ _ _ (sym c.in_ok-f.ensures)

pub returns-in_err-places : goal.returns-in_err-places
returns-in_err-places c =
    c.from_residual-in_err-places.ensures
    ∙ sym
    (name-missing c.args.names c.args.line c.args.longest c.how_many-count.result c.how_many-count.ensures (sym c.in_ok-wanted.ensures) (sym c.in_ok-f.ensures)
    c.loop-i.i c.loop-i-test.true c.part.result.now c.part.ensures c.in_err-places.ensures)

pub offset_bounds-places-i : goal.offset_bounds-places-i
offset_bounds-places-i c = omega (arith, room _ _ _ (sym c.in_ok-f.ensures))

pub bounds-places-i : goal.bounds-places-i
bounds-places-i c = omega (arith, room _ _ _ (sym c.in_ok-f.ensures))

pub loop-i-preserved : goal.loop-i-preserved
loop-i-preserved c = (
  name-placed c.args.names c.args.line c.args.longest c.how_many-count.result c.how_many-count.ensures (sym c.in_ok-wanted.ensures) (sym c.in_ok-f.ensures)
      c.loop-i.i c.loop-i-test.true c.part.result.now c.part.ensures c.in_ok-places.field-0 c.in_ok-places.ensures.1 c.loop-i.places c.loop-i.invariant.0,
  name-stands c.args.names c.args.line c.args.longest c.how_many-count.result c.how_many-count.ensures (sym c.in_ok-wanted.ensures) (sym c.in_ok-f.ensures)
      c.loop-i.i c.loop-i-test.true c.part.result.now c.part.ensures c.in_ok-places.ensures.0 c.loop-i.invariant.1,
)

pub returns : goal.returns
returns c =
    sym
    (names-placed c.args.names c.args.line c.args.longest c.how_many-count.result c.how_many-count.ensures (sym c.in_ok-wanted.ensures) (sym c.in_ok-f.ensures)
    c.loop-i.i c.loop-i.places (omega arith) c.loop-i.invariant.0 c.loop-i.invariant.1)
