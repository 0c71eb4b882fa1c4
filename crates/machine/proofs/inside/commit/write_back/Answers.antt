-- `machine::inside::commit::write_back` meets its contract.
use Rattle.std.proofs.Common.{sym, refl, ◌∙◌, arith, rules}
use Rattle.objset.proofs.Bitwise.{removed-less}
use Rattle.machine.proofs.SetLoop.{left-all, left-next, next-left, turned_none, turned-next, turned-all}
use Rattle.machine.proofs.inside.commit.write_back.Goals as goal

pub loop-d-init : goal.loop-d-init
loop-d-init c = (left-all _ (search rules), turned_none _ _ _, turned_none _ _ _)

pub offset_bounds-own-d : goal.offset_bounds-own-d
offset_bounds-own-d c = record { fits = omega (arith, (next-left _ _ _ c.loop-d.invariant.0 c.in-Some.ensures).place) }

pub bounds-own-d : goal.bounds-own-d
bounds-own-d c =
    let at = next-left _ _ _ c.loop-d.invariant.0 c.in-Some.ensures in
    omega (arith, c.requires.by_index _ at.place at.written)

pub offset_bounds-committed-d : goal.offset_bounds-committed-d
offset_bounds-committed-d c = record { fits = omega (arith, (next-left _ _ _ c.loop-d.invariant.0 c.in-Some.ensures).place) }

pub bounds-committed-d : goal.bounds-committed-d
bounds-committed-d c =
    let at = next-left _ _ _ c.loop-d.invariant.0 c.in-Some.ensures in
    omega (arith, c.requires.by_index _ at.place at.written, c.loop-d.invariant.1.same_length)

pub offset_bounds-versions-d : goal.offset_bounds-versions-d
offset_bounds-versions-d c = record { fits = omega (arith, (next-left _ _ _ c.loop-d.invariant.0 c.in-Some.ensures).place) }

pub bounds-versions-d : goal.bounds-versions-d
bounds-versions-d c = (next-left _ _ _ c.loop-d.invariant.0 c.in-Some.ensures).place

pub overflow_add-versions : goal.overflow_add-versions
overflow_add-versions c =
    let at = next-left _ _ _ c.loop-d.invariant.0 c.in-Some.ensures in
    let d = c.in-Some.d in
    record {
      fits = omega (arith, c.loop-d.invariant.2.waiting d (omega (arith, at.place, c.requires.versions_len)) at.waits, c.requires.by_index_2 d (c.requires.by_index d at.place at.written) at.written);
    }

pub bounds-versions-d-in-Some : goal.bounds-versions-d-in-Some
bounds-versions-d-in-Some c = (next-left _ _ _ c.loop-d.invariant.0 c.in-Some.ensures).place

pub loop-d-smaller : goal.loop-d-smaller
loop-d-smaller c =
    let at = next-left _ _ _ c.loop-d.invariant.0 c.in-Some.ensures in
    omega (arith, c.remove-rest.ensures, removed-less _ _ c.loop-d.invariant.0.fits at.waits)

pub loop-d-preserved : goal.loop-d-preserved
loop-d-preserved c =
    let turn = c.loop-d in
    let d = c.in-Some.d in
    let at = next-left _ _ _ turn.invariant.0 c.in-Some.ensures in
    rw c.remove-rest.ensures (
      left-next _ turn.rest d turn.invariant.0,
      turned-next _ _ _ turn.rest d turn.committed _ turn.invariant.0 turn.invariant.1 (c.requires.by_index d at.place at.written) at.waits refl,
      turned-next _ _ _ turn.rest d turn.versions _ turn.invariant.0 turn.invariant.2 (omega (arith, at.place, c.requires.versions_len)) at.waits refl,
    )

pub returns-clause-values : goal.returns-clause-values
returns-clause-values c = turned-all _ _ _ _ _ c.loop-d.invariant.0.fits (sym c.first.ensures ∙ c.in_default.is) c.loop-d.invariant.1

pub returns-clause-raised : goal.returns-clause-raised
returns-clause-raised c = turned-all _ _ _ _ _ c.loop-d.invariant.0.fits (sym c.first.ensures ∙ c.in_default.is) c.loop-d.invariant.2
