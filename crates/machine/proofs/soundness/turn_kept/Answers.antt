-- `machine::soundness::turn_kept` meets its contract.
use Rattle.std.proofs.Common.{◌≡◌, ℕ, ◌+◌, true, false, refl, lt-ltb, le-ltb, Bool, not, ◌&&◌, ltb, eqb, take, length, sym, ap, ◌∙◌, ap₂, arith, rules}
use borrow.Author.Tests.{tests}
use Rattle.std.specs.List.{list_all}
use Rattle.std.proofs.lemmas.Grind.{common_steps}
use Rattle.std.proofs.lemmas.Iterator.{YieldsList-from_slice}
use Rattle.std.proofs.lemmas.Iterator.Search.{all_from_yields_List}
use Rattle.objset.specs.Objset.{each}
use Rattle.machine.specs.Record.{core_at}
use Rattle.one_core.specs.declared.Core.{Core}
use Rattle.one_core.specs.Tidy.{◌⇒◌}
use Rattle.machine.specs.Record.{tally}
use Rattle.machine.specs.Sound.{smaller_at, smaller_tickets}
use Rattle.machine.proofs.Tally.{tally-none, tally-counts, tally-skips}
use Rattle.machine.proofs.SoundLaws.{before-each, ahead-all}
use Rattle.machine.proofs.soundness.turn_kept.Goals as goal
use Rattle.machine.proofs.soundness.turn_kept.Goals.{After-all, then-k+then-k-ticket, else-k, else-k-via-then-k+else-k-ticket, else-k-via-else-k}

-- the core's ticket differs from t, if it has a transaction
differs : ℕ → Core → Bool
differs t k = k.active ⇒ not (eqb t k.ticket)

-- the tickets of those before differ
others : (c : After-all) → c.all.result ≡ each c.args.c (λ e. differs c.args.ticket (core_at c.args.m.now e))
unfolding differs
others c =
    let m = c.args.m.now in
    let t = c.args.ticket in
    let long : length m.core ≡ 16 = search rules in
    let run : c.all.result ≡ list_all (differs t) (take c.args.c m.core) =
    all_from_yields_List (differs t) _ _ c.all.result c.all.ensures.ran (YieldsList-from_slice (take c.args.c m.core) cc) (λ x b q h. search (rules, tests)) in
    run ∙ before-each (differs t) m.core c.args.c (omega (arith, long, c.requires))

-- the smaller ones are counted
smaller : (c : After-all) → c.loop-k.smaller ≡ c.args.aborts + smaller_tickets c.args.m.now c.args.ticket
smaller c = ahead-all c.args.m.now c.args.ticket c.loop-k.smaller c.args.aborts c.loop-k.k-index c.loop-k-test.false c.loop-k.auto.k-index-end c.loop-k.invariant.1

pub loop-k-init : goal.loop-k-init
loop-k-init c = (omega arith, omega (arith, tally-none (smaller_at c.args.m.now c.args.ticket)))

pub loop-k-preserved : goal.loop-k-preserved
loop-k-preserved c =
    let s = c.args in
    let f = smaller_at s.m.now s.ticket in
    let e = c.loop-k.k-index in
    let counts : f e ≡ true → tally e f + 1 ≡ tally (e + 1) f = tally-counts (tally e f) e f refl in
    let skips : f e ≡ false → tally e f ≡ tally (e + 1) f = tally-skips (tally e f) e f refl in (
      elim c.if-k.branch [ then-k+then-k-ticket w ↦ omega arith | else-k w ↦ omega arith ],
      elim c.if-k.branch [
        | then-k+then-k-ticket w ↦ omega (arith, counts (rw (w.if-k.true, lt-ltb _ _ w.if-k-ticket.true)))
        | else-k w ↦ elim w.else-k.branch [
          | else-k-via-then-k+else-k-ticket v ↦ omega (arith, skips (rw (v.if-k.true, le-ltb _ _ v.if-k-ticket.false)))
          | else-k-via-else-k v ↦ omega (arith, skips (rw v.if-k.false))
        ]
      ],
    )

pub returns-then-ticket-m : goal.returns-then-ticket-m
unfolding differs
returns-then-ticket-m c =
    let s = c.args in
    let at = (goal.at.returns-then-ticket-m c).After-all in
    let two : c.if-all.value ≡ (c.all.result && ltb s.ticket s.m.now.tickets) = grind (arith, common_steps) in
    ap₂ (λ (b : Bool) (n : ℕ). b && ltb n s.m.now.cores)
    (sym c.if-ticket-m.true ∙ two ∙ ap (λ (b : Bool). b && ltb s.ticket s.m.now.tickets) (others at)) (smaller at)

pub returns-else-ticket-m : goal.returns-else-ticket-m
unfolding differs
returns-else-ticket-m c =
    let s = c.args in
    let at = (goal.at.returns-else-ticket-m c).After-all in
    let two : c.if-all.value ≡ (c.all.result && ltb s.ticket s.m.now.tickets) = grind (arith, common_steps) in
    c.if-ticket-m.false
    ∙ ap (λ (b : Bool). b && ltb (s.aborts + smaller_tickets s.m.now s.ticket) s.m.now.cores)
    (sym c.if-ticket-m.false ∙ two ∙ ap (λ (b : Bool). b && ltb s.ticket s.m.now.tickets) (others at))
