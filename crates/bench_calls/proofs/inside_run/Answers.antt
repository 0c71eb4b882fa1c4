-- `bench_calls::inside_run` meets its contract: the world is good with the record at hand and with the one kept, and what is left of the list
-- gives what the list gives.
use Rattle.std.proofs.Common.{◌≡◌, refl, ap, ◌∙◌, arith}
use Rattle.bench_calls.specs.Lists.{Progress, inside_gives, inside, ready, run}
use Rattle.machine.specs.Rule.{lent, left}
use Rattle.machine.specs.declared.Outcome.{Outcome}
use Rattle.bench_calls.proofs.Kept.{same-lengths, step-good}
use Rattle.bench_calls.proofs.Runs.{state, saves, restores, calls, list-ends}
use Rattle.bench_calls.proofs.inside_run.Goals as goal
use Rattle.bench_calls.proofs.inside_run.Goals.{in-0, in-1, in_default, After-number_of}

pub loop-number-init : goal.loop-number-init
loop-number-init c = (c.requires, c.requires, refl)

pub loop-number-preserved : goal.loop-number-preserved
loop-number-preserved c =
    let test = c.loop-number-test.true in
    let at = c.loop-number in
    let inv = at.invariant in
    elim c.match-number-rem16.branch [
      | in-0 w ↦ rw (w.committed-is, w.pending-is, w.m-is, w.kept-is, w.last-is) (inv.0, inv.0, saves _ _ _ _ _ inv.2 test w.in-0.is)
      | in-1 w ↦ rw (w.committed-is, w.pending-is, w.m-is, w.kept-is, w.last-is) (inv.1, inv.1, restores _ _ _ _ _ inv.2 test w.in-1.is)
      | in_default w ↦
          let step = w.inside_step-last in
          let e = step.ensures ∙ ap (inside_gives (lent at.m at.committed at.pending) _) w.asked.ensures in
          let r : Outcome = record { answer = step.result; machine = step.new.m } in
          rw (w.committed-is, w.pending-is, w.m-is, w.kept-is, w.last-is) (
            step-good _ inv.0 _ _ (left r step.new.committed step.new.pending) step.ensures,
            same-lengths _ _ _ _ _ inv.1 step.auto.committed step.auto.pending,
            calls _ _ _ _ _ inv.2 test (λ n. omega (arith, n)) (λ n. omega (arith, n)) r _ _ e,
          )
    ]

pub inside_step-last-requires : goal.inside_step-last-requires
inside_step-last-requires c = c.loop-number.invariant.0.world_sound

-- the list is at its end
ended : (c : After-number_of) → state c.loop-number.last c.loop-number.m c.loop-number.committed c.loop-number.pending c.loop-number.kept ≡ run inside (ready (lent c.args.first c.args.committed.now c.args.pending.now)) c.args.list.now
ended c = list-ends _ _ _ _ _ c.loop-number.invariant.2 c.loop-number-test.false

pub returns-clause-number : goal.returns-clause-number
returns-clause-number c = c.number_of.ensures ∙ ap (λ (s : Progress). s.last) (ended c)

pub returns-clause-committed : goal.returns-clause-committed
returns-clause-committed c = ap (λ (s : Progress). s.world.committed) (ended c)

pub returns-clause-pending : goal.returns-clause-pending
returns-clause-pending c = ap (λ (s : Progress). s.world.pending) (ended c)
