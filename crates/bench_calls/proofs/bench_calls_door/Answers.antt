-- `bench_calls::bench_calls_door` meets its contract: what is left of the list gives what the list gives.
use Rattle.std.proofs.Common.{◌≡◌, ap, ◌∙◌, arith}
use Rattle.bench_calls.specs.Lists.{Progress, door_gives, door_run}
use Rattle.machine.specs.Rule.{lent, setup}
use Rattle.bench_calls.proofs.Runs.{state, saves, restores, calls, list-ends, door-starts}
use Rattle.bench_calls.proofs.bench_calls_door.Goals as goal
use Rattle.bench_calls.proofs.bench_calls_door.Goals.{in-0, in-1, in_default, After-number_of}

pub loop-number-preserved : goal.loop-number-preserved
loop-number-preserved c =
    let test = c.loop-number-test.true in
    let inv = c.loop-number.invariant in
    elim c.match-number-rem16.branch [
      | in-0 w ↦ rw (w.committed-is, w.pending-is, w.m-is, w.kept-is, w.last-is) (saves _ _ _ _ _ inv test w.in-0.is)
      | in-1 w ↦ rw (w.committed-is, w.pending-is, w.m-is, w.kept-is, w.last-is) (restores _ _ _ _ _ inv test w.in-1.is)
      | in_default w ↦
          let e = w.door_step-step.ensures ∙ ap (door_gives (lent c.loop-number.m c.loop-number.committed c.loop-number.pending) _) w.asked.ensures in
          rw (w.committed-is, w.pending-is, w.m-is, w.kept-is, w.last-is) (calls _ _ _ _ _ inv test (λ n. omega (arith, n)) (λ n. omega (arith, n)) w.door_step-step.result _ _ e)
    ]

-- the list is at its end
ended : (c : After-number_of) → state c.loop-number.last c.loop-number.m c.loop-number.committed c.loop-number.pending c.loop-number.kept ≡ door_run (setup c.args.cores c.args.cards c.args.committed.now c.args.pending.now) c.args.list.now
ended c = list-ends _ _ _ _ _ c.loop-number.invariant c.loop-number-test.false ∙ door-starts _ _ _ _ _ c.setup-made.ensures.rule

pub returns-clause-number : goal.returns-clause-number
returns-clause-number c = c.number_of.ensures ∙ ap (λ (s : Progress). s.last) (ended c)

pub returns-clause-committed : goal.returns-clause-committed
returns-clause-committed c = ap (λ (s : Progress). s.world.committed) (ended c)

pub returns-clause-pending : goal.returns-clause-pending
returns-clause-pending c = ap (λ (s : Progress). s.world.pending) (ended c)
