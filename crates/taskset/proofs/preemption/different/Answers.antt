-- `taskset::preemption::different` meets its contract.
use Rattle.std.proofs.Common.{rules, tests, ◌≡◌, sym, ap, ◌∙◌, ℕ, ◌+◌, ◌<◌, List, ◌∷◌, ◌++◌, false, length, get_or, set, take, drop, arith}
use Rattle.std.proofs.lemmas.Iterator.{YieldsList-from_slice}
use Rattle.std.proofs.lemmas.Iterator.Search.{any_from_yields_List}
use Rattle.std.proofs.lemmas.Slice.{between_to_end}
use mathlib.Core.List.{append-nil}
use native.Mathlib.Numerals.{add-one}
use lib.Dec.{eqb}
use lib.ListN.{length-map, get_or-map}
use lib.Seq.{take-suc-set, append_snoc, length-take-le}
use Rattle.taskset.specs.declared.Task.{Task}
use Rattle.taskset.specs.Tasks.{no_task, occurs, deadlines_of}
use Rattle.taskset.specs.Counted.{distinct}
use Rattle.taskset.proofs.Numbers.{occurs-later}
use Rattle.taskset.proofs.Counting.{distinct-here, distinct-later, none_left}
use Rattle.taskset.proofs.preemption.different.Goals as goal
use Rattle.taskset.proofs.preemption.different.Goals.{After-any, After-loop-i, then-not-any, else-not-any}

-- whether the deadline stands in a later task
later : (c : After-any) → c.any.result ≡ occurs (get_or (deadlines_of c.args.tasks.now) c.loop-i.i 0) (drop (c.loop-i.i + 1) (deadlines_of c.args.tasks.now))
later c =
    let ts = c.args.tasks.now in
    let i = c.loop-i.i in
    any_from_yields_List (λ (t : Task). eqb (get_or ts i no_task).deadline t.deadline) _ _ _ c.any.ensures.ran
    (YieldsList-from_slice (drop (i + 1) ts) (c.iter.ensures.rest ∙ between_to_end ts (i + 1) (length ts) (omega arith)))
    (λ x b q k. search (rules, tests))
    ∙ occurs-later (λ (t : Task). t.deadline) ts i

-- one more stands in the first places
put : (ds row : List ℕ) (n i d : ℕ) → n < length row → i < length ds → d ≡ get_or ds i 0 → take n row ++ distinct (drop i ds) ≡ distinct ds
    → occurs (get_or ds i 0) (drop (i + 1) ds) ≡ false → take (n + 1) (set row n d) ++ distinct (drop (i + 1) ds) ≡ distinct ds
put ds row n i d h l e so_far new =
    ap (λ (m : ℕ). take m (set row n d) ++ distinct (drop (i + 1) ds)) (add-one n)
    ∙ ap (λ (r : List ℕ). r ++ distinct (drop (i + 1) ds)) (take-suc-set row n d h)
    ∙ append_snoc (take n row) d (distinct (drop (i + 1) ds))
    ∙ ap (λ (x : ℕ). take n row ++ (x ∷ distinct (drop (i + 1) ds))) e
    ∙ ap (λ (r : List ℕ). take n row ++ r) (sym (distinct-here ds i l new))
    ∙ so_far

pub loop-i-preserved : goal.loop-i-preserved
loop-i-preserved c =
    let at = (goal.at.loop-i-preserved c).After-any in
    let ts = c.args.tasks.now in
    let ds = deadlines_of ts in
    let i = c.loop-i.i in
    let n = c.loop-i.n in
    let l : i < length ds = omega (arith, length-map ts (λ (t : Task). t.deadline)) in
    elim c.if-not-any.branch [
      | then-not-any w ↦
          let new = sym (later at) ∙ w.if-not-any.true in
          rw (w.n-is, w.deadlines-is) (record {
            few = omega arith;
            all = put ds c.loop-i.deadlines n i _ (omega arith) l (sym (get_or-map (λ (t : Task). t.deadline) ts i no_task)) c.loop-i.invariant.all new;
          })
      | else-not-any w ↦
          let old = sym (later at) ∙ w.if-not-any.false in
          rw (w.n-is, w.deadlines-is) (record {
            few = omega arith;
            all = ap (λ (r : List ℕ). take n c.loop-i.deadlines ++ r) (sym (distinct-later ds i l old)) ∙ c.loop-i.invariant.all;
          })
    ]

-- after the last turn all of them stand there
filled : (c : After-loop-i) → take c.loop-i.n c.loop-i.deadlines ≡ distinct (deadlines_of c.args.tasks.now)
filled c =
    let ds = deadlines_of c.args.tasks.now in
    sym (append-nil (take c.loop-i.n c.loop-i.deadlines))
    ∙ ap (λ (r : List ℕ). take c.loop-i.n c.loop-i.deadlines ++ r) (sym (none_left ds c.loop-i.i (omega (arith, length-map c.args.tasks.now (λ (t : Task). t.deadline)))))
    ∙ c.loop-i.invariant.all

pub returns : goal.returns
returns c =
    let list = filled (goal.at.returns c).After-loop-i in
    record { count = sym (length-take-le c.loop-i.n c.loop-i.deadlines (omega arith)) ∙ ap (λ (r : List ℕ). length r) list; list = list }
