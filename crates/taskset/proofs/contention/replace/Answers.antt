-- `taskset::contention::replace` meets its contract.
use Rattle.std.proofs.Common.{◌≡◌, sym, ap, ◌∙◌, ℕ, ◌<◌, ◌++◌, ◌+◌, ◌≤◌, List, Bool, cond, true, false, length, get_or, set, drop, arith}
use mathlib.Core.List.{append-nil}
use lib.ListN.{drop_of_length-le}
use lib.Seq.{take_all}
use Rattle.objset.specs.Objset.{meeting}
use Rattle.taskset.specs.Groups.{replaced}
use Rattle.taskset.proofs.Columns.{listed, listed_next, listed-at, map_at}
use Rattle.taskset.proofs.GroupLaws.{replaced-length}
use Rattle.taskset.proofs.contention.replace.Goals as goal
use Rattle.taskset.proofs.contention.replace.Goals.{then-meets, else-meets}

module _ (c w : ℕ) (gs row : List ℕ) (i : ℕ) (l : i < length gs) (e : row ≡ listed gs i (replaced c w gs)) where
  here : get_or row i 0 ≡ get_or gs i 0
  here = listed-at gs (replaced c w gs) row i 0 (omega (arith, l, replaced-length c w gs)) l e

  turned : (b : Bool) → meeting c (get_or row i 0) ≡ b → set row i (cond b w (get_or row i 0)) ≡ listed gs (i + 1) (replaced c w gs)
  unfolding replaced
  turned b m =
      listed_next gs (replaced c w gs) row i (cond b w (get_or row i 0)) 0 (omega (arith, l, replaced-length c w gs)) l
      (ap (λ (q : Bool). cond q w (get_or row i 0)) (sym m) ∙ ap (λ (g : ℕ). cond (meeting c g) w g) here ∙ sym (map_at (λ (g : ℕ). cond (meeting c g) w g) gs i 0 0 l))
      e

pub loop-group-preserved : goal.loop-group-preserved
loop-group-preserved c =
    let s = c.args in
    let at = c.loop-group in
    let l : at.group-index < length s.groups.now = omega arith in
    elim c.if-meets.branch [
      | then-meets w ↦ w.groups-is ∙ turned s.cards s.whole s.groups.now at.groups at.group-index l at.invariant true (sym c.meets.ensures ∙ w.if-meets.true)
      | else-meets w ↦ w.groups-is ∙ turned s.cards s.whole s.groups.now at.groups at.group-index l at.invariant false (sym c.meets.ensures ∙ w.if-meets.false)
    ]

pub returns : goal.returns
returns c =
    let s = c.args in
    let all = replaced s.cards s.whole s.groups.now in
    let i = c.loop-group.group-index in
    let end : length s.groups.now ≤ i = omega arith in
    c.loop-group.invariant
    ∙ ap (λ (r : List ℕ). r ++ drop i s.groups.now) (take_all i all (omega (arith, end, replaced-length s.cards s.whole s.groups.now)))
    ∙ ap (λ (r : List ℕ). all ++ r) (drop_of_length-le s.groups.now end)
    ∙ append-nil all
