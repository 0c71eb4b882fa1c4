-- `machine::soundness::versions_bounded` meets its contract: the answer is of the versions passed.
use Rattle.std.proofs.Common.{◌≡◌, ap₂, ℕ, ◌<◌, ◌≤◌, ◌&&◌, leb, ◌⊎◌, get_or, sym, ap, ◌∙◌, inl, inr, ⊎_elim, arith, eq-eqb, eqb-true, leb-true, le-leb}
use borrow.Author.Tests.{lt-leb}
use Rattle.objset.specs.Objset.{each}
use Rattle.objset.proofs.Laws.{both_right}
use Rattle.machine.specs.declared.Machine.{Machine}
use Rattle.one_core.proofs.TestLaws.{and-true, same_test, each_none}
use Rattle.machine.proofs.SoundLaws.{card_at, each_next, versions-bounded}
use Rattle.machine.proofs.soundness.versions_bounded.Goals as goal
use Rattle.machine.proofs.soundness.versions_bounded.Goals.{then-d-objects, else-d-objects}

-- the most that the version of object d may be: the commits, or 0 where the machine lacks the object
Most : Machine → ℕ → ℕ → Type 0
Most m d most = ((d < m.objects) × (most ≡ m.commits)) ⊎ ((m.objects ≤ d) × (most ≡ 0))

module _ (m : Machine) (d most : ℕ) (at_most : Most m d most) where
  version : ℕ
  version = get_or m.versions d 0

  -- the test of the version is the rules' of card d
  tested : leb version most ≡ card_at m d
  unfolding Most version
  tested =
      ⊎_elim (λ w. rw (w.1, lt-leb m.objects d w.0) (sym (and-true (leb version m.commits))))
      (λ w. rw (w.1, le-leb m.objects d w.0) (same_test _ _
      (λ e. let zero = leb-true _ _ e in rw (le-leb version m.commits (omega (arith, zero)), eq-eqb version 0 (omega (arith, zero))))
      (λ e. le-leb _ _ (omega (arith, eqb-true version 0 (both_right (leb version m.commits) _ e)))))) at_most

pub loop-d-init : goal.loop-d-init
loop-d-init c = sym (each_none _)

pub loop-d-preserved : goal.loop-d-preserved
unfolding Most version
loop-d-preserved c =
    let m = c.args.m.now in
    let most = c.if-d-objects in
    let at_most : Most m c.loop-d.d most.most = elim most.branch [ then-d-objects w ↦ inl (w.if-d-objects.true, w.most-is) | else-d-objects w ↦ inr (w.if-d-objects.false, w.most-is) ] in
    ap₂ ◌&&◌ c.loop-d.invariant (tested m _ _ at_most) ∙ each_next c.loop-d.d (card_at m)

pub returns : goal.returns
returns c =
    let m = c.args.m.now in
    c.loop-d.invariant ∙ ap (λ (x : ℕ). each x (card_at m)) (omega arith) ∙ versions-bounded m
