-- What every single call keeps to: after an accepted setup no record is unsound and no table's length wrong; only write changes a pending
-- word, only commit a committed one.
use Rattle.std.proofs.Common.{◌≡◌, ℕ, zero, suc, ◌*◌, Bool, true, false, cond, not, ◌&&◌, ◌||◌, List, length, sym, refl, ◌∙◌, subst, ap₂, true≢false, arith, eq-eqb}
use Rattle.machine.specs.Record.{core_at}
use Rattle.machine.specs.Sound.{sound}
use Rattle.machine.specs.Answers.{refusal_number}
use Rattle.machine.specs.Rule.{World, Result, unless_lent, set_back_told, valued, read, written, write, must_wait, through, waiting, commit, rule, Call, Release, Begin, Read, Write, Commit, GiveUp, Finish}
use Rattle.machine.specs.Refusals.{at, refusals, applies, Smallest}
use Rattle.machine.proofs.Refusals.{smallest-given}
use Rattle.machine.specs.Inside.{WellFormedWorld}

-- ---- after an accepted setup refusals 2 and 3 never come

-- a number that is given applies
given-applies : (w : World) (call : Call) (n : ℕ) → refusal_number (rule w call).answer ≡ suc n → applies (suc n) (refusals w call) ≡ true
given-applies w call n p = (subst (λ (k : ℕ). Smallest k (refusals w call)) p (smallest-given w call)).it_applies (omega arith)

-- a condition that is given by the failing of t, for calls that can be refused so
failed : (can t : Bool) → (can && not t || false) ≡ true → t ≡ false
failed true true p = absurd (true≢false (sym p))
failed true false p = refl
failed false t p = absurd (true≢false (sym p))

pub never-unsound : {w : World} (call : Call) → WellFormedWorld w → refusal_number (rule w call).answer ≡ 2 → ⊥
unfolding refusals applies
never-unsound {w} call g p = true≢false (sym g.world_sound.is_sound ∙ failed true (sound w.machine) (given-applies w call 1 p))

pub never-misfit : {w : World} (call : Call) → WellFormedWorld w → refusal_number (rule w call).answer ≡ 3 → ⊥
unfolding refusals applies
never-misfit {w} call g p =
    let fit =
    ap₂ ◌&&◌ (eq-eqb (length w.committed) w.machine.objects g.world_sound.committed_long)
    (eq-eqb (length w.pending) (w.machine.cores * w.machine.objects) g.world_sound.pending_long) in
    true≢false (sym fit ∙ failed (at call false false true true true false false) _ (given-applies w call 2 p))

-- ---- which calls change a table

abbrev pub is_write : Call → Bool
is_write call = at call false false false true false false false

abbrev pub is_commit : Call → Bool
is_commit call = at call false false false false true false false

-- a table that an accepted call keeps is kept by the call
module _ (table : World → List ℕ) (w : World) where
  lent-keeps : (r : ℕ) (x : Result) → table x.world ≡ table w → table (unless_lent r w x).world ≡ table w
  unfolding unless_lent
  lent-keeps zero x h = h
  lent-keeps (suc r) x h = refl

  either-keeps : (b : Bool) (x y : Result) → table x.world ≡ table w → table y.world ≡ table w → table (cond b x y).world ≡ table w
  either-keeps true x y p q = p
  either-keeps false x y p q = q

pending : World → List ℕ
pending w = w.pending

committed : World → List ℕ
committed w = w.committed

pub only-write-pending : (w : World) (call : Call) → is_write call ≡ false → (rule w call).world.pending ≡ w.pending
unfolding rule pending read commit set_back_told valued through
only-write-pending w (Release c number deadline) p = refl
only-write-pending w (Begin c) p = refl
only-write-pending w (Read c d) p =
    lent-keeps pending w _ _ (either-keeps pending w (core_at w.machine c).zombie (set_back_told w c) (valued w c d) refl refl)
only-write-pending w (Write c d v) p = absurd (true≢false p)
only-write-pending w (Commit c) p =
    lent-keeps pending w _ _
    (either-keeps pending w (core_at w.machine c).zombie (set_back_told w c) _ refl
    (either-keeps pending w (must_wait w.machine c) (waiting w c) (through w c) refl refl))
only-write-pending w (GiveUp c) p = refl
only-write-pending w (Finish c) p = refl

pub only-commit-committed : (w : World) (call : Call) → is_commit call ≡ false → (rule w call).world.committed ≡ w.committed
unfolding rule committed read write set_back_told valued written
only-commit-committed w (Release c number deadline) p = refl
only-commit-committed w (Begin c) p = refl
only-commit-committed w (Read c d) p =
    lent-keeps committed w _ _ (either-keeps committed w (core_at w.machine c).zombie (set_back_told w c) (valued w c d) refl refl)
only-commit-committed w (Write c d v) p =
    lent-keeps committed w _ _ (either-keeps committed w (core_at w.machine c).zombie (set_back_told w c) (written w c d v) refl refl)
only-commit-committed w (Commit c) p = absurd (true≢false p)
only-commit-committed w (GiveUp c) p = refl
only-commit-committed w (Finish c) p = refl
