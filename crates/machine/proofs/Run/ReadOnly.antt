-- One whose attempt has written nothing and that was told of every strike: its commit finds no refusal, no mark and nobody to wait
-- for; and it leaves all as it was.
use Rattle.std.proofs.Common.{◌≡◌, ℕ, ◌+◌, ◌<◌, Bool, true, false, cond, not, ◌&&◌, eqb, ltb, List, ◌∷◌, sym, refl, ap, ◌∙◌, true≢false, zero-add, arith, ext_get_or, ltb-false, ltb-true}
use mathlib.Core.Bool.{and-false}
use Rattle.objset.proofs.Laws.{some_one, both_left}
use Rattle.one_core.specs.declared.Answer.{Answer}
use Rattle.one_core.specs.declared.Answer.TheVariants.{Committed}
use Rattle.one_core.specs.Life.{is_read_only}
use Rattle.machine.specs.Record.{core_at}
use Rattle.machine.specs.Inside.{WellFormedWorld}
use Rattle.machine.specs.Sound.{sound}
use Rattle.machine.specs.Rule.{World, Result, blocked, must_wait, through, commit, rule, Commit}
use Rattle.machine.specs.Follows.{Follows}
use Rattle.machine.specs.Words.{Deed, commits, in_progress, touched, wrote, wrote_nothing, crosses, attempt, strikes, struck, set_backs}
use Rattle.machine.specs.Serial.{effect, serial, version}
use Rattle.machine.proofs.Facts.{stands}
use Rattle.machine.proofs.CommitLaws.{commit-through}
use Rattle.machine.proofs.Run.Orderly.{Orderly}
use Rattle.machine.proofs.Run.Births.{core-below}
use Rattle.machine.proofs.Run.View.{view}
use Rattle.machine.proofs.Run.CoreAgrees.{wrote-any, writes-something}
use Rattle.machine.proofs.Run.Effects.{effect-unwritten, effect-long}
use Rattle.machine.proofs.Run.Agreement.{Agree}

pub readonly-through : {o : ℕ} {w w' : World} {h : List Deed} {a : Answer} → WellFormedWorld w → Agree o w h × Orderly o h → (c : ℕ)
    → Follows w (Commit c) a w' → in_progress h c ≡ true → wrote_nothing (attempt h c) ≡ true → struck h c ≡ set_backs h c
    → a ≡ Committed (struck h c)
unfolding rule through
readonly-through {o} {w} {w'} {h} {a} good now c f going nothing all_told = go (core_at w.machine c).zombie refl
  where
    s : sound w.machine ≡ true
    s = good.world_sound.is_sound

    on : (core_at w.machine c).active ≡ true
    on = (now.0.each-core c).same-going ∙ going

    is-core : (q : Bool) → ltb c w.machine.cores ≡ q → c < w.machine.cores
    is-core true q = ltb-true c w.machine.cores q
    is-core false q =
        absurd (true≢false (sym on ∙ (stands w.machine s).turns.lacked c (core-below o h c now.1 going) (ltb-false c w.machine.cores q)))

    here : c < w.machine.cores
    here = is-core (ltb c w.machine.cores) refl

    free : (q : Bool) → is_read_only (core_at w.machine c) ≡ q → must_wait w.machine c ≡ false
    free true q = ap (λ (b : Bool). not b && blocked w.machine c) q
    free false q = absurd (true≢false (sym nothing ∙ writes-something (core_at w.machine c) (view h c) (now.0.each-core c) q))

    -- the answer is that of what the commit gives
    given : (r : Result) → r ≡ commit w c → a ≡ r.answer
    given r p = f.answer_is ∙ sym (ap (λ (x : Result). x.answer) p)

    go : (z : Bool) → (core_at w.machine c).zombie ≡ z → a ≡ Committed (struck h c)
    go true z =
        let untold : struck h c ≡ 1 + set_backs h c = (now.0.each-core c).same-heard going ∙ ap (λ (b : Bool). cond b 1 0 + set_backs h c) z in
        absurd (omega (arith, all_told, untold))
    go false z =
        given _ (commit-through w c s good.world_sound.committed_long good.world_sound.pending_long here on z (free (is_read_only (core_at w.machine c)) refl))
        ∙ ap Committed ((now.0.each-core c).same-hits going)

-- ---- what its commit leaves

nothing_written : (a : List Deed) (d : ℕ) → wrote_nothing a ≡ true → wrote a d ≡ false
unfolding wrote_nothing
nothing_written a d nothing = go (wrote a d) refl
  where
    go : (q : Bool) → wrote a d ≡ q → q ≡ false
    go true q = sym (sym (ap not (wrote-any a d q)) ∙ nothing)
    go false q = refl

nothing-crossed : (a b : List Deed) → wrote_nothing a ≡ true → crosses a b ≡ false
unfolding crosses
nothing-crossed a b nothing = go (crosses a b) refl
  where
    go : (q : Bool) → crosses a b ≡ q → q ≡ false
    go true q =
        let m = some_one 64 (λ d. wrote a d && touched b d) q in
        sym (both_left (wrote a m.0) (touched b m.0) m.2) ∙ nothing_written a m.0 nothing
    go false q = refl

-- it strikes nobody, writes no card and raises no version
pub readonly-leaves : (o : ℕ) (h : List Deed) (c n e d : ℕ) → wrote_nothing (attempt h c) ≡ true
    → (strikes (commits c n) h e ≡ false) × (serial o (commits c n ∷ h) ≡ serial o h) × (version (commits c n ∷ h) d ≡ version h d)
unfolding serial version
readonly-leaves o h c n e d nothing = (
  ap (λ (q : Bool). not (eqb c e) && in_progress h e && q) (nothing-crossed (attempt h c) (attempt h e) nothing) ∙ and-false (not (eqb c e) && in_progress h e),
  ext_get_or 0 (effect (attempt h c) (serial o h)) (serial o h) (effect-long (attempt h c) (serial o h))
      (λ x l. effect-unwritten (attempt h c) (serial o h) x (nothing_written (attempt h c) x nothing)),
  ap (λ (q : Bool). cond q 1 0 + version h d) (nothing_written (attempt h c) d nothing) ∙ zero-add (version h d),
)
