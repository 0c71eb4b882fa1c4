-- A commit that goes through keeps the agreement: the committing core is over, the struck ones are aborted, the cards and the
-- versions are the serial ones.
use Rattle.std.proofs.Common.{◌≡◌, ℕ, ◌+◌, ◌*◌, ◌<◌, Bool, true, false, cond, not, ◌&&◌, eqb, ltb, List, [], ◌∷◌, length, get_or, sym, refl, ap, ◌∙◌, subst, ap₂, true≢false, zero-add, arith, ext_get_or, ltb-false, ltb-true, ne_eqb, eqb-true}
use lib.ListN.{get_or-eq_default}
use borrow.Author.Tests.{not-true}
use Rattle.objset.proofs.Laws.{both_left, both_right}
use Rattle.one_core.specs.declared.Core.{Core}
use Rattle.one_core.specs.Parts.{no_core}
use Rattle.machine.specs.Record.{core_at}
use Rattle.one_core.specs.Life as Life
use Rattle.machine.specs.Rule as Rule
use Rattle.machine.specs.Rule.{World}
use Rattle.machine.proofs.Case.{Lent-ok, not-ahead}
use Rattle.machine.specs.Words.{Deed, commits, in_progress, births, born, any, wrote, crosses, attempt, strikes}
use Rattle.machine.specs.Serial.{effect, serial, version}
use Rattle.machine.proofs.Run.Orderly.{Committing}
use Rattle.machine.proofs.Run.View.{View, view, Over, view-other, view-commits, view-struck}
use Rattle.machine.proofs.Run.Effects.{last_write, effect-long}
use Rattle.machine.proofs.Entries.{cleared_at, cleared-long, changed-at, changed-long}
use Rattle.machine.proofs.Run.CoreAgrees.{CoreAgrees, agrees-idle, agrees-struck, meets-crosses, void-crosses, eqb-sym}
use Rattle.machine.proofs.Run.Order.{born-apart}
use Rattle.machine.proofs.Run.VersionsLeft.{versions-left}
use Rattle.machine.proofs.Run.Agreement.{Agree, inside, acting, read-alone}

module _ {o : ℕ} {w : World} {h : List Deed} (a : Agree o w h) (c : ℕ) (ok : Lent-ok w c) where
  -- the committing transaction's write set, and the setbacks that it reports
  abbrev ws : ℕ
  ws = (core_at w.machine c).writes

  abbrev n : ℕ
  n = (core_at w.machine c).aborts

  -- the record strikes core e where the words do
  record-strikes : (e : ℕ) → eqb c e ≡ false
      → Life.is_struck ws (core_at w.machine e) ≡ strikes (commits c n) h e
  record-strikes e q =
      ap₂ ◌&&◌ (a.each-core e).same-going
      (meets-crosses (core_at w.machine c) (core_at w.machine e) (view h c) (view h e) (a.each-core c) (a.each-core e))
      ∙ rw q refl

  -- a struck one was not marked: a marked one has no attempt that could be crossed
  struck-unmarked : (e m : ℕ) → strikes (commits c m) h e ≡ true → (core_at w.machine e).zombie ≡ false
  struck-unmarked e m s = go (core_at w.machine e).zombie refl
    where
      go : (z : Bool) → (core_at w.machine e).zombie ≡ z → z ≡ false
      go true z =
          sym (both_right (not (eqb c e) && in_progress h e) (crosses (attempt h c) (attempt h e)) s)
          ∙ void-crosses (attempt h c) (attempt h e) ((a.each-core e).zombie-empty z)
      go false z = refl

  -- what the commit leaves of core e
  left_at : (e : ℕ) (q : Bool) → eqb c e ≡ q
      → CoreAgrees (cond q (Life.over (core_at w.machine e)) (Life.struck_by ws (core_at w.machine e)))
      (view (commits c n ∷ h) e)
  unfolding Life.struck_by
  left_at e true p =
      agrees-idle (Life.over (core_at w.machine e)) (view (commits c n ∷ h) e) refl refl refl refl
      (subst (λ (i : ℕ). Over (view (commits c n ∷ h) i)) (eqb-true c e p) (view-commits h c n))
  left_at e false p =
      go (Life.is_struck ws (core_at w.machine e)) (record-strikes e p)
    where
      go : (q : Bool) → q ≡ strikes (commits c n) h e
          → CoreAgrees (cond q (Life.aborted (core_at w.machine e)) (core_at w.machine e)) (view (commits c n ∷ h) e)
      go true s =
          rw (view-struck h c n e p (sym s))
          (agrees-struck (core_at w.machine e) (view h e) (struck-unmarked e n (sym s)) (a.each-core e))
      go false s = rw (view-other (commits c n) h e p (sym s)) (a.each-core e)

  -- every place for a core, also those past the sixteenth, of which nothing is left to say
  cores-left : (e : ℕ)
      → CoreAgrees (get_or (Rule.cleared ws c 0 w.machine.core) e no_core)
      (view (commits c n ∷ h) e)
  cores-left e = go (ltb e 16) refl
    where
      go : (q : Bool) → ltb e 16 ≡ q
          → CoreAgrees (get_or (Rule.cleared ws c 0 w.machine.core) e no_core)
          (view (commits c n ∷ h) e)
      go true q =
          let here = cleared_at ws c w.machine.core e (omega (arith, ltb-true e 16 q, a.cores-long)) in
          rw (here, eqb-sym e c) (left_at e (eqb c e) refl)
      go false q =
          let past : get_or w.machine.core e no_core ≡ no_core = get_or-eq_default w.machine.core no_core (omega (arith, ltb-false e 16 q, a.cores-long)) in
          let past' : get_or (Rule.cleared ws c 0 w.machine.core) e no_core ≡ no_core =
          get_or-eq_default (Rule.cleared ws c 0 w.machine.core) no_core
          (omega (arith, ltb-false e 16 q, a.cores-long, cleared-long ws c 0 w.machine.core)) in
          let other : eqb c e ≡ false = ne_eqb c e (λ s. omega (arith, ltb-false e 16 q, inside a ok.core-ok)) in
          let idle : in_progress h e ≡ false = sym (a.each-core e).same-going ∙ ap (λ (k : Core). k.active) past in
          rw (past', view-other (commits c n) h e other (rw (other, idle) refl)) (rw past at (a.each-core e))

  -- the cards are the serial ones
  cards-left : Rule.changed ws (Rule.moved w c) 0 w.committed
      ≡ effect (attempt h c) (serial o h)
  unfolding Rule.value_read
  cards-left =
      ext_get_or 0 (Rule.changed ws (Rule.moved w c) 0 w.committed) (effect (attempt h c) (serial o h))
      (changed-long ws (Rule.moved w c) 0 w.committed
      ∙ ap length a.same-committed ∙ sym (effect-long (attempt h c) (serial o h)))
      (λ d l. at d (omega (arith, simp changed-long at l)))
    where
      at : (d : ℕ) → d < length w.committed
          → get_or (Rule.changed ws (Rule.moved w c) 0 w.committed) d 0
          ≡ get_or (effect (attempt h c) (serial o h)) d 0
      at d l =
          changed-at ws (Rule.moved w c) w.committed d l
          ∙ read-alone a c d ok (rw (← ok.committed_long) l)

  pub step-commits : Agree o (Rule.through w c).world (commits c n ∷ h)
  unfolding Rule.through births serial version wrote any
  step-commits =
      record {
        cores-long = cleared-long ws c 0 w.machine.core ∙ a.cores-long;
        cores-few = a.cores-few;
        objects-few = a.objects-few;
        same-objects = a.same-objects;
        versions_long = changed-long ws _ 0 w.machine.versions ∙ a.versions_long;
        same-tickets = a.same-tickets ∙ sym (zero-add (births h));
        each-core = cores-left;
        same-committed = cards-left;
        same-pending = λ e d l t. words e d l (eqb c e) refl t;
        same_versions = versions-left a c;
      }
    where
      x : Deed
      x = commits c n

      words : (e d : ℕ) → d < o → (q : Bool) → eqb c e ≡ q → wrote (attempt (x ∷ h) e) d ≡ true → get_or w.pending (e * o + d) 0 ≡ last_write (attempt (x ∷ h) e) d
      words e d l true q t =
          absurd (true≢false (sym (rw (view-commits h c n).1 at (rw (← eqb-true c e q) at t))))
      words e d l false q t = go (strikes x h e) refl
        where
          go : (s : Bool) → strikes x h e ≡ s → get_or w.pending (e * o + d) 0 ≡ last_write (attempt (x ∷ h) e) d
          go true s =
              let void : attempt (x ∷ h) e ≡ [] = ap (λ (v : View). v.tried) (view-struck h c n e q s) in
              absurd (true≢false (sym (rw void at t)))
          go false s =
              let same : attempt (x ∷ h) e ≡ attempt h e = ap (λ (v : View). v.tried) (view-other x h e q s) in
              rw same (a.same-pending e d l (rw same at t))

  -- nobody ahead is in conflict, or nothing was written: whoever is struck is later
  pub finds-commits : (core_at w.machine c).zombie ≡ false → Rule.must_wait w.machine c ≡ false → Committing h c n
  finds-commits z free =
      record {
        acting = acting a ok z;
        reports = (a.each-core c).same-hits (sym (a.each-core c).same-going ∙ ok.active);
        strikes-later = λ b s. later b s;
      }
    where
      -- a core with a transaction is one of the sixteen
      few : (b : ℕ) → (core_at w.machine b).active ≡ true → b < 16
      few b p = go (ltb b 16) refl
        where
          go : (q : Bool) → ltb b 16 ≡ q → b < 16
          go true q = ltb-true b 16 q
          go false q =
              absurd (true≢false (sym p ∙ ap (λ (k : Core). k.active) (get_or-eq_default w.machine.core no_core (omega (arith, ltb-false b 16 q, a.cores-long)))))

      later : (b : ℕ) → strikes (commits c n) h b ≡ true → born h c < born h b
      later b s =
          let other : eqb c b ≡ false = not-true (eqb c b) (both_left (not (eqb c b)) (in_progress h b) (both_left (not (eqb c b) && in_progress h b) _ s)) in
          let going : in_progress h b ≡ true = both_right (not (eqb c b)) (in_progress h b) (both_left (not (eqb c b) && in_progress h b) _ s) in
          let here : in_progress h c ≡ true = sym (a.each-core c).same-going ∙ ok.active in
          let active : (core_at w.machine b).active ≡ true = (a.each-core b).same-going ∙ going in
          let order = not-ahead w.machine c b free (few b active) (record-strikes b other ∙ s) in
          omega (arith, order, (a.each-core b).same-order going, (a.each-core c).same-order here, born-apart h c b here going other)
