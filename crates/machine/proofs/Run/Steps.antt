-- Every call that follows the rule finds what Orderly.antt says and keeps the agreement; so does a whole run after an accepted
-- setup.
use Rattle.std.proofs.Common.{◌≡◌, ℕ, suc, ◌+◌, ◌<◌, Bool, true, false, cond, ◌&&◌, ◌||◌, ltb, List, [], ◌∷◌, replicate, sym, refl, ap, ◌∙◌, ap₂, true≢false, one-add, arith, ltb-false, ltb-true, lt-ltb}
use lib.ListN.{get_or-replicate, get_or-eq_default}
use Rattle.objset.proofs.Laws.{none-zero}
use Rattle.one_core.specs.declared.Core.{Core}
use Rattle.one_core.specs.declared.Answer.{Answer}
use Rattle.machine.specs.declared.Machine.{Machine}
use Rattle.one_core.specs.Life.{is_read_only, conflicting}
use Rattle.machine.specs.Answers.{kind, values}
use Rattle.one_core.specs.Parts.{no_core, blank_core}
use Rattle.machine.specs.Record.{core_at, machine_of, sizes_in_range}
use Rattle.machine.specs.Rule as Rule
use Rattle.machine.specs.Rule.{World, Call}
use Rattle.machine.proofs.CaseOf.{case-of}
use Rattle.machine.proofs.Case.{Case, is-refused, is-released, is-begun, is-told, is-valued, is-written, is-waiting, is-through, is-ended, is-finished, contends, First}
use Rattle.machine.specs.Words.{Event, Deed, amounts, deeds, in_progress, births, born, any, wrote, conflict, attempt, struck, set_backs}
use Rattle.machine.specs.Serial.{serial, version}
use Rattle.machine.specs.Claims.{Run, fresh, then}
use Rattle.machine.proofs.Sound.Passed.{in-range}
use Rattle.machine.proofs.Run.Orderly.{Acting, Waiting, Allowed, Orderly}
use Rattle.machine.proofs.Run.View.{view}
use Rattle.machine.proofs.Run.CoreAgrees.{CoreAgrees, agrees-idle, meets-crosses, writes-something}
use Rattle.machine.proofs.Run.Agreement.{Agree, inside, acting, refused-other, told-amounts, agree-other, step-list, step-told, step-read, read-alone, step-write, step_waits, step_gives, step-begins}
use Rattle.machine.proofs.Run.AgreementCommit.{step-commits, finds-commits}

-- a commit of core c that waits
module _ {o : ℕ} {w : World} {h : List Deed} (a : Agree o w h) (c : ℕ) (going : (core_at w.machine c).active ≡ true) where
  abbrev m : Machine
  m = w.machine

  here : in_progress h c ≡ true
  here = sym (a.each-core c).same-going ∙ going

  -- two conflict by the record if they do by the words
  same-conflict : (e : ℕ) → conflicting (core_at m c) (core_at m e) ≡ conflict h c e
  unfolding conflict
  same-conflict e =
      let k = core_at m c in
      let j = core_at m e in
      ap₂ ◌||◌ (meets-crosses k j (view h c) (view h e) (a.each-core c) (a.each-core e)) (meets-crosses j k (view h e) (view h c) (a.each-core e) (a.each-core c))

  -- a contender is an earlier one in conflict
  found-ahead : (e : ℕ) → Rule.contender m c e ≡ true → (in_progress h e ≡ true) × (born h e < born h c) × (conflict h c e ≡ true)
  found-ahead e ahead =
      let found = contends m c e ahead in
      let there : in_progress h e ≡ true = sym (a.each-core e).same-going ∙ found.0 in
      (there, omega (arith, found.1, (a.each-core e).same-order there, (a.each-core c).same-order here), sym (same-conflict e) ∙ found.2)

  -- and an earlier one in conflict is a contender
  ahead-found : (b : ℕ) → in_progress h b ≡ true → born h b < born h c → conflict h c b ≡ true → Rule.contender m c b ≡ true
  unfolding Rule.contender
  ahead-found b there less clash =
      ap₂ ◌&&◌
      (ap₂ ◌&&◌ ((a.each-core b).same-going ∙ there)
      (lt-ltb (core_at m b).ticket (core_at m c).ticket (omega (arith, less, (a.each-core b).same-order there, (a.each-core c).same-order here))))
      (same-conflict b ∙ clash)

  -- one in progress is on one of the sixteen cores
  has-place : (b : ℕ) → in_progress h b ≡ true → b < 16
  has-place b there = go (ltb b 16) refl
    where
      go : (q : Bool) → ltb b 16 ≡ q → b < 16
      go true q = ltb-true b 16 q
      go false q =
          absurd (true≢false (sym ((a.each-core b).same-going ∙ there)
          ∙ ap (λ (k : Core). k.active) (get_or-eq_default m.core no_core (omega (arith, a.cores-long, ltb-false b 16 q)))))

  finds-waits : (e : ℕ) → Acting h c → is_read_only (core_at m c) ≡ false → First m c e → Waiting h c e
  finds-waits e acting wrote f =
      let found = found-ahead e f.passes in
      record {
        acting = acting;
        going = found.0;
        earlier = found.1;
        in-conflict = found.2;
        has-written = writes-something (core_at m c) (view h c) (a.each-core c) wrote;
        first =
            λ b there less clash.
            omega
            (arith, f.smallest b (has-place b there) (ahead-found b there less clash), (a.each-core e).same-order found.0, (a.each-core b).same-order there);
      }

-- a marked one has one strike that it was not told of
one-untold : {o : ℕ} {w : World} {h : List Deed} → Agree o w h → (c : ℕ) → in_progress h c ≡ true → (core_at w.machine c).zombie ≡ true
    → struck h c ≡ suc (set_backs h c)
one-untold {h = h} a c going z =
    (a.each-core c).same-heard going ∙ ap (λ (b : Bool). cond b 1 0 + set_backs h c) z ∙ one-add (set_backs h c)

pub step : {o : ℕ} {w w' : World} {h : List Deed} {call : Call} {x : Answer} → Agree o w h → Case w call x w'
    → Allowed o (amounts call x) h × Agree o w' (amounts call x ∷ h)
unfolding amounts kind values Rule.released Rule.finished Rule.valued Rule.through
step a (is-refused {call = call} {n = n}) = rw (refused-other call (suc n)) (tt, agree-other a)
step a (is-released {c = c} ok room) = (tt, step-list a c _ _ ok)
step a (is-begun {c = c} ok job idle few) = ((inside a ok, sym (a.each-core c).same-going ∙ idle), step-begins a c ok idle)
step a (is-told {call = call} {c = c} asks ok z) =
    let going = sym (a.each-core c).same-going ∙ ok.active in
    rw (told-amounts call c asks) ((inside a ok.core-ok, going, one-untold a c going z), step-told a c ok z)
step a (is-valued {c = c} {d = d} ok hd z) =
    (record { acting = acting a ok z; is-object = omega (arith, a.same-objects); alone = read-alone a c d ok hd }, step-read a c d _ ok hd z)
step a (is-written {c = c} {d = d} {v = v} ok hd z) = ((acting a ok z, omega (arith, a.same-objects)), step-write a c d v ok hd z)
step a (is-waiting {c = c} {e = e} ok z wrote ahead) =
    (finds-waits a c ok.active e (acting a ok z) wrote ahead, step_waits a c e)
step a (is-through {c = c} ok z free) = (finds-commits a c ok z free, step-commits a c ok)
step a (is-ended {c = c} ok going) = ((inside a ok, sym (a.each-core c).same-going ∙ going), step_gives a c ok)
step a (is-finished {c = c} ok job idle) = (tt, step-list a c _ _ ok)

-- ---- after an accepted setup

pub agree_fresh : (cores objects : ℕ) → sizes_in_range cores objects ≡ true → Agree objects (Rule.new_world cores objects) []
unfolding in_progress births attempt serial version wrote any
agree_fresh cores objects range =
    record {
      cores-long = refl;
      cores-few = (in-range cores objects range).1;
      objects-few = (in-range cores objects range).3;
      same-objects = refl;
      versions_long = refl;
      same-tickets = refl;
      each-core = λ c. go c (ltb c 16) refl;
      same-committed = refl;
      same-pending = λ c d l t. absurd (true≢false (sym t));
      same_versions = λ d l. get_or-replicate 64 d 0 0 (omega (arith, (in-range cores objects range).3));
    }
  where
    go : (c : ℕ) (q : Bool) → ltb c 16 ≡ q → CoreAgrees (core_at (machine_of cores objects) c) (view [] c)
    go c true q = rw (get_or-replicate 16 c blank_core no_core (ltb-true c 16 q)) (agrees-idle blank_core (view [] c) refl refl refl refl (refl, refl))
    go c false q =
        rw (get_or-eq_default (replicate 16 blank_core) no_core (ltb-false c 16 q)) (agrees-idle no_core (view [] c) refl refl (sym none-zero) (sym none-zero) (refl, refl))

-- a run after an accepted setup agrees with the words all the way, and is orderly
pub run-agrees : {o : ℕ} {w₀ w : World} {es : List Event} → Agree o w₀ [] → Run w₀ es w → Agree o w (deeds es) × Orderly o (deeds es)
unfolding deeds
run-agrees a fresh = (a, tt)
run-agrees a (then call x run follows) =
    let before = run-agrees a run in
    let now = step before.0 (case-of follows) in
    (now.1, (now.0, before.1))
