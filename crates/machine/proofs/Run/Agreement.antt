-- The record and the tables say what the words say of the deeds so far: shown for a fresh setup and kept by every call that
-- follows the rule; and each deed finds what Orderly.antt says.
use Rattle.std.proofs.Common.{◌≡◌, ℕ, ◌+◌, ◌*◌, ◌<◌, ◌≤◌, Bool, true, false, cond, ◌||◌, eqb, List, [], ◌∷◌, length, get_or, set, sym, refl, ap, ◌∙◌, subst, true≢false, zero-add, arith, length-set, get_or-set_other, get_or-set_same, eqb-true}
use borrow.Author.Tests.{eqb-false}
use Rattle.one_core.specs.declared.Core.{Core}
use Rattle.one_core.specs.declared.Job.{Job}
use Rattle.one_core.specs.declared.Answer.TheVariants.{SetBack, Refused}
use Rattle.machine.specs.Answers.{kind}
use Rattle.one_core.specs.Parts.{no_core}
use Rattle.machine.specs.Record.{core_at, put_core}
use Rattle.one_core.specs.Life as Life
use Rattle.machine.specs.Rule as Rule
use Rattle.machine.specs.Rule.{World, Call, Release, Begin, Read, Write, Commit, GiveUp, Finish, with_machine}
use Rattle.one_core.specs.Life.{with_list, with_sets}
use Rattle.objset.specs.Objset.{has, added}
use Rattle.machine.proofs.Case.{Core-ok, Lent-ok, Asks, asks_read, asks_write, asks-commit}
use Rattle.machine.specs.Words.{Deed, begins, reads, writes, waits, commits, told, gives, other, amounts, in_progress, births, wrote, any, attempt, strikes, set_backs}
use Rattle.machine.specs.Serial.{effect, serial, version}
use Rattle.machine.proofs.Run.Orderly.{Acting, Allowed}
use Rattle.machine.proofs.Run.View.{View, view, concerns, view-other, view-begins, view-reads, view-writes, view-waits, view-told, view-gives}
use Rattle.machine.proofs.Run.Effects.{last_write, effect-unwritten, effect-written}
use Rattle.machine.proofs.Run.Places.{slot-inside, slot-core, slot-object}
use Rattle.machine.proofs.Run.CoreAgrees.{CoreAgrees, agrees-idle, agrees-list, agrees-read, agrees-write, agrees-told, agrees-begun}

pub record Agree (o : ℕ) (w : World) (h : List Deed) : Type 0 where
  pub cores-long : length w.machine.core ≡ 16
  pub cores-few : w.machine.cores ≤ 16
  pub objects-few : o ≤ 64
  pub same-objects : w.machine.objects ≡ o
  pub versions_long : length w.machine.versions ≡ 64
  pub same-tickets : w.machine.tickets ≡ births h
  pub each-core : (c : ℕ) → CoreAgrees (core_at w.machine c) (view h c)
  pub same-committed : w.committed ≡ serial o h
  pub same-pending : (c d : ℕ) → d < o → wrote (attempt h c) d ≡ true → get_or w.pending (c * o + d) 0 ≡ last_write (attempt h c) d
  pub same_versions : (d : ℕ) → d < o → get_or w.machine.versions d 0 ≡ version h d

-- one core put in: that core, and any other
put-here : (ks : List Core) (c : ℕ) (k : Core) → length ks ≡ 16 → c < 16 → get_or (set ks c k) c no_core ≡ k
put-here ks c k l h = get_or-set_same ks c k no_core (omega arith)

put_other : (ks : List Core) (c e : ℕ) (k : Core) → eqb c e ≡ false → get_or (set ks c k) e no_core ≡ get_or ks e no_core
put_other ks c e k p = get_or-set_other ks c e k no_core (λ q. eqb-false c e p (sym q))

-- a call that changes one core alone: the new core agrees, and the words of every other core are as they were
one-core : (ks : List Core) (h : List Deed) (x : Deed) (c : ℕ) (k : Core) → length ks ≡ 16 → c < 16
    → ((e : ℕ) → CoreAgrees (get_or ks e no_core) (view h e)) → CoreAgrees k (view (x ∷ h) c)
    → ((e : ℕ) → eqb c e ≡ false → view (x ∷ h) e ≡ view h e) → (e : ℕ) → CoreAgrees (get_or (set ks c k) e no_core) (view (x ∷ h) e)
one-core ks h x c k l hc all new others e = go (eqb c e) refl
  where
    go : (q : Bool) → eqb c e ≡ q → CoreAgrees (get_or (set ks c k) e no_core) (view (x ∷ h) e)
    go true q =
        subst (λ (i : ℕ). CoreAgrees (get_or (set ks c k) i no_core) (view (x ∷ h) i)) (eqb-true c e q) (rw (put-here ks c k l hc) new)
    go false q = rw (put_other ks c e k q, others e q) (all e)

-- a deed that neither begins nor commits
abbrev Quiet : Deed → Type 0
Quiet (begins c) = ⊥
Quiet (reads c d v) = Unit {0}
Quiet (writes c d v) = Unit {0}
Quiet (waits c e) = Unit {0}
Quiet (commits c n) = ⊥
Quiet (told c) = Unit {0}
Quiet (gives c) = Unit {0}
Quiet other = Unit {0}

quiet-births : (x : Deed) (h : List Deed) → Quiet x → births (x ∷ h) ≡ births h
unfolding births
quiet-births (begins c) h q = absurd q
quiet-births (reads c d v) h q = zero-add (births h)
quiet-births (writes c d v) h q = zero-add (births h)
quiet-births (waits c e) h q = zero-add (births h)
quiet-births (commits c n) h q = absurd q
quiet-births (told c) h q = zero-add (births h)
quiet-births (gives c) h q = zero-add (births h)
quiet-births other h q = zero-add (births h)

quiet-serial : (o : ℕ) (x : Deed) (h : List Deed) → Quiet x → serial o (x ∷ h) ≡ serial o h
unfolding serial
quiet-serial o (begins c) h q = absurd q
quiet-serial o (reads c d v) h q = refl
quiet-serial o (writes c d v) h q = refl
quiet-serial o (waits c e) h q = refl
quiet-serial o (commits c n) h q = absurd q
quiet-serial o (told c) h q = refl
quiet-serial o (gives c) h q = refl
quiet-serial o other h q = refl

quiet-version : (x : Deed) (h : List Deed) (d : ℕ) → Quiet x → version (x ∷ h) d ≡ version h d
unfolding version
quiet-version (begins c) h d q = absurd q
quiet-version (reads c e v) h d q = refl
quiet-version (writes c e v) h d q = refl
quiet-version (waits c e) h d q = refl
quiet-version (commits c n) h d q = absurd q
quiet-version (told c) h d q = refl
quiet-version (gives c) h d q = refl
quiet-version other h d q = refl

-- a quiet deed strikes nobody
quiet-strikes : (x : Deed) (h : List Deed) (c : ℕ) → Quiet x → strikes x h c ≡ false
quiet-strikes (begins b) h c q = refl
quiet-strikes (reads b d v) h c q = refl
quiet-strikes (writes b d v) h c q = refl
quiet-strikes (waits b e) h c q = refl
quiet-strikes (commits b n) h c q = absurd q
quiet-strikes (told b) h c q = refl
quiet-strikes (gives b) h c q = refl
quiet-strikes other h c q = refl

-- what a quiet deed leaves: the cores ks and the pending words p; the counts of commits and give-ups are not looked at
abbrev after : World → ℕ → ℕ → List Core → List ℕ → World
after w n g ks p =
    record {
      machine =
          record {
            cores = w.machine.cores;
            objects = w.machine.objects;
            tickets = w.machine.tickets;
            commits = n;
            give_ups = g;
            core = ks;
            versions = w.machine.versions;
          };
      committed = w.committed;
      pending = p;
    }

module _ {o : ℕ} {w : World} {h : List Deed} (a : Agree o w h) (x : Deed) (quiet : Quiet x) where
  agree-quiet : (n g : ℕ) (ks : List Core) (p : List ℕ) → length ks ≡ 16 → ((c : ℕ) → CoreAgrees (get_or ks c no_core) (view (x ∷ h) c))
      → ((c d : ℕ) → d < o → wrote (attempt (x ∷ h) c) d ≡ true → get_or p (c * o + d) 0 ≡ last_write (attempt (x ∷ h) c) d)
      → Agree o (after w n g ks p) (x ∷ h)
  agree-quiet n g ks p long all words =
      record {
        cores-long = long;
        cores-few = a.cores-few;
        objects-few = a.objects-few;
        same-objects = a.same-objects;
        versions_long = a.versions_long;
        same-tickets = a.same-tickets ∙ sym (quiet-births x h quiet);
        each-core = all;
        same-committed = a.same-committed ∙ sym (quiet-serial o x h quiet);
        same-pending = words;
        same_versions = λ d l. a.same_versions d l ∙ sym (quiet-version x h d quiet);
      }

  -- the words of a core that the deed does not concern are as they were
  quiet-view : (e : ℕ) → concerns x e ≡ false → view (x ∷ h) e ≡ view h e
  quiet-view e p = view-other x h e p (quiet-strikes x h e quiet)

  -- one core k put at c, no attempt changed, the pending words as they were
  agree-core : (n g c : ℕ) (k : Core) → c < 16 → ((e : ℕ) → eqb c e ≡ false → concerns x e ≡ false) → CoreAgrees k (view (x ∷ h) c)
      → ((d : ℕ) → d < o → wrote (attempt (x ∷ h) c) d ≡ true → get_or w.pending (c * o + d) 0 ≡ last_write (attempt (x ∷ h) c) d)
      → Agree o (after w n g (set w.machine.core c k) w.pending) (x ∷ h)
  agree-core n g c k hc apart new words =
      agree-quiet n g (set w.machine.core c k) w.pending (length-set w.machine.core c k ∙ a.cores-long)
      (one-core w.machine.core h x c k a.cores-long hc a.each-core new (λ e q. quiet-view e (apart e q)))
      (λ e. go e (eqb c e) refl)
    where
      go : (e : ℕ) (q : Bool) → eqb c e ≡ q → (d : ℕ) → d < o → wrote (attempt (x ∷ h) e) d ≡ true
          → get_or w.pending (e * o + d) 0 ≡ last_write (attempt (x ∷ h) e) d
      go e true q d l t =
          subst (λ (i : ℕ). get_or w.pending (i * o + d) 0 ≡ last_write (attempt (x ∷ h) i) d) (eqb-true c e q)
          (words d l (rw (eqb-true c e q) t))
      go e false q d l t =
          let same : attempt (x ∷ h) e ≡ attempt h e = ap (λ (v : View). v.tried) (quiet-view e (apart e q)) in
          rw same (a.same-pending e d l (rw same at t))

-- nothing happened that the words speak of
pub agree-other : {o : ℕ} {w : World} {h : List Deed} → Agree o w h → Agree o w (other ∷ h)
agree-other {o} {w} {h} a =
    agree-quiet a other tt w.machine.commits w.machine.give_ups w.machine.core w.pending a.cores-long
    (λ c. rw (quiet-view a other tt c refl) (a.each-core c))
    (λ c d l t. let same : attempt (other ∷ h) c ≡ attempt h c = ap (λ (v : View). v.tried) (quiet-view a other tt c refl) in rw same (a.same-pending c d l (rw same at t)))

-- ---- each case of the rule

-- a machine's core is one of the sixteen
pub inside : {o : ℕ} {w : World} {h : List Deed} {c : ℕ} → Agree o w h → Core-ok w.machine c → c < 16
inside a ok = omega (arith, a.cores-few, ok.is-core)

-- a transaction in progress on core c that is not marked has been told of every strike
pub acting : {o : ℕ} {w : World} {h : List Deed} {c : ℕ} → Agree o w h → Lent-ok w c → (core_at w.machine c).zombie ≡ false → Acting h c
acting {o} {w} {h} {c} a ok z =
    let k = a.each-core c in
    let going : in_progress h c ≡ true = sym k.same-going ∙ ok.active in
    record {
      is-core = inside a ok.core-ok;
      going = going;
      all_told = k.same-heard going ∙ ap (λ (b : Bool). cond b 1 0 + set_backs h c) z ∙ zero-add (set_backs h c);
    }

-- what a step of the run shows
abbrev pub Step : ℕ → World → List Deed → Deed → Type 0
Step o w h x = Allowed o x h × Agree o w (x ∷ h)

pub refused-other : (call : Call) (n : ℕ) → amounts call (Refused n) ≡ other
unfolding amounts kind
refused-other (Release c number deadline) n = refl
refused-other (Begin c) n = refl
refused-other (Read c d) n = refl
refused-other (Write c d v) n = refl
refused-other (Commit c) n = refl
refused-other (GiveUp c) n = refl
refused-other (Finish c) n = refl

pub told-amounts : (call : Call) (c : ℕ) → Asks call c → amounts call SetBack ≡ told c
unfolding amounts kind
told-amounts (Read b d) c asks_read = refl
told-amounts (Write b d v) c asks_write = refl
told-amounts (Commit b) c asks-commit = refl
told-amounts (Release _ _ _) c a = elim a [ ]
told-amounts (Begin _) c a = elim a [ ]
told-amounts (GiveUp _) c a = elim a [ ]
told-amounts (Finish _) c a = elim a [ ]

module _ {o : ℕ} {w : World} {h : List Deed} (a : Agree o w h) where
  -- the list of jobs of core c changes
  pub step-list : (c : ℕ) (jobs : List Job) (n : ℕ) → Core-ok w.machine c
      → Agree o (with_machine w (put_core w.machine c (with_list (core_at w.machine c) jobs n))) (other ∷ h)
  step-list c jobs n ok =
      agree-core a other tt w.machine.commits w.machine.give_ups c (with_list (core_at w.machine c) jobs n) (inside a ok)
      (λ e q. refl) (rw same (agrees-list (core_at w.machine c) (view h c) jobs n (a.each-core c)))
      (λ d l t. rw (ap (λ (v : View). v.tried) same) (a.same-pending c d l (rw (ap (λ (v : View). v.tried) same) at t)))
    where
      same : view (other ∷ h) c ≡ view h c
      same = quiet-view a other tt c refl

  pub step-told : (c : ℕ) → Lent-ok w c → (core_at w.machine c).zombie ≡ true → Agree o (Rule.set_back_told w c).world (told c ∷ h)
  unfolding Rule.set_back_told
  step-told c ok z =
      agree-core a (told c) tt w.machine.commits w.machine.give_ups c _ (inside a ok.core-ok) (λ e q. q)
      (rw (view-told h c) (agrees-told (core_at w.machine c) (view h c) z (a.each-core c)))
      (λ d l t. rw same (a.same-pending c d l (rw same at t)))
    where
      same : attempt (told c ∷ h) c ≡ attempt h c
      same = ap (λ (v : View). v.tried) (view-told h c)

  pub step-read : (c d v : ℕ) → Lent-ok w c → d < w.machine.objects → (core_at w.machine c).zombie ≡ false
      → Agree o (with_machine w (put_core w.machine c (with_sets (core_at w.machine c) (added (core_at w.machine c).reads d) (core_at w.machine c).writes))) (reads c d v ∷ h)
  unfolding wrote any last_write
  step-read c d v ok hd z =
      agree-core a (reads c d v) tt w.machine.commits w.machine.give_ups c _ (inside a ok.core-ok) (λ e q. q)
      (rw (view-reads h c d v) (agrees-read (core_at w.machine c) (view h c) c d v (omega (arith, a.same-objects, a.objects-few)) z (a.each-core c)))
      (λ e l t. rw same (a.same-pending c e l (rw same at t)))
    where
      same : attempt (reads c d v ∷ h) c ≡ reads c d v ∷ attempt h c
      same = ap (λ (u : View). u.tried) (view-reads h c d v)

  -- a read gives what the attempt would read, run alone on the cards
  pub read-alone : (c d : ℕ) → Lent-ok w c → d < w.machine.objects → Rule.value_read w c d ≡ get_or (effect (attempt h c) (serial o h)) d 0
  unfolding Rule.value_read
  read-alone c d ok hd = go (has (core_at w.machine c).writes d) refl
    where
      hd' : d < o
      hd' = omega (arith, a.same-objects)

      long : length (serial o h) ≡ o
      long = ap length (sym a.same-committed) ∙ ok.committed_long ∙ a.same-objects

      go : (q : Bool) → has (core_at w.machine c).writes d ≡ q
          → cond q (get_or w.pending (c * w.machine.objects + d) 0) (get_or w.committed d 0) ≡ get_or (effect (attempt h c) (serial o h)) d 0
      go true q =
          let wr : wrote (attempt h c) d ≡ true = sym ((a.each-core c).same_writes d) ∙ q in
          ap (λ (n : ℕ). get_or w.pending (c * n + d) 0) a.same-objects ∙ a.same-pending c d hd' wr
          ∙ sym (effect-written (attempt h c) (serial o h) d (rw long hd') wr)
      go false q =
          ap (λ (t : List ℕ). get_or t d 0) a.same-committed
          ∙ sym (effect-unwritten (attempt h c) (serial o h) d (sym ((a.each-core c).same_writes d) ∙ q))

  pub step-write : (c d v : ℕ) → Lent-ok w c → d < w.machine.objects → (core_at w.machine c).zombie ≡ false
      → Agree o (Rule.written w c d v).world (writes c d v ∷ h)
  unfolding Rule.written wrote any last_write
  step-write c d v ok hd z =
      agree-quiet a (writes c d v) tt w.machine.commits w.machine.give_ups (set w.machine.core c _)
      (set w.pending (c * w.machine.objects + d) v) (length-set w.machine.core c _ ∙ a.cores-long)
      (one-core w.machine.core h (writes c d v) c _ a.cores-long (inside a ok.core-ok) a.each-core
      (rw (view-writes h c d v) (agrees-write (core_at w.machine c) (view h c) c d v (omega (arith, a.same-objects, a.objects-few)) z (a.each-core c)))
      (λ e q. quiet-view a (writes c d v) tt e q))
      (λ e f l t. words e f l (eqb c e) refl t)
    where
      hd' : d < o
      hd' = omega (arith, a.same-objects)

      p : List ℕ
      p = set w.pending (c * w.machine.objects + d) v

      -- the word stored to, with the number of cards as the words have it
      there : (f : ℕ) → f < o → c * o + f < length w.pending
      there f l = rw (ok.pending_long, a.same-objects) (slot-inside w.machine.cores o c f ok.core-ok.is-core l)

      own : (f : ℕ) → f < o → (q : Bool) → eqb d f ≡ q → (q || wrote (attempt h c) f) ≡ true → get_or p (c * o + f) 0 ≡ cond q v (last_write (attempt h c) f)
      own f l true q t =
          rw (a.same-objects, eqb-true d f q) (get_or-set_same w.pending (c * o + f) v 0 (there f l))
      own f l false q t =
          rw a.same-objects
          (get_or-set_other w.pending (c * o + d) (c * o + f) v 0 (λ s. eqb-false d f q (slot-object o c c d f hd' l (sym s))) ∙ a.same-pending c f l t)

      words : (e f : ℕ) → f < o → (q : Bool) → eqb c e ≡ q → wrote (attempt (writes c d v ∷ h) e) f ≡ true
          → get_or p (e * o + f) 0 ≡ last_write (attempt (writes c d v ∷ h) e) f
      words e f l true q t =
          let same : attempt (writes c d v ∷ h) c ≡ writes c d v ∷ attempt h c = ap (λ (u : View). u.tried) (view-writes h c d v) in
          subst (λ (i : ℕ). get_or p (i * o + f) 0 ≡ last_write (attempt (writes c d v ∷ h) i) f) (eqb-true c e q)
          (rw same (own f l (eqb d f) refl (rw same at (rw (← eqb-true c e q) at t))))
      words e f l false q t =
          let same : attempt (writes c d v ∷ h) e ≡ attempt h e = ap (λ (u : View). u.tried) (quiet-view a (writes c d v) tt e q) in
          rw (same, a.same-objects)
          (get_or-set_other w.pending (c * o + d) (e * o + f) v 0 (λ s. eqb-false c e q (slot-core o c e d f hd' l (sym s)))
          ∙ a.same-pending e f l (rw same at t))

  pub step_waits : (c e : ℕ) → Agree o w (waits c e ∷ h)
  step_waits c e =
      agree-quiet a (waits c e) tt w.machine.commits w.machine.give_ups w.machine.core w.pending a.cores-long
      (λ b. rw (view-waits h c e b) (a.each-core b))
      (λ b d l t. rw (same b) (a.same-pending b d l (rw (same b) at t)))
    where
      same : (b : ℕ) → attempt (waits c e ∷ h) b ≡ attempt h b
      same b = ap (λ (v : View). v.tried) (view-waits h c e b)

  pub step_gives : (c : ℕ) → Core-ok w.machine c → Agree o (with_machine w (Rule.ended w.machine c).machine) (gives c ∷ h)
  unfolding Rule.ended wrote any
  step_gives c ok =
      agree-core a (gives c) tt w.machine.commits (w.machine.give_ups + 1) c (Life.over (core_at w.machine c)) (inside a ok) (λ e q. q)
      (agrees-idle (Life.over (core_at w.machine c)) (view (gives c ∷ h) c) refl refl refl refl (view-gives h c))
      (λ d l t. absurd (true≢false (sym (rw (view-gives h c).1 at t))))

  pub step-begins : (c : ℕ) → Core-ok w.machine c → (core_at w.machine c).active ≡ false
      → Agree o (with_machine w (Rule.begun w.machine c).machine) (begins c ∷ h)
  unfolding Rule.begun births serial version wrote any
  step-begins c ok idle =
      record {
        cores-long = length-set w.machine.core c _ ∙ a.cores-long;
        cores-few = a.cores-few;
        objects-few = a.objects-few;
        same-objects = a.same-objects;
        versions_long = a.versions_long;
        same-tickets = omega (arith, a.same-tickets);
        each-core =
            one-core w.machine.core h (begins c) c _ a.cores-long (inside a ok) a.each-core
            (rw (view-begins h c) (agrees-begun _ (births h) refl a.same-tickets refl refl refl refl))
            (λ e q. view-other (begins c) h e q refl);
        same-committed = a.same-committed;
        same-pending = λ e d l t. words e d l (eqb c e) refl t;
        same_versions = a.same_versions;
      }
    where
      words : (e d : ℕ) → d < o → (q : Bool) → eqb c e ≡ q → wrote (attempt (begins c ∷ h) e) d ≡ true
          → get_or w.pending (e * o + d) 0 ≡ last_write (attempt (begins c ∷ h) e) d
      words e d l true q t =
          let none : attempt (begins c ∷ h) c ≡ [] = ap (λ (v : View). v.tried) (view-begins h c) in
          absurd (true≢false (sym (rw none at (rw (← eqb-true c e q) at t))))
      words e d l false q t =
          let same : attempt (begins c ∷ h) e ≡ attempt h e = ap (λ (v : View). v.tried) (view-other (begins c) h e q refl) in
          rw same (a.same-pending e d l (rw same at t))
