-- What a call that follows the rule can have done: the cases of the rule with the conditions that led to each, so that proofs
-- about runs go by these cases and never open the rule again.
use Rattle.std.proofs.Common.{◌≡◌, ℕ, zero, suc, ◌*◌, ◌<◌, ◌≤◌, Bool, true, false, cond, not, ◌&&◌, ◌||◌, eqb, ltb, List, [], ◌∷◌, length, sym, refl, ap, ◌∙◌, ap₂, true≢false, ltb-false, ltb-true, eqb-true, leb-false}
use borrow.Author.Tests.{eqb-false, not-true, not-false}
use Rattle.objset.specs.Objset.{meeting}
use Rattle.objset.proofs.Laws.{both_left, both_right, one-some, one-filled, meeting-one}
use Rattle.machine.specs.declared.Machine.{Machine}
use Rattle.one_core.specs.declared.Core.{Core}
use Rattle.one_core.specs.declared.Answer.{Answer}
use Rattle.one_core.specs.declared.Answer.TheVariants.{Ready, Begun, Written, Waits, SetBack, Ended, Refused}
use Rattle.machine.specs.declared.Outcome.{Outcome}
use Rattle.machine.specs.Record.{core_at, active_at, sizes_in_range, blank}
use Rattle.one_core.specs.Parts.{data_set}
use Rattle.machine.specs.Sound.{sound}
use Rattle.machine.specs.Answers.{kind}
use Rattle.machine.specs.Rule.{World, Result, lent, with_machine, unless, unless_lent, sizes_out_of_range, misfit, new_world, setup, unsound, wrong_tables, no_such_core, no_such_object, full_list, jobless, tickets_spent, released, release, begun, begin, set_back_told, access_refusal, valued, read, written, write, contender, blocked, must_wait, first_ahead, through, waiting, commit_refusal, commit, ended, give_up, finished, finish, Call, Release, Begin, Read, Write, Commit, GiveUp, Finish}
use Rattle.one_core.specs.Calls.{first}
use Rattle.one_core.specs.Life.{is_read_only, conflicting, is_struck}
use Rattle.machine.proofs.Refusals.{passed}
use Rattle.machine.proofs.Least.{Least, least}

-- the record is sound and the core is one of the machine's
pub record Core-ok (m : Machine) (c : ℕ) : Type 0 where
  pub is_sound : sound m ≡ true
  pub is-core : c < m.cores

-- besides, both tables have their length, and a transaction is in progress on the core
pub record Lent-ok (w : World) (c : ℕ) : Type 0 where
  pub core-ok : Core-ok w.machine c
  pub committed_long : length w.committed ≡ w.machine.objects
  pub pending_long : length w.pending ≡ w.machine.cores * w.machine.objects
  pub active : (core_at w.machine c).active ≡ true

-- a read, write or commit on core c
pub data Asks : Call → ℕ → Type 0 where
  asks_read : {c d : ℕ} → Asks (Read c d) c
  asks_write : {c d v : ℕ} → Asks (Write c d v) c
  asks-commit : {c : ℕ} → Asks (Commit c) c

-- core e holds a conflicting transaction with a smaller ticket than core c's
pub contends : (m : Machine) (c e : ℕ) → contender m c e ≡ true
    → ((core_at m e).active ≡ true) × ((core_at m e).ticket < (core_at m c).ticket) × (conflicting (core_at m c) (core_at m e) ≡ true)
unfolding contender
contends m c e p =
    let active = (core_at m e).active in
    let less = ltb (core_at m e).ticket (core_at m c).ticket in
    let two : (active && less) ≡ true = both_left (active && less) (conflicting (core_at m c) (core_at m e)) p in (
      both_left active less two,
      ltb-true (core_at m e).ticket (core_at m c).ticket (both_right active less two),
      both_right (active && less) (conflicting (core_at m c) (core_at m e)) p,
    )

-- it is the one of smallest ticket that does
abbrev pub First : Machine → ℕ → ℕ → Type 0
First m c e = Least (λ b. (core_at m b).ticket) 16 (contender m c) e

first-ahead : (m : Machine) (c : ℕ) → blocked m c ≡ true → First m c (first_ahead m c)
unfolding blocked
first-ahead m c b = least (λ e. (core_at m e).ticket) (contender m c) 16 b

-- one whose data set meets the write set of another conflicts with it
struck-conflicts : (a b : Core) → is_struck a.writes b ≡ true → conflicting a b ≡ true
struck-conflicts a b hit = ap (λ (x : Bool). x || meeting b.writes (data_set a)) (both_right b.active _ hit)

-- whoever is struck by a commit that need not wait has no smaller ticket: where it strikes it has written, so nobody ahead is in conflict
pub not-ahead : (m : Machine) (c e : ℕ) → must_wait m c ≡ false → e < 16 → is_struck (core_at m c).writes (core_at m e) ≡ true
    → (core_at m c).ticket ≤ (core_at m e).ticket
unfolding blocked contender
not-ahead m c e free l hit = go (ltb (core_at m e).ticket (core_at m c).ticket) refl
  where
    active : (core_at m e).active ≡ true
    active = both_left (core_at m e).active _ hit

    clash : conflicting (core_at m c) (core_at m e) ≡ true
    clash = struck-conflicts (core_at m c) (core_at m e) hit

    has-written : is_read_only (core_at m c) ≡ false
    has-written =
        let d = meeting-one (core_at m c).writes (data_set (core_at m e)) (both_right (core_at m e).active _ hit) in
        one-filled (core_at m c).writes d.0 d.1 d.2

    go : (b : Bool) → ltb (core_at m e).ticket (core_at m c).ticket ≡ b → (core_at m c).ticket ≤ (core_at m e).ticket
    go true t = absurd (true≢false (sym (ap₂ ◌&&◌ (ap not has-written) (one-some 16 (contender m c) e l (ap₂ ◌&&◌ (ap₂ ◌&&◌ active t) clash))) ∙ free))
    go false t = ltb-false (core_at m e).ticket (core_at m c).ticket t

pub data Case (w : World) : Call → Answer → World → Type 0 where
  is-refused : {call : Call} {n : ℕ} → Case w call (Refused (suc n)) w
  is-released : {c number deadline : ℕ} → Core-ok w.machine c → (core_at w.machine c).count < 8
      → Case w (Release c number deadline) (released w.machine c (record { number = number; deadline = deadline })).answer
      (with_machine w (released w.machine c (record { number = number; deadline = deadline })).machine)
  is-begun : {c : ℕ} → Core-ok w.machine c → ((core_at w.machine c).count ≡ 0 → ⊥) → (core_at w.machine c).active ≡ false
      → w.machine.tickets < 4294967295 → Case w (Begin c) (Begun w.machine.tickets) (with_machine w (begun w.machine c).machine)
  is-told : {call : Call} {c : ℕ} → Asks call c → Lent-ok w c → (core_at w.machine c).zombie ≡ true → Case w call SetBack (set_back_told w c).world
  is-valued : {c d : ℕ} → Lent-ok w c → d < w.machine.objects → (core_at w.machine c).zombie ≡ false
      → Case w (Read c d) (valued w c d).answer (valued w c d).world
  is-written : {c d v : ℕ} → Lent-ok w c → d < w.machine.objects → (core_at w.machine c).zombie ≡ false
      → Case w (Write c d v) Written (written w c d v).world
  is-waiting : {c e : ℕ} → Lent-ok w c → (core_at w.machine c).zombie ≡ false → is_read_only (core_at w.machine c) ≡ false
      → First w.machine c e → Case w (Commit c) (Waits e) w
  is-through : {c : ℕ} → Lent-ok w c → (core_at w.machine c).zombie ≡ false → must_wait w.machine c ≡ false
      → Case w (Commit c) (through w c).answer (through w c).world
  is-ended : {c : ℕ} → Core-ok w.machine c → (core_at w.machine c).active ≡ true
      → Case w (GiveUp c) Ended (with_machine w (ended w.machine c).machine)
  is-finished : {c : ℕ} → Core-ok w.machine c → ((core_at w.machine c).count ≡ 0 → ⊥) → (core_at w.machine c).active ≡ false
      → Case w (Finish c) (finished w.machine c).answer (with_machine w (finished w.machine c).machine)

-- ---- no refusal applies: none of its conditions holds

core-ok : (m : Machine) (c : ℕ) → unsound m ≡ false → no_such_core m c ≡ false → Core-ok m c
core-ok m c s l = record { is_sound = not-false (sound m) s; is-core = ltb-true c m.cores (not-false (ltb c m.cores) l) }

both : (a b : Bool) → not (a && b) ≡ false → (a ≡ true) × (b ≡ true)
both true true e = (refl, refl)
both true false e = absurd (true≢false e)
both false b e = absurd (true≢false e)

lent_ok : (w : World) (c : ℕ) → Core-ok w.machine c → wrong_tables w ≡ false → not (core_at w.machine c).active ≡ false → Lent-ok w c
lent_ok w c ok t a =
    let fit = both (eqb (length w.committed) w.machine.objects) (eqb (length w.pending) (w.machine.cores * w.machine.objects)) t in
    record {
      core-ok = ok;
      committed_long = eqb-true (length w.committed) w.machine.objects fit.0;
      pending_long = eqb-true (length w.pending) (w.machine.cores * w.machine.objects) fit.1;
      active = not-false (core_at w.machine c).active a;
    }

-- ---- the rule of each call, by cases

pub release-case : (w : World) (c number deadline : ℕ)
    → Case w (Release c number deadline) (release w.machine c number deadline).answer (with_machine w (release w.machine c number deadline).machine)
unfolding release
release-case w c number deadline = go (first tests) refl
  where
    m : Machine
    m = w.machine

    tests : List (Bool × ℕ)
    tests = (unsound m, 2) ∷ (no_such_core m c, 4) ∷ (full_list m c, 6) ∷ []

    done : Outcome
    done = released m c (record { number = number; deadline = deadline })

    go : (r : ℕ) → first tests ≡ r
        → Case w (Release c number deadline) (unless r m done).answer (with_machine w (unless r m done).machine)
    go zero e =
        let p = passed (unsound m) 1 ((no_such_core m c, 4) ∷ (full_list m c, 6) ∷ []) e in
        let q = passed (no_such_core m c) 3 ((full_list m c, 6) ∷ []) p.1 in
        let r = passed (full_list m c) 5 [] q.1 in
        unfold unless in is-released (core-ok m c p.0 q.0) (leb-false 8 (core_at m c).count r.0)
    go (suc n) e = unfold unless in is-refused

pub begin-case : (w : World) (c : ℕ) → Case w (Begin c) (begin w.machine c).answer (with_machine w (begin w.machine c).machine)
unfolding begin
begin-case w c = go (first tests) refl
  where
    m : Machine
    m = w.machine

    tests : List (Bool × ℕ)
    tests = (unsound m, 2) ∷ (no_such_core m c, 4) ∷ (jobless m c, 7) ∷ (active_at m c, 8) ∷ (tickets_spent m, 10) ∷ []

    go : (r : ℕ) → first tests ≡ r → Case w (Begin c) (unless r m (begun m c)).answer (with_machine w (unless r m (begun m c)).machine)
    go zero e =
        let p = passed (unsound m) 1 ((no_such_core m c, 4) ∷ (jobless m c, 7) ∷ (active_at m c, 8) ∷ (tickets_spent m, 10) ∷ []) e in
        let q = passed (no_such_core m c) 3 ((jobless m c, 7) ∷ (active_at m c, 8) ∷ (tickets_spent m, 10) ∷ []) p.1 in
        let r = passed (jobless m c) 6 ((active_at m c, 8) ∷ (tickets_spent m, 10) ∷ []) q.1 in
        let s = passed (active_at m c) 7 ((tickets_spent m, 10) ∷ []) r.1 in
        let t = passed (tickets_spent m) 9 [] s.1 in
        unfold unless begun in
        is-begun (core-ok m c p.0 q.0) (eqb-false (core_at m c).count 0 r.0) s.0 (leb-false 4294967295 m.tickets t.0)
    go (suc n) e = unfold unless in is-refused

pub give-up-case : (w : World) (c : ℕ) → Case w (GiveUp c) (give_up w.machine c).answer (with_machine w (give_up w.machine c).machine)
unfolding give_up
give-up-case w c = go (first tests) refl
  where
    m : Machine
    m = w.machine

    tests : List (Bool × ℕ)
    tests = (unsound m, 2) ∷ (no_such_core m c, 4) ∷ (not (active_at m c), 9) ∷ []

    go : (r : ℕ) → first tests ≡ r → Case w (GiveUp c) (unless r m (ended m c)).answer (with_machine w (unless r m (ended m c)).machine)
    go zero e =
        let p = passed (unsound m) 1 ((no_such_core m c, 4) ∷ (not (active_at m c), 9) ∷ []) e in
        let q = passed (no_such_core m c) 3 ((not (active_at m c), 9) ∷ []) p.1 in
        let r = passed (not (active_at m c)) 8 [] q.1 in
        unfold unless ended in is-ended (core-ok m c p.0 q.0) (not-false (active_at m c) r.0)
    go (suc n) e = unfold unless in is-refused

pub finish-case : (w : World) (c : ℕ) → Case w (Finish c) (finish w.machine c).answer (with_machine w (finish w.machine c).machine)
unfolding finish
finish-case w c = go (first tests) refl
  where
    m : Machine
    m = w.machine

    tests : List (Bool × ℕ)
    tests = (unsound m, 2) ∷ (no_such_core m c, 4) ∷ (jobless m c, 7) ∷ (active_at m c, 8) ∷ []

    go : (r : ℕ) → first tests ≡ r → Case w (Finish c) (unless r m (finished m c)).answer (with_machine w (unless r m (finished m c)).machine)
    go zero e =
        let p = passed (unsound m) 1 ((no_such_core m c, 4) ∷ (jobless m c, 7) ∷ (active_at m c, 8) ∷ []) e in
        let q = passed (no_such_core m c) 3 ((jobless m c, 7) ∷ (active_at m c, 8) ∷ []) p.1 in
        let r = passed (jobless m c) 6 ((active_at m c, 8) ∷ []) q.1 in
        let s = passed (active_at m c) 7 [] r.1 in
        unfold unless in is-finished (core-ok m c p.0 q.0) (eqb-false (core_at m c).count 0 r.0) s.0
    go (suc n) e = unfold unless in is-refused

-- what no refusal of read and write leaves
access-ok : (w : World) (c d : ℕ) → access_refusal w c d ≡ 0 → Lent-ok w c × (d < w.machine.objects)
unfolding access_refusal
access-ok w c d e =
    let p = passed (unsound m) 1 ((wrong_tables w, 3) ∷ (no_such_core m c, 4) ∷ (no_such_object m d, 5) ∷ (not (active_at m c), 9) ∷ []) e in
    let q = passed (wrong_tables w) 2 ((no_such_core m c, 4) ∷ (no_such_object m d, 5) ∷ (not (active_at m c), 9) ∷ []) p.1 in
    let r = passed (no_such_core m c) 3 ((no_such_object m d, 5) ∷ (not (active_at m c), 9) ∷ []) q.1 in
    let s = passed (no_such_object m d) 4 ((not (active_at m c), 9) ∷ []) r.1 in
    let t = passed (not (active_at m c)) 8 [] s.1 in
    (lent_ok w c (core-ok m c p.0 r.0) q.0 t.0, ltb-true d m.objects (not-false (ltb d m.objects) s.0))
  where
    m : Machine
    m = w.machine

pub read-case : (w : World) (c d : ℕ) → Case w (Read c d) (read w c d).answer (read w c d).world
unfolding read
read-case w c d = go (access_refusal w c d) refl (core_at w.machine c).zombie refl
  where
    go : (r : ℕ) → access_refusal w c d ≡ r → (z : Bool) → (core_at w.machine c).zombie ≡ z
        → Case w (Read c d) (unless_lent r w (cond z (set_back_told w c) (valued w c d))).answer (unless_lent r w (cond z (set_back_told w c) (valued w c d))).world
    go zero e true z = unfold unless_lent set_back_told in is-told asks_read (access-ok w c d e).0 z
    go zero e false z = let ok = access-ok w c d e in unfold unless_lent in is-valued ok.0 ok.1 z
    go (suc n) e z t = unfold unless_lent in is-refused

pub write-case : (w : World) (c d v : ℕ) → Case w (Write c d v) (write w c d v).answer (write w c d v).world
unfolding write
write-case w c d v = go (access_refusal w c d) refl (core_at w.machine c).zombie refl
  where
    go : (r : ℕ) → access_refusal w c d ≡ r → (z : Bool) → (core_at w.machine c).zombie ≡ z
        → Case w (Write c d v) (unless_lent r w (cond z (set_back_told w c) (written w c d v))).answer (unless_lent r w (cond z (set_back_told w c) (written w c d v))).world
    go zero e true z = unfold unless_lent set_back_told in is-told asks_write (access-ok w c d e).0 z
    go zero e false z = let ok = access-ok w c d e in unfold unless_lent written in is-written ok.0 ok.1 z
    go (suc n) e z t = unfold unless_lent in is-refused

-- what no refusal of commit leaves
commit-ok : (w : World) (c : ℕ) → commit_refusal w c ≡ 0 → Lent-ok w c
unfolding commit_refusal
commit-ok w c e =
    let p = passed (unsound m) 1 ((wrong_tables w, 3) ∷ (no_such_core m c, 4) ∷ (not (active_at m c), 9) ∷ []) e in
    let q = passed (wrong_tables w) 2 ((no_such_core m c, 4) ∷ (not (active_at m c), 9) ∷ []) p.1 in
    let r = passed (no_such_core m c) 3 ((not (active_at m c), 9) ∷ []) q.1 in
    let s = passed (not (active_at m c)) 8 [] r.1 in
    lent_ok w c (core-ok m c p.0 r.0) q.0 s.0
  where
    m : Machine
    m = w.machine

pub commit-case : (w : World) (c : ℕ) → Case w (Commit c) (commit w c).answer (commit w c).world
unfolding commit
commit-case w c = go (commit_refusal w c) refl (core_at m c).zombie refl (must_wait m c) refl
  where
    m : Machine
    m = w.machine

    done : ℕ → Bool → Bool → Result
    done r z b = unless_lent r w (cond z (set_back_told w c) (cond b (waiting w c) (through w c)))

    go : (r : ℕ) → commit_refusal w c ≡ r → (z : Bool) → (core_at m c).zombie ≡ z → (b : Bool) → must_wait m c ≡ b
        → Case w (Commit c) (done r z b).answer (done r z b).world
    go zero t true z b u = unfold unless_lent set_back_told in is-told asks-commit (commit-ok w c t) z
    go zero t false z true u =
        let wrote = not-true (is_read_only (core_at m c)) (both_left (not (is_read_only (core_at m c))) (blocked m c) u) in
        unfold unless_lent in is-waiting (commit-ok w c t) z wrote (first-ahead m c (both_right (not (is_read_only (core_at m c))) (blocked m c) u))
    go zero t false z false u = unfold unless_lent in is-through (commit-ok w c t) z u
    go (suc n) t z y b u = unfold unless_lent in is-refused

-- ---- setup

not-refused : (n : ℕ) → Refused n ≡ Ready → ⊥
unfolding kind
not-refused n e = absurd (eqb-false 11 0 refl (ap kind e))

-- an accepted setup found its numbers in range, and gives the new world
pub setup-case : (cores objects : ℕ) (committed pending : List ℕ) → (setup cores objects committed pending).answer ≡ Ready
    → (sizes_in_range cores objects ≡ true) × ((setup cores objects committed pending).world ≡ new_world cores objects)
unfolding setup first unless_lent
setup-case cores objects committed pending = go (sizes_out_of_range cores objects) refl (misfit cores objects committed pending)
  where
    done : Bool → Bool → Result
    done r f = unless_lent (first ((r, 1) ∷ (f, 3) ∷ [])) (lent blank committed pending) (record { answer = Ready; world = new_world cores objects })

    go : (r : Bool) → sizes_out_of_range cores objects ≡ r → (f : Bool) → (done r f).answer ≡ Ready
        → (sizes_in_range cores objects ≡ true) × ((done r f).world ≡ new_world cores objects)
    go true r f e = absurd (not-refused 1 e)
    go false r true e = absurd (not-refused 3 e)
    go false r false e = (not-false (sizes_in_range cores objects) r, refl)
