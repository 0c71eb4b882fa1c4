-- What each call makes of a core keeps the rules that a core keeps by itself, and its shape.
use Rattle.std.specs.Prelude.{◌≡◌, ℕ, ◌+◌, ◌-◌, ◌^◌, ◌<◌, ◌≤◌, Bool, true, false, cond, ◌||◌, eqb, List, length, get_or, set}
use mathlib.Core.Path.{refl, sym, ap, ◌∙◌}
use mathlib.Core.Bool.{true≢false}
use native.Mathlib.Omega.{arith}
use lib.ListN.{length-set}
use lib.Seq.{get_or-set_other}
use borrow.Author.Tests.{eqb-true}
use Rattle.objset.specs.Objset.{has, none, is_empty, added}
use Rattle.objset.proofs.Laws.{both_left, has-none, has-added, none-empty, none-fits, empty-none}
use Rattle.one_core.specs.declared.Core.{Core}
use Rattle.one_core.specs.declared.Job.{Job}
use Rattle.one_core.specs.Parts.{no_job, job_at, idle, running}
use Rattle.one_core.specs.Life.{with_list, with_job, with_transaction, attempting, unmarked, with_sets, aborted, is_struck, struck_by, over, without}
use Rattle.one_core.specs.Formed.{Formed-core}
use Rattle.one_core.proofs.Tidy.{Clear, Tidy}
use Rattle.one_core.proofs.Jobs.{least-listed, least_first, without-long, without-unused}

none_within : (objects d : ℕ) → d < 64 → has none d ≡ true → d < objects
none_within objects d l p = absurd (true≢false (sym p ∙ has-none d))

pub idle-tidy : (objects : ℕ) (jobs : List Job) (n : ℕ) → n ≤ 8 → ((p : ℕ) → p < 8 → n ≤ p → get_or jobs p no_job ≡ no_job)
    → Tidy objects (idle jobs n)
idle-tidy objects jobs n few unused =
    record {
      reads-within = none_within objects;
      writes-within = none_within objects;
      owner-listed = λ a. absurd (true≢false (sym a));
      idle-clear = λ a. record { no_reads = none-empty; no_writes = none-empty; no-mark = refl; no-owner = refl; no-ticket = refl; no-aborts = refl };
      zombie-empty = λ z. absurd (true≢false (sym z));
      few-listed = few;
      unused-jobs = unused;
      owner-first = λ a. absurd (true≢false (sym a));
    }

-- a core without a transaction is its list of jobs
pub idle-list : (k : Core) (jobs : List Job) (n : ℕ) → Formed-core k → k.active ≡ false → Clear k → with_list k jobs n ≡ idle jobs n
idle-list k jobs n f off clear =
    λ i. record {
      jobs = jobs;
      count = n;
      active = off i;
      owner = clear.no-owner i;
      ticket = clear.no-ticket i;
      aborts = clear.no-aborts i;
      zombie = clear.no-mark i;
      reads = empty-none k.reads f.reads_fit clear.no_reads i;
      writes = empty-none k.writes f.writes_fit clear.no_writes i;
    }

pub idle-formed : (jobs : List Job) (n : ℕ) → length jobs ≡ 8 → Formed-core (idle jobs n)
idle-formed jobs n long = record { jobs_long = long; reads_fit = none-fits; writes_fit = none-fits }

module _ (objects : ℕ) (k : Core) (s : Tidy objects k) (f : Formed-core k) where
  -- the new job joins the end of the list, after the owner, and moves no other
  pub released-tidy : (j : Job) → k.count < 8 → Tidy objects (with_job k j)
  released-tidy j room =
      record {
        reads-within = s.reads-within;
        writes-within = s.writes-within;
        owner-listed = λ a. omega (arith, s.owner-listed a);
        idle-clear = λ a.
            let e = s.idle-clear a in
            record {
              no_reads = e.no_reads;
              no_writes = e.no_writes;
              no-mark = e.no-mark;
              no-owner = e.no-owner;
              no-ticket = e.no-ticket;
              no-aborts = e.no-aborts;
            };
        zombie-empty = s.zombie-empty;
        few-listed = omega arith;
        unused-jobs = λ p l u. kept p (λ e. omega arith) ∙ s.unused-jobs p l (omega arith);
        owner-first = λ a p h.
            let o : k.owner < k.count = s.owner-listed a in
            omega (
              arith,
              ap (λ (x : Job). x.deadline) (kept k.owner (λ e. omega arith)),
              ap (λ (x : Job). x.deadline) (kept p (λ e. omega arith)),
              s.owner-first a p h,
            );
      }
    where
      kept : (p : ℕ) → (p ≡ k.count → ⊥) → get_or (set k.jobs k.count j) p no_job ≡ job_at k p
      kept p d = get_or-set_other k.jobs k.count p j no_job d

  pub released-formed : (j : Job) → Formed-core (with_job k j)
  released-formed j =
      record { jobs_long = length-set k.jobs k.count j ∙ f.jobs_long; reads_fit = f.reads_fit; writes_fit = f.writes_fit }

  -- every job listed before the one of least deadline has a greater deadline
  pub begun-tidy : (t : ℕ) → (k.count ≡ 0 → ⊥) → k.active ≡ false → Tidy objects (with_transaction k t)
  unfolding running
  begun-tidy t some off =
      record {
        reads-within = none_within objects;
        writes-within = none_within objects;
        owner-listed = λ a. rw off (least-listed k.jobs k.count (omega (arith, some)));
        idle-clear = λ a. absurd (true≢false a);
        zombie-empty = λ z. absurd (true≢false (sym z));
        few-listed = s.few-listed;
        unused-jobs = s.unused-jobs;
        owner-first = λ a p. rw off (least_first k.jobs k.count p);
      }

  pub begun-formed : (t : ℕ) → Formed-core (with_transaction k t)
  begun-formed t = record { jobs_long = f.jobs_long; reads_fit = none-fits; writes_fit = none-fits }

  -- a transaction in progress with another ticket, other setbacks, another mark and other sets; a marked one has empty sets
  attempting-tidy : (t n : ℕ) (z : Bool) (rs ws : ℕ) → k.active ≡ true → (z ≡ true → (is_empty rs ≡ true) × (is_empty ws ≡ true))
      → ((d : ℕ) → d < 64 → has rs d ≡ true → d < objects) → ((d : ℕ) → d < 64 → has ws d ≡ true → d < objects)
      → Tidy objects (attempting k t n z rs ws)
  attempting-tidy t n z rs ws on empty hr hw =
      record {
        reads-within = hr;
        writes-within = hw;
        owner-listed = s.owner-listed;
        idle-clear = λ a. absurd (true≢false (sym on ∙ a));
        zombie-empty = empty;
        few-listed = s.few-listed;
        unused-jobs = s.unused-jobs;
        owner-first = s.owner-first;
      }

  pub told-tidy : k.active ≡ true → Tidy objects (unmarked k)
  told-tidy on = attempting-tidy _ _ false _ _ on (λ z. absurd (true≢false (sym z))) s.reads-within s.writes-within

  pub told-formed : Formed-core (unmarked k)
  told-formed = record { jobs_long = f.jobs_long; reads_fit = f.reads_fit; writes_fit = f.writes_fit }

  -- new sets within the cards, for a transaction that is not marked
  pub sets-tidy : (rs ws : ℕ) → k.active ≡ true → k.zombie ≡ false → ((d : ℕ) → d < 64 → has rs d ≡ true → d < objects)
      → ((d : ℕ) → d < 64 → has ws d ≡ true → d < objects) → Tidy objects (with_sets k rs ws)
  sets-tidy rs ws on free = attempting-tidy _ _ _ rs ws on (λ z. absurd (true≢false (sym z ∙ free)))

  pub sets-formed : (rs ws : ℕ) → rs < 2 ^ 64 → ws < 2 ^ 64 → Formed-core (with_sets k rs ws)
  sets-formed rs ws hr hw = record { jobs_long = f.jobs_long; reads_fit = hr; writes_fit = hw }

  pub over-tidy : Tidy objects (over k)
  over-tidy = idle-tidy objects k.jobs k.count s.few-listed s.unused-jobs

  pub aborted-tidy : k.active ≡ true → Tidy objects (aborted k)
  aborted-tidy on =
      attempting-tidy _ _ _ (aborted k).reads (aborted k).writes on (λ z. (none-empty, none-empty)) (none_within objects) (none_within objects)

  pub finished-tidy : (p : ℕ) → p < k.count → Tidy objects (idle (without k.jobs p) (k.count - 1))
  finished-tidy p h =
      let few : k.count ≤ 8 = s.few-listed in
      idle-tidy objects (without k.jobs p) (k.count - 1) (omega arith)
      (λ q l u.
      without-unused k.jobs p k.count h (λ x m. s.unused-jobs x (omega (arith, f.jobs_long))) q (omega (arith, f.jobs_long)) u)

  pub finished-formed : (p : ℕ) → p < k.count → Formed-core (idle (without k.jobs p) (k.count - 1))
  finished-formed p h =
      idle-formed (without k.jobs p) (k.count - 1)
      (without-long k.jobs p (omega (arith, f.jobs_long, s.few-listed)) ∙ f.jobs_long)

-- one card of the machine's joins a set within the cards
pub added-within : (objects s d : ℕ) → s < 2 ^ 64 → objects ≤ 64 → d < objects → ((e : ℕ) → e < 64 → has s e ≡ true → e < objects)
    → (e : ℕ) → e < 64 → has (added s d) e ≡ true → e < objects
added-within objects s d fits few card inside e l p = go (has s e) refl (eqb e d) refl (sym (has-added s d e fits (omega arith)) ∙ p)
  where
    go : (a : Bool) → has s e ≡ a → (b : Bool) → eqb e d ≡ b → (has s e || eqb e d) ≡ true → e < objects
    go true h b t q = inside e l h
    go false h true t q = omega (arith, eqb-true e d t)
    go false h false t q = absurd (true≢false (sym (rw (h, t) at q)))

-- ---- a core at another's commit

-- it is set back, or as it was
pub struck-either : (P : Core → Type 0) (ws : ℕ) (k : Core) → (is_struck ws k ≡ true → P (aborted k)) → P k → P (struck_by ws k)
unfolding struck_by
struck-either P ws k hit missed = go (is_struck ws k) refl
  where
    go : (b : Bool) → is_struck ws k ≡ b → P (cond b (aborted k) k)
    go true e = hit e
    go false e = missed

-- what a set back keeps is kept
pub struck-keeps : {A : Type 0} (part : Core → A) (ws : ℕ) (k : Core) → part (aborted k) ≡ part k → part (struck_by ws k) ≡ part k
struck-keeps part ws k e = struck-either (λ x. part x ≡ part k) ws k (λ p. e) refl

-- the setbacks rise by at most one, and only where those whom the commit strikes have a later ticket
pub struck-aborts : (ws : ℕ) (k : Core) (later : Bool) → (is_struck ws k ≡ true → later ≡ true)
    → (struck_by ws k).aborts ≤ k.aborts + cond later 1 0
struck-aborts ws k later h =
    struck-either (λ x. x.aborts ≤ k.aborts + cond later 1 0) ws k (λ e. rw (h e) (omega arith)) (omega arith)

pub struck-tidy : (objects ws : ℕ) (k : Core) → Tidy objects k → Formed-core k → Tidy objects (struck_by ws k)
struck-tidy objects ws k s f = struck-either (Tidy objects) ws k (λ e. aborted-tidy objects k s f (both_left k.active _ e)) s

pub struck-formed : (ws : ℕ) (k : Core) → Formed-core k → Formed-core (struck_by ws k)
struck-formed ws k f =
    struck-either Formed-core ws k (λ e. record { jobs_long = f.jobs_long; reads_fit = none-fits; writes_fit = none-fits }) f
