-- The rules that a core keeps by itself as plain statements: `Tidy objects k` holds if and only if the test `tidy objects k` passes.
use Rattle.std.specs.Prelude.{◌≡◌, ℕ, ◌<◌, ◌≤◌, Bool, true, false, not, ◌&&◌, eqb, ltb, leb}
use mathlib.Core.Path.{refl, sym, ap, ◌∙◌}
use mathlib.Core.Bool.{true≢false}
use native.Mathlib.Omega.{arith}
use borrow.Author.Tests.{ltb-true, leb-true, eqb-true, lt-ltb, le-leb, not-true}
use Rattle.objset.specs.Objset.{has, each, below, is_empty}
use Rattle.objset.proofs.Laws.{each-one, one_each, one-filled}
use Rattle.one_core.specs.declared.Core.{Core}
use Rattle.one_core.specs.declared.Job.{Job}
use Rattle.one_core.specs.Parts.{no_job, job_at}
use Rattle.one_core.specs.Life.{is_read_only}
use Rattle.one_core.specs.Calls.{Settles}
use Rattle.one_core.specs.Tidy.{◌⇒◌, sets_within_on, owner_listed_on, empty_sets, clear, idle_clear_on, zombie_empty_on, few_jobs_on, zero_job, unused_jobs_on, owner_first_on, unused, tidy, blank_on}
use Rattle.one_core.proofs.TestLaws.{same_test, if-true, true-if, both}

-- empty sets, no mark, and owner's place, ticket and setbacks 0
pub record Clear (k : Core) : Type 0 where
  pub no_reads : is_empty k.reads ≡ true
  pub no_writes : is_empty k.writes ≡ true
  pub no-mark : k.zombie ≡ false
  pub no-owner : k.owner ≡ 0
  pub no-ticket : k.ticket ≡ 0
  pub no-aborts : k.aborts ≡ 0

-- the rules that a core keeps by itself
pub record Tidy (objects : ℕ) (k : Core) : Type 0 where
  pub reads-within : (d : ℕ) → d < 64 → has k.reads d ≡ true → d < objects
  pub writes-within : (d : ℕ) → d < 64 → has k.writes d ≡ true → d < objects
  pub owner-listed : k.active ≡ true → k.owner < k.count
  pub idle-clear : k.active ≡ false → Clear k
  pub zombie-empty : k.zombie ≡ true → (is_empty k.reads ≡ true) × (is_empty k.writes ≡ true)
  pub few-listed : k.count ≤ 8
  pub unused-jobs : (p : ℕ) → p < 8 → k.count ≤ p → job_at k p ≡ no_job
  pub owner-first : k.active ≡ true → (p : ℕ) → p < k.owner → (job_at k k.owner).deadline < (job_at k p).deadline

-- ---- tests and statements

within : (s n : ℕ) → below s n ≡ true → (d : ℕ) → d < 64 → has s d ≡ true → d < n
unfolding below
within s n e d l p = ltb-true d n (if-true (has s d) (ltb d n) (each-one 64 (λ x. has s x ⇒ ltb x n) e d l) p)

is_below : (s n : ℕ) → ((d : ℕ) → d < 64 → has s d ≡ true → d < n) → below s n ≡ true
unfolding below
is_below s n h = one_each 64 (λ x. has s x ⇒ ltb x n) (λ d l. true-if (has s d) (ltb d n) (λ p. lt-ltb d n (h d l p)))

zero-job : (j : Job) → zero_job j ≡ true → j ≡ no_job
zero-job j e =
    let p = both (eqb j.number 0) (eqb j.deadline 0) e in
    let n = eqb-true j.number 0 p.0 in
    let d = eqb-true j.deadline 0 p.1 in
    λ i. record { number = n i; deadline = d i }

empty-sets : (k : Core) → empty_sets k ≡ true → (is_empty k.reads ≡ true) × (is_empty k.writes ≡ true)
empty-sets k = both (is_empty k.reads) (is_empty k.writes)

is-clear : (k : Core) → (empty_sets k && not k.zombie && eqb k.owner 0 && eqb k.ticket 0 && eqb k.aborts 0) ≡ true → Clear k
is-clear k e =
    let p = both _ (eqb k.aborts 0) e in
    let q = both _ (eqb k.ticket 0) p.0 in
    let r = both _ (eqb k.owner 0) q.0 in
    let s = both (empty_sets k) (not k.zombie) r.0 in
    record {
      no_reads = (empty-sets k s.0).0;
      no_writes = (empty-sets k s.0).1;
      no-mark = not-true k.zombie s.1;
      no-owner = eqb-true k.owner 0 r.1;
      no-ticket = eqb-true k.ticket 0 q.1;
      no-aborts = eqb-true k.aborts 0 p.1;
    }

clear-is : (k : Core) → Clear k → (empty_sets k && not k.zombie && eqb k.owner 0 && eqb k.ticket 0 && eqb k.aborts 0) ≡ true
clear-is k s = rw (s.no_reads, s.no_writes, s.no-mark, s.no-owner, s.no-ticket, s.no-aborts)

-- ---- a core that passes every test keeps every rule

pub tidy-core : (objects : ℕ) (k : Core) → sets_within_on objects k ≡ true → owner_listed_on k ≡ true → idle_clear_on k ≡ true → zombie_empty_on k ≡ true
    → few_jobs_on k ≡ true → unused_jobs_on k ≡ true → owner_first_on k ≡ true → Tidy objects k
tidy-core objects k a b e d f g h =
    record {
      reads-within = within k.reads objects sets.0;
      writes-within = within k.writes objects sets.1;
      owner-listed = owner;
      idle-clear = λ p. is-clear k (if-true (not k.active) _ e (ap not p));
      zombie-empty = λ p. empty-sets k (if-true k.zombie (empty_sets k) d p);
      few-listed = few;
      unused-jobs = λ p l u.
          zero-job (job_at k p) (if-true (leb k.count p) (zero_job (job_at k p)) (each-one 8 _ g p l) (le-leb k.count p u));
      owner-first = λ on p l.
          ltb-true (job_at k k.owner).deadline (job_at k p).deadline
          (if-true (ltb p k.owner) (ltb (job_at k k.owner).deadline (job_at k p).deadline)
          (each-one 8 _ (if-true k.active _ h on) p (omega (arith, owner on, few))) (lt-ltb p k.owner l));
    }
  where
    sets : (below k.reads objects ≡ true) × (below k.writes objects ≡ true)
    sets = both (below k.reads objects) (below k.writes objects) a

    owner : k.active ≡ true → k.owner < k.count
    owner on = ltb-true k.owner k.count (if-true k.active _ b on)

    few : k.count ≤ 8
    few = leb-true k.count 8 f

-- ---- a core that keeps every rule passes every test

module _ (objects : ℕ) (k : Core) (t : Tidy objects k) where
  pub sets-pass : sets_within_on objects k ≡ true
  sets-pass = rw (is_below k.reads objects t.reads-within, is_below k.writes objects t.writes-within)

  pub owner-passes : owner_listed_on k ≡ true
  owner-passes = true-if k.active _ (λ a. lt-ltb k.owner k.count (t.owner-listed a))

  pub idle-passes : idle_clear_on k ≡ true
  idle-passes = true-if (not k.active) _ (λ a. clear-is k (t.idle-clear (not-true k.active a)))

  pub zombie-passes : zombie_empty_on k ≡ true
  zombie-passes = true-if k.zombie _ (λ z. rw ((t.zombie-empty z).0, (t.zombie-empty z).1))

  pub few-pass : few_jobs_on k ≡ true
  few-pass = le-leb k.count 8 t.few-listed

  pub unused-pass : unused_jobs_on k ≡ true
  unused-pass =
      one_each 8 _ (λ p l. true-if (leb k.count p) _ (λ u. ap zero_job (t.unused-jobs p l (leb-true k.count p u))))

  pub first_passes : owner_first_on k ≡ true
  first_passes =
      true-if k.active _
      (λ a. one_each 8 _
      (λ p l. true-if (ltb p k.owner) _
      (λ b. lt-ltb (job_at k k.owner).deadline (job_at k p).deadline (t.owner-first a p (ltb-true p k.owner b)))))

-- ---- a blank core

pub record Blank (k : Core) : Type 0 where
  pub cleared : Clear k
  pub no-transaction : k.active ≡ false
  pub no-count : k.count ≡ 0
  pub no-jobs : (p : ℕ) → p < 8 → job_at k p ≡ no_job

pub blank-core : (k : Core) → blank_on k ≡ true → Blank k
blank-core k e =
    let s = both _ (empty_sets k) e in
    let j = both _ (each 8 (λ p. zero_job (job_at k p))) s.0 in
    let b = both _ (eqb k.aborts 0) j.0 in
    let t = both _ (eqb k.ticket 0) b.0 in
    let o = both _ (eqb k.owner 0) t.0 in
    let n = both _ (eqb k.count 0) o.0 in
    let z = both (not k.active) (not k.zombie) n.0 in
    record {
      cleared =
          record {
            no_reads = (empty-sets k s.1).0;
            no_writes = (empty-sets k s.1).1;
            no-mark = not-true k.zombie z.1;
            no-owner = eqb-true k.owner 0 o.1;
            no-ticket = eqb-true k.ticket 0 t.1;
            no-aborts = eqb-true k.aborts 0 b.1;
          };
      no-transaction = not-true k.active z.0;
      no-count = eqb-true k.count 0 n.1;
      no-jobs = λ p l. zero-job (job_at k p) (each-one 8 _ j.1 p l);
    }

-- a place for a core that the machine lacks is blank if and only if it keeps the rules and has no jobs and no transaction
pub blank-tidy : (objects : ℕ) (k : Core) → blank_on k ≡ (tidy objects k && unused k)
blank-tidy objects k = same_test (blank_on k) (tidy objects k && unused k) to from
  where
    to : blank_on k ≡ true → (tidy objects k && unused k) ≡ true
    to e =
        let b = blank-core k e in
        let no-object : (s d : ℕ) → is_empty s ≡ true → d < 64 → has s d ≡ true → d < objects =
        λ s d e l h. absurd (true≢false (sym e ∙ one-filled s d l h)) in
        let t : Tidy objects k =
        record {
          reads-within = λ d l. no-object k.reads d b.cleared.no_reads l;
          writes-within = λ d l. no-object k.writes d b.cleared.no_writes l;
          owner-listed = λ on. absurd (true≢false (sym on ∙ b.no-transaction));
          idle-clear = λ off. b.cleared;
          zombie-empty = λ z. (b.cleared.no_reads, b.cleared.no_writes);
          few-listed = omega (arith, b.no-count);
          unused-jobs = λ p l h. b.no-jobs p l;
          owner-first = λ on. absurd (true≢false (sym on ∙ b.no-transaction));
        } in
        rw (
          sets-pass objects k t,
          owner-passes objects k t,
          idle-passes objects k t,
          zombie-passes objects k t,
          few-pass objects k t,
          unused-pass objects k t,
          first_passes objects k t,
          b.no-count,
          b.no-transaction,
        )

    from : (tidy objects k && unused k) ≡ true → blank_on k ≡ true
    from e =
        let u = both (tidy objects k) (unused k) e in
        let f = both _ (owner_first_on k) u.0 in
        let j = both _ (unused_jobs_on k) f.0 in
        let a = both _ (few_jobs_on k) j.0 in
        let z = both _ (zombie_empty_on k) a.0 in
        let i = both (sets_within_on objects k && owner_listed_on k) (idle_clear_on k) z.0 in
        let n = both (eqb k.count 0) (not k.active) u.1 in
        let none : k.count ≡ 0 = eqb-true k.count 0 n.0 in
        let off = not-true k.active n.1 in
        let c = is-clear k (if-true (not k.active) (clear k) i.1 (ap not off)) in
        let jobs : each 8 (λ p. zero_job (job_at k p)) ≡ true =
        one_each 8 _
        (λ p l. if-true (leb k.count p) (zero_job (job_at k p)) (each-one 8 _ j.1 p l) (le-leb k.count p (omega (arith, none)))) in
        rw (off, c.no-mark, none, c.no-owner, c.no-ticket, c.no-aborts, jobs, c.no_reads, c.no_writes)

-- ---- where it has written, it is in progress and not marked

pub tidy-settles : (objects : ℕ) (k : Core) → Tidy objects k → Settles k
tidy-settles objects k t =
    record {
      written_active = λ wrote. go k.active refl (λ off. unwritten (t.idle-clear off).no_writes wrote);
      written_unmarked = λ wrote. mark k.zombie refl (λ on. unwritten (t.zombie-empty on).1 wrote);
    }
  where
    unwritten : is_empty k.writes ≡ true → is_read_only k ≡ false → ⊥
    unwritten none wrote = true≢false (sym none ∙ wrote)

    go : (a : Bool) → k.active ≡ a → (k.active ≡ false → ⊥) → k.active ≡ true
    go true on h = on
    go false off h = absurd (h off)

    mark : (z : Bool) → k.zombie ≡ z → (k.zombie ≡ true → ⊥) → k.zombie ≡ false
    mark true on h = absurd (h on)
    mark false off h = off
