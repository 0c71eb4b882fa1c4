-- The standing rules as plain statements: `Standing m` holds if and only if the test `sound m` passes.
-- `Formed m` is what the types of the record's fields give besides.
use Rattle.std.proofs.Common.{◌≡◌, ℕ, ◌+◌, ◌<◌, ◌≤◌, Bool, true, false, not, ◌&&◌, eqb, ltb, leb, get_or, sym, refl, ap, ap₂, arith, ltb-false, ltb-true, lt-ltb, eq-eqb, ne_eqb, eqb-true, le-leb, leb-true}
use borrow.Author.Tests.{eqb-false, not-true}
use Rattle.objset.proofs.Laws.{each-one, one_each}
use Rattle.one_core.specs.declared.Core.{Core}
use Rattle.one_core.proofs.TestLaws.{if-true, true-if, both}
use Rattle.one_core.proofs.Tidy.{Tidy, tidy-core, sets-pass, owner-passes, idle-passes, zombie-passes, few-pass, unused-pass, first_passes}
use Rattle.machine.specs.declared.Machine.{Machine}
use Rattle.machine.specs.Record.{core_at}
use Rattle.machine.specs.Sound.{in_range, sets_within, owner_listed, idle_clear, zombie_empty, few_jobs, unused_jobs, lacked_cores, lacked_objects, owner_first, tickets_differ, tickets_given, tickets_counted, versions_bounded, smaller_tickets, aborts_bounded, sound}
use Rattle.machine.proofs.Sound.Turns.{Turns}
use Rattle.machine.proofs.Sound.Passed.{in-range, Passed, passed, passed-all}

-- the rules that tie the transactions in progress together
abbrev pub TurnsOf : Machine → Type 0
TurnsOf m =
    Turns m.cores m.tickets (m.commits + m.give_ups) (λ c. (core_at m c).active) (λ c. (core_at m c).ticket) (λ c. (core_at m c).aborts)

pub record Standing (m : Machine) : Type 0 where
  pub some-cores : 0 < m.cores
  pub few-cores : m.cores ≤ 16
  pub some-objects : 0 < m.objects
  pub few-objects : m.objects ≤ 64
  pub tidy : (c : ℕ) → c < 16 → Tidy m.objects (core_at m c)
  pub lacked-jobs : (c : ℕ) → c < 16 → m.cores ≤ c → (core_at m c).count ≡ 0
  pub lacked-objects : (d : ℕ) → d < 64 → m.objects ≤ d → get_or m.versions d 0 ≡ 0
  -- a lacked core has no transaction; tickets in progress differ and were given; the count of tickets; the bound of setbacks
  pub turns : TurnsOf m
  pub versions-bounded : (d : ℕ) → d < 64 → get_or m.versions d 0 ≤ m.commits

-- ---- soundness gives every rule

standing-core : (m : Machine) → Passed m → (c : ℕ) → c < 16 → Tidy m.objects (core_at m c)
unfolding sets_within owner_listed idle_clear zombie_empty few_jobs unused_jobs owner_first
standing-core m s c l =
    tidy-core m.objects (core_at m c) (each-one 16 _ s.passed-sets-within c l) (each-one 16 _ s.passed-owner-listed c l)
    (each-one 16 _ s.passed-idle-clear c l) (each-one 16 _ s.passed-zombie-empty c l) (each-one 16 _ s.passed-few-listed c l)
    (each-one 16 _ s.passed-unused-jobs c l) (each-one 16 _ s.passed-owner-first c l)

lacked-core : (m : Machine) → Passed m → (c : ℕ) → c < 16 → m.cores ≤ c
    → (eqb (core_at m c).count 0 ≡ true) × (not (core_at m c).active ≡ true)
unfolding lacked_cores
lacked-core m s c l h =
    both (eqb (core_at m c).count 0) (not (core_at m c).active)
    (if-true (leb m.cores c) _ (each-one 16 _ s.passed-lacked-cores c l) (le-leb m.cores c h))

standing-turns : (m : Machine) → Passed m → TurnsOf m
unfolding tickets_differ tickets_given tickets_counted aborts_bounded smaller_tickets
standing-turns m s =
    record {
      lacked = λ c l h. not-true (core_at m c).active (lacked-core m s c l h).1;
      differ = λ c e lc le d ac ae p. sides c e lc le d ac ae p (ltb e c) refl;
      given = λ c l a.
          ltb-true (core_at m c).ticket m.tickets (if-true (core_at m c).active _ (each-one 16 _ s.passed-tickets-given c l) a);
      counted = eqb-true m.tickets _ s.passed-tickets-counted;
      bounded = λ c l a. ltb-true _ m.cores (if-true (core_at m c).active _ (each-one 16 _ s.passed-aborts-bounded c l) a);
    }
  where
    -- the test looks at pairs with the greater core first
    apart : (c e : ℕ) → c < 16 → e < c → (core_at m c).active ≡ true → (core_at m e).active ≡ true → (core_at m c).ticket ≡ (core_at m e).ticket → ⊥
    apart c e l h ac ae =
        eqb-false (core_at m c).ticket (core_at m e).ticket
        (not-true (eqb (core_at m c).ticket (core_at m e).ticket)
        (if-true ((core_at m c).active && (core_at m e).active) _ (each-one c _ (each-one 16 _ s.passed-tickets-differ c l) e h)
        (ap₂ ◌&&◌ ac ae)))

    sides : (c e : ℕ) → c < 16 → e < 16 → (c ≡ e → ⊥) → (core_at m c).active ≡ true → (core_at m e).active ≡ true
        → (core_at m c).ticket ≡ (core_at m e).ticket → (q : Bool) → ltb e c ≡ q → ⊥
    sides c e lc le d ac ae p true t = apart c e lc (ltb-true e c t) ac ae p
    sides c e lc le d ac ae p false t = apart e c le (omega (arith, ltb-false e c t, d)) ae ac (sym p)

pub standing : {m : Machine} → sound m ≡ true → Standing m
unfolding in_range lacked_objects versions_bounded
standing {m} sound-m =
    record {
      some-cores = range.0;
      few-cores = range.1;
      some-objects = range.2;
      few-objects = range.3;
      tidy = standing-core m s;
      lacked-jobs = λ c l h. eqb-true (core_at m c).count 0 (lacked-core m s c l h).0;
      lacked-objects = λ d l h.
          eqb-true (get_or m.versions d 0) 0
          (if-true (leb m.objects d) _ (each-one 64 _ s.passed-lacked-objects d l) (le-leb m.objects d h));
      turns = standing-turns m s;
      versions-bounded = λ d l. leb-true (get_or m.versions d 0) m.commits (each-one 64 _ s.passed-versions-bounded d l);
    }
  where
    s : Passed m
    s = passed m sound-m

    range : (0 < m.cores) × (m.cores ≤ 16) × (0 < m.objects) × (m.objects ≤ 64)
    range = in-range m.cores m.objects s.passed-in-range

-- ---- the rules together give soundness

pub is_sound : {m : Machine} → Standing m → sound m ≡ true
unfolding in_range sets_within owner_listed idle_clear zombie_empty few_jobs unused_jobs lacked_cores lacked_objects owner_first tickets_differ tickets_given tickets_counted versions_bounded smaller_tickets aborts_bounded
is_sound {m} s =
    passed-all m
    (record {
      passed-in-range =
          rw (
            lt-ltb 0 m.cores s.some-cores,
            le-leb m.cores 16 s.few-cores,
            lt-ltb 0 m.objects s.some-objects,
            le-leb m.objects 64 s.few-objects,
          );
      passed-sets-within = one_each 16 _ (λ c l. sets-pass _ _ (s.tidy c l));
      passed-owner-listed = one_each 16 _ (λ c l. owner-passes _ _ (s.tidy c l));
      passed-idle-clear = one_each 16 _ (λ c l. idle-passes _ _ (s.tidy c l));
      passed-zombie-empty = one_each 16 _ (λ c l. zombie-passes _ _ (s.tidy c l));
      passed-few-listed = one_each 16 _ (λ c l. few-pass _ _ (s.tidy c l));
      passed-unused-jobs = one_each 16 _ (λ c l. unused-pass _ _ (s.tidy c l));
      passed-lacked-cores =
          one_each 16 _
          (λ c l. true-if (leb m.cores c) _
          (λ h. rw (s.lacked-jobs c l (leb-true m.cores c h), s.turns.lacked c l (leb-true m.cores c h))));
      passed-lacked-objects =
          one_each 64 _ (λ d l. true-if (leb m.objects d) _ (λ h. rw (s.lacked-objects d l (leb-true m.objects d h))));
      passed-owner-first = one_each 16 _ (λ c l. first_passes _ _ (s.tidy c l));
      passed-tickets-differ =
          one_each 16 _
          (λ c l. one_each c _
          (λ e h. true-if ((k c).active && (k e).active) _
          (λ b. let p = both (k c).active (k e).active b in
          ap not (ne_eqb (k c).ticket (k e).ticket (s.turns.differ c e l (omega arith) (λ q. omega arith) p.0 p.1)))));
      passed-tickets-given =
          one_each 16 _ (λ c l. true-if (k c).active _ (λ a. lt-ltb (k c).ticket m.tickets (s.turns.given c l a)));
      passed-tickets-counted = eq-eqb m.tickets _ s.turns.counted;
      passed-versions-bounded = one_each 64 _ (λ d l. le-leb (get_or m.versions d 0) m.commits (s.versions-bounded d l));
      passed-aborts-bounded = one_each 16 _ (λ c l. true-if (k c).active _ (λ a. lt-ltb _ m.cores (s.turns.bounded c l a)));
    })
  where
    k : ℕ → Core
    k c = core_at m c
