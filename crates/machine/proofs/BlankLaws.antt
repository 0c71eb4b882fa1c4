-- The blank record: `is_blank` is the tests of cards and cores where nothing is uncounted; it holds of the blank record and of no other.
use Rattle.std.proofs.Common.{◌≡◌, ℕ, ◌+◌, ◌<◌, ◌≤◌, Bool, true, false, ◌&&◌, eqb, leb, get_or, replicate, sym, refl, ap, ◌∙◌, ap₂, arith, ext_get_or, eq-eqb, eqb-true, le-leb}
use lib.ListN.{length-replicate, get_or-replicate}
use Rattle.objset.specs.Objset.{each}
use Rattle.objset.proofs.Laws.{each-one, one_each, empty-none, none-empty}
use Rattle.one_core.specs.declared.Core.{Core}
use Rattle.one_core.specs.Parts.{no_job, no_core, blank_core}
use Rattle.one_core.specs.Formed.{Formed-core}
use Rattle.one_core.specs.Tidy.{blank_on}
use Rattle.one_core.proofs.Tidy.{blank-core}
use Rattle.one_core.proofs.TestLaws.{both, if-true, same_test}
use Rattle.machine.specs.declared.Machine.{Machine}
use Rattle.machine.specs.Record.{core_at, active_at, tally, blank}
use Rattle.machine.specs.Inside.{Formed}
use Rattle.machine.specs.Sound.{is_blank, version_at, lacked_object_at, cards_sound, cores_tidy, turns_kept, tickets_counted, cores_sound}
use Rattle.machine.proofs.Tally.{tally-within}
use Rattle.machine.proofs.SoundLaws.{card_at, tidy_at, kept_at, versions-bounded, cores-tidy, tidy-lacked, turn-off, kept-all}

-- every version is 0
abbrev no_versions : Machine → Bool
no_versions m = each 64 (λ d. eqb (get_or m.versions d 0) 0)

-- every core is blank
abbrev blank_cores : Machine → Bool
blank_cores m = each 16 (λ c. blank_on (core_at m c))

-- no cores and cards, and nothing was uncounted
abbrev pub uncounted : Machine → Bool
uncounted m = eqb m.cores 0 && eqb m.objects 0 && eqb m.tickets 0 && eqb m.commits 0 && eqb m.give_ups 0

module _ (m : Machine) where
  -- ---- the tests of cards and cores

  no-versions : m.objects ≡ 0 → m.commits ≡ 0 → cards_sound m ≡ no_versions m
  no-versions lacks none = same_test _ _ to from
    where
      lacked : (d : ℕ) → leb m.objects d ≡ true
      lacked d = le-leb m.objects d (omega (arith, lacks))

      to : cards_sound m ≡ true → no_versions m ≡ true
      to e = one_each 64 _ (λ d l. if-true (leb m.objects d) (eqb (get_or m.versions d 0) 0) (both (version_at m d) (lacked_object_at m d) (each-one 64 (card_at m) (versions-bounded m ∙ e) d l)).1 (lacked d))

      from : no_versions m ≡ true → cards_sound m ≡ true
      from e =
          sym (versions-bounded m)
          ∙ one_each 64 (card_at m)
          (λ d l.
          let zero = eqb-true (get_or m.versions d 0) 0 (each-one 64 _ e d l) in
          rw (le-leb (get_or m.versions d 0) m.commits (omega (arith, zero)), lacked d, eq-eqb (get_or m.versions d 0) 0 zero) refl)

  no-cores : m.cores ≡ 0 → m.tickets ≡ 0 → m.commits ≡ 0 → m.give_ups ≡ 0 → cores_sound m ≡ blank_cores m
  no-cores lacks given committed ended = same_test _ _ to from
    where
      at : (c : ℕ) → tidy_at m c ≡ blank_on (core_at m c)
      at c = tidy-lacked m c (omega (arith, lacks))

      to : cores_sound m ≡ true → blank_cores m ≡ true
      to e =
          let all = (both (cores_tidy m) (turns_kept m) (both (cores_tidy m && turns_kept m) (tickets_counted m) e).0).0 in
          one_each 16 _ (λ c l. sym (at c) ∙ each-one 16 (tidy_at m) (cores-tidy m ∙ all) c l)

      from : blank_cores m ≡ true → cores_sound m ≡ true
      from e =
          let off : (c : ℕ) → c < 16 → active_at m c ≡ false = λ c l. (blank-core (core_at m c) (each-one 16 _ e c l)).no-transaction in
          let kept : each 16 (kept_at m) ≡ true =
          one_each 16 (kept_at m) (λ c l. rw (at c ∙ each-one 16 _ e c l, turn-off m c (off c l)) refl) in
          let nobody : tally 16 (active_at m) ≤ 0 = tally-within 16 0 (active_at m) (λ c l h. off c l) in
          sym (kept-all m (tally 16 (active_at m)) 16 (omega arith) (omega arith) refl kept)
          ∙ eq-eqb m.tickets (m.commits + m.give_ups + tally 16 (active_at m)) (omega (arith, nobody, given, committed, ended))

  -- ---- the fields

  pub record Zero : Type 0 where
    pub zero-cores : m.cores ≡ 0
    pub zero-objects : m.objects ≡ 0
    pub zero-tickets : m.tickets ≡ 0
    pub zero-commits : m.commits ≡ 0
    pub zero-give-ups : m.give_ups ≡ 0

  zero-fields : uncounted m ≡ true → Zero
  zero-fields e =
      let g = both _ (eqb m.give_ups 0) e in
      let d = both _ (eqb m.commits 0) g.0 in
      let t = both _ (eqb m.tickets 0) d.0 in
      let o = both (eqb m.cores 0) (eqb m.objects 0) t.0 in
      record {
        zero-cores = eqb-true m.cores 0 o.0;
        zero-objects = eqb-true m.objects 0 o.1;
        zero-tickets = eqb-true m.tickets 0 t.1;
        zero-commits = eqb-true m.commits 0 d.1;
        zero-give-ups = eqb-true m.give_ups 0 g.1;
      }

  -- where these are 0, what is left is the tests of cards and cores
  pub blank-by-tests : (uncounted m && cards_sound m && cores_sound m) ≡ is_blank m
  unfolding is_blank
  blank-by-tests = go (uncounted m) refl
    where
      go : (b : Bool) → uncounted m ≡ b → (b && cards_sound m && cores_sound m) ≡ (b && no_versions m && blank_cores m)
      go false e = refl
      go true e =
          let z = zero-fields e in
          ap₂ ◌&&◌ (no-versions z.zero-objects z.zero-commits) (no-cores z.zero-cores z.zero-tickets z.zero-commits z.zero-give-ups)

-- ---- the blank record and no other

blank-core-is : (k : Core) → Formed-core k → blank_on k ≡ true → k ≡ blank_core
blank-core-is k f e =
    let b = blank-core k e in
    let jobs : k.jobs ≡ replicate 8 no_job =
    ext_get_or no_job k.jobs (replicate 8 no_job) (f.jobs_long ∙ sym (length-replicate 8 no_job))
    (λ p l. b.no-jobs p (omega (arith, f.jobs_long)) ∙ sym (get_or-replicate 8 p no_job no_job (omega (arith, f.jobs_long)))) in
    λ i. record {
      jobs = jobs i;
      count = b.no-count i;
      active = b.no-transaction i;
      owner = b.cleared.no-owner i;
      ticket = b.cleared.no-ticket i;
      aborts = b.cleared.no-aborts i;
      zombie = b.cleared.no-mark i;
      reads = empty-none k.reads f.reads_fit b.cleared.no_reads i;
      writes = empty-none k.writes f.writes_fit b.cleared.no_writes i;
    }

pub blank-only : (m : Machine) → Formed m → is_blank m ≡ true → m ≡ blank
unfolding is_blank
blank-only m f e =
    let c = both (uncounted m && no_versions m) (blank_cores m) e in
    let f0 = both (uncounted m) (no_versions m) c.0 in
    let z = zero-fields m f0.0 in
    let v = f0.1 in
    let cores : m.core ≡ replicate 16 blank_core =
    ext_get_or no_core m.core (replicate 16 blank_core) (f.core_long ∙ sym (length-replicate 16 blank_core))
    (λ i l.
    let h : i < 16 = omega (arith, f.core_long) in
    blank-core-is (core_at m i) (f.formed_core i h) (each-one 16 _ c.1 i h) ∙ sym (get_or-replicate 16 i blank_core no_core h)) in
    let none : ℕ = 0 in
    let versions : m.versions ≡ replicate 64 none =
    ext_get_or none m.versions (replicate 64 none) (f.versions_long ∙ sym (length-replicate 64 none))
    (λ i l.
    let h : i < 64 = omega (arith, f.versions_long) in
    eqb-true (get_or m.versions i 0) 0 (each-one 64 _ v i h) ∙ sym (get_or-replicate 64 i none none h)) in
    λ i. record {
      cores = z.zero-cores i;
      objects = z.zero-objects i;
      tickets = z.zero-tickets i;
      commits = z.zero-commits i;
      give_ups = z.zero-give-ups i;
      core = cores i;
      versions = versions i;
    }

blank-on : blank_on blank_core ≡ true
unfolding each
blank-on = rw none-empty refl

pub blank-passes : is_blank blank ≡ true
unfolding is_blank
blank-passes =
    let versions : no_versions blank ≡ true = one_each 64 _ (λ d l. let none : ℕ = 0 in ap (λ (v : ℕ). eqb v 0) (get_or-replicate 64 d none none l)) in
    let cores : blank_cores blank ≡ true = one_each 16 _ (λ c l. rw (get_or-replicate 16 c blank_core no_core l) blank-on) in
    rw (versions, cores) refl
