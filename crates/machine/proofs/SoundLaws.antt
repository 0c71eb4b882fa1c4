-- The laws behind the soundness test: the rules that one core keeps, and the rules gathered core by core.
use Rattle.std.proofs.Common.{◌≡◌, ℕ, ◌+◌, ◌<◌, ◌≤◌, Bool, true, false, not, ◌&&◌, eqb, ltb, List, length, get_or, take, sym, refl, ap, ◌∙◌, ap₂, add-one, arith, le-leb, length-take-le}
use Rattle.std.specs.List.{list_all}
use Rattle.std.proofs.lemmas.List.{get_or-take}
use Rattle.std.proofs.lemmas.List.Elements.{All-get_or, All-from_get_or}
use Rattle.std.proofs.lemmas.List.Sums.{AllPass-from_list_all, list_all-from_AllPass}
use Rattle.std.proofs.Math.Bool.{and_comm}
use borrow.Author.Tests.{lt-leb}
use Rattle.objset.specs.Objset.{each}
use Rattle.objset.proofs.Laws.{one_each, each-one}
use Rattle.one_core.specs.declared.Core.{Core}
use Rattle.one_core.specs.Parts.{no_core}
use Rattle.machine.specs.declared.Machine.{Machine}
use Rattle.machine.specs.Record.{core_at, active_at, tally}
use Rattle.one_core.specs.Tidy.{◌⇒◌, tidy, blank_on}
use Rattle.machine.specs.Sound.{in_range, sets_within, owner_listed, idle_clear, zombie_empty, few_jobs, unused_jobs, owner_first}
use Rattle.machine.specs.Sound.{lacked_at, lacked_cores, version_at, versions_bounded, lacked_object_at, lacked_objects}
use Rattle.machine.specs.Sound.{smaller_at, differ_at, tickets_differ, given_at, tickets_given, smaller_tickets, aborts_at, aborts_bounded}
use Rattle.machine.specs.Sound.{tickets_counted, sound, cards_sound, cores_tidy, turns_kept, cores_sound, turn_kept}
use Rattle.one_core.proofs.Tidy.{blank-tidy}
use Rattle.one_core.proofs.TestLaws.{and-true, same_test, both, each-fails, each_all, each_both, gather}
use Rattle.machine.proofs.Sound.Passed.{passed, passed-all}

-- ---- all cores

-- what cores_kept tests of core c by itself
abbrev pub tidy_at : Machine → ℕ → Bool
tidy_at m c = tidy m.objects (core_at m c) && lacked_at m c

pub cores-tidy : (m : Machine) → each 16 (tidy_at m) ≡ cores_tidy m
unfolding sets_within owner_listed idle_clear zombie_empty few_jobs unused_jobs owner_first lacked_cores
cores-tidy m =
    gather 16 _ _ _
    (gather 16 _ _ _ (gather 16 _ _ _ (gather 16 _ _ _ (gather 16 _ _ _ (gather 16 _ _ _ (gather 16 _ _ _ refl))))))

-- by whether the machine has core c
pub tidy-had : (m : Machine) (c : ℕ) → c < m.cores → tidy_at m c ≡ tidy m.objects (core_at m c)
tidy-had m c l = rw (lt-leb m.cores c l) (and-true (tidy m.objects (core_at m c)))

pub tidy-lacked : (m : Machine) (c : ℕ) → m.cores ≤ c → tidy_at m c ≡ blank_on (core_at m c)
tidy-lacked m c l = rw (le-leb m.cores c l) (sym (blank-tidy m.objects (core_at m c)))

-- ---- versions

-- one number more, tested after those below it
pub each_next : (n : ℕ) (f : ℕ → Bool) → (each n f && f n) ≡ each (n + 1) f
unfolding each
each_next n f = and_comm (each n f) (f n) ∙ sym (ap (λ (x : ℕ). each x f) (add-one n))

-- what versions_bounded tests of object d
abbrev pub card_at : Machine → ℕ → Bool
card_at m d = version_at m d && lacked_object_at m d

pub versions-bounded : (m : Machine) → each 64 (card_at m) ≡ cards_sound m
unfolding lacked_objects versions_bounded
versions-bounded m = gather 64 _ _ _ refl

-- ---- transactions in progress

-- what cores_kept tests of the transaction on core c
abbrev pub turn_at : Machine → ℕ → Bool
turn_at m c = each c (differ_at m c) && given_at m c && aborts_at m c

-- the same, b saying whether core c has a transaction
abbrev turn_if : Machine → ℕ → Bool → Bool
turn_if m c b =
    each c (λ e. b && active_at m e ⇒ not (eqb (core_at m c).ticket (core_at m e).ticket)) && (b ⇒ ltb (core_at m c).ticket m.tickets)
    && (b ⇒ ltb ((core_at m c).aborts + smaller_tickets m (core_at m c).ticket) m.cores)

pub turn_on : (m : Machine) (c : ℕ) → active_at m c ≡ true → turn_at m c ≡ turn_kept m c (core_at m c).ticket (core_at m c).aborts
turn_on m c on = ap (turn_if m c) on

pub turn-off : (m : Machine) (c : ℕ) → active_at m c ≡ false → turn_at m c ≡ true
turn-off m c off = ap (turn_if m c) off ∙ ap (λ (b : Bool). b && true && true) (one_each c (λ e. true) (λ e l. refl))

pub turns-kept : (m : Machine) → each 16 (turn_at m) ≡ turns_kept m
unfolding tickets_differ tickets_given aborts_bounded
turns-kept m = gather 16 _ _ _ (gather 16 _ _ _ refl)

-- what cores_kept tests of core c
abbrev pub kept_at : Machine → ℕ → Bool
kept_at m c = tidy_at m c && turn_at m c

cores-kept : (m : Machine) → each 16 (kept_at m) ≡ (cores_tidy m && turns_kept m)
cores-kept m = each_both 16 (tidy_at m) (turn_at m) ∙ ap₂ ◌&&◌ (cores-tidy m) (turns-kept m)

-- a core that breaks them
pub kept-fails : (m : Machine) (c : ℕ) → c < 16 → {a b : Bool} → tidy_at m c ≡ a → turn_at m c ≡ b → (a && b) ≡ false → false ≡ cores_sound m
kept-fails m c l p q e =
    ap (λ (x : Bool). x && tickets_counted m) (each-fails 16 (kept_at m) c l (ap₂ ◌&&◌ p q ∙ e) ∙ cores-kept m)

-- where all keep them, what is left is the count
pub kept-all : (m : Machine) (n c : ℕ) → 16 ≤ c → c ≤ 16 → n ≡ tally c (active_at m) → each c (kept_at m) ≡ true
    → eqb m.tickets (m.commits + m.give_ups + n) ≡ cores_sound m
unfolding tickets_counted
kept-all m n c p q e a =
    let s : c ≡ 16 = omega arith in
    ap₂ (λ (b : Bool) (x : ℕ). b && eqb m.tickets (m.commits + m.give_ups + x))
    (each_all 16 c (kept_at m) p q a ∙ cores-kept m) (e ∙ ap (λ (x : ℕ). tally x (active_at m)) s)

-- a test of the cores before c
pub before-each : (f : Core → Bool) (cores : List Core) (c : ℕ) → c ≤ length cores → list_all f (take c cores) ≡ each c (λ e. f (get_or cores e no_core))
before-each f cores c l = same_test _ _ to from
  where
    long : length (take c cores) ≡ c
    long = length-take-le c cores l

    to : list_all f (take c cores) ≡ true → each c (λ e. f (get_or cores e no_core)) ≡ true
    to h =
        one_each c _
        (λ e b.
        ap f (sym (get_or-take c cores e no_core b))
        ∙ All-get_or (λ k. f k ≡ true) (take c cores) e no_core (omega (arith, long)) (AllPass-from_list_all f (take c cores) h))

    from : each c (λ e. f (get_or cores e no_core)) ≡ true → list_all f (take c cores) ≡ true
    from h =
        list_all-from_AllPass f (take c cores)
        (All-from_get_or (λ k. f k ≡ true) (take c cores) no_core
        (λ e b. let here : e < c = omega (arith, long) in ap f (get_or-take c cores e no_core here) ∙ each-one c _ h e here))

pub ahead-all : (m : Machine) (t n b c : ℕ) → 16 ≤ c → c ≤ 16 → n ≡ b + tally c (smaller_at m t) → n ≡ b + smaller_tickets m t
unfolding smaller_tickets
ahead-all m t n b c p q e = let s : c ≡ 16 = omega arith in e ∙ ap (λ (x : ℕ). b + tally x (smaller_at m t)) s

-- ---- the record

-- the three groups of rules are all of them
pub sound-parts : (m : Machine) → (in_range m && cards_sound m && cores_sound m) ≡ sound m
sound-parts m = same_test _ (sound m) to from
  where
    to : (in_range m && cards_sound m && cores_sound m) ≡ true → sound m ≡ true
    to e =
        let k = both _ (cores_sound m) e in
        let v = both (in_range m) (cards_sound m) k.0 in
        let t1 = both (cores_tidy m && turns_kept m) (tickets_counted m) k.1 in
        let c = both (cores_tidy m) (turns_kept m) t1.0 in
        let t2 = both _ (aborts_bounded m) c.1 in
        let t3 = both (tickets_differ m) (tickets_given m) t2.0 in
        let v1 = both (versions_bounded m) (lacked_objects m) v.1 in
        let c7 = both _ (lacked_cores m) c.0 in
        let c6 = both _ (owner_first m) c7.0 in
        let c5 = both _ (unused_jobs m) c6.0 in
        let c4 = both _ (few_jobs m) c5.0 in
        let c3 = both _ (zombie_empty m) c4.0 in
        let c2 = both _ (idle_clear m) c3.0 in
        let c1 = both (sets_within m) (owner_listed m) c2.0 in
        passed-all m
        (record {
          passed-in-range = v.0;
          passed-sets-within = c1.0;
          passed-owner-listed = c1.1;
          passed-idle-clear = c2.1;
          passed-zombie-empty = c3.1;
          passed-few-listed = c4.1;
          passed-unused-jobs = c5.1;
          passed-lacked-cores = c7.1;
          passed-lacked-objects = v1.1;
          passed-owner-first = c6.1;
          passed-tickets-differ = t3.0;
          passed-tickets-given = t3.1;
          passed-tickets-counted = t1.1;
          passed-versions-bounded = v1.0;
          passed-aborts-bounded = t2.1;
        })

    from : sound m ≡ true → (in_range m && cards_sound m && cores_sound m) ≡ true
    from s =
        let p = passed m s in
        rw (
          p.passed-in-range,
          p.passed-sets-within,
          p.passed-owner-listed,
          p.passed-idle-clear,
          p.passed-zombie-empty,
          p.passed-few-listed,
          p.passed-unused-jobs,
          p.passed-owner-first,
          p.passed-lacked-cores,
          p.passed-versions-bounded,
          p.passed-lacked-objects,
          p.passed-tickets-differ,
          p.passed-tickets-given,
          p.passed-aborts-bounded,
          p.passed-tickets-counted,
        )
