-- Soundness is fifteen tests, and all of them pass.
use Rattle.std.proofs.Common.{◌≡◌, ℕ, ◌<◌, ◌≤◌, true, ◌&&◌, ltb, leb, ltb-true, leb-true}
use Rattle.one_core.proofs.TestLaws.{both}
use Rattle.machine.specs.declared.Machine.{Machine}
use Rattle.machine.specs.Record.{sizes_in_range}
use Rattle.machine.specs.Sound.{in_range, sets_within, owner_listed, idle_clear, zombie_empty, few_jobs, unused_jobs, lacked_cores, lacked_objects, owner_first, tickets_differ, tickets_given, tickets_counted, versions_bounded, aborts_bounded, sound}

-- cores and cards that are in range
pub in-range : (cores objects : ℕ) → sizes_in_range cores objects ≡ true → (0 < cores) × (cores ≤ 16) × (0 < objects) × (objects ≤ 64)
in-range cores objects e =
    let three = both (ltb 0 cores && leb cores 16 && ltb 0 objects) (leb objects 64) e in
    let two = both (ltb 0 cores && leb cores 16) (ltb 0 objects) three.0 in
    let one = both (ltb 0 cores) (leb cores 16) two.0 in
    (ltb-true 0 cores one.0, leb-true cores 16 one.1, ltb-true 0 objects two.1, leb-true objects 64 three.1)

pub record Passed (m : Machine) : Type 0 where
  pub passed-in-range : in_range m ≡ true
  pub passed-sets-within : sets_within m ≡ true
  pub passed-owner-listed : owner_listed m ≡ true
  pub passed-idle-clear : idle_clear m ≡ true
  pub passed-zombie-empty : zombie_empty m ≡ true
  pub passed-few-listed : few_jobs m ≡ true
  pub passed-unused-jobs : unused_jobs m ≡ true
  pub passed-lacked-cores : lacked_cores m ≡ true
  pub passed-lacked-objects : lacked_objects m ≡ true
  pub passed-owner-first : owner_first m ≡ true
  pub passed-tickets-differ : tickets_differ m ≡ true
  pub passed-tickets-given : tickets_given m ≡ true
  pub passed-tickets-counted : tickets_counted m ≡ true
  pub passed-versions-bounded : versions_bounded m ≡ true
  pub passed-aborts-bounded : aborts_bounded m ≡ true

pub passed : (m : Machine) → sound m ≡ true → Passed m
unfolding sound
passed m s =
    let p14 = both _ (aborts_bounded m) s in
    let p13 = both _ (versions_bounded m) p14.0 in
    let p12 = both _ (tickets_counted m) p13.0 in
    let p11 = both _ (tickets_given m) p12.0 in
    let p10 = both _ (tickets_differ m) p11.0 in
    let p9 = both _ (owner_first m) p10.0 in
    let p8 = both _ (lacked_objects m) p9.0 in
    let p7 = both _ (lacked_cores m) p8.0 in
    let p6 = both _ (unused_jobs m) p7.0 in
    let p5 = both _ (few_jobs m) p6.0 in
    let p4 = both _ (zombie_empty m) p5.0 in
    let p3 = both _ (idle_clear m) p4.0 in
    let p2 = both _ (owner_listed m) p3.0 in
    let p1 = both (in_range m) (sets_within m) p2.0 in
    record {
      passed-in-range = p1.0;
      passed-sets-within = p1.1;
      passed-owner-listed = p2.1;
      passed-idle-clear = p3.1;
      passed-zombie-empty = p4.1;
      passed-few-listed = p5.1;
      passed-unused-jobs = p6.1;
      passed-lacked-cores = p7.1;
      passed-lacked-objects = p8.1;
      passed-owner-first = p9.1;
      passed-tickets-differ = p10.1;
      passed-tickets-given = p11.1;
      passed-tickets-counted = p12.1;
      passed-versions-bounded = p13.1;
      passed-aborts-bounded = p14.1;
    }

pub passed-all : (m : Machine) → Passed m → sound m ≡ true
unfolding sound
passed-all m p =
    rw (
      p.passed-in-range,
      p.passed-sets-within,
      p.passed-owner-listed,
      p.passed-idle-clear,
      p.passed-zombie-empty,
      p.passed-few-listed,
      p.passed-unused-jobs,
      p.passed-lacked-cores,
      p.passed-lacked-objects,
      p.passed-owner-first,
      p.passed-tickets-differ,
      p.passed-tickets-given,
      p.passed-tickets-counted,
      p.passed-versions-bounded,
      p.passed-aborts-bounded,
    )
