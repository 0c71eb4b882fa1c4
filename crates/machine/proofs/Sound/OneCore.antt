-- The calls that change one core keep the standing rules and the shape of a record.
use Rattle.std.proofs.Common.{◌≡◌, ℕ, ◌+◌, ◌<◌, ◌≤◌, true, false, length, get_or, set, refl, ◌∙◌, add_assoc, arith, length-set, get_or-set_other, get_or-set_same}
use Rattle.machine.specs.declared.Machine.{Machine}
use Rattle.one_core.specs.declared.Core.{Core}
use Rattle.one_core.specs.Parts.{no_core}
use Rattle.machine.specs.Record.{core_at, put_core}
use Rattle.machine.specs.Rule.{begun, ended}
use Rattle.one_core.specs.Life.{over, with_transaction}
use Rattle.machine.proofs.Sound.Turns.{Turns, turns_same, turns-joined, turns-left}
use Rattle.one_core.specs.Formed.{Formed-core}
use Rattle.machine.specs.Inside.{Formed}
use Rattle.one_core.proofs.Tidy.{Tidy}
use Rattle.machine.proofs.Sound.Standing.{Standing}
use Rattle.one_core.proofs.Kept.{idle-formed, begun-tidy, begun-formed, over-tidy}
use Rattle.machine.proofs.Entries.{put-each}

-- a record of the right shape that keeps the standing rules
pub record Whole (m : Machine) : Type 0 where
  pub formed : Formed m
  pub rules : Standing m

module _ (m : Machine) (c : ℕ) (here : c < m.cores) (w : Whole m) where
  f : Formed m
  f = w.formed

  s : Standing m
  s = w.rules

  pub inside : c < 16
  inside = omega (arith, s.few-cores)

  listed : c < length m.core
  listed = omega (arith, inside, f.core_long)

  -- the cores after core k is put in the place of core c
  abbrev placed : Core → ℕ → Core
  placed k e = get_or (set m.core c k) e no_core

  at_place : (k : Core) → placed k c ≡ k
  at_place k = get_or-set_same m.core c k no_core listed

  elsewhere : (k : Core) (e : ℕ) → (e ≡ c → ⊥) → placed k e ≡ core_at m e
  elsewhere k e d = get_or-set_other m.core c e k no_core d

  -- a machine of the same cards that has core k in the place of core c, and its counts
  abbrev counting : ℕ → ℕ → ℕ → Core → Machine
  counting tickets commits gaveUp k =
      record {
        cores = m.cores;
        objects = m.objects;
        tickets = tickets;
        commits = commits;
        give_ups = gaveUp;
        core = set m.core c k;
        versions = m.versions;
      }

  counting-whole : (tickets commits gaveUp : ℕ) (k : Core) → tickets ≤ 4294967295 → m.commits ≤ commits → Formed-core k → Tidy m.objects k
      → Turns m.cores tickets (commits + gaveUp) (λ e. (placed k e).active) (λ e. (placed k e).ticket) (λ e. (placed k e).aborts)
      → Whole (counting tickets commits gaveUp k)
  counting-whole tickets commits gaveUp k fits more formed tidy turns =
      record {
        formed = record {
          core_long = length-set m.core c k ∙ f.core_long;
          versions_long = f.versions_long;
          tickets_fit = fits;
          formed_core = put-each (λ e x. Formed-core x) m.core 16 c k listed formed f.formed_core;
        };
        rules = record {
          some-cores = s.some-cores;
          few-cores = s.few-cores;
          some-objects = s.some-objects;
          few-objects = s.few-objects;
          tidy = put-each (λ e x. Tidy m.objects x) m.core 16 c k listed tidy s.tidy;
          lacked-jobs = put-each (λ e x. m.cores ≤ e → x.count ≡ 0) m.core 16 c k listed (λ h. absurd (omega arith)) s.lacked-jobs;
          lacked-objects = s.lacked-objects;
          turns = turns;
          versions-bounded = λ d l. omega (arith, s.versions-bounded d l);
        };
      }

  -- the transaction of core k is the one that core c had
  pub put_whole : (k : Core) → Formed-core k → Tidy m.objects k → k.active ≡ (core_at m c).active → k.ticket ≡ (core_at m c).ticket
      → k.aborts ≡ (core_at m c).aborts → Whole (put_core m c k)
  put_whole k formed tidy a t b =
      counting-whole m.tickets m.commits m.give_ups k f.tickets_fit (omega arith) formed tidy
      (turns_same (put-each (λ e x. x.active ≡ (core_at m e).active) m.core 16 c k listed a (λ e l. refl))
      (put-each (λ e x. x.ticket ≡ (core_at m e).ticket) m.core 16 c k listed t (λ e l. refl))
      (put-each (λ e x. x.aborts ≡ (core_at m e).aborts) m.core 16 c k listed b (λ e l. refl)) s.turns)

  pub begun-whole : ((core_at m c).count ≡ 0 → ⊥) → (core_at m c).active ≡ false → m.tickets < 4294967295 → Whole (begun m c).machine
  unfolding begun
  begun-whole some off spare =
      let old : Core = core_at m c in
      let k : Core = with_transaction old m.tickets in
      counting-whole (m.tickets + 1) m.commits m.give_ups k (omega arith) (omega arith)
      (begun-formed m.objects old (s.tidy c inside) (f.formed_core c inside) m.tickets)
      (begun-tidy m.objects old (s.tidy c inside) (f.formed_core c inside) m.tickets some off)
      (turns-joined m.cores m.tickets (m.commits + m.give_ups) (λ e. (core_at m e).active) (λ e. (placed k e).active)
      (λ e. (core_at m e).ticket) (λ e. (placed k e).ticket) (λ e. (core_at m e).aborts) (λ e. (placed k e).aborts) c inside
      (λ e l d. rw (elsewhere k e d)) (λ e l d. rw (elsewhere k e d)) s.turns here off
      (rw (at_place k)) (rw (at_place k)) (rw (at_place k)) (λ e l d. rw (elsewhere k e d)))

  pub ended-whole : (core_at m c).active ≡ true → Whole (ended m c).machine
  unfolding ended
  ended-whole on =
      let old : Core = core_at m c in
      let k : Core = over old in
      counting-whole m.tickets m.commits (m.give_ups + 1) k f.tickets_fit (omega arith)
      (idle-formed old.jobs old.count (f.formed_core c inside).jobs_long)
      (over-tidy m.objects old (s.tidy c inside) (f.formed_core c inside))
      (rw (← add_assoc m.commits m.give_ups 1)
      (turns-left m.cores m.tickets (m.commits + m.give_ups) (λ e. (core_at m e).active) (λ e. (placed k e).active)
      (λ e. (core_at m e).ticket) (λ e. (placed k e).ticket) (λ e. (core_at m e).aborts) (λ e. (placed k e).aborts) c inside
      (λ e l d. rw (elsewhere k e d)) (λ e l d. rw (elsewhere k e d)) s.turns on (rw (at_place k))
      (λ e l d. rw (elsewhere k e d) (omega arith))))
