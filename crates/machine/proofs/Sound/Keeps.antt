-- Every call on a good world leaves a good world: a sound record of the right shape, and tables of the right lengths. The world
-- of an accepted setup is good.
use Rattle.std.proofs.Common.{◌≡◌, ℕ, ◌-◌, ◌*◌, ◌<◌, ◌≤◌, true, false, List, length, get_or, replicate, sym, refl, ◌∙◌, subst, true≢false, arith, length-set}
use lib.ListN.{length-replicate, get_or-replicate}
use Rattle.objset.specs.Objset.{added}
use Rattle.objset.proofs.Laws.{added-fits}
use Rattle.machine.specs.declared.Machine.{Machine}
use Rattle.one_core.specs.declared.Core.{Core}
use Rattle.one_core.specs.declared.Job.{Job}
use Rattle.one_core.specs.declared.Answer.{Answer}
use Rattle.one_core.specs.declared.Answer.TheVariants.{Ready}
use Rattle.one_core.specs.Parts.{no_job, no_core, idle, blank_core, running}
use Rattle.machine.specs.Record.{core_at, put_core, machine_of}
use Rattle.machine.specs.Rule.{World, slot, released, begun, set_back_told, valued, written, through, ended, finished, setup, Call}
use Rattle.one_core.specs.Life.{with_job, unmarked, with_sets, without}
use Rattle.machine.proofs.Case.{Case, is-refused, is-released, is-begun, is-told, is-valued, is-written, is-waiting, is-through, is-ended, is-finished, setup-case}
use Rattle.machine.proofs.Tally.{tally-within}
use Rattle.one_core.specs.Formed.{Formed-core}
use Rattle.machine.specs.Inside.{WellFormedWorld}
use Rattle.machine.proofs.Sound.Passed.{in-range}
use Rattle.one_core.proofs.Tidy.{Tidy}
use Rattle.machine.proofs.Sound.Standing.{standing, is_sound}
use Rattle.one_core.proofs.Jobs.{running-least, least-listed}
use Rattle.one_core.proofs.Kept.{idle-list, idle-tidy, idle-formed, released-tidy, released-formed, told-tidy, told-formed, sets-tidy, sets-formed, finished-tidy, finished-formed, added-within}
use Rattle.machine.proofs.Entries.{changed-long}
use Rattle.machine.proofs.Sound.OneCore.{Whole, inside, put_whole, begun-whole, ended-whole}
use Rattle.machine.proofs.Sound.Commit.{through-whole}

pub whole : {w : World} → WellFormedWorld w → Whole w.machine
whole g = record { formed = g.formed; rules = standing g.world_sound.is_sound }

good : {w : World} → Whole w.machine → length w.committed ≡ w.machine.objects
    → length w.pending ≡ w.machine.cores * w.machine.objects → WellFormedWorld w
good g c p =
    record { world_sound = record { is_sound = is_sound g.rules; committed_long = c; pending_long = p }; formed = g.formed }

-- ---- the new record of each call that changes core c

module _ (w : World) (c : ℕ) (g : Whole w.machine) (here : c < w.machine.cores) where
  abbrev m : Machine
  m = w.machine

  abbrev k : Core
  k = core_at m c

  tidy : Tidy m.objects k
  tidy = g.rules.tidy c (inside m c here g)

  formed : Formed-core k
  formed = g.formed.formed_core c (inside m c here g)

  released-whole : (j : Job) → k.count < 8 → Whole (released m c j).machine
  unfolding released
  released-whole j room =
      put_whole m c here g (with_job k j) (released-formed m.objects k tidy formed j)
      (released-tidy m.objects k tidy formed j room) refl refl refl

  told-whole : k.active ≡ true → Whole (set_back_told w c).world.machine
  unfolding set_back_told
  told-whole on =
      put_whole m c here g (unmarked k) (told-formed m.objects k tidy formed) (told-tidy m.objects k tidy formed on) refl refl refl

  valued-whole : (d : ℕ) → d < m.objects → k.active ≡ true → k.zombie ≡ false → Whole (valued w c d).world.machine
  unfolding valued
  valued-whole d card on free =
      put_whole m c here g (with_sets k (added k.reads d) k.writes)
      (sets-formed m.objects k tidy formed (added k.reads d) k.writes (added-fits k.reads d) formed.writes_fit)
      (sets-tidy m.objects k tidy formed (added k.reads d) k.writes on free
      (added-within m.objects k.reads d formed.reads_fit g.rules.few-objects card tidy.reads-within) tidy.writes-within)
      refl refl refl

  written-whole : (d v : ℕ) → d < m.objects → k.active ≡ true → k.zombie ≡ false → Whole (written w c d v).world.machine
  unfolding written
  written-whole d v card on free =
      put_whole m c here g (with_sets k k.reads (added k.writes d))
      (sets-formed m.objects k tidy formed k.reads (added k.writes d) formed.reads_fit (added-fits k.writes d))
      (sets-tidy m.objects k tidy formed k.reads (added k.writes d) on free tidy.reads-within
      (added-within m.objects k.writes d formed.writes_fit g.rules.few-objects card tidy.writes-within))
      refl refl refl

  finished-whole : (k.count ≡ 0 → ⊥) → k.active ≡ false → Whole (finished m c).machine
  unfolding finished
  finished-whole some off =
      let clear = tidy.idle-clear off in
      subst (λ (x : Core). Whole (put_core m c x)) (sym (idle-list k (without k.jobs (running k)) (k.count - 1) formed off clear))
      (put_whole m c here g (idle (without k.jobs (running k)) (k.count - 1))
      (finished-formed m.objects k tidy formed (running k) listed)
      (finished-tidy m.objects k tidy formed (running k) listed) (sym off) (sym clear.no-ticket) (sym clear.no-aborts))
    where
      listed : running k < k.count
      listed = rw (running-least k off) (least-listed k.jobs k.count (omega (arith, some)))

pub keeps-good : {w w' : World} {call : Call} {a : Answer} → Case w call a w' → WellFormedWorld w → WellFormedWorld w'
keeps-good {w} is-refused g = g
keeps-good {w} (is-released {c} {number} {deadline} ok room) g =
    unfold released in
    good (released-whole w c (whole g) ok.is-core (record { number = number; deadline = deadline }) room) g.world_sound.committed_long
    g.world_sound.pending_long
keeps-good {w} (is-begun {c} ok some off spare) g =
    unfold begun in good (begun-whole w.machine c ok.is-core (whole g) some off spare) g.world_sound.committed_long g.world_sound.pending_long
keeps-good {w} (is-told {call} {c} asks ok mark) g =
    unfold set_back_told in good (told-whole w c (whole g) ok.core-ok.is-core ok.active) g.world_sound.committed_long g.world_sound.pending_long
keeps-good {w} (is-valued {c} {d} ok card free) g =
    unfold valued in good (valued-whole w c (whole g) ok.core-ok.is-core d card ok.active free) g.world_sound.committed_long g.world_sound.pending_long
keeps-good {w} (is-written {c} {d} {v} ok card free) g =
    unfold written in
    good (written-whole w c (whole g) ok.core-ok.is-core d v card ok.active free) g.world_sound.committed_long
    (length-set w.pending (slot w.machine c d) v ∙ g.world_sound.pending_long)
keeps-good {w} (is-waiting ok free wrote rival) g = g
keeps-good {w} (is-through {c} ok free clear) g =
    unfold through in
    good (through-whole w.machine c ok.core-ok.is-core (whole g) clear ok.active w.committed w.pending)
    (changed-long (core_at w.machine c).writes _ 0 w.committed ∙ g.world_sound.committed_long) g.world_sound.pending_long
keeps-good {w} (is-ended {c} ok on) g =
    unfold ended in good (ended-whole w.machine c ok.is-core (whole g) on) g.world_sound.committed_long g.world_sound.pending_long
keeps-good {w} (is-finished {c} ok some off) g =
    unfold finished in good (finished-whole w c (whole g) ok.is-core some off) g.world_sound.committed_long g.world_sound.pending_long

-- ---- setup

module _ (cores objects : ℕ) where
  -- every core of the new machine is blank
  new-each : (P : Core → Type 0) → P blank_core → (c : ℕ) → c < 16 → P (core_at (machine_of cores objects) c)
  new-each P blank c l = subst P (sym (get_or-replicate 16 c blank_core no_core l)) blank

  new-version : (d : ℕ) → d < 64 → get_or (machine_of cores objects).versions d 0 ≡ 0
  new-version d l = get_or-replicate 64 d 0 0 l

  idle-new : (c : ℕ) → c < 16 → (core_at (machine_of cores objects) c).active ≡ false
  idle-new = new-each (λ x. x.active ≡ false) refl

  new-whole : 0 < cores → cores ≤ 16 → 0 < objects → objects ≤ 64 → Whole (machine_of cores objects)
  new-whole sc fc so fo =
      record {
        formed = record {
          core_long = length-replicate 16 blank_core;
          versions_long = length-replicate {A = ℕ} 64 0;
          tickets_fit = omega arith;
          formed_core = new-each Formed-core (idle-formed (replicate 8 no_job) 0 (length-replicate 8 no_job));
        };
        rules = record {
          some-cores = sc;
          few-cores = fc;
          some-objects = so;
          few-objects = fo;
          tidy = new-each (Tidy objects) (idle-tidy objects (replicate 8 no_job) 0 (omega arith) (λ p l u. get_or-replicate 8 p no_job no_job l));
          lacked-jobs = λ c l h. new-each (λ x. x.count ≡ 0) refl c l;
          lacked-objects = λ d l h. new-version d l;
          turns = record {
            lacked = λ c l h. idle-new c l;
            differ = λ c e lc le d a b p. true≢false (sym a ∙ idle-new c lc);
            given = λ c l a. absurd (true≢false (sym a ∙ idle-new c l));
            counted = omega (arith, tally-within 16 0 (λ c. (core_at (machine_of cores objects) c).active) (λ c l h. idle-new c l));
            bounded = λ c l a. absurd (true≢false (sym a ∙ idle-new c l));
          };
          versions-bounded = λ d l. omega (arith, new-version d l);
        };
      }

pub setup-good : (cores objects : ℕ) (committed pending : List ℕ) → (setup cores objects committed pending).answer ≡ Ready
    → WellFormedWorld (setup cores objects committed pending).world
setup-good cores objects committed pending ready =
    let new = setup-case cores objects committed pending ready in
    let r = in-range cores objects new.0 in
    subst WellFormedWorld (sym new.1)
    (good (new-whole cores objects r.0 r.1 r.2 r.3) (length-replicate {A = ℕ} objects 0) (length-replicate {A = ℕ} (cores * objects) 0))
