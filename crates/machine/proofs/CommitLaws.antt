-- The laws of commit, over plain variables: what it may ask of a sound record, and what it gives.
use Rattle.std.proofs.Common.{◌≡◌, ℕ, ◌+◌, ◌-◌, ◌*◌, ◌<◌, ◌≤◌, Bool, true, false, cond, not, ◌&&◌, List, Option, None, Some, length, get_or, take, drop, set, refl, ap, ◌∙◌, ap₂, mul-le-mul_right, suc-mul, arith, eq-eqb}
use Rattle.objset.specs.Objset.{has}
use Rattle.one_core.specs.declared.Core.{Core}
use Rattle.one_core.specs.declared.Answer.TheVariants.{Refused, Committed}
use Rattle.one_core.specs.Parts.{no_core}
use Rattle.one_core.specs.Life.{over}
use Rattle.one_core.proofs.CallLaws.{skips, hits, none-holds}
use Rattle.machine.specs.declared.Machine.{Machine}
use Rattle.machine.specs.Record.{core_at}
use Rattle.machine.specs.Sound.{sound}
use Rattle.machine.specs.Rule.{World, Result, lent, unless_lent, wrong_tables, set_back_told, contender, blocked, must_wait, first_ahead, changed, through, waiting, commit_refusal, commit}
use Rattle.machine.specs.OneCore.{first_holding, struck_all}
use Rattle.machine.proofs.Entries.{put-each, part_at}
use Rattle.machine.proofs.Facts.{stands, core-place, one-open}
use Rattle.machine.proofs.CallLaws.{is_sound, a-core, no-core, refused-lent, accepted-lent}
use Rattle.machine.proofs.CoreLists.{strikes-cleared}

-- ---- what a sound record tells the functions that a commit calls

module _ (m : Machine) (s : sound m ≡ true) where
  -- setbacks are fewer than cores
  pub few-aborts : (e : ℕ) → e < 16 → (core_at m e).aborts < 255
  few-aborts e l = go (core_at m e).active refl
    where
      go : (q : Bool) → (core_at m e).active ≡ q → (core_at m e).aborts < 255
      go true on = omega (arith, (stands m s).turns.bounded e l on, (stands m s).few-cores)
      go false off = omega (arith, (((stands m s).tidy e l).idle-clear off).no-aborts)

  -- what a commit that goes through asks on core c: its write set lies within the cards; a version is at most the commits, which are
  -- fewer than the tickets while a transaction is in progress; and so are the setbacks of each core
  pub record Ready (c : ℕ) : Type 0 where
    pub within : (d : ℕ) → d < 64 → has (core_at m c).writes d ≡ true → d < m.objects
    pub raised : (d : ℕ) → d < m.objects → has (core_at m c).writes d ≡ true → get_or m.versions d 0 < 4294967295
    pub counted : m.commits < 4294967295
    pub strikable : (e : ℕ) → e < 16 → (get_or (set m.core c (over (core_at m c))) e no_core).aborts < 255

  pub ready : (c : ℕ) → c < m.cores → length m.core ≡ 16 → m.tickets ≤ 4294967295 → (core_at m c).active ≡ true → Ready c
  ready c h long fit on =
      let place : c < 16 = core-place m s c h in
      record {
        within = λ d l p. ((stands m s).tidy c place).writes-within d l p;
        raised = λ d l p. omega (arith, (stands m s).versions-bounded d (omega (arith, (stands m s).few-objects)), one-open m s c h on);
        counted = omega (arith, one-open m s c h on);
        strikable = put-each (λ e y. y.aborts < 255) m.core 16 c (over (core_at m c)) (omega (arith, long, place)) (omega arith) few-aborts;
      }

-- the words of the pending table for core c lie within it
pub row_within : (c cores objects : ℕ) → c < cores → c * objects + objects ≤ cores * objects
row_within c cores objects h = omega (arith, mul-le-mul_right objects h, suc-mul c objects)

-- ---- each way that commit can go

module _ (w : World) (c : ℕ) (s : sound w.machine ≡ true) (committed-fits : length w.committed ≡ w.machine.objects)
    (pending-fits : length w.pending ≡ w.machine.cores * w.machine.objects) where
  fit : wrong_tables w ≡ false
  fit = ap not (ap₂ ◌&&◌ (eq-eqb _ _ committed-fits) (eq-eqb _ _ pending-fits))

  pub commit-no-core : w.machine.cores ≤ c → record { answer = Refused 4; world = w } ≡ commit w c
  unfolding commit commit_refusal
  commit-no-core h =
      refused-lent w _ 3 _ (skips _ _ _ (is_sound w.machine s) (skips _ _ _ fit (hits _ _ _ (no-core w.machine c h))))

  module _ (h : c < w.machine.cores) where
    pub commit-none : (core_at w.machine c).active ≡ false → record { answer = Refused 9; world = w } ≡ commit w c
    unfolding commit commit_refusal
    commit-none off =
        refused-lent w _ 8 _
        (skips _ _ _ (is_sound w.machine s) (skips _ _ _ fit (skips _ _ _ (a-core w.machine c h) (hits _ _ _ (ap not off)))))

    module _ (on : (core_at w.machine c).active ≡ true) where
      taken : (done : Result) → done ≡ unless_lent (commit_refusal w c) w done
      unfolding commit_refusal
      taken done =
          accepted-lent w _ done
          (skips _ _ _ (is_sound w.machine s)
          (skips _ _ _ fit (skips _ _ _ (a-core w.machine c h) (skips _ _ _ (ap not on) none-holds))))

      pub commit-told : (core_at w.machine c).zombie ≡ true → set_back_told w c ≡ commit w c
      unfolding commit
      commit-told z = rw z (taken (set_back_told w c))

      module _ (z : (core_at w.machine c).zombie ≡ false) where
        pub commit-waits : must_wait w.machine c ≡ true → waiting w c ≡ commit w c
        unfolding commit
        commit-waits b = rw (z, b) (taken (waiting w c))

        pub commit-through : must_wait w.machine c ≡ false → through w c ≡ commit w c
        unfolding commit
        commit-through b = rw (z, b) (taken (through w c))

-- ---- who is waited for

module _ (m : Machine) (c : ℕ) where
  abbrev ahead : Option ℕ
  ahead = first_holding m.core (core_at m c)

  -- where it must wait, it is the one who is first ahead
  held : (b : Bool) → must_wait m c ≡ b → ahead ≡ cond b (Some (first_ahead m c)) None
  unfolding blocked contender
  held b t = ap (λ (x : Bool). cond x (Some (first_ahead m c)) None) t

  pub waits-for : (e : ℕ) → Some e ≡ ahead → (must_wait m c ≡ true) × (first_ahead m c ≡ e)
  waits-for e p = go (must_wait m c) refl
    where
      go : (b : Bool) → must_wait m c ≡ b → (must_wait m c ≡ true) × (first_ahead m c ≡ e)
      go true t = let named = p ∙ held true t in (t, cc)
      go false t = let named = p ∙ held false t in cc

  pub waits-for-nobody : None ≡ ahead → must_wait m c ≡ false
  waits-for-nobody p = go (must_wait m c) refl
    where
      go : (b : Bool) → must_wait m c ≡ b → must_wait m c ≡ false
      go true t = let named = p ∙ held true t in cc
      go false t = t

-- ---- what a commit that goes through leaves

-- the cores, the versions and the committed values as the rule has them; the core's own pending values are taken from its row on
pub carried-out : (w : World) (c : ℕ) → c < length w.machine.core → let m : Machine = w.machine in let k : Core = core_at m c in
    let base : ℕ = c * m.objects in
    record {
      answer = Committed k.aborts;
      world =
          lent
          (record {
            cores = m.cores;
            objects = m.objects;
            tickets = m.tickets;
            commits = m.commits + 1;
            give_ups = m.give_ups;
            core = struck_all k.writes (set m.core c (over k));
            versions = changed k.writes (λ d v. v + 1) 0 m.versions;
          })
          (changed k.writes (λ d v. get_or (take (length w.pending - base) (drop base w.pending)) d 0) 0 w.committed) w.pending;
    }
    ≡ through w c
unfolding through
carried-out w c l =
    let k : Core = core_at w.machine c in
    let m : Machine = w.machine in
    ap₂
    (λ (cores : List Core) (committed : List ℕ).
    record {
      answer = Committed (core_at w.machine c).aborts;
      world =
          lent
          (record { cores = m.cores; objects = m.objects; tickets = m.tickets; commits = m.commits + 1; give_ups = m.give_ups; core = cores; versions = changed k.writes (λ d v. v + 1) 0 m.versions })
          committed w.pending;
    })
    (strikes-cleared k.writes c m.core l)
    (λ i. changed k.writes (λ d v. part_at w.pending (c * m.objects) d i) 0 w.committed)
