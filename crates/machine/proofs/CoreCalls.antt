-- What a call leaves on the core that it concerns, stored, is what the rule gives.
use Rattle.std.proofs.Common.{◌≡◌, ℕ, zero, suc, ◌+◌, ◌*◌, ◌<◌, ◌≤◌, Bool, true, false, cond, ◌&&◌, ltb, List, [], ◌∷◌, Result, Ok, Err, get_or, set, sym, refl, ap, ◌∙◌, subst, ap₂, arith, ltb-false, ltb-true}
use mathlib.Core.Bool.{and-false}
use lib.Seq.{set-get_or}
use lib.ListN.{length-replicate}
use Rattle.one_core.specs.declared.Answer.{Answer}
use Rattle.one_core.specs.declared.Answer.TheVariants.{Refused}
use Rattle.one_core.specs.declared.calls.Act.{Act}
use Rattle.one_core.specs.declared.calls.Seen.{Seen}
use Rattle.one_core.specs.declared.calls.Acted.{Acted}
use Rattle.one_core.specs.declared.refusal.Refusal.{Refusal}
use Rattle.one_core.specs.declared.refusal.Refusal.TheVariants.{NoSuchCore, NoSuchObject, NoneInProgress}
use Rattle.one_core.specs.Parts.{no_core}
use Rattle.one_core.specs.Refusal.{number}
use Rattle.one_core.specs.Calls as Core
use Rattle.one_core.specs.Calls.{first, object_of, Settles, taken, answered_on, unless_on, release_on, begin_on, read_on, write_on, give_up_on, finish_on}
use Rattle.one_core.proofs.CallLaws.{skips, hits, numbered, by-number}
use Rattle.one_core.proofs.Tidy.{tidy-settles}
use Rattle.machine.specs.declared.Machine.{Machine}
use Rattle.machine.specs.declared.Outcome.{Outcome}
use Rattle.machine.specs.declared.inside.calls.Place.{Place}
use Rattle.machine.specs.Record.{core_at}
use Rattle.machine.specs.Sound.{sound}
use Rattle.machine.specs.Inside.{SoundWorld}
use Rattle.machine.specs.Refusals.{refusals, at}
use Rattle.machine.specs.Rule as Rule
use Rattle.machine.specs.Rule.{World, lent, unless, unless_lent, unlent, released, release, begun, begin, set_back_told, valued, value_read, read, written, write, slot, access_refusal, ended, give_up, finished, finish, rule, Call, core_of, Release, Begin, Read, Write, GiveUp, Finish}
use Rattle.machine.specs.OneCore.{call_of, found, found_core, sees, acted_at, with_acted, zeroed}
use Rattle.machine.proofs.Facts.{stands, core-place, object-place, few_jobs, one-open}
use Rattle.machine.proofs.Run.Places.{slot-inside}
use Rattle.machine.proofs.Refusals.{refused-with}
use Rattle.machine.proofs.CallLaws.{is_sound, a-core, no-core, an-object, no-object, tables-fit, refused-by, refused-as}

-- ---- where a call finds its core and its card

abbrev placed : ℕ → ℕ → Place
placed c d = record { core = c; object = d }

-- it is found in the machine
pub core-found : (c cores x : ℕ) → Ok x ≡ found_core c cores → (x ≡ c) × (c < cores)
core-found c cores x = go (ltb c cores) refl
  where
    go : (p : Bool) → ltb c cores ≡ p → Ok x ≡ cond p (Ok c) (Err NoSuchCore) → (x ≡ c) × (c < cores)
    go true h e = (cc, ltb-true c cores h)
    go false h e = cc

pub place-found : (c d cores objects : ℕ) (at : Place) → Ok at ≡ found c d cores objects
    → (at ≡ record { core = c; object = d }) × (c < cores) × (d < objects)
place-found c d cores objects at = go (ltb c cores) refl (ltb d objects) refl
  where
    go : (p : Bool) → ltb c cores ≡ p → (q : Bool) → ltb d objects ≡ q
        → Ok at ≡ cond p (cond q (Ok (record { core = c; object = d })) (Err NoSuchObject)) (Err NoSuchCore)
        → (at ≡ record { core = c; object = d }) × (c < cores) × (d < objects)
    go true h true l e = (cc, ltb-true c cores h, ltb-true d objects l)
    go true h false l e = cc
    go false h q l e = cc

-- or it is refused
pub core-lacked : (c cores : ℕ) (r : Refusal) → Err r ≡ found_core c cores → (r ≡ NoSuchCore) × (cores ≤ c)
core-lacked c cores r = go (ltb c cores) refl
  where
    go : (p : Bool) → ltb c cores ≡ p → Err r ≡ cond p (Ok c) (Err NoSuchCore) → (r ≡ NoSuchCore) × (cores ≤ c)
    go true h e = cc
    go false h e = (cc, ltb-false c cores h)

-- ---- what a call left, stored

-- the answer, and the world with what the call left at that place
abbrev pub given : World → Place → Acted → Rule.Result
given w at r =
    record {
      answer = r.answer;
      world = lent (with_acted w.machine at.core r) w.committed (set w.pending (slot w.machine at.core at.object) r.pending);
    }

-- what the call at that place leaves
abbrev pub acted : World → Act → Place → Acted
acted w a at = acted_at w.machine at a (get_or w.committed at.object 0) (get_or w.pending (slot w.machine at.core at.object) 0)

-- the record, with what was on core c and the counts stored as they were
pub acted-same : (m : Machine) (c : ℕ) (s : Seen) (a : Answer) → s.tickets ≡ m.tickets → s.give_ups ≡ m.give_ups
    → with_acted m c (Core.left_on (core_at m c) s a) ≡ m
acted-same m c s a t g =
    λ i. record {
      cores = m.cores;
      objects = m.objects;
      tickets = t i;
      commits = m.commits;
      give_ups = g i;
      core = set-get_or m.core c no_core i;
      versions = m.versions;
    }

module _ (w : World) where
  abbrev m : Machine
  m = w.machine

  -- what the call sees
  abbrev seen : Place → Seen
  seen at = sees m at.object (get_or w.committed at.object 0) (get_or w.pending (slot m at.core at.object) 0)

  -- what was stored as it was changes nothing
  put_same : (at : Place) (a : Answer) → given w at (Core.left_on (core_at m at.core) (seen at) a) ≡ record { answer = a; world = w }
  put_same at a =
      ap₂ (λ (n : Machine) (words : List ℕ). record { answer = a; world = lent n w.committed words })
      (acted-same m at.core (seen at) a refl refl) (set-get_or w.pending _ 0)

  -- the pending word put back as it was
  put_word : (at : Place) (a : Answer) (n : Machine)
      → ◌≡◌ {A = Rule.Result} (record { answer = a; world = lent n w.committed (set w.pending (slot m at.core at.object) (get_or w.pending (slot m at.core at.object) 0)) })
      (record { answer = a; world = lent n w.committed w.pending })
  put_word at a n = ap (λ (words : List ℕ). record { answer = a; world = lent n w.committed words }) (set-get_or w.pending _ 0)

  -- refused and accepted alike
  given-unless : (at : Place) (xs : List (Bool × Refusal)) (r : Acted) (x : Rule.Result) → given w at r ≡ x
      → given w at (answered_on (core_at m at.core) (seen at) (unless_on xs r)) ≡ unless_lent (first (numbered xs)) w x
  unfolding unless_lent
  given-unless at xs r x e =
      by-number (λ (y : Result Acted Refusal). given w at (answered_on (core_at m at.core) (seen at) y)) (λ (n : ℕ). unless_lent n w x) r e
      (λ why. put_same at (Refused (number why)) ∙ refused-by w x why) xs

  given-cond : (at : Place) (b : Bool) (p q : Acted) (x y : Rule.Result) → given w at p ≡ x → given w at q ≡ y
      → given w at (cond b p q) ≡ cond b x y
  given-cond at true p q x y e f = e
  given-cond at false p q x y e f = f

  unlent-unless : (n : ℕ) (o : Outcome) → unless_lent n w (unlent w o) ≡ unlent w (unless n m o)
  unfolding unless unless_lent
  unlent-unless zero o = refl
  unlent-unless (suc n) o = refl

  module _ (f : SoundWorld w) (at : Place) (h : at.core < m.cores) where
    -- what the call leaves, of what it gives
    abbrev answered : Result Acted Refusal → Rule.Result
    answered r = given w at (answered_on (core_at m at.core) (seen at) r)

    -- a call that is lent no table: past the refusals of the whole record
    alone : (xs : List (Bool × Refusal)) (r : ℕ) (done : Acted) (o : Outcome) → r ≡ first (numbered xs) → given w at done ≡ unlent w o
        → answered (unless_on xs done) ≡ unlent w (unless r m o)
    alone xs r done o e same =
        given-unless at xs done (unlent w o) same ∙ unlent-unless _ o ∙ ap (λ (x : ℕ). unlent w (unless x m o)) (sym e)

    release-given : (number deadline : ℕ)
        → answered (release_on (core_at m at.core) (seen at) (record { number = number; deadline = deadline })) ≡ rule w (Release at.core number deadline)
    unfolding release_on rule release released
    release-given number deadline =
        alone _ _ _ _ (skips _ _ _ (is_sound m f.is_sound) (skips _ _ _ (a-core m at.core h) refl)) (put_word at _ _)

    begin-given : answered (begin_on (core_at m at.core) (seen at)) ≡ rule w (Begin at.core)
    unfolding begin_on rule begin begun
    begin-given = alone _ _ _ _ (skips _ _ _ (is_sound m f.is_sound) (skips _ _ _ (a-core m at.core h) refl)) (put_word at _ _)

    give-up-given : answered (give_up_on (core_at m at.core) (seen at)) ≡ rule w (GiveUp at.core)
    unfolding give_up_on rule give_up ended
    give-up-given = alone _ _ _ _ (skips _ _ _ (is_sound m f.is_sound) (skips _ _ _ (a-core m at.core h) refl)) (put_word at _ _)

    finish-given : answered (finish_on (core_at m at.core) (seen at)) ≡ rule w (Finish at.core)
    unfolding finish_on rule finish finished
    finish-given = alone _ _ _ _ (skips _ _ _ (is_sound m f.is_sound) (skips _ _ _ (a-core m at.core h) refl)) (put_word at _ _)

    module _ (l : at.object < m.objects) where
      -- a read or a write: past the refusals of the whole record
      access : (done : Acted) (x : Rule.Result) → given w at done ≡ x
          → answered (unless_on ((Core.inactive (core_at m at.core), NoneInProgress) ∷ []) done) ≡ unless_lent (access_refusal w at.core at.object) w x
      unfolding access_refusal
      access done x e =
          given-unless at _ done x e
          ∙ ap (λ (n : ℕ). unless_lent n w x)
          (sym (skips _ _ _ (is_sound m f.is_sound) (skips _ _ _ (tables-fit w f) (skips _ _ _ (a-core m at.core h) (skips _ _ _ (an-object m at.object l) refl)))))

      told-given : given w at (Core.set_back_on (core_at m at.core) (seen at)) ≡ set_back_told w at.core
      unfolding set_back_told
      told-given = put_word at _ _

      read-given : answered (read_on (core_at m at.core) (seen at) at.object) ≡ rule w (Read at.core at.object)
      unfolding read_on rule read valued value_read
      read-given = access _ _ (given-cond at (core_at m at.core).zombie _ _ _ _ told-given (put_word at _ _))

      write-given : (v : ℕ) → answered (write_on (core_at m at.core) (seen at) at.object v) ≡ rule w (Write at.core at.object v)
      unfolding write_on rule write written
      write-given v = access _ _ (given-cond at (core_at m at.core).zombie _ _ _ _ told-given refl)

  -- ---- each of the six, where the core and the card are found

  found-given : SoundWorld w → (a : Act) (c : ℕ) → c < m.cores → object_of a < m.objects
      → let at : Place = record { core = c; object = object_of a } in given w at (acted w a at) ≡ rule w (call_of a c)
  unfolding taken
  found-given f (Act.Release number deadline) c h l = release-given f (record { core = c; object = 0 }) h number deadline
  found-given f Act.Begin c h l = begin-given f (record { core = c; object = 0 }) h
  found-given f (Act.Read d) c h l = read-given f (record { core = c; object = d }) h l
  found-given f (Act.Write d v) c h l = write-given f (record { core = c; object = d }) h l v
  found-given f Act.GiveUp c h l = give-up-given f (record { core = c; object = 0 }) h
  found-given f Act.Finish c h l = finish-given f (record { core = c; object = 0 }) h

  -- ---- and where one of them is not

  core-of : (a : Act) (c : ℕ) → core_of (call_of a c) ≡ c
  core-of (Act.Release number deadline) c = refl
  core-of Act.Begin c = refl
  core-of (Act.Read d) c = refl
  core-of (Act.Write d v) c = refl
  core-of Act.GiveUp c = refl
  core-of Act.Finish c = refl

  -- 4
  nowhere : SoundWorld w → (call : Call) → m.cores ≤ core_of call → record { answer = Refused 4; world = w } ≡ rule w call
  unfolding refusals
  nowhere f call h =
      refused-with w call 3
      (skips _ _ _ (is_sound m f.is_sound)
      (skips _ _ _ (ap (λ (b : Bool). at call false false true true true false false && b) (tables-fit w f) ∙ and-false (at call false false true true true false false))
      (hits _ _ _ (no-core m (core_of call) h))))

  -- 5: a call that names a card
  no-card : SoundWorld w → (a : Act) (c : ℕ) → c < m.cores → m.objects ≤ object_of a → record { answer = Refused 5; world = w } ≡ rule w (call_of a c)
  unfolding refusals
  no-card f (Act.Read d) c h l =
      refused-with w (Read c d) 4
      (skips _ _ _ (is_sound m f.is_sound) (skips _ _ _ (tables-fit w f) (skips _ _ _ (a-core m c h) (hits _ _ _ (no-object m d l)))))
  no-card f (Act.Write d v) c h l =
      refused-with w (Write c d v) 4
      (skips _ _ _ (is_sound m f.is_sound) (skips _ _ _ (tables-fit w f) (skips _ _ _ (a-core m c h) (hits _ _ _ (no-object m d l)))))
  no-card f (Act.Release number deadline) c h l = absurd (omega (arith, l, (stands m f.is_sound).some-objects))
  no-card f Act.Begin c h l = absurd (omega (arith, l, (stands m f.is_sound).some-objects))
  no-card f Act.GiveUp c h l = absurd (omega (arith, l, (stands m f.is_sound).some-objects))
  no-card f Act.Finish c h l = absurd (omega (arith, l, (stands m f.is_sound).some-objects))

  -- ---- a call that concerns one core, wherever it is found

  pub by-core : SoundWorld w → (a : Act) (c : ℕ) (at : Place) → Ok at ≡ found c (object_of a) m.cores m.objects
      → given w at (acted w a at) ≡ rule w (call_of a c)
  by-core f a c at e =
      let p = place-found c (object_of a) m.cores m.objects at e in
      ap (λ (x : Place). given w x (acted w a x)) p.0 ∙ found-given f a c p.1 p.2

  -- the same, of what code found, saw and got
  pub by-core-at : SoundWorld w → (a : Act) (c d : ℕ) (at : Place) (s : Seen) (r : Acted) → d ≡ object_of a → Ok at ≡ found c d m.cores m.objects
      → s ≡ seen at → r ≡ answered_on (core_at m at.core) s (taken a (core_at m at.core) s) → given w at r ≡ rule w (call_of a c)
  by-core-at f a c d at s r p q e h =
      ap (given w at) (h ∙ ap (λ (x : Seen). answered_on (core_at m at.core) x (taken a (core_at m at.core) x)) e)
      ∙ by-core f a c at (q ∙ ap (λ (n : ℕ). found c n m.cores m.objects) p)

  pub by-refusal : SoundWorld w → (a : Act) (c : ℕ) (r : Refusal) → Err r ≡ found c (object_of a) m.cores m.objects
      → ◌≡◌ {A = Rule.Result} (record { answer = Refused (number r); world = w }) (rule w (call_of a c))
  by-refusal f a c r = go (ltb c m.cores) refl (ltb (object_of a) m.objects) refl
    where
      go : (p : Bool) → ltb c m.cores ≡ p → (q : Bool) → ltb (object_of a) m.objects ≡ q
          → Err r ≡ cond p (cond q (Ok (placed c (object_of a))) (Err NoSuchObject)) (Err NoSuchCore)
          → ◌≡◌ {A = Rule.Result} (record { answer = Refused (number r); world = w }) (rule w (call_of a c))
      go true h true l e = cc
      go true h false l e = refused-as w r NoSuchObject (cc) ∙ no-card f a c (ltb-true _ _ h) (ltb-false _ _ l)
      go false h q l e =
          refused-as w r NoSuchCore (cc)
          ∙ nowhere f (call_of a c) (subst (λ (x : ℕ). m.cores ≤ x) (sym (core-of a c)) (ltb-false _ _ h))

-- ---- the places found are places of the machine

module _ (m : Machine) (s : sound m ≡ true) (c d : ℕ) (at : Place) (e : Ok at ≡ found c d m.cores m.objects) where
  pub to-core : at.core < m.cores
  to-core = let p = place-found c d m.cores m.objects at e in omega (arith, ap (λ (x : Place). x.core) p.0, p.1)

  pub to-object : at.object < m.objects
  to-object = let p = place-found c d m.cores m.objects at e in omega (arith, ap (λ (x : Place). x.object) p.0, p.2)

  pub core-there : at.core < 16
  core-there = core-place m s at.core to-core

  pub object-there : at.object < 64
  object-there = object-place m s at.object to-object

  pub to-slot : at.core * m.objects + at.object < m.cores * m.objects
  to-slot = slot-inside m.cores m.objects at.core at.object to-core to-object

  -- the core has few jobs, and while a transaction is in progress fewer were given up than tickets given
  pub to-few_jobs : (core_at m at.core).count ≤ 8
  to-few_jobs = few_jobs m s at.core to-core

  pub to-one_open : (core_at m at.core).active ≡ true → m.give_ups < m.tickets
  to-one_open on = omega (arith, one-open m s at.core to-core on)

-- where the transaction of a core of the machine has written, it is in progress and not marked
pub to-settles : (m : Machine) → sound m ≡ true → (c : ℕ) → c < m.cores → Settles (core_at m c)
to-settles m s c h = tidy-settles m.objects (core_at m c) ((stands m s).tidy c (core-place m s c h))

-- tables of zeros are of the right lengths
pub zeroed-fine : (m : Machine) → sound m ≡ true → SoundWorld (zeroed m)
zeroed-fine m s =
    record { is_sound = s; committed_long = length-replicate m.objects 0; pending_long = length-replicate (m.cores * m.objects) 0 }
