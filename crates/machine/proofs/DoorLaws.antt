-- The refusals of the public calls that the inside functions do not know: 2 and 3, and setup's.
use Rattle.std.proofs.Common.{◌≡◌, ℕ, ◌*◌, Bool, cond, Ok, Err, refl, true, false, not, ◌&&◌, eqb, List, length, replicate, ap, ◌∙◌, ap₂, eqb-true}
use Rattle.objset.proofs.Laws.{both_left, both_right}
use Rattle.one_core.specs.declared.Answer.TheVariants.{Refused, Ready}
use Rattle.one_core.specs.declared.refusal.Refusal.{Refusal}
use Rattle.one_core.specs.declared.refusal.Refusal.TheVariants.{Unsound, WrongTable}
use Rattle.one_core.specs.Refusal.{number}
use Rattle.one_core.specs.Calls.{unless_on}
use Rattle.machine.specs.OneCore.{checked}
use Rattle.machine.specs.Record.{blank, machine_of, sizes_in_range}
use Rattle.machine.specs.Sound.{sound}
use Rattle.machine.specs.Inside.{SoundWorld}
use Rattle.machine.specs.Rule.{World, lent, setup, rule, Call}
use Rattle.machine.specs.Refusals.{at, refusals}
use Rattle.machine.proofs.Refusals.{refused-with}
use Rattle.one_core.proofs.CallLaws.{skips, hits, none-holds}
use Rattle.machine.proofs.CallLaws.{is_sound, refused-as}
use Rattle.machine.proofs.CallLaws.{refused-lent, accepted-lent}

-- ---- 2: an unsound record

pub unsound-refused : (w : World) (call : Call) → sound w.machine ≡ false → record { answer = Refused 2; world = w } ≡ rule w call
unfolding refusals
unsound-refused w call s = refused-with w call 1 (hits _ _ _ (ap not s))

-- ---- 3: a table of another length

-- both lengths are right
abbrev both_fit : World → Bool
both_fit w = eqb (length w.committed) w.machine.objects && eqb (length w.pending) (w.machine.cores * w.machine.objects)

fine_of : (w : World) → sound w.machine ≡ true → both_fit w ≡ true → SoundWorld w
fine_of w s t =
    record {
      is_sound = s;
      committed_long = eqb-true _ _ (both_left _ (eqb (length w.pending) (w.machine.cores * w.machine.objects)) t);
      pending_long = eqb-true _ _ (both_right (eqb (length w.committed) w.machine.objects) _ t);
    }

-- a read, a write and a commit are refused
misfit-refused : (w : World) (call : Call) → at call false false true true true false false ≡ true → sound w.machine ≡ true
    → both_fit w ≡ false → record { answer = Refused 3; world = w } ≡ rule w call
unfolding refusals
misfit-refused w call lends s t =
    refused-with w call 2 (skips _ _ _ (is_sound w.machine s) (hits _ _ _ (ap₂ ◌&&◌ lends (ap not t))))

-- ---- both, as they are tested

pub tested-fine : (w : World) → Ok (tt {0}) ≡ checked w → SoundWorld w
unfolding unless_on
tested-fine w = go (sound w.machine) refl (both_fit w) refl
  where
    go : (s : Bool) → sound w.machine ≡ s → (t : Bool) → both_fit w ≡ t
        → Ok (tt {0}) ≡ cond (not s) (Err Unsound) (cond (not t) (Err WrongTable) (Ok (tt {0}))) → SoundWorld w
    go true s true t e = fine_of w s t
    go true s false t e = cc
    go false s t u e = cc

pub tested-refused : (w : World) (call : Call) (r : Refusal) → at call false false true true true false false ≡ true → Err r ≡ checked w
    → record { answer = Refused (number r); world = w } ≡ rule w call
unfolding unless_on
tested-refused w call r lends = go (sound w.machine) refl (both_fit w) refl
  where
    go : (s : Bool) → sound w.machine ≡ s → (t : Bool) → both_fit w ≡ t
        → Err r ≡ cond (not s) (Err Unsound) (cond (not t) (Err WrongTable) (Ok (tt {0}))) → record { answer = Refused (number r); world = w } ≡ rule w call
    go true s true t e = cc
    go true s false t e = refused-as w r WrongTable (cc) ∙ misfit-refused w call lends s t
    go false s t u e = refused-as w r Unsound (cc) ∙ unsound-refused w call s

-- ---- setup

module _ (cores objects : ℕ) (committed pending : List ℕ) where
  pub setup-range : sizes_in_range cores objects ≡ false
      → record { answer = Refused 1; world = lent blank committed pending } ≡ setup cores objects committed pending
  unfolding setup
  setup-range r = refused-lent _ _ 0 _ (hits _ _ _ (ap not r))

  module _ (r : sizes_in_range cores objects ≡ true) where
    pub setup-misfit : (eqb (length committed) objects && eqb (length pending) (cores * objects)) ≡ false
        → record { answer = Refused 3; world = lent blank committed pending } ≡ setup cores objects committed pending
    unfolding setup
    setup-misfit t = refused-lent _ _ 2 _ (skips _ _ _ (ap not r) (hits _ _ _ (ap not t)))

    -- the tables, cleared, have their lengths
    pub setup-made : (eqb (length committed) objects && eqb (length pending) (cores * objects)) ≡ true
        → record { answer = Ready; world = lent (machine_of cores objects) (replicate (length committed) 0) (replicate (length pending) 0) }
        ≡ setup cores objects committed pending
    unfolding setup
    setup-made t =
        ap₂ (λ (a b : ℕ). record { answer = Ready; world = lent (machine_of cores objects) (replicate a 0) (replicate b 0) })
        (eqb-true (length committed) objects (both_left _ (eqb (length pending) (cores * objects)) t))
        (eqb-true (length pending) (cores * objects) (both_right (eqb (length committed) objects) _ t))
        ∙ accepted-lent _ _ _ (skips _ _ _ (ap not r) (skips _ _ _ (ap not t) none-holds))
