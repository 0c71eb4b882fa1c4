-- What the doors do not refuse is fit, and what is fit they do not refuse. For readers: `not-refused`, that what `start` gives and `feed`
-- leaves is taken again.
use Rattle.std.specs.List.{list_any}
use Rattle.std.specs.Prelude.{◌==◌}
use Rattle.std.proofs.Common.{◌≡◌, ℕ, ◌+◌, ◌*◌, ◌/◌, ◌<◌, ◌≤◌, Bool, true, false, cond, not, ◌&&◌, ◌||◌, eqb, ltb, leb, ◌⊎◌, List, None, Some, is_some, [], ◌∷◌, length, sym, refl, ap, ◌∙◌, subst, inl, inr, ⊎_elim, true≢false, arith, length-take-le, ltb-false, ltb-true, le-ltb, lt-ltb, eq-eqb, eqb-true, le-leb, leb-true}
use mathlib.Core.Bool.{or-true}
use Rattle.machine.specs.Record.{blank}
use Rattle.one_core.specs.Tidy.{◌⇒◌}
use Rattle.machine.specs.Sound.{sound, is_blank}
use Rattle.machine.specs.declared.Machine.{Machine}
use Rattle.machine.specs.Inside.{Formed, WellFormedWorld}
use Rattle.one_core.proofs.TestLaws.{if-true, true-if, both}
use Rattle.machine.proofs.Sound.Standing.{Standing, standing}
use Rattle.machine.proofs.BlankLaws.{blank-only, blank-passes}
use Rattle.table.specs.Pieces.{free}
use Rattle.runner.specs.declared.Reading.{Reading}
use Rattle.runner.specs.declared.Misfit.{Misfit}
use Rattle.runner.specs.declared.Misfit.TheVariants.{Unsound, WrongTable, NoRoom}
use Rattle.request.specs.Asks.{most_lines}
use Rattle.runner.specs.Kept.{held, unfinished, ReadingFits}
use Rattle.runner.specs.Doors.{readable, refusal}
use Rattle.runner.proofs.Setups.{few_words}

-- ---- a newline among bytes

pub no_newline : (bs : List ℕ) → not (list_any (λ y. y == 10) bs) ≡ free 10 bs
unfolding free
no_newline [] = refl
no_newline (b ∷ bs) = go (b == 10) (no_newline bs)
  where
    go : (x : Bool) → not (list_any (λ y. y == 10) bs) ≡ free 10 bs → not (x || list_any (λ y. y == 10) bs) ≡ not x && free 10 bs
    go true e = refl
    go false e = e

-- ---- room for 32 bytes each

pub room_test : (bytes room : ℕ) → ltb (room / 32) bytes ≡ ltb room (32 * bytes)
room_test bytes room = go (ltb (room / 32) bytes) refl
  where
    go : (b : Bool) → ltb (room / 32) bytes ≡ b → b ≡ ltb room (32 * bytes)
    go true e = sym (lt-ltb room (32 * bytes) (omega (arith, ltb-true (room / 32) bytes e)))
    go false e = sym (le-ltb room (32 * bytes) (omega (arith, ltb-false (room / 32) bytes e)))

-- ---- a reading that is not refused

either : (a b : Bool) → a ≡ false → (a || b) ≡ true → b ≡ true
either true b i e = absurd (true≢false i)
either false b i e = e

some-none : {x : Misfit} → Some x ≡ None → ⊥
some-none e = true≢false (ap is_some e)

record Taking (r : Reading) (committed pending bytes room : ℕ) : Type 0 where
  sound-reading : readable r ≡ true
  committed_long : committed ≡ 64
  pending_long : pending ≡ 1024
  enough : 32 * bytes ≤ room

taking : (r : Reading) (committed pending bytes room : ℕ) → refusal r committed pending bytes room ≡ None → Taking r committed pending bytes room
unfolding refusal
taking r committed pending bytes room e =
    go (readable r) refl (eqb committed 64) refl (eqb pending 1024) refl (ltb room (32 * bytes)) refl e
  where
    go : (a : Bool) → readable r ≡ a → (b : Bool) → eqb committed 64 ≡ b → (c : Bool) → eqb pending 1024 ≡ c
        → (d : Bool) → ltb room (32 * bytes) ≡ d
        → cond (not a) (Some Unsound) (cond (not (b && c)) (Some WrongTable) (cond d (Some NoRoom) None)) ≡ None
        → Taking r committed pending bytes room
    go true i true j true k false l e =
        record {
          sound-reading = i;
          committed_long = eqb-true committed 64 j;
          pending_long = eqb-true pending 1024 k;
          enough = ltb-false room (32 * bytes) l;
        }
    go true i true j true k true l e = absurd (some-none e)
    go true i true j false k d l e = absurd (some-none e)
    go true i false j c k d l e = absurd (some-none e)
    go false i b j c k d l e = absurd (some-none e)

module _ (r : Reading) where
  abbrev few_lines : Bool
  few_lines = r.going ⇒ leb r.number (most_lines + 1)

  abbrev own-machine : Bool
  own-machine = is_blank r.machine || (ltb 1 r.number && sound r.machine)

  -- the tests one by one
  record Passed : Type 0 where
    some_line : ltb 0 r.number ≡ true
    lines-few : few_lines ≡ true
    bytes-few : leb r.length 65 ≡ true
    no_newline : free 10 (unfinished r) ≡ true
    machine-own : own-machine ≡ true

  passed : readable r ≡ true → Passed
  unfolding readable
  passed e =
      let four = both _ own-machine e in
      let three = both _ (free 10 (unfinished r)) four.0 in
      let two = both _ (leb r.length 65) three.0 in
      let one = both (ltb 0 r.number) few_lines two.0 in
      record { some_line = one.0; lines-few = one.1; bytes-few = two.1; no_newline = three.1; machine-own = four.1 }

  module _ (cs ps : List ℕ) (formed : Formed r.machine) (long : length r.line ≡ 65) (p : Passed) (committed : length cs ≡ 64)
      (pending : length ps ≡ 1024) where
    few : r.going ≡ true → r.number ≤ most_lines + 1
    few on = leb-true r.number (most_lines + 1) (if-true r.going _ p.lines-few on)

    -- a sound machine, after line 1
    good : is_blank r.machine ≡ false → WellFormedWorld (held r.machine cs ps)
    good i =
        let is = (both (ltb 1 r.number) (sound r.machine) (either _ _ i p.machine-own)).1 in
        let rules : Standing r.machine = standing is in
        record {
          world_sound =
              record {
                is_sound = is;
                committed_long = length-take-le r.machine.objects cs (subst (λ (n : ℕ). r.machine.objects ≤ n) (sym committed) rules.few-objects);
                pending_long =
                    length-take-le (r.machine.cores * r.machine.objects) ps
                    (subst (λ (n : ℕ). r.machine.cores * r.machine.objects ≤ n) (sym pending)
                    (few_words r.machine.cores r.machine.objects rules.few-cores rules.few-objects));
              };
          formed = formed;
        }

    passed-fit : ReadingFits r cs ps
    passed-fit =
        record {
          holds = record { committed_long = committed; pending_long = pending; blank_or_well_formed = own.0 };
          line_long = long;
          few_bytes = leb-true r.length 65 p.bytes-few;
          no_newline = p.no_newline;
          some_line = ltb-true 0 r.number p.some_line;
          few_lines = few;
          first_blank = own.1;
        }
      where
        go : (z : Bool) → is_blank r.machine ≡ z
            → ((r.machine ≡ blank) ⊎ WellFormedWorld (held r.machine cs ps)) × (r.number ≡ 1 → r.machine ≡ blank)
        go true i = let none = blank-only r.machine formed i in (inl none, λ e. none)
        go false i =
            let later = (both (ltb 1 r.number) (sound r.machine) (either _ _ i p.machine-own)).0 in
            (inr (good i), λ e. absurd (omega (arith, e, ltb-true 1 r.number later)))

        own : ((r.machine ≡ blank) ⊎ WellFormedWorld (held r.machine cs ps)) × (r.number ≡ 1 → r.machine ≡ blank)
        own = go (is_blank r.machine) refl

-- what is not refused is fit
pub taken-fit : (r : Reading) (cs ps : List ℕ) (bytes room : ℕ) → Formed r.machine × (length r.line ≡ 65)
    → refusal r (length cs) (length ps) bytes room ≡ None → ReadingFits r cs ps × (32 * bytes ≤ room)
taken-fit r cs ps bytes room formed e =
    let t = taking r (length cs) (length ps) bytes room e in
    (passed-fit r cs ps formed.0 formed.1 (passed r t.sound-reading) t.committed_long t.pending_long, t.enough)

-- ---- what is fit is not refused

module _ (r : Reading) (cs ps : List ℕ) (f : ReadingFits r cs ps) where
  cores : WellFormedWorld (held r.machine cs ps) → 0 < r.machine.cores
  cores g = (standing g.world_sound.is_sound).some-cores

  -- a machine comes after line 1
  later : WellFormedWorld (held r.machine cs ps) → 1 < r.number
  later g = go (ltb 1 r.number) refl
    where
      go : (b : Bool) → ltb 1 r.number ≡ b → 1 < r.number
      go true e = ltb-true 1 r.number e
      go false e =
          let first : r.number ≡ 1 = omega (arith, f.some_line, ltb-false 1 r.number e) in
          absurd (omega (arith, cores g, ap (λ (m : Machine). m.cores) (f.first_blank first)))

  machine-fits : own-machine r ≡ true
  machine-fits =
      ⊎_elim (λ b. ap (λ (x : Bool). x || (ltb 1 r.number && sound r.machine)) (ap is_blank b ∙ blank-passes))
      (λ g. rw (lt-ltb 1 r.number (later g), g.world_sound.is_sound) (or-true (is_blank r.machine))) f.holds.blank_or_well_formed

  fit-readable : readable r ≡ true
  unfolding readable
  fit-readable =
      rw (
        lt-ltb 0 r.number f.some_line,
        true-if r.going (leb r.number (most_lines + 1)) (λ on. le-leb r.number (most_lines + 1) (f.few_lines on)),
        le-leb r.length 65 f.few_bytes,
        f.no_newline,
        machine-fits,
      ) refl

  pub not-refused : (bytes room : ℕ) → 32 * bytes ≤ room → refusal r (length cs) (length ps) bytes room ≡ None
  unfolding refusal
  not-refused bytes room enough =
      rw (
        fit-readable,
        eq-eqb (length cs) 64 f.holds.committed_long,
        eq-eqb (length ps) 1024 f.holds.pending_long,
        le-ltb room (32 * bytes) enough,
      ) refl
