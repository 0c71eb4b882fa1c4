-- What a line asks for, carried out: the answer that is listed, the world after it, and how lines are read on.
use Rattle.std.proofs.Common.{◌≡◌, ℕ, Bool, true, false, cond, not, eqb, ltb, List, ◌∷◌, sym, refl, ap, ◌∙◌, true≢false, eqb-true, Option, Some, None}
use Rattle.one_core.specs.Calls.{first}
use Rattle.one_core.specs.declared.Answer.TheVariants.{Ready, Refused}
use Rattle.one_core.specs.declared.Refusal.{Refusal}
use Rattle.one_core.specs.declared.Refusal.TheVariants.{Unsound, Malformed}
use Rattle.one_core.specs.Refusal.{number}
use Rattle.one_core.specs.declared.calls.Act.{Act}
use Rattle.machine.specs.Record.{blank}
use Rattle.machine.specs.Sound as Sound
use Rattle.machine.specs.Rule as Rule
use Rattle.machine.specs.Rule.{World, Result}
use Rattle.machine.specs.OneCore.{call_of}
use Rattle.machine.specs.declared.Machine.{Machine}
use Rattle.machine.specs.declared.Outcome.{Outcome}
use Rattle.script.specs.declared.Call.{Call}
use Rattle.script.specs.declared.Columns.{Columns}
use Rattle.script.specs.Line.{names, spells}
use Rattle.request.specs.declared.Asked.{Asked}
use Rattle.request.specs.Asks.{most_lines, of_names, made, unfounded, of_line, asks}
use Rattle.runner.specs.Listing.{nothing, Anew, Asks, request, met, answered}

-- whether an answer is listed
abbrev pub lists : Asked → Bool
lists (Asked.Order at) = false
lists (Asked.Refused x) = true
lists (Asked.Ended x) = true
lists (Asked.Setup cores cards) = true
lists (Asked.Commit c) = true
lists (Asked.One c a) = true

-- whether lines are still read
abbrev pub goes : Asked → Bool
goes (Asked.Order at) = true
goes (Asked.Refused x) = true
goes (Asked.Ended x) = false
goes (Asked.Setup cores cards) = true
goes (Asked.Commit c) = true
goes (Asked.One c a) = true

-- the order of the fields of the lines after it
abbrev pub ordered : Columns → Asked → Columns
ordered at (Asked.Order at') = at'
ordered at (Asked.Refused x) = at
ordered at (Asked.Ended x) = at
ordered at (Asked.Setup cores cards) = at
ordered at (Asked.Commit c) = at
ordered at (Asked.One c a) = at

-- whether a machine is needed
abbrev pub calls : Asked → Bool
calls (Asked.Order at) = false
calls (Asked.Refused x) = false
calls (Asked.Ended x) = false
calls (Asked.Setup cores cards) = false
calls (Asked.Commit c) = true
calls (Asked.One c a) = true

-- the answer, and the world after it
abbrev pub outcome : World → Asked → Result
outcome w (Asked.Order at) = record { answer = Ready; world = w }
outcome w (Asked.Refused x) = record { answer = Refused (number x); world = w }
outcome w (Asked.Ended x) = record { answer = Refused (number x); world = w }
outcome w (Asked.Setup cores cards) = met w (Anew cores cards)
outcome w (Asked.Commit c) = met w (Asks (Rule.Commit c))
outcome w (Asked.One c a) = met w (Asks (call_of a c))

-- ---- a blank record refuses any call but setup

unsound-unless : (b : Bool) → b ≡ false → (m : Machine) (xs : List (Bool × ℕ)) (o : Outcome)
    → record { answer = Refused 2; machine = m } ≡ Rule.unless (first ((not b, 2) ∷ xs)) m o
unsound-unless true e m xs o = absurd (true≢false e)
unsound-unless false e m xs o = unfold first Rule.unless in refl

unsound-unless-lent : (b : Bool) → b ≡ false → (w : World) (xs : List (Bool × ℕ)) (o : Result)
    → record { answer = Refused 2; world = w } ≡ Rule.unless_lent (first ((not b, 2) ∷ xs)) w o
unsound-unless-lent true e w xs o = absurd (true≢false e)
unsound-unless-lent false e w xs o = unfold first Rule.unless_lent in refl

blank-unsound : Sound.sound blank ≡ false
unfolding Sound.sound Sound.in_range
blank-unsound = refl

unfounded-called : (call : Call) → outcome nothing (unfounded call) ≡ met nothing (request call)
unfolding unfounded met request Rule.rule Rule.release Rule.begin Rule.read Rule.write Rule.commit Rule.give_up Rule.finish Rule.access_refusal Rule.commit_refusal
unfounded-called (Call.Setup n d) = refl
unfounded-called (Call.Release c number deadline) = ap (Rule.unlent nothing) (unsound-unless (Sound.sound blank) blank-unsound blank _ _)
unfounded-called (Call.Begin c) = ap (Rule.unlent nothing) (unsound-unless (Sound.sound blank) blank-unsound blank _ _)
unfounded-called (Call.Read c d) = unsound-unless-lent (Sound.sound blank) blank-unsound nothing _ _
unfounded-called (Call.Write c d v) = unsound-unless-lent (Sound.sound blank) blank-unsound nothing _ _
unfounded-called (Call.Commit c) = unsound-unless-lent (Sound.sound blank) blank-unsound nothing _ _
unfounded-called (Call.GiveUp c) = ap (Rule.unlent nothing) (unsound-unless (Sound.sound blank) blank-unsound blank _ _)
unfounded-called (Call.Finish c) = ap (Rule.unlent nothing) (unsound-unless (Sound.sound blank) blank-unsound blank _ _)

-- ---- a line of values

made-called : (w : World) (call : Call) → outcome w (made call) ≡ met w (request call)
unfolding made request
made-called w (Call.Setup n d) = refl
made-called w (Call.Release c number deadline) = refl
made-called w (Call.Begin c) = refl
made-called w (Call.Read c d) = refl
made-called w (Call.Write c d v) = refl
made-called w (Call.Commit c) = refl
made-called w (Call.GiveUp c) = refl
made-called w (Call.Finish c) = refl

-- what it asks for is what the listing answers; where there is no core there is no machine
pub line-answered : (cores : ℕ) (w : World) → (cores ≡ 0 → w ≡ nothing) → (x : Option Call) → outcome w (of_line cores x) ≡ answered w x
unfolding of_line answered
line-answered cores w none None = refl
line-answered cores w none (Some call) = go (eqb cores 0) refl
  where
    go : (b : Bool) → eqb cores 0 ≡ b → outcome w (cond b (unfounded call) (made call)) ≡ met w (request call)
    go true e = rw (none (eqb-true cores 0 e)) (unfounded-called call)
    go false e = made-called w call

-- its answer is listed, lines are read on, in the same order
pub record Plain (a : Asked) : Type 0 where
  pub is-listed : lists a ≡ true
  pub goes_on : goes a ≡ true
  pub same-order : (at : Columns) → ordered at a ≡ at

plain-refused : (x : Refusal) → Plain (Asked.Refused x)
plain-refused x = record { is-listed = refl; goes_on = refl; same-order = λ at. refl }

plain-setup : (cores cards : ℕ) → Plain (Asked.Setup cores cards)
plain-setup cores cards = record { is-listed = refl; goes_on = refl; same-order = λ at. refl }

plain-commit : (c : ℕ) → Plain (Asked.Commit c)
plain-commit c = record { is-listed = refl; goes_on = refl; same-order = λ at. refl }

plain-one : (c : ℕ) (a : Act) → Plain (Asked.One c a)
plain-one c a = record { is-listed = refl; goes_on = refl; same-order = λ at. refl }

made_plain : (call : Call) → Plain (made call)
unfolding made
made_plain (Call.Setup n d) = plain-setup n d
made_plain (Call.Release c number deadline) = plain-one c _
made_plain (Call.Begin c) = plain-one c _
made_plain (Call.Read c d) = plain-one c _
made_plain (Call.Write c d v) = plain-one c _
made_plain (Call.Commit c) = plain-commit c
made_plain (Call.GiveUp c) = plain-one c _
made_plain (Call.Finish c) = plain-one c _

unfounded-plain : (call : Call) → Plain (unfounded call) × (calls (unfounded call) ≡ false)
unfolding unfounded
unfounded-plain (Call.Setup n d) = (plain-setup n d, refl)
unfounded-plain (Call.Release c number deadline) = (plain-refused Unsound, refl)
unfounded-plain (Call.Begin c) = (plain-refused Unsound, refl)
unfounded-plain (Call.Read c d) = (plain-refused Unsound, refl)
unfounded-plain (Call.Write c d v) = (plain-refused Unsound, refl)
unfounded-plain (Call.Commit c) = (plain-refused Unsound, refl)
unfounded-plain (Call.GiveUp c) = (plain-refused Unsound, refl)
unfounded-plain (Call.Finish c) = (plain-refused Unsound, refl)

pub line_plain : (cores : ℕ) (x : Option Call) → Plain (of_line cores x)
unfolding of_line
line_plain cores None = plain-refused Malformed
line_plain cores (Some call) = go (eqb cores 0)
  where
    go : (b : Bool) → Plain (cond b (unfounded call) (made call))
    go true = (unfounded-plain call).0
    go false = made_plain call

-- ---- a call that needs a machine is asked for only where there is one

none-asked : (at : Columns) (n : ℕ) (l : List ℕ) → calls (asks at n l 0) ≡ false
unfolding asks of_names of_line
none-asked at n l = go (eqb n 1) (ltb most_lines n) (names l) (spells at l)
  where
    go : (p q : Bool) (x : Option Columns) (y : Option Call) → calls (cond p (of_names x) (cond q (Asked.Ended Malformed) (of_line 0 y))) ≡ false
    go true q (Some at) y = refl
    go true q None y = refl
    go false true x y = refl
    go false false x None = refl
    go false false x (Some call) = (unfounded-plain call).1

pub founded : (at : Columns) (n : ℕ) (l : List ℕ) (cores : ℕ) (a : Asked) → a ≡ asks at n l cores → (b : Asked) → a ≡ b → calls b ≡ true → cores ≡ 0 → ⊥
founded at n l cores a is b same needs none =
    true≢false (sym (sym (none-asked at n l) ∙ ap (λ (k : ℕ). calls (asks at n l k)) (sym none) ∙ ap calls (sym is ∙ same) ∙ needs))
