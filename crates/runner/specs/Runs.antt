-- A script as runs of the machine: the claim about whole runs, said of the rows of its listing.
use Rattle.std.specs.Prelude.{◌≡◌, ℕ, ◌-◌, Bool, true, false, cond, List, [], ◌∷◌, ◌++◌, slice_index_or, Option, Some, None}
use Rattle.machine.specs.Words.{Event}
use Rattle.machine.specs.Claims.{Claim, worked}
use Rattle.one_core.specs.declared.Answer.{Answer}
use Rattle.one_core.specs.declared.Answer.TheVariants.{Ready}
use Rattle.script.specs.declared.Call.{Call}
use Rattle.script.specs.declared.Columns.{Columns}
use Rattle.table.specs.Pieces.{lines}
use Rattle.script.specs.Line.{names, spells}
use Rattle.listing.specs.Text.{heading, line}
use Rattle.runner.specs.Listing.{Request, Anew, Asks, request, set_up, Row, rows, listed, listing}

-- whether a request is a setup
unfoldable pub anew : Request → Bool
anew (Anew cores cards) = true
anew (Asks call) = false

-- a setup, accepted or refused, ends the run before it
unfoldable pub ends_run : Option Call → Bool
ends_run None = false
ends_run (Some call) = anew (request call)

-- a call with its answer; setup is none of the seven calls that a run is made of
unfoldable pub event_of : Answer → Request → List Event
event_of a (Anew cores cards) = []
event_of a (Asks call) = record { call = call; answer = a } ∷ []

-- the call of a row with its answer; a line that is not a call makes none
unfoldable pub event : Answer → Option Call → List Event
event a None = []
event a (Some call) = event_of a (request call)

-- the calls of these rows up to the next setup, with their answers, after the events before them; newest first
unfoldable pub events : List Event → List Row → List Event
events before [] = before
events before (r ∷ rs) = cond (ends_run r.spelt) before (events (event r.answer r.spelt ++ before) rs)

-- line n of a script, counted from 1; no bytes where there is none
abbrev pub line_at : List ℕ → ℕ → List ℕ
line_at script n = slice_index_or (lines script) (n - 1) []

-- The claim about whole runs, of this script, and what joins its rows to the script and to the listing.
pub record ScriptRuns (script : List ℕ) : Type 0 where
  -- from each setup that is answered ready, the calls up to the next setup, with the answers of their rows, are a run of which demands 2
  -- and 3 hold
  pub whole_claim : (above below : List Row) (n cores cards : ℕ)
      → rows script ≡ above ++ record { number = n; spelt = Some (Call.Setup cores cards); answer = Ready } ∷ below
      → Claim (set_up cores cards).world (events [] below) (worked (set_up cores cards).world (events [] below))
  -- the call of each row is what the script's line of its number spells, by the names in line 1
  pub spelt_there : (above below : List Row) (r : Row) (call : Call) → rows script ≡ above ++ r ∷ below → r.spelt ≡ Some call
      → (at : Columns) × (names (line_at script 1) ≡ Some at) × (spells at (line_at script r.number) ≡ Some call)
  -- the answer of each row is what the listing has on the line of its number
  pub listed_there : (above below : List Row) (r : Row) → rows script ≡ above ++ r ∷ below
      → listing script ≡ heading ++ listed above ++ line r.number r.answer ++ listed below
