-- The listing of any list of bytes (document 01, 'Script and listing').
use Rattle.std.specs.Prelude.{ℕ, ◌+◌, ◌*◌, cond, List, [], ◌∷◌, ◌++◌, Option, None, Some, replicate, nat_lt}
use Rattle.machine.specs.Record.{blank, sizes_in_range}
use Rattle.machine.specs.Rule as Rule
use Rattle.machine.specs.Rule.{World, Result, lent, rule}
use Rattle.one_core.specs.declared.Answer.{Answer}
use Rattle.one_core.specs.declared.Answer.TheVariants.{Refused}
use Rattle.script.specs.declared.Call.{Call}
use Rattle.script.specs.declared.Columns.{Columns}
use Rattle.table.specs.Pieces.{lines}
use Rattle.script.specs.Line.{names, spells}
use Rattle.listing.specs.Text.{heading, line}
use Rattle.request.specs.Asks.{most_lines}

-- ---- what a line does

-- before the first setup, and after a refused one, the record is blank
abbrev pub nothing : World
nothing = lent blank [] []

-- setup is lent tables of the right length; out of range there are none, and it is refused whatever it is lent
unfoldable pub set_up : ℕ → ℕ → Result
set_up cores cards =
    cond (sizes_in_range cores cards) (Rule.setup cores cards (replicate cards 0) (replicate (cores * cards) 0)) (Rule.setup cores cards [] [])

-- what a call of a script asks of the machine: setup, or one of the seven other calls
pub data Request : Type 0 where
  -- cores, cards
  Anew : ℕ → ℕ → Request
  Asks : Rule.Call → Request

unfoldable pub request : Call → Request
request (Call.Setup cores cards) = Anew cores cards
request (Call.Release c number deadline) = Asks (Rule.Release c number deadline)
request (Call.Begin c) = Asks (Rule.Begin c)
request (Call.Read c d) = Asks (Rule.Read c d)
request (Call.Write c d v) = Asks (Rule.Write c d v)
request (Call.Commit c) = Asks (Rule.Commit c)
request (Call.GiveUp c) = Asks (Rule.GiveUp c)
request (Call.Finish c) = Asks (Rule.Finish c)

-- a call by its rule
unfoldable pub met : World → Request → Result
met w (Anew cores cards) = set_up cores cards
met w (Asks call) = rule w call

-- a line that is not a call yields refusal 11
unfoldable pub answered : World → Option Call → Result
answered w (Some call) = met w (request call)
answered w None = record { answer = Refused 11; world = w }

-- ---- the rows of the listing

-- a row: the number of a line of the script, what the line spells, and its answer, of which the listing shows word and value
pub record Row : Type 0 where
  pub number : ℕ
  pub spelt : Option Call
  pub answer : Answer

-- no call is made, whatever the line holds
abbrev pub unread : ℕ → Row
unread n = record { number = n; spelt = None; answer = Refused 11 }

-- the rows of these lines of values, the first of them with the number n: each gets its answer and the next line is read; line
-- 1,000,001 is refused 11 and ends the run
unfoldable pub value_rows : Columns → World → ℕ → List (List ℕ) → List Row
value_rows at w n [] = []
value_rows at w n (l ∷ ls) =
    cond (nat_lt most_lines n) (unread n ∷ [])
    (record { number = n; spelt = spells at l; answer = (answered w (spells at l)).answer }
    ∷ value_rows at (answered w (spells at l)).world (n + 1) ls)

-- a bad names line gives `1 refused 11`, and nothing is read after it
unfoldable pub rows_after : Option Columns → List (List ℕ) → List Row
rows_after (Some at) ls = value_rows at nothing 2 ls
rows_after None ls = unread 1 ∷ []

-- so does empty input
unfoldable pub rows_of : List (List ℕ) → List Row
rows_of [] = unread 1 ∷ []
rows_of (l ∷ ls) = rows_after (names l) ls

-- the rows of a script
abbrev pub rows : List ℕ → List Row
rows script = rows_of (lines script)

-- ---- the listing

-- a row is listed as its number and its answer
unfoldable pub listed : List Row → List ℕ
listed [] = []
listed (r ∷ rs) = line r.number r.answer ++ listed rs

-- what is listed of line n: the line of its answer; nothing of the line of names, which has none
abbrev pub answer_line : ℕ → Option Answer → List ℕ
answer_line n None = []
answer_line n (Some a) = line n a

-- the heading, and below it the rows of the script
unfoldable pub listing : List ℕ → List ℕ
listing script = heading ++ listed (rows script)
