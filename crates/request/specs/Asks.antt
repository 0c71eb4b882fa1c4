-- What a line of a script asks for (document 01, 'Script and listing').
use Rattle.std.specs.Prelude.{ℕ, cond, List, Option, None, Some, ◌==◌, nat_lt}
use Rattle.one_core.specs.declared.Refusal.TheVariants.{Unsound, Malformed}
use Rattle.one_core.specs.declared.calls.Act.TheVariants as Act
use Rattle.script.specs.declared.Call.{Call}
use Rattle.script.specs.declared.Columns.{Columns}
use Rattle.script.specs.Line.{names, spells}
use Rattle.request.specs.declared.Asked.{Asked}
use Rattle.request.specs.declared.Asked.TheVariants.{Order, Refused, Ended, Setup, Commit, One}

-- how many lines are read, the line of names among them
abbrev pub most_lines : ℕ
most_lines = 1000000

-- a bad names line is refused 11, and nothing is read after it
unfoldable pub of_names : Option Columns → Asked
of_names (Some at) = Order at
of_names None = Ended Malformed

-- a call, where there is a machine
unfoldable pub made : Call → Asked
made (Call.Setup cores cards) = Setup cores cards
made (Call.Release c number deadline) = One c (Act.Release number deadline)
made (Call.Begin c) = One c Act.Begin
made (Call.Read c d) = One c (Act.Read d)
made (Call.Write c d v) = One c (Act.Write d v)
made (Call.Commit c) = Commit c
made (Call.GiveUp c) = One c Act.GiveUp
made (Call.Finish c) = One c Act.Finish

-- before the first setup, and after a refused one, there is none: any call but setup finds a record that is unsound
unfoldable pub unfounded : Call → Asked
unfounded (Call.Setup cores cards) = Setup cores cards
unfounded (Call.Release c number deadline) = Refused Unsound
unfounded (Call.Begin c) = Refused Unsound
unfounded (Call.Read c d) = Refused Unsound
unfounded (Call.Write c d v) = Refused Unsound
unfounded (Call.Commit c) = Refused Unsound
unfounded (Call.GiveUp c) = Refused Unsound
unfounded (Call.Finish c) = Refused Unsound

abbrev pub of_call : ℕ → Call → Asked
of_call cores call = cond (cores == 0) (unfounded call) (made call)

-- a line that is not a call yields refusal 11 and the next line is read
unfoldable pub of_line : ℕ → Option Call → Asked
of_line cores (Some call) = of_call cores call
of_line cores None = Refused Malformed

-- line n, whose bytes are l, on a machine of that many cores: line 1,000,001 is refused 11 and ends the run
unfoldable pub asks : Columns → ℕ → List ℕ → ℕ → Asked
asks at n l cores = cond (n == 1) (of_names (names l)) (cond (nat_lt most_lines n) (Ended Malformed) (of_line cores (spells at l)))
