-- What a row of the table gives.
use Rattle.std.specs.Prelude.{ℕ, cond, List, Option, None, Some, nat_le}
use Rattle.one_core.specs.declared.Answer.TheVariants.{Refused}
use Rattle.machine.specs.declared.Outcome.{Outcome}
use Rattle.machine.specs.Rule.{World, Result, left, setup, rule, Release, Begin, Read, Write, Commit, GiveUp, Finish}
use Rattle.examples_run.specs.declared.rows.Row.{Row}

-- the value that a call takes of a number: none where it is above 4,294,967,295
abbrev pub value_of : ℕ → Option ℕ
value_of n = cond (nat_le n 4294967295) (Some n) None

-- a write of that value; of none it is no call, which is refused 11
abbrev pub write_of : World → ℕ → ℕ → Option ℕ → Result
write_of w c d (Some v) = rule w (Write c d v)
write_of w c d None = record { answer = Refused 11; world = w }

-- the row's call, by its rule; a heading and the cards are no call
abbrev pub given : World → Row → Option Result
given w (Row.Setup n d) = Some (setup n d w.committed w.pending)
given w (Row.Release c j t) = Some (rule w (Release c j t))
given w (Row.Begin c) = Some (rule w (Begin c))
given w (Row.Read c d) = Some (rule w (Read c d))
given w (Row.Write c d n) = Some (write_of w c d (value_of n))
given w (Row.Commit c) = Some (rule w (Commit c))
given w (Row.GiveUp c) = Some (rule w (GiveUp c))
given w (Row.Finish c) = Some (rule w (Finish c))
given w (Row.Heading name) = None
given w Row.Cards = None

-- what a call handed back, if there was one, with the tables as it left them
abbrev pub left_of : Option Outcome → List ℕ → List ℕ → Option Result
left_of None committed pending = None
left_of (Some o) committed pending = Some (left o committed pending)
