-- The number of each refusal, and the answer that a call hands back.
use Rattle.std.specs.Prelude.{ℕ, Result, Ok, Err}
use Rattle.one_core.specs.declared.Answer.{Answer}
use Rattle.one_core.specs.declared.Answer.TheVariants.{Refused}
use Rattle.one_core.specs.declared.refusal.Refusal.{Refusal}
use Rattle.one_core.specs.declared.refusal.Refusal.TheVariants.{WrongSize, Unsound, WrongTable, NoSuchCore, NoSuchObject, ListFull, NoJob, InProgress, NoneInProgress, TicketsSpent, Malformed}

-- as document 01's table 'What a refused call gives' numbers them
abbrev pub number : Refusal → ℕ
number WrongSize = 1
number Unsound = 2
number WrongTable = 3
number NoSuchCore = 4
number NoSuchObject = 5
number ListFull = 6
number NoJob = 7
number InProgress = 8
number NoneInProgress = 9
number TicketsSpent = 10
number Malformed = 11

-- the answer that is handed back: a refusal is named by its number
abbrev pub answer_of : Result Answer Refusal → Answer
answer_of (Ok a) = a
answer_of (Err r) = Refused (number r)
