-- What a list of calls gives: the number of the last answer, and the two tables.
use Rattle.std.specs.Prelude.{ℕ, ◌+◌, ◌/◌, ◌%◌, cond, List, [], ◌∷◌, ◌==◌}
use Rattle.machine.specs.declared.Machine.{Machine}
use Rattle.one_core.specs.declared.Answer.{Answer}
use Rattle.one_core.specs.declared.Answer.TheVariants.{Ready, Running, Queued, Begun, Value, Written, Waits, Committed, SetBack, Ended, Finished, Refused}
use Rattle.one_core.specs.declared.calls.Act.TheVariants as Act
use Rattle.bench_calls.specs.declared.Ask.{Ask}
use Rattle.machine.specs.Answers.{kind}
use Rattle.machine.specs.Sound.{sound}
use Rattle.machine.specs.Rule.{World, Result, with_machine, setup, rule, Commit}
use Rattle.machine.specs.OneCore.{call_of}

-- the number of an answer
abbrev pub number_of : Answer → ℕ
number_of Ready = 1
number_of Running = 2
number_of Queued = 3
number_of (Begun ticket) = ticket
number_of (Value v version) = v
number_of Written = 4
number_of (Waits e) = 5
number_of (Committed aborts) = 6
number_of SetBack = 7
number_of Ended = 8
number_of (Finished job) = 9
number_of (Refused n) = 10

-- ---- one call

-- what a number asks for, for core c
unfoldable pub asked_of : ℕ → ℕ → Ask
asked_of call c =
    cond (call == 2) Ask.Setup
    (cond (call == 3) (Ask.One (Act.Release 7 100))
    (cond (call == 4) (Ask.One Act.Begin)
    (cond (call == 5) (Ask.One (Act.Read (c / 2 + 32)))
    (cond (call == 6) (Ask.One (Act.Write c 5))
    (cond (call == 7) Ask.Commit
    (cond (call == 8) (Ask.One Act.GiveUp)
    (cond (call == 9) (Ask.One Act.Finish) Ask.Nothing)))))))

-- what is asked for, on core c, by its rule; setup gives `new`, and no call gives `other`
abbrev pub by_ask : Result → Result → World → ℕ → Ask → Result
by_ask new other w c Ask.Setup = new
by_ask new other w c (Ask.One a) = rule w (call_of a c)
by_ask new other w c Ask.Commit = rule w (Commit c)
by_ask new other w c Ask.Nothing = other

-- the soundness test alone
abbrev pub tested : World → Result
tested w = record { answer = cond (sound w.machine) Ready (Refused 2); world = w }

-- by the public calls; where nothing is asked for, the soundness test alone
abbrev pub door_gives : World → ℕ → Ask → Result
door_gives w = by_ask (setup w.machine.cores w.machine.objects w.committed w.pending) (tested w) w

-- in place; setup and no call change nothing
abbrev pub inside_gives : World → ℕ → Ask → Result
inside_gives w = by_ask (record { answer = Ready; world = w }) (record { answer = Ready; world = w }) w

-- a number's call
abbrev pub door : World → ℕ → ℕ → Result
door w call c = door_gives w c (asked_of call c)

abbrev pub inside : World → ℕ → ℕ → Result
inside w call c = inside_gives w c (asked_of call c)

-- ---- a list

-- the number of the last answer, the world after it, and the record that was last kept
pub record Progress : Type 0 where
  pub last : ℕ
  pub world : World
  pub kept : Machine

abbrev pub after_call : Result → Machine → Progress
after_call r kept = record { last = number_of r.answer; world = r.world; kept = kept }

-- one number of a list: 0 keeps the record, 1 goes back to the one kept, others are calls, for the core x / 16
unfoldable pub after_number : (World → ℕ → ℕ → Result) → Progress → ℕ → Progress
after_number step s x =
    cond (x % 16 == 0) (record { last = s.last; world = s.world; kept = s.world.machine })
    (cond (x % 16 == 1) (record { last = s.last; world = with_machine s.world s.kept; kept = s.kept })
    (after_call (step s.world (x % 16) (x / 16)) s.kept))

-- the numbers of a list, one after another
unfoldable pub run : (World → ℕ → ℕ → Result) → Progress → List ℕ → Progress
run step s [] = s
run step s (x ∷ xs) = run step (after_number step s x) xs

-- a machine that setup made ready
abbrev pub ready : World → Progress
ready w = record { last = 1; world = w; kept = w.machine }

-- what setup leaves
abbrev pub start : Result → Progress
start r = after_call r r.world.machine

-- the list on a new machine, by the public calls
unfoldable pub door_run : Result → List ℕ → Progress
door_run made list = run door (start made) list

-- the same in place, if setup answers ready, the enum's first case
unfoldable pub inside_run : Result → List ℕ → Progress
inside_run made list = cond (kind made.answer == 0) (run inside (start made) list) (start made)
