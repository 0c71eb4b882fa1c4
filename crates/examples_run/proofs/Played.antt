-- A list of calls with answers, oldest first, as a run: played by the rule, the calls get these answers. Two lists: case A of
-- document 01, and a tight run, in which a transaction stays in progress as long as the claim lets it.
use Rattle.std.proofs.Common.{◌≡◌, ℕ, ◌*◌, List, [], ◌∷◌, ◌++◌, map, length, drop, replicate, refl}
use Rattle.objset.specs.Objset.{has, collect, some, each, none, is_empty, added, joined, meeting, below}
use Rattle.one_core.specs.declared.Answer.TheVariants.{Running, Begun, Value, Written, Waits, Committed, SetBack, Ended, Refused}
use Rattle.one_core.specs.Parts.{least, running}
use Rattle.one_core.specs.Calls.{first}
use Rattle.one_core.specs.Life.{struck_by}
use Rattle.machine.specs.Answers.{kind, values}
use Rattle.machine.specs.Record.{tally}
use Rattle.machine.specs.Sound.{in_range, sets_within, owner_listed, idle_clear, zombie_empty, few_jobs, unused_jobs, lacked_cores, lacked_objects, owner_first, tickets_differ, tickets_given, tickets_counted, versions_bounded, smaller_tickets, aborts_bounded, sound}
use Rattle.machine.specs.Rule.{World, Call, Release, Begin, Read, Write, Commit, GiveUp, unless, unless_lent, setup, released, release, begun, begin, set_back_told, access_refusal, value_read, valued, read, written, write, contender, blocked, least_by, cleared, changed, through, commit_refusal, commit, ended, give_up, finished, finish, rule}
use Rattle.machine.specs.Words.{Event, amounts, deeds}
use Rattle.machine.proofs.Run.TightRun as Run
use Rattle.machine.proofs.Run.EveryList.{played}
use Rattle.examples_run.proofs.Examples.{Expected, ◌⇝◌, example_a}

-- of calls with their answers, oldest first: the calls, and the events, newest first
abbrev pub calls : List Expected → List Call
calls xs = map (λ (x : Expected). x.call) xs

unfoldable pub events : List Event → List Expected → List Event
events es [] = es
events es (x ∷ xs) = events (record { call = x.call; answer = x.answer } ∷ es) xs

-- the world of a setup over tables of sevens
abbrev pub start : ℕ → ℕ → World
start cores objects = (setup cores objects (replicate objects 7) (replicate (cores * objects) 7)).world

-- ---- a tight run

-- Two cores and one card. T is begun on core 0 while one earlier transaction, E, is in progress on core 1, and no attempt of either has
-- more than one read or write: k = 1, L = 1. A third, X on core 0, has struck E before that.
unfoldable pub opening : List Expected
opening =
    (Release 0 1 90 ⇝ Running) ∷ (Release 1 2 90 ⇝ Running) ∷ (Begin 0 ⇝ Begun 0) ∷ (Begin 1 ⇝ Begun 1) ∷ (Read 1 0 ⇝ Value 0 0)
    ∷ (Write 0 0 5 ⇝ Written) ∷ (Commit 0 ⇝ Committed 0) ∷ []

-- T's begin, a call that is refused, and five rounds of T and E: T writes, so that it has to wait; E is told, writes, and commits, which
-- strikes T; T is told, and reads
unfoldable pub tight : List Expected
tight =
    (Begin 0 ⇝ Begun 2) ∷ (Read 1 1 ⇝ Refused 5)
    ∷ (Write 0 0 7 ⇝ Written) ∷ (Read 1 0 ⇝ SetBack)
    ∷ (Write 1 0 6 ⇝ Written) ∷ (Commit 0 ⇝ Waits 1)
    ∷ (Commit 0 ⇝ Waits 1) ∷ (Commit 1 ⇝ Committed 1)
    ∷ (Commit 0 ⇝ SetBack)
    ∷ (Read 0 0 ⇝ Value 6 2)
    ∷ []

-- and one round more
unfoldable pub last : List Expected
last = (Commit 0 ⇝ Committed 1) ∷ []

-- afterwards: on core 1 one that reads what it wrote and writes it again, and commits; on core 0 meanwhile one that touches nothing and
-- commits, and one that only writes, is struck and is given up; then one that writes and is given up
unfoldable pub afterwards : List Expected
afterwards =
    (Begin 1 ⇝ Begun 3) ∷ (Write 1 0 9 ⇝ Written) ∷ (Read 1 0 ⇝ Value 9 2) ∷ (Begin 0 ⇝ Begun 4) ∷ (Begin 0 ⇝ Refused 8)
    ∷ (Commit 0 ⇝ Committed 0) ∷ (Begin 0 ⇝ Begun 5) ∷ (Write 0 0 7 ⇝ Written) ∷ (Write 1 0 8 ⇝ Written) ∷ (Commit 1 ⇝ Committed 0)
    ∷ (GiveUp 0 ⇝ Ended) ∷ (Begin 1 ⇝ Begun 6) ∷ (Write 1 0 4 ⇝ Written) ∷ (GiveUp 1 ⇝ Ended) ∷ []

abbrev pub tight_run : List Expected
tight_run = opening ++ tight ++ last ++ afterwards

-- ---- the rule gives these answers

pub both-played : (played (start 2 2) [] (calls example_a.calls) ≡ events [] example_a.calls)
    × (played (start 2 1) [] (calls tight_run) ≡ events [] tight_run)
unfolding example_a opening tight last afterwards played events rule setup first unless unless_lent released release begun begin set_back_told access_refusal value_read valued read written write contender blocked least_by struck_by cleared changed through commit_refusal commit ended give_up finished finish tally least running in_range sets_within owner_listed idle_clear zombie_empty few_jobs unused_jobs lacked_cores lacked_objects owner_first tickets_differ tickets_given tickets_counted versions_bounded smaller_tickets aborts_bounded sound has collect some each none is_empty added joined meeting below
both-played = (refl, refl)

-- up to its last round the tight run has the deeds of which machine's laws show that neither bound can be smaller
pub tight-played : drop (length afterwards) (deeds (events [] tight_run)) ≡ Run.tight
unfolding opening tight last afterwards events amounts deeds kind values Run.early Run.start Run.five Run.tight
tight-played = refl
