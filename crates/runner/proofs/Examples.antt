-- Listings, and the calls of two runs, by computation: document 01's cases A, K and L, and scripts at the edges.
use Rattle.std.proofs.Common.{◌≡◌, ℕ, List, [], ◌∷◌, ◌++◌, map, drop, refl}
use mathlib.Core.List.{flatten}
use Prim.Native.Char.{code}
use Prim.Native.String.{String, [] as no_text, ◌∷◌ as ◌then◌}
use Rattle.objset.specs.Objset.{has, collect, some, each, none, is_empty, added, joined, meeting, below}
use Rattle.decimal.specs.Spelling.{spelling, spelling_in}
use Rattle.decimal.specs.Reading.{all_digits, no_leading_zero, value_after, is_number, read_as_number}
use Rattle.machine.specs.Record.{tally}
use Rattle.one_core.specs.Parts.{least, running}
use Rattle.machine.specs.Sound.{in_range, sets_within, owner_listed, idle_clear, zombie_empty, few_jobs, unused_jobs, lacked_cores, lacked_objects, owner_first, tickets_differ, tickets_given, tickets_counted, versions_bounded, smaller_tickets, aborts_bounded, sound}
use Rattle.one_core.specs.Calls.{first}
use Rattle.machine.specs.Rule as Rule
use Rattle.machine.specs.Rule.{unless, unless_lent, setup, released, release, begun, begin, set_back_told, access_refusal, value_read, valued, read, written, write, contender, blocked, least_by, cleared, changed, through, commit_refusal, commit, ended, give_up, finished, finish, rule}
use Rattle.one_core.specs.Life.{struck_by}
use Rattle.one_core.specs.declared.Answer.{Answer}
use Rattle.one_core.specs.declared.Answer.TheVariants.{Running, Begun, Written, Committed, Refused}
use Rattle.machine.specs.Words.{Event}
use Rattle.table.specs.Pieces as Pieces
use Rattle.table.specs.Pieces.{onto, pieces, lines}
use Rattle.table.specs.Fields.{fields_of, place, places_of, all_stand, columns, columns_of}
use Rattle.script.specs.Line as Line
use Rattle.script.specs.Line.{fields, ordered, names, verb, field, with_number, with_dash, spelt, meant, spells}
use Rattle.listing.specs.Text.{said, line}
use Rattle.runner.specs.Listing.{set_up, met, request, answered, value_rows, rows_after, rows_of, rows, listed, listing}
use Rattle.runner.specs.Runs.{anew, ends_run, event_of, event, events}

-- the bytes of a text, whose characters are all below 128
bytes : String → List ℕ
bytes no_text = []
bytes (c then s) = code c ∷ bytes s

-- lines, each with its newline
ends : List String → List ℕ
ends ls = flatten (map (λ l. bytes l ++ 10 ∷ []) ls)

-- ---- each line of a script beside the line of its listing, the line of names beside the heading

case_a : List (String × String)
case_a =
    ("call core card value", "line answer value")
    ∷ ("setup 2 2 -", "2 ready -")
    ∷ ("release 0 7 100", "3 running -")
    ∷ ("release 1 8 90", "4 running -")
    ∷ ("begin 0 - -", "5 begun 0")
    ∷ ("begin 1 - -", "6 begun 1")
    ∷ ("read 1 0 -", "7 value 0")
    ∷ ("write 0 0 30", "8 written -")
    ∷ ("write 1 1 4", "9 written -")
    ∷ ("commit 1 - -", "10 waits 0")
    ∷ ("commit 0 - -", "11 committed 0")
    ∷ ("commit 1 - -", "12 setback -")
    ∷ ("read 1 0 -", "13 value 30")
    ∷ ("commit 1 - -", "14 committed 1") ∷ []

-- a job released during a transaction runs after it, by its deadline
case_k : List (String × String)
case_k =
    ("call core card value", "line answer value")
    ∷ ("setup 1 1 -", "2 ready -")
    ∷ ("release 0 7 90", "3 running -")
    ∷ ("begin 0 - -", "4 begun 0")
    ∷ ("release 0 8 10", "5 queued -")
    ∷ ("commit 0 - -", "6 committed 0")
    ∷ ("finish 0 - -", "7 finished 8")
    ∷ ("finish 0 - -", "8 finished 7") ∷ []

-- 4,294,967,295 is a number, the next is none
case_l : List (String × String)
case_l =
    ("call core card value", "line answer value")
    ∷ ("setup 1 1 -", "2 ready -")
    ∷ ("write 0 0 4294967295", "3 refused 9")
    ∷ ("write 0 0 4294967296", "4 refused 11") ∷ []

-- ---- scripts and their listings

by_line : List (String × String) → List ℕ × List ℕ
by_line rows = (ends (map (λ row. row.0) rows), ends (map (λ row. row.1) rows))

whole : String → String → List ℕ × List ℕ
whole script expected = (bytes script, bytes expected)

table : List (List ℕ × List ℕ)
table =
    by_line case_a ∷ by_line case_k ∷ by_line case_l
    -- empty input
    ∷ whole "" "line answer value\n1 refused 11\n"
    -- a bad line of names
    ∷ whole "call core card card\nsetup 1 1 -\n" "line answer value\n1 refused 11\n"
    -- the last newline is missing
    ∷ whole "call core card value\nsetup 1 1 -" "line answer value\n2 ready -\n"
    -- an empty line
    ∷ whole "call core card value\n\nsetup 1 1 -\n" "line answer value\n2 refused 11\n3 ready -\n"
    -- no setup yet, then a setup, and one that is refused: the record is blank again
    ∷ whole "call core card value\nbegin 0 - -\nsetup 1 1 -\nsetup 17 1 -\nbegin 0 - -\n" "line answer value\n2 refused 2\n3 ready -\n4 refused 1\n5 refused 2\n"
    -- names in another order
    ∷ whole "value card call core\n- 2 setup 1\n" "line answer value\n2 ready -\n"
    ∷ []

-- ---- the calls of a run, from an accepted setup to the next setup, newest first

-- a refused call is one of them, a line that is no call is not, and a setup ends them, the refused one too
two_runs : String
two_runs = "call core card value\nsetup 1 1 -\nbegin 0 - -\nrelease 0 7 90\nbegin 0 - -\nfly 0 - -\nwrite 0 0 5\ncommit 0 - -\nsetup 17 1 -\nbegin 0 - -\nsetup 1 1 -\nfinish 0 - -\n"

abbrev did : Rule.Call → Answer → Event
did call answer = record { call = call; answer = answer }

computed : (map (λ row. listing row.0) table ≡ map (λ row. row.1) table)
    × (map (λ n. events [] (drop n (rows (bytes two_runs)))) (1 ∷ 10 ∷ [])
    ≡ (did (Rule.Commit 0) (Committed 0) ∷ did (Rule.Write 0 0 5) Written ∷ did (Rule.Begin 0) (Begun 0)
    ∷ did (Rule.Release 0 7 90) Running ∷ did (Rule.Begin 0) (Refused 7) ∷ [])
    ∷ (did (Rule.Finish 0) (Refused 7) ∷ []) ∷ [])
unfolding table two_runs events ends_run anew event event_of by_line whole case_a case_k case_l ends bytes flatten listing listed rows_of rows_after value_rows answered met request set_up lines Pieces.without_last_empty pieces onto fields_of place places_of all_stand columns columns_of names ordered spells meant Line.whole fields verb field with_number with_dash spelt read_as_number is_number all_digits no_leading_zero value_after spelling spelling_in line said rule setup first unless unless_lent released release begun begin set_back_told access_refusal value_read valued read written write contender blocked least_by struck_by cleared changed through commit_refusal commit ended give_up finished finish tally least running in_range sets_within owner_listed idle_clear zombie_empty few_jobs unused_jobs lacked_cores lacked_objects owner_first tickets_differ tickets_given tickets_counted versions_bounded smaller_tickets aborts_bounded sound has collect some each none is_empty added joined meeting below
computed = (refl, refl)

each-listing : map (λ row. listing row.0) table ≡ map (λ row. row.1) table
each-listing = computed.0
