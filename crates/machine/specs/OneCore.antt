-- A call concerns one core of the record: where it finds it, what it sees beside it, and what it leaves there; and a commit.
use Rattle.std.specs.Prelude.{ℕ, ◌+◌, ◌*◌, Bool, true, false, cond, not, ◌&&◌, List, [], ◌∷◌, Option, None, Some, Result, Ok, Err, get_or, replicate, nat_lt, slice_index, slice_index_or, slice_set}
use Rattle.objset.specs.Objset.{some}
use Rattle.one_core.specs.declared.Core.{Core}
use Rattle.one_core.specs.declared.Answer.TheVariants.{Waits, Committed, SetBack, Refused}
use Rattle.one_core.specs.declared.calls.Act.{Act}
use Rattle.one_core.specs.declared.calls.Seen.{Seen}
use Rattle.one_core.specs.declared.calls.Acted.{Acted}
use Rattle.one_core.specs.declared.refusal.Refusal.{Refusal}
use Rattle.one_core.specs.declared.refusal.Refusal.TheVariants.{Unsound, WrongTable, NoSuchCore, NoSuchObject, NoneInProgress}
use Rattle.one_core.specs.Parts.{most_cores, no_core}
use Rattle.one_core.specs.Life.{unmarked, over, is_read_only, holds_back, struck_by}
use Rattle.one_core.specs.Refusal.{number}
use Rattle.one_core.specs.Calls.{unless_on, taken, answered_on}
use Rattle.machine.specs.declared.Machine.{Machine}
use Rattle.machine.specs.declared.Outcome.{Outcome}
use Rattle.machine.specs.declared.inside.calls.Place.{Place}
use Rattle.machine.specs.Record.{core_at, put_core}
use Rattle.machine.specs.Rule as Rule
use Rattle.machine.specs.Rule.{World, lent, with_machine, unsound, wrong_tables, least_by, changed, moved, Call, Release, Begin, Read, Write, GiveUp, Finish}

-- ---- a call that concerns one core

-- the call, on core c
abbrev pub call_of : Act → ℕ → Call
call_of (Act.Release number deadline) c = Release c number deadline
call_of Act.Begin c = Begin c
call_of (Act.Read d) c = Read c d
call_of (Act.Write d v) c = Write c d v
call_of Act.GiveUp c = GiveUp c
call_of Act.Finish c = Finish c

-- the place of core c, where a machine of that many cores has it
abbrev pub found_core : ℕ → ℕ → Result ℕ Refusal
found_core c cores = cond (nat_lt c cores) (Ok c) (Err NoSuchCore)

-- the places of core c and card d, where a machine of that many cores and cards has both
abbrev pub found : ℕ → ℕ → ℕ → ℕ → Result Place Refusal
found c d cores objects =
    cond (nat_lt c cores) (cond (nat_lt d objects) (Ok (record { core = c; object = d })) (Err NoSuchObject)) (Err NoSuchCore)

-- what a call sees beside its core: the counts of tickets and give-ups, this committed value and this pending one, the version of card d
abbrev pub sees : Machine → ℕ → ℕ → ℕ → Seen
sees m d committed pending =
    record { tickets = m.tickets; give_ups = m.give_ups; committed = committed; pending = pending; version = slice_index m.versions d }

-- what the call at that place leaves, where it sees these values
abbrev pub acted_at : Machine → Place → Act → ℕ → ℕ → Acted
acted_at m at act committed pending =
    let k : Core = core_at m at.core in
    let s : Seen = sees m at.object committed pending in
    answered_on k s (taken act k s)

-- the record with what the call left on core c, and the counts
abbrev pub with_acted : Machine → ℕ → Acted → Machine
with_acted m c r =
    record {
      cores = m.cores;
      objects = m.objects;
      tickets = r.tickets;
      commits = m.commits;
      give_ups = r.give_ups;
      core = slice_set m.core c r.core;
      versions = m.versions;
    }

-- a record with tables of zeros, for a call that is lent none
abbrev pub zeroed : Machine → World
zeroed m = lent m (replicate m.objects 0) (replicate (m.cores * m.objects) 0)

-- what such a call hands back
abbrev pub handed : Rule.Result → Outcome
handed x = record { answer = x.answer; machine = x.world.machine }

-- the call is lent the tables
abbrev pub lends : Act → Bool
lends (Act.Read d) = true
lends (Act.Write d v) = true
lends _ = false

-- ---- what the public calls do besides

-- an unsound record and wrong tables are refused
abbrev pub checked : World → Result (Unit {0}) Refusal
checked w = unless_on ((unsound w.machine, Unsound) ∷ (wrong_tables w, WrongTable) ∷ []) tt

-- ---- commit

-- the core that core k's transaction waits for at its commit: of those that hold it back the one of smallest ticket; nobody, where it is
-- read-only
abbrev pub first_holding : List Core → Core → Option ℕ
first_holding cores k =
    let holding : (ℕ → Bool) = λ e. holds_back (slice_index_or cores e no_core) k in
    cond (not (is_read_only k) && some most_cores holding) (Some (least_by (λ e. (get_or cores e no_core).ticket) most_cores holding)) None

-- each transaction that the write set ws strikes is set back
unfoldable pub struck_all : ℕ → List Core → List Core
struck_all ws [] = []
struck_all ws (k ∷ ks) = struck_by ws k ∷ struck_all ws ks

-- the transaction of core c is over and its write set is carried out
abbrev pub carried_out : World → ℕ → Rule.Result
carried_out w c =
    let k : Core = core_at w.machine c in
    record {
      answer = Committed k.aborts;
      world =
          lent
          (record {
            cores = w.machine.cores;
            objects = w.machine.objects;
            tickets = w.machine.tickets;
            commits = w.machine.commits + 1;
            give_ups = w.machine.give_ups;
            core = struck_all k.writes (slice_set w.machine.core c (over k));
            versions = changed k.writes (λ d v. v + 1) 0 w.machine.versions;
          })
          (changed k.writes (moved w c) 0 w.committed) w.pending;
    }

-- it waits for the core that is first ahead of it; where none is, it is carried out
abbrev pub waits_or : World → ℕ → Option ℕ → Rule.Result
waits_or w c (Some e) = record { answer = Waits e; world = w }
waits_or w c None = carried_out w c

-- what a commit gives, of where it found its core and who is first ahead there: refused, told that it was set back, waiting, or through
abbrev pub settled_at : World → Result ℕ Refusal → Option ℕ → Rule.Result
settled_at w (Ok c) ahead =
    let k : Core = core_at w.machine c in
    cond k.active
    (cond k.zombie (record { answer = SetBack; world = with_machine w (put_core w.machine c (unmarked k)) }) (waits_or w c ahead))
    (record { answer = Refused (number NoneInProgress); world = w })
settled_at w (Err r) ahead = record { answer = Refused (number r); world = w }
