-- The eight calls (document 01, as document 02 amends it): for each the answer and what comes after it, refusals first, the smallest that
-- applies.
use Rattle.std.specs.Prelude.{ℕ, zero, suc, ◌+◌, ◌*◌, Bool, cond, not, ◌&&◌, List, [], ◌∷◌, length, replicate, ◌==◌, nat_lt, slice_index, slice_set}
use Rattle.objset.specs.Objset.{has, some}
use Rattle.machine.specs.declared.Machine.{Machine}
use Rattle.one_core.specs.declared.Core.{Core}
use Rattle.one_core.specs.declared.Job.{Job}
use Rattle.one_core.specs.declared.Answer.{Answer}
use Rattle.one_core.specs.declared.Answer.TheVariants.{Ready, Running, Queued, Begun, Value, Written, Waits, Committed, SetBack, Ended, Finished, Refused}
use Rattle.machine.specs.declared.Outcome.{Outcome}
use Rattle.one_core.specs.Parts.{most_cores, job_at, running}
use Rattle.one_core.specs.Life.{with_job, without_job, with_transaction, unmarked, with_read, with_write, is_read_only, holds_back, struck_by, over}
use Rattle.one_core.specs.Calls as Core
use Rattle.one_core.specs.Calls.{first}
use Rattle.machine.specs.Record.{core_at, active_at, sizes_in_range, blank, machine_of, put_core}
use Rattle.machine.specs.Sound.{sound}

-- the record and the two lent tables: the committed values, one per card, and the pending values, cores × cards words
pub record World : Type 0 where
  pub machine : Machine
  pub committed : List ℕ
  pub pending : List ℕ

-- what a call gives: its answer, and the record and the tables after it
pub record Result : Type 0 where
  pub answer : Answer
  pub world : World

-- a record with the tables that are lent beside it
abbrev pub lent : Machine → List ℕ → List ℕ → World
lent m committed pending = record { machine = m; committed = committed; pending = pending }

-- what a call handed back, with the tables as it left them
abbrev pub left : Outcome → List ℕ → List ℕ → Result
left o committed pending = record { answer = o.answer; world = lent o.machine committed pending }

abbrev pub with_machine : World → Machine → World
with_machine w m = record { machine = m; committed = w.committed; pending = w.pending }

-- the number of a refusal takes the place of what an accepted call gives; the record is handed back as given
unfoldable pub unless : ℕ → Machine → Outcome → Outcome
unless zero m accepted = accepted
unless (suc n) m accepted = record { answer = Refused (suc n); machine = m }

-- the same for a call that is lent the tables: they keep every word
unfoldable pub unless_lent : ℕ → World → Result → Result
unless_lent zero w accepted = accepted
unless_lent (suc n) w accepted = record { answer = Refused (suc n); world = w }

-- ---- the conditions of refusals

abbrev pub unsound : Machine → Bool
unsound m = not (sound m)

-- cores not 1 to 16 or cards not 1 to 64
abbrev pub sizes_out_of_range : ℕ → ℕ → Bool
sizes_out_of_range cores objects = not (sizes_in_range cores objects)

-- either table's length is wrong, for a machine of that many cores and cards
abbrev pub misfit : ℕ → ℕ → List ℕ → List ℕ → Bool
misfit cores objects committed pending = not (length committed == objects && length pending == cores * objects)

abbrev pub wrong_tables : World → Bool
wrong_tables w = misfit w.machine.cores w.machine.objects w.committed w.pending

abbrev pub no_such_core : Machine → ℕ → Bool
no_such_core m c = not (nat_lt c m.cores)

abbrev pub no_such_object : Machine → ℕ → Bool
no_such_object m d = not (nat_lt d m.objects)

abbrev pub full_list : Machine → ℕ → Bool
full_list m c = Core.full_list_on (core_at m c)

abbrev pub jobless : Machine → ℕ → Bool
jobless m c = Core.jobless_on (core_at m c)

-- 4,294,967,295 tickets given
abbrev pub tickets_spent : Machine → Bool
tickets_spent m = Core.all_given m.tickets

-- ---- setup: no jobs, no transactions, all versions and both tables zero

abbrev pub new_world : ℕ → ℕ → World
new_world cores objects = lent (machine_of cores objects) (replicate objects 0) (replicate (cores * objects) 0)

unfoldable pub setup : ℕ → ℕ → List ℕ → List ℕ → Result
setup cores objects committed pending =
    unless_lent (first ((sizes_out_of_range cores objects, 1) ∷ (misfit cores objects committed pending, 3) ∷ [])) (lent blank committed pending)
    (record { answer = Ready; world = new_world cores objects })

-- ---- release: the job joins the end of the core's list

unfoldable pub released : Machine → ℕ → Job → Outcome
released m c j =
    let k : Core = with_job (core_at m c) j in
    record { answer = cond (running k == (core_at m c).count) Running Queued; machine = put_core m c k }

unfoldable pub release : Machine → ℕ → ℕ → ℕ → Outcome
release m c number deadline =
    unless (first ((unsound m, 2) ∷ (no_such_core m c, 4) ∷ (full_list m c, 6) ∷ [])) m
    (released m c (record { number = number; deadline = deadline }))

-- ---- begin: the running job's transaction gets the next ticket; its sets are empty, its setbacks 0

unfoldable pub begun : Machine → ℕ → Outcome
begun m c =
    let k : Core = core_at m c in
    record {
      answer = Begun m.tickets;
      machine =
          record {
            cores = m.cores;
            objects = m.objects;
            tickets = m.tickets + 1;
            commits = m.commits;
            give_ups = m.give_ups;
            core = slice_set m.core c (with_transaction k m.tickets);
            versions = m.versions;
          };
    }

unfoldable pub begin : Machine → ℕ → Outcome
begin m c =
    unless
    (first
    ((unsound m, 2) ∷ (no_such_core m c, 4) ∷ (jobless m c, 7) ∷ (active_at m c, 8) ∷ (tickets_spent m, 10) ∷ [])) m
    (begun m c)

-- ---- a marked transaction's next read, write or commit answers set back and takes away the mark

unfoldable pub set_back_told : World → ℕ → Result
set_back_told w c = record { answer = SetBack; world = with_machine w (put_core w.machine c (unmarked (core_at w.machine c))) }

-- the refusals of read and write
unfoldable pub access_refusal : World → ℕ → ℕ → ℕ
access_refusal w c d =
    first
    ((unsound w.machine, 2) ∷ (wrong_tables w, 3) ∷ (no_such_core w.machine c, 4) ∷ (no_such_object w.machine d, 5)
    ∷ (not (active_at w.machine c), 9) ∷ [])

-- the word of the pending table for core c and card d
abbrev pub slot : Machine → ℕ → ℕ → ℕ
slot m c d = c * m.objects + d

-- ---- read: the pending value if this attempt wrote it, else the committed value; the card joins the read set

unfoldable pub value_read : World → ℕ → ℕ → ℕ
value_read w c d =
    cond (has (core_at w.machine c).writes d) (slice_index w.pending (slot w.machine c d)) (slice_index w.committed d)

unfoldable pub valued : World → ℕ → ℕ → Result
valued w c d =
    let k : Core = core_at w.machine c in
    record {
      answer = Value (value_read w c d) (slice_index w.machine.versions d);
      world = with_machine w (put_core w.machine c (with_read k d));
    }

unfoldable pub read : World → ℕ → ℕ → Result
read w c d = unless_lent (access_refusal w c d) w (cond (core_at w.machine c).zombie (set_back_told w c) (valued w c d))

-- ---- write: stores the pending word; the card joins the write set

unfoldable pub written : World → ℕ → ℕ → ℕ → Result
written w c d v =
    let k : Core = core_at w.machine c in
    record {
      answer = Written;
      world =
          record {
            machine = put_core w.machine c (with_write k d);
            committed = w.committed;
            pending = slice_set w.pending (slot w.machine c d) v;
          };
    }

unfoldable pub write : World → ℕ → ℕ → ℕ → Result
write w c d v = unless_lent (access_refusal w c d) w (cond (core_at w.machine c).zombie (set_back_told w c) (written w c d v))

-- ---- commit

-- core e holds a conflicting transaction with a smaller ticket than core c's
unfoldable pub contender : Machine → ℕ → ℕ → Bool
contender m c e = holds_back (core_at m e) (core_at m c)

-- some core holds one
unfoldable pub blocked : Machine → ℕ → Bool
blocked m c = some most_cores (contender m c)

-- if a conflicting transaction has a smaller ticket, a commit waits, unless it is read-only: then it commits when requested (document 02, paper 4)
abbrev pub must_wait : Machine → ℕ → Bool
must_wait m c = not (is_read_only (core_at m c)) && blocked m c

-- of the numbers below n that pass f, if one does, the one of smallest key, the first of them among equals
unfoldable pub least_by : (ℕ → ℕ) → ℕ → (ℕ → Bool) → ℕ
least_by key zero f = 0
least_by key (suc n) f = cond (some n f) (cond (f n && nat_lt (key n) (key (least_by key n f))) n (least_by key n f)) n

-- the core with the smallest conflicting ticket, where the commit is blocked (document 02, paper 1)
abbrev pub first_ahead : Machine → ℕ → ℕ
first_ahead m c = least_by (λ e. (core_at m e).ticket) most_cores (contender m c)

-- every core but c by `struck_by`, core c by `over`; the list starts with core i
unfoldable pub cleared : ℕ → ℕ → ℕ → List Core → List Core
cleared ws c i [] = []
cleared ws c i (k ∷ ks) = cond (i == c) (over k) (struck_by ws k) ∷ cleared ws c (suc i) ks

-- a list with its entries at the objects of the set ws changed by f; the list starts with object i
unfoldable pub changed : ℕ → (ℕ → ℕ → ℕ) → ℕ → List ℕ → List ℕ
changed ws f i [] = []
changed ws f i (x ∷ xs) = cond (has ws i) (f i x) x ∷ changed ws f (suc i) xs

-- what becomes of the committed value v of a written card d: the pending value
abbrev pub moved : World → ℕ → ℕ → ℕ → ℕ
moved w c d v = slice_index w.pending (slot w.machine c d)

-- the transaction ends, the write set's pending values become committed, each written card's version rises by one
unfoldable pub through : World → ℕ → Result
through w c =
    let m : Machine = w.machine in
    let ws : ℕ = (core_at m c).writes in
    record {
      answer = Committed (core_at m c).aborts;
      world =
          record {
            machine =
                record {
                  cores = m.cores;
                  objects = m.objects;
                  tickets = m.tickets;
                  commits = m.commits + 1;
                  give_ups = m.give_ups;
                  core = cleared ws c 0 m.core;
                  versions = changed ws (λ d v. v + 1) 0 m.versions;
                };
            committed = changed ws (moved w c) 0 w.committed;
            pending = w.pending;
          };
    }

-- waits, with the core that is first ahead; nothing else changes
abbrev pub waiting : World → ℕ → Result
waiting w c = record { answer = Waits (first_ahead w.machine c); world = w }

unfoldable pub commit_refusal : World → ℕ → ℕ
commit_refusal w c =
    first
    ((unsound w.machine, 2) ∷ (wrong_tables w, 3) ∷ (no_such_core w.machine c, 4) ∷ (not (active_at w.machine c), 9) ∷ [])

unfoldable pub commit : World → ℕ → Result
commit w c =
    unless_lent (commit_refusal w c) w
    (cond (core_at w.machine c).zombie (set_back_told w c) (cond (must_wait w.machine c) (waiting w c) (through w c)))

-- ---- give up: the transaction ends without effect

unfoldable pub ended : Machine → ℕ → Outcome
ended m c =
    record {
      answer = Ended;
      machine =
          record {
            cores = m.cores;
            objects = m.objects;
            tickets = m.tickets;
            commits = m.commits;
            give_ups = m.give_ups + 1;
            core = slice_set m.core c (over (core_at m c));
            versions = m.versions;
          };
    }

unfoldable pub give_up : Machine → ℕ → Outcome
give_up m c = unless (first ((unsound m, 2) ∷ (no_such_core m c, 4) ∷ (not (active_at m c), 9) ∷ [])) m (ended m c)

-- ---- finish: the running job leaves the list, the others keep their order; its number is the answer

unfoldable pub finished : Machine → ℕ → Outcome
finished m c =
    let k : Core = core_at m c in
    record {
      answer = Finished (job_at k (running k)).number;
      machine = put_core m c (without_job k (running k));
    }

unfoldable pub finish : Machine → ℕ → Outcome
finish m c =
    unless (first ((unsound m, 2) ∷ (no_such_core m c, 4) ∷ (jobless m c, 7) ∷ (active_at m c, 8) ∷ [])) m (finished m c)

-- ---- one rule for the seven calls after setup

pub data Call : Type 0 where
  -- core, job number, deadline
  Release : ℕ → ℕ → ℕ → Call
  Begin : ℕ → Call
  -- core, card
  Read : ℕ → ℕ → Call
  -- core, card, value
  Write : ℕ → ℕ → ℕ → Call
  Commit : ℕ → Call
  GiveUp : ℕ → Call
  Finish : ℕ → Call

-- a call that is lent no table leaves both as they are
abbrev pub unlent : World → Outcome → Result
unlent w o = record { answer = o.answer; world = with_machine w o.machine }

-- the answer and the next world
unfoldable pub rule : World → Call → Result
rule w (Release c number deadline) = unlent w (release w.machine c number deadline)
rule w (Begin c) = unlent w (begin w.machine c)
rule w (Read c d) = read w c d
rule w (Write c d v) = write w c d v
rule w (Commit c) = commit w c
rule w (GiveUp c) = unlent w (give_up w.machine c)
rule w (Finish c) = unlent w (finish w.machine c)

-- the core that a call is for
abbrev pub core_of : Call → ℕ
core_of (Release c number deadline) = c
core_of (Begin c) = c
core_of (Read c d) = c
core_of (Write c d v) = c
core_of (Commit c) = c
core_of (GiveUp c) = c
core_of (Finish c) = c
