-- What a call gives on its core (document 01), once the core and the card are found: refusals first, in the order of their numbers.
use Rattle.std.specs.Prelude.{◌≡◌, ℕ, ◌+◌, ◌<◌, ◌≤◌, Bool, true, false, cond, not, List, [], ◌∷◌, Result, Ok, Err, ◌==◌, nat_le}
use Rattle.objset.specs.Objset.{has}
use Rattle.one_core.specs.declared.Core.{Core}
use Rattle.one_core.specs.declared.Job.{Job}
use Rattle.one_core.specs.declared.Answer.{Answer}
use Rattle.one_core.specs.declared.Answer.TheVariants.{Running, Queued, Begun, Value, Written, SetBack, Ended, Finished, Refused}
use Rattle.one_core.specs.declared.calls.Act.{Act}
use Rattle.one_core.specs.declared.calls.Act.TheVariants.{Release, Begin, Read, Write, GiveUp, Finish}
use Rattle.one_core.specs.declared.calls.Seen.{Seen}
use Rattle.one_core.specs.declared.calls.Acted.{Acted}
use Rattle.one_core.specs.declared.refusal.Refusal.{Refusal}
use Rattle.one_core.specs.declared.refusal.Refusal.TheVariants.{ListFull, NoJob, InProgress, NoneInProgress, TicketsSpent}
use Rattle.one_core.specs.Parts.{most_jobs, job_at, running}
use Rattle.one_core.specs.Life.{with_job, without_job, with_transaction, unmarked, with_read, with_write, over, is_read_only}
use Rattle.one_core.specs.Refusal.{number}

-- the first condition that holds, by its number; 0 where none does (the machine's rule has its refusals by it)
unfoldable pub first : List (Bool × ℕ) → ℕ
first [] = 0
first (x ∷ xs) = cond x.0 x.1 (first xs)

-- refused by the first condition that holds; accepted where none does
unfoldable pub unless_on : {A : Type 0} → List (Bool × Refusal) → A → Result A Refusal
unless_on [] accepted = Ok accepted
unless_on (x ∷ xs) accepted = cond x.0 (Err x.1) (unless_on xs accepted)

-- the card that a call names; 0 where it names none
abbrev pub object_of : Act → ℕ
object_of (Release number deadline) = 0
object_of Begin = 0
object_of (Read d) = d
object_of (Write d v) = d
object_of GiveUp = 0
object_of Finish = 0

-- this core and this answer; all else as it was seen
abbrev pub left_on : Core → Seen → Answer → Acted
left_on k s a = record { core = k; tickets = s.tickets; give_ups = s.give_ups; pending = s.pending; answer = a }

-- what is left of core k: a refusal, by its number, changes nothing
abbrev pub answered_on : Core → Seen → Result Acted Refusal → Acted
answered_on k s (Ok acted) = acted
answered_on k s (Err r) = left_on k s (Refused (number r))

-- ---- the conditions of refusals

-- the core has 8 jobs
abbrev pub full_list_on : Core → Bool
full_list_on k = nat_le most_jobs k.count

-- it has no job
abbrev pub jobless_on : Core → Bool
jobless_on k = k.count == 0

-- no transaction is in progress
abbrev pub inactive : Core → Bool
inactive k = not k.active

-- 4,294,967,295 tickets given
abbrev pub all_given : ℕ → Bool
all_given tickets = nat_le 4294967295 tickets

-- ---- release: the job joins the end of the list

abbrev pub released_on : Core → Seen → Job → Acted
released_on k s j = left_on (with_job k j) s (cond (running (with_job k j) == k.count) Running Queued)

unfoldable pub release_on : Core → Seen → Job → Result Acted Refusal
release_on k s j = unless_on ((full_list_on k, ListFull) ∷ []) (released_on k s j)

-- ---- begin: the running job's transaction gets the next ticket

abbrev pub begun_on : Core → Seen → Acted
begun_on k s =
    record {
      core = with_transaction k s.tickets;
      tickets = s.tickets + 1;
      give_ups = s.give_ups;
      pending = s.pending;
      answer = Begun s.tickets;
    }

unfoldable pub begin_on : Core → Seen → Result Acted Refusal
begin_on k s = unless_on ((jobless_on k, NoJob) ∷ (k.active, InProgress) ∷ (all_given s.tickets, TicketsSpent) ∷ []) (begun_on k s)

-- ---- a marked transaction's next read, write or commit answers set back and takes away the mark

abbrev pub set_back_on : Core → Seen → Acted
set_back_on k s = left_on (unmarked k) s SetBack

-- ---- read: the pending value if this attempt wrote the card, else the committed value; the card joins the read set

abbrev pub valued_on : Core → Seen → ℕ → Acted
valued_on k s d = left_on (with_read k d) s (Value (cond (has k.writes d) s.pending s.committed) s.version)

unfoldable pub read_on : Core → Seen → ℕ → Result Acted Refusal
read_on k s d = unless_on ((inactive k, NoneInProgress) ∷ []) (cond k.zombie (set_back_on k s) (valued_on k s d))

-- ---- write: stores the pending word; the card joins the write set

abbrev pub written_on : Core → Seen → ℕ → ℕ → Acted
written_on k s d v =
    record { core = with_write k d; tickets = s.tickets; give_ups = s.give_ups; pending = v; answer = Written }

unfoldable pub write_on : Core → Seen → ℕ → ℕ → Result Acted Refusal
write_on k s d v = unless_on ((inactive k, NoneInProgress) ∷ []) (cond k.zombie (set_back_on k s) (written_on k s d v))

-- ---- give up: the transaction ends without effect

abbrev pub ended_on : Core → Seen → Acted
ended_on k s = record { core = over k; tickets = s.tickets; give_ups = s.give_ups + 1; pending = s.pending; answer = Ended }

unfoldable pub give_up_on : Core → Seen → Result Acted Refusal
give_up_on k s = unless_on ((inactive k, NoneInProgress) ∷ []) (ended_on k s)

-- ---- finish: the running job leaves the list; its number is the answer

abbrev pub finished_on : Core → Seen → Acted
finished_on k s = left_on (without_job k (running k)) s (Finished (job_at k (running k)).number)

unfoldable pub finish_on : Core → Seen → Result Acted Refusal
finish_on k s = unless_on ((jobless_on k, NoJob) ∷ (k.active, InProgress) ∷ []) (finished_on k s)

-- ---- one rule for the six

unfoldable pub taken : Act → Core → Seen → Result Acted Refusal
taken (Release number deadline) k s = release_on k s (record { number = number; deadline = deadline })
taken Begin k s = begin_on k s
taken (Read d) k s = read_on k s d
taken (Write d v) k s = write_on k s d v
taken GiveUp k s = give_up_on k s
taken Finish k s = finish_on k s

-- what a sound record gives of its core: a list of at most 8 jobs, and a give-up more while a transaction is in progress
pub record Fits (k : Core) (s : Seen) : Type 0 where
  pub few_jobs : k.count ≤ most_jobs
  pub one_more : k.active ≡ true → s.give_ups < 4294967295

-- what a sound record gives of its core: where a transaction has written, it is in progress and not marked
pub record Settles (k : Core) : Type 0 where
  pub written_active : is_read_only k ≡ false → k.active ≡ true
  pub written_unmarked : is_read_only k ≡ false → k.zombie ≡ false
