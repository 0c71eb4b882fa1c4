-- What becomes of a core: a job joins or leaves its list; its transaction is begun, told, struck, over, a card joins a set; and which
-- two transactions conflict.
use Rattle.std.specs.Prelude.{ℕ, suc, ◌+◌, ◌-◌, Bool, true, false, cond, ◌&&◌, ◌||◌, List, [], ◌∷◌, ◌++◌, take, drop, nat_lt, slice_set}
use Rattle.objset.specs.Objset.{none, is_empty, added, meeting}
use Rattle.one_core.specs.declared.Core.{Core}
use Rattle.one_core.specs.declared.Job.{Job}
use Rattle.one_core.specs.Parts.{no_job, idle, data_set, running}

-- ---- the list of jobs

-- a core with another list of jobs, and its transaction as it was
abbrev pub with_list : Core → List Job → ℕ → Core
with_list k jobs n =
    record {
      jobs = jobs;
      count = n;
      active = k.active;
      owner = k.owner;
      ticket = k.ticket;
      aborts = k.aborts;
      zombie = k.zombie;
      reads = k.reads;
      writes = k.writes;
    }

-- the job joins the end of the list
abbrev pub with_job : Core → Job → Core
with_job k j = with_list k (slice_set k.jobs k.count j) (k.count + 1)

-- the list without the job at place p, an unused place at its end
abbrev pub without : List Job → ℕ → List Job
without jobs p = take p jobs ++ drop (suc p) jobs ++ (no_job ∷ [])

-- the job at place p leaves the list, the others keep their order
abbrev pub without_job : Core → ℕ → Core
without_job k p = with_list k (without k.jobs p) (k.count - 1)

-- ---- a transaction

-- the running job's transaction begins with the ticket t: its sets are empty, its setbacks 0
abbrev pub with_transaction : Core → ℕ → Core
with_transaction k t =
    record { jobs = k.jobs; count = k.count; active = true; owner = running k; ticket = t; aborts = 0; zombie = false; reads = none; writes = none }

-- a core whose transaction has this ticket, these setbacks, this mark and these sets; its job stays
abbrev pub attempting : Core → ℕ → ℕ → Bool → ℕ → ℕ → Core
attempting k ticket aborts zombie rs ws =
    record {
      jobs = k.jobs;
      count = k.count;
      active = k.active;
      owner = k.owner;
      ticket = ticket;
      aborts = aborts;
      zombie = zombie;
      reads = rs;
      writes = ws;
    }

-- the mark is taken away, and nothing more
abbrev pub unmarked : Core → Core
unmarked k = attempting k k.ticket k.aborts false k.reads k.writes

abbrev pub with_sets : Core → ℕ → ℕ → Core
with_sets k rs ws = attempting k k.ticket k.aborts k.zombie rs ws

-- card d joins the read set
abbrev pub with_read : Core → ℕ → Core
with_read k d = with_sets k (added k.reads d) k.writes

-- card d joins the write set
abbrev pub with_write : Core → ℕ → Core
with_write k d = with_sets k k.reads (added k.writes d)

-- set back: the sets are emptied, the setbacks rise by one, it is marked; it keeps its ticket
abbrev pub aborted : Core → Core
aborted k = attempting k k.ticket (k.aborts + 1) true none none

-- core k has a transaction whose data set meets the write set ws
abbrev pub is_struck : ℕ → Core → Bool
is_struck ws k = k.active && meeting ws (data_set k)

-- such a transaction is set back
unfoldable pub struck_by : ℕ → Core → Core
struck_by ws k = cond (is_struck ws k) (aborted k) k

-- the transaction of a core ends; its jobs stay
abbrev pub over : Core → Core
over k = idle k.jobs k.count

-- it is read-only (document 02, paper 4: it only looks): the write set of its present attempt is empty
abbrev pub is_read_only : Core → Bool
is_read_only k = is_empty k.writes

-- ---- two transactions

-- two transactions conflict if the write set of either meets the data set of the other
abbrev pub conflicting : Core → Core → Bool
conflicting a b = meeting a.writes (data_set b) || meeting b.writes (data_set a)

-- core b holds a transaction that conflicts with core a's and has a smaller ticket than t
abbrev pub conflicts_below : ℕ → Core → Core → Bool
conflicts_below t b a = b.active && nat_lt b.ticket t && conflicting a b

-- core b holds a conflicting transaction with a smaller ticket than core a's
abbrev pub holds_back : Core → Core → Bool
holds_back b a = conflicts_below a.ticket b a
