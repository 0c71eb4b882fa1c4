-- The parts of a core: a job, a core without a transaction, the data set, the running job.
use Rattle.std.specs.Prelude.{ℕ, zero, suc, false, cond, List, [], get_or, replicate, nat_lt, slice_index_or}
use Rattle.objset.specs.Objset.{none, joined}
use Rattle.one_core.specs.declared.Core.{Core}
use Rattle.one_core.specs.declared.Job.{Job}

-- how many cores a machine has at most, and how many jobs a core's list (document 01: 16 and 8)
abbrev pub most_cores : ℕ
most_cores = 16

abbrev pub most_jobs : ℕ
most_jobs = 8

-- what stands in an unused job place
abbrev pub no_job : Job
no_job = record { number = 0; deadline = 0 }

-- what is read past the end of a list of cores, which no call does: zeros, as for every type
abbrev pub no_core : Core
no_core = record { jobs = []; count = 0; active = false; owner = 0; ticket = 0; aborts = 0; zombie = false; reads = 0; writes = 0 }

abbrev pub job_at : Core → ℕ → Job
job_at k p = slice_index_or k.jobs p no_job

-- a core with these jobs and no transaction: empty sets, no mark, owner's place, ticket and setbacks 0
abbrev pub idle : List Job → ℕ → Core
idle jobs n = record { jobs = jobs; count = n; active = false; owner = 0; ticket = 0; aborts = 0; zombie = false; reads = none; writes = none }

-- a core with no job and no transaction
abbrev pub blank_core : Core
blank_core = idle (replicate most_jobs no_job) 0

-- data set: read set and write set together
abbrev pub data_set : Core → ℕ
data_set k = joined k.reads k.writes

-- the place of the job of least deadline among the first n, the first released among equals
unfoldable pub least : List Job → ℕ → ℕ
least jobs zero = 0
least jobs (suc n) = cond (nat_lt (get_or jobs n no_job).deadline (get_or jobs (least jobs n) no_job).deadline) n (least jobs n)

-- the place of the running job: the transaction's own job while one is in progress, else the job of least deadline
unfoldable pub running : Core → ℕ
running k = cond k.active k.owner (least k.jobs k.count)
