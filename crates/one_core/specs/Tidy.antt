-- The standing rules (document 01) that a core keeps by itself, one definition each.
use Rattle.std.specs.Prelude.{ℕ, Bool, not, ◌&&◌, ◌||◌, leb, ◌==◌, nat_le, nat_lt}
use Rattle.objset.specs.Objset.{each, below, is_empty}
use Rattle.one_core.specs.declared.Core.{Core}
use Rattle.one_core.specs.declared.Job.{Job}
use Rattle.one_core.specs.Parts.{most_jobs, job_at}

infixr 25 ◌⇒◌
abbrev pub ◌⇒◌ : Bool → Bool → Bool
a ⇒ b = not a || b

-- sets lie within the cards
abbrev pub sets_within_on : ℕ → Core → Bool
sets_within_on objects k = below k.reads objects && below k.writes objects

-- a transaction needs a job: its owner's place is one of the list's
abbrev pub owner_listed_on : Core → Bool
owner_listed_on k = k.active ⇒ nat_lt k.owner k.count

-- the sets are empty
abbrev pub empty_sets : Core → Bool
empty_sets k = is_empty k.reads && is_empty k.writes

-- empty sets, no mark, and owner's place, ticket and setbacks 0
abbrev pub clear : Core → Bool
clear k = empty_sets k && not k.zombie && k.owner == 0 && k.ticket == 0 && k.aborts == 0

-- a core without a transaction is so
abbrev pub idle_clear_on : Core → Bool
idle_clear_on k = not k.active ⇒ clear k

-- a marked one has empty sets
abbrev pub zombie_empty_on : Core → Bool
zombie_empty_on k = k.zombie ⇒ empty_sets k

-- a list has at most 8 jobs
abbrev pub few_jobs_on : Core → Bool
few_jobs_on k = nat_le k.count most_jobs

abbrev pub zero_job : Job → Bool
zero_job j = j.number == 0 && j.deadline == 0

-- unused job places hold zeros
abbrev pub unused_jobs_on : Core → Bool
unused_jobs_on k = each most_jobs (λ p. leb k.count p ⇒ zero_job (job_at k p))

-- every job listed before the owner's has a greater deadline
abbrev pub first_listed : Core → Bool
first_listed k = each most_jobs (λ p. nat_lt p k.owner ⇒ nat_lt (job_at k k.owner).deadline (job_at k p).deadline)

-- so it is while a transaction is in progress
abbrev pub owner_first_on : Core → Bool
owner_first_on k = k.active ⇒ first_listed k

-- a place for a core that the machine lacks holds zeros: no jobs and no transaction, so by the rules above all is 0
abbrev pub unused : Core → Bool
unused k = k.count == 0 && not k.active

-- the rules that a core of a machine with that many cards keeps by itself
abbrev pub tidy : ℕ → Core → Bool
tidy objects k =
    sets_within_on objects k && owner_listed_on k && idle_clear_on k && zombie_empty_on k && few_jobs_on k && unused_jobs_on k && owner_first_on k

-- every field is 0
abbrev pub blank_on : Core → Bool
blank_on k =
    not k.active && not k.zombie && k.count == 0 && k.owner == 0 && k.ticket == 0 && k.aborts == 0
    && each most_jobs (λ p. zero_job (job_at k p)) && empty_sets k
