-- Each standing rule is a rule of its own: for each a record that breaks that rule alone and its mended twin, which is sound.
-- One computed test proves the whole table.
use Rattle.std.proofs.Common.{◌≡◌, ℕ, zero, suc, ◌-◌, Bool, true, false, not, ◌&&◌, ◌||◌, eqb, List, [], ◌∷◌, ◌++◌, length, replicate, refl}
use Rattle.objset.specs.Objset.{has, collect, some, each, none, is_empty, below}
use Rattle.machine.specs.declared.Machine.{Machine}
use Rattle.one_core.specs.declared.Core.{Core}
use Rattle.one_core.specs.declared.Job.{Job}
use Rattle.one_core.specs.Parts.{no_job, idle, blank_core}
use Rattle.machine.specs.Record.{tally}
use Rattle.machine.specs.Sound.{in_range, sets_within, owner_listed, idle_clear, zombie_empty, few_jobs, unused_jobs, lacked_cores, lacked_objects, owner_first, tickets_differ, tickets_given, tickets_counted, versions_bounded, smaller_tickets, aborts_bounded, sound}

-- the tests of the fifteen rules, in the order of `sound`
unfoldable pub tests : Machine → List Bool
tests m =
    in_range m ∷ sets_within m ∷ owner_listed m ∷ idle_clear m ∷ zombie_empty m ∷ few_jobs m ∷ unused_jobs m ∷ lacked_cores m
    ∷ lacked_objects m ∷ owner_first m ∷ tickets_differ m ∷ tickets_given m ∷ tickets_counted m ∷ versions_bounded m ∷ aborts_bounded m ∷ []

unfoldable pub all_pass : List Bool → Bool
all_pass [] = true
all_pass (x ∷ xs) = x && all_pass xs

-- the test at the named place fails and every other passes
unfoldable pub only_fails : ℕ → List Bool → Bool
only_fails n [] = false
only_fails zero (x ∷ xs) = not x && all_pass xs
only_fails (suc n) (x ∷ xs) = x && only_fails n xs

pub record Row : Type 0 where
  -- the rule's place in `tests`
  pub rule : ℕ
  pub broken : Machine
  pub mended : Machine

unfoldable pub holds : Row → Bool
holds r = only_fails r.rule (tests r.broken) && not (sound r.broken) && sound r.mended

-- every row holds; the rows of a rule stand together, and each of the fifteen rules has some: a row is of the rule `next` or of
-- the one before it
unfoldable pub all_examples_hold : ℕ → List Row → Bool
all_examples_hold next [] = eqb next 15
all_examples_hold next (r ∷ rs) = holds r && (eqb r.rule next || eqb (suc r.rule) next) && all_examples_hold (suc r.rule) rs

-- ---- records

listed : List Job → List Job
listed jobs = jobs ++ replicate (8 - length jobs) no_job

-- a job of number 0
unnumbered : ℕ → Job
unnumbered deadline = record { number = 0; deadline = deadline }

job : ℕ → Job
job deadline = record { number = 1; deadline = deadline }

-- a core with these jobs and a transaction
busy : List Job → ℕ → ℕ → ℕ → Bool → ℕ → ℕ → Core
busy jobs owner ticket aborts zombie reads writes =
    record {
      jobs = listed jobs;
      count = length jobs;
      active = true;
      owner = owner;
      ticket = ticket;
      aborts = aborts;
      zombie = zombie;
      reads = reads;
      writes = writes;
    }

-- a core with no job and no transaction, but with these left
left : ℕ → ℕ → ℕ → Bool → ℕ → ℕ → Core
left owner ticket aborts zombie reads writes =
    record {
      jobs = replicate 8 no_job;
      count = 0;
      active = false;
      owner = owner;
      ticket = ticket;
      aborts = aborts;
      zombie = zombie;
      reads = reads;
      writes = writes;
    }

-- the first cores and the first versions, the others blank
machine : ℕ → ℕ → ℕ → ℕ → List Core → List ℕ → Machine
machine cores objects tickets commits first versions =
    record {
      cores = cores;
      objects = objects;
      tickets = tickets;
      commits = commits;
      give_ups = 0;
      core = first ++ replicate (16 - length first) blank_core;
      versions = versions ++ replicate (64 - length versions) 0;
    }

-- one core and one card, nobody in progress, these tickets given and these given up
given_up : ℕ → ℕ → Machine
given_up tickets given =
    record {
      cores = 1;
      objects = 1;
      tickets = tickets;
      commits = 0;
      give_ups = given;
      core = replicate 16 blank_core;
      versions = replicate 64 0;
    }

row : ℕ → Machine → Machine → Row
row n broken mended = record { rule = n; broken = broken; mended = mended }

-- a row whose two records have one core, one card and one ticket given, and differ in the core
one_core : ℕ → Core → Core → Row
one_core n broken mended = row n (machine 1 1 1 0 (broken ∷ []) []) (machine 1 1 1 0 (mended ∷ []) [])

-- the same with no ticket given
no_ticket : ℕ → Core → Core → Row
no_ticket n broken mended = row n (machine 1 1 0 0 (broken ∷ []) []) (machine 1 1 0 0 (mended ∷ []) [])

-- a transaction with the first ticket, of the only job, that has touched nothing
fresh : Core
fresh = busy (job 90 ∷ []) 0 0 0 false 0 0

-- the same with the second ticket
second : ℕ → Core
second aborts = busy (job 90 ∷ []) 0 1 aborts false 0 0

pub table : List Row
table =
    -- cores and cards are in range
    row 0 (machine 0 1 0 0 [] []) (machine 1 1 0 0 [] [])
    ∷ row 0 (machine 17 1 0 0 [] []) (machine 16 1 0 0 [] [])
    ∷ row 0 (machine 1 0 0 0 [] []) (machine 1 1 0 0 [] [])
    ∷ row 0 (machine 1 65 0 0 [] []) (machine 1 64 0 0 [] [])
    -- sets lie within the cards
    ∷ one_core 1 (busy (job 90 ∷ []) 0 0 0 false 2 0) (busy (job 90 ∷ []) 0 0 0 false 1 0)
    ∷ one_core 1 (busy (job 90 ∷ []) 0 0 0 false 0 2) (busy (job 90 ∷ []) 0 0 0 false 0 1)
    -- a transaction needs a job
    ∷ one_core 2 (busy [] 0 0 0 false 0 0) fresh
    ∷ one_core 2 (busy (job 90 ∷ []) 1 0 0 false 0 0) fresh
    -- a core without a transaction has empty sets, no mark, and owner's place, ticket and setbacks 0
    ∷ no_ticket 3 (left 1 0 0 false 0 0) blank_core
    ∷ no_ticket 3 (left 0 1 0 false 0 0) blank_core
    ∷ no_ticket 3 (left 0 0 1 false 0 0) blank_core
    ∷ no_ticket 3 (left 0 0 0 true 0 0) blank_core
    ∷ no_ticket 3 (left 0 0 0 false 1 0) blank_core
    ∷ no_ticket 3 (left 0 0 0 false 0 1) blank_core
    -- a marked one has empty sets
    ∷ one_core 4 (busy (job 90 ∷ []) 0 0 0 true 1 0) (busy (job 90 ∷ []) 0 0 0 true 0 0)
    ∷ one_core 4 (busy (job 90 ∷ []) 0 0 0 true 0 1) (busy (job 90 ∷ []) 0 0 0 false 0 1)
    -- a list has at most 8 jobs
    ∷ no_ticket 5 (idle (replicate 8 (job 90)) 9) (idle (replicate 8 (job 90)) 8)
    -- unused job places hold zeros
    ∷ no_ticket 6 (idle (listed (job 90 ∷ [])) 0) (idle (listed (job 90 ∷ [])) 1)
    ∷ no_ticket 6 (idle (listed (job 0 ∷ [])) 0) (idle (listed (no_job ∷ [])) 0)
    ∷ no_ticket 6 (idle (listed (unnumbered 90 ∷ [])) 0) (idle (listed (unnumbered 90 ∷ [])) 1)
    -- places for cores that the machine lacks hold zeros
    ∷ row 7 (machine 1 1 0 0 (blank_core ∷ idle (listed (job 90 ∷ [])) 1 ∷ []) [])
    (machine 2 1 0 0 (blank_core ∷ idle (listed (job 90 ∷ [])) 1 ∷ []) [])
    ∷ row 7 (machine 1 1 1 0 (blank_core ∷ fresh ∷ []) []) (machine 2 1 1 0 (blank_core ∷ fresh ∷ []) [])
    -- and so do those for cards
    ∷ row 8 (machine 1 1 1 1 [] (0 ∷ 1 ∷ [])) (machine 1 2 1 1 [] (0 ∷ 1 ∷ []))
    -- every job listed before the transaction's own has a greater deadline
    ∷ one_core 9 (busy (job 90 ∷ job 90 ∷ []) 1 0 0 false 0 0) (busy (job 91 ∷ job 90 ∷ []) 1 0 0 false 0 0)
    -- tickets in progress differ
    ∷ row 10 (machine 2 1 2 0 (fresh ∷ fresh ∷ []) []) (machine 2 1 2 0 (fresh ∷ second 0 ∷ []) [])
    -- they are smaller than the count of tickets given
    ∷ one_core 11 (second 0) fresh
    -- that count is commits + give-ups + transactions in progress
    ∷ row 12 (machine 1 1 1 0 [] []) (machine 1 1 1 1 [] [])
    ∷ row 12 (machine 1 1 0 1 [] []) (machine 1 1 1 1 [] [])
    ∷ row 12 (given_up 0 1) (given_up 1 1)
    ∷ row 12 (given_up 2 1) (given_up 2 2)
    -- no version exceeds the commits
    ∷ row 13 (machine 1 1 0 0 [] (1 ∷ [])) (machine 1 1 1 1 [] (1 ∷ []))
    -- setbacks plus the number of smaller tickets in progress is at most cores - 1
    ∷ one_core 14 (busy (job 90 ∷ []) 0 0 1 false 0 0) fresh
    ∷ row 14 (machine 2 1 2 0 (fresh ∷ second 1 ∷ []) []) (machine 2 1 2 0 (fresh ∷ second 0 ∷ []) [])
    ∷ []

pub each-rule-alone : all_examples_hold 0 table ≡ true
unfolding tests all_pass only_fails holds all_examples_hold listed unnumbered job busy left machine given_up row one_core no_ticket fresh second table in_range sets_within owner_listed idle_clear zombie_empty few_jobs unused_jobs lacked_cores lacked_objects owner_first tickets_differ tickets_given tickets_counted versions_bounded smaller_tickets aborts_bounded sound tally has collect some each none is_empty below
each-rule-alone = refl
