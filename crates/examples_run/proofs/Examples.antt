-- The starred examples of document 01, K, and the cases of papers 1 and 4, as one table: a setup, the calls after it with their answers, and the cards
-- at the end. One computed test proves the whole table.
use Rattle.std.proofs.Common.{◌≡◌, ℕ, zero, suc, ◌+◌, ◌*◌, Bool, true, ◌&&◌, List, [], ◌∷◌, ◌++◌, replicate, refl, ap₂}
use Rattle.objset.proofs.Laws.{both_left, both_right}
use Rattle.objset.specs.Objset.{has, collect, some, each, none, is_empty, added, joined, meeting, below}
use Rattle.one_core.specs.declared.Answer.{Answer}
use Rattle.one_core.specs.declared.Answer.TheVariants.{Ready, Running, Queued, Begun, Value, Written, Waits, Committed, SetBack, Ended, Finished, Refused}
use Rattle.machine.specs.Record.{tally}
use Rattle.one_core.specs.Parts.{least, running}
use Rattle.machine.specs.Sound.{in_range, sets_within, owner_listed, idle_clear, zombie_empty, few_jobs, unused_jobs, lacked_cores, lacked_objects, owner_first, tickets_differ, tickets_given, tickets_counted, versions_bounded, smaller_tickets, aborts_bounded, sound}
use Rattle.machine.specs.Answers.{kind, values, same_list, same_answer}
use Rattle.machine.specs.Rule.{World, Result, unless, unless_lent, setup, released, release, begun, begin, set_back_told, access_refusal, value_read, valued, read, written, write, contender, blocked, least_by, cleared, changed, through, commit_refusal, commit, ended, give_up, finished, finish, rule, Call, Release, Begin, Read, Write, Commit, GiveUp, Finish}
use Rattle.one_core.specs.Calls.{first}
use Rattle.one_core.specs.Life.{struck_by}

-- a call and the answer that document 01 says it gets
pub record Expected : Type 0 where
  pub call : Call
  pub answer : Answer

pub record Example : Type 0 where
  pub cores : ℕ
  pub objects : ℕ
  pub ready : Answer
  pub calls : List Expected
  pub cards : List ℕ

-- each call gets its answer, and the committed values at the end are the cards
unfoldable pub follows : World → List Expected → List ℕ → Bool
follows w [] cards = same_list w.committed cards
follows w (x ∷ xs) cards =
    let r : Result = rule w x.call in
    same_answer r.answer x.answer && follows r.world xs cards

unfoldable pub holds : Example → Bool
holds x =
    let s : Result = setup x.cores x.objects (replicate x.objects 7) (replicate (x.cores * x.objects) 7) in
    same_answer s.answer x.ready && follows s.world x.calls x.cards

unfoldable pub all_examples_hold : List Example → Bool
all_examples_hold [] = true
all_examples_hold (x ∷ xs) = holds x && all_examples_hold xs

infix 20 ◌⇝◌
abbrev pub ◌⇝◌ : Call → Answer → Expected
c ⇝ a = record { call = c; answer = a }

-- the run of the script; card 1 stays 0
unfoldable pub example_a : Example
example_a =
    record {
      cores = 2;
      objects = 2;
      ready = Ready;
      calls =
          (Release 0 7 100 ⇝ Running) ∷ (Release 1 8 90 ⇝ Running) ∷ (Begin 0 ⇝ Begun 0) ∷ (Begin 1 ⇝ Begun 1)
          ∷ (Read 1 0 ⇝ Value 0 0) ∷ (Write 0 0 30 ⇝ Written) ∷ (Write 1 1 4 ⇝ Written) ∷ (Commit 1 ⇝ Waits 0)
          ∷ (Commit 0 ⇝ Committed 0) ∷ (Commit 1 ⇝ SetBack) ∷ (Read 1 0 ⇝ Value 30 1) ∷ (Commit 1 ⇝ Committed 1) ∷ [];
      cards = 30 ∷ 0 ∷ [];
    }

-- a setup alone: refused 1, it leaves the lent words; accepted, it makes them zero
refused_setup : ℕ → ℕ → Example
refused_setup cores objects = record { cores = cores; objects = objects; ready = Refused 1; calls = []; cards = replicate objects 7 }

accepted_setup : ℕ → ℕ → Example
accepted_setup cores objects = record { cores = cores; objects = objects; ready = Ready; calls = []; cards = replicate objects 0 }

-- cores 0 and 17 are refused, 1 and 16 accepted
example_b : List Example
example_b = refused_setup 0 1 ∷ refused_setup 17 1 ∷ accepted_setup 1 1 ∷ accepted_setup 16 1 ∷ []

-- cards 64 accepted, 65 not
example_c : List Example
example_c = accepted_setup 1 64 ∷ refused_setup 1 65 ∷ []

-- core 16 of 16 is refused by every call, core 15 accepted
example_d : Example
example_d =
    record {
      cores = 16;
      objects = 1;
      ready = Ready;
      calls =
          (Release 16 1 90 ⇝ Refused 4) ∷ (Begin 16 ⇝ Refused 4) ∷ (Read 16 0 ⇝ Refused 4) ∷ (Write 16 0 5 ⇝ Refused 4)
          ∷ (Commit 16 ⇝ Refused 4) ∷ (GiveUp 16 ⇝ Refused 4) ∷ (Finish 16 ⇝ Refused 4) ∷ (Release 15 1 90 ⇝ Running) ∷ (Begin 15 ⇝ Begun 0)
          ∷ (Read 15 0 ⇝ Value 0 0) ∷ (Write 15 0 5 ⇝ Written) ∷ (Commit 15 ⇝ Committed 0) ∷ (Begin 15 ⇝ Begun 1) ∷ (GiveUp 15 ⇝ Ended)
          ∷ (Finish 15 ⇝ Finished 1) ∷ [];
      cards = 5 ∷ [];
    }

-- the eighth job joins, the ninth is refused 6
example_e : Example
example_e =
    record {
      cores = 1;
      objects = 1;
      ready = Ready;
      calls =
          (Release 0 1 90 ⇝ Running) ∷ (Release 0 2 91 ⇝ Queued) ∷ (Release 0 3 92 ⇝ Queued) ∷ (Release 0 4 93 ⇝ Queued)
          ∷ (Release 0 5 94 ⇝ Queued) ∷ (Release 0 6 95 ⇝ Queued) ∷ (Release 0 7 96 ⇝ Queued) ∷ (Release 0 8 97 ⇝ Queued)
          ∷ (Release 0 9 98 ⇝ Refused 6) ∷ [];
      cards = 0 ∷ [];
    }

-- begin twice: 8
example_f : Example
example_f =
    record {
      cores = 1;
      objects = 1;
      ready = Ready;
      calls = (Release 0 1 90 ⇝ Running) ∷ (Begin 0 ⇝ Begun 0) ∷ (Begin 0 ⇝ Refused 8) ∷ [];
      cards = 0 ∷ [];
    }

-- two jobs released on two cores and a transaction begun for each
unfoldable pub both_begun : List Expected
both_begun = (Release 0 1 90 ⇝ Running) ∷ (Release 1 2 90 ⇝ Running) ∷ (Begin 0 ⇝ Begun 0) ∷ (Begin 1 ⇝ Begun 1) ∷ []

-- a later writer of a card that the earlier one has not touched commits first
example_g : Example
example_g =
    record {
      cores = 2;
      objects = 2;
      ready = Ready;
      calls =
          both_begun ++ ((Write 0 0 5 ⇝ Written) ∷ (Write 1 1 6 ⇝ Written) ∷ (Commit 1 ⇝ Committed 0) ∷ (Commit 0 ⇝ Committed 0) ∷ []);
      cards = 5 ∷ 6 ∷ [];
    }

-- two readers of one card: neither waits
example_h : Example
example_h =
    record {
      cores = 2;
      objects = 1;
      ready = Ready;
      calls =
          both_begun ++ ((Read 0 0 ⇝ Value 0 0) ∷ (Read 1 0 ⇝ Value 0 0) ∷ (Commit 1 ⇝ Committed 0) ∷ (Commit 0 ⇝ Committed 0) ∷ []);
      cards = 0 ∷ [];
    }

-- two that read one card and write two others: neither waits and neither is struck, whoever commits first. The readers of ★H are
-- read-only, so that they commit whether reading is a conflict or not (document 02, paper 4)
unfoldable pub shared_read : Example
shared_read =
    record {
      cores = 2;
      objects = 3;
      ready = Ready;
      calls =
          both_begun
          ++ ((Read 0 0 ⇝ Value 0 0) ∷ (Read 1 0 ⇝ Value 0 0) ∷ (Write 0 1 5 ⇝ Written) ∷ (Write 1 2 6 ⇝ Written)
          ∷ (Commit 1 ⇝ Committed 0) ∷ (Commit 0 ⇝ Committed 0) ∷ (Begin 0 ⇝ Begun 2) ∷ (Begin 1 ⇝ Begun 3)
          ∷ (Read 0 0 ⇝ Value 0 0) ∷ (Read 1 0 ⇝ Value 0 0) ∷ (Write 0 1 7 ⇝ Written) ∷ (Write 1 2 8 ⇝ Written)
          ∷ (Commit 0 ⇝ Committed 0) ∷ (Commit 1 ⇝ Committed 0) ∷ []);
      cards = 0 ∷ 7 ∷ 8 ∷ [];
    }

-- a marked core reads card 64 of 64: refusal 5, and its next read finds the mark kept
example_i : Example
example_i =
    record {
      cores = 2;
      objects = 64;
      ready = Ready;
      calls =
          both_begun
          ++ ((Read 1 63 ⇝ Value 0 0) ∷ (Write 0 63 5 ⇝ Written) ∷ (Commit 0 ⇝ Committed 0) ∷ (Read 1 64 ⇝ Refused 5) ∷ (Read 1 63 ⇝ SetBack)
          ∷ (Read 1 63 ⇝ Value 5 1) ∷ []);
      cards = replicate 63 0 ++ (5 ∷ []);
    }

-- deadlines 90, 90: the first released runs
example_j : Example
example_j =
    record {
      cores = 1;
      objects = 1;
      ready = Ready;
      calls = (Release 0 1 90 ⇝ Running) ∷ (Release 0 2 90 ⇝ Queued) ∷ (Finish 0 ⇝ Finished 1) ∷ (Finish 0 ⇝ Finished 2) ∷ [];
      cards = 0 ∷ [];
    }

-- a job of deadline 10 released during a transaction of a job of deadline 90 is queued, and runs after commit: it is the one that
-- finish takes
example_k : Example
example_k =
    record {
      cores = 1;
      objects = 1;
      ready = Ready;
      calls =
          (Release 0 1 90 ⇝ Running) ∷ (Begin 0 ⇝ Begun 0) ∷ (Release 0 2 10 ⇝ Queued) ∷ (Commit 0 ⇝ Committed 0) ∷ (Finish 0 ⇝ Finished 2)
          ∷ (Finish 0 ⇝ Finished 1) ∷ [];
      cards = 0 ∷ [];
    }

-- paper 1: three earlier ones are in conflict with the one on core 1, on cores 2, 0 and 3 in the order of their tickets; the one on core 4 is
-- the first of all and not in conflict, the one on core 5 is in conflict and later
first_in_the_way : Example
first_in_the_way =
    record {
      cores = 6;
      objects = 2;
      ready = Ready;
      calls =
          (Release 0 1 90 ⇝ Running) ∷ (Release 1 2 90 ⇝ Running) ∷ (Release 2 3 90 ⇝ Running) ∷ (Release 3 4 90 ⇝ Running)
          ∷ (Release 4 5 90 ⇝ Running) ∷ (Release 5 6 90 ⇝ Running) ∷ (Begin 4 ⇝ Begun 0) ∷ (Begin 2 ⇝ Begun 1) ∷ (Begin 0 ⇝ Begun 2)
          ∷ (Begin 3 ⇝ Begun 3) ∷ (Begin 1 ⇝ Begun 4) ∷ (Begin 5 ⇝ Begun 5) ∷ (Read 4 1 ⇝ Value 0 0) ∷ (Read 2 0 ⇝ Value 0 0)
          ∷ (Read 0 0 ⇝ Value 0 0) ∷ (Read 3 0 ⇝ Value 0 0) ∷ (Write 1 0 5 ⇝ Written) ∷ (Read 5 0 ⇝ Value 0 0)
          ∷ (Commit 1 ⇝ Waits 2) ∷ (Commit 2 ⇝ Committed 0) ∷ (Commit 1 ⇝ Waits 0) ∷ (Commit 0 ⇝ Committed 0)
          ∷ (Commit 1 ⇝ Waits 3) ∷ (Commit 3 ⇝ Committed 0) ∷ (Commit 1 ⇝ Committed 0) ∷ (Commit 5 ⇝ SetBack) ∷ [];
      cards = 5 ∷ 0 ∷ [];
    }

-- ---- paper 4

-- a call for each of n cards from card d on, with its answer
each-card : (ℕ → Expected) → ℕ → ℕ → List Expected
each-card f d zero = []
each-card f d (suc n) = f d ∷ each-card f (suc d) n

-- a display on core 1 reads ten cards that the earlier one on core 0 has written: it commits at once, with the old values; the other's
-- later commit does not set it back, and its next frame reads the new ones
display : Example
display =
    record {
      cores = 2;
      objects = 10;
      ready = Ready;
      calls =
          both_begun ++ each-card (λ d. Write 0 d (d + 30) ⇝ Written) 0 10 ++ each-card (λ d. Read 1 d ⇝ Value 0 0) 0 10
          ++ ((Commit 1 ⇝ Committed 0) ∷ (Commit 0 ⇝ Committed 0) ∷ (Commit 1 ⇝ Refused 9) ∷ (Begin 1 ⇝ Begun 2) ∷ [])
          ++ each-card (λ d. Read 1 d ⇝ Value (d + 30) 1) 0 10 ++ ((Commit 1 ⇝ Committed 0) ∷ []);
      cards = 30 ∷ 31 ∷ 32 ∷ 33 ∷ 34 ∷ 35 ∷ 36 ∷ 37 ∷ 38 ∷ 39 ∷ [];
    }

-- the display is begun before the core that writes what it has read is through: it is told, reads again and commits, with one setback
marked_read_only : Example
marked_read_only =
    record {
      cores = 2;
      objects = 2;
      ready = Ready;
      calls =
          both_begun
          ++ ((Read 1 0 ⇝ Value 0 0) ∷ (Write 0 0 5 ⇝ Written) ∷ (Commit 0 ⇝ Committed 0) ∷ (Commit 1 ⇝ SetBack) ∷ (Read 1 0 ⇝ Value 5 1)
          ∷ (Commit 1 ⇝ Committed 1) ∷ []);
      cards = 5 ∷ 0 ∷ [];
    }

-- and one that asks to commit again at once, without reading again
marked_twice : Example
marked_twice =
    record {
      cores = 2;
      objects = 2;
      ready = Ready;
      calls =
          both_begun
          ++ ((Read 1 0 ⇝ Value 0 0) ∷ (Write 0 0 5 ⇝ Written) ∷ (Commit 0 ⇝ Committed 0) ∷ (Commit 1 ⇝ SetBack) ∷ (Commit 1 ⇝ Committed 1) ∷ []);
      cards = 5 ∷ 0 ∷ [];
    }

-- a later writer of a card that earlier ones have only read waits for them, for the one on core 2 first; one of them commits past
-- the writer, and past the other
later_writer : Example
later_writer =
    record {
      cores = 3;
      objects = 1;
      ready = Ready;
      calls =
          (Release 0 1 90 ⇝ Running) ∷ (Release 1 2 90 ⇝ Running) ∷ (Release 2 3 90 ⇝ Running) ∷ (Begin 2 ⇝ Begun 0) ∷ (Begin 0 ⇝ Begun 1)
          ∷ (Begin 1 ⇝ Begun 2) ∷ (Read 2 0 ⇝ Value 0 0) ∷ (Read 0 0 ⇝ Value 0 0) ∷ (Write 1 0 5 ⇝ Written) ∷ (Commit 1 ⇝ Waits 2)
          ∷ (Commit 0 ⇝ Committed 0) ∷ (Commit 1 ⇝ Waits 2) ∷ (Read 2 0 ⇝ Value 0 0) ∷ (Commit 2 ⇝ Committed 0) ∷ (Commit 1 ⇝ Committed 0) ∷ [];
      cards = 5 ∷ [];
    }

-- the one on core 1 has written and waits; set back, it comes back as a read-only one, and commits past the one on core 2, which has
-- written what it reads
wrote_before : Example
wrote_before =
    record {
      cores = 3;
      objects = 2;
      ready = Ready;
      calls =
          (Release 0 1 90 ⇝ Running) ∷ (Release 1 2 90 ⇝ Running) ∷ (Release 2 3 90 ⇝ Running) ∷ (Begin 0 ⇝ Begun 0) ∷ (Begin 2 ⇝ Begun 1)
          ∷ (Begin 1 ⇝ Begun 2) ∷ (Write 0 0 5 ⇝ Written) ∷ (Write 2 1 6 ⇝ Written) ∷ (Read 1 0 ⇝ Value 0 0) ∷ (Write 1 1 7 ⇝ Written)
          ∷ (Commit 1 ⇝ Waits 0) ∷ (Commit 0 ⇝ Committed 0) ∷ (Commit 1 ⇝ SetBack) ∷ (Read 1 1 ⇝ Value 0 0) ∷ (Commit 1 ⇝ Committed 1)
          ∷ (Commit 2 ⇝ Committed 0) ∷ [];
      cards = 5 ∷ 6 ∷ [];
    }

-- one that did nothing commits
did_nothing : Example
did_nothing =
    record {
      cores = 2;
      objects = 1;
      ready = Ready;
      calls = both_begun ++ ((Write 0 0 5 ⇝ Written) ∷ (Commit 1 ⇝ Committed 0) ∷ (Commit 0 ⇝ Committed 0) ∷ []);
      cards = 5 ∷ [];
    }

-- one that wrote the value which the card already had is not read-only: it waits, and its commit raises the version
same_value : Example
same_value =
    record {
      cores = 2;
      objects = 1;
      ready = Ready;
      calls =
          both_begun
          ++ ((Read 0 0 ⇝ Value 0 0) ∷ (Write 1 0 0 ⇝ Written) ∷ (Commit 1 ⇝ Waits 0) ∷ (Commit 0 ⇝ Committed 0) ∷ (Commit 1 ⇝ Committed 0)
          ∷ (Begin 0 ⇝ Begun 2) ∷ (Read 0 0 ⇝ Value 0 1) ∷ []);
      cards = 0 ∷ [];
    }

-- the table in three parts, each computed by itself
limits : List Example
limits = (example_a ∷ example_b) ++ example_c ++ (example_d ∷ example_e ∷ [])

conflicts : List Example
conflicts = example_f ∷ example_g ∷ example_h ∷ shared_read ∷ example_i ∷ example_j ∷ example_k ∷ first_in_the_way ∷ []

read_only : List Example
read_only = display ∷ marked_read_only ∷ marked_twice ∷ later_writer ∷ wrote_before ∷ did_nothing ∷ same_value ∷ []

limits-hold : all_examples_hold limits ≡ true
unfolding limits example_a refused_setup accepted_setup example_b example_c example_d example_e all_examples_hold holds follows rule setup first unless unless_lent released release begun begin set_back_told access_refusal value_read valued read written write contender blocked least_by struck_by cleared changed through commit_refusal commit ended give_up finished finish kind values same_list same_answer tally least running in_range sets_within owner_listed idle_clear zombie_empty few_jobs unused_jobs lacked_cores lacked_objects owner_first tickets_differ tickets_given tickets_counted versions_bounded smaller_tickets aborts_bounded sound has collect some each none is_empty added joined meeting below
limits-hold = refl

conflicts-hold : all_examples_hold conflicts ≡ true
unfolding conflicts example_f both_begun example_g example_h shared_read example_i example_j example_k first_in_the_way all_examples_hold holds follows rule setup first unless unless_lent released release begun begin set_back_told access_refusal value_read valued read written write contender blocked least_by struck_by cleared changed through commit_refusal commit ended give_up finished finish kind values same_list same_answer tally least running in_range sets_within owner_listed idle_clear zombie_empty few_jobs unused_jobs lacked_cores lacked_objects owner_first tickets_differ tickets_given tickets_counted versions_bounded smaller_tickets aborts_bounded sound has collect some each none is_empty added joined meeting below
conflicts-hold = refl

read-only-hold : all_examples_hold read_only ≡ true
unfolding read_only both_begun each-card display marked_read_only marked_twice later_writer wrote_before did_nothing same_value all_examples_hold holds follows rule setup first unless unless_lent released release begun begin set_back_told access_refusal value_read valued read written write contender blocked least_by struck_by cleared changed through commit_refusal commit ended give_up finished finish kind values same_list same_answer tally least running in_range sets_within owner_listed idle_clear zombie_empty few_jobs unused_jobs lacked_cores lacked_objects owner_first tickets_differ tickets_given tickets_counted versions_bounded smaller_tickets aborts_bounded sound has collect some each none is_empty added joined meeting below
read-only-hold = refl

join : (xs ys : List Example) → all_examples_hold xs ≡ true → all_examples_hold ys ≡ true → all_examples_hold (xs ++ ys) ≡ true
unfolding all_examples_hold
join [] ys e f = f
join (x ∷ xs) ys e f = ap₂ ◌&&◌ (both_left (holds x) (all_examples_hold xs) e) (join xs ys (both_right (holds x) (all_examples_hold xs) e) f)

pub examples : List Example
examples = limits ++ (conflicts ++ read_only)

pub all_hold : all_examples_hold examples ≡ true
unfolding examples
all_hold = join limits (conflicts ++ read_only) limits-hold (join conflicts read_only conflicts-hold read-only-hold)
