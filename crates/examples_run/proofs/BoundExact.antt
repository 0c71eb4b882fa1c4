-- The bound of demand 3 is exact: (k + 1) × (L + 2) rounds are enough, as the claim says (machine's `whole_run`), and one round fewer
-- is not. The run that shows it for k = 1 and L = 1 is the tight run of Played.antt, whose words stand in WordsTable.antt; others are
-- those of TightRuns.antt.
use Rattle.std.proofs.Common.{◌≡◌, ℕ, suc, ◌+◌, ◌-◌, ◌*◌, ◌<◌, Bool, true, false, leb, List, [], ◌∷◌, ◌++◌, length, replicate, sym, refl, arith, leb-false, leb-true}
use Rattle.objset.specs.Objset.{has, collect, some, each, none, is_empty, added, joined, meeting, below}
use Rattle.one_core.specs.declared.Answer.TheVariants.{Ready}
use Rattle.one_core.specs.Parts.{most_cores, least, running}
use Rattle.one_core.specs.Calls.{first}
use Rattle.one_core.specs.Life.{struck_by}
use Rattle.machine.specs.Answers.{kind, values}
use Rattle.machine.specs.Record.{tally}
use Rattle.machine.specs.Sound.{in_range, sets_within, owner_listed, idle_clear, zombie_empty, few_jobs, unused_jobs, lacked_cores, lacked_objects, owner_first, tickets_differ, tickets_given, tickets_counted, versions_bounded, smaller_tickets, aborts_bounded, sound}
use Rattle.machine.specs.Rule.{World, unless, unless_lent, setup, released, release, begun, begin, set_back_told, access_refusal, value_read, valued, read, written, write, contender, blocked, least_by, cleared, changed, through, commit_refusal, commit, ended, give_up, finished, finish, rule}
use Rattle.machine.specs.Words.{Event, Deed, begins, amounts, deeds, in_progress, births, born, any, touched, wrote, crosses, attempt}
use Rattle.machine.specs.Rounds.{among, is_round, Rounds, Fate, in-progress, committed, given-up, fate, AtMost}
use Rattle.machine.specs.Claims.{Run}
use Rattle.machine.proofs.Run.WholeRun.{whole_run}
use Rattle.machine.proofs.Run.ShortAttempts.{core_begun, begun_below, short, all_short}
use Rattle.machine.proofs.Run.CountedRounds.{all_rounds, fewer}
use Rattle.machine.proofs.Run.EveryList.{played}
use Rattle.examples_run.proofs.Played.{calls, start, opening, tight, last}
use Rattle.examples_run.proofs.AfterRounds.{After, place, fits, fitting}
use Rattle.examples_run.proofs.TightRuns.{on, again, opened, served, all_served, calls_for, rounds_for, total}

-- ---- bounds

-- what the claim says of every transaction (machine's `within_rounds`), with `bound k l` rounds for its (k + 1) × (l + 2)
abbrev pub Within : (ℕ → ℕ → ℕ) → List Deed → Type 0
Within bound h =
    (late since early : List Deed) (c l : ℕ) → h ≡ late ++ since ++ begins c ∷ early → AtMost l (births early) (begins c ∷ early) since
    → Rounds (births early) (begins c ∷ early) (bound (tally most_cores (in_progress early)) l) (since ++ begins c ∷ early)
    → (fate since c ≡ given-up → ⊥) → fate since c ≡ committed

-- so many rounds are enough in every run after an accepted setup
abbrev pub Enough : (ℕ → ℕ → ℕ) → Type 0
Enough bound =
    (cores objects : ℕ) (cards pending : List ℕ) → (setup cores objects cards pending).answer ≡ Ready → (es : List Event) (w : World)
    → Run (setup cores objects cards pending).world es w → Within bound (deeds es)

-- those of demand 3 are
pub bound-is-enough : Enough (λ k l. (k + 1) * (l + 2))
bound-is-enough cores objects cards pending ready es w run = (whole_run cores objects cards pending ready run).served.within_rounds

-- ---- a bound that holds of every run exceeds the rounds after which some T is still in progress

in-progress-is-not : (f : Fate) → in-progress ≡ f → (f ≡ committed → ⊥) × (f ≡ given-up → ⊥)
in-progress-is-not f e =
    (λ g. let z : ◌≡◌ {A = ℕ} 0 1 = cc in omega arith, λ g. let z : ◌≡◌ {A = ℕ} 0 1 = cc in omega arith)

pub no-smaller-bound : (bound : ℕ → ℕ → ℕ) → Enough bound → (k l n : ℕ) → After k l n in-progress → n < bound k l
no-smaller-bound bound enough k l n r = go (leb (suc n) (bound k l)) refl
  where
    go : (b : Bool) → leb (suc n) (bound k l) ≡ b → n < bound k l
    go true q = leb-true (suc n) (bound k l) q
    go false q =
        let less = leb-false (suc n) (bound k l) q in
        let passed = fewer r.rounds (bound k l) (omega arith) in
        let not-ended = in-progress-is-not (fate r.since r.c) (sym r.becomes) in
        absurd (not-ended.0
        (enough r.cores r.objects r.cards r.pending r.ready r.es r.w r.run [] r.since r.early r.c l r.those
        r.at-most-l (rw r.k-earlier passed) not-ended.1))

-- ---- exact

-- T is still in progress after (k + 1) × (l + 2) − 1 rounds
abbrev pub Exact : ℕ → ℕ → Type 0
Exact k l = After k l ((k + 1) * (l + 2) - 1) in-progress

-- the lengths of T's five rounds in the tight run, newest first
five-rounds : List ℕ
five-rounds = 1 ∷ 1 ∷ 2 ∷ 2 ∷ 2 ∷ []

-- the run of TightRuns.antt for k and l
abbrev Tested : ℕ → ℕ → Type 0
Tested k l =
    fits 0 (total (rounds_for k l)) (rounds_for k l) in-progress k l (deeds (played (start (k + 1) 1) [] (calls_for k l))) ≡ true

-- T's begin has nine calls after it in the tight run, and ten with one round more
all_fit : (fits 0 9 five-rounds in-progress 1 1 (deeds (played (start 2 1) [] (calls (opening ++ tight)))) ≡ true)
    × (fits 0 10 (1 ∷ five-rounds) committed 1 1 (deeds (played (start 2 1) [] (calls (opening ++ tight ++ last)))) ≡ true)
    × Tested 1 2 × Tested 2 1 × Tested 2 2
unfolding five-rounds opening tight last on again opened served all_served calls_for rounds_for total played place fits core_begun begun_below short all_short all_rounds amounts deeds kind values in_progress births born any touched wrote crosses attempt among is_round fate rule setup first unless unless_lent released release begun begin set_back_told access_refusal value_read valued read written write contender blocked least_by struck_by cleared changed through commit_refusal commit ended give_up finished finish tally least running in_range sets_within owner_listed idle_clear zombie_empty few_jobs unused_jobs lacked_cores lacked_objects owner_first tickets_differ tickets_given tickets_counted versions_bounded smaller_tickets aborts_bounded sound has collect some each none is_empty added joined meeting below
all_fit = (refl, refl, refl, refl, refl)

pub bound-is-exact : Exact 1 1
unfolding five-rounds setup first unless_lent
bound-is-exact = fitting 2 1 (calls (opening ++ tight)) 0 9 five-rounds in-progress 1 1 refl all_fit.0

-- one round more, and T is committed
pub bound-is-met : After 1 1 ((1 + 1) * (1 + 2)) committed
unfolding five-rounds setup first unless_lent
bound-is-met = fitting 2 1 (calls (opening ++ tight ++ last)) 0 10 (1 ∷ five-rounds) committed 1 1 refl all_fit.1

pub exact-elsewhere : Exact 1 2 × Exact 2 1 × Exact 2 2
unfolding setup first unless_lent rounds_for
exact-elsewhere = (go 1 2 refl all_fit.2, go 2 1 refl all_fit.3, go 2 2 refl all_fit.4)
  where
    go : (k l : ℕ) → (setup (k + 1) 1 (replicate 1 7) (replicate ((k + 1) * 1) 7)).answer ≡ Ready → Tested k l
        → After k l (length (rounds_for k l)) in-progress
    go k l ready e = fitting (k + 1) 1 (calls_for k l) 0 (total (rounds_for k l)) (rounds_for k l) in-progress k l ready e

-- so the claim with one round fewer fails
pub one-less-fails : Enough (λ k l. (k + 1) * (l + 2) - 1) → ⊥
one-less-fails enough = omega (arith, no-smaller-bound (λ k l. (k + 1) * (l + 2) - 1) enough 1 1 5 bound-is-exact)
