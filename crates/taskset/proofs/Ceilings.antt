-- The levels are what paper 2 says. A transaction's is the highest task level in its group, 0 without cards: first of any tasks with the cards cs and
-- any levels ls, by their places; then of the levels that are worked out, whoever hands them back.
use mathlib.Core.Path.{◌≡◌, refl, sym, ap, subst, ◌∙◌}
use mathlib.Core.Bool.{Bool, true, false, cond}
use mathlib.Core.List.{List}
use Prim.Native.Nat.{ℕ, ◌≤◌, ◌<◌}
use native.Mathlib.Omega.{arith}
use lib.ListN.{length, length-map, get_or, get_or-append}
use Rattle.objset.specs.Objset.{has, none, meeting}
use Rattle.objset.specs.Words.{Words}
use Rattle.objset.proofs.Laws.{has-none}
use Rattle.taskset.specs.declared.Task.{Task}
use Rattle.taskset.specs.declared.Level.{Level}
use Rattle.std.specs.Prelude.{Result, Ok, Err}
use Rattle.taskset.specs.declared.Levels.{Levels}
use Rattle.taskset.specs.declared.NotTasks.{NotTasks}
use Rattle.taskset.specs.Tasks.{no_task, deadlines_of, cards_of, is_task_set, not_tasks}
use Rattle.taskset.specs.Groups.{groups_of}
use Rattle.taskset.specs.Levels.{task_levels, object_ceiling, transaction_levels, levels_of, no_level, levelled, levels_given}
use Rattle.taskset.specs.Ceilings.{CountAtLeast, AreLevels, RightLevels}
use Rattle.taskset.specs.Chains.{Uses, UsesNone, Chain, alone, onward}
use Rattle.taskset.proofs.ChainLaws.{and_then, back, end-within, end-uses}
use Rattle.taskset.proofs.GroupLaws.{chain-meets, meets-chain, group-none, not-meeting, meeting-none}
use Rattle.taskset.proofs.CeilingLaws.{highest-above, highest-one, highest-none, level-at}
use Rattle.taskset.proofs.Counting.{count-at-least}
use Rattle.taskset.proofs.LevelList.{levels-at, task-level-at, levels_long}

module _ (cs ls : List ℕ) (words : Words cs) where
  abbrev level : ℕ → ℕ
  level i = get_or (transaction_levels (groups_of cs) ls) i 0

  -- no task in the group of a task with a card has a higher level than its transaction
  pub level-above : (i j d : ℕ) → Uses cs i d → Chain cs i j → get_or ls j 0 ≤ level i
  level-above i j d p v =
      let g = get_or (groups_of cs) i none in
      rw (level-at (groups_of cs) ls i) (highest-above (meeting g) (meeting-none g) (groups_of cs) ls j (chain-meets cs words d p v))

  -- and one of them has that level
  pub level-of-one : (i d : ℕ) → Uses cs i d → (j : ℕ) × (j < length cs) × Chain cs i j × (level i ≡ get_or ls j 0)
  level-of-one i d p =
      let g = get_or (groups_of cs) i none in
      let at = highest-one (meeting g) (meeting-none g) (groups_of cs) ls i (chain-meets cs words d p alone) in
      let chain = meets-chain cs words i at.place at.passes in
      (at.place, end-within d p chain, chain, level-at (groups_of cs) ls i ∙ sym at.level)

  -- without cards it is 0
  pub level-none : (i : ℕ) → UsesNone cs i → level i ≡ 0
  level-none i e =
      let g = get_or (groups_of cs) i none in
      level-at (groups_of cs) ls i
      ∙ highest-none (meeting g) (groups_of cs) ls
      (λ j. not-meeting g (get_or (groups_of cs) j none) (λ d p q. group-none cs words i e d p))

  -- ---- by the ceilings of objects (definition 33)

  -- a transaction's level is no smaller than the ceiling of an object that a task of its group uses
  pub ceiling-below : (i j d : ℕ) → Chain cs i j → Uses cs j d → object_ceiling d cs ls ≤ level i
  ceiling-below i j d v p =
      let own = end-uses d p (back v) in
      let at = highest-one (λ (c : ℕ). has c d) (has-none d) cs ls j p in
      omega (arith, at.level, level-above i at.place own.0 own.1 (and_then v (onward (d, p, at.passes) alone)))

  -- and is the ceiling of one of these objects
  pub ceiling-of-one : (i d : ℕ) → Uses cs i d → (j e : ℕ) × Chain cs i j × Uses cs j e × (level i ≡ object_ceiling e cs ls)
  ceiling-of-one i d p =
      let at = level-of-one i d p in
      let j = at.0 in
      let end = end-uses d p at.2 in
      let above = highest-above (λ (c : ℕ). has c end.0) (has-none end.0) cs ls j end.1 in
      (j, end.0, at.2, end.1, omega (arith, at.3, above, ceiling-below i j end.0 at.2 end.1))

-- ---- the levels of tasks

module _ (ts : List Task) (words : Words (cards_of ts)) where
  abbrev levels : List ℕ
  levels = task_levels (deadlines_of ts)

  within : {j : ℕ} → j < length (cards_of ts) → j < length ts
  within l = omega (arith, l, length-map ts (λ (t : Task). t.cards))

  -- whatever hands back the levels of each task, keeps paper 2's sentences
  pub are-levels : (level : ℕ → Level) → ((i : ℕ) → i < length ts → level i ≡ get_or (levels_of ts) i no_level) → AreLevels ts level
  are-levels level same = record {
    number = λ i l. ap (λ (x : Level). x.number) (is i l);
    counted = λ i l. subst (CountAtLeast (get_or ts i no_task).deadline (deadlines_of ts)) (sym (task-level-at ts i l) ∙ sym (task i l)) (count-at-least (get_or ts i no_task).deadline (deadlines_of ts));
    of_one = λ i d l p.
        let at = level-of-one (cards_of ts) levels words i d p in
        (at.0, within at.1, at.2, transaction i l ∙ at.3 ∙ sym (task at.0 (within at.1)));
    highest = λ i j d l p v. rw (transaction i l, task j (within (end-within d p v))) (level-above (cards_of ts) levels words i j d p v);
    without_cards = λ i l none. transaction i l ∙ level-none (cards_of ts) levels words i none;
  }
    where
      is : (i : ℕ) → i < length ts
          → level i ≡ record { number = (get_or ts i no_task).number; task = get_or levels i 0; transaction = get_or (transaction_levels (groups_of (cards_of ts)) levels) i 0 }
      is i l = same i l ∙ levels-at ts i l

      task : (i : ℕ) → i < length ts → (level i).task ≡ get_or levels i 0
      task i l = ap (λ (x : Level). x.task) (is i l)

      transaction : (i : ℕ) → i < length ts → (level i).transaction ≡ get_or (transaction_levels (groups_of (cards_of ts)) levels) i 0
      transaction i l = ap (λ (x : Level). x.transaction) (is i l)

  given-right : RightLevels ts (levels_given ts)
  unfolding levels_given levelled
  given-right = go (is_task_set ts)
    where
      go : (b : Bool) → RightLevels ts (cond b (Ok (levelled (levels_of ts))) (Err not_tasks))
      go true = (levels_long ts, are-levels _ (λ i l. get_or-append (levels_of ts) _ no_level i (omega (arith, l, levels_long ts))))
      go false = tt

  -- what is answered by the rule keeps them
  pub right-levels : (r : Result Levels NotTasks) → r ≡ levels_given ts → RightLevels ts r
  right-levels r e = subst (RightLevels ts) (sym e) given-right

-- what is answered of a task set, and of what is none
pub levels-given : (ts : List Task) (b : Bool) → b ≡ is_task_set ts → levels_given ts ≡ cond b (Ok (levelled (levels_of ts))) (Err not_tasks)
unfolding levels_given
levels-given ts b e = rw e refl
