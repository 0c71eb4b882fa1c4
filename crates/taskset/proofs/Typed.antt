-- What the types of the code say of a task set by value, whatever its fields hold. `Is` is what a function is told of a parameter that
-- it owns.
use mathlib.Core.Bool.{Bool, true, false, cond}
use mathlib.Core.List.{List, [], ◌∷◌}
use Prim.Native.Nat.{ℕ, zero, suc, ◌<◌, ◌^◌}
use lib.Dec.{leb}
use lib.ListN.{take}
use mir.Val.{Val}
use denote.Shadow.{shadow}
use denote.Laws.{Is}
use denote.Array.{each}
use Rattle.objset.specs.Words.{Words}
use Rattle.taskset.specs.declared.Task.{Task}
use Rattle.taskset.specs.declared.TaskSet.{TaskSet}
use Rattle.taskset.specs.Tasks.{most_tasks, cards_of, standing}
use Rattle.taskset.specs.contracts.Task as TaskType
use Rattle.taskset.specs.contracts.TaskSet as TaskSetType

-- the cards of each task are a set
cards-word : (t : Task) (vs : List Val) → Is TaskType.the_row t vs → t.cards < 2 ^ 64
cards-word t vs p = p.1.1.1.1.1.0.1

each_word : (ts : List Task) (us : List Val) → shadow (each (TaskType.the_row).Denot (TaskType.the_row).own_val ts us)
    → Words (cards_of ts)
each_word [] us p = tt
each_word (t ∷ ts) [] p = absurd p
each_word (t ∷ ts) (u ∷ us) p = (cards-word t (u ∷ []) p.0, each_word ts us p.1)

words-first : (n : ℕ) (ts : List Task) → Words (cards_of ts) → Words (cards_of (take n ts))
words-first zero ts w = tt
words-first (suc n) [] w = tt
words-first (suc n) (t ∷ ts) w = (w.0, words-first n ts w.1)

pub standing-words : (s : TaskSet) (vs : List Val) → Is (TaskSetType.the_field).row ((TaskSetType.the_field).into s) vs → Words (cards_of (standing s))
unfolding standing
standing-words s vs p = go (leb s.count most_tasks) (words-first s.count s.tasks (each_word s.tasks p.1.1.0.0 p.1.1.0.1.1))
  where
    go : (b : Bool) → Words (cards_of (take s.count s.tasks)) → Words (cards_of (cond b (take s.count s.tasks) []))
    go true w = w
    go false w = tt
