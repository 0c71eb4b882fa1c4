-- What the C functions on sheets answer and leave in the lent words.
use Rattle.std.specs.Prelude.{◌≡◌, ℕ, ◌+◌, ◌*◌, ◌<◌, List, [], ◌∷◌, length, get_or}
use Rattle.taskset.specs.declared.Task.{Task}
use Rattle.taskset.specs.declared.Level.{Level}
use Rattle.taskset.specs.Levels.{levels_of}
use Rattle.taskset.specs.Ceilings.{AreLevels}
use Rattle.sheet.specs.Sheet.{sheet_tasks}

-- three words for each task: task, task level, transaction level
unfoldable pub level_words : List Level → List ℕ
level_words [] = []
level_words (l ∷ ls) = l.number ∷ l.task ∷ l.transaction ∷ level_words ls

-- the words of a sheet's tasks, in its order; none where the bytes are no sheet (refusal 13)
unfoldable pub sheet_words : List ℕ → List ℕ
sheet_words bytes = level_words (levels_of (sheet_tasks bytes))

-- the level of the task at a place, as its three words say it
abbrev pub level_at : List ℕ → ℕ → Level
level_at words i = record { number = get_or words (3 * i) 0; task = get_or words (3 * i + 1) 0; transaction = get_or words (3 * i + 2) 0 }

-- where n tasks are counted, they are these, and the words are their levels as paper 2 says them
abbrev pub RightWords : List Task → ℕ → List ℕ → Type 0
RightWords ts n words = 0 < n → (n ≡ length ts) × AreLevels ts (level_at words)
