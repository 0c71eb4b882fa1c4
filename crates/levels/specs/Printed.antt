-- What `levels` prints of a sheet.
use Rattle.std.specs.Prelude.{ℕ, cond, List, [], ◌∷◌, ◌++◌}
use Rattle.decimal.specs.Bytes.{ascii}
use Rattle.decimal.specs.Spelling.{spelling}
use Rattle.taskset.specs.declared.Level.{Level}
use Rattle.taskset.specs.declared.Task.{Task}
use Rattle.taskset.specs.Tasks.{is_task_set}
use Rattle.taskset.specs.Levels.{levels_of}
use Rattle.sheet.specs.Sheet.{sheet_tasks}

-- one task: task, task level, transaction level, bare values, one space between
unfoldable pub level_line : Level → List ℕ
level_line l = spelling l.number ++ ascii " " ++ spelling l.task ++ ascii " " ++ spelling l.transaction ++ ascii "\n"

-- the most bytes that are printed: a line has at most 33, and there are at most 32
abbrev pub most_printed : ℕ
most_printed = 1056

-- one task a line
unfoldable pub level_lines : List Level → List ℕ
level_lines [] = []
level_lines (l ∷ ls) = level_line l ++ level_lines ls

-- a program that refuses its whole input prints only one line, `refused` and the number
abbrev pub refused_line : List ℕ
refused_line = ascii "refused 13\n"

-- what is printed of tasks, in the sheet's order
unfoldable pub tasks_printed : List Task → List ℕ
tasks_printed ts = cond (is_task_set ts) (level_lines (levels_of ts)) refused_line

-- what is printed of bytes
unfoldable pub levels_printed : List ℕ → List ℕ
levels_printed bytes = tasks_printed (sheet_tasks bytes)
