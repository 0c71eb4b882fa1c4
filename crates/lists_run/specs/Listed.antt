-- What comes of a sheet that is read into the first places of a list (paper 2: 'places beyond the last keep what they held, and so does the whole list
-- after a refusal').
use Rattle.std.specs.Prelude.{ℕ, List, replicate}
use Rattle.std.specs.Result.{result_unwrap_or}
use Rattle.taskset.specs.declared.Task.{Task}
use Rattle.taskset.specs.Groups.{groups_given}
use Rattle.taskset.specs.Levels.{levels_given}
use Rattle.tasklist.specs.Lists.{fill_given, filled_list, first_of}
use Rattle.lists_run.specs.declared.Listed.{Listed}

-- how many places the list has
abbrev pub places : ℕ
places = 40

-- what stands in each place at first
unfoldable pub mark : Task
mark = record { number = 9; core = 99; deadline = 9; cards = 9 }

unfoldable pub marks : ℕ → List Task
marks n = replicate n mark

-- the tasks in the first n places that the levels and groups are asked for: as many as the reader counted
unfoldable pub asked : List Task → ℕ → List Task
asked ts n = first_of (result_unwrap_or (fill_given ts (marks n)) 0) (filled_list ts (marks n))

-- what comes of these tasks, where n places are lent; the place after the last one keeps what it held
unfoldable pub listed_of : List Task → ℕ → Listed
listed_of ts n = record { filled = fill_given ts (marks n); levels = levels_given (asked ts n); groups = groups_given (asked ts n); beyond = mark }
