-- The sheet that the kit ships with: table 6.1 of source 002, its tasks numbered 1 to 6 on cores 0 to 5.
use Rattle.std.specs.Prelude.{ℕ, List}
use Rattle.decimal.specs.Bytes.{ascii}
use Rattle.taskset.specs.declared.Level.{Level}
use Rattle.taskset.specs.Levels.{levels_of}
use Rattle.sheet.specs.Sheet.{sheet_tasks}

abbrev pub shipped_sheet : List ℕ
shipped_sheet = ascii "task core deadline cards\n1 0 50 3\n2 1 100 1\n3 2 80 1,2\n4 3 70 2\n5 4 120 3\n6 5 60 -\n"

-- its levels, worked out from its bytes
unfoldable pub shipped_levels : List Level
shipped_levels = levels_of (sheet_tasks shipped_sheet)
