-- What is printed, by computation: table 6.1 of source 002 (document 02: 6 6, 2 4, 3 4, 4 4, 1 6, 5 0), and bytes that are no sheet.
use mathlib.Core.Path.{◌≡◌, refl, sym, ap, ◌∙◌}
use mathlib.Core.List.{[]}
use Rattle.decimal.specs.Bytes.{ascii}
use Rattle.decimal.specs.Spelling.{spelling, spelling_in}
use Rattle.taskset.specs.Levels as Levels
use Rattle.taskset.specs.Tasks.{is_task_set, cores_exist, all_differ, occurs}
use Rattle.table.specs.Pieces as Pieces
use Rattle.table.specs.Fields as Fields
use Rattle.sheet.specs.Sheet as Sheet
use Rattle.sheet.specs.Shipped.{shipped_sheet, shipped_levels}
use Rattle.sheet.proofs.Worked.{six_tasks, six_levels, shipped-tasks, shipped-levels}
use Rattle.levels.specs.Printed.{level_line, level_lines, tasks_printed, levels_printed}

six : Levels.levels_of six_tasks ≡ six_levels
unfolding shipped_levels
six = ap Levels.levels_of (sym shipped-tasks) ∙ shipped-levels

table : levels_printed shipped_sheet ≡ ascii "1 6 6\n2 2 4\n3 3 4\n4 4 4\n5 1 6\n6 5 0\n"
unfolding levels_printed tasks_printed level_lines level_line is_task_set cores_exist all_differ occurs spelling spelling_in
table = rw (shipped-tasks, six) refl

no_byte : levels_printed [] ≡ ascii "refused 13\n"
unfolding levels_printed tasks_printed is_task_set Sheet.sheet_tasks Sheet.tasks_of_lines Sheet.tasks_below Pieces.pieces Pieces.onto Pieces.without_last_empty Pieces.lines Fields.columns_of
no_byte = refl

names-alone : levels_printed (ascii "task core deadline cards\n") ≡ ascii "refused 13\n"
unfolding levels_printed tasks_printed is_task_set Sheet.sheet_tasks Sheet.tasks_of_lines Sheet.tasks_below Sheet.gathered Pieces.pieces Pieces.onto Pieces.without_last_empty Pieces.lines Fields.fields_of Fields.place Fields.places_of Fields.all_stand Fields.columns Fields.columns_of
names-alone = refl
