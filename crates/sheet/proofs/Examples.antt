-- Sheets at the edges of the rule, computed: how many tasks bytes are, 0 for those that are refused. The line of 1,024 bytes and one more.
use mathlib.Core.Path.{◌≡◌, refl}
use mathlib.Core.List.{List, [], ◌∷◌, ◌++◌, map}
use Prim.Native.Nat.{ℕ, zero, suc}
use Prim.Native.String as String
use lib.ListN.{length, replicate}
use Rattle.decimal.specs.Bytes.{byte, ascii}
use Rattle.decimal.specs.Spelling as Spelling
use Rattle.decimal.specs.Reading as Reading
use Rattle.objset.specs.Objset as Objset
use Rattle.table.specs.Pieces as Pieces
use Rattle.table.specs.Fields as Fields
use Rattle.taskset.specs.Tasks as Tasks
use Rattle.sheet.specs.Sheet as Sheet

-- ---- whole sheets

abbrev Row : Type 0
Row = String.String × ℕ

-- how many tasks a text is
abbrev taken : Row → ℕ
taken r = length (Sheet.sheet_tasks (ascii r.0))

abbrev told : Row → ℕ
told r = r.1

-- names and lines
abbrev names : List Row
names =
    ("", 0)
    ∷ ("\n", 0)
    ∷ ("task core deadline cards", 0)
    ∷ ("task core deadline cards\n", 0)
    ∷ ("task core deadline cards\n\n", 0)
    ∷ ("task core deadline cards\n1 0 50 3", 1)
    ∷ ("task core deadline cards\n1 0 50 3\n", 1)
    ∷ ("task core deadline cards\n1 0 50 3\n\n", 0)
    ∷ ("task core deadline cards\n\n1 0 50 3\n", 0)
    ∷ ("cards deadline core task\n3 50 0 1\n", 1)
    ∷ ("deadline task cards core\n50 1 3 0\n", 1)
    ∷ ("task core deadline cards\n1 0 64 3\n", 1)
    ∷ ("deadline task cards core\n1 0 64 3\n", 0)
    ∷ ("task core deadline\n1 0 50\n", 0)
    ∷ ("task core deadline cards cards\n1 0 50 3 3\n", 0)
    ∷ ("task core deadline task\n1 0 50 3\n", 0)
    ∷ ("task core deadline card\n1 0 50 3\n", 0)
    ∷ ("Task core deadline cards\n1 0 50 3\n", 0)
    ∷ (" task core deadline cards\n1 0 50 3\n", 0)
    ∷ ("task  core deadline cards\n1 0 50 3\n", 0)
    ∷ ("task core deadline cards \n1 0 50 3\n", 0)
    ∷ ("task core deadline cards\r\n1 0 50 3\n", 0)
    ∷ ("task core deadline cards\n1 0 50 3\r\n", 0) ∷ []

-- the cards of a task
abbrev cards : List Row
cards =
    ("task core deadline cards\n0 0 0 -", 1)
    ∷ ("task core deadline cards\n0 0 0 63", 1)
    ∷ ("task core deadline cards\n0 0 0 64", 0)
    ∷ ("task core deadline cards\n0 0 0 1,2,3", 1)
    ∷ ("task core deadline cards\n0 0 0 3,1", 0)
    ∷ ("task core deadline cards\n0 0 0 1,1", 0)
    ∷ ("task core deadline cards\n0 0 0 1,", 0)
    ∷ ("task core deadline cards\n0 0 0 ,1", 0)
    ∷ ("task core deadline cards\n0 0 0 1,,2", 0)
    ∷ ("task core deadline cards\n0 0 0 -,1", 0)
    ∷ ("task core deadline cards\n0 0 0 1,-", 0)
    ∷ ("task core deadline cards\n0 0 0 1, 2", 0)
    ∷ ("task core deadline cards\n0 0 0 01", 0)
    ∷ ("task core deadline cards\n0 0 0 x", 0) ∷ []

-- the other fields of a task, and two tasks
abbrev values : List Row
values =
    ("task core deadline cards\n65535 15 4294967295 0,63", 1)
    ∷ ("task core deadline cards\n65536 0 0 -", 0)
    ∷ ("task core deadline cards\n0 16 0 -", 0)
    ∷ ("task core deadline cards\n0 0 4294967296 -", 0)
    ∷ ("task core deadline cards\n0 0 0 ", 0)
    ∷ ("task core deadline cards\n0 0 0", 0)
    ∷ ("task core deadline cards\n0 0  0 -", 0)
    ∷ ("task core deadline cards\n 0 0 0 -", 0)
    ∷ ("task core deadline cards\n0 0 0 - ", 0)
    ∷ ("task core deadline cards\n0 0 0 - -", 0)
    ∷ ("task core deadline cards\n0 0\t0 -", 0)
    ∷ ("task core deadline cards\n- 0 0 -", 0)
    ∷ ("task core deadline cards\n0 - 0 -", 0)
    ∷ ("task core deadline cards\n0 0 - -", 0)
    ∷ ("task core deadline cards\n00 0 0 -", 0)
    ∷ ("task core deadline cards\n+1 0 0 -", 0)
    ∷ ("task core deadline cards\n1 0 50 3\n2 0 50 3", 2)
    ∷ ("task core deadline cards\n1 0 50 3\n1 0 50 3", 0)
    ∷ ("task core deadline cards\n1 0 50 3\n1 1 60 -", 0) ∷ []

-- so many lines of tasks, numbered down from n
abbrev many : ℕ → List ℕ
many zero = []
many (suc n) = Spelling.spelling n ++ ascii " 0 0 -\n" ++ many n

abbrev taken_many : ℕ → ℕ
taken_many n = length (Sheet.sheet_tasks (ascii "task core deadline cards\n" ++ many n))

pub sheet-names : map taken names ≡ map told names
unfolding Sheet.sheet_tasks Sheet.tasks_of_lines Sheet.tasks_below Sheet.gathered Sheet.task_line Sheet.task_of Sheet.spelled_task Sheet.goes_on Sheet.card_list Sheet.rising Pieces.pieces Pieces.onto Pieces.without_last_empty Pieces.lines Fields.fields_of Fields.place Fields.places_of Fields.all_stand Fields.columns Fields.columns_of Reading.read_as_number Reading.is_number Reading.all_digits Reading.no_leading_zero Reading.value_after Objset.none Objset.added Objset.collect Objset.has Tasks.occurs
sheet-names = refl

pub sheet-cards : map taken cards ≡ map told cards
unfolding Sheet.sheet_tasks Sheet.tasks_of_lines Sheet.tasks_below Sheet.gathered Sheet.task_line Sheet.task_of Sheet.spelled_task Sheet.goes_on Sheet.card_list Sheet.rising Pieces.pieces Pieces.onto Pieces.without_last_empty Pieces.lines Fields.fields_of Fields.place Fields.places_of Fields.all_stand Fields.columns Fields.columns_of Reading.read_as_number Reading.is_number Reading.all_digits Reading.no_leading_zero Reading.value_after Objset.none Objset.added Objset.collect Objset.has Tasks.occurs
sheet-cards = refl

pub sheet-values : map taken values ≡ map told values
unfolding Sheet.sheet_tasks Sheet.tasks_of_lines Sheet.tasks_below Sheet.gathered Sheet.task_line Sheet.task_of Sheet.spelled_task Sheet.goes_on Sheet.card_list Sheet.rising Pieces.pieces Pieces.onto Pieces.without_last_empty Pieces.lines Fields.fields_of Fields.place Fields.places_of Fields.all_stand Fields.columns Fields.columns_of Reading.read_as_number Reading.is_number Reading.all_digits Reading.no_leading_zero Reading.value_after Objset.none Objset.added Objset.collect Objset.has Tasks.occurs
sheet-values = refl

pub sheet-tasks : map taken_many (1 ∷ 32 ∷ 33 ∷ []) ≡ 1 ∷ 32 ∷ 0 ∷ []
unfolding Sheet.sheet_tasks Sheet.tasks_of_lines Sheet.tasks_below Sheet.gathered Sheet.task_line Sheet.task_of Sheet.spelled_task Sheet.goes_on Sheet.card_list Sheet.rising Pieces.pieces Pieces.onto Pieces.without_last_empty Pieces.lines Fields.fields_of Fields.place Fields.places_of Fields.all_stand Fields.columns Fields.columns_of Reading.read_as_number Reading.is_number Reading.all_digits Reading.no_leading_zero Reading.value_after Objset.none Objset.added Objset.collect Objset.has Tasks.occurs Spelling.spelling Spelling.spelling_in
sheet-tasks = refl

-- ---- a line of so many bytes: four fields, the last of them long

abbrev long : ℕ → List ℕ
long n = ascii "1 0 50 " ++ replicate n (byte "3")

-- with 1,024 bytes it has its four fields, with 1,025 none; no task has so many digits
pub longest-lines : map (λ (n : ℕ). length (Fields.fields_of Sheet.longest_line 4 (long n))) (1017 ∷ 1018 ∷ []) ≡ 4 ∷ 0 ∷ []
unfolding Fields.fields_of Pieces.pieces Pieces.onto
longest-lines = refl
