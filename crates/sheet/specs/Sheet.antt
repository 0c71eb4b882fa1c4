-- Which bytes are a job sheet (paper 2), and which tasks they are, in the sheet's order.
use Rattle.std.specs.Str.{bytes_eq}
use Rattle.std.specs.Prelude.{Option, None, Some, ℕ, suc, ◌+◌, ◌*◌, cond, not, ◌&&◌, List, [], ◌∷◌, ◌++◌, map, leb, ltb, length, get_or}
use Rattle.decimal.specs.Bytes.{byte, ascii}
use Rattle.decimal.specs.Reading.{read_as_number}
use Rattle.objset.specs.Objset.{most_objects, none, added}
use Rattle.table.specs.Pieces.{pieces, lines}
use Rattle.table.specs.Fields.{fields_of, columns_of}
use Rattle.taskset.specs.declared.Task.{Task}
use Rattle.taskset.specs.Tasks.{most_tasks, last_core, occurs, numbers_of}

-- a line has at most 1,024 bytes
abbrev pub longest_line : ℕ
longest_line = 1024

-- so a sheet has at most 33,825 bytes: its lines and their newlines
abbrev pub longest_sheet : ℕ
longest_sheet = (most_tasks + 1) * (longest_line + 1)

-- a sheet has the names task, core, deadline, cards
abbrev pub sheet_names : List (List ℕ)
sheet_names = ascii "task" ∷ ascii "core" ∷ ascii "deadline" ∷ ascii "cards" ∷ []

-- task numbers are 0 to 65,535
abbrev pub last_task : ℕ
last_task = 65535

-- ---- cards: a comma list of different rising numbers or `-`

-- the set of the cards that numbers are, each from `least` on, greater than the one before it, and one of the 64
unfoldable pub rising : ℕ → ℕ → List (Option ℕ) → Option ℕ
rising least s [] = Some s
rising least s (Some d ∷ ns) = cond (leb least d && ltb d most_objects) (rising (suc d) (added s d) ns) None
rising least s (None ∷ ns) = None

-- the numbers of a comma list
abbrev pub comma_list : List ℕ → List (Option ℕ)
comma_list field = map read_as_number (pieces (byte ",") field)

-- the cards that a field spells: `-` is none
unfoldable pub card_list : List ℕ → Option ℕ
card_list field = cond (bytes_eq field (ascii "-")) (Some none) (rising 0 none (comma_list field))

-- ---- a line of a task

-- what a field reads as: the line goes on with it, and is malformed where the field is (std's `option_and_then`, the field first)
unfoldable pub goes_on : Option ℕ → (ℕ → Option Task) → Option Task
goes_on None k = None
goes_on (Some n) k = k n

-- the task of a number, a core, a deadline and a set of cards; none where the number or the core is too large (a deadline may be any
-- number that reads)
unfoldable pub spelled_task : ℕ → ℕ → ℕ → ℕ → Option Task
spelled_task t c d s = cond (leb t last_task && leb c last_core) (Some (record { number = t; core = c; deadline = d; cards = s })) None

-- the task that four fields spell, the names standing in these columns; the columns are those of task, core, deadline and cards
unfoldable pub task_of : List ℕ → List (List ℕ) → Option Task
task_of at fs =
    goes_on (read_as_number (get_or fs (get_or at 0 0) [])) (λ t. goes_on (read_as_number (get_or fs (get_or at 1 0) [])) (λ c.
    goes_on (read_as_number (get_or fs (get_or at 2 0) [])) (λ d. goes_on (card_list (get_or fs (get_or at 3 0) [])) (λ s. spelled_task t c d s))))

-- a line has four fields and at most 1,024 bytes
unfoldable pub task_line : List ℕ → List ℕ → Option Task
task_line at line = task_of at (fields_of longest_line 4 line)

-- ---- a sheet: one line for each of 1 to 32 tasks, whose numbers differ

-- the tasks of lines, after those that stand so far; none where a line spells no task, repeats a number, or is one too many
unfoldable pub gathered : List Task → List (Option Task) → List Task
gathered ts [] = ts
gathered ts (Some t ∷ ls) =
    cond (ltb (length ts) most_tasks && not (occurs t.number (numbers_of ts))) (gathered (ts ++ (t ∷ [])) ls) []
gathered ts (None ∷ ls) = []

-- the tasks of the lines after the line of names; none where it is bad, and stands nowhere
unfoldable pub tasks_below : List ℕ → List (List ℕ) → List Task
tasks_below [] ls = []
tasks_below (c ∷ cs) ls = gathered [] (map (task_line (c ∷ cs)) ls)

-- the first line is the line of names, in any of 24 orders
unfoldable pub tasks_of_lines : List (List ℕ) → List Task
tasks_of_lines [] = []
tasks_of_lines (names ∷ ls) = tasks_below (columns_of sheet_names longest_line names) ls

-- the tasks that bytes are; none where the bytes are no sheet
unfoldable pub sheet_tasks : List ℕ → List Task
sheet_tasks bytes = tasks_of_lines (lines bytes)
