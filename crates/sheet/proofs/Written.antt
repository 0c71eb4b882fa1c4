-- Every task set is the tasks of some sheet: how it is written as one, and that the lines that were written read as its tasks.
use Rattle.std.specs.Prelude.{Option, Some}
use mathlib.Core.Path.{◌≡◌, refl, sym, ap, ap₂, ◌∙◌}
use mathlib.Core.Bool.{true, false, not, ◌&&◌, and-eq-true_iff}
use mathlib.Core.List.{List, [], ◌∷◌, ◌++◌, map, append-nil, append_assoc}
use mathlib.Mathlib.Data.Bool.Basic.{or-eq-false-eq-eq-false-and-eq-false as none_of}
use Prim.Native.Nat.{ℕ, ◌+◌, ◌^◌, ◌≤◌, ◌<◌}
use native.Mathlib.Omega.{arith}
use lib.Dec.{eqb, leb, ltb}
use lib.ListN.{length, length-append}
use borrow.Author.Tests.{leb-true, le-leb, lt-ltb, eqb-false, ne_eqb, not-true}
use Rattle.decimal.specs.Bytes.{byte, ascii}
use Rattle.decimal.specs.Spelling.{spelling}
use Rattle.decimal.specs.Reading.{largest}
use Rattle.decimal.proofs.Laws.{spelling-length}
use Rattle.decimal.proofs.RoundTrip.{reads-spelling}
use Rattle.table.specs.Pieces.{onto, pieces, lines, free}
use Rattle.table.specs.Fields.{fields_of, place, places_of, all_stand, columns, columns_of}
use Rattle.table.proofs.Laws.{first, others, pieces-begun, pieces-cut, lines-empty, lines-newline}
use Rattle.taskset.specs.declared.Task.{Task}
use Rattle.taskset.specs.Tasks.{most_tasks, last_core, occurs, all_differ, cores_exist, numbers_of, is_task_set}
use Rattle.sheet.specs.Sheet.{longest_line, sheet_names, last_task, goes_on, task_of, task_line, gathered, tasks_below, tasks_of_lines, sheet_tasks}
use Rattle.sheet.proofs.LineLaws.{is-task}
use Rattle.sheet.proofs.CardsWritten.{cards_written, cards-read, cards-within, cards-length, spelling-within, within, within-one, within_both, within_wider, within-free}

-- ---- how a task set is written as a sheet

-- a task's line: its number, its core, its deadline, its cards, one space between
unfoldable pub task_written : Task → List ℕ
task_written t =
    spelling t.number ++ byte " " ∷ (spelling t.core ++ byte " " ∷ (spelling t.deadline ++ byte " " ∷ cards_written t.cards))

-- a line for each task
unfoldable pub lines_written : List Task → List ℕ
lines_written [] = []
lines_written (t ∷ ts) = task_written t ++ byte "\n" ∷ lines_written ts

-- below the line of names
unfoldable pub sheet_written : List Task → List ℕ
sheet_written ts = ascii "task core deadline cards" ++ byte "\n" ∷ lines_written ts

-- ---- what the types say of a task's fields: a number of 16 bits, a deadline of 32, cards of 64

pub record FieldsInTypes (t : Task) : Type 0 where
  pub number : t.number ≤ last_task
  pub deadline : t.deadline ≤ largest
  pub cards : t.cards < 2 ^ 64

-- of each of the tasks
abbrev pub InTypes : List Task → Type 0
InTypes [] = Unit {0}
InTypes (t ∷ ts) = FieldsInTypes t × InTypes ts

-- ---- a task's line reads as the task

-- digits, a space, and what follows
field-within : (p q : List ℕ) → within 48 57 p ≡ true → within 32 57 q ≡ true → within 32 57 (p ++ 32 ∷ q) ≡ true
field-within p q e f =
    within_both 32 57 p (32 ∷ q) (within_wider 48 57 32 57 (omega arith) (omega arith) p e) (within-one 32 57 32 q (omega arith) (omega arith) f)

digits-cut : (p q : List ℕ) → within 48 57 p ≡ true → pieces 32 (p ++ 32 ∷ q) ≡ p ∷ pieces 32 q
digits-cut p q e = pieces-cut 32 p q (within-free 48 57 32 (omega arith) p e)

module _ (t : Task) (in-types : FieldsInTypes t) (core-exists : t.core ≤ last_core) where
  abbrev from-deadline : List ℕ
  from-deadline = spelling t.deadline ++ byte " " ∷ cards_written t.cards

  abbrev from-core : List ℕ
  from-core = spelling t.core ++ byte " " ∷ from-deadline

  number-within : within 48 57 (spelling t.number) ≡ true
  number-within = spelling-within t.number (omega (arith, in-types.number))

  core-within : within 48 57 (spelling t.core) ≡ true
  core-within = spelling-within t.core (omega arith)

  deadline-within : within 48 57 (spelling t.deadline) ≡ true
  deadline-within = spelling-within t.deadline in-types.deadline

  line-pieces : pieces (byte " ") (task_written t) ≡ spelling t.number ∷ spelling t.core ∷ spelling t.deadline ∷ cards_written t.cards ∷ []
  unfolding task_written pieces first others
  line-pieces =
      let cards = cards_written t.cards in
      let no-space = within-free 44 57 32 (omega arith) cards (cards-within t.cards) in
      let last : pieces 32 cards ≡ cards ∷ [] = rw append-nil at (pieces-begun 32 cards [] no-space) in
      let third = digits-cut (spelling t.deadline) cards deadline-within in
      let second = digits-cut (spelling t.core) from-deadline core-within in
      digits-cut (spelling t.number) from-core number-within ∙ rw (second, third, last)

  line-within : within 32 57 (task_written t) ≡ true
  unfolding task_written
  line-within =
      field-within (spelling t.number) from-core number-within
      (field-within (spelling t.core) from-deadline core-within
      (field-within (spelling t.deadline) (cards_written t.cards) deadline-within
      (within_wider 44 57 32 57 (omega arith) (omega arith) (cards_written t.cards) (cards-within t.cards))))

  line-short : length (task_written t) ≤ longest_line
  unfolding task_written
  line-short =
      simp length-append (omega (arith, (spelling-length t.number).1, (spelling-length t.core).1, (spelling-length t.deadline).1, cards-length t.cards))

  line-fields : fields_of longest_line 4 (task_written t) ≡ spelling t.number ∷ spelling t.core ∷ spelling t.deadline ∷ cards_written t.cards ∷ []
  unfolding fields_of
  line-fields = rw (le-leb (length (task_written t)) longest_line line-short, line-pieces)

  line_read : task_line (0 ∷ 1 ∷ 2 ∷ 3 ∷ []) (task_written t) ≡ Some t
  unfolding task_line task_of goes_on
  line_read =
      rw (
        line-fields,
        reads-spelling t.number (omega (arith, in-types.number)),
        reads-spelling t.core (omega arith),
        reads-spelling t.deadline in-types.deadline,
        cards-read t.cards in-types.cards,
      )
      (is-task t.number t.core t.deadline t.cards in-types.number core-exists)

-- ---- the lines of the sheet

core-first : (t : Task) (ts : List Task) → cores_exist (t ∷ ts) ≡ true → (t.core ≤ last_core) × (cores_exist ts ≡ true)
unfolding cores_exist
core-first t ts e =
    let both = (and-eq-true_iff (leb t.core last_core) (cores_exist ts)).0 e in
    (leb-true t.core last_core both.0, both.1)

tasks-lines : (ts : List Task) → InTypes ts → cores_exist ts ≡ true → lines (lines_written ts) ≡ map task_written ts
unfolding lines_written
tasks-lines [] h e = lines-empty
tasks-lines (t ∷ ts) h e =
    let c = core-first t ts e in
    lines-newline (task_written t) (lines_written ts) (within-free 32 57 10 (omega arith) (task_written t) (line-within t h.0 c.0))
    ∙ ap (λ (ls : List (List ℕ)). task_written t ∷ ls) (tasks-lines ts h.1 c.1)

tasks-read : (ts : List Task) → InTypes ts → cores_exist ts ≡ true → map (task_line (0 ∷ 1 ∷ 2 ∷ 3 ∷ [])) (map task_written ts) ≡ map Some ts
tasks-read [] h e = refl
tasks-read (t ∷ ts) h e =
    let c = core-first t ts e in
    ap₂ (λ (l : Option Task) (ls : List (Option Task)). l ∷ ls) (line_read t h.0 c.0) (tasks-read ts h.1 c.1)

-- what is written is bytes
lines-within : (ts : List Task) → InTypes ts → cores_exist ts ≡ true → within 0 255 (lines_written ts) ≡ true
unfolding lines_written within
lines-within [] h e = refl
lines-within (t ∷ ts) h e =
    let c = core-first t ts e in
    within_both 0 255 (task_written t) (10 ∷ lines_written ts)
    (within_wider 32 57 0 255 (omega arith) (omega arith) (task_written t) (line-within t h.0 c.0))
    (within-one 0 255 10 (lines_written ts) (omega arith) (omega arith) (lines-within ts h.1 c.1))

names-read : columns_of sheet_names longest_line (ascii "task core deadline cards") ≡ 0 ∷ 1 ∷ 2 ∷ 3 ∷ []
unfolding columns_of columns all_stand places_of place fields_of pieces onto
names-read = refl

-- ---- tasks whose numbers differ are gathered

differs-from : (n : ℕ) (before : List Task) (t : Task) (ts : List Task) → occurs n (numbers_of (before ++ t ∷ ts)) ≡ false → eqb n t.number ≡ false
unfolding occurs
differs-from n [] t ts e = ((none_of (eqb n t.number) _).0 e).0
differs-from n (x ∷ before) t ts e = differs-from n before t ts ((none_of (eqb n x.number) _).0 e).1

not-before : (before : List Task) (t : Task) (ts : List Task) → all_differ (numbers_of (before ++ t ∷ ts)) ≡ true → occurs t.number (numbers_of before) ≡ false
unfolding occurs all_differ
not-before [] t ts e = refl
not-before (x ∷ before) t ts e =
    let both = (and-eq-true_iff (not (occurs x.number (numbers_of (before ++ t ∷ ts)))) (all_differ (numbers_of (before ++ t ∷ ts)))).0 e in
    let other = differs-from x.number before t ts (not-true _ both.0) in
    rw (ne_eqb t.number x.number (λ q. eqb-false x.number t.number other (sym q)), not-before before t ts both.1)

all-gathered : (before ts : List Task) → length before + length ts ≤ most_tasks → all_differ (numbers_of (before ++ ts)) ≡ true
    → gathered before (map Some ts) ≡ before ++ ts
unfolding gathered
all-gathered before [] few e = sym (append-nil before)
all-gathered before (t ∷ ts) few e =
    let room : length before < most_tasks = omega arith in
    let on : (before ++ (t ∷ [])) ++ ts ≡ before ++ t ∷ ts = append_assoc before (t ∷ []) ts in
    rw (lt-ltb (length before) most_tasks room, not-before before t ts e)
    (all-gathered (before ++ (t ∷ [])) ts (omega (arith, length-append before (t ∷ [])))
    (ap (λ (us : List Task). all_differ (numbers_of us)) on ∙ e) ∙ on)

-- ---- every task set is the tasks of some sheet

set-tests : (ts : List Task) → is_task_set ts ≡ true → (length ts ≤ most_tasks) × (cores_exist ts ≡ true) × (all_differ (numbers_of ts) ≡ true)
unfolding is_task_set
set-tests ts e =
    let both = (and-eq-true_iff (ltb 0 (length ts) && leb (length ts) most_tasks) (cores_exist ts && all_differ (numbers_of ts))).0 e in
    let size = (and-eq-true_iff (ltb 0 (length ts)) (leb (length ts) most_tasks)).0 both.0 in
    let set = (and-eq-true_iff (cores_exist ts) (all_differ (numbers_of ts))).0 both.1 in
    (leb-true (length ts) most_tasks size.1, set.0, set.1)

module _ (ts : List Task) (in-types : InTypes ts) (is_set : is_task_set ts ≡ true) where
  -- what is written reads as the task set
  pub written_read : sheet_tasks (sheet_written ts) ≡ ts
  unfolding sheet_tasks tasks_of_lines tasks_below sheet_written free
  written_read =
      let set = set-tests ts is_set in
      let cut = lines-newline (ascii "task core deadline cards") (lines_written ts) refl in
      rw (cut, names-read, tasks-lines ts in-types set.1, tasks-read ts in-types set.1)
      (all-gathered [] ts (omega (arith, set.0)) set.2)

  -- and is bytes
  pub written-bytes : within 0 255 (sheet_written ts) ≡ true
  unfolding sheet_written within
  written-bytes = lines-within ts in-types (set-tests ts is_set).1

-- so every list that is a task set, its fields in the range of their types, is the tasks of some sheet; that the tasks of a sheet are a task set,
-- `sheet-set` says (proofs/Gathered.antt)
pub some-sheet : (ts : List Task) → InTypes ts → is_task_set ts ≡ true → (bytes : List ℕ) × (sheet_tasks bytes ≡ ts)
some-sheet ts h e = (sheet_written ts, written_read ts h e)
