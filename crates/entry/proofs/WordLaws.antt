-- Three words for each task, put one task after another, and when they fit.
use mathlib.Core.Path.{◌≡◌, refl, sym, ap, ◌∙◌}
use mathlib.Core.Bool.{Bool, true, false, cond}
use mathlib.Core.List.{List, [], ◌∷◌, ◌++◌, append_assoc}
use native.Mathlib.Numerals.{add-one}
use Prim.Native.Nat.{ℕ, zero, suc, ◌+◌, ◌-◌, ◌*◌, ◌/◌, ◌≤◌, ◌<◌}
use native.Mathlib.Omega.{arith}
use lib.ListN.{length, take, drop, get_or, replicate}
use lib.Seq.{length-take-le, take-suc, take_at, drop_at, take-append_seam, drop-drop}
use borrow.Author.Tests.{ltb-false}
use Rattle.taskset.specs.declared.Level.{Level}
use Rattle.taskset.specs.declared.Task.{Task}
use Rattle.taskset.specs.declared.Levels.{Levels}
use Rattle.taskset.specs.declared.NotTasks.{NotTasks}
use Rattle.std.specs.Prelude.{Result, Ok, Err}
use Rattle.std.specs.Result.{result_unwrap_or}
use Rattle.taskset.specs.Tasks.{most_tasks, is_task_set, not_tasks}
use Rattle.taskset.specs.Levels.{no_level, side_by_side, levels_of, levelled, levels_given}
use Rattle.taskset.proofs.Ceilings.{levels-given}
use Rattle.taskset.proofs.LevelList.{levels_long}
use Rattle.sheet.specs.Sheet.{sheet_tasks}
use Rattle.sheet.proofs.Laws.{sheet-levels}
use Rattle.sheet.proofs.Gathered.{sheet-few, sheet-set}
use Rattle.entry.specs.Fitting.{whole_or_none, output_after}
use Rattle.entry.specs.Words.{level_words, sheet_words, level_at, RightWords}
use Rattle.entry.proofs.Fits.{refused, whole, output-after}

pub words_long : (ls : List Level) → length (level_words ls) ≡ 3 * length ls
unfolding level_words
words_long [] = refl
words_long (l ∷ ls) = omega (arith, words_long ls)

abbrev words_of : Level → List ℕ
words_of l = l.number ∷ l.task ∷ l.transaction ∷ []

words-then : (ls : List Level) (l : Level) → level_words (ls ++ (l ∷ [])) ≡ level_words ls ++ words_of l
unfolding level_words
words-then [] l = refl
words-then (x ∷ ls) l = ap (λ (r : List ℕ). x.number ∷ x.task ∷ x.transaction ∷ r) (words-then ls l)

-- the words at a place are those of the task there
words-at : (ls : List Level) (rest : List ℕ) (i : ℕ) → i < length ls → level_at (level_words ls ++ rest) i ≡ get_or ls i no_level
unfolding level_words
words-at [] rest i h = absurd (omega (arith, h))
words-at (l ∷ ls) rest zero h = refl
words-at (l ∷ ls) rest (suc i) h =
    let one : 3 * suc i ≡ suc (suc (suc (3 * i))) = omega arith in
    let two : 3 * suc i + 1 ≡ suc (suc (suc (3 * i + 1))) = omega arith in
    let three : 3 * suc i + 2 ≡ suc (suc (suc (3 * i + 2))) = omega arith in
    rw (three, two, one) (words-at ls rest i (omega (arith, h)))

-- ---- where the loop stands: the words of the first i tasks are put, and those past them are as they were

abbrev pub Words : List Level → List ℕ → ℕ → List ℕ → Type 0
Words ls words i after = after ≡ level_words (take i ls) ++ drop (3 * i) words

pub no_words : (ls : List Level) (words : List ℕ) → Words ls words 0 words
unfolding level_words
no_words ls words = refl

pub next-words : (ls : List Level) (words after : List ℕ) (i : ℕ) → Words ls words i after → i < length ls
    → take (3 * i) after ++ (words_of (get_or ls i no_level) ++ drop (3 * i + 3 - 3 * i) (drop (3 * i) after)) ≡ level_words (take (i + 1) ls) ++ drop (3 * (i + 1)) words
next-words ls words after i at h =
    let three : 3 * i + 3 - 3 * i ≡ 3 = omega arith in
    rw (three, add-one i) (
    ap (λ (xs : List ℕ). xs ++ (words_of l ++ drop 3 (drop (3 * i) after))) before
    ∙ ap (λ (xs : List ℕ). put ++ (words_of l ++ xs)) past
    ∙ sym (append_assoc put (words_of l) (drop (3 * suc i) words))
    ∙ ap (λ (xs : List ℕ). xs ++ drop (3 * suc i) words) (sym more)
    )
  where
    l : Level
    l = get_or ls i no_level

    put : List ℕ
    put = level_words (take i ls)

    long : length put ≡ 3 * i
    long = words_long (take i ls) ∙ ap (λ (n : ℕ). 3 * n) (length-take-le i ls (omega (arith, h)))

    before : take (3 * i) after ≡ put
    before = ap (λ (xs : List ℕ). take (3 * i) xs) at ∙ take_at put (drop (3 * i) words) (3 * i) long

    past : drop 3 (drop (3 * i) after) ≡ drop (3 * suc i) words
    past =
        let next : 3 * i + 3 ≡ 3 * suc i = omega arith in
        ap (λ (xs : List ℕ). drop 3 (drop (3 * i) xs)) at
        ∙ ap (drop 3) (drop_at put (drop (3 * i) words) (3 * i) long)
        ∙ drop-drop 3 (3 * i) words
        ∙ ap (λ (n : ℕ). drop n words) next

    more : level_words (take (suc i) ls) ≡ put ++ words_of l
    more = ap level_words (take-suc ls i no_level h) ∙ words-then (take i ls) l

-- ---- the levels that are worked out of a sheet's bytes

pub record Given (bytes : List ℕ) (given : Levels) : Type 0 where
  pub few : given.count ≤ most_tasks
  pub size : length (take given.count given.list) ≡ given.count
  pub words : level_words (take given.count given.list) ≡ sheet_words bytes
  pub long : length (sheet_words bytes) ≡ 3 * given.count

none : (ts : List Task) → length ts ≤ 0 → ts ≡ []
none [] h = refl
none (t ∷ ts) h = absurd (omega arith)

no-tasks : level_words (levels_of []) ≡ []
unfolding level_words levels_of side_by_side
no-tasks = refl

module _ (bytes : List ℕ) where
  abbrev ts : List Task
  ts = sheet_tasks bytes

  answer : Bool → Result Levels NotTasks
  answer b = cond b (Ok (levelled (levels_of ts))) (Err not_tasks)

  pub sheet-given : (given : Levels) → Ok given ≡ levels_given ts → Given bytes given
  unfolding levelled sheet_words answer
  sheet-given given worked = go (is_task_set ts) refl
    where
      go : (b : Bool) → is_task_set ts ≡ b → Given bytes given
      go true is =
          let same : Ok given ≡ answer true = worked ∙ levels-given ts true (sym is) in
          let all : given ≡ levelled (levels_of ts) = ap (λ (r : Result Levels NotTasks). result_unwrap_or r given) same in
          let first = take-append_seam (levels_of ts) (replicate (most_tasks - length (levels_of ts)) no_level) in
          rw all
          record {
            few = omega (arith, levels_long ts, sheet-few bytes);
            size = ap (λ (ls : List Level). length ls) first;
            words = ap level_words first;
            long = words_long (levels_of ts);
          }
      go false not = let other : Ok given ≡ answer false = worked ∙ levels-given ts false (sym not) in cc

  -- bytes that are no sheet have no words
  pub sheet-refused : {x : NotTasks} → Err x ≡ levels_given ts → sheet_words bytes ≡ []
  unfolding sheet_words answer
  sheet-refused {x} worked = go (is_task_set ts) refl
    where
      go : (b : Bool) → is_task_set ts ≡ b → level_words (levels_of ts) ≡ []
      go true is = let other : Err x ≡ answer true = worked ∙ levels-given ts true (sym is) in cc
      go false not =
          let empty : ts ≡ [] = none ts (ltb-false 0 (length ts) (sym (sheet-set bytes) ∙ not)) in
          ap (λ (xs : List Task). level_words (levels_of xs)) empty ∙ no-tasks

  -- so none are put
  pub nothing-put : (words : List ℕ) → sheet_words bytes ≡ []
      → (0 ≡ length (whole_or_none (sheet_words bytes) words) / 3) × (words ≡ output_after (sheet_words bytes) words)
  nothing-put words e =
      let nothing : whole_or_none (sheet_words bytes) words ≡ [] = rw e (whole [] words (omega arith)) in
      (ap (λ (xs : List ℕ). length xs / 3) (sym nothing), sym (output-after (sheet_words bytes) words [] nothing))

module _ (bytes words : List ℕ) (given : Levels) (g : Given bytes given) where
  -- words too few for them
  pub too_few : length words / 3 < given.count
      → (0 ≡ length (whole_or_none (sheet_words bytes) words) / 3) × (words ≡ output_after (sheet_words bytes) words)
  too_few h =
      let nothing = refused (sheet_words bytes) words (omega (arith, h, g.long)) in
      (ap (λ (xs : List ℕ). length xs / 3) (sym nothing), sym (output-after (sheet_words bytes) words [] nothing))

  -- enough, and put there
  pub all-put : given.count ≤ length words / 3 → {after : List ℕ} → after ≡ level_words (take given.count given.list) ++ drop (3 * given.count) words
      → (given.count ≡ length (whole_or_none (sheet_words bytes) words) / 3) × (after ≡ output_after (sheet_words bytes) words)
  all-put h {after} put =
      let all = whole (sheet_words bytes) words (omega (arith, h, g.long)) in (
        omega (arith, ap length all, g.long),
        put ∙ rw (g.words, sym g.long) (sym (output-after (sheet_words bytes) words (sheet_words bytes) all)),
      )

  -- and these are the levels of the sheet's tasks as paper 2 says them
  pub right-put : {after : List ℕ} → after ≡ level_words (take given.count given.list) ++ drop (3 * given.count) words
      → RightWords (sheet_tasks bytes) given.count after
  unfolding sheet_words
  right-put {after} put _ =
      let ts = sheet_tasks bytes in (
        omega (arith, g.long, words_long (levels_of ts), levels_long ts),
        sheet-levels bytes (level_at after) (λ i l. ap (λ (xs : List ℕ). level_at xs i) (put ∙ ap (λ (xs : List ℕ). xs ++ drop (3 * given.count) words) g.words)
            ∙ words-at (levels_of ts) (drop (3 * given.count) words) i (omega (arith, l, levels_long ts))),
      )
