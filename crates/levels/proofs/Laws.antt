-- Texts put one after another from a place on, the lines of all tasks so put, and that there is room for them.
use mathlib.Core.Path.{◌≡◌, refl, sym, ap, subst, ◌∙◌}
use mathlib.Core.Bool.{Bool, true, false, cond}
use mathlib.Core.List.{List, [], ◌∷◌, ◌++◌, append_assoc, append-nil}
use Prim.Native.Nat.{ℕ, suc, ◌+◌, ◌-◌, ◌*◌, ◌≤◌, ◌<◌}
use native.Mathlib.Nat.{add-zero}
use native.Mathlib.Omega.{arith}
use lib.ListN.{length, take, drop, get_or, replicate, length-append, length-drop, take-append-drop}
use lib.Seq.{length-take-le, take-suc, take-append_seam}
use Rattle.decimal.proofs.Laws.{spelling-length}
use Rattle.listing.specs.Text.{fitting_at, placed}
use Rattle.listing.proofs.Laws.{Stands, stands-none, stands-next, stands-length, fitting_at-whole, placed-whole}
use Rattle.taskset.specs.declared.Level.{Level}
use Rattle.taskset.specs.declared.Task.{Task}
use Rattle.taskset.specs.declared.Levels.{Levels}
use Rattle.taskset.specs.declared.NotTasks.{NotTasks}
use Rattle.std.specs.Prelude.{Result, Ok, Err}
use Rattle.std.specs.Result.{result_unwrap_or}
use Rattle.taskset.specs.Tasks.{most_tasks, is_task_set, not_tasks}
use Rattle.taskset.specs.Levels.{no_level, levels_of, levelled, levels_given}
use Rattle.taskset.proofs.Ceilings.{levels-given}
use Rattle.taskset.proofs.TaskLaws.{set-most}
use Rattle.taskset.proofs.LevelList.{levels_long}
use Rattle.sheet.specs.Sheet.{sheet_tasks}
use Rattle.levels.specs.Printed.{level_line, level_lines, refused_line, tasks_printed, levels_printed}

-- ---- texts put one after another from `at` on

-- a text stands in what an output came to, from `at` to k
pub record Written (at : ℕ) (text output : List ℕ) (k : ℕ) (after : List ℕ) : Type 0 where
  pub stands : Stands (take at output ++ text) output k after
  pub end : k ≡ at + length text

pub nothing_written : (at : ℕ) (output : List ℕ) → at ≤ length output → Written at [] output at output
nothing_written at output h =
    let long = length-take-le at output h in
    record {
      stands = record {
        count = rw length-append (omega (arith, long));
        bytes = sym (rw (length-append, long, add-zero, append_assoc) (take-append-drop at output));
      };
      end = omega arith;
    }

pub next-written : {at k r : ℕ} {A output after last : List ℕ} (B : List ℕ) → Written at A output k after
    → at + length A + length B ≤ length output → r ≡ length (fitting_at k B after) → last ≡ placed k B after → Written at (A ++ B) output (k + r) last
next-written {at} {k} {r} {A} {output} {after} {last} B w room count bytes =
    let long = length-take-le at output (omega (arith, room)) in
    let both = stands-next B w.stands (rw length-append (omega (arith, room, long))) count bytes in
    record {
      stands = subst (λ (xs : List ℕ). Stands xs output (k + r) last) (append_assoc (take at output) A B) both;
      end = omega (arith, both.count, length-append (take at output ++ A) B, length-append (take at output) A, length-append A B, long);
    }

-- it is then what placing the whole text leaves
pub written-placed : {at k : ℕ} {text output after : List ℕ} → Written at text output k after → at + length text ≤ length output → after ≡ placed at text output
written-placed {at} {k} {text} {output} w room =
    let long = length-append (take at output) text ∙ ap (λ (n : ℕ). n + length text) (length-take-le at output (omega (arith, room))) in
    w.stands.bytes ∙ ap (λ (n : ℕ). take at output ++ text ++ drop n output) long ∙ sym (placed-whole at text output room)

-- a text that was put over the first bytes is no longer than the output
pub within : (text output after : List ℕ) → after ≡ text ++ drop (length text) output → length after ≡ length output → length text ≤ length output
within text output after e same = omega (arith, ap length e, length-append text (drop (length text) output), length-drop (length text) output, same)

-- ---- the line of a task has at most 33 bytes

pub line-short : (l : Level) → length (level_line l) ≤ 33
unfolding level_line
line-short l = simp length-append (omega (arith, spelling-length l.number, spelling-length l.task, spelling-length l.transaction))

-- ---- the lines of all tasks

lines_then : (ls : List Level) (l : Level) → level_lines (ls ++ (l ∷ [])) ≡ level_lines ls ++ level_line l
unfolding level_lines
lines_then [] l = append-nil (level_line l)
lines_then (x ∷ ls) l = ap (λ (r : List ℕ). level_line x ++ r) (lines_then ls l) ∙ sym (append_assoc (level_line x) (level_lines ls) (level_line l))

-- one task more
pub lines_next : (ls : List Level) (i : ℕ) → i < length ls → level_lines (take (suc i) ls) ≡ level_lines (take i ls) ++ level_line (get_or ls i no_level)
lines_next ls i h = ap level_lines (take-suc ls i no_level h) ∙ lines_then (take i ls) (get_or ls i no_level)

pub lines-short : (ls : List Level) → length (level_lines ls) ≤ 33 * length ls
unfolding level_lines
lines-short [] = omega arith
lines-short (l ∷ ls) = rw length-append (omega (arith, line-short l, lines-short ls))

-- where the loop that puts them stands: the first i of them are put
pub record Lines (ls : List Level) (output : List ℕ) (i k : ℕ) (after : List ℕ) : Type 0 where
  pub stands : Stands (level_lines (take i ls)) output k after
  pub short : k ≤ 33 * i
  pub long : length after ≡ length output

pub no_lines : (ls : List Level) (output : List ℕ) → Lines ls output 0 0 output
unfolding level_lines
no_lines ls output = record { stands = stands-none output; short = omega arith; long = refl }

pub next-line : {ls : List Level} {output after last : List ℕ} {i k r : ℕ} → Lines ls output i k after → i < length ls → 33 * suc i ≤ length output
    → r ≡ k + length (level_line (get_or ls i no_level)) → last ≡ placed k (level_line (get_or ls i no_level)) after → Lines ls output (suc i) r last
next-line {ls} {output} {after} {last} {i} {k} {r} at h room end bytes =
    let l = get_or ls i no_level in
    let fits = ap length (fitting_at-whole k (level_line l) after (omega (arith, at.short, at.long, line-short l, room))) in
    let next = stands-next (level_line l) at.stands (omega (arith, at.short, at.stands.count, line-short l, room)) (sym fits) bytes in
    let all = subst (λ (m : ℕ). Stands (level_lines (take i ls) ++ level_line l) output m last) (sym end) next in
    record {
      stands = rw (lines_next ls i h) all;
      short = omega (arith, at.short, end, line-short l);
      long = stands-length all (omega (arith, all.count, end, at.short, line-short l, room));
    }

-- ---- what is printed of a sheet

module _ (bytes : List ℕ) (r : Result Levels NotTasks) (e : r ≡ levels_given (sheet_tasks bytes)) where
  abbrev ts : List Task
  ts = sheet_tasks bytes

  answer : Bool → Result Levels NotTasks
  answer b = cond b (Ok (levelled (levels_of ts))) (Err not_tasks)

  pub printed : {given : Levels} → r ≡ Ok given → (given.count ≤ most_tasks) × (level_lines (take given.count given.list) ≡ levels_printed bytes)
  unfolding levelled tasks_printed levels_printed answer
  printed {given} p = go (is_task_set ts) refl
    where
      go : (b : Bool) → is_task_set ts ≡ b → (given.count ≤ most_tasks) × (level_lines (take given.count given.list) ≡ levels_printed bytes)
      go true is =
          let same : Ok given ≡ answer true = sym p ∙ e ∙ levels-given ts true (sym is) in
          let all : given ≡ levelled (levels_of ts) = ap (λ (x : Result Levels NotTasks). result_unwrap_or x given) same in
          rw (all, is) (
            omega (arith, levels_long ts, set-most ts is),
            ap level_lines (take-append_seam (levels_of ts) (replicate (most_tasks - length (levels_of ts)) no_level)),
          )
      go false not = let other : Ok given ≡ answer false = sym p ∙ e ∙ levels-given ts false (sym not) in cc

  pub refused : {x : NotTasks} → r ≡ Err x → levels_printed bytes ≡ refused_line
  unfolding tasks_printed levels_printed answer
  refused {x} p = go (is_task_set ts) refl
    where
      go : (b : Bool) → is_task_set ts ≡ b → cond b (level_lines (levels_of ts)) refused_line ≡ refused_line
      go true is = let other : Err x ≡ answer true = sym p ∙ e ∙ levels-given ts true (sym is) in cc
      go false not = refl
