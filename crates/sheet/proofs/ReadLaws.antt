-- Where the loop that reads the tasks of a sheet stands, line by line.
use Rattle.std.specs.Prelude.{Option, None, Some}
use mathlib.Core.Path.{◌≡◌, refl, sym, ap, subst, ◌∙◌}
use Rattle.std.specs.Option.{MatchOption}
use Rattle.taskset.specs.declared.TaskSet.{TaskSet}
use mathlib.Core.Bool.{true, false}
use mathlib.Core.List.{List, [], ◌∷◌, ◌++◌, map}
use Prim.Native.Nat.{ℕ, suc, ◌+◌, ◌-◌, ◌≤◌, ◌<◌}
use native.Mathlib.Numerals.{add-one}
use native.Mathlib.Omega.{arith}
use lib.ListN.{length, length-set, set, take, drop, replicate, take-append-drop}
use lib.Seq.{length-take-le, take-suc-set, drop-set-lt, drop-drop}
use borrow.Author.Tests.{lt-ltb, le-ltb}
use Rattle.decimal.specs.Bytes.{byte}
use Rattle.table.specs.Pieces.{lines}
use Rattle.table.specs.Fields.{piece_end}
use Rattle.table.proofs.PieceEnds.{bytes_between}
use Rattle.table.proofs.Following.{lines_none, lines_next}
use Rattle.taskset.specs.declared.Task.{Task}
use Rattle.taskset.specs.Tasks.{most_tasks, no_task, occurs, numbers_of, packed}
use Rattle.sheet.specs.Sheet.{task_line, gathered}

-- ---- what is handed back of these tasks

abbrev pub Given : List Task → Option TaskSet → Type 0
Given ts r = MatchOption r (ts ≡ []) (λ s. s ≡ packed ts)

pub given-none : (ts : List Task) (r : Option TaskSet) → r ≡ None → ts ≡ [] → Given ts r
given-none ts None e h = h
given-none ts (Some s) e h = cc

pub given-same : (r : Option TaskSet) {ts us : List Task} → ts ≡ us → Given ts r → Given us r
given-same r e h = let P : List Task → Type 0 = λ us. Given us r in subst P e h

-- ---- the loop

-- one place less
drop-one : (k : ℕ) (x : Task) → drop 1 (replicate (suc k) x) ≡ replicate k x
drop-one k x = refl

one_less : (n : ℕ) → n < most_tasks → drop 1 (replicate (most_tasks - n) no_task) ≡ replicate (most_tasks - (n + 1)) no_task
one_less n h =
    let e : most_tasks - n ≡ suc (most_tasks - (n + 1)) = omega arith in
    ap (λ (k : ℕ). drop 1 (replicate k no_task)) e ∙ drop-one (most_tasks - (n + 1)) no_task

module _ (bytes : List ℕ) (first : ℕ) (at : List ℕ) where
  -- the tasks of the lines from a place on, after those that stand
  abbrev gathered_from : List Task → ℕ → List Task
  gathered_from ts from = gathered ts (map (task_line at) (lines (drop from bytes)))

  abbrev whole : List Task
  whole = gathered_from [] first

  -- the first n places hold the tasks so far, the others none; the lines from here on decide
  pub record Reads (tasks : List Task) (n from : ℕ) : Type 0 where
    pub few : n ≤ most_tasks
    pub size : length tasks ≡ most_tasks
    pub blank : drop n tasks ≡ replicate (most_tasks - n) no_task
    pub decide : gathered_from (take n tasks) from ≡ whole

  module _ {tasks : List Task} {n from : ℕ} (st : Reads tasks n from) where
    long : length (take n tasks) ≡ n
    long = length-take-le n tasks (omega (arith, st.few, st.size))

    -- the last line was read
    pub reads_all : length bytes ≤ from → record { tasks = tasks; count = n } ≡ packed whole
    unfolding packed gathered
    reads_all h =
        let ts = take n tasks in
        let end : whole ≡ ts = sym st.decide ∙ ap (λ (ls : List (List ℕ)). gathered ts (map (task_line at) ls)) (lines_none bytes from h) in
        let apart : tasks ≡ ts ++ replicate (most_tasks - n) no_task = sym (take-append-drop n tasks) ∙ ap (λ (r : List Task). ts ++ r) st.blank in
        rw (end, long, sym apart)

    -- one line more
    module _ (to : ℕ) (e : to ≡ piece_end (byte "\n") bytes from) (l : from < length bytes) where
      abbrev here : List ℕ
      here = bytes_between from to bytes

      one_line : gathered (take n tasks) (task_line at here ∷ map (task_line at) (lines (drop (to + 1) bytes))) ≡ whole
      one_line = ap (λ (ls : List (List ℕ)). gathered (take n tasks) (map (task_line at) ls)) (sym (lines_next bytes from to e l)) ∙ st.decide

      pub no-task : task_line at here ≡ None → whole ≡ []
      unfolding gathered
      no-task m = sym one_line ∙ rw m

      module _ (t : Task) (s : task_line at here ≡ Some t) where
        pub one-too-many : most_tasks ≤ n → whole ≡ []
        unfolding gathered
        one-too-many h = sym one_line ∙ rw (s, long, le-ltb n most_tasks h)

        pub twice : n < most_tasks → occurs t.number (numbers_of (take n tasks)) ≡ true → whole ≡ []
        unfolding gathered
        twice h o = sym one_line ∙ rw (s, long, lt-ltb n most_tasks h, o)

        pub reads-next : n < most_tasks → occurs t.number (numbers_of (take n tasks)) ≡ false → Reads (set tasks n t) (n + 1) (to + 1)
        unfolding gathered
        reads-next h o =
            let more : take (n + 1) (set tasks n t) ≡ take n tasks ++ (t ∷ []) =
            ap (λ (k : ℕ). take k (set tasks n t)) (add-one n) ∙ take-suc-set tasks n t (omega (arith, st.size)) in
            record {
              few = omega arith;
              size = length-set tasks n t ∙ st.size;
              blank = drop-set-lt (n + 1) tasks n t (omega arith) ∙ sym (drop-drop 1 n tasks) ∙ ap (λ (r : List Task). drop 1 r) st.blank ∙ one_less n h;
              decide =
                  ap (λ (ts : List Task). gathered_from ts (to + 1)) more
                  ∙ rw (s, long, lt-ltb n most_tasks h, o) at one_line;
            }
