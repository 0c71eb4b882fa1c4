-- `levels::put_level` meets its contract: number, space, task level, space, transaction level and newline stand one after another.
use mathlib.Core.List.{List, ◌++◌}
use Prim.Native.Nat.{ℕ, ◌+◌, ◌≤◌, ◌<◌, ◌^◌}
use native.Mathlib.Omega.{arith}
use lib.ListN.{length, length-append}
use Rattle.decimal.specs.Bytes.{ascii}
use Rattle.decimal.specs.Spelling.{spelling}
use Rattle.decimal.proofs.Laws.{spelling-length}
use Rattle.taskset.specs.declared.Level.{Level}
use Rattle.levels.specs.Printed.{level_line}
use Rattle.levels.proofs.Laws.{Written, nothing_written, next-written, written-placed, line-short}
use Rattle.levels.proofs.text.put_level.Goals as goal
use Rattle.levels.proofs.text.put_level.Goals.{After-put_bytes, After-put_bytes-k, After-put_bytes-k-2, After-put_number-k, After-put_number-k-2, After-put_number-k-3, Start}

-- the line as far as each call puts it
abbrev to_number : Level → List ℕ
to_number l = spelling l.number

abbrev to_space : Level → List ℕ
to_space l = to_number l ++ ascii " "

abbrev to-task : Level → List ℕ
to-task l = to_space l ++ spelling l.task

abbrev to-space2 : Level → List ℕ
to-space2 l = to-task l ++ ascii " "

abbrev to-transaction : Level → List ℕ
to-transaction l = to-space2 l ++ spelling l.transaction

-- the whole line is longer than each of them
short : (l : Level) → (length (to_number l) + 23 ≤ 33) × (length (to_space l) + 22 ≤ 33) × (length (to-task l) + 12 ≤ 33) × (length (to-space2 l) + 11 ≤ 33)
    × (length (to-transaction l) + 1 ≤ 33)
short l =
    let n = spelling-length l.number in
    let k = spelling-length l.task in
    let t = spelling-length l.transaction in (
      omega (arith, n),
      simp length-append (omega (arith, n)),
      simp length-append (omega (arith, n, k)),
      simp length-append (omega (arith, n, k)),
      simp length-append (omega (arith, n, k, t)),
    )

-- ---- after each of the six calls: the call before it, and where the function began

abbrev of_number : After-put_number-k → Start
of_number c = (goal.at.After-put_number-k c).Start

abbrev before-space : After-put_bytes-k → After-put_number-k
before-space c = (goal.at.After-put_bytes-k c).After-put_number-k

abbrev before-task : After-put_number-k-2 → After-put_bytes-k
before-task c = (goal.at.After-put_number-k-2 c).After-put_bytes-k

abbrev before-space2 : After-put_bytes-k-2 → After-put_number-k-2
before-space2 c = (goal.at.After-put_bytes-k-2 c).After-put_number-k-2

abbrev before-transaction : After-put_number-k-3 → After-put_bytes-k-2
before-transaction c = (goal.at.After-put_number-k-3 c).After-put_bytes-k-2

abbrev before-newline : After-put_bytes → After-put_number-k-3
before-newline c = (goal.at.After-put_bytes c).After-put_number-k-3

abbrev of_space : After-put_bytes-k → Start
of_space c = of_number (before-space c)

abbrev of-task : After-put_number-k-2 → Start
of-task c = of_space (before-task c)

abbrev of-space2 : After-put_bytes-k-2 → Start
of-space2 c = of-task (before-space2 c)

abbrev of-transaction : After-put_number-k-3 → Start
of-transaction c = of-space2 (before-transaction c)

abbrev of-newline : After-put_bytes → Start
of-newline c = of-transaction (before-newline c)

-- where the next byte goes
abbrev past-number : After-put_number-k → ℕ
past-number c = (of_number c).args.at + c.put_number-k.result

abbrev past-space : After-put_bytes-k → ℕ
past-space c = past-number (before-space c) + c.put_bytes-k.result

abbrev past-task : After-put_number-k-2 → ℕ
past-task c = past-space (before-task c) + c.put_number-k-2.result

abbrev past-space2 : After-put_bytes-k-2 → ℕ
past-space2 c = past-task (before-space2 c) + c.put_bytes-k-2.result

abbrev past-transaction : After-put_number-k-3 → ℕ
past-transaction c = past-space2 (before-transaction c) + c.put_number-k-3.result

abbrev past-newline : After-put_bytes → ℕ
past-newline c = past-transaction (before-newline c) + c.put_bytes.result

-- ---- what is written so far

abbrev So : (Level → List ℕ) → Start → ℕ → List ℕ → Type 0
So text s k after = Written s.args.at (text s.args.level) s.args.output.now k after

number-written : (c : After-put_number-k) → So to_number (of_number c) (past-number c) c.put_number-k.new.output
number-written c =
    let s = (of_number c).args in
    next-written (spelling s.level.number) (nothing_written s.at s.output.now (omega arith)) (omega (arith, short s.level)) c.put_number-k.ensures.count c.put_number-k.ensures.bytes

space-written : (c : After-put_bytes-k) → So to_space (of_space c) (past-space c) c.put_bytes-k.new.output
space-written c =
    let s = (of_space c).args in
    next-written (ascii " ") (number-written (before-space c)) (omega (arith, short s.level)) c.put_bytes-k.ensures.count c.put_bytes-k.ensures.bytes

task-written : (c : After-put_number-k-2) → So to-task (of-task c) (past-task c) c.put_number-k-2.new.output
task-written c =
    let s = (of-task c).args in
    next-written (spelling s.level.task) (space-written (before-task c)) (omega (arith, short s.level, spelling-length s.level.task)) c.put_number-k-2.ensures.count c.put_number-k-2.ensures.bytes

space2-written : (c : After-put_bytes-k-2) → So to-space2 (of-space2 c) (past-space2 c) c.put_bytes-k-2.new.output
space2-written c =
    let s = (of-space2 c).args in
    next-written (ascii " ") (task-written (before-space2 c)) (omega (arith, short s.level)) c.put_bytes-k-2.ensures.count c.put_bytes-k-2.ensures.bytes

transaction-written : (c : After-put_number-k-3) → So to-transaction (of-transaction c) (past-transaction c) c.put_number-k-3.new.output
transaction-written c =
    let s = (of-transaction c).args in
    next-written (spelling s.level.transaction) (space2-written (before-transaction c)) (omega (arith, short s.level, spelling-length s.level.transaction)) c.put_number-k-3.ensures.count c.put_number-k-3.ensures.bytes

line-written : (c : After-put_bytes) → So level_line (of-newline c) (past-newline c) c.put_bytes.new.output
unfolding level_line
line-written c =
    let s = (of-newline c).args in
    next-written (ascii "\n") (transaction-written (before-newline c)) (omega (arith, short s.level)) c.put_bytes.ensures.count c.put_bytes.ensures.bytes

-- ---- the needs

-- a word holds the output's length
fits : (c : After-put_number-k) → length (of_number c).args.output.now < 2 ^ 64
fits c = omega arith

pub overflow_add-k : goal.overflow_add-k
overflow_add-k c = omega (arith, (number-written (goal.at.overflow_add-k c).After-put_number-k).end, short (of_number (goal.at.overflow_add-k c).After-put_number-k).args.level)

pub overflow_add-k-2 : goal.overflow_add-k-2
overflow_add-k-2 c = omega (arith, (space-written (goal.at.overflow_add-k-2 c).After-put_bytes-k).end, short (of_space (goal.at.overflow_add-k-2 c).After-put_bytes-k).args.level)

pub overflow_add-k-3 : goal.overflow_add-k-3
overflow_add-k-3 c = omega (arith, (task-written (goal.at.overflow_add-k-3 c).After-put_number-k-2).end, short (of-task (goal.at.overflow_add-k-3 c).After-put_number-k-2).args.level)

pub overflow_add-k-4 : goal.overflow_add-k-4
overflow_add-k-4 c = omega (arith, (space2-written (goal.at.overflow_add-k-4 c).After-put_bytes-k-2).end, short (of-space2 (goal.at.overflow_add-k-4 c).After-put_bytes-k-2).args.level)

pub overflow_add-k-5 : goal.overflow_add-k-5
overflow_add-k-5 c = omega (arith, (transaction-written (goal.at.overflow_add-k-5 c).After-put_number-k-3).end, short (of-transaction (goal.at.overflow_add-k-5 c).After-put_number-k-3).args.level)

pub overflow_add-result : goal.overflow_add-result
overflow_add-result c =
    let first = before-space (before-task (before-space2 (before-transaction (before-newline (goal.at.overflow_add-result c).After-put_bytes)))) in
    omega (arith, (line-written (goal.at.overflow_add-result c).After-put_bytes).end, line-short (of-newline (goal.at.overflow_add-result c).After-put_bytes).args.level, fits first)

pub returns : goal.returns
returns c =
    let w = line-written (goal.at.returns c).After-put_bytes in
    record { end = w.end; bytes = written-placed w (omega (arith, line-short (of-newline (goal.at.returns c).After-put_bytes).args.level)) }
