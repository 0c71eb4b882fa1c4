-- `sheet::reading::read_tasks` meets its contract.
use Rattle.std.proofs.Common.{rules, tests, sym, ◌∙◌, ◌≤◌, length, take, arith}
use lib.Dec.{eqb}
use Rattle.std.proofs.lemmas.Iterator.{YieldsList-from_slice}
use Rattle.std.proofs.lemmas.Iterator.Search.{any_from_yields_List}
use Rattle.decimal.specs.Bytes.{byte}
use Rattle.table.proofs.PieceEnds.{not-before, inside}
use Rattle.taskset.specs.declared.Task.{Task}
use Rattle.taskset.proofs.Numbers.{occurs-column}
use Rattle.sheet.proofs.ReadLaws.{given-none, reads_all, no-task, one-too-many, twice, reads-next}
use Rattle.sheet.proofs.reading.read_tasks.Goals as goal
use Rattle.sheet.proofs.reading.read_tasks.Goals.{After-piece_end-to, then-n-ge-TASKS-via-then-n-ge-TASKS, then-n-ge-TASKS-via-else-n-ge-TASKS+then-any}

within : (c : After-piece_end-to) → (c.loop-from.from ≤ c.piece_end-to.result) × (c.piece_end-to.result ≤ length c.args.bytes.now)
within c =
    let from = c.loop-from.from in (
      not-before (byte "\n") c.args.bytes.now from c.piece_end-to.result c.piece_end-to.ensures,
      inside (byte "\n") c.args.bytes.now from c.piece_end-to.result c.piece_end-to.ensures (omega arith),
    )

pub slice_bounds-task_line-count : goal.slice_bounds-task_line-count
slice_bounds-task_line-count c = (within (goal.at.slice_bounds-task_line-count c).After-piece_end-to).0

pub slice_bounds-task_line-start : goal.slice_bounds-task_line-start
slice_bounds-task_line-start c = (within (goal.at.slice_bounds-task_line-start c).After-piece_end-to).0

pub slice_bounds-task_line-end : goal.slice_bounds-task_line-end
slice_bounds-task_line-end c = (within (goal.at.slice_bounds-task_line-end c).After-piece_end-to).1

pub returns-in_err-task : goal.returns-in_err-task
returns-in_err-task c =
    given-none _ _ c.from_residual.ensures
    (no-task _ _ _ c.loop-from.invariant c.piece_end-to.result c.piece_end-to.ensures c.loop-from-test.true (sym c.task_line.ensures ∙ c.in_err-task.was))

pub returns-then-n-ge-TASKS : goal.returns-then-n-ge-TASKS
returns-then-n-ge-TASKS c =
    let at = c.loop-from in
    let task = c.in_ok-task.task in
    let line = sym c.task_line.ensures ∙ c.in_ok-task.was in
    elim c.then-n-ge-TASKS.branch [
      | then-n-ge-TASKS-via-then-n-ge-TASKS w ↦
          one-too-many _ _ _ at.invariant c.piece_end-to.result c.piece_end-to.ensures c.loop-from-test.true task line w.if-n-ge-TASKS.true
      | then-n-ge-TASKS-via-else-n-ge-TASKS+then-any w ↦
          let again = any_from_yields_List (λ (t : Task). eqb task.number t.number) _ _ _ w.any.ensures.ran (YieldsList-from_slice (take at.n at.tasks) w.iter.ensures.rest) (λ x b q k. search (rules, tests)) ∙ occurs-column (λ (t : Task). t.number) task.number (take at.n at.tasks) in
          twice _ _ _ at.invariant c.piece_end-to.result c.piece_end-to.ensures c.loop-from-test.true task line (omega arith) (sym again ∙ w.if-any.true)
    ]

pub overflow_add-from : goal.overflow_add-from
overflow_add-from c = record { fits = omega (arith, within (goal.at.overflow_add-from c).After-piece_end-to) }

pub loop-from-smaller : goal.loop-from-smaller
loop-from-smaller c = omega (arith, within (goal.at.loop-from-smaller c).After-piece_end-to)

pub loop-from-preserved : goal.loop-from-preserved
loop-from-preserved c =
    let at = c.loop-from in
    let task = c.in_ok-task.task in
    let again = any_from_yields_List (λ (t : Task). eqb task.number t.number) _ _ _ c.any.ensures.ran (YieldsList-from_slice (take at.n at.tasks) c.iter.ensures.rest) (λ x b q k. search (rules, tests)) ∙ occurs-column (λ (t : Task). t.number) task.number (take at.n at.tasks) in
    reads-next _ _ _ at.invariant c.piece_end-to.result c.piece_end-to.ensures c.loop-from-test.true task
    (sym c.task_line.ensures ∙ c.in_ok-task.was) (omega arith) (sym again ∙ c.if-any.false)

pub returns : goal.returns
returns c = reads_all _ _ _ c.loop-from.invariant (omega arith)
