-- `tasklist::fill` meets its contract.
use Rattle.std.proofs.Common.{◌≡◌, ℕ, sym, ap, ◌∙◌, ◌++◌, true, false, Ok, List, length, drop, arith}
use Rattle.taskset.specs.declared.Task.{Task}
use Rattle.taskset.specs.Tasks.{standing}
use Rattle.tasklist.specs.Lists.{have_room}
use Rattle.tasklist.proofs.ListLaws.{room, none-refused, short-refused, fills, fills-list, refuses, keeps-list}
use Rattle.tasklist.proofs.fill.Goals as goal
use Rattle.tasklist.proofs.fill.Goals.{then-n-eq0-via-then-n-eq0, then-n-eq0-via-else-n-eq0+then-list-n}

pub returns-then-n-eq0 : goal.returns-then-n-eq0
returns-then-n-eq0 c =
    let ts = standing c.args.set in
    let ys = c.args.list.now in
    let size : length c.standing-tasks.result.now ≡ length ts = ap (λ (us : List Task). length us) c.standing-tasks.ensures in
    let none : have_room ts ys ≡ false = elim c.then-n-eq0.branch [
      | then-n-eq0-via-then-n-eq0 w ↦ none-refused ts ys (omega (arith, size))
      | then-n-eq0-via-else-n-eq0+then-list-n w ↦ short-refused ts ys (omega (arith, size))
    ] in
    record { answer = sym (refuses ts ys none); list = sym (keeps-list ts ys none) }

pub returns : goal.returns
returns c =
    let ts = standing c.args.set in
    let ys = c.args.list.now in
    let same : c.standing-tasks.result.now ≡ ts = c.standing-tasks.ensures in
    let size : length c.standing-tasks.result.now ≡ length ts = ap (λ (us : List Task). length us) same in
    let has_room : have_room ts ys ≡ true = room ts ys (omega (arith, size)) (omega (arith, size)) in
    record {
      answer = ap Ok size ∙ sym (fills ts ys has_room);
      list = ap (λ (us : List Task). us ++ drop (length c.standing-tasks.result.now) ys) (c.copy_from_slice.ensures.after ∙ same) ∙ ap (λ (n : ℕ). ts ++ drop n ys) size ∙ sym (fills-list ts ys has_room);
    }
