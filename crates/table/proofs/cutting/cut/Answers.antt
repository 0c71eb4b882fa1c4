-- `table::cutting::cut` meets its contract. The loop's invariant: i fields' beginnings stand in their places. After it the last field begins within the line and ends with it, or the line has more or fewer.
use mathlib.Core.Path.{◌≡◌, refl, sym, ap, ◌∙◌}
use mathlib.Core.List.{List}
use Prim.Native.Nat.{ℕ, ◌-◌, ◌≤◌}
use native.Mathlib.Numerals.{add-one}
use native.Mathlib.Omega.{arith}
use lib.ListN.{length, get_or}
use borrow.Author.Tests.{ltb-false}
use Rattle.table.specs.Cut.{most_fields, filled, beginnings, marked}
use Rattle.table.proofs.Begins.{begin}
use Rattle.table.proofs.Cuts.{no_fields, none-asked, cut-over, cut-nothing}
use Rattle.table.proofs.Finding.{last-begin, one-added, next-added, fewer, over, exact}
use Rattle.table.proofs.cutting.cut.Goals as goal
use Rattle.table.proofs.cutting.cut.Goals.{After-loop-i, At-loop-i}
use Rattle.table.proofs.cutting.cut.Goals.{then-longest-line-via-then-longest-line, then-longest-line-via-else-longest-line+then-count-eq0, then-longest-line-via-else-longest-line+else-count-eq0+then-count-gt-MOST_FIELDS}
use Rattle.table.proofs.cutting.cut.Goals.{then-line-last-via-then-line-last, then-line-last-via-else-line-last+then-end_from-line}

pub returns-then-longest-line : goal.returns-then-longest-line
returns-then-longest-line c =
    let line = c.args.line.now in
    let longest = c.args.longest in
    let count = c.args.count in
    sym
    (elim c.then-longest-line.branch [
      | then-longest-line-via-then-longest-line w ↦ cut-nothing longest count c.args.line (no_fields longest count line w.if-longest-line.true)
      | then-longest-line-via-else-longest-line+then-count-eq0 w ↦ cut-nothing longest count c.args.line (none-asked longest count line w.if-count-eq0.true)
      | then-longest-line-via-else-longest-line+else-count-eq0+then-count-gt-MOST_FIELDS w ↦ cut-over longest count c.args.line w.if-count-gt-MOST_FIELDS.true
    ])

pub loop-i-init : goal.loop-i-init
unfolding beginnings filled
loop-i-init c = refl

-- where the loop runs, the count is one that a line may have
few : (c : At-loop-i) → c.args.count ≤ most_fields
few c = omega (arith, ltb-false)

pub loop-i-preserved : goal.loop-i-preserved
loop-i-preserved c =
    next-added c.args.line.now c.loop-i.begins c.loop-i.i (omega arith)
    (omega (arith, few (goal.at.loop-i-preserved c).At-loop-i)) c.loop-i.invariant c.next_from.result c.next_from.ensures

-- after the loop all the fields that were asked for have a beginning
abbrev L : After-loop-i → List ℕ
L c = c.args.line.now

abbrev N : After-loop-i → ℕ
N c = c.args.count

all-begun : (c : After-loop-i) → c.loop-i.begins ≡ filled 6 0 (beginnings (N c) (L c) 0)
all-begun c =
    let all : c.loop-i.i ≡ N c = omega arith in
    c.loop-i.invariant ∙ ap (λ (n : ℕ). filled 6 0 (beginnings n (L c) 0)) all

last : (c : After-loop-i) → get_or c.loop-i.begins (N c - 1) 0 ≡ begin (L c) 0 (N c - 1)
last c = last-begin (L c) c.loop-i.begins (N c) (omega arith) (few (goal.at.After-loop-i c).At-loop-i) (all-begun c)

pub returns-then-line-last : goal.returns-then-line-last
returns-then-line-last c =
    let at = (goal.at.returns-then-line-last c).After-loop-i in
    let short : length (L at) ≤ c.args.longest = omega arith in
    sym
    (elim c.then-line-last.branch [
      | then-line-last-via-then-line-last w ↦ fewer c.args.longest (N at) c.args.line short (omega arith) _ (last at) w.if-line-last.true
      | then-line-last-via-else-line-last+then-end_from-line w ↦ over c.args.longest (N at) c.args.line short (omega arith) _ (last at) w.if-line-last.false (omega (arith, w.if-end_from-line.true, w.end_from.ensures))
    ])

pub returns : goal.returns
unfolding marked
returns c =
    let short : length (L (goal.at.returns c).After-loop-i) ≤ c.args.longest = omega arith in
    let all = exact c.args.longest (N (goal.at.returns c).After-loop-i) c.args.line short (omega arith) _ (last (goal.at.returns c).After-loop-i) c.if-line-last.false
    (omega (arith, ltb-false, c.end_from.ensures)) (few (goal.at.returns c).At-loop-i) in
    let places = one-added (L (goal.at.returns c).After-loop-i) c.loop-i.begins (N (goal.at.returns c).After-loop-i) (omega arith) (few (goal.at.returns c).At-loop-i) (all-begun (goal.at.returns c).After-loop-i) _ all.1 in
    rw (all.0, places, add-one)
