-- `runner::inside::finish` meets its contract: a line is left, which a newline ends, or none.
use Rattle.std.proofs.Common.{ℕ, List, [], ◌++◌, take, sym, ap, ◌∙◌, append-nil}
use Rattle.runner.specs.Kept.{fed}
use Rattle.runner.proofs.Finishing.{over, none_left, newline-none, line-left}
use Rattle.runner.proofs.Stepping.{at-end-over, at-end-none, at-end-line}
use Rattle.runner.proofs.inside.finish.Goals as goal
use Rattle.runner.proofs.inside.finish.Goals.{else-r-via-then-r+else-line_left, else-r-via-else-r}

pub returns-then-line_left-clause-listed : goal.returns-then-line_left-clause-listed
unfolding fed
returns-then-line_left-clause-listed c =
    let did = c.feed.ensures in
    let on = c.if-r.true in
    let none = newline-none _ _ _ c.requires.0.some_line on _ _ _ did.kept in
    let text = take c.feed.result.written c.feed.new.output in
    sym (append-nil text) ∙ ap (λ (x : List ℕ). text ++ x) (sym none) ∙ sym (did.listed [])
    ∙ line-left _ _ _ c.requires.0 on (sym c.line_left.ensures ∙ c.if-line_left.true)

pub returns-then-line_left-clause-kept : goal.returns-then-line_left-clause-kept
unfolding fed
returns-then-line_left-clause-kept c =
    c.feed.ensures.kept ∙ sym (at-end-line _ _ _ c.if-r.true (sym c.line_left.ensures ∙ c.if-line_left.true))

pub returns-else-r-clause-listed : goal.returns-else-r-clause-listed
returns-else-r-clause-listed c =
    elim c.else-r.branch [
      | else-r-via-then-r+else-line_left w ↦ none_left _ _ _ c.requires.0 (sym w.line_left.ensures ∙ w.if-line_left.false)
      | else-r-via-else-r w ↦ over _ _ _ c.requires.0 w.if-r.false
    ]

pub returns-else-r-clause-kept : goal.returns-else-r-clause-kept
returns-else-r-clause-kept c =
    elim c.else-r.branch [
      | else-r-via-then-r+else-line_left w ↦ sym (at-end-none _ _ _ w.if-r.true (sym w.line_left.ensures ∙ w.if-line_left.false))
      | else-r-via-else-r w ↦ sym (at-end-over _ _ _ w.if-r.false)
    ]
