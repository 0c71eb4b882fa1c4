-- `script::heading::order` meets its contract: the four names all stand, or one is missing.
use mathlib.Core.Path.{sym, ◌∙◌}
use Rattle.table.specs.Pieces.{onto, pieces}
use Rattle.script.proofs.Orders.{all-stand, one-missing}
use Rattle.script.proofs.heading.order.Goals as goal

pub returns-in_err-call : goal.returns-in_err-call
unfolding pieces onto
returns-in_err-call c =
    let none = c.in_err-call.ensures in
    c.from_residual.ensures ∙ sym (one-missing c.args.line.now none)

pub returns : goal.returns
unfolding pieces onto
returns c =
    let some = c.in_ok-call.ensures in
    sym (all-stand c.args.line.now _ some)
