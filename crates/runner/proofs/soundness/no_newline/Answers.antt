-- `runner::soundness::no_newline` meets its contract.
use Rattle.std.proofs.Common.{not, ap, ◌∙◌}
use Rattle.runner.proofs.Doors.{no_newline}
use Rattle.runner.proofs.soundness.no_newline.Goals as goal

pub returns : goal.returns
returns c = ap not c.contains.ensures.value ∙ no_newline c.args.bytes.now
