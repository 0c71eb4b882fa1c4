-- What the promise of a call after setup says of it.
use Rattle.std.specs.Prelude.{◌≡◌}
use Rattle.one_core.specs.declared.Answer.{Answer}
use Rattle.machine.specs.Rule.{World, rule, Call}

-- the answer and the next world are the rule's
pub record Follows (w : World) (call : Call) (a : Answer) (w' : World) : Type 0 where
  pub answer_is : a ≡ (rule w call).answer
  pub world_is : w' ≡ (rule w call).world
