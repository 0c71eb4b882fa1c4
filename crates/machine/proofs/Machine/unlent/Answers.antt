-- `machine::Machine::unlent` meets its contract.
use Rattle.std.proofs.Common.{sym, ap}
use Rattle.machine.specs.OneCore.{zeroed, handed}
use Rattle.machine.proofs.DoorLaws.{unsound-refused}
use Rattle.machine.proofs.Machine.unlent.Goals as goal

pub returns-then-not-is_sound : goal.returns-then-not-is_sound
returns-then-not-is_sound c = ap handed (unsound-refused (zeroed c.args.self.now) _ (sym c.if-not-is_sound.ensures))
