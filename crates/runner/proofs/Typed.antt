-- What the types of the code say of a reading, whatever its fields hold, as `Typed` of machine does of a record.
use Rattle.std.proofs.Common.{◌≡◌, List, length}
use mir.Val.{Val}
use denote.Laws.{Is}
use denote.Struct.Declared.{row}
use Rattle.machine.specs.Inside.{Formed}
use Rattle.machine.proofs.Typed.{machine-formed}
use Rattle.runner.specs.declared.Reading.{Reading}
use Rattle.runner.specs.contracts.Reading as ReadingType

-- what the types say of a reading
pub reading-formed : (r : Reading) (vs : List Val) → Is (row ReadingType.the_type) r vs → Formed r.machine × (length r.line ≡ 65)
reading-formed r vs p =
    let fields = p.1.1 in
    (machine-formed r.machine _ fields.1.1.1.1.1.0, fields.1.1.1.0.1.0.1)
