-- What the inside functions that are lent the tables ask, and what every call keeps.
use Rattle.std.specs.Prelude.{◌≡◌, ℕ, ◌*◌, ◌<◌, ◌≤◌, true, length}
use Rattle.machine.specs.declared.Machine.{Machine}
use Rattle.machine.specs.Record.{core_at}
use Rattle.one_core.specs.Formed.{Formed-core}
use Rattle.machine.specs.Sound.{sound}
use Rattle.machine.specs.Rule.{World}
use Rattle.one_core.specs.Parts.{most_cores}
use Rattle.objset.specs.Objset.{most_objects}

-- the record is sound and both tables have their length
pub record SoundWorld (w : World) : Type 0 where
  pub is_sound : sound w.machine ≡ true
  pub committed_long : length w.committed ≡ w.machine.objects
  pub pending_long : length w.pending ≡ w.machine.cores * w.machine.objects

-- what the types of the code say of a record: the lengths of the lists, and that numbers fit their words
pub record Formed (m : Machine) : Type 0 where
  pub core_long : length m.core ≡ most_cores
  pub versions_long : length m.versions ≡ most_objects
  pub tickets_fit : m.tickets ≤ 4294967295
  pub formed_core : (c : ℕ) → c < most_cores → Formed-core (core_at m c)

-- what every call keeps: a sound world whose record is as the types have it
pub record WellFormedWorld (w : World) : Type 0 where
  pub world_sound : SoundWorld w
  pub formed : Formed w.machine
