-- The record's parts: a core, its sizes, what is blank, and one core put in another's place.
use Rattle.std.specs.Prelude.{ℕ, zero, suc, ◌+◌, Bool, cond, ◌&&◌, replicate, nat_le, nat_lt, slice_index_or, slice_set}
use Rattle.machine.specs.declared.Machine.{Machine}
use Rattle.one_core.specs.declared.Core.{Core}
use Rattle.one_core.specs.Parts.{most_cores, no_core, blank_core}
use Rattle.objset.specs.Objset.{most_objects}

abbrev pub core_at : Machine → ℕ → Core
core_at m c = slice_index_or m.core c no_core

-- core c has a transaction in progress
abbrev pub active_at : Machine → ℕ → Bool
active_at m c = (core_at m c).active

-- the machine has 1 to 16 cores and 1 to 64 cards
abbrev pub sizes_in_range : ℕ → ℕ → Bool
sizes_in_range cores objects = nat_lt 0 cores && nat_le cores most_cores && nat_lt 0 objects && nat_le objects most_objects

-- a machine with no job and no transaction, all versions zero; `machine_of 0 0` is the blank record, all fields 0
abbrev pub machine_of : ℕ → ℕ → Machine
machine_of cores objects =
    record { cores = cores; objects = objects; tickets = 0; commits = 0; give_ups = 0; core = replicate most_cores blank_core; versions = replicate most_objects 0 }

abbrev pub blank : Machine
blank = machine_of 0 0

-- the machine with core c replaced
abbrev pub put_core : Machine → ℕ → Core → Machine
put_core m c k =
    record {
      cores = m.cores;
      objects = m.objects;
      tickets = m.tickets;
      commits = m.commits;
      give_ups = m.give_ups;
      core = slice_set m.core c k;
      versions = m.versions;
    }

-- how many of the numbers below n pass the test f
unfoldable pub tally : ℕ → (ℕ → Bool) → ℕ
tally zero f = 0
tally (suc n) f = cond (f n) 1 0 + tally n f
