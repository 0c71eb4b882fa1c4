-- What the types of the code say of a record, whatever its fields hold: how long the arrays are, and that each number fits its word.
-- `Is` is what a function is told of a parameter that it owns.
use Rattle.std.proofs.Common.{◌≡◌, ℕ, zero, suc, ◌<◌, List, [], ◌∷◌, length, get_or, arith}
use mir.Val.{Val}
use denote.Shadow.{shadow}
use denote.Laws.{Is}
use denote.Array.{each}
use denote.RattleType.{RattleType}
use Rattle.one_core.specs.declared.Core.{Core}
use Rattle.one_core.specs.Parts.{no_core}
use Rattle.one_core.specs.Formed.{Formed-core}
use Rattle.one_core.specs.contracts.Core as CoreType
use Rattle.machine.specs.declared.Machine.{Machine}
use Rattle.machine.specs.Inside.{Formed}
use Rattle.machine.specs.contracts.Machine as MachineType

-- what holds of each element of an array
each_of : (R : RattleType) (P : R.Denot → Type 0) → ((x : R.Denot) (vs : List Val) → shadow (R.own_val x vs) → P x)
    → (xs : List R.Denot) (us : List Val) → shadow (each R.Denot R.own_val xs us)
    → (d : R.Denot) (i : ℕ) → i < length xs → P (get_or xs i d)
each_of R P h [] us s d i l = absurd (omega arith)
each_of R P h (x ∷ xs) [] s d i l = absurd s
each_of R P h (x ∷ xs) (u ∷ us) s d zero l = h x (u ∷ []) s.0
each_of R P h (x ∷ xs) (u ∷ us) s d (suc i) l = each_of R P h xs us s.1 d i (omega arith)

core-formed : (k : Core) (vs : List Val) → Is (CoreType.the_field).row ((CoreType.the_field).into k) vs → Formed-core k
core-formed k vs p =
    let fields = p.1.1 in
    record {
      jobs_long = fields.0.1.0.1;
      reads_fit = fields.1.1.1.1.1.1.0.1;
      writes_fit = fields.1.1.1.1.1.1.1.0.1;
    }

pub machine-formed : (m : Machine) (vs : List Val) → Is (MachineType.the_field).row ((MachineType.the_field).into m) vs → Formed m
machine-formed m vs p =
    let fields = p.1.1 in
    let cores = fields.1.1.1.1.1.0 in
    let long : length m.core ≡ 16 = cores.1.0.1 in
    record {
      core_long = long;
      versions_long = fields.1.1.1.1.1.1.0.1.0.1;
      tickets_fit = omega (arith, fields.1.1.0.1);
      formed_core = λ c l. each_of CoreType.the_row Formed-core core-formed m.core cores.0 cores.1.1 no_core c (omega (arith, long));
    }
