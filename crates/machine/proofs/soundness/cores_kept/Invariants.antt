-- `machine::soundness::cores_kept` meets its contract: each core passed keeps the rules, and each transaction is counted.
use Rattle.std.proofs.Common.{◌≡◌, ◌≤◌, true}
use Rattle.objset.specs.Objset.{each}
use Rattle.machine.specs.Record.{active_at, tally}
use Rattle.machine.proofs.SoundLaws.{kept_at}
use Rattle.machine.proofs.soundness.cores_kept.Given as goal

abbrev pub invariant-loop-c : goal.invariant-loop-c
invariant-loop-c l = (l.open ≤ l.c) × (l.open ≡ tally l.c (active_at l.m)) × (each l.c (kept_at l.m) ≡ true)
