-- What a sound record tells the inside functions: which indices are in range and which sums fit.
use Rattle.std.proofs.Common.{◌≡◌, ℕ, ◌+◌, ◌<◌, ◌≤◌, true, arith}
use Rattle.machine.specs.declared.Machine.{Machine}
use Rattle.machine.specs.Record.{core_at}
use Rattle.machine.specs.Sound.{sound}
use Rattle.machine.proofs.Tally.{tally-some}
use Rattle.machine.proofs.Sound.Standing.{Standing, standing}

module _ (m : Machine) (s : sound m ≡ true) where
  pub stands : Standing m
  stands = standing s

  -- a core of the machine's has a place
  pub core-place : (c : ℕ) → c < m.cores → c < 16
  core-place c h = omega (arith, stands.few-cores)

  -- a card of the machine's has a place
  pub object-place : (d : ℕ) → d < m.objects → d < 64
  object-place d h = omega (arith, stands.few-objects)

  pub few_jobs : (c : ℕ) → c < m.cores → (core_at m c).count ≤ 8
  few_jobs c h = (stands.tidy c (core-place c h)).few-listed

  -- while a transaction is in progress, fewer have ended than tickets were given
  pub one-open : (c : ℕ) → c < m.cores → (core_at m c).active ≡ true → m.commits + m.give_ups < m.tickets
  one-open c h on =
      omega (arith, stands.turns.counted, tally-some 16 (λ e. (core_at m e).active) c (core-place c h) on)
