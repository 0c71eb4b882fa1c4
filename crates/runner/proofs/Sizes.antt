-- How many words of the pending table a record has, and when it is sound.
use Rattle.std.proofs.Common.{◌≡◌, ℕ, ◌*◌, ◌≤◌, List, sym, ap, subst, ⊎_elim, arith}
use Rattle.machine.specs.declared.Machine.{Machine}
use Rattle.machine.specs.Inside.{WellFormedWorld}
use Rattle.machine.proofs.Sound.Keeps.{whole}
use Rattle.runner.specs.Listing.{nothing}
use Rattle.runner.specs.Kept.{held, BlankOrSound}
use Rattle.runner.proofs.Setups.{few_words}

module _ (m : Machine) (cs ps : List ℕ) (h : BlankOrSound m cs ps) where
  pub own-words : m.cores * m.objects ≤ 1024
  own-words =
      ⊎_elim (λ b. subst (λ (x : Machine). x.cores * x.objects ≤ 1024) (sym b) (omega arith))
      (λ g. few_words m.cores m.objects (whole g).rules.few-cores (whole g).rules.few-objects) h.blank_or_well_formed

  -- a record with no core is blank, any other is sound
  pub nothing-if-none : m.cores ≡ 0 → held m cs ps ≡ nothing
  nothing-if-none e =
      ap (λ (x : Machine). held x cs ps) (⊎_elim (λ b. b) (λ g. absurd (omega (arith, e, (whole g).rules.some-cores))) h.blank_or_well_formed)

  pub good-if-some : (m.cores ≡ 0 → ⊥) → WellFormedWorld (held m cs ps)
  good-if-some e = ⊎_elim (λ b. absurd (e (ap (λ (x : Machine). x.cores) b))) (λ g. g) h.blank_or_well_formed
