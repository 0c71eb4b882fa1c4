-- Two transactions in progress were begun one after the other: their numbers differ.
use Rattle.std.proofs.Common.{◌≡◌, ℕ, true, false, eqb, List, [], ◌∷◌, sym, ◌∙◌, true≢false, arith}
use borrow.Author.Tests.{eqb-false}
use Rattle.machine.specs.Words.{Deed, begins, in_progress, born}
use Rattle.machine.proofs.Run.Births.{begun-is, Going, begun, kept, going, born-begun, born-kept, born-below}

same-core : {b c : ℕ} → begins b ≡ begins c → b ≡ c
same-core p = cc

pub born-apart : (h : List Deed) (b c : ℕ) → in_progress h b ≡ true → in_progress h c ≡ true → eqb b c ≡ false → born h b ≡ born h c → ⊥
unfolding in_progress
born-apart [] b c p q r e = absurd (true≢false (sym p))
born-apart (x ∷ h) b c p q r e = go (going x h b p) (going x h c q) (λ p q. born-apart h b c p q r)
  where
    go : Going x h b → Going x h c → (in_progress h b ≡ true → in_progress h c ≡ true → born h b ≡ born h c → ⊥) → ⊥
    go (begun p) (begun q) rest = eqb-false b c r (same-core (sym (begun-is x b p) ∙ begun-is x c q))
    go (begun p) (kept q f g) rest = omega (arith, born-begun x h b p, born-kept x h c q, born-below h c g)
    go (kept p f g) (begun q) rest = omega (arith, born-kept x h b p, born-begun x h c q, born-below h b g)
    go (kept p f g) (kept q i j) rest = rest g j (sym (born-kept x h b p) ∙ e ∙ born-kept x h c q)
