-- Chains of tasks: there and back, one after another, beside one task more; and from a task without cards there is none.
use mathlib.Core.Path.{◌≡◌, refl, sym, ◌∙◌}
use mathlib.Core.Bool.{true≢false}
use mathlib.Core.List.{List, [], ◌∷◌}
use Prim.Native.Nat.{ℕ, zero, suc, ◌<◌}
use native.Mathlib.Omega.{arith}
use lib.ListN.{length}
use Rattle.objset.proofs.Laws.{has-none}
use Rattle.taskset.specs.Chains.{Uses, UsesNone, Chain, alone, onward}

module _ {cs : List ℕ} where
  pub and_then : {i j k : ℕ} → Chain cs i j → Chain cs j k → Chain cs i k
  and_then alone w = w
  and_then (onward s v) w = onward s (and_then v w)

  pub back : {i j : ℕ} → Chain cs i j → Chain cs j i
  back alone = alone
  back (onward s v) = and_then (back v) (onward (s.0, s.2, s.1) alone)

  pub from-none : {i j : ℕ} → UsesNone cs i → Chain cs i j → i ≡ j
  from-none e alone = refl
  from-none e (onward s v) = absurd (true≢false (sym s.1 ∙ e s.0))

  -- a chain from a task with a card ends at one with a card
  pub end-uses : {i j : ℕ} (d : ℕ) → Uses cs i d → Chain cs i j → (e : ℕ) × Uses cs j e
  end-uses d p alone = (d, p)
  end-uses d p (onward s v) = end-uses s.0 s.2 v

-- a card is used by one of the tasks
pub used-within : (cs : List ℕ) (i d : ℕ) → Uses cs i d → i < length cs
used-within [] i d p = absurd (true≢false (sym p ∙ has-none d))
used-within (c ∷ cs) zero d p = omega arith
used-within (c ∷ cs) (suc i) d p = omega (arith, used-within cs i d p)

-- so a chain from a task with a card ends at one of them
pub end-within : {cs : List ℕ} {i j : ℕ} (d : ℕ) → Uses cs i d → Chain cs i j → j < length cs
end-within {cs} d p (alone {i}) = used-within cs i d p
end-within d p (onward s v) = end-within s.0 s.2 v

-- beside one task more in front
pub one_on : {cs : List ℕ} {i j : ℕ} (c : ℕ) → Chain cs i j → Chain (c ∷ cs) (suc i) (suc j)
one_on c alone = alone
one_on c (onward s v) = onward s (one_on c v)
