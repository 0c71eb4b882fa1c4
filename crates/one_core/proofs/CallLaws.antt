-- What a call on one core gives is refused where a condition holds and accepted where none does; and the same by the numbers of refusals.
use Rattle.std.specs.Prelude.{◌≡◌, ℕ, Bool, true, false, cond, List, [], ◌∷◌, Result, Ok, Err}
use mathlib.Core.Path.{refl, ap, ◌∙◌}
use Rattle.one_core.specs.declared.refusal.Refusal.{Refusal}
use Rattle.one_core.specs.Refusal.{number}
use Rattle.one_core.specs.Calls.{first, unless_on}

-- ---- the first condition that holds, by its number

pub skips : (b : Bool) (n : ℕ) (xs : List (Bool × ℕ)) {r : ℕ} → b ≡ false → first xs ≡ r → first ((b, n) ∷ xs) ≡ r
unfolding first
skips b n xs p q = ap (λ (x : Bool). cond x n (first xs)) p ∙ q

pub hits : (b : Bool) (n : ℕ) (xs : List (Bool × ℕ)) → b ≡ true → first ((b, n) ∷ xs) ≡ n
unfolding first
hits b n xs p = ap (λ (x : Bool). cond x n (first xs)) p

pub none-holds : ◌≡◌ {A = ℕ} (first []) 0
unfolding first
none-holds = refl

-- the conditions of refusals by their numbers
abbrev pub numbered : List (Bool × Refusal) → List (Bool × ℕ)
numbered [] = []
numbered (x ∷ xs) = (x.0, number x.1) ∷ numbered xs

-- what f makes of what is accepted or refused, g makes of the number that `first` gives, if they agree on each
pub by-number : {A B : Type 0} (f : Result A Refusal → B) (g : ℕ → B) (accepted : A) → f (Ok accepted) ≡ g 0
    → ((r : Refusal) → f (Err r) ≡ g (number r)) → (xs : List (Bool × Refusal)) → f (unless_on xs accepted) ≡ g (first (numbered xs))
unfolding first unless_on
by-number f g accepted p q [] = p
by-number {A} {B} f g accepted p q (x ∷ xs) = go x.0 (by-number f g accepted p q xs)
  where
    go : (b : Bool) → f (unless_on xs accepted) ≡ g (first (numbered xs))
        → f (cond b (Err x.1) (unless_on xs accepted)) ≡ g (cond b (number x.1) (first (numbered xs)))
    go true e = q x.1
    go false e = e
