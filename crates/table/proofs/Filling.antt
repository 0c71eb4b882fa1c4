-- A list of numbers and what fills the places past it, number by number.
use mathlib.Core.Path.{◌≡◌, sym, ◌∙◌}
use mathlib.Core.List.{List, [], ◌∷◌, ◌++◌, append_assoc}
use Prim.Native.Nat.{ℕ, suc, ◌-◌, ◌<◌}
use native.Mathlib.Omega.{arith}
use lib.ListN.{length, get_or, set, replicate, length-append, get_or-append}
use lib.Seq.{set_at}
use Rattle.table.specs.Cut.{filled}

module _ (places v : ℕ) where
  -- the next number stands where the filling began
  pub fill-next : (ns : List ℕ) (n x : ℕ) → length ns ≡ n → n < places → set (filled places v ns) n x ≡ filled places v (ns ++ (x ∷ []))
  unfolding filled
  fill-next ns n x e h =
      let left : places - length ns ≡ suc (places - length (ns ++ (x ∷ []))) = omega (arith, length-append ns (x ∷ [])) in
      rw left (set_at ns v (replicate (places - length (ns ++ (x ∷ []))) v) x n e ∙ sym (append_assoc ns (x ∷ []) (replicate (places - length (ns ++ (x ∷ []))) v)))

  pub filled_in : (ns : List ℕ) (i : ℕ) → i < length ns → get_or (filled places v ns) i 0 ≡ get_or ns i 0
  unfolding filled
  filled_in ns i h = get_or-append ns (replicate (places - length ns) v) 0 i h
