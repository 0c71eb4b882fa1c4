-- A row filled entry by entry: the first i entries are those of the list that it is to hold.
use mathlib.Core.Path.{◌≡◌, refl, sym, ap, ◌∙◌}
use mathlib.Core.List.{List, [], ◌∷◌, ◌++◌, map}
use Prim.Native.Nat.{ℕ, zero, suc, ◌+◌, ◌-◌, ◌<◌}
use native.Mathlib.Numerals.{add-one}
use native.Mathlib.Nat.{zero-add}
use native.Mathlib.Omega.{arith}
use lib.ListN.{length, get_or, set, take, drop, replicate}
use lib.Seq.{take_all, paste-suc, drop-cons, get_or_at, length-take-le}
use Rattle.taskset.specs.Tasks.{most_tasks}

-- ---- a row filled over what it held

module _ {A : Type 0} (blank : List A) where
  -- the first i entries of a list, and past them what the row held
  abbrev pub listed : ℕ → List A → List A
  listed i whole = take i whole ++ drop i blank

  -- a turn of the loop
  pub listed_next : (whole row : List A) (i : ℕ) (v d : A) → i < length whole → i < length blank → v ≡ get_or whole i d → row ≡ listed i whole
      → set row i v ≡ listed (i + 1) whole
  listed_next whole row i v d h k e so_far =
      ap (λ (r : List A). set r i v) so_far
      ∙ ap (λ (y : A). set (listed i whole) i y) e
      ∙ ap (λ (j : ℕ). set (take i whole ++ drop j blank) j (get_or whole i d)) (sym (zero-add i))
      ∙ paste-suc blank 0 whole i d (omega arith) h
      ∙ ap (λ (j : ℕ). take (suc i) whole ++ drop j blank) (zero-add (suc i))
      ∙ ap (λ (j : ℕ). listed j whole) (sym (add-one i))

  -- the entry whose turn it is, is as it was
  pub listed-at : (whole row : List A) (i : ℕ) (d : A) → i < length whole → i < length blank → row ≡ listed i whole → get_or row i d ≡ get_or blank i d
  listed-at whole row i d h k so_far =
      ap (λ (r : List A). get_or r i d) (so_far ∙ ap (λ (r : List A). take i whole ++ r) (drop-cons blank i d k))
      ∙ get_or_at (take i whole) (get_or blank i d) (drop (suc i) blank) d i (length-take-le i whole (omega arith))

-- ---- a row of 32 entries that were all alike

drop-same : {A : Type 0} (n m : ℕ) (x : A) → drop n (replicate m x) ≡ replicate (m - n) x
drop-same zero m x = let e : m ≡ m - 0 = omega arith in ap (λ (k : ℕ). replicate k x) e
drop-same (suc n) zero x = let e : 0 ≡ 0 - suc n = omega arith in ap (λ (k : ℕ). replicate k x) e
drop-same (suc n) (suc m) x = let e : m - n ≡ suc m - suc n = omega arith in drop-same n m x ∙ ap (λ (k : ℕ). replicate k x) e

module _ {A : Type 0} (x : A) where
  -- after the last turn
  pub listed-whole : (whole : List A) (n : ℕ) → length whole ≡ n → listed (replicate most_tasks x) n whole ≡ whole ++ replicate (most_tasks - n) x
  listed-whole whole n e =
      ap (λ (r : List A). r ++ drop n (replicate most_tasks x)) (take_all n whole (omega arith))
      ∙ ap (λ (r : List A). whole ++ r) (drop-same n most_tasks x)

-- an entry of a list worked out entry by entry; what is read past its end does not matter
pub map_at : {A B : Type 0} (f : A → B) (xs : List A) (i : ℕ) (d : A) (e : B) → i < length xs → get_or (map f xs) i e ≡ f (get_or xs i d)
map_at f [] i d e l = absurd (omega arith)
map_at f (x ∷ xs) zero d e l = refl
map_at f (x ∷ xs) (suc i) d e l = map_at f xs i d e (omega arith)
