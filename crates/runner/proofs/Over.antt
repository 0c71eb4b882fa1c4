-- Words put over the first words of a table.
use Rattle.std.proofs.Common.{◌≡◌, ℕ, zero, suc, List, [], ◌∷◌, ◌++◌, length, take, drop, sym, refl, ap, ◌∙◌}
use Rattle.runner.specs.Kept.{overlaid}

-- a table's own words change nothing
pub over-own : (n : ℕ) (xs : List ℕ) → overlaid (take n xs) xs ≡ xs
over-own zero xs = refl
over-own (suc n) [] = refl
over-own (suc n) (x ∷ xs) = ap (λ (ys : List ℕ). x ∷ ys) (over-own n xs)

drop_own : (n : ℕ) (xs : List ℕ) → drop (length (take n xs)) xs ≡ drop n xs
drop_own zero xs = refl
drop_own (suc n) [] = refl
drop_own (suc n) (x ∷ xs) = drop_own n xs

-- the first n words were lent, and came back as words
pub over-front : (n : ℕ) (xs xs' words : List ℕ) → length xs' ≡ length (take n xs) → xs' ≡ words → xs' ++ drop n xs ≡ overlaid words xs
over-front n xs xs' words long same =
    sym (ap (λ (ys : List ℕ). xs' ++ ys) (ap (λ (k : ℕ). drop k xs) long ∙ drop_own n xs)) ∙ ap (λ (ys : List ℕ). overlaid ys xs) same
