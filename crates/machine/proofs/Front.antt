-- Where a loop stands that makes the list `new` of the list `old` by storing one entry after another: the first i entries are
-- those of `new`, the others still those of `old`.
use Rattle.std.proofs.Common.{◌≡◌, ℕ, zero, suc, ◌+◌, ◌<◌, ◌≤◌, List, [], ◌∷◌, ◌++◌, length, get_or, take, drop, set, sym, refl, ap, ◌∙◌, add-one, arith, ext_get_or}
use lib.Seq.{set-get_or}

module _ {A : Type 0} where
  abbrev pub front : ℕ → List A → List A → List A
  front i new old = take i new ++ drop i old

  front_long : (i : ℕ) (new old : List A) → length new ≡ length old → length (front i new old) ≡ length old
  front_long zero new old s = refl
  front_long (suc i) [] [] s = refl
  front_long (suc i) [] (y ∷ ys) s = absurd (omega arith)
  front_long (suc i) (x ∷ xs) [] s = absurd (omega arith)
  front_long (suc i) (x ∷ xs) (y ∷ ys) s = ap suc (front_long i xs ys (omega arith))

  -- the next entry is still that of `old`
  front-next : (i : ℕ) (new old : List A) (d : A) → length new ≡ length old → i < length old → get_or (front i new old) i d ≡ get_or old i d
  front-next zero new old d s l = refl
  front-next (suc i) xs [] d s l = absurd (omega arith)
  front-next (suc i) [] (y ∷ ys) d s l = absurd (omega arith)
  front-next (suc i) (x ∷ xs) (y ∷ ys) d s l = front-next i xs ys d (omega arith) (omega arith)

  -- a turn of the loop
  store : (i : ℕ) (new old : List A) (d : A) → length new ≡ length old → i < length old
      → set (front i new old) i (get_or new i d) ≡ front (suc i) new old
  store i xs [] d s l = absurd (omega arith)
  store i [] (y ∷ ys) d s l = absurd (omega arith)
  store zero (x ∷ xs) (y ∷ ys) d s l = refl
  store (suc i) (x ∷ xs) (y ∷ ys) d s l = ap (λ (r : List A). x ∷ r) (store i xs ys d (omega arith) (omega arith))

  rest : (n : ℕ) (new old : List A) (d : A) → length new ≡ length old
      → ((i : ℕ) → i < length old → n ≤ i → get_or old i d ≡ get_or new i d) → front n new old ≡ new
  rest zero new old d s h = ext_get_or d old new (sym s) (λ i l. h i l (omega arith))
  rest (suc n) [] [] d s h = refl
  rest (suc n) [] (y ∷ ys) d s h = absurd (omega arith)
  rest (suc n) (x ∷ xs) [] d s h = absurd (omega arith)
  rest (suc n) (x ∷ xs) (y ∷ ys) d s h =
      ap (λ (r : List A). x ∷ r) (rest n xs ys d (omega arith) (λ i l p. h (suc i) (omega arith) (omega arith)))

  -- the list `now` is where the loop stands before its turn i
  abbrev pub Stands : ℕ → List A → List A → List A → Type 0
  Stands i new old now = (length now ≡ length old) × (now ≡ front i new old)

  module _ (new old : List A) (s : length new ≡ length old) where
    stands : (i : ℕ) (now : List A) → now ≡ front i new old → Stands i new old now
    stands i now e = (ap length e ∙ front_long i new old s, e)

    -- the entry whose turn it is is still that of `old`
    pub stands-next : (i : ℕ) (now : List A) (d : A) → Stands i new old now → i < length old → get_or now i d ≡ get_or old i d
    stands-next i now d at l = ap (λ (r : List A). get_or r i d) at.1 ∙ front-next i new old d s l

    -- a turn that stores the entry of `new`
    pub stands-stored : (i : ℕ) (now next : List A) (d v : A) → Stands i new old now → i < length old → v ≡ get_or new i d
        → next ≡ set now i v → Stands (i + 1) new old next
    stands-stored i now next d v at l e p =
        stands (i + 1) next
        (p ∙ ap (λ (r : List A). set r i v) at.1 ∙ ap (set (front i new old) i) e ∙ store i new old d s l
        ∙ ap (λ (n : ℕ). front n new old) (sym (add-one i)))

    -- a turn that stores nothing, where the entry is the same in both
    pub stands-kept : (i : ℕ) (now next : List A) (d : A) → Stands i new old now → i < length old → get_or old i d ≡ get_or new i d
        → next ≡ now → Stands (i + 1) new old next
    stands-kept i now next d at l e p =
        stands-stored i now next d (get_or now i d) at l (stands-next i now d at l ∙ e) (p ∙ sym (set-get_or now i d))

    -- the loop may end where the other entries are the same in both
    pub stands-all : (n : ℕ) (now : List A) (d : A) → Stands n new old now
        → ((i : ℕ) → i < length old → n ≤ i → get_or old i d ≡ get_or new i d) → now ≡ new
    stands-all n now d at h = at.1 ∙ rest n new old d s h
