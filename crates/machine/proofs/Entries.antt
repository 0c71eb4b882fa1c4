-- The entries of the lists that calls hand back: one core put in place, the cores after a commit, the cards that it wrote, of a longer table
-- the first words alone; and of a list's part.
use Rattle.std.proofs.Common.{◌≡◌, ℕ, zero, suc, ◌+◌, ◌-◌, ◌<◌, ◌≤◌, Bool, true, false, cond, eqb, List, [], ◌∷◌, ◌++◌, length, get_or, take, drop, set, sym, refl, ap, ◌∙◌, subst, ap₂, arith, length-drop, get_or-drop, take_all, get_or-set_other, get_or-set_same, eqb-true}
use borrow.Author.Tests.{eqb-false}
use Rattle.objset.specs.Objset.{has}
use Rattle.one_core.specs.declared.Core.{Core}
use Rattle.one_core.specs.Parts.{no_core}
use Rattle.one_core.specs.Life.{struck_by, over}
use Rattle.machine.specs.Rule.{cleared, changed}

-- what holds of core c, and of core e where that is another, holds of core e
pub here-or-else : (P : ℕ → Type 0) (c e : ℕ) → P c → ((e ≡ c → ⊥) → P e) → P e
here-or-else P c e here there = go (eqb e c) refl
  where
    go : (q : Bool) → eqb e c ≡ q → P e
    go true p = subst P (sym (eqb-true e c p)) here
    go false p = there (eqb-false e c p)

-- what holds of the core put at place c and of every core before the call holds of every core after it
pub put-each : (P : ℕ → Core → Type 0) (cores : List Core) (n c : ℕ) (k : Core) → c < length cores → P c k
    → ((e : ℕ) → e < n → P e (get_or cores e no_core)) → (e : ℕ) → e < n → P e (get_or (set cores c k) e no_core)
put-each P cores n c k h new old e l =
    here-or-else (λ x. P x (get_or (set cores c k) x no_core)) c e (subst (P c) (sym (get_or-set_same cores c k no_core h)) new)
    (λ d. subst (P e) (sym (get_or-set_other cores c e k no_core d)) (old e l))

cleared-from : (ws c i : ℕ) (cores : List Core) (e : ℕ) → e < length cores
    → get_or (cleared ws c i cores) e no_core ≡ cond (eqb (i + e) c) (over (get_or cores e no_core)) (struck_by ws (get_or cores e no_core))
unfolding cleared
cleared-from ws c i [] e h = absurd (omega arith)
cleared-from ws c i (k ∷ ks) zero h = ap (λ (x : ℕ). cond (eqb x c) (over k) (struck_by ws k)) (omega arith)
cleared-from ws c i (k ∷ ks) (suc e) h =
    cleared-from ws c (suc i) ks e (omega arith)
    ∙ ap (λ (x : ℕ). cond (eqb x c) (over (get_or ks e no_core)) (struck_by ws (get_or ks e no_core))) (omega arith)

-- core c by `over`, every other by `struck_by`
pub cleared_at : (ws c : ℕ) (cores : List Core) (e : ℕ) → e < length cores
    → get_or (cleared ws c 0 cores) e no_core ≡ cond (eqb e c) (over (get_or cores e no_core)) (struck_by ws (get_or cores e no_core))
cleared_at ws c cores e h =
    cleared-from ws c 0 cores e h ∙ ap (λ (x : ℕ). cond (eqb x c) (over (get_or cores e no_core)) (struck_by ws (get_or cores e no_core))) (omega arith)

pub cleared-long : (ws c i : ℕ) (cores : List Core) → length (cleared ws c i cores) ≡ length cores
unfolding cleared
cleared-long ws c i [] = refl
cleared-long ws c i (k ∷ ks) = ap suc (cleared-long ws c (suc i) ks)

changed-from : (ws : ℕ) (f : ℕ → ℕ → ℕ) (i : ℕ) (xs : List ℕ) (d : ℕ) → d < length xs
    → get_or (changed ws f i xs) d 0 ≡ cond (has ws (i + d)) (f (i + d) (get_or xs d 0)) (get_or xs d 0)
unfolding changed
changed-from ws f i [] d h = absurd (omega arith)
changed-from ws f i (x ∷ xs) zero h = ap (λ (n : ℕ). cond (has ws n) (f n x) x) (omega arith)
changed-from ws f i (x ∷ xs) (suc d) h =
    changed-from ws f (suc i) xs d (omega arith) ∙ ap (λ (n : ℕ). cond (has ws n) (f n (get_or xs d 0)) (get_or xs d 0)) (omega arith)

-- the entry of a card in the set is changed by f, any other is kept
pub changed-at : (ws : ℕ) (f : ℕ → ℕ → ℕ) (xs : List ℕ) (d : ℕ) → d < length xs
    → get_or (changed ws f 0 xs) d 0 ≡ cond (has ws d) (f d (get_or xs d 0)) (get_or xs d 0)
changed-at ws f xs d h = changed-from ws f 0 xs d h ∙ ap (λ (n : ℕ). cond (has ws n) (f n (get_or xs d 0)) (get_or xs d 0)) (omega arith)

pub changed-long : (ws : ℕ) (f : ℕ → ℕ → ℕ) (i : ℕ) (xs : List ℕ) → length (changed ws f i xs) ≡ length xs
unfolding changed
changed-long ws f i [] = refl
changed-long ws f i (x ∷ xs) = ap suc (changed-long ws f (suc i) xs)

-- where the set has no member among these places, nothing is changed
changed-outside : (ws : ℕ) (f : ℕ → ℕ → ℕ) (i : ℕ) (xs : List ℕ) → ((d : ℕ) → i ≤ d → d < i + length xs → has ws d ≡ true → ⊥) → changed ws f i xs ≡ xs
unfolding changed
changed-outside ws f i [] h = refl
changed-outside ws f i (x ∷ xs) h =
    ap₂ ◌∷◌ (go (has ws i) refl) (changed-outside ws f (suc i) xs (λ d l m p. h d (omega (arith, l)) (omega (arith, m)) p))
  where
    go : (b : Bool) → has ws i ≡ b → cond b (f i x) x ≡ x
    go true p = absurd (h i (omega arith) (omega arith) p)
    go false p = refl

-- where its members are below n, the first n words are changed, and only those
pub changed-front : (ws : ℕ) (f g : ℕ → ℕ → ℕ) (n i : ℕ) (xs : List ℕ) → ((d v : ℕ) → d < i + n → f d v ≡ g d v)
    → ((d : ℕ) → d < i + length xs → has ws d ≡ true → d < i + n) → changed ws f i xs ≡ changed ws g i (take n xs) ++ drop n xs
unfolding changed
changed-front ws f g zero i xs same within = changed-outside ws f i xs (λ d l m p. omega (arith, l, within d m p))
changed-front ws f g (suc n) i [] same within = refl
changed-front ws f g (suc n) i (x ∷ xs) same within =
    ap₂ ◌∷◌ (ap (λ (v : ℕ). cond (has ws i) v x) (same i x (omega arith)))
    (changed-front ws f g n (suc i) xs (λ d v l. same d v (omega (arith, l))) (λ d l p. omega (arith, within d (omega (arith, l)) p)))

-- ---- a list's part from n to its end, as it is lent

pub part-whole : (xs : List ℕ) (n : ℕ) → take (length xs - n) (drop n xs) ≡ drop n xs
part-whole xs n = take_all (length xs - n) (drop n xs) (omega (arith, length-drop n xs))

pub part-long : (xs : List ℕ) (n : ℕ) → length (take (length xs - n) (drop n xs)) ≡ length xs - n
part-long xs n = ap length (part-whole xs n) ∙ length-drop n xs

pub part_at : (xs : List ℕ) (n d : ℕ) → get_or (take (length xs - n) (drop n xs)) d 0 ≡ get_or xs (n + d) 0
part_at xs n d = ap (λ (part : List ℕ). get_or part d 0) (part-whole xs n) ∙ get_or-drop n xs d 0
