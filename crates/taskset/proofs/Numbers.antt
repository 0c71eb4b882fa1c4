-- Lists of numbers, entry by entry: whether one stands in a list, whether all differ. A column: one number of each task.
use mathlib.Core.Path.{◌≡◌, refl, sym, ap, ◌∙◌}
use mathlib.Core.Bool.{Bool, not, ◌||◌, ◌&&◌}
use mathlib.Core.List.{List, [], ◌∷◌, map}
use Prim.Native.Nat.{ℕ, zero, suc, ◌+◌, ◌-◌}
use native.Mathlib.Numerals.{add-one}
use native.Mathlib.Omega.{arith}
use lib.Dec.{eqb}
use lib.ListN.{length, get_or, take, drop, length-drop, get_or-map}
use lib.Seq.{take_all}
use Rattle.std.specs.List.{list_any, list_all, enumerate_from}
use Rattle.taskset.specs.declared.Task.{Task}
use Rattle.taskset.specs.Tasks.{no_task, occurs, all_differ}

-- whether a number stands in a column
pub occurs-column : (f : Task → ℕ) (n : ℕ) (ts : List Task) → list_any (λ (t : Task). eqb n (f t)) ts ≡ occurs n (map f ts)
unfolding occurs
occurs-column f n [] = refl
occurs-column f n (t ∷ ts) = ap (λ (b : Bool). eqb n (f t) || b) (occurs-column f n ts)

pub drop-column : {A B : Type 0} (f : A → B) (i : ℕ) (ts : List A) → drop i (map f ts) ≡ map f (drop i ts)
drop-column f zero ts = refl
drop-column f (suc i) [] = refl
drop-column f (suc i) (t ∷ ts) = drop-column f i ts

-- whether the number of the task at a place stands in a later place
pub occurs-later : (f : Task → ℕ) (ts : List Task) (i : ℕ)
    → list_any (λ (t : Task). eqb (f (get_or ts i no_task)) (f t)) (drop (i + 1) ts) ≡ occurs (get_or (map f ts) i (f no_task)) (drop (i + 1) (map f ts))
occurs-later f ts i =
    occurs-column f (f (get_or ts i no_task)) (drop (i + 1) ts) ∙ rw (get_or-map f ts i no_task, drop-column f (i + 1) ts)

drop-next : {A : Type 0} (i : ℕ) (xs : List A) → drop 1 (drop i xs) ≡ drop (suc i) xs
drop-next zero xs = refl
drop-next (suc i) [] = refl
drop-next (suc i) (x ∷ xs) = drop-next i xs

-- whether the number of the task at a place stands in no later place
abbrev pub new-at : List Task → ℕ × Task → Bool
new-at all p = not (occurs p.1.number (map (λ (t : Task). t.number) (take (length all - (p.0 + 1)) (drop (p.0 + 1) all))))

-- each is new where all differ
pub all-new : (all ts : List Task) (i : ℕ) → ts ≡ drop i all → list_all (new-at all) (enumerate_from i ts) ≡ all_differ (map (λ (t : Task). t.number) ts)
unfolding all_differ
all-new all [] i e = refl
all-new all (t ∷ ts) i e =
    let next : ts ≡ drop (i + 1) all = ap (drop 1) e ∙ drop-next i all ∙ ap (λ (n : ℕ). drop n all) (sym (add-one i)) in
    let part : take (length all - (i + 1)) (drop (i + 1) all) ≡ ts = take_all (length all - (i + 1)) (drop (i + 1) all) (omega (arith, length-drop (i + 1) all)) ∙ sym next in
    ap (λ (us : List Task). not (occurs t.number (map (λ (t : Task). t.number) us)) && list_all (new-at all) (enumerate_from (i + 1) ts)) part
    ∙ ap (λ (b : Bool). not (occurs t.number (map (λ (t : Task). t.number) ts)) && b) (all-new all ts (i + 1) next)
