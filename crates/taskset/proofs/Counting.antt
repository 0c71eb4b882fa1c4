-- Task levels, deadline by deadline: a different deadline is counted at its last place.
use mathlib.Core.Path.{◌≡◌, refl, sym, ap, ◌∙◌}
use mathlib.Core.Bool.{Bool, true, false, cond, ◌&&◌, ◌||◌, and-false, true≢false}
use mathlib.Core.List.{List, [], ◌∷◌, map}
use Prim.Native.Nat.{ℕ, suc, ◌+◌, ◌≤◌, ◌<◌, max}
use native.Mathlib.Numerals.{add-one}
use native.Mathlib.Omega.{arith}
use lib.Dec.{eqb, leb}
use lib.ListN.{length, get_or, drop, drop_of_length-le}
use lib.Seq.{drop-cons}
use borrow.Author.Tests.{eqb-true}
use Rattle.objset.specs.Objset.{meeting}
use Rattle.taskset.specs.Tasks.{occurs, all_differ}
use Rattle.taskset.specs.Levels.{different, at_least, task_level, highest_of, highest}
use Rattle.std.specs.Prelude.{Option, None, Some}
use Rattle.std.specs.Option.{is_some, option_map, unwrap_or}
use Rattle.std.specs.List.{count_by, filter, fold, reduce, zip}
use Rattle.std.proofs.lemmas.List.Folds.{fold-map}
use Rattle.std.proofs.lemmas.List.Recursion.{is_count_by}
use Rattle.taskset.specs.Counted.{distinct}
use Rattle.taskset.specs.Ceilings.{CountAtLeast}

-- ---- the numbers that are at least d

-- those among a list are among those of it that are at least d, where they are at least d
module _ (d m : ℕ) where
  least_first : (n : ℕ) (ns : List ℕ) (t : Bool) → leb d n ≡ t → (q : Bool) → eqb m n ≡ q → occurs m (at_least d ns) ≡ (leb d m && occurs m ns)
      → occurs m (cond t (n ∷ at_least d ns) (at_least d ns)) ≡ (leb d m && (q || occurs m ns))
  unfolding occurs
  least_first n ns true t true e more = rw (e, ap (leb d) (eqb-true m n e) ∙ t)
  least_first n ns true t false e more = rw (e, more)
  least_first n ns false t true e more = more ∙ rw (ap (leb d) (eqb-true m n e) ∙ t)
  least_first n ns false t false e more = more

  occurs-least : (ns : List ℕ) → occurs m (at_least d ns) ≡ (leb d m && occurs m ns)
  unfolding occurs at_least
  occurs-least [] = sym (and-false (leb d m))
  occurs-least (n ∷ ns) = least_first n ns (leb d n) refl (eqb m n) refl (occurs-least ns)

-- ---- the different numbers of a list, one by one

distinct-long : (ns : List ℕ) → length (distinct ns) ≡ different ns
unfolding different distinct
distinct-long [] = refl
distinct-long (n ∷ ns) = go (occurs n ns) (distinct-long ns)
  where
    go : (t : Bool) → length (distinct ns) ≡ different ns
        → length (cond t (distinct ns) (n ∷ distinct ns)) ≡ cond t (different ns) (suc (different ns))
    go true e = e
    go false e = ap suc e

occurs-distinct : (m : ℕ) (ns : List ℕ) → occurs m (distinct ns) ≡ occurs m ns
unfolding occurs distinct
occurs-distinct m [] = refl
occurs-distinct m (n ∷ ns) = go (occurs n ns) refl (eqb m n) refl (occurs-distinct m ns)
  where
    go : (t : Bool) → occurs n ns ≡ t → (q : Bool) → eqb m n ≡ q → occurs m (distinct ns) ≡ occurs m ns
        → occurs m (cond t (distinct ns) (n ∷ distinct ns)) ≡ (q || occurs m ns)
    go true t true q e = e ∙ ap (λ (k : ℕ). occurs k ns) (eqb-true m n q) ∙ t
    go true t false q e = e
    go false t b q e = rw (q, e)

distinct-differ : (ns : List ℕ) → all_differ (distinct ns) ≡ true
unfolding all_differ distinct
distinct-differ [] = refl
distinct-differ (n ∷ ns) = go (occurs n ns) refl (distinct-differ ns)
  where
    go : (t : Bool) → occurs n ns ≡ t → all_differ (distinct ns) ≡ true → all_differ (cond t (distinct ns) (n ∷ distinct ns)) ≡ true
    go true t e = e
    go false t e = rw (occurs-distinct n ns, t, e)

-- a task's level is the count of the different deadlines that are at least its own
pub count-at-least : (d : ℕ) (ns : List ℕ) → CountAtLeast d ns (task_level ns d)
unfolding task_level
count-at-least d ns = record {
  list = distinct (at_least d ns);
  differ = distinct-differ (at_least d ns);
  those = λ m. occurs-distinct m (at_least d ns) ∙ occurs-least d m ns;
  count = distinct-long (at_least d ns);
}

-- ---- what the loops count

-- the number at a place is counted there, unless it stands in a later place
module _ (ns : List ℕ) (i : ℕ) (l : i < length ns) where
  pub distinct-here : occurs (get_or ns i 0) (drop (i + 1) ns) ≡ false → distinct (drop i ns) ≡ get_or ns i 0 ∷ distinct (drop (i + 1) ns)
  unfolding distinct
  distinct-here e = rw (drop-cons ns i 0 l, rw (add-one i) at e, add-one i)

  pub distinct-later : occurs (get_or ns i 0) (drop (i + 1) ns) ≡ true → distinct (drop i ns) ≡ distinct (drop (i + 1) ns)
  unfolding distinct
  distinct-later e = rw (drop-cons ns i 0 l, rw (add-one i) at e, add-one i)

pub none_left : (ns : List ℕ) (i : ℕ) → length ns ≤ i → distinct (drop i ns) ≡ []
unfolding distinct
none_left ns i h = rw (drop_of_length-le ns h)

-- there are at most as many as places
pub distinct-few : (ns : List ℕ) → length (distinct ns) ≤ length ns
unfolding distinct
distinct-few [] = omega arith
distinct-few (n ∷ ns) = go (occurs n ns) (distinct-few ns)
  where
    go : (t : Bool) → length (distinct ns) ≤ length ns → length (cond t (distinct ns) (n ∷ distinct ns)) ≤ suc (length ns)
    go true h = omega arith
    go false h = omega arith

-- those of them that are at least d are as many as the different numbers at least d
count-at-least-d : (d : ℕ) (ns : List ℕ) → count_by (leb d) ns ≡ length (at_least d ns)
unfolding at_least
count-at-least-d d ns = sym (is_count_by (λ (ms : List ℕ). length (at_least d ms)) (leb d) refl (λ m ms. go m ms (leb d m)) ns)
  where
    go : (m : ℕ) (ms : List ℕ) (t : Bool) → length (cond t (m ∷ at_least d ms) (at_least d ms)) ≡ cond t (1 + length (at_least d ms)) (length (at_least d ms))
    go m ms true = omega arith
    go m ms false = refl

distinct-least : (d : ℕ) (ns : List ℕ) → length (at_least d (distinct ns)) ≡ different (at_least d ns)
unfolding different at_least distinct
distinct-least d [] = refl
distinct-least d (n ∷ ns) = go (leb d n) refl (occurs n ns) refl (distinct-least d ns)
  where
    go : (t : Bool) → leb d n ≡ t → (q : Bool) → occurs n ns ≡ q → length (at_least d (distinct ns)) ≡ different (at_least d ns)
        → length (at_least d (cond q (distinct ns) (n ∷ distinct ns))) ≡ different (cond t (n ∷ at_least d ns) (at_least d ns))
    go true t true q e = rw (occurs-least d n ns, t, q) e
    go true t false q e = rw (occurs-least d n ns, t, q) (ap suc e)
    go false t true q e = e
    go false t false q e = rw t e

pub count-distinct : (d : ℕ) (ns : List ℕ) → count_by (leb d) (distinct ns) ≡ task_level ns d
unfolding task_level
count-distinct d ns = count-at-least-d d (distinct ns) ∙ distinct-least d ns

-- ---- the highest level: of those whose groups have a card of this one, the highest that is met

pub highest-fold : (g : ℕ) (gs ls : List ℕ) (m : ℕ)
    → fold (λ (a : ℕ) (p : ℕ × ℕ). max a p.1) m (filter (λ (p : ℕ × ℕ). meeting g p.0) (zip gs ls)) ≡ max m (highest g gs ls)
unfolding highest_of
highest-fold g [] ls m = omega arith
highest-fold g (s ∷ ss) [] m = omega arith
highest-fold g (s ∷ ss) (l ∷ ls) m = go (meeting g s) (highest-fold g ss ls (max m l)) (highest-fold g ss ls m)
  where
    pairs : List (ℕ × ℕ)
    pairs = filter (λ (p : ℕ × ℕ). meeting g p.0) (zip ss ls)

    go : (b : Bool) → fold (λ (a : ℕ) (p : ℕ × ℕ). max a p.1) (max m l) pairs ≡ max (max m l) (highest g ss ls)
        → fold (λ (a : ℕ) (p : ℕ × ℕ). max a p.1) m pairs ≡ max m (highest g ss ls)
        → fold (λ (a : ℕ) (p : ℕ × ℕ). max a p.1) m (cond b ((s, l) ∷ pairs) pairs) ≡ max m (cond b (max l (highest g ss ls)) (highest g ss ls))
    go true e f = e ∙ omega arith
    go false e f = f

fold-picked : (r : Option ℕ) (ls : List ℕ) → option_map (λ (x : ℕ). x) r ≡ reduce max ls → unwrap_or r 0 ≡ fold max 0 ls
fold-picked None [] e = refl
fold-picked None (l ∷ ls) e = absurd (true≢false (sym (ap is_some e)))
fold-picked (Some x) [] e = absurd (true≢false (ap is_some e))
fold-picked (Some x) (l ∷ ls) e = ap (λ (o : Option ℕ). unwrap_or o 0) e ∙ ap (λ (n : ℕ). fold max n ls) (omega arith)

pub highest-picked : (g : ℕ) (gs ls : List ℕ) (r : Option ℕ)
    → option_map (λ (x : ℕ). x) r ≡ reduce max (map (λ (p : ℕ × ℕ). p.1) (filter (λ (p : ℕ × ℕ). meeting g p.0) (zip gs ls)))
    → unwrap_or r 0 ≡ highest g gs ls
highest-picked g gs ls r e =
    let pairs : List (ℕ × ℕ) = filter (λ (p : ℕ × ℕ). meeting g p.0) (zip gs ls) in
    fold-picked r (map (λ (p : ℕ × ℕ). p.1) pairs) e ∙ fold-map max (λ (p : ℕ × ℕ). p.1) 0 pairs ∙ highest-fold g gs ls 0 ∙ omega arith
