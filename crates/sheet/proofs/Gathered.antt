-- The tasks of a sheet are a task set: at most 32, on cores that exist, with different numbers, their cards sets.
use Rattle.std.specs.Str.{bytes_eq}
use Rattle.std.specs.Prelude.{Option, None, Some}
use mathlib.Core.Path.{◌≡◌, refl, sym, ap, ◌∙◌}
use mathlib.Core.Bool.{Bool, true, false, cond, not, ◌&&◌, ◌||◌, true≢false, and-eq-true_iff}
use mathlib.Core.List.{List, [], ◌∷◌, ◌++◌, map}
use Prim.Native.Nat.{ℕ, suc, ◌^◌, ◌≤◌, ◌<◌}
use native.Mathlib.Omega.{arith}
use lib.Dec.{eqb, leb, ltb}
use lib.ListN.{length, length-append}
use borrow.Author.Tests.{leb-true, ltb-true, le-leb, eqb-false, ne_eqb, not-true}
use Rattle.decimal.specs.Bytes.{ascii}
use Rattle.objset.specs.Objset.{most_objects, none, added}
use Rattle.objset.specs.Words.{Words}
use Rattle.objset.proofs.Laws.{none-zero, added-fits}
use Rattle.taskset.specs.declared.Task.{Task}
use Rattle.taskset.specs.Tasks.{most_tasks, last_core, occurs, all_differ, cores_exist, numbers_of, cards_of, is_task_set}
use Rattle.sheet.specs.Sheet.{rising, comma_list, card_list, goes_on, spelled_task, task_of, task_line, gathered, tasks_below, tasks_of_lines, sheet_tasks, last_task}

-- ---- the cards of a task are a set

abbrev AreSet : Option ℕ → Type 0
AreSet (Some s) = s < 2 ^ 64
AreSet None = Unit {0}

rising-set : (least s : ℕ) (ns : List (Option ℕ)) → s < 2 ^ 64 → AreSet (rising least s ns)
unfolding rising
rising-set least s [] h = h
rising-set least s (Some d ∷ ns) h = go (leb least d && ltb d most_objects) (rising-set (suc d) (added s d) ns (added-fits s d))
  where
    go : (t : Bool) → AreSet (rising (suc d) (added s d) ns) → AreSet (cond t (rising (suc d) (added s d) ns) None)
    go true more = more
    go false more = tt
rising-set least s (None ∷ ns) h = tt

none-fits : none < 2 ^ 64
none-fits = rw none-zero (omega arith)

cards-set : (field : List ℕ) → AreSet (card_list field)
unfolding card_list
cards-set field = go (bytes_eq field (ascii "-"))
  where
    go : (t : Bool) → AreSet (cond t (Some none) (rising 0 none (comma_list field)))
    go true = none-fits
    go false = rising-set 0 none (comma_list field) none-fits

-- ---- a line of a task has a core that exists, and a set of cards

abbrev Fit : Option Task → Type 0
Fit (Some t) = (t.core ≤ last_core) × (t.cards < 2 ^ 64)
Fit None = Unit {0}

goes-on-fits : (r : Option ℕ) (k : ℕ → Option Task) → ((n : ℕ) → Fit (k n)) → Fit (goes_on r k)
unfolding goes_on
goes-on-fits None k h = tt
goes-on-fits (Some n) k h = h n

goes-on-set : (r : Option ℕ) (k : ℕ → Option Task) → AreSet r → ((s : ℕ) → s < 2 ^ 64 → Fit (k s)) → Fit (goes_on r k)
unfolding goes_on
goes-on-set None k set h = tt
goes-on-set (Some s) k set h = h s set

spelled-fits : (t c d s : ℕ) → s < 2 ^ 64 → Fit (spelled_task t c d s)
unfolding spelled_task
spelled-fits t c d s fits = go (leb t last_task) (leb c last_core) refl
  where
    go : (a b : Bool) → leb c last_core ≡ b → Fit (cond (a && b) (Some (record { number = t; core = c; deadline = d; cards = s })) None)
    go false b e = tt
    go true false e = tt
    go true true e = (leb-true c last_core e, fits)

line-fits : (at line : List ℕ) → Fit (task_line at line)
unfolding task_line task_of
line-fits at line = goes-on-fits _ _ (λ t. goes-on-fits _ _ (λ c. goes-on-fits _ _ (λ d. goes-on-set _ _ (cards-set _) (λ s h. spelled-fits t c d s h))))

-- ---- a task more

or_assoc : (a b c : Bool) → ((a || b) || c) ≡ (a || (b || c))
or_assoc true b c = refl
or_assoc false b c = refl

or-false : (a : Bool) → (a || false) ≡ a
or-false true = refl
or-false false = refl

occurs-end : (n m : ℕ) (ns : List ℕ) → occurs n (ns ++ (m ∷ [])) ≡ (occurs n ns || eqb n m)
unfolding occurs
occurs-end n m [] = or-false (eqb n m)
occurs-end n m (x ∷ ns) = ap (λ (r : Bool). eqb n x || r) (occurs-end n m ns) ∙ sym (or_assoc (eqb n x) (occurs n ns) (eqb n m))

eqb_swap : (n m : ℕ) → eqb n m ≡ false → eqb m n ≡ false
eqb_swap n m e = ne_eqb m n (λ p. eqb-false n m e (sym p))

or-none : (a b : Bool) → (a || b) ≡ false → (a ≡ false) × (b ≡ false)
or-none true b e = absurd (true≢false e)
or-none false b e = (refl, e)

pub differ-more : (n : ℕ) (ns : List ℕ) → all_differ ns ≡ true → occurs n ns ≡ false → all_differ (ns ++ (n ∷ [])) ≡ true
unfolding all_differ occurs
differ-more n [] d e = refl
differ-more n (x ∷ ns) d e =
    let apart = or-none (eqb n x) (occurs n ns) e in
    let both = (and-eq-true_iff (not (occurs x ns)) (all_differ ns)).0 d in
    rw (occurs-end x n ns, eqb_swap n x apart.0, or-false (occurs x ns), both.0, differ-more n ns both.1 apart.1)

cores-more : (t : Task) (ts : List Task) → cores_exist ts ≡ true → t.core ≤ last_core → cores_exist (ts ++ (t ∷ [])) ≡ true
unfolding cores_exist
cores-more t [] d h = rw (le-leb t.core last_core h)
cores-more t (x ∷ ts) d h =
    let both = (and-eq-true_iff (leb x.core last_core) (cores_exist ts)).0 d in
    rw (both.0, cores-more t ts both.1 h)

sets_more : (t : Task) (ts : List Task) → Words (cards_of ts) → t.cards < 2 ^ 64 → Words (cards_of (ts ++ (t ∷ [])))
sets_more t [] w h = (h, tt)
sets_more t (x ∷ ts) w h = (w.0, sets_more t ts w.1 h)

pub numbers_more : (t : Task) (ts : List Task) → numbers_of (ts ++ (t ∷ [])) ≡ numbers_of ts ++ (t.number ∷ [])
numbers_more t [] = refl
numbers_more t (x ∷ ts) = ap (λ (r : List ℕ). x.number ∷ r) (numbers_more t ts)

-- ---- what holds of the tasks that stand so far

pub record Gathering (ts : List Task) : Type 0 where
  pub few : length ts ≤ most_tasks
  pub cores : cores_exist ts ≡ true
  pub sets : Words (cards_of ts)
  pub differ : all_differ (numbers_of ts) ≡ true

pub no-tasks : Gathering []
unfolding cores_exist all_differ
no-tasks = record { few = omega arith; cores = refl; sets = tt; differ = refl }

one_more : (t : Task) (ts : List Task) → Gathering ts → (t.core ≤ last_core) × (t.cards < 2 ^ 64)
    → (ltb (length ts) most_tasks && not (occurs t.number (numbers_of ts))) ≡ true → Gathering (ts ++ (t ∷ []))
one_more t ts g h e =
    let both = (and-eq-true_iff (ltb (length ts) most_tasks) (not (occurs t.number (numbers_of ts)))).0 e in
    record {
      few = omega (arith, length-append ts (t ∷ []), ltb-true (length ts) most_tasks both.0);
      cores = cores-more t ts g.cores h.0;
      sets = sets_more t ts g.sets h.1;
      differ = ap all_differ (numbers_more t ts) ∙ differ-more t.number (numbers_of ts) g.differ (not-true _ both.1);
    }

gathered-all : (at : List ℕ) (ts : List Task) (ls : List (List ℕ)) → Gathering ts → Gathering (gathered ts (map (task_line at) ls))
unfolding gathered
gathered-all at ts [] g = g
gathered-all at ts (l ∷ ls) g = go (task_line at l) (line-fits at l) (λ t. gathered-all at (ts ++ (t ∷ [])) ls)
  where
    go : (line : Option Task) → Fit line → ((t : Task) → Gathering (ts ++ (t ∷ [])) → Gathering (gathered (ts ++ (t ∷ [])) (map (task_line at) ls)))
        → Gathering (gathered ts (line ∷ map (task_line at) ls))
    go None h more = no-tasks
    go (Some t) h more = taken (ltb (length ts) most_tasks && not (occurs t.number (numbers_of ts))) refl
      where
        taken : (q : Bool) → (ltb (length ts) most_tasks && not (occurs t.number (numbers_of ts))) ≡ q
            → Gathering (cond q (gathered (ts ++ (t ∷ [])) (map (task_line at) ls)) [])
        taken true e = more t (one_more t ts g h e)
        taken false e = no-tasks

below-gathering : (at : List ℕ) (ls : List (List ℕ)) → Gathering (tasks_below at ls)
unfolding tasks_below
below-gathering [] ls = no-tasks
below-gathering (c ∷ cs) ls = gathered-all (c ∷ cs) [] ls no-tasks

lines-gathering : (ls : List (List ℕ)) → Gathering (tasks_of_lines ls)
unfolding tasks_of_lines
lines-gathering [] = no-tasks
lines-gathering (l ∷ ls) = below-gathering _ ls

-- the tasks that bytes are
pub sheet-gathering : (bytes : List ℕ) → Gathering (sheet_tasks bytes)
unfolding sheet_tasks
sheet-gathering bytes = lines-gathering _

-- their cards are sets, so what proofs/Chains.antt and Ceilings.antt of `taskset` say of groups and levels holds of every sheet
pub sheet-words : (bytes : List ℕ) → Words (cards_of (sheet_tasks bytes))
sheet-words bytes = (sheet-gathering bytes).sets

pub sheet-few : (bytes : List ℕ) → length (sheet_tasks bytes) ≤ most_tasks
sheet-few bytes = (sheet-gathering bytes).few

-- where there are some, they are a task set
pub sheet-set : (bytes : List ℕ) → is_task_set (sheet_tasks bytes) ≡ ltb 0 (length (sheet_tasks bytes))
unfolding is_task_set
sheet-set bytes =
    let ts = sheet_tasks bytes in
    let g = sheet-gathering bytes in
    rw (le-leb (length ts) most_tasks g.few, g.cores, g.differ) (all_true (ltb 0 (length ts)))
  where
    all_true : (q : Bool) → ((q && true) && (true && true)) ≡ q
    all_true true = refl
    all_true false = refl
