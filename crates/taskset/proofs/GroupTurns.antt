-- Each turn of the loops that work out the groups, from the last task to the first: what was done from place i on is done from the place
-- before it on. Then the answer.
use mathlib.Core.Path.{◌≡◌, refl, sym, ap, ◌∙◌}
use mathlib.Core.Bool.{Bool, true, false, cond}
use mathlib.Core.List.{List, [], ◌∷◌, ◌++◌, append-nil}
use Prim.Native.Nat.{ℕ, suc, ◌-◌, ◌≤◌, ◌<◌}
use native.Mathlib.Omega.{arith}
use lib.ListN.{length, get_or, set, take, drop, replicate, length-map, length-append, length-drop, length-replicate, drop_of_length-le}
use lib.Seq.{take-length, drop-length, take-suc, drop-cons, append_snoc, length-take-le, take_all, take_at, drop_at, set_at, get_or_at}
use Rattle.objset.specs.Objset.{none, joined, meeting}
use Rattle.std.specs.List.{filter, fold}
use Rattle.std.specs.Prelude.{reverse}
use Rattle.std.proofs.lemmas.Grind.{reverse_onto}
use Rattle.std.proofs.lemmas.List.Elements.{filter-append}
use Rattle.std.proofs.lemmas.List.Sums.{fold-append}
use Rattle.taskset.specs.declared.Task.{Task}
use Rattle.taskset.specs.Tasks.{most_tasks, cards_of}
use Rattle.taskset.specs.Groups.{reached, replaced, with_task, groups_of, grouped}
use Rattle.objset.proofs.Laws.{none-zero}
use Rattle.taskset.proofs.Columns.{listed, listed-whole}
use Rattle.taskset.proofs.GroupLaws.{groups-length}

module _ (xs : List ℕ) (i : ℕ) (first : 0 < i) (within : i ≤ length xs) where
  next : suc (i - 1) ≡ i
  next = omega arith

  -- the entries from the place before i on
  from : drop (i - 1) xs ≡ get_or xs (i - 1) 0 ∷ drop i xs
  from = drop-cons xs (i - 1) 0 (omega arith) ∙ rw next

  -- the first i entries, and others behind them
  module _ (rest : List ℕ) where
    split : take i xs ++ rest ≡ take (i - 1) xs ++ (get_or xs (i - 1) 0 ∷ rest)
    split =
        ap (λ (n : ℕ). take n xs ++ rest) (sym next)
        ∙ ap (λ (l : List ℕ). l ++ rest) (take-suc xs (i - 1) 0 (omega arith))
        ∙ append_snoc (take (i - 1) xs) (get_or xs (i - 1) 0) rest

    long : length (take (i - 1) xs) ≡ i - 1
    long = length-take-le (i - 1) xs (omega arith)

    pub last-at : get_or (take i xs ++ rest) (i - 1) 0 ≡ get_or xs (i - 1) 0
    last-at = ap (λ (l : List ℕ). get_or l (i - 1) 0) split ∙ get_or_at (take (i - 1) xs) (get_or xs (i - 1) 0) rest 0 (i - 1) long

    pub last_set : (v : ℕ) → set (take i xs ++ rest) (i - 1) v ≡ take (i - 1) xs ++ (v ∷ rest)
    last_set v = ap (λ (l : List ℕ). set l (i - 1) v) split ∙ set_at (take (i - 1) xs) (get_or xs (i - 1) 0) rest v (i - 1) long

-- the groups that a task's cards meet, joined from the last to the first
pub reached-fold : (c : ℕ) (gs : List ℕ) → fold (λ (whole g : ℕ). joined g whole) c (filter (meeting c) (reverse gs)) ≡ reached c gs
unfolding reached
reached-fold c [] = refl
reached-fold c (g ∷ gs) =
    ap (λ (l : List ℕ). fold (λ (whole g : ℕ). joined g whole) c (filter (meeting c) l)) (reverse_onto gs g [])
    ∙ ap (fold (λ (whole g : ℕ). joined g whole) c) (filter-append (meeting c) (reverse gs) (g ∷ []))
    ∙ fold-append (λ (whole g : ℕ). joined g whole) c (filter (meeting c) (reverse gs)) (filter (meeting c) (g ∷ []))
    ∙ go (meeting c g) (reached-fold c gs)
  where
    all : ℕ
    all = fold (λ (whole g : ℕ). joined g whole) c (filter (meeting c) (reverse gs))

    go : (b : Bool) → all ≡ reached c gs
        → fold (λ (whole g : ℕ). joined g whole) all (cond b (g ∷ []) []) ≡ cond b (joined g (reached c gs)) (reached c gs)
    go true e = ap (joined g) e
    go false e = e

-- before the first turn nothing is done
pub still : (f : List ℕ → List ℕ) (xs : List ℕ) → f [] ≡ [] → xs ≡ take (length xs) xs ++ f (drop (length xs) xs)
still f xs e = sym (rw (take-length xs, drop-length xs, e) (append-nil xs))

-- the groups of the tasks from place i on, behind the cards of those before it
pub groups_long : (cs : List ℕ) (i : ℕ) (now : List ℕ) → i ≤ length cs → now ≡ take i cs ++ groups_of (drop i cs) → length now ≡ length cs
groups_long cs i now within e =
    ap length e
    ∙ length-append (take i cs) (groups_of (drop i cs))
    ∙ omega (arith, length-take-le i cs within, groups-length (drop i cs), length-drop i cs)

module _ (cs : List ℕ) (i : ℕ) (first : 0 < i) (within : i ≤ length cs) (now : List ℕ) (e : now ≡ take i cs ++ groups_of (drop i cs)) where
  front : take i now ≡ take i cs
  front = ap (take i) e ∙ take_at (take i cs) (groups_of (drop i cs)) i (length-take-le i cs within)

  back : drop i now ≡ groups_of (drop i cs)
  back = ap (drop i) e ∙ drop_at (take i cs) (groups_of (drop i cs)) i (length-take-le i cs within)

  -- the part that is lent, and what is behind it
  part : take (length now - i) (drop i now) ≡ groups_of (drop i cs)
  part = take_all (length now - i) (drop i now) (omega (arith, length-drop i now)) ∙ back

  behind : drop (length now - i) (drop i now) ≡ []
  behind = drop_of_length-le (drop i now) {i = length now - i} (omega (arith, length-drop i now))

  cards-at : get_or now (i - 1) 0 ≡ get_or cs (i - 1) 0
  cards-at = ap (λ (l : List ℕ). get_or l (i - 1) 0) e ∙ last-at cs i first within (groups_of (drop i cs))

  -- what the part has come to, and before it the whole of the task whose turn it was
  pub groups-turn : (whole : ℕ) (gs : List ℕ) → whole ≡ reached (get_or now (i - 1) 0) (take (length now - i) (drop i now))
      → gs ≡ replaced (get_or now (i - 1) 0) whole (take (length now - i) (drop i now))
      → set (take i now ++ (gs ++ drop (length now - i) (drop i now))) (i - 1) whole ≡ take (i - 1) cs ++ groups_of (drop (i - 1) cs)
  unfolding groups_of with_task
  groups-turn whole gs p q =
      let c = get_or cs (i - 1) 0 in
      let groups = groups_of (drop i cs) in
      let all : whole ≡ reached c groups = p ∙ rw (part, cards-at) in
      let others : gs ≡ replaced c (reached c groups) groups = q ∙ rw (part, cards-at, all) in
      rw (front, behind, append-nil gs) (last_set cs i first within gs whole ∙ rw (from cs i first within, all, others))

-- ---- the answer

module _ (ts : List Task) where
  -- the cards of the tasks in the first places of an array become their groups
  pub groups-made : (row gs : List ℕ) → row ≡ listed (replicate most_tasks 0) (length ts) (cards_of ts) → gs ≡ groups_of (take (length ts) row)
      → gs ++ drop (length ts) row ≡ (grouped (groups_of (cards_of ts))).cards
  unfolding grouped
  groups-made row gs e g =
      let n : ℕ = length ts in
      let cards = length-map ts (λ (t : Task). t.cards) in
      let all : row ≡ cards_of ts ++ replicate (most_tasks - n) 0 = e ∙ listed-whole 0 (cards_of ts) n cards in
      let front : take n row ≡ cards_of ts = ap (take n) all ∙ take_at (cards_of ts) (replicate (most_tasks - n) 0) n cards in
      let back : drop n row ≡ replicate (most_tasks - n) 0 = ap (drop n) all ∙ drop_at (cards_of ts) (replicate (most_tasks - n) 0) n cards in
      let groups : gs ≡ groups_of (cards_of ts) = g ∙ ap groups_of front in
      let size : length (groups_of (cards_of ts)) ≡ n = groups-length (cards_of ts) ∙ cards in
      rw (back, groups, size, none-zero)

  pub group-cards-front : take (length ts) (grouped (groups_of (cards_of ts))).cards ≡ groups_of (cards_of ts)
  unfolding grouped
  group-cards-front = take_at (groups_of (cards_of ts)) _ (length ts) (groups-length (cards_of ts) ∙ length-map ts (λ (t : Task). t.cards))

  pub group-cards-long : length ts ≤ most_tasks → length (grouped (groups_of (cards_of ts))).cards ≡ most_tasks
  unfolding grouped
  group-cards-long h =
      let long = groups-length (cards_of ts) ∙ length-map ts (λ (t : Task). t.cards) in
      length-append (groups_of (cards_of ts)) _
      ∙ omega (arith, long, length-replicate (most_tasks - length (groups_of (cards_of ts))) none)

  pub grouped-made : (row : List ℕ) → row ≡ (grouped (groups_of (cards_of ts))).cards → record { cards = row; count = length ts } ≡ grouped (groups_of (cards_of ts))
  unfolding grouped
  grouped-made row e = rw (e, groups-length (cards_of ts) ∙ length-map ts (λ (t : Task). t.cards)) refl
