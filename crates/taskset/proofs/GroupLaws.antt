-- The groups that are worked out, and chains: each group has its task's cards, two groups are the same or have no card in common, and each
-- card of a group is used by a task at the end of a chain. One task more keeps all three.
use mathlib.Core.Path.{◌≡◌, refl, sym, ap, subst, ◌∙◌}
use mathlib.Core.Bool.{Bool, true, false, cond, ◌||◌, or-true, true≢false}
use mathlib.Core.List.{List, [], ◌∷◌}
use mathlib.Core.Logic.{◌⊎◌, inl, inr, ⊎_elim}
use Prim.Native.Nat.{ℕ, zero, suc, ◌^◌, ◌<◌}
use native.Mathlib.Omega.{arith}
use lib.Dec.{eqb}
use lib.ListN.{length, get_or}
use borrow.Author.Tests.{eqb-true, eq-eqb}
use Rattle.objset.specs.Objset.{has, none, joined, meeting}
use Rattle.objset.specs.Words.{Words}
use Rattle.objset.proofs.Laws.{has-none, none-zero, has-joined, joined-fits, meeting-one, one-meeting}
use Rattle.taskset.specs.Groups.{reached, replaced, with_task, groups_of, in_one_group}
use Rattle.taskset.specs.Chains.{Uses, UsesNone, Chain, alone, onward}
use Rattle.taskset.proofs.ChainLaws.{and_then, back, from-none, used-within, one_on}

either : (a b : Bool) → (a || b) ≡ true → (a ≡ true) ⊎ (b ≡ true)
either true b e = inl refl
either false b e = inr e

-- ---- words

none-fits : none < 2 ^ 64
none-fits = rw none-zero (omega arith)

-- the cards at any place are a word: past the end there are none
pub word_at : (cs : List ℕ) → Words cs → (k : ℕ) → get_or cs k none < 2 ^ 64
word_at [] w k = none-fits
word_at (c ∷ cs) w zero = w.0
word_at (c ∷ cs) w (suc k) = word_at cs w.1 k

-- sets without a common card do not meet
pub not-meeting : (a b : ℕ) → ((d : ℕ) → has a d ≡ true → has b d ≡ true → ⊥) → meeting a b ≡ false
not-meeting a b none = go (meeting a b) refl
  where
    go : (x : Bool) → meeting a b ≡ x → x ≡ false
    go true t = let m = meeting-one a b t in absurd (none m.0 m.2 m.3)
    go false t = refl

pub no-card : (d : ℕ) → has none d ≡ true → ⊥
no-card d p = true≢false (sym p ∙ has-none d)

pub meeting-none : (c : ℕ) → meeting c none ≡ false
meeting-none c = not-meeting c none (λ d p. no-card d)

pub reached-fits : (c : ℕ) (gs : List ℕ) → c < 2 ^ 64 → reached c gs < 2 ^ 64
unfolding reached
reached-fits c [] h = h
reached-fits c (g ∷ gs) h = go (meeting c g) (reached-fits c gs h)
  where
    go : (b : Bool) → reached c gs < 2 ^ 64 → cond b (joined g (reached c gs)) (reached c gs) < 2 ^ 64
    go true l = joined-fits g (reached c gs)
    go false l = l

-- ---- which cards are reached

-- card d is in a group that the cards c meet
abbrev Met : ℕ → List ℕ → ℕ → Type 0
Met c gs d = (k : ℕ) × (meeting c (get_or gs k none) ≡ true) × (has (get_or gs k none) d ≡ true)

module _ (c : ℕ) (fits : c < 2 ^ 64) where
  -- one group more
  reached-more : (g : ℕ) (gs : List ℕ) (d : ℕ) → g < 2 ^ 64
      → has (reached c (g ∷ gs)) d ≡ cond (meeting c g) (has g d || has (reached c gs) d) (has (reached c gs) d)
  unfolding reached
  reached-more g gs d h = go (meeting c g)
    where
      go : (b : Bool) → has (cond b (joined g (reached c gs)) (reached c gs)) d ≡ cond b (has g d || has (reached c gs) d) (has (reached c gs) d)
      go true = has-joined g (reached c gs) d h (reached-fits c gs fits)
      go false = refl

  -- what was reached still is
  reached-still : (g : ℕ) (gs : List ℕ) (d : ℕ) → g < 2 ^ 64 → has (reached c gs) d ≡ true → has (reached c (g ∷ gs)) d ≡ true
  reached-still g gs d h p = reached-more g gs d h ∙ go (meeting c g)
    where
      go : (b : Bool) → cond b (has g d || has (reached c gs) d) (has (reached c gs) d) ≡ true
      go true = ap (λ (x : Bool). has g d || x) p ∙ or-true (has g d)
      go false = p

  -- the task's own cards
  pub reached-own : (gs : List ℕ) (d : ℕ) → Words gs → has c d ≡ true → has (reached c gs) d ≡ true
  unfolding reached
  reached-own [] d w p = p
  reached-own (g ∷ gs) d w p = reached-still g gs d w.0 (reached-own gs d w.1 p)

  -- those of each group that they meet
  pub reached-met : (gs : List ℕ) (k d : ℕ) → Words gs → meeting c (get_or gs k none) ≡ true → has (get_or gs k none) d ≡ true → has (reached c gs) d ≡ true
  reached-met [] k d w m p = absurd (no-card d p)
  reached-met (g ∷ gs) zero d w m p = reached-more g gs d w.0 ∙ rw (m, p)
  reached-met (g ∷ gs) (suc k) d w m p = reached-still g gs d w.0 (reached-met gs k d w.1 m p)

  -- and no others
  pub reached-from : (gs : List ℕ) (d : ℕ) → Words gs → has (reached c gs) d ≡ true → (has c d ≡ true) ⊎ Met c gs d
  unfolding reached
  reached-from [] d w p = inl p
  reached-from (g ∷ gs) d w p = go (meeting c g) refl (sym (reached-more g gs d w.0) ∙ p) (λ q. later (reached-from gs d w.1 q))
    where
      later : (has c d ≡ true) ⊎ Met c gs d → (has c d ≡ true) ⊎ Met c (g ∷ gs) d
      later (inl e) = inl e
      later (inr f) = inr (suc f.0, f.1, f.2)

      go : (b : Bool) → meeting c g ≡ b → cond b (has g d || has (reached c gs) d) (has (reached c gs) d) ≡ true
          → (has (reached c gs) d ≡ true → (has c d ≡ true) ⊎ Met c (g ∷ gs) d) → (has c d ≡ true) ⊎ Met c (g ∷ gs) d
      go true m q more = ⊎_elim (λ e. inr (0, m, e)) more (either (has g d) (has (reached c gs) d) q)
      go false m q more = more q

-- ---- the groups after a task more

-- past the end there is no group, and none is replaced
replaced-at : (c whole : ℕ) (gs : List ℕ) (k : ℕ) → get_or (replaced c whole gs) k none ≡ cond (meeting c (get_or gs k none)) whole (get_or gs k none)
unfolding replaced
replaced-at c whole [] k = rw (meeting-none c)
replaced-at c whole (g ∷ gs) zero = refl
replaced-at c whole (g ∷ gs) (suc k) = replaced-at c whole gs k

replaced-words : (c whole : ℕ) (gs : List ℕ) → whole < 2 ^ 64 → Words gs → Words (replaced c whole gs)
unfolding replaced
replaced-words c whole [] h w = tt
replaced-words c whole (g ∷ gs) h w = (go (meeting c g), replaced-words c whole gs h w.1)
  where
    go : (b : Bool) → cond b whole g < 2 ^ 64
    go true = h
    go false = w.0

pub replaced-length : (c whole : ℕ) (gs : List ℕ) → length (replaced c whole gs) ≡ length gs
unfolding replaced
replaced-length c whole [] = refl
replaced-length c whole (g ∷ gs) = ap suc (replaced-length c whole gs)

pub groups-length : (cs : List ℕ) → length (groups_of cs) ≡ length cs
unfolding groups_of with_task
groups-length [] = refl
groups-length (c ∷ cs) = ap suc (replaced-length c (reached c (groups_of cs)) (groups_of cs) ∙ groups-length cs)

-- what holds of the groups gs of tasks with the cards cs
pub record Grouped (cs gs : List ℕ) : Type 0 where
  pub words : Words gs
  pub own : (k d : ℕ) → Uses cs k d → has (get_or gs k none) d ≡ true
  pub same : (j k d : ℕ) → has (get_or gs j none) d ≡ true → has (get_or gs k none) d ≡ true → get_or gs j none ≡ get_or gs k none
  pub linked : (k d : ℕ) → has (get_or gs k none) d ≡ true → (j : ℕ) × Uses cs j d × Chain cs k j

module _ (c : ℕ) (cs gs : List ℕ) (fits : c < 2 ^ 64) (known : Grouped cs gs) where
  -- a place among the tasks and its group, after the task with the cards c: the new task, one whose group it meets, one whose group it does not
  data Place : ℕ → ℕ → Type 0 where
    new : Place 0 (reached c gs)
    met : {k : ℕ} → meeting c (get_or gs k none) ≡ true → Place (suc k) (reached c gs)
    left : {k : ℕ} → meeting c (get_or gs k none) ≡ false → Place (suc k) (get_or gs k none)

  place : (k : ℕ) → Place k (get_or (with_task c gs) k none)
  unfolding with_task
  place zero = new
  place (suc k) = subst (Place (suc k)) (sym (replaced-at c (reached c gs) gs k)) (go (meeting c (get_or gs k none)) refl)
    where
      go : (b : Bool) → meeting c (get_or gs k none) ≡ b → Place (suc k) (cond b (reached c gs) (get_or gs k none))
      go true m = met m
      go false m = left m

  own_at : {k a : ℕ} → Place k a → (d : ℕ) → Uses (c ∷ cs) k d → has a d ≡ true
  own_at new d p = reached-own c fits gs d known.words p
  own_at (met {k} m) d p = reached-met c fits gs k d known.words m (known.own k d p)
  own_at (left {k} m) d p = known.own k d p

  -- what is reached has no card of a group that is left
  apart : (k d : ℕ) → meeting c (get_or gs k none) ≡ false → has (reached c gs) d ≡ true → has (get_or gs k none) d ≡ true → ⊥
  apart k d m p q = ⊎_elim
      (λ e. true≢false (sym (one-meeting c (get_or gs k none) d fits e q) ∙ m))
      (λ f. true≢false (sym f.1 ∙ ap (meeting c) (known.same f.0 k d f.2 q) ∙ m))
      (reached-from c fits gs d known.words p)

  same_at : {j k a b : ℕ} → Place j a → Place k b → (d : ℕ) → has a d ≡ true → has b d ≡ true → a ≡ b
  same_at new new d p q = refl
  same_at new (met n) d p q = refl
  same_at new (left {k} n) d p q = absurd (apart k d n p q)
  same_at (met m) new d p q = refl
  same_at (met m) (met n) d p q = refl
  same_at (met m) (left {k} n) d p q = absurd (apart k d n p q)
  same_at (left {k} m) new d p q = absurd (apart k d m q p)
  same_at (left {k} m) (met n) d p q = absurd (apart k d m q p)
  same_at (left {k = j} m) (left {k} n) d p q = known.same j k d p q

  -- the new task uses a card with the end of a chain from each task whose group it meets
  chain-to : (k : ℕ) → meeting c (get_or gs k none) ≡ true → Chain (c ∷ cs) 0 (suc k)
  chain-to k m =
      let shared = meeting-one c (get_or gs k none) m in
      let user = known.linked k shared.0 shared.3 in
      onward {j = suc user.0} (shared.0, shared.2, user.1) (back (one_on c user.2))

  abbrev Linked : ℕ → ℕ → Type 0
  Linked k d = (j : ℕ) × Uses (c ∷ cs) j d × Chain (c ∷ cs) k j

  linked-new : (d : ℕ) → has (reached c gs) d ≡ true → Linked 0 d
  linked-new d p = ⊎_elim (λ e. (0, e, alone)) (λ f. further f.0 f.1 (known.linked f.0 d f.2)) (reached-from c fits gs d known.words p)
    where
      further : (k : ℕ) → meeting c (get_or gs k none) ≡ true → (j : ℕ) × Uses cs j d × Chain cs k j → Linked 0 d
      further k m user = (suc user.0, user.1, and_then (chain-to k m) (one_on c user.2))

  linked-at : {k a : ℕ} → Place k a → (d : ℕ) → has a d ≡ true → Linked k d
  linked-at new d p = linked-new d p
  linked-at (met {k} m) d p = let user = linked-new d p in (user.0, user.1, and_then (back (chain-to k m)) user.2)
  linked-at (left {k} m) d p = let user = known.linked k d p in (suc user.0, user.1, one_on c user.2)

  one_more : Grouped (c ∷ cs) (with_task c gs)
  one_more = record {
    words = unfold with_task in (reached-fits c gs fits, replaced-words c (reached c gs) gs (reached-fits c gs fits) known.words);
    own = λ k. own_at (place k);
    same = λ j k. same_at (place j) (place k);
    linked = λ k. linked-at (place k);
  }

pub are-grouped : (cs : List ℕ) → Words cs → Grouped cs (groups_of cs)
unfolding groups_of
are-grouped [] w = record {
  words = tt;
  own = λ k d p. p;
  same = λ j k d p q. refl;
  linked = λ k d p. absurd (no-card d p);
}
are-grouped (c ∷ cs) w = one_more c cs (groups_of cs) w.0 (are-grouped cs w.1)

-- ---- chains and groups

module _ (cs : List ℕ) (words : Words cs) where
  chain_same : {i j : ℕ} → Chain cs i j → get_or (groups_of cs) i none ≡ get_or (groups_of cs) j none
  chain_same alone = refl
  chain_same (onward {i} {j} s v) =
      (are-grouped cs words).same i j s.0 ((are-grouped cs words).own i s.0 s.1) ((are-grouped cs words).own j s.0 s.2) ∙ chain_same v

  -- a task with a card meets each group at the end of a chain
  pub chain-meets : {i j : ℕ} (d : ℕ) → Uses cs i d → Chain cs i j → meeting (get_or (groups_of cs) i none) (get_or (groups_of cs) j none) ≡ true
  chain-meets {i} {j} d p v =
      let own = (are-grouped cs words).own i d p in
      one-meeting (get_or (groups_of cs) i none) (get_or (groups_of cs) j none) d (word_at (groups_of cs) (are-grouped cs words).words i) own
      (ap (λ (g : ℕ). has g d) (sym (chain_same v)) ∙ own)

  pub meets-chain : (i j : ℕ) → meeting (get_or (groups_of cs) i none) (get_or (groups_of cs) j none) ≡ true → Chain cs i j
  meets-chain i j m =
      let shared = meeting-one (get_or (groups_of cs) i none) (get_or (groups_of cs) j none) m in
      let one = (are-grouped cs words).linked i shared.0 shared.2 in
      let other = (are-grouped cs words).linked j shared.0 shared.3 in
      and_then one.2 (onward (shared.0, one.1, other.1) (back other.2))

  -- the group of a task without cards has none
  pub group-none : (i : ℕ) → UsesNone cs i → (d : ℕ) → has (get_or (groups_of cs) i none) d ≡ true → ⊥
  group-none i e d p =
      let user = (are-grouped cs words).linked i d p in
      true≢false (sym user.1 ∙ ap (λ (j : ℕ). has (get_or cs j none) d) (sym (from-none e user.2)) ∙ e d)

  pub together : {i j : ℕ} → Chain cs i j → in_one_group (groups_of cs) i j ≡ true
  unfolding in_one_group
  together (alone {i}) = ap (λ (b : Bool). b || meeting (get_or (groups_of cs) i none) (get_or (groups_of cs) i none)) (eq-eqb i i refl)
  together (onward {i} {k} s v) = ap (λ (b : Bool). eqb i k || b) (chain-meets s.0 s.1 (onward s v)) ∙ or-true (eqb i k)

  pub no_others : (i j : ℕ) → in_one_group (groups_of cs) i j ≡ true → Chain cs i j
  unfolding in_one_group
  no_others i j e =
      ⊎_elim (λ t. subst (Chain cs i) (eqb-true i j t) alone) (meets-chain i j)
      (either (eqb i j) (meeting (get_or (groups_of cs) i none) (get_or (groups_of cs) j none)) e)

  -- the group of a task has each card that is used at the end of a chain
  pub chain-has : (i j d : ℕ) → Chain cs i j → Uses cs j d → has (get_or (groups_of cs) i none) d ≡ true
  chain-has i j d v p = ap (λ (g : ℕ). has g d) (chain_same v) ∙ (are-grouped cs words).own j d p

  -- and no other
  pub has-chain : (i d : ℕ) → has (get_or (groups_of cs) i none) d ≡ true → (j : ℕ) × (j < length cs) × Chain cs i j × Uses cs j d
  has-chain i d p = let user = (are-grouped cs words).linked i d p in (user.0, used-within cs user.0 d user.1, user.2, user.1)
