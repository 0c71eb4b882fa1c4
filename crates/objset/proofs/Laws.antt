-- What callers may use of the definitions of specs/Objset.antt: every law speaks of membership alone.
-- A set is a word below 2 to the power 64, as each u64 is.
use mathlib.Core.Path.{◌≡◌, refl, sym, ap, ap₂, ◌∙◌}
use mathlib.Core.Bool.{Bool, true, false, cond, not, ◌&&◌, ◌||◌, or-true, true≢false}
use Prim.Native.Nat.{ℕ, zero, suc, ◌^◌, ◌≤◌, ◌<◌}
use native.Mathlib.Omega.{arith}
use lib.Dec.{eqb, ltb}
use borrow.Author.Tests.{ltb-true, ltb-false, lt-ltb, eqb-true, eqb-false, ne_eqb, not-true, not-false}
use Rattle.std.specs.Prelude.{Option, None, Some}
use Rattle.std.specs.Option.{is_some, option_map, unwrap_or}
use Rattle.objset.specs.Objset.{has, collect, some, each, first_passing, none, is_empty, first_object, added, removed, joined, meeting, below}
use Rattle.objset.proofs.Digits.{has-past, same_digits, collect-fits, has-collect}

-- ---- tests over the first n objects

pub both_left : (a b : Bool) → (a && b) ≡ true → a ≡ true
both_left true b e = refl
both_left false b e = e

pub both_right : (a b : Bool) → (a && b) ≡ true → b ≡ true
both_right true b e = e
both_right false b e = absurd (true≢false (sym e))

implied : (a b : Bool) → (not a || b) ≡ true → a ≡ true → b ≡ true
implied true b e p = e
implied false b e p = absurd (true≢false (sym p))

implies : (a b : Bool) → (a ≡ true → b ≡ true) → (not a || b) ≡ true
implies true b h = h refl
implies false b h = refl

or-false : (a : Bool) → (a || false) ≡ a
or-false true = refl
or-false false = refl

and_comm : (a b : Bool) → (a && b) ≡ (b && a)
and_comm true true = refl
and_comm true false = refl
and_comm false true = refl
and_comm false false = refl

none≢some : (d : ℕ) → None ≡ Some d → ⊥
none≢some d e = true≢false (sym (ap is_some e))

some_same : (d e : ℕ) → Some d ≡ Some e → d ≡ e
some_same d e p = ap (λ (o : Option ℕ). unwrap_or o 0) p

-- if one of the first n objects passes, that one can be named
pub some_one : (n : ℕ) (f : ℕ → Bool) → some n f ≡ true → (d : ℕ) × (d < n) × (f d ≡ true)
unfolding some
some_one zero f e = absurd (true≢false (sym e))
some_one (suc n) f e = go (f n) refl e (some_one n f)
  where
    go : (b : Bool) → f n ≡ b → (b || some n f) ≡ true → (some n f ≡ true → (d : ℕ) × (d < n) × (f d ≡ true)) → (d : ℕ) × (d < suc n) × (f d ≡ true)
    go true p q more = (n, omega arith, p)
    go false p q more = let m = more q in (m.0, omega arith, m.2)

-- an object below n that passes shows that one does
pub one-some : (n : ℕ) (f : ℕ → Bool) (d : ℕ) → d < n → f d ≡ true → some n f ≡ true
unfolding some
one-some zero f d h e = absurd (omega arith)
one-some (suc n) f d h e = go (f n) refl (eqb d n) refl (λ l. one-some n f d l e)
  where
    go : (b : Bool) → f n ≡ b → (q : Bool) → eqb d n ≡ q → (d < n → some n f ≡ true) → (b || some n f) ≡ true
    go true p q t more = refl
    go false p true t more = absurd (true≢false (sym e ∙ ap f (eqb-true d n t) ∙ p))
    go false p false t more = more (omega (arith, eqb-false d n t))

-- each of the first n objects passes, so this one does
pub each-one : (n : ℕ) (f : ℕ → Bool) → each n f ≡ true → (d : ℕ) → d < n → f d ≡ true
unfolding each
each-one zero f e d h = absurd (omega arith)
each-one (suc n) f e d h = go (eqb d n) refl (each-one n f (both_right (f n) (each n f) e) d)
  where
    go : (q : Bool) → eqb d n ≡ q → (d < n → f d ≡ true) → f d ≡ true
    go true t more = ap f (eqb-true d n t) ∙ both_left (f n) (each n f) e
    go false t more = more (omega (arith, eqb-false d n t))

-- if every object below n passes, the test over all of them does
pub one_each : (n : ℕ) (f : ℕ → Bool) → ((d : ℕ) → d < n → f d ≡ true) → each n f ≡ true
unfolding each
one_each zero f h = refl
one_each (suc n) f h = ap₂ ◌&&◌ (h n (omega arith)) (one_each n f (λ d l. h d (omega arith)))

-- the first that passes is one of the first n objects and passes, and none before it does
first-within : (n : ℕ) (f : ℕ → Bool) (d : ℕ) → first_passing n f ≡ Some d → d < n
unfolding first_passing
first-within zero f d e = absurd (none≢some d e)
first-within (suc n) f d e = go (f 0) (first_passing n (λ x. f (suc x))) e (first-within n (λ x. f (suc x)))
  where
    go : (b : Bool) (r : Option ℕ) → cond b (Some 0) (option_map suc r) ≡ Some d → ((k : ℕ) → r ≡ Some k → k < n) → d < suc n
    go true r e more = omega (arith, some_same 0 d e)
    go false None e more = absurd (none≢some d e)
    go false (Some k) e more = omega (arith, some_same (suc k) d e, more k refl)

first_passes : (n : ℕ) (f : ℕ → Bool) (d : ℕ) → first_passing n f ≡ Some d → f d ≡ true
unfolding first_passing
first_passes zero f d e = absurd (none≢some d e)
first_passes (suc n) f d e = go (f 0) refl (first_passing n (λ x. f (suc x))) e (first_passes n (λ x. f (suc x)))
  where
    go : (b : Bool) → f 0 ≡ b → (r : Option ℕ) → cond b (Some 0) (option_map suc r) ≡ Some d
        → ((k : ℕ) → r ≡ Some k → f (suc k) ≡ true) → f d ≡ true
    go true p r e more = ap f (sym (some_same 0 d e)) ∙ p
    go false p None e more = absurd (none≢some d e)
    go false p (Some k) e more = ap f (sym (some_same (suc k) d e)) ∙ more k refl

first-before : (n : ℕ) (f : ℕ → Bool) (d : ℕ) → first_passing n f ≡ Some d → (e : ℕ) → e < d → f e ≡ false
unfolding first_passing
first-before zero f d p e h = absurd (none≢some d p)
first-before (suc n) f d p e h = go (f 0) refl (first_passing n (λ x. f (suc x))) p (first-before n (λ x. f (suc x))) e h
  where
    go : (b : Bool) → f 0 ≡ b → (r : Option ℕ) → cond b (Some 0) (option_map suc r) ≡ Some d
        → ((k : ℕ) → r ≡ Some k → (e : ℕ) → e < k → f (suc e) ≡ false) → (e : ℕ) → e < d → f e ≡ false
    go true q r p more e h = absurd (omega (arith, some_same 0 d p))
    go false q None p more e h = absurd (none≢some d p)
    go false q (Some k) p more zero h = q
    go false q (Some k) p more (suc e) h = more k refl e (omega (arith, some_same (suc k) d p))

-- where there is no first that passes, none of the first n does
none_passes : (n : ℕ) (f : ℕ → Bool) → first_passing n f ≡ None → (d : ℕ) → d < n → f d ≡ false
unfolding first_passing
none_passes zero f p d h = absurd (omega arith)
none_passes (suc n) f p d h = go (f 0) refl (first_passing n (λ x. f (suc x))) p (none_passes n (λ x. f (suc x))) d h
  where
    go : (b : Bool) → f 0 ≡ b → (r : Option ℕ) → cond b (Some 0) (option_map suc r) ≡ None
        → (r ≡ None → (d : ℕ) → d < n → f (suc d) ≡ false) → (d : ℕ) → d < suc n → f d ≡ false
    go true q r p more d h = absurd (none≢some 0 (sym p))
    go false q (Some k) p more d h = absurd (none≢some (suc k) (sym p))
    go false q None p more zero h = q
    go false q None p more (suc d) h = more refl d (omega arith)

-- ---- sets are known by their members

pub same-members : (a b : ℕ) → a < 2 ^ 64 → b < 2 ^ 64 → ((d : ℕ) → d < 64 → has a d ≡ has b d) → a ≡ b
same-members a b = same_digits 64 a b

-- no object from 64 on is in a set
pub has-outside : (s d : ℕ) → s < 2 ^ 64 → 64 ≤ d → has s d ≡ false
has-outside s d = has-past s 64 d

-- an object in a set is below 64
pub member-bound : (s d : ℕ) → s < 2 ^ 64 → has s d ≡ true → d < 64
member-bound s d h e = go (ltb d 64) refl
  where
    go : (b : Bool) → ltb d 64 ≡ b → d < 64
    go true t = ltb-true d 64 t
    go false t = absurd (true≢false (sym e ∙ has-outside s d h (ltb-false d 64 t)))

-- ---- the empty set, one object more, two sets together

pub has-none : (d : ℕ) → has none d ≡ false
unfolding none
has-none d = has-collect 64 d (λ e. false) ∙ go (ltb d 64)
  where
    go : (b : Bool) → (b && false) ≡ false
    go true = refl
    go false = refl

pub none-zero : none ≡ 0
unfolding none collect
none-zero = refl

-- a set that is not empty holds an object, and one that holds an object is not empty
pub filled-one : (s : ℕ) → is_empty s ≡ false → (d : ℕ) × (d < 64) × (has s d ≡ true)
unfolding is_empty
filled-one s e = some_one 64 (has s) (not-false (some 64 (has s)) e)

pub one-filled : (s d : ℕ) → d < 64 → has s d ≡ true → is_empty s ≡ false
unfolding is_empty
one-filled s d l p = ap not (one-some 64 (has s) d l p)

-- no object is in an empty set, and there is one empty set
pub empty-has : (s d : ℕ) → s < 2 ^ 64 → is_empty s ≡ true → has s d ≡ false
empty-has s d hs e = go (has s d) refl
  where
    go : (b : Bool) → has s d ≡ b → b ≡ false
    go true p = sym e ∙ one-filled s d (member-bound s d hs p) p
    go false p = refl

has-empty : (s : ℕ) → ((d : ℕ) → has s d ≡ false) → is_empty s ≡ true
has-empty s h = go (is_empty s) refl
  where
    go : (b : Bool) → is_empty s ≡ b → b ≡ true
    go true t = refl
    go false t = let m = filled-one s t in sym (h m.0) ∙ m.2

pub none-empty : is_empty none ≡ true
none-empty = has-empty none has-none

pub none-fits : none < 2 ^ 64
unfolding none
none-fits = collect-fits 64 (λ e. false)

pub empty-none : (s : ℕ) → s < 2 ^ 64 → is_empty s ≡ true → s ≡ none
empty-none s hs e = same-members s none hs none-fits (λ d l. empty-has s d hs e ∙ sym (has-none d))

-- a collection over a test that no object from 64 on passes
whole : (f : ℕ → Bool) → ((d : ℕ) → 64 ≤ d → f d ≡ false) → (d : ℕ) → has (collect 64 f) d ≡ f d
whole f h d = has-collect 64 d f ∙ go (ltb d 64) refl
  where
    go : (b : Bool) → ltb d 64 ≡ b → (b && f d) ≡ f d
    go true t = refl
    go false t = sym (h d (ltb-false d 64 t))

pub has-added : (s d e : ℕ) → s < 2 ^ 64 → d < 64 → has (added s d) e ≡ (has s e || eqb e d)
unfolding added
has-added s d e hs hd =
    whole (λ x. has s x || eqb x d) (λ x l. ap₂ ◌||◌ (has-outside s x hs l) (ne_eqb x d (λ p. omega arith))) e

pub has-joined : (a b d : ℕ) → a < 2 ^ 64 → b < 2 ^ 64 → has (joined a b) d ≡ (has a d || has b d)
unfolding joined
has-joined a b d ha hb =
    whole (λ x. has a x || has b x) (λ x l. ap₂ ◌||◌ (has-outside a x ha l) (has-outside b x hb l)) d

pub added-fits : (s d : ℕ) → added s d < 2 ^ 64
unfolding added
added-fits s d = collect-fits 64 (λ e. has s e || eqb e d)

pub joined-fits : (a b : ℕ) → joined a b < 2 ^ 64
unfolding joined
joined-fits a b = collect-fits 64 (λ e. has a e || has b e)

-- the union is empty if and only if both sets are
pub joined-empty : (a b : ℕ) → is_empty (joined a b) ≡ (is_empty a && is_empty b)
unfolding joined
joined-empty a b = go (is_empty a) refl (is_empty b) refl
  where
    at : (d : ℕ) → d < 64 → has (joined a b) d ≡ (has a d || has b d)
    at d l = has-collect 64 d (λ e. has a e || has b e) ∙ rw (lt-ltb d 64 l) refl

    filled : (d : ℕ) → d < 64 → (has a d || has b d) ≡ true → is_empty (joined a b) ≡ false
    filled d l p = one-filled (joined a b) d l (at d l ∙ p)

    -- an object in the union of two empty sets
    nowhere : (d : ℕ) → d < 64 → has (joined a b) d ≡ true → is_empty a ≡ true → is_empty b ≡ true → ⊥
    nowhere d l p t u = go (has a d) refl (sym (at d l) ∙ p)
      where
        go : (q : Bool) → has a d ≡ q → (q || has b d) ≡ true → ⊥
        go true here e = true≢false (sym t ∙ one-filled a d l here)
        go false here e = true≢false (sym u ∙ one-filled b d l e)

    go : (p : Bool) → is_empty a ≡ p → (q : Bool) → is_empty b ≡ q → is_empty (joined a b) ≡ (p && q)
    go true t true u = empty (is_empty (joined a b)) refl
      where
        empty : (r : Bool) → is_empty (joined a b) ≡ r → r ≡ true
        empty true e = refl
        empty false e = let m = filled-one (joined a b) e in absurd (nowhere m.0 m.1 m.2 t u)
    go true t false u = let m = filled-one b u in filled m.0 m.1 (ap (◌||◌ (has a m.0)) m.2 ∙ or-true (has a m.0))
    go false t q u = let m = filled-one a t in filled m.0 m.1 (ap (λ (x : Bool). x || has b m.0) m.2)

-- an object of 64 or more cannot be added
pub added-outside : (s d : ℕ) → s < 2 ^ 64 → 64 ≤ d → added s d ≡ s
unfolding added
added-outside s d hs hd =
    same-members (added s d) s (added-fits s d) hs
    (λ e l. has-collect 64 e (λ x. has s x || eqb x d) ∙ rw (lt-ltb e 64 l, ne_eqb e d (λ p. omega arith)) (or-false (has s e)))

pub has-removed : (s d e : ℕ) → s < 2 ^ 64 → has (removed s d) e ≡ (has s e && not (eqb e d))
unfolding removed
has-removed s d e hs = whole (λ x. has s x && not (eqb x d)) (λ x l. ap (λ (b : Bool). b && not (eqb x d)) (has-outside s x hs l)) e

pub removed-fits : (s d : ℕ) → removed s d < 2 ^ 64
unfolding removed
removed-fits s d = collect-fits 64 (λ e. has s e && not (eqb e d))

-- ---- the first object

-- it is in the set, and no object before it is
pub first_member : (s d : ℕ) → first_object s ≡ Some d → has s d ≡ true
unfolding first_object
first_member s = first_passes 64 (has s)

pub first-least : (s d : ℕ) → first_object s ≡ Some d → (e : ℕ) → e < d → has s e ≡ false
unfolding first_object
first-least s = first-before 64 (has s)

-- there is none if and only if the set is empty
pub no_first : (s : ℕ) → s < 2 ^ 64 → first_object s ≡ None → is_empty s ≡ true
unfolding first_object
no_first s hs e = has-empty s (λ d. go d (ltb d 64) refl)
  where
    go : (d : ℕ) (b : Bool) → ltb d 64 ≡ b → has s d ≡ false
    go d true t = none_passes 64 (has s) e d (ltb-true d 64 t)
    go d false t = has-outside s d hs (ltb-false d 64 t)

pub first-none : (s : ℕ) → is_empty s ≡ true → first_object s ≡ None
unfolding first_object
first-none s e = go (first_object s) refl
  where
    go : (r : Option ℕ) → first_object s ≡ r → r ≡ None
    go None p = refl
    go (Some d) p = absurd (true≢false (sym e ∙ one-filled s d (first-within 64 (has s) d p) (first_member s d p)))

-- once it is taken out, the first object that is left is a later one
pub first_next : (s d e : ℕ) → s < 2 ^ 64 → first_object s ≡ Some d → first_object (removed s d) ≡ Some e → d < e
first_next s d e hs p q = later (ltb d e) refl
  where
    -- an object that is left: of s, and another than d
    here : (has s e && not (eqb e d)) ≡ true
    here = sym (has-removed s d e hs) ∙ first_member (removed s d) e q

    later : (b : Bool) → ltb d e ≡ b → d < e
    later true t = ltb-true d e t
    later false t =
        let other = eqb-false e d (not-true (eqb e d) (both_right (has s e) (not (eqb e d)) here)) in
        absurd (true≢false (sym (both_left (has s e) (not (eqb e d)) here) ∙ first-least s d p e (omega (arith, other, ltb-false d e t))))

-- ---- meeting

-- two sets meet if and only if some object is in both
pub meeting-one : (a b : ℕ) → meeting a b ≡ true → (d : ℕ) × (d < 64) × (has a d ≡ true) × (has b d ≡ true)
unfolding meeting
meeting-one a b e =
    let m = some_one 64 (λ x. has a x && has b x) e in
    (m.0, m.1, both_left (has a m.0) (has b m.0) m.2, both_right (has a m.0) (has b m.0) m.2)

pub one-meeting : (a b d : ℕ) → a < 2 ^ 64 → has a d ≡ true → has b d ≡ true → meeting a b ≡ true
unfolding meeting
one-meeting a b d ha p q = one-some 64 (λ x. has a x && has b x) d (member-bound a d ha p) (ap₂ ◌&&◌ p q)

-- an empty set meets no set
pub empty-meeting : (a b : ℕ) → is_empty a ≡ true → meeting a b ≡ false
empty-meeting a b e = go (meeting a b) refl
  where
    go : (q : Bool) → meeting a b ≡ q → q ≡ false
    go true t = let m = meeting-one a b t in sym e ∙ one-filled a m.0 m.1 m.2
    go false t = refl

pub none-meeting : (b : ℕ) → meeting none b ≡ false
none-meeting b = empty-meeting none b none-empty

-- ---- within the first n objects

pub below-member : (s n d : ℕ) → s < 2 ^ 64 → below s n ≡ true → has s d ≡ true → d < n
unfolding below
below-member s n d hs e p =
    ltb-true d n (implied (has s d) (ltb d n) (each-one 64 (λ x. not (has s x) || ltb x n) e d (member-bound s d hs p)) p)

pub member_below : (s n : ℕ) → ((d : ℕ) → has s d ≡ true → d < n) → below s n ≡ true
unfolding below
member_below s n h =
    one_each 64 (λ x. not (has s x) || ltb x n) (λ d l. implies (has s d) (ltb d n) (λ p. lt-ltb d n (h d p)))
