-- The laws of joining and meeting over any number of words.
use mathlib.Core.Path.{◌≡◌, refl, sym, ap, ◌∙◌}
use mathlib.Core.Bool.{Bool, true, false, ◌||◌, true≢false}
use mathlib.Core.List.{List, [], ◌∷◌}
use Prim.Native.Nat.{ℕ, zero, suc, ◌+◌, ◌*◌, ◌/◌, ◌%◌, ◌<◌}
use native.Mathlib.Omega.{arith}
use lib.ListN.{get_or}
use Rattle.objset.specs.Objset.{has, meeting}
use Rattle.objset.specs.Words.{Words, has_in, joined_all, meeting_all}
use Rattle.objset.proofs.Digits.{has-zero}
use Rattle.objset.proofs.Laws.{has-joined, meeting-one, one-meeting}

or-false : (b : Bool) → b ≡ (b || false)
or-false true = refl
or-false false = refl

at_joined : (xs ys : List ℕ) (w d : ℕ) → Words xs → Words ys → has (get_or (joined_all xs ys) w 0) d ≡ (has (get_or xs w 0) d || has (get_or ys w 0) d)
unfolding joined_all
at_joined [] ys w d ha hb = ap (λ (b : Bool). b || has (get_or ys w 0) d) (sym (has-zero d))
at_joined (x ∷ xs) [] w d ha hb = or-false (has (get_or (x ∷ xs) w 0) d) ∙ ap (λ (b : Bool). has (get_or (x ∷ xs) w 0) d || b) (sym (has-zero d))
at_joined (x ∷ xs) (y ∷ ys) zero d ha hb = has-joined x y d ha.0 hb.0
at_joined (x ∷ xs) (y ∷ ys) (suc w) d ha hb = at_joined xs ys w d ha.1 hb.1

-- an object is in the union if and only if it is in one of the two
pub has-joined_all : (xs ys : List ℕ) (d : ℕ) → Words xs → Words ys → has_in (joined_all xs ys) d ≡ (has_in xs d || has_in ys d)
unfolding has_in
has-joined_all xs ys d ha hb = at_joined xs ys (d / 64) (d % 64) ha hb

-- the word and the place of a common object
pub record Common (xs ys : List ℕ) : Type 0 where
  pub word : ℕ
  pub place : ℕ
  pub small : place < 64
  pub left : has (get_or xs word 0) place ≡ true
  pub right : has (get_or ys word 0) place ≡ true

at-meeting : (xs ys : List ℕ) → meeting_all xs ys ≡ true → Common xs ys
unfolding meeting_all
at-meeting [] ys e = absurd (true≢false (sym e))
at-meeting (x ∷ xs) [] e = absurd (true≢false (sym e))
at-meeting (x ∷ xs) (y ∷ ys) e = go (meeting x y) refl e (at-meeting xs ys)
  where
    go : (m : Bool) → meeting x y ≡ m → (m || meeting_all xs ys) ≡ true → (meeting_all xs ys ≡ true → Common xs ys)
        → Common (x ∷ xs) (y ∷ ys)
    go true t u more = let m = meeting-one x y t in record { word = 0; place = m.0; small = m.1; left = m.2; right = m.3 }
    go false t u more = let m = more u in record { word = suc m.word; place = m.place; small = m.small; left = m.left; right = m.right }

-- two sets meet if and only if some object is in both
pub meeting_all-one : (xs ys : List ℕ) → meeting_all xs ys ≡ true → (d : ℕ) × (has_in xs d ≡ true) × (has_in ys d ≡ true)
unfolding has_in
meeting_all-one xs ys e =
    let m = at-meeting xs ys e in
    let q : (m.word * 64 + m.place) / 64 ≡ m.word = omega (arith, m.small) in
    let r : (m.word * 64 + m.place) % 64 ≡ m.place = omega (arith, m.small) in
    (m.word * 64 + m.place, rw (q, r) m.left, rw (q, r) m.right)

at_both : (xs ys : List ℕ) (w d : ℕ) → Words xs → has (get_or xs w 0) d ≡ true → has (get_or ys w 0) d ≡ true → meeting_all xs ys ≡ true
unfolding meeting_all
at_both [] ys w d ha p q = absurd (true≢false (sym p ∙ has-zero d))
at_both (x ∷ xs) [] w d ha p q = absurd (true≢false (sym q ∙ has-zero d))
at_both (x ∷ xs) (y ∷ ys) zero d ha p q = ap (λ (b : Bool). b || meeting_all xs ys) (one-meeting x y d ha.0 p q)
at_both (x ∷ xs) (y ∷ ys) (suc w) d ha p q = ap (λ (b : Bool). meeting x y || b) (at_both xs ys w d ha.1 p q) ∙ or-true (meeting x y)
  where
    or-true : (x : Bool) → (x || true) ≡ true
    or-true true = refl
    or-true false = refl

pub one-meeting_all : (xs ys : List ℕ) (d : ℕ) → Words xs → has_in xs d ≡ true → has_in ys d ≡ true → meeting_all xs ys ≡ true
unfolding has_in
one-meeting_all xs ys d ha p q = at_both xs ys (d / 64) (d % 64) ha p q
