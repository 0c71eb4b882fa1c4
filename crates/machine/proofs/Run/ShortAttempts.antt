-- A computed test that no attempt has more than L reads and writes, at any moment of a list.
use Rattle.std.proofs.Common.{◌≡◌, ℕ, ◌<◌, ◌≤◌, Bool, true, ◌&&◌, ltb, leb, List, [], ◌∷◌, ◌++◌, length, refl, ltb-true, leb-true}
use Rattle.objset.specs.Objset.{each}
use Rattle.objset.proofs.Laws.{both_left, both_right, each-one}
use Rattle.machine.specs.Words.{Deed, begins, reads, writes, waits, commits, told, gives, other, begins_on, in_progress, born, attempt}
use Rattle.machine.specs.Rounds.{among, AtMost}
use Rattle.machine.proofs.Run.Births.{clash, Going, begun, kept, going, begun-is}

-- the core of a begin; 0 for any other deed
unfoldable pub core_begun : Deed → ℕ
core_begun (begins b) = b
core_begun (reads b d v) = 0
core_begun (writes b d v) = 0
core_begun (waits b e) = 0
core_begun (commits b n) = 0
core_begun (told b) = 0
core_begun (gives b) = 0
core_begun other = 0

-- every begin of the list is on one of the first n cores
unfoldable pub begun_below : ℕ → List Deed → Bool
begun_below n [] = true
begun_below n (x ∷ h) = ltb (core_begun x) n && begun_below n h

begun-below : (n : ℕ) (x : Deed) (b : ℕ) → ltb (core_begun x) n ≡ true → begins_on x b ≡ true → b < n
unfolding core_begun
begun-below n x b e q = let here = begun-is x b q in ltb-true b n (rw here at e)

going-below : (n : ℕ) (h : List Deed) → begun_below n h ≡ true → (b : ℕ) → in_progress h b ≡ true → b < n
unfolding in_progress begun_below
going-below n [] e b p = clash p refl
going-below n (x ∷ h) e b p = go (going x h b p) (going-below n h (both_right (ltb (core_begun x) n) (begun_below n h) e) b)
  where
    go : Going x h b → (in_progress h b ≡ true → b < n) → b < n
    go (begun q) more = begun-below n x b (both_left (ltb (core_begun x) n) (begun_below n h) e) q
    go (kept q f r) more = more r

-- no attempt on the first n cores has more than l reads and writes
unfoldable pub short : ℕ → ℕ → List Deed → Bool
short n l h = begun_below n h && each n (λ b. leb (length (attempt h b)) l)

unfoldable pub all_short : ℕ → ℕ → List Deed → List Deed → Bool
all_short n l start [] = short n l start
all_short n l start (x ∷ since) = short n l (x ∷ since ++ start) && all_short n l start since

is-short : (n l t : ℕ) (h : List Deed) → short n l h ≡ true → (b : ℕ) → among t h b ≡ true → length (attempt h b) ≤ l
unfolding short among
is-short n l t h e b p =
    let f : ℕ → Bool = λ b. leb (length (attempt h b)) l in
    let on = going-below n h (both_left (begun_below n h) (each n f) e) b (both_left (in_progress h b) (leb (born h b) t) p) in
    leb-true (length (attempt h b)) l (each-one n f (both_right (begun_below n h) (each n f) e) b on)

pub at_most : (n l t : ℕ) (start since : List Deed) → all_short n l start since ≡ true → AtMost l t start since
unfolding all_short
at_most n l t start [] e = is-short n l t start e
at_most n l t start (x ∷ since) e =
    let now = short n l (x ∷ since ++ start) in (
      is-short n l t (x ∷ since ++ start) (both_left now (all_short n l start since) e),
      at_most n l t start since (both_right now (all_short n l start since) e),
    )
