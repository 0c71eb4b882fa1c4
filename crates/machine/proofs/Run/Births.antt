-- What a deed changes of a transaction in progress: it goes on with its number, unless the deed is its begin or its end.
use Rattle.std.proofs.Common.{◌≡◌, ℕ, suc, ◌<◌, ◌≤◌, Bool, true, false, cond, List, [], ◌∷◌, ◌++◌, sym, refl, ◌∙◌, true≢false, arith, eqb-true}
use Rattle.machine.specs.Words.{Deed, begins, reads, writes, waits, commits, told, gives, other, begins_on, ends_on, in_progress, births, born}
use Rattle.machine.proofs.Run.Orderly.{Orderly, Allowed}

-- a test does not both pass and fail
pub clash : {A : Type 0} {b : Bool} → b ≡ true → b ≡ false → A
clash p q = absurd (true≢false (sym p ∙ q))

-- ---- a begin

pub begun-is : (x : Deed) (c : ℕ) → begins_on x c ≡ true → x ≡ begins c
begun-is (begins b) c e = rw (eqb-true b c e)
begun-is (reads b d v) c e = clash e refl
begun-is (writes b d v) c e = clash e refl
begun-is (waits b d) c e = clash e refl
begun-is (commits b n) c e = clash e refl
begun-is (told b) c e = clash e refl
begun-is (gives b) c e = clash e refl
begun-is other c e = clash e refl

-- a begin finds none in progress on its core
pub begun-allowed : (o : ℕ) (x : Deed) (h : List Deed) (c : ℕ) → begins_on x c ≡ true → Allowed o x h → (c < 16) × (in_progress h c ≡ false)
begun-allowed o x h c e p = rw (begun-is x c e) at p

-- so a deed is no begin where one is in progress
pub going-not-begun : (o : ℕ) (x : Deed) (h : List Deed) (c : ℕ) → Allowed o x h → in_progress h c ≡ true → begins_on x c ≡ false
going-not-begun o x h c a p = go (begins_on x c) refl
  where
    go : (b : Bool) → begins_on x c ≡ b → b ≡ false
    go true e = clash p (begun-allowed o x h c e a).1
    go false e = refl

pub births-begun : (x : Deed) (h : List Deed) (c : ℕ) → begins_on x c ≡ true → births (x ∷ h) ≡ suc (births h)
unfolding births
births-begun x h c e = rw (begun-is x c e) (omega arith)

pub births-grow : (x : Deed) (h : List Deed) → births h ≤ births (x ∷ h)
unfolding births
births-grow x h = omega arith

pub births-late : (late early : List Deed) → births early ≤ births (late ++ early)
births-late [] early = omega arith
births-late (x ∷ late) early = omega (arith, births-grow x (late ++ early), births-late late early)

pub born-begun : (x : Deed) (h : List Deed) (c : ℕ) → begins_on x c ≡ true → born (x ∷ h) c ≡ births h
unfolding born
born-begun x h c e = rw e

pub born-kept : (x : Deed) (h : List Deed) (c : ℕ) → begins_on x c ≡ false → born (x ∷ h) c ≡ born h c
unfolding born
born-kept x h c e = rw e

-- ---- in progress after a deed

-- how a transaction comes to be in progress on core c after the deed x
pub data Going (x : Deed) (h : List Deed) (c : ℕ) : Type 0 where
  begun : begins_on x c ≡ true → Going x h c
  kept : begins_on x c ≡ false → ends_on x c ≡ false → in_progress h c ≡ true → Going x h c

pub going : (x : Deed) (h : List Deed) (c : ℕ) → in_progress (x ∷ h) c ≡ true → Going x h c
unfolding in_progress
going x h c p = go (begins_on x c) (ends_on x c) refl refl p
  where
    go : (b e : Bool) → begins_on x c ≡ b → ends_on x c ≡ e → cond b true (cond e false (in_progress h c)) ≡ true → Going x h c
    go true e q r s = begun q
    go false true q r s = clash s refl
    go false false q r s = kept q r s

pub going_on : (x : Deed) (h : List Deed) (c : ℕ) → ends_on x c ≡ false → in_progress h c ≡ true → in_progress (x ∷ h) c ≡ true
unfolding in_progress
going_on x h c e p = go (begins_on x c)
  where
    go : (b : Bool) → cond b true (cond (ends_on x c) false (in_progress h c)) ≡ true
    go true = refl
    go false = rw e p

pub ended : (x : Deed) (h : List Deed) (c : ℕ) → ends_on x c ≡ true → in_progress (x ∷ h) c ≡ false
unfolding in_progress
ended x h c e = go (begins_on x c) refl
  where
    go : (b : Bool) → begins_on x c ≡ b → cond b true (cond (ends_on x c) false (in_progress h c)) ≡ false
    go true f = clash e (rw (begun-is x c f))
    go false f = rw e

-- one in progress was begun, so its number is below the count of begins
pub born-below : (h : List Deed) (c : ℕ) → in_progress h c ≡ true → born h c < births h
unfolding in_progress
born-below [] c p = clash p refl
born-below (x ∷ h) c p = go (going x h c p) (born-below h c)
  where
    go : Going x h c → (in_progress h c ≡ true → born h c < births h) → born (x ∷ h) c < births (x ∷ h)
    go (begun e) rest = omega (arith, born-begun x h c e, births-begun x h c e)
    go (kept e f q) rest = omega (arith, born-kept x h c e, rest q, births-grow x h)

-- only the sixteen cores have one in progress
pub core-below : (o : ℕ) (h : List Deed) (c : ℕ) → Orderly o h → in_progress h c ≡ true → c < 16
unfolding in_progress
core-below o [] c a p = clash p refl
core-below o (x ∷ h) c a p = go (going x h c p) (core-below o h c a.1)
  where
    go : Going x h c → (in_progress h c ≡ true → c < 16) → c < 16
    go (begun e) rest = (begun-allowed o x h c e a.0).0
    go (kept e f q) rest = rest q

-- one in progress after the deed x, with a number that was given out before x, was in progress before x with that number
pub older-kept : (x : Deed) (h : List Deed) (b : ℕ) → in_progress (x ∷ h) b ≡ true → born (x ∷ h) b < births h
    → (in_progress h b ≡ true) × (born (x ∷ h) b ≡ born h b)
older-kept x h b p l = go (going x h b p)
  where
    go : Going x h b → (in_progress h b ≡ true) × (born (x ∷ h) b ≡ born h b)
    go (begun e) = absurd (omega (arith, born-begun x h b e))
    go (kept e f q) = (q, born-kept x h b e)
