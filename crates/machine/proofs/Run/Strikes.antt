-- A transaction is struck at most as often as earlier ones were in progress at its begin: whoever strikes it is earlier and ends,
-- and nobody that begins later is earlier.
use Rattle.std.proofs.Common.{◌≡◌, ℕ, ◌+◌, ◌<◌, ◌≤◌, Bool, true, false, cond, not, ◌&&◌, eqb, ltb, List, [], ◌∷◌, refl, ap₂, arith, ltb-true, lt-ltb, eq-eqb}
use borrow.Author.Tests.{not-true}
use Rattle.objset.proofs.Laws.{both_left, both_right}
use Rattle.machine.specs.Record.{tally}
use Rattle.machine.specs.Words.{Deed, begins, reads, writes, waits, commits, told, gives, other, begins_on, ends_on, in_progress, births, born, ahead, crosses, attempt, strikes, struck}
use Rattle.machine.proofs.Run.Orderly.{Orderly, Allowed}
use Rattle.machine.proofs.Tally.{tally-more, tally-less}
use Rattle.machine.proofs.Run.Births.{clash, Going, begun, kept, going, going_on, ended, born-begun, born-kept, born-below, older-kept}

-- ---- who strikes

-- the deed x ends a transaction on core `by`, which is earlier than the one that x strikes on core c
pub record Striker (x : Deed) (h : List Deed) (c : ℕ) : Type 0 where
  pub by : ℕ
  pub is-core : by < 16
  pub going : in_progress h by ≡ true
  pub earlier : born h by < born h c
  pub ends : ends_on x by ≡ true

pub striker : (o : ℕ) (x : Deed) (h : List Deed) (c : ℕ) → strikes x h c ≡ true → Allowed o x h → Striker x h c
striker o (begins b) h c e p = clash e refl
striker o (reads b d v) h c e p = clash e refl
striker o (writes b d v) h c e p = clash e refl
striker o (waits b d) h c e p = clash e refl
striker o (commits b n) h c e p =
    record { by = b; is-core = p.acting.is-core; going = p.acting.going; earlier = p.strikes-later c e; ends = eq-eqb b b refl }
striker o (told b) h c e p = clash e refl
striker o (gives b) h c e p = clash e refl
striker o other h c e p = clash e refl

-- ---- those begun before number t

-- core b has one in progress that was begun before number t
abbrev before : ℕ → List Deed → ℕ → Bool
before t h b = in_progress h b && ltb (born h b) t

is-before : (t : ℕ) (h : List Deed) (b : ℕ) → in_progress h b ≡ true → born h b < t → before t h b ≡ true
is-before t h b p l = ap₂ ◌&&◌ p (lt-ltb (born h b) t l)

-- no deed adds one, if the number t is no later than the next
before-kept : (x : Deed) (h : List Deed) (t : ℕ) → t ≤ births h → (b : ℕ) → before t (x ∷ h) b ≡ true → before t h b ≡ true
before-kept x h t l b e =
    let p = both_left (in_progress (x ∷ h) b) (ltb (born (x ∷ h) b) t) e in
    let q = ltb-true (born (x ∷ h) b) t (both_right (in_progress (x ∷ h) b) (ltb (born (x ∷ h) b) t) e) in
    let old = older-kept x h b p (omega arith) in
    is-before t h b old.0 (omega arith)

-- ---- the bound

struck-begun : (x : Deed) (h : List Deed) (c : ℕ) → begins_on x c ≡ true → struck (x ∷ h) c ≡ 0
unfolding struck
struck-begun x h c e = rw e

pub struck-kept : (x : Deed) (h : List Deed) (c : ℕ) → begins_on x c ≡ false → struck (x ∷ h) c ≡ cond (strikes x h c) 1 0 + struck h c
unfolding struck
struck-kept x h c e = rw e

ahead-begun : (x : Deed) (h : List Deed) (c : ℕ) → begins_on x c ≡ true → ahead (x ∷ h) c ≡ tally 16 (in_progress h)
unfolding ahead
ahead-begun x h c e = rw e

ahead-kept : (x : Deed) (h : List Deed) (c : ℕ) → begins_on x c ≡ false → ahead (x ∷ h) c ≡ ahead h c
unfolding ahead
ahead-kept x h c e = rw e

-- the strikes so far and the earlier ones still in progress are together no more than the earlier ones at its begin
struck-and-earlier : (o : ℕ) (h : List Deed) (c : ℕ) → Orderly o h → in_progress h c ≡ true → struck h c + tally 16 (before (born h c) h) ≤ ahead h c
unfolding in_progress
struck-and-earlier o [] c a p = clash p refl
struck-and-earlier o (x ∷ h) c a p = go (going x h c p) (struck-and-earlier o h c a.1)
  where
    go : Going x h c → (in_progress h c ≡ true → struck h c + tally 16 (before (born h c) h) ≤ ahead h c)
        → struck (x ∷ h) c + tally 16 (before (born (x ∷ h) c) (x ∷ h)) ≤ ahead (x ∷ h) c
    go (begun e) rest = rw (struck-begun x h c e, ahead-begun x h c e, born-begun x h c e) (omega (arith, all-earlier))
      where
        all-earlier : tally 16 (before (births h) (x ∷ h)) ≤ tally 16 (in_progress h)
        all-earlier =
            tally-more 16 (before (births h) (x ∷ h)) (in_progress h)
            (λ b l q. both_left (in_progress h b) (ltb (born h b) (births h)) (before-kept x h (births h) (omega arith) b q))
    go (kept e f q) rest = rw (struck-kept x h c e, ahead-kept x h c e, born-kept x h c e) (by-strike (strikes x h c) refl (rest q))
      where
        fewer : (b : ℕ) → before (born h c) (x ∷ h) b ≡ true → before (born h c) h b ≡ true
        fewer = before-kept x h (born h c) (omega (arith, born-below h c q))

        by-strike : (s : Bool) → strikes x h c ≡ s → struck h c + tally 16 (before (born h c) h) ≤ ahead h c
            → cond s 1 0 + struck h c + tally 16 (before (born h c) (x ∷ h)) ≤ ahead h c
        by-strike true s r =
            let k = striker o x h c s a.0 in
            let gone : before (born h c) (x ∷ h) k.by ≡ false = rw (ended x h k.by k.ends) in
            let here = is-before (born h c) h k.by k.going k.earlier in
            omega (arith, tally-less 16 (before (born h c) (x ∷ h)) (before (born h c) h) k.by k.is-core gone here (λ b l. fewer b))
        by-strike false s r = omega (arith, tally-more 16 (before (born h c) (x ∷ h)) (before (born h c) h) (λ b l. fewer b))

-- whom a deed strikes is in progress after it
struck-goes-on : (x : Deed) (h : List Deed) (c : ℕ) → strikes x h c ≡ true → in_progress (x ∷ h) c ≡ true
struck-goes-on (begins b) h c e = clash e refl
struck-goes-on (reads b d v) h c e = clash e refl
struck-goes-on (writes b d v) h c e = clash e refl
struck-goes-on (waits b d) h c e = clash e refl
struck-goes-on (commits b n) h c e =
    let other = both_left (not (eqb b c) && in_progress h c) (crosses (attempt h b) (attempt h c)) e in
    going_on (commits b n) h c (not-true (eqb b c) (both_left (not (eqb b c)) (in_progress h c) other))
    (both_right (not (eqb b c)) (in_progress h c) other)
struck-goes-on (told b) h c e = clash e refl
struck-goes-on (gives b) h c e = clash e refl
struck-goes-on other h c e = clash e refl

-- after every deed: the bound above holds at a strike, and between strikes neither number changes
pub struck-at-most-ahead : (o : ℕ) (h : List Deed) (c : ℕ) → Orderly o h → struck h c ≤ ahead h c
unfolding struck ahead
struck-at-most-ahead o [] c a = omega arith
struck-at-most-ahead o (x ∷ h) c a = go (begins_on x c) refl (strikes x h c) refl (struck-at-most-ahead o h c a.1)
  where
    go : (b : Bool) → begins_on x c ≡ b → (s : Bool) → strikes x h c ≡ s → struck h c ≤ ahead h c → struck (x ∷ h) c ≤ ahead (x ∷ h) c
    go true b s t r = rw (struck-begun x h c b) (omega arith)
    go false b true t r = omega (arith, struck-and-earlier o (x ∷ h) c a (struck-goes-on x h c t))
    go false b false t r = rw (struck-kept x h c b, ahead-kept x h c b, t) (omega (arith, r))
