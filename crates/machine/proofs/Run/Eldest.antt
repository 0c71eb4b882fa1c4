-- The eldest transaction in progress: nobody strikes it, it is never told to wait, and each of its acts ends it or takes it one
-- step on.
use Rattle.std.proofs.Common.{◌≡◌, ℕ, zero, suc, ◌+◌, ◌<◌, ◌≤◌, Bool, true, false, cond, eqb, ltb, List, ◌∷◌, length, refl, ◌∙◌, arith, ltb-false, ltb-true, eq-eqb, ne_eqb, eqb-true}
use borrow.Author.Tests.{eqb-false}
use Rattle.machine.specs.Words.{Deed, begins, reads, writes, waits, commits, told, gives, other, begins_on, ends_on, steps_on, told_on, acts_on, in_progress, born, attempt, strikes, struck, set_backs}
use Rattle.machine.proofs.Run.Orderly.{Orderly, Allowed}
use Rattle.machine.proofs.Run.Births.{clash, Going, begun, kept, going, going_on, going-not-begun, born-begun, born-kept, born-below, core-below}
use Rattle.machine.proofs.Run.Strikes.{striker, struck-kept}

-- ---- there is an eldest

-- of the numbers below n that pass the test f, one of least rank, if any passes
data Found (n : ℕ) (f : ℕ → Bool) (rank : ℕ → ℕ) : Type 0 where
  nobody : ((b : ℕ) → b < n → f b ≡ true → ⊥) → Found n f rank
  found : (u : ℕ) → f u ≡ true → ((b : ℕ) → b < n → f b ≡ true → rank u ≤ rank b) → Found n f rank

-- a number below n + 1 is n or below n
upto : (n : ℕ) (P : ℕ → Type 0) → P n → ((b : ℕ) → b < n → P b) → (b : ℕ) → b < suc n → P b
upto n P p q b l = go (eqb b n) refl
  where
    go : (e : Bool) → eqb b n ≡ e → P b
    go true e = rw (eqb-true b n e) p
    go false e = q b (omega (arith, eqb-false b n e))

find : (n : ℕ) (f : ℕ → Bool) (rank : ℕ → ℕ) → Found n f rank
find zero f rank = nobody (λ b l. absurd (omega arith))
find (suc n) f rank = go (find n f rank) (f n) refl
  where
    go : Found n f rank → (p : Bool) → f n ≡ p → Found (suc n) f rank
    go (nobody none) true p = found n p (upto n (λ b. f b ≡ true → rank n ≤ rank b) (λ q. omega arith) (λ b l q. absurd (none b l q)))
    go (nobody none) false p = nobody (upto n (λ b. f b ≡ true → ⊥) (λ q. clash q p) none)
    go (found u q least) true p = closer (ltb (rank n) (rank u)) refl
      where
        closer : (c : Bool) → ltb (rank n) (rank u) ≡ c → Found (suc n) f rank
        closer true c =
            let less = ltb-true (rank n) (rank u) c in
            found n p (upto n (λ b. f b ≡ true → rank n ≤ rank b) (λ r. omega arith) (λ b l r. omega (arith, least b l r)))
        closer false c = found u q (upto n (λ b. f b ≡ true → rank u ≤ rank b) (λ r. ltb-false (rank n) (rank u) c) least)
    go (found u q least) false p = found u q (upto n (λ b. f b ≡ true → rank u ≤ rank b) (λ r. clash r p) least)

-- core u has the eldest transaction in progress
pub record Eldest (h : List Deed) (u : ℕ) : Type 0 where
  pub going : in_progress h u ≡ true
  pub eldest : (b : ℕ) → in_progress h b ≡ true → born h u ≤ born h b

pub some-eldest : (o : ℕ) (h : List Deed) (c : ℕ) → Orderly o h → in_progress h c ≡ true → (u : ℕ) × Eldest h u
some-eldest o h c a p = go (find 16 (in_progress h) (born h))
  where
    go : Found 16 (in_progress h) (born h) → (u : ℕ) × Eldest h u
    go (nobody none) = absurd (none c (core-below o h c a p) p)
    go (found u q least) = (u, record { going = q; eldest = λ b r. least b (core-below o h b a r) r })

-- ---- what deeds leave of it

-- what the eldest on core u has used of its attempt: nothing until it is told of every strike, then one and its reads and writes
pub spent : List Deed → ℕ → ℕ
spent h u = cond (eqb (struck h u) (set_backs h u)) (suc (length (attempt h u))) 0

spent-told : (h : List Deed) (u : ℕ) → struck h u ≡ set_backs h u → spent h u ≡ suc (length (attempt h u))
unfolding spent
spent-told h u e = rw (eq-eqb (struck h u) (set_backs h u) e)

spent-untold : (h : List Deed) (u : ℕ) → struck h u ≡ suc (set_backs h u) → spent h u ≡ 0
unfolding spent
spent-untold h u e = rw (ne_eqb (struck h u) (set_backs h u) (λ p. omega arith))

pub spent-at-most : (h : List Deed) (u : ℕ) → spent h u ≤ suc (length (attempt h u))
unfolding spent
spent-at-most h u = go (eqb (struck h u) (set_backs h u))
  where
    go : (e : Bool) → cond e (suc (length (attempt h u))) 0 ≤ suc (length (attempt h u))
    go true = omega arith
    go false = omega arith

-- the deed x, allowed after the list h, where core u has the eldest
module _ (o : ℕ) (x : Deed) (h : List Deed) (u : ℕ) (allowed : Allowed o x h) (old : Eldest h u) where
  not-begun : begins_on x u ≡ false
  not-begun = going-not-begun o x h u allowed old.going

  not-struck : strikes x h u ≡ false
  not-struck = go (strikes x h u) refl
    where
      go : (b : Bool) → strikes x h u ≡ b → b ≡ false
      go true e = let k = striker o x h u e allowed in absurd (omega (arith, old.eldest k.by k.going))
      go false e = refl

  pub eldest-kept : ends_on x u ≡ false → Eldest (x ∷ h) u
  eldest-kept e = record { going = going_on x h u e old.going; eldest = λ b p. go b (going x h b p) }
    where
      go : (b : ℕ) → Going x h b → born (x ∷ h) u ≤ born (x ∷ h) b
      go b (begun f) = omega (arith, born-kept x h u not-begun, born-begun x h b f, born-below h u old.going)
      go b (kept f g p) = omega (arith, born-kept x h u not-begun, born-kept x h b f, old.eldest b p)

  struck-same : struck (x ∷ h) u ≡ struck h u
  struck-same = struck-kept x h u not-begun ∙ rw not-struck (omega arith)

  set_backs-kept : set_backs (x ∷ h) u ≡ cond (told_on x u) 1 0 + set_backs h u
  unfolding set_backs
  set_backs-kept = rw not-begun

  attempt-kept : ends_on x u ≡ false → attempt (x ∷ h) u ≡ cond (steps_on x u) (x ∷ attempt h u) (attempt h u)
  unfolding attempt
  attempt-kept e = rw (not-begun, e, not-struck)

  step-spends : ends_on x u ≡ false → steps_on x u ≡ true → told_on x u ≡ false → struck h u ≡ set_backs h u → spent h u < spent (x ∷ h) u
  step-spends e s t p =
      let all_told : struck (x ∷ h) u ≡ set_backs (x ∷ h) u = struck-same ∙ rw (set_backs-kept, t) (omega arith) in
      let longer : length (attempt (x ∷ h) u) ≡ suc (length (attempt h u)) = rw (attempt-kept e, s) in
      omega (arith, spent-told h u p, spent-told (x ∷ h) u all_told)

  told-spends : told_on x u ≡ true → struck h u ≡ suc (set_backs h u) → spent h u < spent (x ∷ h) u
  told-spends t p =
      let all_told : struck (x ∷ h) u ≡ set_backs (x ∷ h) u = struck-same ∙ rw (set_backs-kept, t) (omega arith) in
      omega (arith, spent-untold h u p, spent-told (x ∷ h) u all_told)

-- ---- acts

-- what becomes of the eldest on core u by its act x
pub data Acted (x : Deed) (h : List Deed) (u : ℕ) : Type 0 where
  ends : ends_on x u ≡ true → Acted x h u
  spends : ends_on x u ≡ false → spent h u < spent (x ∷ h) u → Acted x h u

pub eldest-acts : (o : ℕ) (x : Deed) (h : List Deed) (u : ℕ) → Allowed o x h → Eldest h u → acts_on x u ≡ true → Acted x h u
eldest-acts o (begins b) h u a old e = clash e refl
eldest-acts o (reads b d v) h u a old e =
    let all_told : struck h u ≡ set_backs h u = rw (eqb-true b u e) at a.acting.all_told in
    spends refl (step-spends o (reads b d v) h u a old refl e refl all_told)
eldest-acts o (writes b d v) h u a old e =
    let all_told : struck h u ≡ set_backs h u = rw (eqb-true b u e) at a.0.all_told in
    spends refl (step-spends o (writes b d v) h u a old refl e refl all_told)
eldest-acts o (waits b d) h u a old e =
    let earlier : born h d < born h u = rw (eqb-true b u e) at a.earlier in
    absurd (omega (arith, old.eldest d a.going))
eldest-acts o (commits b n) h u a old e = ends e
eldest-acts o (told b) h u a old e =
    let untold : struck h u ≡ suc (set_backs h u) = rw (eqb-true b u e) at a.2 in
    spends refl (told-spends o (told b) h u a old e untold)
eldest-acts o (gives b) h u a old e = ends e
eldest-acts o other h u a old e = clash e refl

-- a deed that is no act on core u neither ends, nor reads or writes, nor is told there
idle : (x : Deed) (u : ℕ) → acts_on x u ≡ false → (ends_on x u ≡ false) × (steps_on x u ≡ false) × (told_on x u ≡ false)
idle (begins b) u e = (refl, refl, refl)
idle (reads b d v) u e = (refl, e, refl)
idle (writes b d v) u e = (refl, e, refl)
idle (waits b d) u e = (refl, refl, refl)
idle (commits b n) u e = (e, refl, refl)
idle (told b) u e = (refl, refl, e)
idle (gives b) u e = (e, refl, refl)
idle other u e = (refl, refl, refl)

pub eldest-rests : (o : ℕ) (x : Deed) (h : List Deed) (u : ℕ) → Allowed o x h → Eldest h u → acts_on x u ≡ false
    → Eldest (x ∷ h) u × (spent (x ∷ h) u ≡ spent h u)
unfolding spent
eldest-rests o x h u a old e =
    let (no_end, no_step, no_word) = idle x u e in
    let same : set_backs (x ∷ h) u ≡ set_backs h u = set_backs-kept o x h u a old ∙ rw no_word (omega arith) in
    let still : attempt (x ∷ h) u ≡ attempt h u = attempt-kept o x h u a old no_end ∙ rw no_step in
    (eldest-kept o x h u a old no_end, rw (struck-same o x h u a old, same, still))
