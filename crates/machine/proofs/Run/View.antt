-- What the words say of one core, and how one more deed changes it.
use Rattle.std.proofs.Common.{◌≡◌, ℕ, ◌+◌, Bool, true, false, eqb, List, [], ◌∷◌, refl, zero-add, eq-eqb}
use Rattle.machine.specs.Words.{Deed, begins, reads, writes, waits, commits, told, gives, other, in_progress, births, born, attempt, strikes, struck, set_backs}

-- in progress, order of its begin, present attempt, strikes, calls answered set back
pub record View : Type 0 where
  pub going : Bool
  pub order : ℕ
  pub tried : List Deed
  pub hits : ℕ
  pub heard : ℕ

abbrev pub view : List Deed → ℕ → View
view h c = record { going = in_progress h c; order = born h c; tried = attempt h c; hits = struck h c; heard = set_backs h c }

-- the deed is on core c
abbrev pub concerns : Deed → ℕ → Bool
concerns (begins b) c = eqb b c
concerns (reads b d v) c = eqb b c
concerns (writes b d v) c = eqb b c
concerns (waits b e) c = eqb b c
concerns (commits b n) c = eqb b c
concerns (told b) c = eqb b c
concerns (gives b) c = eqb b c
concerns other c = false

-- a deed on another core that does not strike leaves all as it was
pub view-other : (x : Deed) (h : List Deed) (c : ℕ) → concerns x c ≡ false → strikes x h c ≡ false → view (x ∷ h) c ≡ view h c
unfolding in_progress born attempt struck set_backs
view-other (begins b) h c p q = rw (p, zero-add (struck h c), zero-add (set_backs h c)) refl
view-other (reads b d v) h c p q = rw (p, zero-add (struck h c), zero-add (set_backs h c)) refl
view-other (writes b d v) h c p q = rw (p, zero-add (struck h c), zero-add (set_backs h c)) refl
view-other (waits b e) h c p q = rw (zero-add (struck h c), zero-add (set_backs h c)) refl
view-other (commits b n) h c p q = rw (q, p, zero-add (struck h c), zero-add (set_backs h c)) refl
view-other (told b) h c p q = rw (p, zero-add (struck h c), zero-add (set_backs h c)) refl
view-other (gives b) h c p q = rw (p, zero-add (struck h c), zero-add (set_backs h c)) refl
view-other other h c p q = rw (zero-add (struck h c), zero-add (set_backs h c)) refl

-- ---- a deed on the core itself

same : (c : ℕ) → eqb c c ≡ true
same c = eq-eqb c c refl

pub view-begins : (h : List Deed) (c : ℕ) → view (begins c ∷ h) c ≡ record { going = true; order = births h; tried = []; hits = 0; heard = 0 }
unfolding in_progress born attempt struck set_backs
view-begins h c = rw (same c) refl

-- the same core with a longer attempt
abbrev pub further : Deed → View → View
further x v = record { going = v.going; order = v.order; tried = x ∷ v.tried; hits = v.hits; heard = v.heard }

pub view-reads : (h : List Deed) (c d v : ℕ) → view (reads c d v ∷ h) c ≡ further (reads c d v) (view h c)
unfolding in_progress born attempt struck set_backs
view-reads h c d v = rw (same c, zero-add (struck h c), zero-add (set_backs h c)) refl

pub view-writes : (h : List Deed) (c d v : ℕ) → view (writes c d v ∷ h) c ≡ further (writes c d v) (view h c)
unfolding in_progress born attempt struck set_backs
view-writes h c d v = rw (same c, zero-add (struck h c), zero-add (set_backs h c)) refl

pub view-waits : (h : List Deed) (b e c : ℕ) → view (waits b e ∷ h) c ≡ view h c
unfolding in_progress born attempt struck set_backs
view-waits h b e c = rw (zero-add (struck h c), zero-add (set_backs h c)) refl

pub view-told : (h : List Deed) (c : ℕ)
    → view (told c ∷ h) c ≡ record { going = in_progress h c; order = born h c; tried = attempt h c; hits = struck h c; heard = 1 + set_backs h c }
unfolding in_progress born attempt struck set_backs
view-told h c = rw (same c, zero-add (struck h c)) refl

-- the transaction is over: nothing is said of the strikes on it any more
abbrev pub Over : View → Type 0
Over v = (v.going ≡ false) × (v.tried ≡ [])

pub view-gives : (h : List Deed) (c : ℕ) → Over (view (gives c ∷ h) c)
unfolding in_progress attempt
view-gives h c = (rw (same c) refl, rw (same c) refl)

pub view-commits : (h : List Deed) (c n : ℕ) → Over (view (commits c n ∷ h) c)
unfolding in_progress attempt
view-commits h c n = (rw (same c) refl, rw (same c) refl)

-- struck: the attempt is void, one strike more
pub view-struck : (h : List Deed) (b n c : ℕ) → eqb b c ≡ false → strikes (commits b n) h c ≡ true
    → view (commits b n ∷ h) c ≡ record { going = in_progress h c; order = born h c; tried = []; hits = 1 + struck h c; heard = set_backs h c }
unfolding in_progress born attempt struck set_backs
view-struck h b n c p q = rw (q, p, zero-add (set_backs h c)) refl
