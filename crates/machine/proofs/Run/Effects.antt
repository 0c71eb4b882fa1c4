-- What an attempt leaves on the cards: its last write where it wrote, and what stood there elsewhere.
use Rattle.std.proofs.Common.{◌≡◌, ℕ, ◌<◌, Bool, true, false, cond, ◌||◌, eqb, List, [], ◌∷◌, length, get_or, set, sym, refl, ap, ◌∙◌, true≢false, length-set, get_or-set_other, get_or-set_same, eqb-true}
use borrow.Author.Tests.{eqb-false}
use Rattle.machine.specs.Words.{Deed, begins, reads, writes, waits, commits, told, gives, other, stores, any, wrote}
use Rattle.machine.specs.Serial.{effect}

-- the value of an attempt's newest write of card d
unfoldable pub last_write : List Deed → ℕ → ℕ
last_write [] d = 0
last_write (begins b ∷ a) d = last_write a d
last_write (reads b e v ∷ a) d = last_write a d
last_write (writes b e v ∷ a) d = cond (eqb e d) v (last_write a d)
last_write (waits b e ∷ a) d = last_write a d
last_write (commits b n ∷ a) d = last_write a d
last_write (told b ∷ a) d = last_write a d
last_write (gives b ∷ a) d = last_write a d
last_write (other ∷ a) d = last_write a d

pub effect-long : (a : List Deed) (t : List ℕ) → length (effect a t) ≡ length t
unfolding effect
effect-long [] t = refl
effect-long (begins b ∷ a) t = effect-long a t
effect-long (reads b d v ∷ a) t = effect-long a t
effect-long (writes b d v ∷ a) t = length-set (effect a t) d v ∙ effect-long a t
effect-long (waits b e ∷ a) t = effect-long a t
effect-long (commits b n ∷ a) t = effect-long a t
effect-long (told b ∷ a) t = effect-long a t
effect-long (gives b ∷ a) t = effect-long a t
effect-long (other ∷ a) t = effect-long a t

-- a card that the attempt has not written keeps its value
pub effect-unwritten : (a : List Deed) (t : List ℕ) (d : ℕ) → wrote a d ≡ false → get_or (effect a t) d 0 ≡ get_or t d 0
unfolding effect wrote any
effect-unwritten [] t d p = refl
effect-unwritten (begins b ∷ a) t d p = effect-unwritten a t d p
effect-unwritten (reads b e v ∷ a) t d p = effect-unwritten a t d p
effect-unwritten (writes b e v ∷ a) t d p = go (eqb e d) refl p (effect-unwritten a t d)
  where
    go : (q : Bool) → eqb e d ≡ q → (q || any (λ x. stores x d) a) ≡ false
        → (wrote a d ≡ false → get_or (effect a t) d 0 ≡ get_or t d 0) → get_or (set (effect a t) e v) d 0 ≡ get_or t d 0
    go true q r more = absurd (true≢false r)
    go false q r more = get_or-set_other (effect a t) e d v 0 (λ s. eqb-false e d q (sym s)) ∙ more r
effect-unwritten (waits b e ∷ a) t d p = effect-unwritten a t d p
effect-unwritten (commits b n ∷ a) t d p = effect-unwritten a t d p
effect-unwritten (told b ∷ a) t d p = effect-unwritten a t d p
effect-unwritten (gives b ∷ a) t d p = effect-unwritten a t d p
effect-unwritten (other ∷ a) t d p = effect-unwritten a t d p

-- a card that it has written holds its last write
pub effect-written : (a : List Deed) (t : List ℕ) (d : ℕ) → d < length t → wrote a d ≡ true → get_or (effect a t) d 0 ≡ last_write a d
unfolding effect wrote any last_write
effect-written [] t d h p = absurd (true≢false (sym p))
effect-written (begins b ∷ a) t d h p = effect-written a t d h p
effect-written (reads b e v ∷ a) t d h p = effect-written a t d h p
effect-written (writes b e v ∷ a) t d h p = go (eqb e d) refl p (effect-written a t d h)
  where
    go : (q : Bool) → eqb e d ≡ q → (q || any (λ x. stores x d) a) ≡ true
        → (wrote a d ≡ true → get_or (effect a t) d 0 ≡ last_write a d) → get_or (set (effect a t) e v) d 0 ≡ cond q v (last_write a d)
    go true q r more =
        ap (λ (i : ℕ). get_or (set (effect a t) i v) d 0) (eqb-true e d q) ∙ get_or-set_same (effect a t) d v 0 (rw (effect-long a t) h)
    go false q r more = get_or-set_other (effect a t) e d v 0 (λ s. eqb-false e d q (sym s)) ∙ more r
effect-written (waits b e ∷ a) t d h p = effect-written a t d h p
effect-written (commits b n ∷ a) t d h p = effect-written a t d h p
effect-written (told b ∷ a) t d h p = effect-written a t d h p
effect-written (gives b ∷ a) t d h p = effect-written a t d h p
effect-written (other ∷ a) t d h p = effect-written a t d h p
