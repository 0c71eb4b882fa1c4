-- Demand 2, from what each deed finds: at every moment the present attempt of each core would read again what it read, run alone on
-- the cards as the commits so far left them. So it does at its commit, and the committed values handed to it stand together since the
-- newest commit.
use Rattle.std.proofs.Common.{◌≡◌, ℕ, ◌<◌, ◌≤◌, Bool, true, false, cond, not, ◌&&◌, ◌||◌, eqb, List, [], ◌∷◌, ◌++◌, get_or, sym, refl, ap, ◌∙◌, subst, ap₂, true≢false, eq-eqb, eqb-true}
use Rattle.machine.specs.Words.{Deed, begins, reads, writes, waits, commits, told, gives, other, in_progress, attempt, crosses}
use Rattle.machine.specs.Serial.{effect, replays, serial, stood, settled}
use Rattle.machine.specs.Claims.{Serial}
use Rattle.machine.proofs.Run.Orderly.{Orderly}
use Rattle.machine.proofs.Run.Moments.{orderly-early}
use Rattle.machine.proofs.Run.Attempts.{Steps, no_step, read, write, replays-stood, replays-uncrossed}

-- ---- what is kept of one core

-- a is the present attempt of a core, going says whether a transaction is in progress there, and t are the cards
record Current (o : ℕ) (going : Bool) (a : List Deed) (t : List ℕ) : Type 0 where
  steps : Steps o a
  -- there is no attempt where none is in progress
  none-idle : going ≡ false → a ≡ []
  -- run alone on the present cards, it reads what it read
  rereads : replays a t ≡ true

empty-current : {o : ℕ} {going : Bool} {t : List ℕ} → Current o going [] t
unfolding replays
empty-current = record { steps = no_step; none-idle = λ e. refl; rereads = refl }

-- each kind of deed keeps it; q says whether the deed is on this core
module _ {o : ℕ} {going : Bool} {a : List Deed} {t : List ℕ} (now : Current o going a t) where
  begin-current : (q : Bool) → Current o (cond q true going) (cond (q || false || false) [] a) t
  begin-current true = empty-current
  begin-current false = now

  give-up-current : (q : Bool) → Current o (cond q false going) (cond (q || false) [] a) t
  give-up-current true = empty-current
  give-up-current false = now

  step-current : (x : Deed) (q : Bool) → (q ≡ true → Current o going (x ∷ a) t) → Current o going (cond q (x ∷ a) a) t
  step-current x true new = new refl
  step-current x false new = now

  read-current : (c d v : ℕ) → going ≡ true → d < o → v ≡ get_or (effect a t) d 0 → Current o going (reads c d v ∷ a) t
  unfolding replays
  read-current c d v g l e =
      record {
        steps = read c d v l now.steps;
        none-idle = λ f. absurd (true≢false (sym g ∙ f));
        rereads = ap₂ ◌&&◌ (eq-eqb v (get_or (effect a t) d 0) e) now.rereads;
      }

  write-current : (c d v : ℕ) → going ≡ true → d < o → Current o going (writes c d v ∷ a) t
  unfolding replays
  write-current c d v g l =
      record { steps = write c d v l now.steps; none-idle = λ f. absurd (true≢false (sym g ∙ f)); rereads = now.rereads }

-- the attempt b commits; crossed says whether it has written a card that a has touched
commit-current : {o : ℕ} {going : Bool} {a b : List Deed} {t : List ℕ} → o ≤ 64 → Current o going a t → Steps o b
    → (q crossed : Bool) → crosses b a ≡ crossed → Current o (cond q false going) (cond (q || (not q && going && crossed)) [] a) (effect b t)
unfolding replays
commit-current fits now s true crossed e = empty-current
commit-current {going = false} fits now s false crossed e =
    record { steps = now.steps; none-idle = now.none-idle; rereads = rw (now.none-idle refl) }
commit-current {going = true} fits now s false true e = empty-current
commit-current {going = true} {t = t} fits now s false false e =
    record { steps = now.steps; none-idle = now.none-idle; rereads = replays-uncrossed fits now.steps s t e ∙ now.rereads }

-- ---- every core, at the newest moment of an orderly list

current : (o : ℕ) (h : List Deed) (c : ℕ) → o ≤ 64 → Orderly o h → Current o (in_progress h c) (attempt h c) (serial o h)
unfolding in_progress attempt serial
current o [] c fits r = empty-current
current o (begins b ∷ h) c fits (x, r) = begin-current (current o h c fits r) (eqb b c)
current o (reads b d v ∷ h) c fits (x, r) =
    let now = current o h c fits r in
    step-current now (reads b d v) (eqb b c)
    (λ p. read-current now b d v (rw (← eqb-true b c p) x.acting.going) x.is-object (rw (← eqb-true b c p) x.alone))
current o (writes b d v ∷ h) c fits (x, r) =
    let now = current o h c fits r in
    step-current now (writes b d v) (eqb b c) (λ p. write-current now b d v (rw (← eqb-true b c p) x.0.going) x.1)
current o (waits b e ∷ h) c fits (x, r) = current o h c fits r
current o (commits b n ∷ h) c fits (x, r) =
    commit-current fits (current o h c fits r) (current o h b fits r).steps (eqb b c) (crosses (attempt h b) (attempt h c)) refl
current o (told b ∷ h) c fits (x, r) = current o h c fits r
current o (gives b ∷ h) c fits (x, r) = give-up-current (current o h c fits r) (eqb b c)
current o (other ∷ h) c fits (x, r) = current o h c fits r

-- ---- the newest commit, or setup

-- the cards t are those that the newest commit of the list h left, or setup where there is none
record Left (o : ℕ) (h : List Deed) (t : List ℕ) : Type 0 where
  between : List Deed
  then-on : List Deed
  split : h ≡ between ++ then-on
  is-settled : settled then-on ≡ true
  same_cards : serial o then-on ≡ t

left-since : {o : ℕ} {h : List Deed} {t : List ℕ} (x : Deed) → Left o h t → Left o (x ∷ h) t
left-since x l =
    record {
      between = x ∷ l.between;
      then-on = l.then-on;
      split = ap {B = List Deed} (λ h. x ∷ h) l.split;
      is-settled = l.is-settled;
      same_cards = l.same_cards;
    }

left-now : (o : ℕ) (h : List Deed) → settled h ≡ true → Left o h (serial o h)
left-now o h e = record { between = []; then-on = h; split = refl; is-settled = e; same_cards = refl }

left : (o : ℕ) (h : List Deed) → Left o h (serial o h)
unfolding serial settled
left o [] = left-now o [] refl
left o (begins b ∷ h) = left-since (begins b) (left o h)
left o (reads b d v ∷ h) = left-since (reads b d v) (left o h)
left o (writes b d v ∷ h) = left-since (writes b d v) (left o h)
left o (waits b e ∷ h) = left-since (waits b e) (left o h)
left o (commits b n ∷ h) = left-now o (commits b n ∷ h) refl
left o (told b ∷ h) = left-since (told b) (left o h)
left o (gives b ∷ h) = left-since (gives b) (left o h)
left o (other ∷ h) = left-since other (left o h)

-- ---- the claim

pub serially : (o : ℕ) (h : List Deed) → o ≤ 64 → Orderly o h → Serial o h
serially o h fits r =
    record {
      same_reads = λ late early c n e. (current o early c fits (orderly-early o h late (commits c n ∷ early) e r).1).rereads;
      together = λ late early c e.
          let now = current o early c fits (orderly-early o h late early e r) in
          let l = left o early in
          (l.between, l.then-on, l.split, l.is-settled, subst (λ (t : List ℕ). stood (attempt early c) t ≡ true) (sym l.same_cards) (replays-stood now.steps (serial o early) now.rereads));
    }
