-- Attempts run on cards: what an attempt reads and leaves depends on the cards it touches alone, and it changes only the cards that
-- it writes.
use Rattle.std.proofs.Common.{◌≡◌, ℕ, zero, suc, ◌<◌, ◌≤◌, Bool, true, false, cond, ◌&&◌, ◌||◌, eqb, List, [], ◌∷◌, length, get_or, set, sym, refl, ap, ◌∙◌, ap₂, true≢false, arith, eq-eqb, eqb-true}
use mathlib.Core.Bool.{or-true}
use Rattle.objset.proofs.Laws.{one-some, both_left, both_right}
use Rattle.machine.specs.Words.{Deed, reads, writes, any, touched, wrote, crosses}
use Rattle.machine.specs.Serial.{effect, replays, stood}
use Rattle.machine.proofs.Run.Effects.{effect-long, effect-unwritten}

-- reads and writes of cards below o, and nothing else
pub data Steps (o : ℕ) : List Deed → Type 0 where
  no_step : Steps o []
  read : {a : List Deed} (c d v : ℕ) → d < o → Steps o a → Steps o (reads c d v ∷ a)
  write : {a : List Deed} (c d v : ℕ) → d < o → Steps o a → Steps o (writes c d v ∷ a)

-- ---- what a run leaves

-- a store keeps two tables alike at card e
set-alike : (t u : List ℕ) (d v e : ℕ) → length t ≡ length u → get_or t e 0 ≡ get_or u e 0 → get_or (set t d v) e 0 ≡ get_or (set u d v) e 0
set-alike [] [] d v e l p = refl
set-alike [] (y ∷ u) d v e l p = absurd (omega arith)
set-alike (x ∷ t) [] d v e l p = absurd (omega arith)
set-alike (x ∷ t) (y ∷ u) zero v zero l p = refl
set-alike (x ∷ t) (y ∷ u) zero v (suc e) l p = p
set-alike (x ∷ t) (y ∷ u) (suc d) v zero l p = p
set-alike (x ∷ t) (y ∷ u) (suc d) v (suc e) l p = set-alike t u d v e (omega arith) p

-- what a run leaves on a card depends on no other card
pub effect-alike : {o : ℕ} {a : List Deed} → Steps o a → (t u : List ℕ) (e : ℕ) → length t ≡ length u → get_or t e 0 ≡ get_or u e 0
    → get_or (effect a t) e 0 ≡ get_or (effect a u) e 0
unfolding effect
effect-alike no_step t u e l p = p
effect-alike (read c d v b s) t u e l p = effect-alike s t u e l p
effect-alike (write {a = a} c d v b s) t u e l p =
    set-alike (effect a t) (effect a u) d v e (effect-long a t ∙ l ∙ sym (effect-long a u)) (effect-alike s t u e l p)

-- ---- what a run reads

-- two tables that agree on every card that the attempt touches are alike to it
pub replays-alike : {o : ℕ} {a : List Deed} → Steps o a → (t u : List ℕ) → length t ≡ length u
    → ((d : ℕ) → touched a d ≡ true → get_or t d 0 ≡ get_or u d 0) → replays a t ≡ replays a u
unfolding replays touched any
replays-alike no_step t u l same = refl
replays-alike (read {a = a} c d v b s) t u l same =
    ap₂ (λ (x : ℕ) (q : Bool). eqb v x && q) (effect-alike s t u d l (same d (rw (eq-eqb d d refl))))
    (replays-alike s t u l (λ e w. same e (rw (w, or-true))))
replays-alike (write c d v b s) t u l same = replays-alike s t u l (λ e w. same e (rw (w, or-true)))

-- an attempt that would read again what it read has been handed committed values that stand
pub replays-stood : {o : ℕ} {a : List Deed} → Steps o a → (t : List ℕ) → replays a t ≡ true → stood a t ≡ true
unfolding replays stood
replays-stood no_step t r = refl
replays-stood (read {a = a} c d v b s) t r =
    ap₂ ◌&&◌ (go (wrote a d) refl) (replays-stood s t (both_right (eqb v (get_or (effect a t) d 0)) (replays a t) r))
  where
    go : (q : Bool) → wrote a d ≡ q → cond q true (eqb v (get_or t d 0)) ≡ true
    go true w = refl
    go false w = ap (eqb v) (sym (effect-unwritten a t d w)) ∙ both_left (eqb v (get_or (effect a t) d 0)) (replays a t) r
replays-stood (write c d v b s) t r = replays-stood s t r

-- ---- what a run of another attempt changes

-- card d is card e, which is below o, or one of the rest
first_below : (o e d : ℕ) (rest : Bool) → e < o → (rest ≡ true → d < o) → (eqb e d || rest) ≡ true → d < o
first_below o e d rest b more = go (eqb e d) refl
  where
    go : (q : Bool) → eqb e d ≡ q → (q || rest) ≡ true → d < o
    go true p f = omega (arith, eqb-true e d p)
    go false p f = more f

pub touched-below : {o : ℕ} {a : List Deed} → Steps o a → (d : ℕ) → touched a d ≡ true → d < o
unfolding touched any
touched-below no_step d w = absurd (true≢false (sym w))
touched-below {o} (read {a = a} c e v b s) d w = first_below o e d (touched a d) b (touched-below s d) w
touched-below {o} (write {a = a} c e v b s) d w = first_below o e d (touched a d) b (touched-below s d) w

-- an attempt that has touched no card that another has written would read the same after that one's run
pub replays-uncrossed : {o : ℕ} {a b : List Deed} → o ≤ 64 → Steps o a → Steps o b → (t : List ℕ) → crosses b a ≡ false
    → replays a (effect b t) ≡ replays a t
unfolding crosses
replays-uncrossed {o} {a} {b} fits s r t apart =
    replays-alike s (effect b t) t (effect-long b t) (λ d w. effect-unwritten b t d (unwritten d w (wrote b d) refl))
  where
    unwritten : (d : ℕ) → touched a d ≡ true → (q : Bool) → wrote b d ≡ q → q ≡ false
    unwritten d w true p =
        let below : d < o = touched-below s d w in
        sym (one-some 64 (λ e. wrote b e && touched a e) d (omega arith) (ap₂ ◌&&◌ p w)) ∙ apart
    unwritten d w false p = refl
