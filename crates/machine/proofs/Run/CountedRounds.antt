-- A computed test that so many rounds have passed; and where so many have, each smaller number has.
use Rattle.std.proofs.Common.{◌≡◌, ℕ, suc, ◌≤◌, Bool, true, false, ◌&&◌, leb, List, [], ◌∷◌, ◌++◌, length, take, drop, sym, refl, ap, ◌∙◌, subst, append_assoc, arith, take-append-drop, leb-false, leb-true}
use Rattle.objset.proofs.Laws.{both_left, both_right}
use Rattle.machine.specs.Words.{Deed}
use Rattle.machine.specs.Rounds.{is_round, Rounds, no_round, between, one_round}

-- deeds after a round may belong to none
skip : (t n : ℕ) (start stretch : List Deed) {h : List Deed} → Rounds t start n h → Rounds t start n (stretch ++ h)
skip t n start [] r = r
skip t n start (x ∷ stretch) r = between x (skip t n start stretch r)

-- the last deeds, cut into stretches of these lengths, the newest first, are rounds
unfoldable pub all_rounds : ℕ → List Deed → List ℕ → List Deed → Bool
all_rounds t start [] since = true
all_rounds t start (m ∷ ms) since = is_round t (drop m since ++ start) (take m since) && all_rounds t start ms (drop m since)

pub all-rounds : (t : ℕ) (start : List Deed) (ms : List ℕ) (since : List Deed) → all_rounds t start ms since ≡ true
    → Rounds t start (length ms) (since ++ start)
unfolding all_rounds
all-rounds t start [] since e = skip t 0 start since no_round
all-rounds t start (m ∷ ms) since e =
    let now = is_round t (drop m since ++ start) (take m since) in
    let rest = all_rounds t start ms (drop m since) in
    let one = one_round (take m since) (all-rounds t start ms (drop m since) (both_right now rest e)) (both_left now rest e) in
    subst (Rounds t start (suc (length ms)))
    (sym (append_assoc (take m since) (drop m since) start) ∙ ap (λ (r : List Deed). r ++ start) (take-append-drop m since)) one

pub fewer : {t : ℕ} {start : List Deed} {n : ℕ} {h : List Deed} → Rounds t start n h → (m : ℕ) → m ≤ n → Rounds t start m h
fewer {t} {start} no_round m l = let none : m ≡ 0 = omega arith in rw none no_round
fewer (between x r) m l = between x (fewer r m l)
fewer {t} {start} (one_round {n = n} {h = h} stretch r e) m l = go (leb m n) refl (λ below. fewer r m below)
  where
    go : (b : Bool) → leb m n ≡ b → (m ≤ n → Rounds t start m h) → Rounds t start m (stretch ++ h)
    go true q more = skip t m start stretch (more (leb-true m n q))
    go false q more = let all : m ≡ suc n = omega (arith, leb-false m n q) in rw all (one_round stretch r e)
