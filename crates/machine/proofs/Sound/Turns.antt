-- The standing rules that tie the transactions in progress to one another, over plain functions of the core's number: which
-- cores have a transaction in progress (a), its ticket (t) and its setbacks (b). They outlast a change elsewhere, a begin and
-- an end.
use Rattle.std.proofs.Common.{◌≡◌, ℕ, ◌+◌, ◌<◌, ◌≤◌, Bool, true, false, cond, ◌&&◌, ltb, sym, refl, ap, ◌∙◌, ap₂, true≢false, arith, ltb-true, le-ltb}
use Rattle.objset.proofs.Laws.{both_left, both_right}
use Rattle.machine.specs.Record.{tally}
use Rattle.machine.proofs.Entries.{here-or-else}
use Rattle.machine.proofs.Tally.{tally-same, tally-more, tally-one-more, tally-less, tally-spared}

-- core c has a transaction in progress with a ticket smaller than x
abbrev pub sooner : (ℕ → Bool) → (ℕ → ℕ) → ℕ → ℕ → Bool
sooner a t x c = a c && ltb (t c) x

-- `past` is the count of transactions that have ended: commits and give-ups
pub record Turns (cores tickets past : ℕ) (a : ℕ → Bool) (t b : ℕ → ℕ) : Type 0 where
  -- a core that the machine lacks has no transaction
  pub lacked : (c : ℕ) → c < 16 → cores ≤ c → a c ≡ false
  -- tickets in progress differ
  pub differ : (c e : ℕ) → c < 16 → e < 16 → (c ≡ e → ⊥) → a c ≡ true → a e ≡ true → t c ≡ t e → ⊥
  -- they are smaller than the count of tickets given
  pub given : (c : ℕ) → c < 16 → a c ≡ true → t c < tickets
  -- that count is of those ended and those in progress
  pub counted : tickets ≡ past + tally 16 a
  -- setbacks plus the number of smaller tickets in progress is at most cores - 1
  pub bounded : (c : ℕ) → c < 16 → a c ≡ true → b c + tally 16 (sooner a t (t c)) < cores

-- the transactions are the same
pub turns_same : {cores tickets past : ℕ} {a a' : ℕ → Bool} {t t' b b' : ℕ → ℕ} → ((e : ℕ) → e < 16 → a' e ≡ a e)
    → ((e : ℕ) → e < 16 → t' e ≡ t e) → ((e : ℕ) → e < 16 → b' e ≡ b e) → Turns cores tickets past a t b → Turns cores tickets past a' t' b'
turns_same {cores} {tickets} {past} {a} {a'} {t} {t'} {b} {b'} sa st sb s =
    record {
      lacked = λ c l m. sa c l ∙ s.lacked c l m;
      differ = λ c e lc le d ac ae p. s.differ c e lc le d (sym (sa c lc) ∙ ac) (sym (sa e le) ∙ ae) (sym (st c lc) ∙ p ∙ st e le);
      given = λ c l ac. omega (arith, st c l, s.given c l (sym (sa c l) ∙ ac));
      counted = s.counted ∙ ap (λ (n : ℕ). past + n) (tally-same 16 a a' (λ i l. sym (sa i l)));
      bounded = λ c l ac.
          omega (
            arith,
            sb c l,
            s.bounded c l (sym (sa c l) ∙ ac),
            tally-same 16 (sooner a' t' (t' c)) (sooner a t (t c)) (λ i m. ap₂ ◌&&◌ (sa i m) (ap₂ ltb (st i m) (st c l))),
          );
    }

-- false on the left
and-false : (x y : Bool) → x ≡ false → (x && y) ≡ false
and-false true y p = absurd (true≢false p)
and-false false y p = refl

-- false on the right
and_no : (x y : Bool) → y ≡ false → (x && y) ≡ false
and_no true y p = p
and_no false y p = refl

module _ (cores tickets past : ℕ) (a a' : ℕ → Bool) (t t' b b' : ℕ → ℕ) (c : ℕ) (here : c < 16)
    (sa : (e : ℕ) → e < 16 → (e ≡ c → ⊥) → a' e ≡ a e) (st : (e : ℕ) → e < 16 → (e ≡ c → ⊥) → t' e ≡ t e)
    (s : Turns cores tickets past a t b) where
  -- another core's ticket is one of those given before
  others-given : (e : ℕ) → e < 16 → (e ≡ c → ⊥) → a' e ≡ true → t' e < tickets
  others-given e l d on = omega (arith, st e l d, s.given e l (sym (sa e l d) ∙ on))

  others-differ : (e f : ℕ) → e < 16 → f < 16 → (e ≡ c → ⊥) → (f ≡ c → ⊥) → (e ≡ f → ⊥) → a' e ≡ true → a' f ≡ true → t' e ≡ t' f → ⊥
  others-differ e f le lf de df d ae af p =
      s.differ e f le lf d (sym (sa e le de) ∙ ae) (sym (sa f lf df) ∙ af) (sym (st e le de) ∙ p ∙ st f lf df)

  -- who is sooner than another core's transaction after the call was so before it
  was-sooner : (e : ℕ) → e < 16 → (e ≡ c → ⊥) → (sooner a' t' (t' e) c ≡ true → ⊥)
      → (i : ℕ) → i < 16 → sooner a' t' (t' e) i ≡ true → sooner a t (t e) i ≡ true
  was-sooner e l d not-c i m =
      here-or-else (λ x. x < 16 → sooner a' t' (t' e) x ≡ true → sooner a t (t e) x ≡ true) c i (λ n p. absurd (not-c p))
      (λ o n p. sym (ap₂ ◌&&◌ (sa i n o) (ap₂ ltb (st i n o) (st e l d))) ∙ p) m

  -- the transaction that core c begins has the greatest ticket, and at most all the others are ahead of it
  pub turns-joined : c < cores → a c ≡ false → a' c ≡ true → t' c ≡ tickets → b' c ≡ 0
      → ((e : ℕ) → e < 16 → (e ≡ c → ⊥) → b' e ≡ b e) → Turns cores (tickets + 1) past a' t' b'
  turns-joined within idle joined last fresh sb =
      record {
        lacked = lacked';
        differ = λ e f le lf d ae af p.
            here-or-else (λ x. x < 16 → (x ≡ f → ⊥) → a' x ≡ true → t' x ≡ t' f → ⊥) c e
            (λ lx dx ax q. omega (arith, others-given f lf (λ r. dx (sym r)) af))
            (λ o lx dx ax q.
            here-or-else (λ x. x < 16 → (e ≡ x → ⊥) → a' x ≡ true → t' e ≡ t' x → ⊥) c f
            (λ ly dy ay r. omega (arith, others-given e lx o ax))
            (λ u ly dy ay r. others-differ e f lx ly o u dy ax ay r) lf dx af q)
            le d ae p;
        given = λ e l ae.
            here-or-else (λ x. x < 16 → a' x ≡ true → t' x < tickets + 1) c e (λ m p. omega arith)
            (λ o m p. omega (arith, others-given e m o p)) l ae;
        counted = omega (arith, s.counted, tally-one-more 16 a a' c here idle joined (λ i l d. sym (sa i l d)));
        bounded = λ e l ae.
            here-or-else (λ x. x < 16 → a' x ≡ true → b' x + tally 16 (sooner a' t' (t' x)) < cores) c e
            (λ m p.
            omega (
              arith,
              tally-spared 16 cores (sooner a' t' (t' c)) c here within
                  (and_no (a' c) (ltb (t' c) (t' c)) (le-ltb (t' c) (t' c) (omega arith)))
                  (λ i n r. and-false (a' i) (ltb (t' i) (t' c)) (lacked' i n r)),
            ))
            (λ o m p.
            omega (
              arith,
              sb e m o,
              s.bounded e m (sym (sa e m o) ∙ p),
              tally-more 16 (sooner a' t' (t' e)) (sooner a t (t e))
                  (was-sooner e m o
                  (λ q. omega (arith, others-given e m o p, ltb-true (t' c) (t' e) (both_right (a' c) (ltb (t' c) (t' e)) q)))),
            ))
            l ae;
      }
    where
      lacked' : (e : ℕ) → e < 16 → cores ≤ e → a' e ≡ false
      lacked' e l m = sa e l (λ p. omega arith) ∙ s.lacked e l m

  -- the transaction of core c ends; the setbacks of a later one may have risen by one
  pub turns-left : a c ≡ true → a' c ≡ false → ((e : ℕ) → e < 16 → (e ≡ c → ⊥) → b' e ≤ b e + cond (ltb (t c) (t e)) 1 0)
      → Turns cores tickets (past + 1) a' t' b'
  turns-left was gone sb =
      record {
        lacked = λ e l m. here-or-else (λ x. x < 16 → cores ≤ x → a' x ≡ false) c e (λ n r. gone) (λ o n r. sa e n o ∙ s.lacked e n r) l m;
        differ = λ e f le lf d ae af p. others-differ e f le lf (other e ae) (other f af) d ae af p;
        given = λ e l ae. others-given e l (other e ae) ae;
        counted = omega (arith, s.counted, tally-one-more 16 a' a c here gone was (λ i l d. sa i l d));
        bounded = λ e l ae. sum e l ae (other e ae) (ltb (t c) (t e)) refl;
      }
    where
      other : (e : ℕ) → a' e ≡ true → e ≡ c → ⊥
      other e on p = true≢false (sym on ∙ ap a' p ∙ gone)

      sum : (e : ℕ) → e < 16 → a' e ≡ true → (e ≡ c → ⊥) → (q : Bool) → ltb (t c) (t e) ≡ q → b' e + tally 16 (sooner a' t' (t' e)) < cores
      sum e l ae o true p =
          omega (
            arith,
            rw p at (sb e l o),
            s.bounded e l (sym (sa e l o) ∙ ae),
            tally-less 16 (sooner a' t' (t' e)) (sooner a t (t e)) c here (and-false (a' c) (ltb (t' c) (t' e)) gone) (ap₂ ◌&&◌ was p)
                (was-sooner e l o (λ q. true≢false (sym (both_left (a' c) (ltb (t' c) (t' e)) q) ∙ gone))),
          )
      sum e l ae o false p =
          omega (
            arith,
            rw p at (sb e l o),
            s.bounded e l (sym (sa e l o) ∙ ae),
            tally-more 16 (sooner a' t' (t' e)) (sooner a t (t e))
                (was-sooner e l o (λ q. true≢false (sym (both_left (a' c) (ltb (t' c) (t' e)) q) ∙ gone))),
          )
