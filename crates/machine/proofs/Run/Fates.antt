-- While the deeds since its begin neither commit it nor give it up, a transaction is in progress on its core with its number; so
-- after the rounds that demand 3 allows, one or the other has happened.
use Rattle.std.proofs.Common.{◌≡◌, ℕ, ◌+◌, ◌*◌, ◌≤◌, Bool, true, false, cond, eqb, List, [], ◌∷◌, ◌++◌, length, sym, refl, ap, ◌∙◌, mul_comm, mul-le-mul_left, arith, eq-eqb, eqb-true}
use mathlib.Core.List.{tail}
use Rattle.machine.specs.Record.{tally}
use Rattle.machine.specs.Words.{Deed, begins, reads, writes, waits, commits, told, gives, other, begins_on, ends_on, in_progress, births, born, attempt}
use Rattle.machine.specs.Rounds.{Rounds, Fate, in-progress, committed, given-up, fate, fate_after, among, AtMost}
use Rattle.machine.proofs.Run.Orderly.{Orderly}
use Rattle.machine.proofs.Tally.{tally-but-one}
use Rattle.machine.proofs.Run.Births.{Going, begun, kept, going, going_on, going-not-begun, births-begun, births-late, born-begun, born-kept}
use Rattle.machine.proofs.Run.RoundsBound.{Moment, Steady, among-going, out-of-rounds}

committed-is-over : committed ≡ in-progress → ⊥
committed-is-over e = let z : ◌≡◌ {A = ℕ} 0 1 = cc in omega arith

given-up-is-over : given-up ≡ in-progress → ⊥
given-up-is-over e = let z : ◌≡◌ {A = ℕ} 0 1 = cc in omega arith

-- what would end it did not happen
spared : (q : Bool) {f : Fate} → (f ≡ in-progress → ⊥) → cond q f in-progress ≡ in-progress → q ≡ false
spared true over e = absurd (over e)
spared false over e = refl

-- one that is in progress after a deed was so before, and the deed did not end it
fate-kept : (x : Deed) (c : ℕ) (f : Fate) → fate_after x c f ≡ in-progress → (f ≡ in-progress) × (ends_on x c ≡ false)
fate-kept x c committed e = absurd (committed-is-over e)
fate-kept x c given-up e = absurd (given-up-is-over e)
fate-kept (begins b) c in-progress e = (refl, refl)
fate-kept (reads b d v) c in-progress e = (refl, refl)
fate-kept (writes b d v) c in-progress e = (refl, refl)
fate-kept (waits b d) c in-progress e = (refl, refl)
fate-kept (commits b n) c in-progress e = (refl, spared (eqb b c) committed-is-over e)
fate-kept (told b) c in-progress e = (refl, refl)
fate-kept (gives b) c in-progress e = (refl, spared (eqb b c) given-up-is-over e)
fate-kept other c in-progress e = (refl, refl)

-- T begun on core c after the list early
module _ (o c : ℕ) (early : List Deed) where
  abbrev start : List Deed
  start = begins c ∷ early

  begins-here : begins_on (begins c) c ≡ true
  begins-here = eq-eqb c c refl

  in-progress-since : (since : List Deed) → Orderly o (since ++ start) → fate since c ≡ in-progress
      → (in_progress (since ++ start) c ≡ true) × (born (since ++ start) c ≡ births early)
  unfolding in_progress fate
  in-progress-since [] a e = (rw begins-here, born-begun (begins c) early c begins-here)
  in-progress-since (x ∷ since) a e =
      let (f, no_end) = fate-kept x c (fate since c) e in
      let (p, q) = in-progress-since since a.1 f in
      let no-begin = going-not-begun o x (since ++ start) c a.0 p in
      (going_on x (since ++ start) c no_end p, born-kept x (since ++ start) c no-begin ∙ q)

  module _ (l : ℕ) where
    -- the newest moment
    at-most-now : (since : List Deed) → AtMost l (births early) start since
        → (b : ℕ) → among (births early) (since ++ start) b ≡ true → length (attempt (since ++ start) b) ≤ l
    at-most-now [] m = m
    at-most-now (x ∷ since) m = m.0

    moment : (since : List Deed) → Orderly o (since ++ start) → AtMost l (births early) start since → fate since c ≡ in-progress
        → Moment o (l + 2) (births early) c (since ++ start)
    moment since a m f =
        let (p, q) = in-progress-since since a f in
        record { orderly = a; going = p; number = q; short = λ b e. omega (arith, at-most-now since m b e) }

    -- every moment from the begin on
    moments : (since : List Deed) → Orderly o (since ++ start) → AtMost l (births early) start since → fate since c ≡ in-progress
        → Steady o (l + 2) (births early) c (since ++ start)
    unfolding fate
    moments since a m f [] now e n = rw e at (moment since a m f)
    moments [] a m f (x ∷ late) now e n = absurd (omega (arith, births-late late now, ap (λ r. births (tail r)) e))
    moments (y ∷ since) a m f (x ∷ late) now e n =
        moments since a.1 m.1 (fate-kept y c (fate since c) f).0 late now (ap tail e) n

    -- at the begin there are at most those in progress before, and T
    start_fits : (l + 2) * tally 16 (among (births early) start) ≤ (tally 16 (in_progress early) + 1) * (l + 2)
    start_fits =
        let one_more = tally-but-one 16 (among (births early) start) (in_progress early) c others in
        rw (mul_comm (tally 16 (in_progress early) + 1) (l + 2)) (mul-le-mul_left (l + 2) (omega arith))
      where
        others : (b : ℕ) → (b ≡ c → ⊥) → among (births early) start b ≡ true → in_progress early b ≡ true
        others b differ e = go (going (begins c) early b (among-going (births early) start b e))
          where
            go : Going (begins c) early b → in_progress early b ≡ true
            go (begun f) = absurd (differ (sym (eqb-true c b f)))
            go (kept f g p) = p

    -- after that many rounds it is no longer in progress
    pub not-in-progress : (since : List Deed) → Orderly o (since ++ start) → AtMost l (births early) start since
        → Rounds (births early) start ((tally 16 (in_progress early) + 1) * (l + 2)) (since ++ start) → fate since c ≡ in-progress → ⊥
    not-in-progress since a m r f =
        let steady = moments since a m f in
        let first = steady since start refl (omega (arith, births-begun (begins c) early c begins-here)) in
        out-of-rounds o (l + 2) (births early) c ((tally 16 (in_progress early) + 1) * (l + 2)) first start_fits r steady
