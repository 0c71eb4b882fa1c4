-- Demand 3 of every transaction begun in an orderly list.
use Rattle.std.proofs.Common.{◌≡◌, ℕ, List, ◌∷◌, ◌++◌, refl, ◌∙◌, append_assoc}
use Rattle.machine.specs.Words.{Deed, begins, waits, commits, told}
use Rattle.machine.specs.Rounds.{Fate, in-progress, committed, given-up, fate}
use Rattle.machine.specs.Claims.{Served}
use Rattle.machine.proofs.Run.Orderly.{Orderly}
use Rattle.machine.proofs.Run.Moments.{orderly-early}
use Rattle.machine.proofs.Run.Strikes.{struck-at-most-ahead}
use Rattle.machine.proofs.Run.Fates.{not-in-progress}

-- what is neither in progress nor given up is committed
committed-else : (f : Fate) → (f ≡ in-progress → ⊥) → (f ≡ given-up → ⊥) → f ≡ committed
committed-else in-progress p q = absurd (p refl)
committed-else committed p q = refl
committed-else given-up p q = absurd (q refl)

pub served : (o : ℕ) (h : List Deed) → Orderly o h → Served h
served o h a =
    record {
      at_most_k = λ late early c e. struck-at-most-ahead o early c (at-moment late early e);
      never_by_later = λ late early b n c e. (at-moment late (commits b n ∷ early) e).0.strikes-later c;
      waits_behind = λ late early c e q.
          let w = (at-moment late (waits c e ∷ early) q).0 in
          (w.going, w.earlier, w.in-conflict);
      none_before = λ late early c e b q. (at-moment late (waits c e ∷ early) q).0.first b;
      no_readonly_waits = λ late early c e q. (at-moment late (waits c e ∷ early) q).0.has-written;
      reported = λ late early c n e.
          let k = (at-moment late (commits c n ∷ early) e).0 in
          (k.reports, k.reports ∙ k.acting.all_told);
      told_a_strike = λ late early c e.
          let t = (at-moment late (told c ∷ early) e).0 in
          (t.1, t.2);
      within_rounds = λ late since early c l e m r.
          let now = at-moment late (since ++ begins c ∷ early) (e ∙ append_assoc late since (begins c ∷ early)) in
          committed-else (fate since c) (not-in-progress o c early l since now m r);
    }
  where
    at-moment : (late early : List Deed) → h ≡ late ++ early → Orderly o early
    at-moment late early e = orderly-early o h late early e a
