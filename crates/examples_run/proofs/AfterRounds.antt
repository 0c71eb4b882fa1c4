-- A run in which so many rounds have passed since T's begin, and a computed test that finds that one has.
use Rattle.std.proofs.Common.{◌≡◌, ℕ, suc, ◌*◌, Bool, true, ◌&&◌, eqb, ltb, List, [], ◌∷◌, ◌++◌, length, get_or, take, drop, replicate, sym, refl, ap, ◌∙◌, subst, true≢false, arith, take-append-drop, drop-cons, ltb-true, eqb-true}
use Rattle.objset.proofs.Laws.{both_left, both_right}
use Rattle.one_core.specs.declared.Answer.TheVariants.{Ready}
use Rattle.one_core.specs.Parts.{most_cores}
use Rattle.machine.specs.Record.{tally}
use Rattle.machine.specs.Rule.{World, Call, setup}
use Rattle.machine.specs.Words.{Event, Deed, begins, reads, writes, waits, commits, told, gives, other, deeds, begins_on, in_progress, births}
use Rattle.machine.specs.Rounds.{Rounds, Fate, in-progress, committed, given-up, fate, AtMost}
use Rattle.machine.specs.Claims.{Run, fresh}
use Rattle.machine.proofs.Run.ShortAttempts.{all_short, at_most}
use Rattle.machine.proofs.Run.CountedRounds.{all_rounds, all-rounds}
use Rattle.machine.proofs.Run.EveryList.{played, played-runs}
use Rattle.examples_run.proofs.Played.{start}

-- a run in which T is begun with k earlier ones in progress, no attempt of T or of those k has more than l reads and writes, and what
-- has become of T after n rounds is f
pub record After (k l n : ℕ) (f : Fate) : Type 0 where
  pub cores : ℕ
  pub objects : ℕ
  pub cards : List ℕ
  pub pending : List ℕ
  pub ready : (setup cores objects cards pending).answer ≡ Ready
  pub es : List Event
  pub w : World
  pub run : Run (setup cores objects cards pending).world es w
  -- T's core, the deeds before its begin, and those since
  pub c : ℕ
  pub early : List Deed
  pub since : List Deed
  pub those : deeds es ≡ since ++ begins c ∷ early
  pub k-earlier : tally most_cores (in_progress early) ≡ k
  pub at-most-l : AtMost l (births early) (begins c ∷ early) since
  pub rounds : Rounds (births early) (begins c ∷ early) n (since ++ begins c ∷ early)
  pub becomes : fate since c ≡ f

-- ---- the test

-- which case it is
unfoldable pub place : Fate → ℕ
place in-progress = 0
place committed = 1
place given-up = 2

same_place : (f g : Fate) → place f ≡ place g → f ≡ g
unfolding place
same_place in-progress in-progress e = refl
same_place in-progress committed e = absurd (omega arith)
same_place in-progress given-up e = absurd (omega arith)
same_place committed in-progress e = absurd (omega arith)
same_place committed committed e = refl
same_place committed given-up e = absurd (omega arith)
same_place given-up in-progress e = absurd (omega arith)
same_place given-up committed e = absurd (omega arith)
same_place given-up given-up e = refl

-- of deeds, newest first: the last m come after T's begin on core c, and rounds of these lengths, the newest first, end them; what has
-- become of T is f; with k earlier ones in progress at its begin, and at most l reads and writes in an attempt
unfoldable pub fits : ℕ → ℕ → List ℕ → Fate → ℕ → ℕ → List Deed → Bool
fits c m lengths f k l h =
    let since : List Deed = take m h in
    let from : List Deed = drop m h in
    let early : List Deed = drop (suc m) h in
    ltb m (length h) && (begins_on (get_or h m other) c && (eqb (tally most_cores (in_progress early)) k
    && (eqb (place (fate since c)) (place f) && (all_short most_cores l from since && all_rounds (births early) from lengths since))))

begun-is : (x : Deed) (c : ℕ) → begins_on x c ≡ true → x ≡ begins c
begun-is (begins b) c e = rw (eqb-true b c e)
begun-is (reads b d v) c e = absurd (true≢false (sym e))
begun-is (writes b d v) c e = absurd (true≢false (sym e))
begun-is (waits b d) c e = absurd (true≢false (sym e))
begun-is (commits b n) c e = absurd (true≢false (sym e))
begun-is (told b) c e = absurd (true≢false (sym e))
begun-is (gives b) c e = absurd (true≢false (sym e))
begun-is other c e = absurd (true≢false (sym e))

-- where the deeds of calls played after a setup fit, theirs is such a run
pub fitting : (cores objects : ℕ) (xs : List Call) (c m : ℕ) (lengths : List ℕ) (f : Fate) (k l : ℕ)
    → (setup cores objects (replicate objects 7) (replicate (cores * objects) 7)).answer ≡ Ready
    → fits c m lengths f k l (deeds (played (start cores objects) [] xs)) ≡ true → After k l (length lengths) f
unfolding fits
fitting cores objects xs c m lengths f k l ready e =
    let (w, run) = played-runs (start cores objects) (start cores objects) [] fresh xs in
    let es : List Event = played (start cores objects) [] xs in
    let h : List Deed = deeds es in
    let since : List Deed = take m h in
    let early : List Deed = drop (suc m) h in
    let e₁ = both_right (ltb m (length h)) _ e in
    let e₂ = both_right (begins_on (get_or h m other) c) _ e₁ in
    let e₃ = both_right (eqb (tally most_cores (in_progress early)) k) _ e₂ in
    let e₄ = both_right (eqb (place (fate since c)) (place f)) _ e₃ in
    let from : drop m h ≡ begins c ∷ early =
    drop-cons h m other (ltb-true m (length h) (both_left (ltb m (length h)) _ e))
    ∙ ap (λ (x : Deed). x ∷ early) (begun-is (get_or h m other) c (both_left (begins_on (get_or h m other) c) _ e₁)) in
    let brief = both_left (all_short most_cores l (drop m h) since) _ e₄ in
    let passed = both_right (all_short most_cores l (drop m h) since) _ e₄ in
    record {
      cores = cores;
      objects = objects;
      cards = replicate objects 7;
      pending = replicate (cores * objects) 7;
      ready = ready;
      es = es;
      w = w;
      run = run;
      c = c;
      early = early;
      since = since;
      those = sym (take-append-drop m h) ∙ ap (λ (r : List Deed). since ++ r) from;
      k-earlier = eqb-true (tally most_cores (in_progress early)) k (both_left (eqb (tally most_cores (in_progress early)) k) _ e₂);
      at-most-l = at_most most_cores l (births early) (begins c ∷ early) since (subst (λ (r : List Deed). all_short most_cores l r since ≡ true) from brief);
      rounds =
          all-rounds (births early) (begins c ∷ early) lengths since
          (subst (λ (r : List Deed). all_rounds (births early) r lengths since ≡ true) from passed);
      becomes = same_place (fate since c) f (eqb-true (place (fate since c)) (place f) (both_left (eqb (place (fate since c)) (place f)) _ e₃));
    }
