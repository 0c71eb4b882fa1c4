-- The claim about whole runs holds.
use Rattle.std.proofs.Common.{◌≡◌, ℕ, List, [], ◌∷◌, ◌++◌, get_or, sym, refl, ap, ◌∙◌, subst, arith}
use Rattle.machine.specs.declared.Outcome.{Outcome}
use Rattle.one_core.specs.declared.Answer.{Answer}
use Rattle.one_core.specs.declared.Answer.TheVariants.{Ready, Value}
use Rattle.machine.specs.Rule as Rule
use Rattle.machine.specs.Rule.{World, lent, left, Call, Read, Commit, rule}
use Rattle.machine.specs.Follows.{Follows}
use Rattle.machine.proofs.CaseOf.{case-of}
use Rattle.machine.proofs.Case.{Case, is-refused, is-released, is-begun, is-told, is-valued, is-written, is-waiting, is-through, is-ended, is-finished, setup-case}
use Rattle.machine.specs.Words.{Event, Deed, deeds}
use Rattle.machine.specs.Serial.{serial, version}
use Rattle.machine.specs.Claims.{Run, fresh, then, worked, ByTheRule, Claim, EveryRun}
use Rattle.machine.proofs.Run.Served.{served}
use Rattle.machine.proofs.Run.Serially.{serially}
use Rattle.machine.specs.Inside.{WellFormedWorld}
use Rattle.machine.proofs.Sound.Keeps.{keeps-good, setup-good}
use Rattle.machine.proofs.Run.Agreement.{Agree}
use Rattle.machine.proofs.Run.ReadOnly.{readonly-through}
use Rattle.machine.proofs.Run.Steps.{agree_fresh, run-agrees}

-- ---- a run cut in two

-- the newest call of a run
last-call : {w₀ w : World} {es : List Event} → Run w₀ es w → (e : Event) (early : List Event) → es ≡ e ∷ early
    → (v : World) × Run w₀ early v × Follows v e.call e.answer w
last-call fresh e early p = let z : ◌≡◌ {A = ℕ} 0 1 = cc in absurd (omega arith)
last-call {w₀} {w} (then {es = es} {w = v} call a run f) e early p =
    let tail : es ≡ early = cc in
    let head : record { call = call; answer = a } ≡ e = cc in
    (v, rw tail at run, subst (λ (x : Event). Follows v x.call x.answer w) head f)

-- the world that it passed through after the early calls, and the two runs that meet there
run-through : {w₀ w : World} {es : List Event} (late early : List Event) → Run w₀ es w → es ≡ late ++ early
    → (v : World) × Run w₀ early v × Run v late w
run-through {w = w} [] early run p = (w, rw p at run, fresh)
run-through {w₀ = w₀} {w = w} (x ∷ late) early run p =
    let l = last-call run x (late ++ early) p in
    let r = run-through {w₀ = w₀} {w = l.0} late early l.1 refl in
    (r.0, r.1, then x.call x.answer r.2 l.2)

-- ---- worked over the calls alone

run-worked : {w₀ w : World} {es : List Event} → Run w₀ es w → w ≡ worked w₀ es
unfolding worked
run-worked fresh = refl
run-worked (then call a run f) =
    f.world_is ∙ ap (λ (u : World). (rule u call).world) (run-worked run)

by_the_rule : {w₀ w : World} {es : List Event} → Run w₀ es w → ByTheRule w₀ es w
by_the_rule {w₀} run =
    record {
      world_worked = run-worked run;
      passed_worked = λ late early p. let r = run-through late early run p in (r.0, r.1, r.2, run-worked r.1);
      answers_worked =
          λ late early e p.
          let r = run-through late (e ∷ early) run p in
          let l = last-call r.1 e early refl in
          l.2.answer_is ∙ ap (λ (u : World). (rule u e.call).answer) (run-worked l.1);
    }

-- ---- the version that a read gives

read-version : {o : ℕ} {w w' : World} {h : List Deed} {call : Call} {a : Answer} → Agree o w h → Case w call a w'
    → (c d v n : ℕ) → call ≡ Read c d → a ≡ Value v n → n ≡ version h d
unfolding Rule.valued Rule.through
read-version g is-refused c d v n p q = let z : ◌≡◌ {A = ℕ} 0 1 = cc in absurd (omega arith)
read-version g (is-released ok room) c d v n p q = let z : ◌≡◌ {A = ℕ} 0 1 = cc in absurd (omega arith)
read-version g (is-begun ok job idle few) c d v n p q = let z : ◌≡◌ {A = ℕ} 0 1 = cc in absurd (omega arith)
read-version g (is-told asks ok z) c d v n p q = let z : ◌≡◌ {A = ℕ} 0 1 = cc in absurd (omega arith)
read-version {w = w} {h = h} g (is-valued {d = e} ok he z) c d v n p q =
    let same : e ≡ d = cc in
    let there : get_or w.machine.versions e 0 ≡ n = cc in
    sym there ∙ g.same_versions e (omega (arith, g.same-objects)) ∙ ap (version h) same
read-version g (is-written ok he z) c d v n p q = let z : ◌≡◌ {A = ℕ} 0 1 = cc in absurd (omega arith)
read-version g (is-waiting ok z wrote ahead) c d v n p q = let z : ◌≡◌ {A = ℕ} 0 1 = cc in absurd (omega arith)
read-version g (is-through ok z free) c d v n p q = let z : ◌≡◌ {A = ℕ} 0 1 = cc in absurd (omega arith)
read-version g (is-ended ok going) c d v n p q = let z : ◌≡◌ {A = ℕ} 0 1 = cc in absurd (omega arith)
read-version g (is-finished ok job idle) c d v n p q = let z : ◌≡◌ {A = ℕ} 0 1 = cc in absurd (omega arith)

-- ---- every world that a run passes through is good

run-good : {w₀ w : World} {es : List Event} → WellFormedWorld w₀ → Run w₀ es w → WellFormedWorld w
run-good g fresh = g
run-good g (then call a run f) = keeps-good (case-of f) (run-good g run)

-- ---- the whole claim

pub whole_run : (cores objects : ℕ) (committed pending : List ℕ) → (Rule.setup cores objects committed pending).answer ≡ Ready
    → {es : List Event} {w : World} → Run (Rule.setup cores objects committed pending).world es w
    → Claim (Rule.setup cores objects committed pending).world es w
whole_run cores objects committed pending ready {es} {w} run =
    let new = setup-case cores objects committed pending ready in
    let a : Agree objects (Rule.setup cores objects committed pending).world [] =
    subst (λ (u : World). Agree objects u []) (sym new.1) (agree_fresh cores objects new.0) in
    let o = (run-agrees a run).1 in
    let same = a.same-objects in
    record {
      by_the_rule = by_the_rule run;
      served = served objects (deeds es) o;
      read_only =
          record {
            readonly_commits =
                λ late early c x p.
                let r = run-through late (record { call = Commit c; answer = x } ∷ early) run p in
                let l = last-call r.1 (record { call = Commit c; answer = x }) early refl in
                readonly-through (run-good (setup-good cores objects committed pending ready) l.1) (run-agrees a l.1) c l.2;
          };
      serially = rw same (serially objects (deeds es) a.objects-few o);
      same_cards =
          λ late early p.
          let r = run-through late early run p in
          ap (λ (u : World). u.committed) (sym (run-worked r.1)) ∙ (run-agrees a r.1).0.same-committed
          ∙ ap (λ (n : ℕ). serial n (deeds early)) (sym same);
      same_versions =
          λ late early c d v n p.
          let r = run-through late (record { call = Read c d; answer = Value v n } ∷ early) run p in
          let l = last-call r.1 (record { call = Read c d; answer = Value v n }) early refl in
          read-version (run-agrees a l.1).0 (case-of l.2) c d v n refl refl;
    }

-- what setup hands back, with the tables as it left them: every list of calls that follows keeps the claim
pub every-run : (cores objects : ℕ) (committed pending : List ℕ) (r : Outcome) (cs ps : List ℕ)
    → left r cs ps ≡ Rule.setup cores objects committed pending → r.answer ≡ Ready → EveryRun (lent r.machine cs ps)
every-run cores objects committed pending r cs ps e ready =
    subst EveryRun (sym (ap (λ (x : Rule.Result). x.world) e))
    (record {
      claimed = λ es w run. whole_run cores objects committed pending (sym (ap (λ (x : Rule.Result). x.answer) e) ∙ ready) run;
    })
