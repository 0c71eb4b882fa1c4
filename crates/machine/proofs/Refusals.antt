-- Refusals: the smallest number that applies is given, and only if its condition holds; a refused call changes nothing, a refused
-- setup gives the blank record.
use Rattle.std.proofs.Common.{◌≡◌, ℕ, zero, suc, ◌<◌, ◌≤◌, Bool, true, false, cond, ◌&&◌, ◌||◌, eqb, ltb, List, [], ◌∷◌, sym, refl, ap, ◌∙◌, ap₂, true≢false, arith, ltb-true, eq-eqb, eqb-true}
use mathlib.Core.Bool.{and-false}
use Rattle.objset.proofs.Laws.{both_left, both_right}
use Rattle.machine.specs.declared.Machine.{Machine}
use Rattle.one_core.specs.declared.Answer.{Answer}
use Rattle.one_core.specs.declared.Answer.TheVariants.{Running, Queued, Refused}
use Rattle.machine.specs.declared.Outcome.{Outcome}
use Rattle.machine.specs.Record.{core_at, blank}
use Rattle.one_core.specs.Parts.{running}
use Rattle.machine.specs.Answers.{refusal_number}
use Rattle.machine.specs.Rule.{commit_refusal, World, Result, lent, unlent, unless, unless_lent, setup, released, release, begun, begin, set_back_told, access_refusal, valued, read, written, write, must_wait, through, waiting, commit, ended, give_up, finished, finish, rule, Call, Release, Begin, Read, Write, Commit, GiveUp, Finish}
use Rattle.one_core.specs.Calls.{first}
use Rattle.one_core.specs.Life.{with_job}
use Rattle.machine.specs.Refusals.{refusals, setup_refusals, applies, Smallest}

-- ---- the first condition that holds has the smallest number

-- the numbers rise, from above k
unfoldable pub rising : ℕ → List (Bool × ℕ) → Bool
rising k [] = true
rising k (x ∷ xs) = ltb k x.1 && rising x.1 xs

-- a number that applies by the row x, or by later rows with greater numbers
at_least : (x : Bool × ℕ) (n : ℕ) (later : Bool) → (eqb x.1 n && x.0 || later) ≡ true → (later ≡ true → x.1 < n) → x.1 ≤ n
at_least x n later p more = go (eqb x.1 n && x.0) refl p
  where
    go : (b : Bool) → (eqb x.1 n && x.0) ≡ b → (b || later) ≡ true → x.1 ≤ n
    go true e q = omega (arith, eqb-true x.1 n (both_left (eqb x.1 n) x.0 e))
    go false e q = omega (arith, more q)

above : (k n : ℕ) (xs : List (Bool × ℕ)) → rising k xs ≡ true → applies n xs ≡ true → k < n
unfolding rising applies
above k n [] up p = absurd (true≢false (sym p))
above k n (x ∷ xs) up p =
    omega (
      arith,
      ltb-true k x.1 (both_left (ltb k x.1) (rising x.1 xs) up),
      at_least x n (applies n xs) p (above x.1 n xs (both_right (ltb k x.1) (rising x.1 xs) up)),
    )

first-smallest : (k : ℕ) (xs : List (Bool × ℕ)) → rising k xs ≡ true → Smallest (first xs) xs
unfolding first rising applies
first-smallest k [] up = record { it_applies = λ l. absurd (omega (arith, l)); none_smaller = λ n p. absurd (true≢false (sym p)) }
first-smallest k (x ∷ xs) up = go x.0 refl (first-smallest x.1 xs later)
  where
    later : rising x.1 xs ≡ true
    later = both_right (ltb k x.1) (rising x.1 xs) up

    go : (b : Bool) → x.0 ≡ b → Smallest (first xs) xs → Smallest (cond b x.1 (first xs)) (x ∷ xs)
    go true e more =
        record {
          it_applies = λ l. ap (λ b. b || applies x.1 xs) (ap₂ ◌&&◌ (eq-eqb x.1 x.1 refl) e);
          none_smaller =
              λ n p. (
                omega (arith, ltb-true k x.1 (both_left (ltb k x.1) (rising x.1 xs) up)),
                at_least x n (applies n xs) p (above x.1 n xs later),
              );
        }
    go false e more =
        let skips : (n : ℕ) → applies n (x ∷ xs) ≡ applies n xs =
        λ n. ap (λ b. b || applies n xs) (ap (λ b. eqb x.1 n && b) e ∙ and-false (eqb x.1 n)) in
        record {
          it_applies = λ l. skips (first xs) ∙ more.it_applies l;
          none_smaller = λ n p. more.none_smaller n (sym (skips n) ∙ p);
        }

-- no number applies: the first condition does not hold, nor do the others
pub passed : (b : Bool) (n : ℕ) (xs : List (Bool × ℕ)) → first ((b, suc n) ∷ xs) ≡ 0 → (b ≡ false) × (first xs ≡ 0)
unfolding first
passed true n xs e = absurd (omega arith)
passed false n xs e = (refl, e)

-- ---- read, write and commit test in the order of document 01's numbers

access-in-order : (w : World) (c d : ℕ) → access_refusal w c d ≡ first (refusals w (Read c d))
unfolding access_refusal refusals first
access-in-order w c d = refl

commit-in-order : (w : World) (c : ℕ) → commit_refusal w c ≡ first (refusals w (Commit c))
unfolding commit_refusal refusals first
commit-in-order w c = refl

-- ---- an accepted call gives no number

-- an answer that is no refusal
abbrev Accepted : Answer → Type 0
Accepted a = refusal_number a ≡ 0

accepted-release : (m : Machine) (c n deadline : ℕ) → Accepted (released m c (record { number = n; deadline = deadline })).answer
unfolding released refusal_number
accepted-release m c n deadline = go (eqb (running (with_job (core_at m c) (record { number = n; deadline = deadline }))) (core_at m c).count)
  where
    go : (b : Bool) → Accepted (cond b Running Queued)
    go true = refl
    go false = refl

accepted-access : (z : Bool) (w : World) (c : ℕ) (x : Result) → Accepted x.answer → Accepted (cond z (set_back_told w c) x).answer
unfolding set_back_told refusal_number
accepted-access true w c x h = refl
accepted-access false w c x h = h

accepted-commit : (b : Bool) (w : World) (c : ℕ) → Accepted (cond b (waiting w c) (through w c)).answer
unfolding through refusal_number
accepted-commit true w c = refl
accepted-commit false w c = refl

-- ---- the number given, and what a refused call leaves

-- a refusal with number n leaves what was there
abbrev kept : ℕ → World → Result
kept n w = record { answer = Refused n; world = w }

-- the number is r; a refusal leaves what was there
unless-refuses : (r : ℕ) (w : World) (o : Outcome) → Accepted o.answer
    → (refusal_number (unless r w.machine o).answer ≡ r)
    × ((n : ℕ) → refusal_number (unless r w.machine o).answer ≡ suc n → unlent w (unless r w.machine o) ≡ kept (suc n) w)
unfolding unless refusal_number
unless-refuses zero w o h = (h, λ n p. absurd (omega (arith, h, p)))
unless-refuses (suc r) w o h = (refl, λ n p. ap (λ (x : ℕ). kept x w) p)

lent-refuses : (r : ℕ) (w : World) (x : Result) → Accepted x.answer
    → (refusal_number (unless_lent r w x).answer ≡ r) × ((n : ℕ) → refusal_number (unless_lent r w x).answer ≡ suc n → unless_lent r w x ≡ kept (suc n) w)
unfolding unless_lent refusal_number
lent-refuses zero w x h = (h, λ n p. absurd (omega (arith, h, p)))
lent-refuses (suc r) w x h = (refl, λ n p. ap (λ (y : ℕ). kept y w) p)

-- the number is that of the first condition in document 01's table that holds; a refused call leaves the world as it was
refuses : (w : World) (call : Call)
    → (refusal_number (rule w call).answer ≡ first (refusals w call))
    × ((n : ℕ) → refusal_number (rule w call).answer ≡ suc n → rule w call ≡ kept (suc n) w)
unfolding rule refusals first release begin read write commit give_up finish
refuses w (Release c n deadline) = unless-refuses _ w _ (accepted-release w.machine c n deadline)
refuses w (Begin c) = unless-refuses _ w (begun w.machine c) (unfold begun refusal_number in refl)
refuses w (Read c d) =
    let r = lent-refuses (access_refusal w c d) w _ (accepted-access (core_at w.machine c).zombie w c (valued w c d) (unfold valued refusal_number in refl)) in
    (r.0 ∙ access-in-order w c d, r.1)
refuses w (Write c d v) =
    let r = lent-refuses (access_refusal w c d) w _ (accepted-access (core_at w.machine c).zombie w c (written w c d v) (unfold written refusal_number in refl)) in
    (r.0 ∙ access-in-order w c d, r.1)
refuses w (Commit c) =
    let r = lent-refuses (commit_refusal w c) w _ (accepted-access (core_at w.machine c).zombie w c _ (accepted-commit (must_wait w.machine c) w c)) in
    (r.0 ∙ commit-in-order w c, r.1)
refuses w (GiveUp c) = unless-refuses _ w (ended w.machine c) (unfold ended refusal_number in refl)
refuses w (Finish c) = unless-refuses _ w (finished w.machine c) (unfold finished refusal_number in refl)

-- the same of setup, which leaves the blank record and the tables as lent
setup-refuses : (cores objects : ℕ) (committed pending : List ℕ)
    → (refusal_number (setup cores objects committed pending).answer ≡ first (setup_refusals cores objects committed pending))
    × ((n : ℕ) → refusal_number (setup cores objects committed pending).answer ≡ suc n
    → setup cores objects committed pending ≡ kept (suc n) (lent blank committed pending))
unfolding setup setup_refusals
setup-refuses cores objects committed pending = lent-refuses _ _ _ (unfold refusal_number in refl)

-- ---- for callers

-- the smallest number that applies is given, and only if its condition holds
pub smallest-given : (w : World) (call : Call) → Smallest (refusal_number (rule w call).answer) (refusals w call)
smallest-given w call = rw (refuses w call).0 (first-smallest 0 (refusals w call) (unfold refusals rising in refl))

pub setup-smallest-given : (cores objects : ℕ) (committed pending : List ℕ)
    → Smallest (refusal_number (setup cores objects committed pending).answer) (setup_refusals cores objects committed pending)
setup-smallest-given cores objects committed pending =
    rw (setup-refuses cores objects committed pending).0
    (first-smallest 0 (setup_refusals cores objects committed pending) (unfold setup_refusals rising in refl))

-- a refused call gives back the record it took, and lent tables keep every word
pub refused-unchanged : (w : World) (call : Call) (n : ℕ) → refusal_number (rule w call).answer ≡ suc n → (rule w call).world ≡ w
refused-unchanged w call n p = ap (λ (x : Result). x.world) ((refuses w call).1 n p)

-- where the first condition that holds has number n, that is the answer
pub refused-with : (w : World) (call : Call) (n : ℕ) → first (refusals w call) ≡ suc n → record { answer = Refused (suc n); world = w } ≡ rule w call
refused-with w call n p = sym ((refuses w call).1 n ((refuses w call).0 ∙ p))

-- a refused setup gives the blank record and keeps the tables as lent
pub setup-refused-blank : (cores objects : ℕ) (committed pending : List ℕ) (n : ℕ)
    → refusal_number (setup cores objects committed pending).answer ≡ suc n
    → (setup cores objects committed pending).world ≡ lent blank committed pending
setup-refused-blank cores objects committed pending n p = ap (λ (x : Result). x.world) ((setup-refuses cores objects committed pending).1 n p)
