-- A list of calls, one number after another: what is left of the list, run from where the loop is, gives what the whole list gives.
use Rattle.std.proofs.Common.{◌≡◌, ℕ, suc, ◌+◌, ◌/◌, ◌%◌, ◌<◌, ◌≤◌, List, [], ◌∷◌, length, get_or, drop, sym, refl, ap, ◌∙◌, subst, arith, drop_of_length-le, drop-cons, eq-eqb, ne_eqb}
use Rattle.machine.specs.Rule.{World, Result, lent, left, with_machine}
use Rattle.machine.specs.Answers.{kind}
use Rattle.machine.specs.declared.Machine.{Machine}
use Rattle.machine.specs.declared.Outcome.{Outcome}
use Rattle.one_core.specs.declared.Answer.{Answer}
use Rattle.one_core.specs.declared.Answer.TheVariants.{Ready, Running, Queued, Begun, Value, Written, Waits, Committed, SetBack, Ended, Finished, Refused}
use Rattle.bench_calls.specs.Lists.{number_of, door, inside, Progress, after_call, ready, after_number, run, door_run, inside_run}

-- where the loop is
abbrev pub state : Answer → Machine → List ℕ → List ℕ → Machine → Progress
state last m cs ps kept = record { last = number_of last; world = lent m cs ps; kept = kept }

module _ (step : World → ℕ → ℕ → Result) where
  run_none : (s : Progress) → run step s [] ≡ s
  unfolding run
  run_none s = refl

  run-first : (s : Progress) (x : ℕ) (xs : List ℕ) → run step s (x ∷ xs) ≡ run step (after_number step s x) xs
  unfolding run
  run-first s x xs = refl

  next-saves : (s : Progress) (x : ℕ) → x % 16 ≡ 0
      → record { last = s.last; world = s.world; kept = s.world.machine } ≡ after_number step s x
  unfolding after_number
  next-saves s x e = rw (eq-eqb (x % 16) 0 e) refl

  next-restores : (s : Progress) (x : ℕ) → x % 16 ≡ 1
      → record { last = s.last; world = with_machine s.world s.kept; kept = s.kept } ≡ after_number step s x
  unfolding after_number
  next-restores s x e = rw (ne_eqb (x % 16) 0 (λ z. omega (arith, e, z)), eq-eqb (x % 16) 1 e) refl

  next-calls : (s : Progress) (x : ℕ) → (x % 16 ≡ 0 → ⊥) → (x % 16 ≡ 1 → ⊥)
      → after_call (step s.world (x % 16) (x / 16)) s.kept ≡ after_number step s x
  unfolding after_number
  next-calls s x n0 n1 = rw (ne_eqb (x % 16) 0 n0, ne_eqb (x % 16) 1 n1) refl

module _ (step : World → ℕ → ℕ → Result) (t : Progress) (list : List ℕ) (i : ℕ) (s : Progress) (here : run step s (drop i list) ≡ t) where
  pub list-ends : length list ≤ i → s ≡ t
  list-ends h = sym (run_none step s) ∙ ap (run step s) (sym (drop_of_length-le list {i = i} h)) ∙ here

  module _ (h : i < length list) where
    -- the list's next number
    abbrev x : ℕ
    x = get_or list i 0

    one_more : suc i ≡ i + 1
    one_more = omega arith

    moved : (s' : Progress) → s' ≡ after_number step s x → run step s' (drop (i + 1) list) ≡ t
    moved s' e =
        ap (λ (y : Progress). run step y (drop (i + 1) list)) e ∙ sym (run-first step s x (drop (i + 1) list))
        ∙ ap (run step s) (sym (drop-cons list i 0 h ∙ ap (λ (n : ℕ). x ∷ drop n list) one_more)) ∙ here

    pub saves : x % 16 ≡ 0 → run step (record { last = s.last; world = s.world; kept = s.world.machine }) (drop (i + 1) list) ≡ t
    saves e = moved _ (next-saves step s x e)

    pub restores : x % 16 ≡ 1
        → run step (record { last = s.last; world = with_machine s.world s.kept; kept = s.kept }) (drop (i + 1) list) ≡ t
    restores e = moved _ (next-restores step s x e)

    pub calls : (x % 16 ≡ 0 → ⊥) → (x % 16 ≡ 1 → ⊥) → (r : Outcome) (cs ps : List ℕ) → left r cs ps ≡ step s.world (x % 16) (x / 16)
        → run step (state r.answer r.machine cs ps s.kept) (drop (i + 1) list) ≡ t
    calls n0 n1 r cs ps e = moved _ (ap (λ (y : Result). after_call y s.kept) e ∙ next-calls step s x n0 n1)

-- ---- after setup

pub door-starts : (made : Result) (o : Outcome) (cs ps list : List ℕ) → left o cs ps ≡ made
    → run door (state o.answer o.machine cs ps o.machine) list ≡ door_run made list
door-starts made o cs ps list e =
    subst (λ (y : Result). run door (state o.answer o.machine cs ps o.machine) list ≡ door_run y list) e (unfold door_run in refl)

pub inside-ready : (made : Result) (o : Outcome) (cs ps list : List ℕ) → left o cs ps ≡ made → o.answer ≡ Ready
    → run inside (ready (lent o.machine cs ps)) list ≡ inside_run made list
inside-ready made o cs ps list e said =
    subst (λ (y : Result). run inside (ready (lent o.machine cs ps)) list ≡ inside_run y list) e
    (unfold inside_run kind in rw said refl)

not-ready : (a : Answer) → (a ≡ Ready → ⊥) → kind a ≡ 0 → ⊥
unfolding kind
not-ready Ready k e = absurd (k refl)
not-ready Running k e = omega (arith, e)
not-ready Queued k e = omega (arith, e)
not-ready (Begun t) k e = omega (arith, e)
not-ready (Value v n) k e = omega (arith, e)
not-ready Written k e = omega (arith, e)
not-ready (Waits c) k e = omega (arith, e)
not-ready (Committed n) k e = omega (arith, e)
not-ready SetBack k e = omega (arith, e)
not-ready Ended k e = omega (arith, e)
not-ready (Finished j) k e = omega (arith, e)
not-ready (Refused n) k e = omega (arith, e)

pub inside-refused : (made : Result) (o : Outcome) (cs ps list : List ℕ) → left o cs ps ≡ made
    → (o.answer ≡ Ready → ⊥)
    → state o.answer o.machine cs ps o.machine ≡ inside_run made list
inside-refused made o cs ps list e k =
    subst (λ (y : Result). state o.answer o.machine cs ps o.machine ≡ inside_run y list) e
    (unfold inside_run in rw (ne_eqb (kind o.answer) 0 (not-ready o.answer k)) refl)
