-- The laws behind the soundness test of one core.
use Rattle.std.specs.Prelude.{◌≡◌, ℕ, ◌+◌, ◌-◌, ◌*◌, ◌<◌, ◌≤◌, Bool, true, false, not, ◌&&◌, ◌||◌, eqb, ltb, List, length, get_or, take, drop}
use Rattle.std.specs.List.{list_all, enumerate_from}
use mathlib.Core.Path.{refl, sym, ap, ap₂, ◌∙◌}
use mathlib.Core.Bool.{and_comm}
use native.Mathlib.Omega.{arith}
use native.Mathlib.Numerals.{add-one}
use lib.ListN.{length-drop}
use lib.Seq.{length-take-le, get_or-take, get_or-drop}
use Rattle.std.proofs.lemmas.List.{get_or_default}
use Rattle.std.proofs.lemmas.List.FromFn.{get_or-enumerate_from, length-enumerate_from}
use Rattle.std.proofs.lemmas.List.Sums.{AllPass-from_list_all, list_all-from_AllPass}
use lib.Bits.{bit_or, or_zero_l, or_add_and, and_le_r}
use borrow.Author.Tests.{ltb-true, eqb-true, eqb-false, eq-eqb, ne_eqb, lt-ltb}
use Rattle.objset.specs.Objset.{has, each, joined, below}
use Rattle.objset.proofs.Digits.{has-collect}
use Rattle.objset.proofs.Laws.{both_left, both_right, each-one, one_each}
use Rattle.one_core.specs.declared.Core.{Core}
use Rattle.one_core.specs.declared.Job.{Job}
use Rattle.one_core.specs.Parts.{no_job, job_at}
use Rattle.one_core.specs.Tidy.{◌⇒◌, empty_sets, zero_job, owner_first_on, blank_on}
use Rattle.one_core.proofs.TestLaws.{same_test, if-true, true-if, each_same, each_both}

-- ---- two sets together

-- a card of either set is below n if and only if it is so for both
either_below : (a b l : Bool) → (not (a || b) || l) ≡ ((not a || l) && (not b || l))
either_below true true true = refl
either_below true false true = refl
either_below true b false = refl
either_below false b l = refl

pub joined-below : (a b n : ℕ) → below (joined a b) n ≡ (below a n && below b n)
unfolding below joined
joined-below a b n =
    each_same 64 _ _
    (λ d l. ap (λ (h : Bool). not h || ltb d n) (has-collect 64 d (λ e. has a e || has b e) ∙ ap (λ (h : Bool). h && (has a d || has b d)) (lt-ltb d 64 l))
    ∙ either_below (has a d) (has b d) (ltb d n))
    ∙ each_both 64 _ _

-- ---- the jobs of a list

-- f holds of every job with its place if and only if it holds at each place
pub places-each : (f : ℕ × Job → Bool) (jobs : List Job) → length jobs ≡ 8 → list_all f (enumerate_from 0 jobs) ≡ each 8 (λ q. f (q, get_or jobs q no_job))
places-each f jobs long = same_test _ _ to from
  where
    at : (q : ℕ) (d : ℕ × Job) → q < 8 → get_or (enumerate_from 0 jobs) q d ≡ (q, get_or jobs q no_job)
    at q d l =
        let here : q < length jobs = omega arith in
        let place : 0 + q ≡ q = omega arith in
        get_or-enumerate_from 0 jobs q d here ∙ ap₂ (λ (a : ℕ) (b : Job). (a, b)) place (get_or_default jobs q d.1 no_job here)

    to : list_all f (enumerate_from 0 jobs) ≡ true → each 8 (λ q. f (q, get_or jobs q no_job)) ≡ true
    to h =
        one_each 8 _
        (λ q b. ap f (sym (at q (0, no_job) b))
        ∙ AllPass-from_list_all f (enumerate_from 0 jobs) h q (0, no_job) (omega (arith, length-enumerate_from 0 jobs)))

    from : each 8 (λ q. f (q, get_or jobs q no_job)) ≡ true → list_all f (enumerate_from 0 jobs) ≡ true
    from h =
        list_all-from_AllPass f (enumerate_from 0 jobs)
        (λ q d l. let here : q < 8 = omega (arith, length-enumerate_from 0 jobs) in ap f (at q d here) ∙ each-one 8 _ h q here)

-- f holds of every job of a part of the list, from place n on, if and only if it holds at each of its places, which g picks out
pub part-each : (f : Job → Bool) (g : ℕ → Bool) (jobs part : List Job) (n m : ℕ) → length jobs ≡ 8 → part ≡ take m (drop n jobs) → n + m ≤ 8
    → ((q : ℕ) → q < 8 → g q ≡ true → (n ≤ q) × (q < n + m)) → ((q : ℕ) → n ≤ q → q < n + m → g q ≡ true)
    → list_all f part ≡ each 8 (λ q. g q ⇒ f (get_or jobs q no_job))
part-each f g jobs part n m long e few inside picked = same_test _ _ to from
  where
    part_long : length part ≡ m
    part_long = ap length e ∙ length-take-le m (drop n jobs) (omega (arith, length-drop n jobs))

    at : (i : ℕ) (d : Job) → i < m → get_or part i d ≡ get_or jobs (n + i) no_job
    at i d l =
        ap (λ (xs : List Job). get_or xs i d) e ∙ get_or-take m (drop n jobs) i d l ∙ get_or-drop n jobs i d
        ∙ get_or_default jobs (n + i) d no_job (omega arith)

    to : list_all f part ≡ true → each 8 (λ q. g q ⇒ f (get_or jobs q no_job)) ≡ true
    to h =
        one_each 8 _
        (λ q b. true-if (g q) _
        (λ t. let within = inside q b t in
        let place : n + (q - n) ≡ q = omega (arith, within.0) in
        ap f (ap (λ (i : ℕ). get_or jobs i no_job) (sym place) ∙ sym (at (q - n) no_job (omega (arith, within.0, within.1))))
        ∙ AllPass-from_list_all f part h (q - n) no_job (omega (arith, within.0, within.1, part_long))))

    from : each 8 (λ q. g q ⇒ f (get_or jobs q no_job)) ≡ true → list_all f part ≡ true
    from h =
        list_all-from_AllPass f part
        (λ i d l. let here : i < m = omega (arith, part_long) in
        ap f (at i d here)
        ∙ if-true (g (n + i)) _ (each-one 8 (λ q. g q ⇒ f (get_or jobs q no_job)) h (n + i) (omega arith)) (picked (n + i) (omega arith) (omega arith)))

-- no job is before the place 0
pub owner_at_zero : (k : Core) → k.owner ≡ 0 → owner_first_on k ≡ true
owner_at_zero k e =
    true-if k.active _ (λ on. one_each 8 _ (λ q b. true-if (ltb q k.owner) _ (λ t. absurd (omega (arith, e, ltb-true q k.owner t)))))

-- ---- a blank core

-- a job as one number
pub job-zero : (n d : ℕ) → eqb (n + d * 4294967296) 0 ≡ (eqb n 0 && eqb d 0)
job-zero n d = same_test _ _ to from
  where
    to : eqb (n + d * 4294967296) 0 ≡ true → (eqb n 0 && eqb d 0) ≡ true
    to e = let z : n + d * 4294967296 ≡ 0 = eqb-true (n + d * 4294967296) 0 e in ap₂ ◌&&◌ (eq-eqb n 0 (omega arith)) (eq-eqb d 0 (omega arith))

    from : (eqb n 0 && eqb d 0) ≡ true → eqb (n + d * 4294967296) 0 ≡ true
    from e = rw (eqb-true n 0 (both_left (eqb n 0) (eqb d 0) e), eqb-true d 0 (both_right (eqb n 0) (eqb d 0) e))

-- two numbers joined digit by digit are 0 if and only if both are
pub or-zero : (a b : ℕ) → eqb (bit_or a b) 0 ≡ (eqb a 0 && eqb b 0)
or-zero a b = go (eqb a 0) refl (eqb b 0) refl
  where
    go : (p : Bool) → eqb a 0 ≡ p → (q : Bool) → eqb b 0 ≡ q → eqb (bit_or a b) 0 ≡ (p && q)
    go true s q t = ap (λ (x : ℕ). eqb (bit_or x b) 0) (eqb-true a 0 s) ∙ ap (λ (x : ℕ). eqb x 0) (or_zero_l b) ∙ t
    go false s q t = ne_eqb (bit_or a b) 0 (λ z. eqb-false a 0 s (omega (arith, z, or_add_and a b, and_le_r a b)))

-- one more job is looked at, after what was already joined
pub each_next : (n : ℕ) (f : ℕ → Bool) (a : Bool) → (a && each n f && f n) ≡ (a && each (n + 1) f)
unfolding each
each_next n f true = and_comm (each n f) (f n) ∙ ap (λ (x : ℕ). each x f) (sym (add-one n))
each_next n f false = refl

-- the numbers of a core beside its jobs, joined digit by digit as its test joins them
abbrev pub numbers : Core → ℕ
numbers k = bit_or (bit_or (bit_or k.count k.owner) k.aborts) k.ticket

-- whether all numbers of a core are 0, its jobs' and those beside them
abbrev pub no_numbers : Core → Bool
no_numbers k = eqb (numbers k) 0 && each 8 (λ p. zero_job (job_at k p))

-- a core is blank if and only if nothing is in progress or marked, what is joined is 0, and its sets are empty
blank-joined : (k : Core) → blank_on k ≡ (not k.active && not k.zombie && no_numbers k && empty_sets k)
blank-joined k =
    rw (or-zero (bit_or (bit_or k.count k.owner) k.aborts) k.ticket, or-zero (bit_or k.count k.owner) k.aborts, or-zero k.count k.owner)
    (go (not k.active && not k.zombie) (eqb k.count 0) (eqb k.owner 0) (eqb k.ticket 0) (eqb k.aborts 0)
    (each 8 (λ p. zero_job (job_at k p))) (empty_sets k))
  where
    go : (i c o t b e s : Bool) → (i && c && o && t && b && e && s) ≡ (i && (c && o && b && t && e) && s)
    go false c o t b e s = refl
    go true true true true true true s = refl
    go true true true true true false s = refl
    go true true true true false true s = refl
    go true true true true false false s = refl
    go true true true false true true s = refl
    go true true true false true false s = refl
    go true true true false false true s = refl
    go true true true false false false s = refl
    go true true false t b true s = refl
    go true true false t b false s = refl
    go true false o t b true s = refl
    go true false o t b false s = refl

-- v: nothing is in progress or marked, and all numbers are 0; then the sets decide, else it is not blank
pub blank-by-sets : (k : Core) (v : Bool) → v ≡ (not k.active && not k.zombie && no_numbers k) → v ≡ true → empty_sets k ≡ blank_on k
blank-by-sets k v e t = sym (blank-joined k ∙ ap (λ (b : Bool). b && empty_sets k) (sym e ∙ t))

pub not-blank : (k : Core) (v : Bool) → v ≡ (not k.active && not k.zombie && no_numbers k) → v ≡ false → false ≡ blank_on k
not-blank k v e t = sym (blank-joined k ∙ ap (λ (b : Bool). b && empty_sets k) (sym e ∙ t))
