-- `decimal::fill` meets its contract. The loop's invariant: the spelling of the rest ends at place `i - 1`, and with the bytes from `i` on
-- behind it it makes what is asked.
use mathlib.Core.Path.{◌≡◌, ap, ◌∙◌}
use mathlib.Core.List.{List, ◌∷◌, ◌++◌, append_assoc}
use Prim.Native.Nat.{ℕ, suc, ◌+◌, ◌-◌, ◌/◌, ◌%◌, ◌^◌, ◌≤◌, ◌<◌}
use native.Mathlib.Omega.{arith}
use native.Mathlib.Numerals.{add-one}
use lib.ListN.{length, take, drop, set}
use lib.Seq.{length-take-le, set_split, drop_at}
use Rattle.decimal.specs.Spelling.{spelling}
use Rattle.decimal.proofs.Spelling.{by_digits, spelling-one, spelling-more, spelling-longer}
use Rattle.decimal.proofs.Laws.{spelling-length}
use Rattle.decimal.proofs.fill.Goals as goal

-- what stands at i and after it, once d is stored there
dropped : (s : List ℕ) (i d : ℕ) → i < length s → drop i (set s i d) ≡ d ∷ drop (i + 1) s
dropped s i d h =
    let before : length (take i s) ≡ i = length-take-le i s (omega arith) in
    rw (add-one, set_split s i d h, drop_at (take i s) (d ∷ drop (suc i) s) i before)

-- one digit more stored, before those that stand at i and after it
one_stored : (n i j : ℕ) (s whole : List ℕ) → i ≡ j + 1 → i ≤ length s → 10 ≤ n → n < 10 ^ 10
    → spelling n ++ drop i s ≡ whole
    → spelling (n / 10) ++ drop j (set s j (48 + n % 10)) ≡ whole
one_stored n i j s whole e h many small p =
    let next : drop i s ≡ drop (j + 1) s = ap (λ (k : ℕ). drop k s) e in
    rw (dropped s j (48 + n % 10) (omega arith), ← next) (rw (spelling-more n many small, append_assoc) at p)

-- a number of one digit, and one of more
alone : (n : ℕ) → n < 10 ^ 10 → length (spelling n) ≤ 1 → n < 10
alone n h e = by_digits n (λ l. l) (λ m. absurd (omega (arith, e, spelling-longer n m h, spelling-length (n / 10))))

several : (n : ℕ) → 1 < length (spelling n) → 10 ≤ n
several n e = by_digits n (λ l. absurd (omega (arith, e, ap length (spelling-one n l)))) (λ m. m)

pub loop-i-preserved : goal.loop-i-preserved
loop-i-preserved c =
    let at = c.loop-i in
    let many = several at.rest (omega arith) in (
      omega (arith, spelling-longer at.rest many (omega arith)),
      one_stored at.rest at.i (at.i - 1) at.scratch _ (omega arith) (omega arith) many (omega arith) at.invariant.1,
      omega arith,
    )

pub overflow_cast-scratch-2 : goal.overflow_cast-scratch-2
overflow_cast-scratch-2 c = omega (arith, alone c.loop-i.rest (omega arith) (omega arith))

pub overflow_add-scratch-2 : goal.overflow_add-scratch-2
overflow_add-scratch-2 c = omega (arith, alone c.loop-i.rest (omega arith) (omega arith))

pub bounds-scratch-0 : goal.bounds-scratch-0
bounds-scratch-0 c = omega (arith, spelling-length c.args.n)

pub returns : goal.returns
returns c =
    let at = c.loop-i in
    let one = spelling-one at.rest (alone at.rest (omega arith) (omega arith)) in
    let first : at.i ≡ 1 = omega (arith, spelling-length at.rest) in
    dropped at.scratch 0 (48 + at.rest) (omega (arith, spelling-length c.args.n)) ∙ rw (one, first) at at.invariant.1
