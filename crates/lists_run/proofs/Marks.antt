-- Places that hold the mark: those of the list at first, and the one after the tasks that were put there.
use mathlib.Core.Path.{◌≡◌, refl, sym, ap, ◌∙◌}
use Prim.Native.Nat.{ℕ, zero, suc, ◌+◌, ◌-◌, ◌≤◌}
use native.Mathlib.Omega.{arith}
use mathlib.Core.Bool.{Bool, true, false}
use mathlib.Core.List.{List, [], ◌∷◌, ◌++◌}
use lib.Seq.{take-append_seam, drop-append_seam}
use lib.ListN.{length, get_or, take, drop, replicate, length-append, length-replicate, replicate-append-replicate}
use Rattle.taskset.specs.declared.Task.{Task}
use Rattle.tasklist.specs.Lists.{have_room, filled_list}
use Rattle.tasklist.proofs.ListLaws.{counted, fills, fills-list, refuses, keeps-list}
use Rattle.lists_run.specs.Listed.{places, mark, marks}

pub marks-long : (n : ℕ) → length (marks n) ≡ n
unfolding marks
marks-long n = length-replicate n mark

-- the list at first is n places that are lent, and the others
pub marks-apart : (n : ℕ) → n ≤ places → replicate 40 mark ≡ marks n ++ marks (places - n)
unfolding marks
marks-apart n h = sym (replicate-append-replicate n (40 - n) mark ∙ ap (λ (k : ℕ). replicate k mark) whole)
  where
    whole : n + (40 - n) ≡ 40
    whole = omega (arith, h)

-- the places that are lent, and the others
pub marks-lent : (n : ℕ) → n ≤ places → take n (replicate 40 mark) ≡ marks n
marks-lent n h =
    rw (marks-apart n h) (ap (λ (k : ℕ). take k (marks n ++ marks (places - n))) (sym (marks-long n)) ∙ take-append_seam (marks n) (marks (places - n)))

pub marks-kept : (n : ℕ) → n ≤ places → drop n (replicate 40 mark) ≡ marks (places - n)
marks-kept n h =
    rw (marks-apart n h) (ap (λ (k : ℕ). drop k (marks n ++ marks (places - n))) (sym (marks-long n)) ∙ drop-append_seam (marks n) (marks (places - n)))

-- and stays as long
pub whole_long : (n : ℕ) → n ≤ places → (us : List Task) → length us ≡ length (marks n) → length (us ++ marks (places - n)) ≡ 40
whole_long n h us same = length-append us (marks (40 - n)) ∙ omega (arith, h, same, marks-long n, marks-long (40 - n))

-- the place after the tasks, where they were put there or not
all-marks : (n m : ℕ) → get_or (marks n ++ marks m) 0 mark ≡ mark
unfolding marks
all-marks zero zero = refl
all-marks zero (suc m) = refl
all-marks (suc n) m = refl

after : (ts : List Task) (n m : ℕ) → get_or ((ts ++ drop (length ts) (marks n)) ++ marks m) (length ts) mark ≡ mark
unfolding marks
after [] n m = all-marks n m
after (t ∷ ts) zero m = ap (λ (us : List Task). get_or ((ts ++ us) ++ marks m) (length ts) mark) (sym (drop-none (length ts))) ∙ after ts zero m
  where
    drop-none : (k : ℕ) → drop k (replicate 0 mark) ≡ []
    drop-none zero = refl
    drop-none (suc k) = refl
after (t ∷ ts) (suc n) m = after ts n m

pub beyond-marked : (ts : List Task) (n m : ℕ) → get_or (filled_list ts (marks n) ++ marks m) (counted ts (marks n)) mark ≡ mark
beyond-marked ts n m = go (have_room ts (marks n)) refl
  where
    go : (t : Bool) → have_room ts (marks n) ≡ t → get_or (filled_list ts (marks n) ++ marks m) (counted ts (marks n)) mark ≡ mark
    go true e = rw (fills ts (marks n) e, fills-list ts (marks n) e) (after ts n m)
    go false e = rw (refuses ts (marks n) e, keeps-list ts (marks n) e) (all-marks n m)
