-- What a caller knows of a number's spelling: it has 1 to 10 bytes, and a scratch of 10 bytes shows it.
use mathlib.Core.Path.{◌≡◌}
use mathlib.Core.List.{List, []}
use Prim.Native.Nat.{ℕ, zero, suc, ◌/◌, ◌≤◌, ◌<◌}
use native.Mathlib.Omega.{arith}
use lib.ListN.{length, length-append}
use borrow.Author.Tests.{lt-ltb, le-ltb}
use Rattle.decimal.specs.Spelling.{spelling_in, spelling, shown}
use Rattle.decimal.proofs.Spelling.{by_digits, in_one, in-more}

-- ---- a spelling is 1 to 10 digits

length-in : (places n : ℕ) → length (spelling_in places n) ≤ places
unfolding spelling_in
length-in zero n = omega arith
length-in (suc places) n =
    by_digits n
    (λ l. rw (in_one places n l) (omega arith))
    (λ m. rw (in-more places n m, length-append) (omega (arith, length-in places (n / 10))))

pub spelling-length : (n : ℕ) → (1 ≤ length (spelling n)) × (length (spelling n) ≤ 10)
unfolding spelling
spelling-length n = (
  by_digits n (λ l. rw (in_one 9 n l) (omega arith)) (λ m. rw (in-more 9 n m, length-append) (omega arith)),
  length-in 10 n,
)

-- ---- a scratch of 10 bytes shows a number's spelling, and a shorter one keeps its bytes

pub shown-whole : (n : ℕ) (scratch : List ℕ) → 10 ≤ length scratch → shown n scratch ≡ spelling n
unfolding shown
shown-whole n scratch h = rw (le-ltb (length scratch) 10 h)

pub shown-short : (n : ℕ) (scratch : List ℕ) → length scratch < 10 → shown n scratch ≡ []
unfolding shown
shown-short n scratch h = rw (lt-ltb (length scratch) 10 h)

-- what is shown has room in the scratch
pub shown-fits : (n : ℕ) (scratch : List ℕ) → length (shown n scratch) ≤ length scratch
shown-fits n scratch =
    by_digits (length scratch)
    (λ short. rw (shown-short n scratch short) (omega arith))
    (λ long. rw (shown-whole n scratch long) (omega (arith, spelling-length n)))
