-- How many bytes are always enough for a listing: 18, and 29 for each line of the script; 29,000,047 for every script.
use Rattle.std.proofs.Common.{◌≡◌, ℕ, zero, suc, ◌+◌, ◌-◌, ◌*◌, ◌/◌, ◌%◌, ◌^◌, ◌<◌, ◌≤◌, Bool, true, false, cond, ltb, List, [], ◌∷◌, ◌++◌, length, refl, arith, length-append, ltb-false, lt-ltb, Option, Some, None}
use Rattle.decimal.specs.Spelling.{spelling, spelling_in, glyph}
use Rattle.machine.specs.Rule.{World}
use Rattle.one_core.specs.declared.Answer.{Answer}
use Rattle.one_core.specs.declared.Answer.TheVariants.{Refused}
use Rattle.script.specs.declared.Columns.{Columns}
use Rattle.table.specs.Pieces.{lines}
use Rattle.script.specs.Line.{names, spells}
use Rattle.listing.specs.Text.{line, said}
use Rattle.listing.proofs.Laws.{word-short, value-short}
use Rattle.request.specs.Asks.{most_lines}
use Rattle.runner.specs.Listing.{nothing, answered, Row, unread, value_rows, rows_after, rows_of, listed, listing}

-- a number below 10 to the power of k has at most k digits, for k from 1 on
few-digits : (k p n : ℕ) → n < 10 ^ suc k → length (spelling_in p n) ≤ suc k
unfolding spelling_in
few-digits k zero n h = omega arith
few-digits zero (suc p) n h = rw (lt-ltb n 10 (omega (arith, h))) (omega arith)
few-digits (suc k) (suc p) n h = go (ltb n 10) (λ e. few-digits k p (n / 10) e)
  where
    go : (b : Bool) → (n / 10 < 10 ^ suc k → length (spelling_in p (n / 10)) ≤ suc k)
        → length (cond b (glyph n ∷ []) (spelling_in p (n / 10) ++ (glyph (n % 10) ∷ []))) ≤ suc (suc k)
    go true rest = omega arith
    go false rest = simp length-append (omega (arith, rest (omega (arith, h))))

-- a line number has at most 7 digits, a word 9 bytes and a value 10
line-bytes : (n : ℕ) (a : Answer) → n ≤ most_lines + 1 → length (line n a) ≤ 29
unfolding line said spelling
line-bytes n a h = simp length-append (omega (arith, few-digits 6 10 n (omega (arith, h)), word-short a, value-short a))

-- at most 29 bytes for each line, of those that there are and of those that are read from line n on
listed-bytes : (at : Columns) (w : World) (n : ℕ) (ls : List (List ℕ)) → n ≤ most_lines + 1
    → (length (listed (value_rows at w n ls)) ≤ 29 * length ls) × (length (listed (value_rows at w n ls)) ≤ 29 * (most_lines + 2 - n))
unfolding listed value_rows
listed-bytes at w n [] h = (omega arith, omega arith)
listed-bytes at w n (l ∷ ls) h =
    go (ltb most_lines n) refl (λ few. listed-bytes at (answered w (spells at l)).world (n + 1) ls (omega (arith, few)))
  where
    here : Row
    here = record { number = n; spelt = spells at l; answer = (answered w (spells at l)).answer }

    more : List Row
    more = value_rows at (answered w (spells at l)).world (n + 1) ls

    go : (b : Bool) → ltb most_lines n ≡ b
        → (n ≤ most_lines → (length (listed more) ≤ 29 * length ls) × (length (listed more) ≤ 29 * (most_lines + 2 - (n + 1))))
        → (length (listed (cond b (unread n ∷ []) (here ∷ more))) ≤ 29 * suc (length ls))
        × (length (listed (cond b (unread n ∷ []) (here ∷ more))) ≤ 29 * (most_lines + 2 - n))
    go true e rest =
        let one = line-bytes n (Refused 11) h in
        simp length-append ((omega (arith, one), omega (arith, h, one)))
    go false e rest =
        let few = ltb-false most_lines n e in
        let one = line-bytes n (answered w (spells at l)).answer h in
        simp length-append ((omega (arith, one, (rest few).0), omega (arith, few, one, (rest few).1)))

-- `1 refused 11` alone
refused-bytes : (k : ℕ) → 1 ≤ k → (length (listed (unread 1 ∷ [])) ≤ 29 * k) × (length (listed (unread 1 ∷ [])) ≤ 29 * (most_lines + 1))
unfolding listed
refused-bytes k some =
    let one = line-bytes 1 (Refused 11) (omega arith) in simp length-append ((omega (arith, some, one), omega (arith, one)))

body_bytes : (ls : List (List ℕ)) (k : ℕ) → 1 ≤ k → length ls ≤ k
    → (length (listed (rows_of ls)) ≤ 29 * k) × (length (listed (rows_of ls)) ≤ 29 * (most_lines + 1))
unfolding rows_of rows_after
body_bytes [] k some h = refused-bytes k some
body_bytes (l ∷ ls) k some h = go (names l)
  where
    go : (x : Option Columns) → (length (listed (rows_after x ls)) ≤ 29 * k) × (length (listed (rows_after x ls)) ≤ 29 * (most_lines + 1))
    go (Some at) = let all = listed-bytes at nothing 2 ls (omega arith) in (omega (arith, h, all.0), omega (arith, all.1))
    go None = refused-bytes k some

-- for a script of at most k lines, an empty one counted as one line, 18 + 29 × k bytes are enough
pub enough : (script : List ℕ) (k : ℕ) → 1 ≤ k → length (lines script) ≤ k → length (listing script) ≤ 18 + 29 * k
unfolding listing
enough script k some few = simp length-append (omega (arith, (body_bytes (lines script) k some few).0))

-- and for any script 29,000,047
pub enough-any : (script : List ℕ) → length (listing script) ≤ 29000047
unfolding listing
enough-any script =
    simp length-append (omega (arith, (body_bytes (lines script) (1 + length (lines script)) (omega arith) (omega arith)).1))

-- no listing is empty
pub not_empty : (script : List ℕ) → 0 < length (listing script)
unfolding listing
not_empty script = simp length-append (omega arith)
