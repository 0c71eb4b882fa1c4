-- How a number is written in decimal, and what printing it leaves in a scratch.
use Rattle.std.specs.Prelude.{ℕ, zero, suc, ◌+◌, ◌/◌, ◌%◌, cond, List, [], ◌∷◌, ◌++◌, length, drop, ltb}
use Rattle.decimal.specs.Bytes.{byte}

-- the byte of a digit
abbrev pub glyph : ℕ → ℕ
glyph d = byte "0" + d

-- the digits of n, the most significant first, with no leading zeros, in at most so many places
unfoldable pub spelling_in : ℕ → ℕ → List ℕ
spelling_in zero n = []
spelling_in (suc places) n = cond (ltb n 10) (glyph n ∷ []) (spelling_in places (n / 10) ++ (glyph (n % 10) ∷ []))

-- the digits of a number: 10 places are enough for the largest
unfoldable pub spelling : ℕ → List ℕ
spelling n = spelling_in 10 n

-- the digits that printing n puts into a scratch: all of them, and none where the scratch is under 10 bytes
unfoldable pub shown : ℕ → List ℕ → List ℕ
shown n scratch = cond (ltb (length scratch) 10) [] (spelling n)

-- the scratch with those digits as its first part: the bytes after it keep what they held
unfoldable pub printed : ℕ → List ℕ → List ℕ
printed n scratch = shown n scratch ++ drop (length (shown n scratch)) scratch
