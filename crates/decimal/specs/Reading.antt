-- Which fields are numbers, and which number each is.
use Rattle.std.specs.Prelude.{ℕ, ◌+◌, ◌-◌, ◌*◌, Bool, true, false, not, cond, ◌&&◌, List, [], ◌∷◌, Option, Some, None, eqb, leb}
use Rattle.decimal.specs.Bytes.{byte}

-- the largest number
abbrev pub largest : ℕ
largest = 4294967295

-- whether every byte is a digit, `0` to `9`
unfoldable pub all_digits : List ℕ → Bool
all_digits [] = true
all_digits (b ∷ bs) = (leb (byte "0") b && leb b (byte "9")) && all_digits bs

-- whether a field has a first byte and no leading zero: `0` alone has none
unfoldable pub no_leading_zero : List ℕ → Bool
no_leading_zero [] = false
no_leading_zero (b ∷ []) = true
no_leading_zero (b ∷ c ∷ bs) = not (eqb b (byte "0"))

-- the number that digits stand for, after digits that stand for n
unfoldable pub value_after : ℕ → List ℕ → ℕ
value_after n [] = n
value_after n (b ∷ bs) = value_after (n * 10 + (b - byte "0")) bs

-- whether a field is a number: digits with no leading zero that stand for at most the largest
unfoldable pub is_number : List ℕ → Bool
is_number field = (all_digits field && no_leading_zero field) && leb (value_after 0 field) largest

-- what a field reads as: the number that it is, and nothing where it is none
unfoldable pub read_as_number : List ℕ → Option ℕ
read_as_number field = cond (is_number field) (Some (value_after 0 field)) None
