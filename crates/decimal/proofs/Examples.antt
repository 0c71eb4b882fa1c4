-- Numbers at the edges of the rule, each by computation.
use mathlib.Core.Path.{◌≡◌, refl}
use Rattle.std.specs.Prelude.{Some, None}
use Rattle.decimal.specs.Bytes.{ascii}
use Rattle.decimal.specs.Spelling.{spelling, spelling_in}
use Rattle.decimal.specs.Reading.{all_digits, no_leading_zero, value_after, is_number, read_as_number}

spelled : (spelling 0 ≡ ascii "0") × (spelling 10 ≡ ascii "10") × (spelling 4294967295 ≡ ascii "4294967295")
unfolding spelling spelling_in
spelled = (refl, refl, refl)

numbers : (read_as_number (ascii "0") ≡ Some 0) × (read_as_number (ascii "4294967295") ≡ Some 4294967295)
unfolding read_as_number is_number all_digits no_leading_zero value_after
numbers = (refl, refl)

malformed : (read_as_number (ascii "") ≡ None) × (read_as_number (ascii "00") ≡ None) × (read_as_number (ascii "01") ≡ None) × (read_as_number (ascii "1:") ≡ None)
    × (read_as_number (ascii "4294967296") ≡ None)
unfolding read_as_number is_number all_digits no_leading_zero value_after
malformed = (refl, refl, refl, refl, refl)
