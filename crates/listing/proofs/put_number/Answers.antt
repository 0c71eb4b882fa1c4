-- `listing::put_number` meets its contract: a scratch of 10 bytes shows all the digits, and `put_bytes` copies the part that holds
-- them, or the one digit that it is.
use Rattle.std.proofs.Common.{◌≡◌, ℕ, List, [], ◌∷◌, length, get_or, refl, ◌∙◌, arith}
use Rattle.decimal.specs.Spelling.{spelling}
use Rattle.decimal.proofs.Laws.{shown-whole}
use Rattle.listing.proofs.put_number.Goals as goal
use Rattle.listing.proofs.put_number.Goals.{After-print-digits}

-- a list of one number is its first number
one-alone : (xs : List ℕ) → length xs ≡ 1 → get_or xs 0 0 ∷ [] ≡ xs
one-alone [] h = absurd (omega arith)
one-alone (x ∷ []) h = refl
one-alone (x ∷ y ∷ ys) h = absurd (omega arith)

-- the part holds the number's digits
digits : (c : After-print-digits) → c.print-digits.result.now ≡ spelling c.args.n
digits c = c.print-digits.ensures.digits ∙ shown-whole c.args.n _ (omega arith)

pub returns-then-digits-eq1 : goal.returns-then-digits-eq1
returns-then-digits-eq1 c =
    let done = c.put_bytes.ensures in
    let alone = one-alone c.print-digits.result.now (omega arith) in
    rw (alone ∙ digits (goal.at.returns-then-digits-eq1 c).After-print-digits) at done

pub returns : goal.returns
returns c = rw (digits (goal.at.returns c).After-print-digits) at c.put_bytes-2.ensures
