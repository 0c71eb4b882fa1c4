-- How many bytes of output are always enough (include/cards.h).
use Rattle.std.specs.Prelude.{ℕ, ◌+◌, ◌*◌, ◌≤◌, ◌<◌, ◌≡◌, List, length}
use Rattle.decimal.specs.Bytes.{byte}
use Rattle.table.specs.Pieces.{pieces, lines}
use Rattle.request.specs.Asks.{most_lines}
use Rattle.runner.specs.Listing.{listing}

-- for a script of so many lines: 18 bytes of heading, and 29 for each line
abbrev pub enough_for : ℕ → ℕ
enough_for lines = 18 + 29 * lines

-- for every script, 29,000,047: line 1,000,001 is the last that gets an answer
abbrev pub enough_for_any : ℕ
enough_for_any = enough_for (most_lines + 1)

-- With an output that is enough, the answer is the listing's length, which is never 0: nothing is refused.
pub record Enough (script output : List ℕ) (answer : ℕ) : Type 0 where
  -- enough for its lines, or for more; an empty script counts as one line
  pub by_lines : (k : ℕ) → 1 ≤ k → length (lines script) ≤ k → enough_for k ≤ length output → answer ≡ length (listing script)
  -- one more than its newlines, the number of pieces between them, is never too few
  pub by_newlines : enough_for (length (pieces (byte "\n") script)) ≤ length output → answer ≡ length (listing script)
  pub for_any : enough_for_any ≤ length output → answer ≡ length (listing script)
  pub not_empty : 0 < length (listing script)
