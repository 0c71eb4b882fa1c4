-- What the C entry leaves in the lent output.
use Rattle.std.specs.Prelude.{ℕ, cond, List, [], ◌++◌, leb, length, drop}

-- the bytes that are written: the whole text, and none where it is longer than the output (refusal 12)
unfoldable pub whole_or_none : List ℕ → List ℕ → List ℕ
whole_or_none text output = cond (leb (length text) (length output)) text []

-- output past the length written keeps its bytes; with length 0 it is untouched
unfoldable pub output_after : List ℕ → List ℕ → List ℕ
output_after text output = whole_or_none text output ++ drop (length (whole_or_none text output)) output
