-- How a scratch ends whose first part has been handed back: as that part, at the last value behind it, and then the bytes that it held.
use Rattle.std.specs.Prelude.{ℕ, List, ◌++◌, drop}
use Rattle.std.specs.Borrow.{Lends, MutBor, Fml, Array, u8}

-- the scratch keeps its bytes from place k on, and before them stands what the caller leaves in the part
abbrev pub keeps_from : ℕ → MutBor (List ℕ) → MutBor (List ℕ) → Fml
keeps_from k scratch part = Lends (Array u8 0) (Array u8 0) scratch part (λ written. written ++ drop k scratch.now)
