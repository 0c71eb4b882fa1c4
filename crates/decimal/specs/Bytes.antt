-- Text as the bytes that it is in a file: ASCII.
use Rattle.std.specs.Prelude.{ℕ, List, [], ◌∷◌}
use Prim.Native.Char.{Char, code}
use Prim.Native.String as String

-- the byte of a character: its code
abbrev pub byte : Char → ℕ
byte c = code c

-- the bytes of a text
abbrev pub ascii : String.String → List ℕ
ascii String.[] = []
ascii (String.◌∷◌ c s) = byte c ∷ ascii s
