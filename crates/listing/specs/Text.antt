-- How the lines of a listing are written, and what putting one leaves in the lent output.
use Rattle.std.specs.Prelude.{ℕ, ◌+◌, cond, List, [], ◌++◌, Option, Some, None, length, take, drop, nat_le, nat_lt}
use Rattle.decimal.specs.Bytes.{ascii}
use Rattle.decimal.specs.Spelling.{spelling}
use Rattle.one_core.specs.declared.Answer.{Answer}
use Rattle.one_core.specs.declared.Answer.TheVariants.{Ready, Running, Queued, Begun, Value, Written, Waits, Committed, SetBack, Ended, Finished, Refused}

-- the first line of a listing: what its columns are
abbrev pub heading : List ℕ
heading = ascii "line answer value\n"

-- the answer
abbrev pub word : Answer → List ℕ
word Ready = ascii "ready"
word Running = ascii "running"
word Queued = ascii "queued"
word (Begun t) = ascii "begun"
word (Value v n) = ascii "value"
word Written = ascii "written"
word (Waits c) = ascii "waits"
word (Committed n) = ascii "committed"
word SetBack = ascii "setback"
word Ended = ascii "ended"
word (Finished j) = ascii "finished"
word (Refused n) = ascii "refused"

-- no value
abbrev pub dash : List ℕ
dash = ascii "-"

-- the text of the value: begin's ticket, read's value, the core that waits names, commit's setbacks, finish's job, refusal's number, else `-`
abbrev pub value_text : Answer → List ℕ
value_text Ready = dash
value_text Running = dash
value_text Queued = dash
value_text (Begun t) = spelling t
value_text (Value v n) = spelling v
value_text Written = dash
value_text (Waits c) = spelling c
value_text (Committed n) = spelling n
value_text SetBack = dash
value_text Ended = dash
value_text (Finished j) = spelling j
value_text (Refused n) = spelling n

-- the text of a value, where there is one
abbrev pub field_text : Option ℕ → List ℕ
field_text (Some n) = spelling n
field_text None = dash

-- the answer between two spaces
abbrev pub spaced : Answer → List ℕ
spaced a = ascii " " ++ word a ++ ascii " "

-- what follows a line's number: the answer and the value, a space before each, and the newline
unfoldable pub said : Answer → List ℕ
said a = ascii " " ++ word a ++ ascii " " ++ value_text a ++ ascii "\n"

-- the line for line n of the script
unfoldable pub line : ℕ → Answer → List ℕ
line n a = spelling n ++ said a

-- the bytes that putting a text over the first bytes of an output takes: all of them, and none where the output is under 32 bytes
unfoldable pub fitting : List ℕ → List ℕ → List ℕ
fitting text output = cond (nat_lt (length output) 32) [] text

-- the output with those bytes as its first part: the bytes after it keep what they held
unfoldable pub put : List ℕ → List ℕ → List ℕ
put text output = fitting text output ++ drop (length (fitting text output)) output

-- the bytes that putting a text over the bytes of an output from `at` on takes: all of them, and none where they do not fit
unfoldable pub fitting_at : ℕ → List ℕ → List ℕ → List ℕ
fitting_at at text output = cond (nat_le (at + length text) (length output)) text []

-- the output with the text from `at` on, where it fits: the bytes before and after it keep what they held
unfoldable pub placed : ℕ → List ℕ → List ℕ → List ℕ
placed at text output = cond (nat_le (at + length text) (length output)) (take at output ++ text ++ drop (at + length text) output) output
