-- `listing::put_line` meets its contract: the number, the word between two spaces, the value and the newline stand one after another.
use Rattle.std.proofs.Common.{◌≡◌, ℕ, ◌+◌, ◌≤◌, List, ◌++◌, length, append_assoc, zero-add, arith, length-append}
use Rattle.decimal.specs.Bytes.{ascii}
use Rattle.decimal.specs.Spelling.{spelling}
use Rattle.decimal.proofs.Laws.{spelling-length}
use Rattle.one_core.specs.declared.Answer.{Answer}
use Rattle.listing.specs.Text.{spaced, value_text, said, line}
use Rattle.listing.proofs.Laws.{line-short, spaced-short, value-short, nothing_put, Stands, stands-none, stands-next, stands-put}
use Rattle.listing.proofs.put_line.Goals as goal
use Rattle.listing.proofs.put_line.Goals.{After-put_bytes, After-put_bytes-k, After-put_field-k, After-put_number-k, After-said_of-said, Start}

-- the four texts are the line
parts : (n : ℕ) (a : Answer) → spelling n ++ spaced a ++ value_text a ++ ascii "\n" ≡ line n a
unfolding line said
parts n a = simp append_assoc

-- what was lent, and the texts that are put there
abbrev output : Start → List ℕ
output s = s.args.output.now

abbrev number : Start → List ℕ
number s = spelling s.args.number

abbrev word : Start → List ℕ
word s = spaced s.args.answer

abbrev shown : Start → List ℕ
shown s = value_text s.args.answer

-- how long they are together
to-word-short : (n : ℕ) (a : Answer) → length (spelling n ++ spaced a) ≤ 21
to-word-short n a = rw length-append (omega (arith, spelling-length n, spaced-short a))

to-value-short : (n : ℕ) (a : Answer) → length (spelling n ++ spaced a ++ value_text a) ≤ 31
to-value-short n a = rw length-append (omega (arith, to-word-short n a, value-short a))

-- ---- after each of the four calls: the call before it, and where the function began

abbrev of_number : After-put_number-k → Start
of_number c = (goal.at.After-put_number-k c).Start

abbrev to_number : After-put_bytes-k → After-put_number-k
to_number c = (goal.at.After-put_bytes-k c).After-put_number-k

abbrev of_word : After-put_bytes-k → Start
of_word c = of_number (to_number c)

abbrev to_word : After-put_field-k → After-put_bytes-k
to_word c = (goal.at.After-put_field-k c).After-put_bytes-k

abbrev of-value : After-put_field-k → Start
of-value c = of_word (to_word c)

abbrev to-value : After-put_bytes → After-put_field-k
to-value c = (goal.at.After-put_bytes c).After-put_field-k

abbrev of-line : After-put_bytes → Start
of-line c = of-value (to-value c)

-- where the next byte goes
abbrev past_word : After-put_bytes-k → ℕ
past_word c = (to_number c).put_number-k.result + c.put_bytes-k.result

abbrev past_value : After-put_field-k → ℕ
past_value c = past_word (to_word c) + c.put_field-k.result

-- ---- the texts stand one after another

number-stands : (c : After-put_number-k) → Stands (number (of_number c)) (output (of_number c)) c.put_number-k.result c.put_number-k.new.output
number-stands c =
    let done = c.put_number-k.ensures in
    let short = spelling-length (of_number c).args.number in
    rw zero-add at (stands-next (number (of_number c)) (stands-none (output (of_number c))) (omega arith) done.count done.bytes)

word_stands : (c : After-put_bytes-k)
    → Stands (number (of_word c) ++ word (of_word c)) (output (of_word c)) (past_word c) c.put_bytes-k.new.output
word_stands c =
    let args = (of_word c).args in
    let done = rw c.said_of-said.ensures.text at c.put_bytes-k.ensures in
    stands-next (word (of_word c)) (number-stands (to_number c)) (omega (arith, spelling-length args.number, spaced-short args.answer)) done.count done.bytes

value-stands : (c : After-put_field-k)
    → Stands (number (of-value c) ++ word (of-value c) ++ shown (of-value c)) (output (of-value c)) (past_value c) c.put_field-k.new.output
value-stands c =
    let args = (of-value c).args in
    let done = rw c.said_of-said.ensures.value at c.put_field-k.ensures in
    let short = to-word-short args.number args.answer in
    stands-next (shown (of-value c)) (word_stands (to_word c)) (omega (arith, value-short args.answer)) done.count done.bytes

line-stands : (c : After-put_bytes)
    → Stands (line (of-line c).args.number (of-line c).args.answer) (output (of-line c)) (past_value (to-value c) + c.put_bytes.result) c.put_bytes.new.output
line-stands c =
    let args = (of-line c).args in
    let done = c.put_bytes.ensures in
    let short = to-value-short args.number args.answer in
    rw parts at (stands-next (ascii "\n") (value-stands (to-value c)) (omega arith) done.count done.bytes)

-- ---- the needs

pub returns-then-output-lt-ROOM : goal.returns-then-output-lt-ROOM
returns-then-output-lt-ROOM c =
    let args = c.args in
    let kept = nothing_put (line args.number args.answer) args.output.now (omega arith) in
    record { count = kept.0; bytes = kept.1 }

pub overflow_add-k : goal.overflow_add-k
overflow_add-k c =
    let args = (of_word (goal.at.overflow_add-k c).After-put_bytes-k).args in
    omega (arith, (word_stands (goal.at.overflow_add-k c).After-put_bytes-k).count, to-word-short args.number args.answer)

pub overflow_add-k-2 : goal.overflow_add-k-2
overflow_add-k-2 c =
    let args = (of-value (goal.at.overflow_add-k-2 c).After-put_field-k).args in
    omega (arith, (value-stands (goal.at.overflow_add-k-2 c).After-put_field-k).count, to-value-short args.number args.answer)

pub overflow_add-result : goal.overflow_add-result
overflow_add-result c =
    let args = (of-line (goal.at.overflow_add-result c).After-put_bytes).args in
    omega (arith, (line-stands (goal.at.overflow_add-result c).After-put_bytes).count, line-short args.number args.answer)

pub returns : goal.returns
returns c =
    let stands = stands-put (line-stands (goal.at.returns c).After-put_bytes) (omega arith) in
    record { count = stands.0; bytes = stands.1 }
