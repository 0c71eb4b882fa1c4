-- What the runner keeps between two chunks, and what is still to be listed.
use Rattle.std.specs.Prelude.{◌≡◌, ℕ, ◌+◌, ◌*◌, ◌<◌, ◌≤◌, Bool, true, false, cond, ◌&&◌, ◌||◌, ◌⊎◌, List, [], ◌∷◌, ◌++◌, length, take, drop, replicate, ◌==◌, nat_lt, slice_set, Option, Some, None}
use Rattle.objset.specs.Objset.{most_objects}
use Rattle.one_core.specs.Parts.{most_cores}
use Rattle.machine.specs.Record.{blank}
use Rattle.machine.specs.Rule.{World, lent}
use Rattle.machine.specs.declared.Machine.{Machine}
use Rattle.machine.specs.Inside.{WellFormedWorld}
use Rattle.decimal.specs.Bytes.{byte}
use Rattle.script.specs.declared.Columns.{Columns}
use Rattle.script.specs.Line.{longest, names, spells}
use Rattle.table.specs.Pieces.{lines, free}
use Rattle.runner.specs.declared.Reading.{Reading}
use Rattle.request.specs.Asks.{most_lines}
use Rattle.runner.specs.Listing.{answered, value_rows, rows_of, listed}

-- the record with the first words of the two lent tables, as many as it has cards and cores × cards
abbrev pub held : Machine → List ℕ → List ℕ → World
held m committed pending = lent m (take m.objects committed) (take (m.cores * m.objects) pending)

-- what is listed of these lines, the first of them with the number n, while lines are read
unfoldable pub listed_from : Bool → Columns → ℕ → World → List (List ℕ) → List ℕ
listed_from going at n w ls = cond going (listed (cond (n == 1) (rows_of ls) (value_rows at w n ls))) []

-- how many bytes of a line are kept: one more than it may have, so that a line that is too long is known
abbrev pub kept_bytes : ℕ
kept_bytes = longest + 1

-- how many bytes of output each byte of a chunk may need: it may end a line
abbrev pub line_room : ℕ
line_room = 32

-- the bytes of the unfinished line that are kept
abbrev pub unfinished : Reading → List ℕ
unfinished r = take r.length r.line

-- what is still to be listed, if these bytes follow and the script ends
unfoldable pub rest : Reading → List ℕ → List ℕ → List ℕ → List ℕ
rest r committed pending bytes =
    listed_from r.going r.columns r.number (held r.machine committed pending) (lines (unfinished r ++ bytes))

-- how many words the tables of the largest machine have: one per card, and cores × cards
abbrev pub committed_words : ℕ
committed_words = most_objects

abbrev pub pending_words : ℕ
pending_words = most_cores * most_objects

-- record and tables: the tables are the largest machine's; the record is blank, or a well-formed world with its words of them
pub record BlankOrSound (m : Machine) (committed pending : List ℕ) : Type 0 where
  pub committed_long : length committed ≡ committed_words
  pub pending_long : length pending ≡ pending_words
  pub blank_or_well_formed : (m ≡ blank) ⊎ WellFormedWorld (held m committed pending)

-- what the runner keeps true between two chunks: that of its record and the tables, and what holds of the unfinished line and its number
pub record ReadingFits (r : Reading) (committed pending : List ℕ) : Type 0 where
  pub holds : BlankOrSound r.machine committed pending
  pub line_long : length r.line ≡ kept_bytes
  pub few_bytes : r.length ≤ kept_bytes
  pub no_newline : free (byte "\n") (unfinished r) ≡ true
  pub some_line : 0 < r.number
  pub few_lines : r.going ≡ true → r.number ≤ most_lines + 1
  pub first_blank : r.number ≡ 1 → r.machine ≡ blank

-- ---- what a byte leaves of it

-- what is kept: the reading, and every word of the two tables
pub record KeptState : Type 0 where
  pub reading : Reading
  pub committed : List ℕ
  pub pending : List ℕ

abbrev pub state : Reading → List ℕ → List ℕ → KeptState
state r committed pending = record { reading = r; committed = committed; pending = pending }

-- before the first byte; the order of the fields is not known yet
abbrev pub started : Reading
started =
    record {
      going = true;
      columns = record { call = 0; core = 0; card = 0; value = 0 };
      number = 1;
      line = replicate kept_bytes 0;
      length = 0;
      machine = blank;
    }

-- a table whose first words are these; the others stay
abbrev pub overlaid : List ℕ → List ℕ → List ℕ
overlaid words table = words ++ drop (length words) table

-- what the end of a line leaves: whether lines are still read, the order of the fields, the record with its words
pub record Ending : Type 0 where
  pub going : Bool
  pub columns : Columns
  pub world : World

unfoldable pub names_end : Columns → World → Option Columns → Ending
names_end at w (Some order) = record { going = true; columns = order; world = w }
names_end at w None = record { going = false; columns = at; world = w }

-- the end of line n: the line of names, line 1,000,001, or a line of values
unfoldable pub line_end : Columns → ℕ → World → List ℕ → Ending
line_end at n w l =
    cond (n == 1) (names_end at w (names l))
    (cond (nat_lt most_lines n) (record { going = false; columns = at; world = w })
    (record { going = true; columns = at; world = (answered w (spells at l)).world }))

-- the next line begins
abbrev pub past_line : KeptState → Ending → KeptState
past_line s e =
    record {
      reading =
          record {
            going = e.going;
            columns = e.columns;
            number = s.reading.number + 1;
            line = s.reading.line;
            length = 0;
            machine = e.world.machine;
          };
      committed = overlaid e.world.committed s.committed;
      pending = overlaid e.world.pending s.pending;
    }

-- a byte joins the line
abbrev pub joining : Reading → ℕ → Reading
joining r b =
    record { going = r.going; columns = r.columns; number = r.number; line = slice_set r.line r.length b; length = r.length + 1; machine = r.machine }

-- what a byte leaves: a newline ends the line, while lines are read; any other joins it, while bytes of it are kept
unfoldable pub after_byte : KeptState → ℕ → KeptState
after_byte s b =
    let r : Reading = s.reading in
    cond (b == (byte "\n"))
    (cond r.going (past_line s (line_end r.columns r.number (held r.machine s.committed s.pending) (unfinished r))) s)
    (cond (nat_lt r.length kept_bytes) (state (joining r b) s.committed s.pending) s)

-- what these bytes leave
unfoldable pub fed : KeptState → List ℕ → KeptState
fed s [] = s
fed s (b ∷ bytes) = fed (after_byte s b) bytes

-- a line is left at the script's end: the line of names, even with no byte, or a line that has a byte
abbrev pub line_left : Reading → Bool
line_left r = r.going && (r.number == 1 || nat_lt 0 r.length)

-- the script ends: a line without its newline is a line
unfoldable pub at_end : KeptState → KeptState
at_end s = cond (line_left s.reading) (after_byte s (byte "\n")) s
