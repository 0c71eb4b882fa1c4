-- What the runner's doors take: any reading, tables and output may be handed in.
use Rattle.std.specs.Prelude.{ℕ, ◌+◌, ◌*◌, Bool, Option, None, Some, cond, not, ◌&&◌, ◌||◌, leb, ◌==◌, nat_le, nat_lt}
use Rattle.one_core.specs.Tidy.{◌⇒◌}
use Rattle.machine.specs.Sound.{sound, is_blank}
use Rattle.decimal.specs.Bytes.{byte}
use Rattle.table.specs.Pieces.{free}
use Rattle.runner.specs.declared.Reading.{Reading}
use Rattle.runner.specs.declared.Misfit.{Misfit}
use Rattle.runner.specs.declared.Misfit.TheVariants.{Unsound, WrongTable, NoRoom}
use Rattle.runner.specs.Kept.{kept_bytes, line_room, unfinished, committed_words, pending_words}
use Rattle.request.specs.Asks.{most_lines}

-- whether a reading is sound: its line has a number, at most 1,000,001 while lines are read; at most 65 bytes of it are kept, none of
-- them a newline; and its record is blank, or after line 1 sound
unfoldable pub readable : Reading → Bool
readable r =
    nat_lt 0 r.number
    && (r.going ⇒ leb r.number (most_lines + 1))
    && nat_le r.length kept_bytes
    && free (byte "\n") (unfinished r)
    && (is_blank r.machine || (nat_lt 1 r.number && sound r.machine))

-- the number of what the doors refuse: 2 and 3 are document 01's, and no document gives 100
abbrev pub misfit_number : Misfit → ℕ
misfit_number Unsound = 2
misfit_number WrongTable = 3
misfit_number NoRoom = 100

-- the first that applies: the reading is unsound, either table has not the length of the largest machine's, the output has not 32 bytes for
-- each byte that is read
unfoldable pub refusal : Reading → ℕ → ℕ → ℕ → ℕ → Option Misfit
refusal r committed pending bytes room =
    cond (not (readable r)) (Some Unsound)
    (cond (not (committed == committed_words && pending == pending_words)) (Some WrongTable)
    (cond (nat_lt room (line_room * bytes)) (Some NoRoom) None))
