-- `entry::sheets::put_words` meets its contract. The loop's invariant: the words of the first i tasks are put.
use Rattle.entry.proofs.WordLaws.{Words}
use Rattle.entry.proofs.sheets.put_words.Given as goal

abbrev pub invariant-loop-i : goal.invariant-loop-i
invariant-loop-i l = Words l.given l.initial.words l.i l.words
