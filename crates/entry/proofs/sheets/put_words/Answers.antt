-- `entry::sheets::put_words` meets its contract. The loop's invariant: the words of the first i tasks are put.
use Rattle.std.proofs.Common.{ap, ◌∙◌, ℕ, ◌+◌, ◌-◌, ◌*◌, List, ◌++◌, take, drop, arith}
use Rattle.entry.proofs.WordLaws.{no_words, next-words}
use Rattle.entry.proofs.sheets.put_words.Goals as goal

pub loop-i-init : goal.loop-i-init
loop-i-init c = no_words c.args.given.now c.args.words.now

pub loop-i-preserved : goal.loop-i-preserved
loop-i-preserved c =
    let at = c.loop-i in
    ap (λ (xs : List ℕ). take (3 * at.i) at.words ++ (xs ++ drop (3 * at.i + 3 - 3 * at.i) (drop (3 * at.i) at.words))) c.copy_from_slice.ensures.after
    ∙ next-words c.args.given.now c.args.words.now at.words at.i at.invariant (omega arith)
