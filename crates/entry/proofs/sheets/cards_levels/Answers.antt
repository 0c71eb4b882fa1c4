-- `entry::sheets::cards_levels` meets its contract: the bytes are no sheet, the words are too few, or those of the levels are put.
use Rattle.std.proofs.Common.{◌≡◌, sym, ap, ◌∙◌, ℕ, ◌*◌, ◌++◌, take, drop, arith}
use Rattle.entry.specs.Words.{level_words}
use Rattle.entry.proofs.WordLaws.{Given, sheet-given, sheet-refused, nothing-put, too_few, all-put, right-put}
use Rattle.entry.proofs.sheets.cards_levels.Goals as goal
use Rattle.entry.proofs.sheets.cards_levels.Goals.{In-Ok, After-put_words}

pub returns-in_default : goal.returns-in_default
returns-in_default c =
    let bytes = c.args.sheet.now in
    let nothing = nothing-put bytes c.args.levels.now (sheet-refused bytes (sym c.in_default.is ∙ c.levels.ensures.rule)) in
    record { count = nothing.0; words = nothing.1; paper = λ counted. absurd (omega (arith, counted)) }

-- what was worked out of the bytes
given : (c : In-Ok) → Given c.args.sheet.now c.in-Ok.given
given c = sheet-given c.args.sheet.now c.in-Ok.given (sym c.in-Ok.is ∙ c.levels.ensures.rule)

pub returns-then-levels-n : goal.returns-then-levels-n
returns-then-levels-n c =
    let start = c.args in
    let refused = too_few start.sheet.now start.levels.now _ (given (goal.at.returns-then-levels-n c).In-Ok) c.if-levels-n.true in
    record { count = refused.0; words = refused.1; paper = λ counted. absurd (omega (arith, counted)) }

pub shared_ref_as_front-put_words : goal.shared_ref_as_front-put_words
shared_ref_as_front-put_words c = (given (goal.at.shared_ref_as_front-put_words c).In-Ok).few

pub put_words-requires : goal.put_words-requires
put_words-requires c = omega (arith, (given (goal.at.put_words-requires c).In-Ok).size, c.if-levels-n.false)

-- what was put over the words
put : (c : After-put_words) → c.put_words.new.words ≡ level_words (take c.in-Ok.given.count c.in-Ok.given.list) ++ drop (3 * c.in-Ok.given.count) c.args.levels.now
put c =
    let l = c.in-Ok.given in
    c.put_words.ensures
    ∙ ap (λ (k : ℕ). level_words (take l.count l.list) ++ drop (3 * k) c.args.levels.now) (given (goal.at.After-put_words c).In-Ok).size

pub returns : goal.returns
returns c =
    let start = c.args in
    let there = put (goal.at.returns c).After-put_words in
    let g = given (goal.at.returns c).In-Ok in
    let all = all-put start.sheet.now start.levels.now _ g c.if-levels-n.false there in
    record { count = all.0; words = all.1; paper = right-put start.sheet.now start.levels.now _ g there }
