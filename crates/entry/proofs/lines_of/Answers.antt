-- `entry::lines_of` meets its contract.
use Rattle.std.proofs.Common.{◌≡◌, ◌-◌, [], ◌++◌, length, take, drop, refl, ap, ◌∙◌, arith, rules}
use Rattle.std.proofs.lemmas.Grind.{common_steps}
use Rattle.std.specs.Slice.Iter.{chunks_exact_rest}
use lib.ListN.{take-append-drop}
use Rattle.entry.proofs.Lines.{counted-starts, block-counted, all-counted, remains-after, remains-last, short}
use Rattle.entry.proofs.lines_of.Goals as goal

pub returns-in_default : goal.returns-in_default
returns-in_default c = (omega arith, short _ (omega arith))

pub loop-block-init : goal.loop-block-init
loop-block-init c =
    let script = c.args.script.now in
    let before : chunks_exact_rest c.into_iter-block-iterator.result ≡ take (length script - 1) script = grind (arith, common_steps) in
    (counted-starts _ _ (ap (λ bs. bs ++ drop (length script - 1) script) before ∙ take-append-drop (length script - 1) script) (omega arith), cc, search rules)

pub loop-block-preserved : goal.loop-block-preserved
loop-block-preserved c =
    let inv = c.loop-block.invariant in
    let block = c.in-Some.ensures.steps in (
      block-counted _ _ _ _ _ _ inv.0 block.1.0 c.newlines.ensures,
      remains-after _ _ _ _ inv.1 block.1.0 (block.1.1 ∙ inv.2),
      block.0 ∙ inv.2,
    )

pub returns : goal.returns
returns c =
    let inv = c.loop-block.invariant in
    let rest = remains-last _ _ inv.1 (omega (arith, c.in-None.ensures.steps.1.0, inv.2)) in
    let counted = block-counted _ _ _ _ _ _ inv.0 rest c.newlines-2.ensures in
    (counted.0, all-counted _ _ [] counted refl)
