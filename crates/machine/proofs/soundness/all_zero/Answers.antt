-- `machine::soundness::all_zero` meets its contract.
use Rattle.std.proofs.Common.{◌≡◌, Bool, ◌&&◌, sym, ap, ◌∙◌, rules}
use Rattle.machine.specs.Sound.{cards_sound, cores_sound}
use Rattle.machine.proofs.BlankLaws.{uncounted, blank-by-tests}
use Rattle.machine.proofs.soundness.all_zero.Goals as goal

pub returns-then-versions_bounded : goal.returns-then-versions_bounded
returns-then-versions_bounded c =
    let m = c.args.m.now in
    let two : c.if-m-eq0-5.value ≡ (uncounted m && cards_sound m) = search rules in
    c.cores_kept.ensures ∙ ap (λ (b : Bool). b && cores_sound m) (sym c.if-versions_bounded.true ∙ two) ∙ blank-by-tests m

pub returns-else-versions_bounded : goal.returns-else-versions_bounded
returns-else-versions_bounded c =
    let m = c.args.m.now in
    let two : c.if-m-eq0-5.value ≡ (uncounted m && cards_sound m) = search rules in
    c.if-versions_bounded.false ∙ ap (λ (b : Bool). b && cores_sound m) (sym c.if-versions_bounded.false ∙ two) ∙ blank-by-tests m
