-- `machine::soundness::is_sound` meets its contract.
use Rattle.std.proofs.Common.{◌≡◌, Bool, ◌&&◌, sym, ap, ◌∙◌, rules}
use Rattle.machine.specs.Sound.{in_range, cards_sound, cores_sound}
use Rattle.machine.proofs.SoundLaws.{sound-parts}
use Rattle.machine.proofs.soundness.is_sound.Goals as goal

pub returns-then-versions_bounded : goal.returns-then-versions_bounded
unfolding in_range
returns-then-versions_bounded c =
    let m = c.args.m.now in
    let two : c.if-in_range.value ≡ (in_range m && cards_sound m) = search rules in
    c.cores_kept.ensures ∙ ap (λ (b : Bool). b && cores_sound m) (sym c.if-versions_bounded.true ∙ two) ∙ sound-parts m

pub returns-else-versions_bounded : goal.returns-else-versions_bounded
unfolding in_range
returns-else-versions_bounded c =
    let m = c.args.m.now in
    let two : c.if-in_range.value ≡ (in_range m && cards_sound m) = search rules in
    c.if-versions_bounded.false ∙ ap (λ (b : Bool). b && cores_sound m) (sym c.if-versions_bounded.false ∙ two) ∙ sound-parts m
