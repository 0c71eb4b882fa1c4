-- `machine::soundness::cores_kept` meets its contract: each core passed keeps the rules, and each transaction is counted.
use Rattle.std.proofs.Common.{◌&&◌, refl, ◌∙◌, ap₂, arith}
use Rattle.machine.specs.Record.{core_at}
use Rattle.one_core.proofs.Tidy.{blank-core}
use Rattle.one_core.proofs.TestLaws.{holds, breaks, each_none, each_more}
use Rattle.machine.proofs.Tally.{tally-none, tally-counts, tally-skips}
use Rattle.machine.proofs.SoundLaws.{kept_at, tidy-had, tidy-lacked, turn_on, turn-off, kept-fails, kept-all}
use Rattle.machine.proofs.soundness.cores_kept.Goals as goal
use Rattle.machine.proofs.soundness.cores_kept.Goals.{then-c-cores+else-not-is_tidy+then-k+else-not-turn_kept, then-c-cores+else-not-is_tidy+else-k, else-c-cores+else-not-is_blank}

pub loop-c-init : goal.loop-c-init
loop-c-init c = (omega arith, tally-none _, each_none _)

pub returns-then-not-is_tidy : goal.returns-then-not-is_tidy
returns-then-not-is_tidy c =
    kept-fails c.args.m.now c.loop-c.c c.loop-c-test.true
    (tidy-had c.args.m.now c.loop-c.c c.if-c-cores.true ∙ breaks c.if-not-is_tidy.ensures refl) refl refl

pub returns-then-not-turn_kept : goal.returns-then-not-turn_kept
returns-then-not-turn_kept c =
    kept-fails c.args.m.now c.loop-c.c c.loop-c-test.true
    (tidy-had c.args.m.now c.loop-c.c c.if-c-cores.true ∙ holds c.if-not-is_tidy.ensures refl)
    (turn_on c.args.m.now c.loop-c.c c.if-k.true ∙ breaks c.if-not-turn_kept.ensures refl) refl

pub returns-then-not-is_blank : goal.returns-then-not-is_blank
returns-then-not-is_blank c =
    kept-fails c.args.m.now c.loop-c.c c.loop-c-test.true
    (tidy-lacked c.args.m.now c.loop-c.c c.if-c-cores.false ∙ breaks c.if-not-is_blank.ensures refl) refl refl

pub loop-c-preserved : goal.loop-c-preserved
loop-c-preserved c =
    let m = c.args.m.now in
    let i = c.loop-c.c in (
      elim c.if-c-cores.branch [ then-c-cores+else-not-is_tidy+then-k+else-not-turn_kept w ↦ omega arith | then-c-cores+else-not-is_tidy+else-k w ↦ omega arith | else-c-cores+else-not-is_blank w ↦ omega arith ],
      elim c.if-c-cores.branch [
        | then-c-cores+else-not-is_tidy+then-k+else-not-turn_kept w ↦ w.open-is ∙ tally-counts _ _ _ c.loop-c.invariant.1 w.if-k.true
        | then-c-cores+else-not-is_tidy+else-k w ↦ w.open-is ∙ tally-skips _ _ _ c.loop-c.invariant.1 w.if-k.false
        | else-c-cores+else-not-is_blank w ↦
            w.open-is ∙ tally-skips _ _ _ c.loop-c.invariant.1 (blank-core (core_at m i) (holds w.if-not-is_blank.ensures refl)).no-transaction
      ],
      each_more i (kept_at m) c.loop-c.invariant.2 (elim c.if-c-cores.branch [
        | then-c-cores+else-not-is_tidy+then-k+else-not-turn_kept w ↦
            ap₂ ◌&&◌ (tidy-had m i w.if-c-cores.true ∙ holds w.if-not-is_tidy.ensures refl)
            (turn_on m i w.if-k.true ∙ holds w.if-not-turn_kept.ensures refl)
        | then-c-cores+else-not-is_tidy+else-k w ↦ ap₂ ◌&&◌ (tidy-had m i w.if-c-cores.true ∙ holds w.if-not-is_tidy.ensures refl) (turn-off m i w.if-k.false)
        | else-c-cores+else-not-is_blank w ↦
            let kept = holds w.if-not-is_blank.ensures refl in
            ap₂ ◌&&◌ (tidy-lacked m i w.if-c-cores.false ∙ kept) (turn-off m i (blank-core (core_at m i) kept).no-transaction)
      ]),
    )

pub returns : goal.returns
returns c = kept-all _ _ _ c.loop-c-test.false c.loop-c.auto.c-end c.loop-c.invariant.1 c.loop-c.invariant.2
