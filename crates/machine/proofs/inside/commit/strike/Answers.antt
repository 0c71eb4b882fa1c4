-- `machine::inside::commit::strike` meets its contract: the cores before index k had their turn.
use Rattle.std.proofs.Common.{set, sym, ap, ◌∙◌, arith}
use lib.Seq.{set-get_or}
use Rattle.one_core.specs.declared.Core.{Core}
use Rattle.one_core.specs.Parts.{no_core}
use Rattle.machine.proofs.CoreLists.{strikes-next, strikes-hit, strikes-missed, strikes-done, strikes-none}
use Rattle.machine.proofs.inside.commit.strike.Goals as goal
use Rattle.machine.proofs.inside.commit.strike.Goals.{then-is_struck, else-is_struck}

pub returns-then-is_empty : goal.returns-then-is_empty
returns-then-is_empty c = sym (strikes-none c.args.ws c.args.cores.now (sym c.is_empty.ensures ∙ c.if-is_empty.true))

pub abort-requires : goal.abort-requires
abort-requires c =
    let at = c.loop-k in
    let l = c.loop-k-test.true in
    omega (arith, ap (λ (k : Core). k.aborts) (strikes-next c.args.ws c.args.cores.now at.k-index at.cores at.invariant (omega (arith, l))), c.requires at.k-index l)

pub loop-k-preserved : goal.loop-k-preserved
loop-k-preserved c =
    let at = c.loop-k in
    let old = c.args.cores.now in
    elim c.if-is_struck.branch [
      | then-is_struck w ↦ strikes-hit c.args.ws old at.k-index at.cores at.invariant (omega (arith, c.loop-k-test.true)) _ (sym c.is_struck.ensures ∙ w.if-is_struck.true) (w.cores-is ∙ ap (λ (k : Core). set at.cores at.k-index k) w.abort.ensures)
      | else-is_struck w ↦ strikes-missed c.args.ws old at.k-index at.cores at.invariant (omega (arith, c.loop-k-test.true)) _ (sym c.is_struck.ensures ∙ w.if-is_struck.false) (w.cores-is ∙ set-get_or at.cores at.k-index no_core)
    ]

pub returns : goal.returns
returns c = strikes-done c.args.ws c.args.cores.now c.loop-k.k-index c.loop-k.cores c.loop-k.invariant (omega (arith, c.loop-k-test.false))
