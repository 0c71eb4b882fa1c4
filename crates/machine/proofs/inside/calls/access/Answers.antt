-- `machine::inside::calls::access` meets its contract.
use Rattle.std.proofs.Common.{ℕ, refl, ap, ◌∙◌, arith}
use Rattle.std.proofs.lemmas.Result.{err_from_is_err_and}
use Rattle.machine.specs.Rule.{lent}
use Rattle.machine.specs.OneCore.{found}
use Rattle.machine.proofs.CoreCalls.{by-core-at, by-refusal, core-there, object-there, to-slot, to-few_jobs, to-one_open}
use Rattle.machine.proofs.CallLaws.{refused-as}
use Rattle.machine.proofs.inside.calls.access.Goals as goal

pub returns-in_err-at : goal.returns-in_err-at
returns-in_err-at c =
    let m = c.args.m.now in
    let w = lent m c.args.committed.now c.args.pending.now in
    let p = err_from_is_err_and c.from_residual.result c.from_residual.ensures.1 in
    rw p.1 (
    refused-as w _ _ p.2
    ∙ by-refusal w c.requires c.args.act c.args.core _ (c.in_err-at.ensures ∙ ap (λ (d : ℕ). found c.args.core d m.cores m.objects) c.object.ensures)
    )

pub bounds-pending-slot : goal.bounds-pending-slot
bounds-pending-slot c = omega (arith, to-slot _ c.requires.is_sound _ _ _ c.in_ok-at.ensures, c.requires.pending_long)

pub act_at-requires-clause-there : goal.act_at-requires-clause-there
act_at-requires-clause-there c = core-there _ c.requires.is_sound _ _ _ c.in_ok-at.ensures

pub act_at-requires-clause-card : goal.act_at-requires-clause-card
act_at-requires-clause-card c = object-there _ c.requires.is_sound _ _ _ c.in_ok-at.ensures

pub act_at-requires-clause-few_jobs : goal.act_at-requires-clause-few_jobs
act_at-requires-clause-few_jobs c = to-few_jobs _ c.requires.is_sound _ _ _ c.in_ok-at.ensures

pub act_at-requires-clause-one_open : goal.act_at-requires-clause-one_open
act_at-requires-clause-one_open c = to-one_open _ c.requires.is_sound _ _ _ c.in_ok-at.ensures

pub returns : goal.returns
returns c =
    let left = c.act_at.ensures in
    rw (left.left, left.word, left.answer) (
    by-core-at (lent c.args.m.now c.args.committed.now c.args.pending.now) c.requires c.args.act c.args.core _ c.in_ok-at.at _ _ c.object.ensures
    c.in_ok-at.ensures refl refl
    )
