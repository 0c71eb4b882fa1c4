-- `machine::inside::calls::alone` meets its contract.
use Rattle.std.proofs.Common.{ℕ, ◌*◌, sym, refl, ap, ◌∙◌, ap₂}
use lib.ListN.{get_or-replicate}
use Rattle.std.proofs.lemmas.Result.{err_from_is_err_and}
use Rattle.machine.specs.OneCore.{found, sees, zeroed, handed}
use Rattle.machine.proofs.CoreCalls.{by-core-at, by-refusal, to-object, core-there, object-there, to-slot, to-few_jobs, to-one_open, zeroed-fine}
use Rattle.machine.proofs.CallLaws.{refused-as}
use Rattle.machine.proofs.inside.calls.alone.Goals as goal

pub returns-in_err-at : goal.returns-in_err-at
returns-in_err-at c =
    let m = c.args.m.now in
    let p = err_from_is_err_and c.from_residual.result c.from_residual.ensures.1 in
    rw p.1 (
    ap handed
    (refused-as (zeroed m) _ _ p.2
    ∙ by-refusal (zeroed m) (zeroed-fine m c.requires) c.args.act c.args.core _ (c.in_err-at.ensures ∙ ap (λ (d : ℕ). found c.args.core d m.cores m.objects) c.object.ensures))
    )

pub act_at-requires-clause-there : goal.act_at-requires-clause-there
act_at-requires-clause-there c = core-there _ c.requires _ _ _ c.in_ok-at.ensures

pub act_at-requires-clause-card : goal.act_at-requires-clause-card
act_at-requires-clause-card c = object-there _ c.requires _ _ _ c.in_ok-at.ensures

pub act_at-requires-clause-few_jobs : goal.act_at-requires-clause-few_jobs
act_at-requires-clause-few_jobs c = to-few_jobs _ c.requires _ _ _ c.in_ok-at.ensures

pub act_at-requires-clause-one_open : goal.act_at-requires-clause-one_open
act_at-requires-clause-one_open c = to-one_open _ c.requires _ _ _ c.in_ok-at.ensures

-- a table of zeros holds 0 wherever the call looks
pub returns : goal.returns
returns c =
    let m = c.args.m.now in
    let at = c.in_ok-at.at in
    let left = c.act_at.ensures in
    let e = c.in_ok-at.ensures in
    rw (left.left, left.answer) (
    ap handed
    (by-core-at (zeroed m) (zeroed-fine m c.requires) c.args.act c.args.core _ at (sees m at.object 0 0) _ c.object.ensures e
    (ap₂ (λ (x y : ℕ). sees m at.object x y)
    (sym (get_or-replicate m.objects at.object 0 0 (to-object m c.requires _ _ at e)))
    (sym (get_or-replicate (m.cores * m.objects) _ 0 0 (to-slot m c.requires _ _ at e))))
    refl)
    )
