-- `table::Fields::part` meets its contract: field n stands from where it begins up to the byte before the next one's beginning.
use mathlib.Core.Path.{sym}
use mathlib.Core.List.{[]}
use native.Mathlib.Omega.{arith}
use lib.ListN.{get_or-eq_default}
use Rattle.table.specs.Cut.{fields_by}
use Rattle.table.proofs.Cuts.{few-found, how-many-found, spans, field-bytes}
use Rattle.table.proofs.Fields.part.Goals as goal

-- no field past the last
pub returns-then-self-n : goal.returns-then-self-n
returns-then-self-n c =
    sym (get_or-eq_default (fields_by c.args.self.now) [] (omega (arith, how-many-found c.requires)))

pub offset_bounds-self-n : goal.offset_bounds-self-n
offset_bounds-self-n c = omega (arith, few-found c.requires)

pub bounds-self-n : goal.bounds-self-n
bounds-self-n c = omega (arith, few-found c.requires)

pub offset_bounds-self-n-2 : goal.offset_bounds-self-n-2
offset_bounds-self-n-2 c = omega (arith, few-found c.requires)

pub bounds-self-n-2 : goal.bounds-self-n-2
bounds-self-n-2 c = omega (arith, few-found c.requires)

pub overflow_sub-result : goal.overflow_sub-result
overflow_sub-result c = omega (arith, spans c.requires c.args.n (omega arith))

pub slice_bounds-result-count : goal.slice_bounds-result-count
slice_bounds-result-count c = omega (arith, spans c.requires c.args.n (omega arith))

pub slice_bounds-result-start : goal.slice_bounds-result-start
slice_bounds-result-start c = omega (arith, spans c.requires c.args.n (omega arith))

pub slice_bounds-result-end-2 : goal.slice_bounds-result-end-2
slice_bounds-result-end-2 c = omega (arith, spans c.requires c.args.n (omega arith))

pub returns : goal.returns
returns c = field-bytes c.requires c.args.n (omega arith)
