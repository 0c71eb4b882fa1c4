-- `taskset::tasks::standing` meets its contract.
use Rattle.std.proofs.Common.{rules, ◌≡◌, refl, ◌+◌, sym, ap, ◌∙◌, ◌⊎◌, inl, inr, ◌≤◌, ◌<◌, List, [], length, Option, None, Some, Bor, arith}
use Rattle.std.specs.List.{slice_range}
use Rattle.std.specs.Option.{unwrap_or, MatchOption}
use Rattle.std.proofs.lemmas.Slice.{between_from_start}
use Rattle.taskset.specs.declared.Task.{Task}
use Rattle.taskset.specs.declared.TaskSet.{TaskSet}
use Rattle.taskset.specs.Tasks.{most_tasks, standing}
use Rattle.taskset.proofs.TaskLaws.{standing-few, standing-none}
use Rattle.taskset.proofs.tasks.standing.Goals as goal

part : (s : TaskSet) → length s.tasks ≡ most_tasks → (none : Bor (List Task)) → none.now ≡ [] → (r : Option (Bor (List Task)))
    → MatchOption r ((s.count < 0) ⊎ (length s.tasks < s.count)) (λ x. (0 ≤ s.count) × (s.count ≤ length s.tasks) × (x.now ≡ slice_range s.tasks 0 s.count) × (length x.now + 0 ≡ s.count))
    → (unwrap_or r none).now ≡ standing s
part s long none e None (inl h) = absurd (omega (arith, h))
part s long none e None (inr h) = e ∙ sym (standing-none s (omega (arith, h, long)))
part s long none e (Some x) h = h.2 ∙ between_from_start s.tasks s.count ∙ sym (standing-few s (omega (arith, h.1, long)))

pub returns : goal.returns
returns c =
    let long : length c.args.set.now.tasks ≡ most_tasks = search rules in
    ap (λ (x : Bor (List Task)). x.now) c.unwrap_or.ensures ∙ part c.args.set.now long _ refl c.get.result c.get.ensures.lookup.0
