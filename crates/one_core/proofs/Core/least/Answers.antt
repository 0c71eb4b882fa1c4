-- `one_core::Core::least` meets its contract: `min_by_key` keeps the first of the least among the places and jobs of the list.
use Rattle.std.proofs.Common.{rules, tests, ◌≡◌, ℕ, ◌∷◌, Bor}
use Rattle.one_core.specs.Parts.{least}
use Rattle.one_core.proofs.LeastTurns.{whole, taken-turn}
use Rattle.std.specs.Prelude.{take}
use Rattle.std.proofs.lemmas.Iterator.{items_from_drains, YieldsList-from_slice}
use Rattle.std.proofs.lemmas.Iterator.Consumers.{YieldsList-from_enumerate}
use mathlib.Core.Path.{ap, sym}
use native.Mathlib.Omega.{arith}
use Rattle.one_core.specs.declared.Job.{Job}
use Rattle.one_core.proofs.Core.least.Goals as goal

pub returns-in-Some : goal.returns-in-Some
returns-in-Some c =
    let r = c.in-Some.ensures.ran in
    let k = c.args.self.now in
    whole {A = ℕ × Bor Job} (λ y. (y.0, y.1.now)) _
    (λ p x q t. taken-turn (λ y. y.0) p.0.1 t.0 x.1.now.deadline t.1 p.1 x q.1 q.0.1 (search (rules, tests, t)) t.3 t.4 t.5)
    k.jobs k.count r.0 r.1 r.3 r.2 (r.4, (c.in-Some.i, c.in-Some.field-0-1)) (omega arith)
    (items_from_drains {s = c.enumerate.result} (r.0 ∷ r.1) (r.5.1.0, r.5.1.1, λ _. (r.5.0, r.5.1.2)) (YieldsList-from_enumerate (YieldsList-from_slice (take k.count k.jobs) (cc)) (cc)))
    (search (rules, tests, r)) r.7

pub returns-in-None : goal.returns-in-None
unfolding least
returns-in-None c =
    let none : c.args.self.now.count ≡ 0 = search (rules, c.in-None.ensures.ran) in
    sym (ap (least c.args.self.now.jobs) none)
