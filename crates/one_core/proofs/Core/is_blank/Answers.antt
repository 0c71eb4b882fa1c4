-- `one_core::Core::is_blank` meets its contract: what is joined is 0 if and only if the numbers beside the jobs and the jobs passed are.
use Rattle.std.proofs.Common.{◌≡◌, ◌+◌, ◌*◌, ◌&&◌, not, Bool, ℕ, eqb, get_or, sym, ap, ap₂, ◌∙◌, arith}
use Rattle.objset.specs.Objset.{each}
use Rattle.one_core.specs.declared.Core.{Core}
use Rattle.one_core.specs.Parts.{no_job}
use Rattle.one_core.specs.Tidy.{zero_job}
use Rattle.one_core.proofs.TestLaws.{and-true, each_none}
use Rattle.one_core.proofs.TidyLaws.{job-zero, or-zero, each_next, numbers, no_numbers, not-blank, blank-by-sets}
use Rattle.one_core.proofs.Core.is_blank.Goals as goal
use Rattle.one_core.proofs.Core.is_blank.Goals.{Joined-not-self-2, then-not-self, else-not-self, then-not-self-2, else-not-self-2}

pub loop-j-init : goal.loop-j-init
loop-j-init c = rw each_none (sym (and-true _))

pub loop-j-preserved : goal.loop-j-preserved
loop-j-preserved c =
    let j = get_or c.args.self.now.jobs c.loop-j.j-index no_job in
    or-zero c.loop-j.all (j.number + j.deadline * 4294967296) ∙ ap₂ ◌&&◌ c.loop-j.invariant (job-zero j.number j.deadline)
    ∙ each_next c.loop-j.j-index _ _

-- what was joined tells of every number
opened : (c : Joined-not-self-2) → let k = c.args.self.now in c.if-not-self-2.value ≡ (not k.active && not k.zombie && no_numbers k)
opened c =
    elim c.if-not-self-2.branch [
      | then-not-self-2 w ↦ w.value-is ∙ all_joined ∙ sym (ap (λ (b : Bool). b && no_numbers k) (sym idle ∙ w.if-not-self-2.true))
      | else-not-self-2 w ↦ w.value-is ∙ w.if-not-self-2.false ∙ sym (ap (λ (b : Bool). b && no_numbers k) (sym idle ∙ w.if-not-self-2.false))
    ]
  where
    k : Core
    k = c.args.self.now

    idle : c.if-not-self.value ≡ (not k.active && not k.zombie)
    idle =
        elim c.if-not-self.branch [
          | then-not-self w ↦ w.value-is ∙ sym (ap (λ (b : Bool). not b && not k.zombie) w.if-not-self.true)
          | else-not-self w ↦ w.value-is ∙ ap not w.if-not-self.false ∙ sym (ap (λ (b : Bool). not b && not k.zombie) w.if-not-self.false)
        ]

    all_joined : eqb c.loop-j.all 0 ≡ no_numbers k
    all_joined = c.loop-j.invariant ∙ ap (λ (n : ℕ). eqb (numbers k) 0 && each n (λ q. zero_job (get_or k.jobs q no_job))) (omega arith)

pub returns-then-all-eq0 : goal.returns-then-all-eq0
returns-then-all-eq0 c = c.sets_empty.ensures ∙ blank-by-sets c.args.self.now _ (opened (goal.at.returns-then-all-eq0 c).Joined-not-self-2) c.if-all-eq0.true

pub returns-else-all-eq0 : goal.returns-else-all-eq0
returns-else-all-eq0 c = c.if-all-eq0.false ∙ not-blank c.args.self.now _ (opened (goal.at.returns-else-all-eq0 c).Joined-not-self-2) c.if-all-eq0.false
