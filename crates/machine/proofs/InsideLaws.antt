-- For callers of the calls, public or inside: the world that a call hands back is good where the world it was given is. A call's
-- promise is its equation here.
use Rattle.std.proofs.Common.{◌≡◌, ℕ, List, sym, ap, ◌∙◌, subst}
use Rattle.machine.specs.declared.Machine.{Machine}
use Rattle.machine.specs.declared.Outcome.{Outcome}
use Rattle.one_core.specs.declared.Answer.TheVariants.{Ready}
use Rattle.machine.specs.Inside.{WellFormedWorld}
use Rattle.machine.specs.Rule.{Result, lent, left, setup, commit}
use Rattle.machine.proofs.CaseOf.{case-of}
use Rattle.machine.proofs.Binds.{commit-follows}
use Rattle.machine.proofs.Sound.Keeps.{keeps-good, setup-good}

-- an accepted setup
pub setup-left : (cores objects : ℕ) (cs ps : List ℕ) (r : Outcome) (cs' ps' : List ℕ) → left r cs' ps' ≡ setup cores objects cs ps
    → r.answer ≡ Ready → WellFormedWorld (lent r.machine cs' ps')
setup-left cores objects cs ps r cs' ps' e ready =
    subst WellFormedWorld (sym (ap (λ (x : Result). x.world) e))
    (setup-good cores objects cs ps (sym (ap (λ (x : Result). x.answer) e) ∙ ready))

module _ (m : Machine) (cs ps : List ℕ) (g : WellFormedWorld (lent m cs ps)) (r : Outcome) where
  -- a call that is lent the tables leaves them as cs' and ps'
  module _ (cs' ps' : List ℕ) where
    pub commit-left : (c : ℕ) → left r cs' ps' ≡ commit (lent m cs ps) c → WellFormedWorld (lent r.machine cs' ps')
    commit-left c e = keeps-good (case-of (commit-follows m cs ps r cs' ps' c e)) g
