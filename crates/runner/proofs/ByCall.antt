-- What a request of a script leaves, by the promise of the function that carries it out.
use Rattle.std.proofs.Common.{◌≡◌, ℕ, ◌*◌, List, ◌++◌, length, take, drop, refl, ap, ◌∙◌, subst, take-append-drop}
use Rattle.machine.specs.Rule as Rule
use Rattle.machine.specs.Rule.{Result, World, lent, rule}
use Rattle.one_core.specs.declared.Answer.{Answer}
use Rattle.machine.specs.declared.Machine.{Machine}
use Rattle.machine.specs.declared.Outcome.{Outcome}
use Rattle.machine.specs.Inside.{WellFormedWorld}
use Rattle.runner.specs.Kept.{held, BlankOrSound}
use Rattle.runner.specs.Listing.{Request, Anew, Asks, met}
use Rattle.runner.proofs.Setups as Setups
use Rattle.runner.proofs.Acts.{Done, acted}

-- what a request leaves is by its rule
abbrev pub ByRequest : Machine → List ℕ → List ℕ → Request → Outcome → List ℕ → List ℕ → Type 0
ByRequest m cs ps x r cs' ps' = Done cs ps (met (held m cs ps) x) r cs' ps'

module _ (m : Machine) (cs ps : List ℕ) (r : Outcome) (cs' ps' : List ℕ) where
  pub setup-done : (cores cards : ℕ) → Setups.Done cs ps cores cards r cs' ps' → ByRequest m cs ps (Anew cores cards) r cs' ps'
  unfolding met
  setup-done cores cards d = d

module _ (m : Machine) (cs ps : List ℕ) (g : WellFormedWorld (held m cs ps)) (fit : BlankOrSound m cs ps) (asked : Rule.Call) (m' : Machine) (a a' : Answer)
    (given : a' ≡ a) where
  abbrev dl : ℕ
  dl = m.objects

  abbrev nl : ℕ
  nl = m.cores * m.objects

  -- what is left where the tables are these
  abbrev Left : List ℕ → List ℕ → Type 0
  Left cs' ps' = ByRequest m cs ps (Asks asked) (record { machine = m'; answer = a' }) cs' ps'

  -- the call is lent the first words, and leaves them as cs' and ps'
  call-done : (cs' ps' : List ℕ) → length cs' ≡ length (take dl cs) → length ps' ≡ length (take nl ps)
      → record { answer = a; world = lent m' cs' ps' } ≡ rule (held m cs ps) asked → Left (cs' ++ drop dl cs) (ps' ++ drop nl ps)
  unfolding met
  call-done cs' ps' k l same =
      acted m cs ps g fit.committed_long fit.pending_long asked (record { machine = m'; answer = a' }) cs' ps' k l
      (record { answer_is = given ∙ ap (λ (x : Result). x.answer) same; world_is = ap (λ (x : Result). x.world) same })

  -- a read or a write: the committed words stay
  pub access-done : (ps' : List ℕ) → length ps' ≡ length (take nl ps)
      → record { answer = a; world = lent m' (take dl cs) ps' } ≡ rule (held m cs ps) asked → Left cs (ps' ++ drop nl ps)
  access-done ps' l same = subst (λ (x : List ℕ). Left x (ps' ++ drop nl ps)) (take-append-drop dl cs) (call-done (take dl cs) ps' refl l same)

  -- a commit: the pending words stay
  pub commit-done : (cs' : List ℕ) → length cs' ≡ length (take dl cs)
      → record { answer = a; world = lent m' cs' (take nl ps) } ≡ rule (held m cs ps) asked → Left (cs' ++ drop dl cs) ps
  commit-done cs' k same = subst (λ (y : List ℕ). Left (cs' ++ drop dl cs) y) (take-append-drop nl ps) (call-done cs' (take nl ps) k refl same)
