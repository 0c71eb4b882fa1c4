-- The promise of each public call after setup is what a step of a run asks (Follows): so the claim in setup's promise is about the
-- calls that run.
use Rattle.std.proofs.Common.{◌≡◌, ℕ, List, ap}
use Rattle.machine.specs.declared.Machine.{Machine}
use Rattle.machine.specs.declared.Outcome.{Outcome}
use Rattle.one_core.specs.declared.Answer.{Answer}
use Rattle.machine.specs.Rule.{World, Result, lent, left, release, begin, read, write, commit, give_up, finish, rule, Call, Release, Begin, Read, Write, Commit, GiveUp, Finish}
use Rattle.machine.specs.Follows.{Follows}

-- what the rule gives follows it
pub follows : (w : World) (call : Call) (a : Answer) (w' : World) → record { answer = a; world = w' } ≡ rule w call → Follows w call a w'
follows w call a w' e = record { answer_is = ap (λ (r : Result). r.answer) e; world_is = ap (λ (r : Result). r.world) e }

module _ (m : Machine) (cs ps : List ℕ) (r : Outcome) where
  -- a call that is lent no table, with any tables beside it
  beside : (x : Outcome) → r ≡ x → left r cs ps ≡ left x cs ps
  beside x e = ap (λ (o : Outcome). left o cs ps) e

  pub release-follows : (c number deadline : ℕ) → r ≡ release m c number deadline
      → Follows (lent m cs ps) (Release c number deadline) r.answer (lent r.machine cs ps)
  unfolding rule
  release-follows c number deadline e = follows (lent m cs ps) (Release c number deadline) _ _ (beside (release m c number deadline) e)

  pub begin-follows : (c : ℕ) → r ≡ begin m c → Follows (lent m cs ps) (Begin c) r.answer (lent r.machine cs ps)
  unfolding rule
  begin-follows c e = follows (lent m cs ps) (Begin c) _ _ (beside (begin m c) e)

  pub give-up-follows : (c : ℕ) → r ≡ give_up m c → Follows (lent m cs ps) (GiveUp c) r.answer (lent r.machine cs ps)
  unfolding rule
  give-up-follows c e = follows (lent m cs ps) (GiveUp c) _ _ (beside (give_up m c) e)

  pub finish-follows : (c : ℕ) → r ≡ finish m c → Follows (lent m cs ps) (Finish c) r.answer (lent r.machine cs ps)
  unfolding rule
  finish-follows c e = follows (lent m cs ps) (Finish c) _ _ (beside (finish m c) e)

  -- a call that is lent the tables leaves them as cs' and ps'
  module _ (cs' ps' : List ℕ) where
    pub read-follows : (c d : ℕ) → left r cs' ps' ≡ read (lent m cs ps) c d
        → Follows (lent m cs ps) (Read c d) r.answer (lent r.machine cs' ps')
    unfolding rule
    read-follows c d e = follows (lent m cs ps) (Read c d) _ _ e

    pub write-follows : (c d v : ℕ) → left r cs' ps' ≡ write (lent m cs ps) c d v
        → Follows (lent m cs ps) (Write c d v) r.answer (lent r.machine cs' ps')
    unfolding rule
    write-follows c d v e = follows (lent m cs ps) (Write c d v) _ _ e

    pub commit-follows : (c : ℕ) → left r cs' ps' ≡ commit (lent m cs ps) c → Follows (lent m cs ps) (Commit c) r.answer (lent r.machine cs' ps')
    unfolding rule
    commit-follows c e = follows (lent m cs ps) (Commit c) _ _ e
