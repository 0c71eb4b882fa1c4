-- Each call that follows the rule is one of the cases.
use Rattle.std.proofs.Common.{sym}
use mathlib.Core.Path.{subst₂}
use Rattle.one_core.specs.declared.Answer.{Answer}
use Rattle.machine.specs.Rule.{World, rule, Call, Release, Begin, Read, Write, Commit, GiveUp, Finish}
use Rattle.machine.specs.Follows.{Follows}
use Rattle.machine.proofs.Case.{Case, release-case, begin-case, read-case, write-case, commit-case, give-up-case, finish-case}

pub case-of : {w : World} {call : Call} {a : Answer} {w' : World} → Follows w call a w' → Case w call a w'
unfolding rule
case-of {w} {call} {a} {w'} f =
    subst₂ (λ (b : Answer) (v : World). Case w call b v) (sym f.answer_is) (sym f.world_is) (go call)
  where
    go : (x : Call) → Case w x (rule w x).answer (rule w x).world
    go (Release c number deadline) = release-case w c number deadline
    go (Begin c) = begin-case w c
    go (Read c d) = read-case w c d
    go (Write c d v) = write-case w c d v
    go (Commit c) = commit-case w c
    go (GiveUp c) = give-up-case w c
    go (Finish c) = finish-case w c
