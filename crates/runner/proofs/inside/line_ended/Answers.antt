-- `runner::inside::line_ended` meets its contract: each thing that a line may ask for is carried out by the rule.
use Rattle.std.proofs.Common.{◌≡◌, ℕ, true, refl, ◌∙◌, arith}
use Rattle.machine.specs.Inside.{WellFormedWorld}
use Rattle.machine.specs.Rule.{World, Result, rule, commit, Commit}
use Rattle.request.specs.declared.Asked.{Asked}
use Rattle.runner.specs.Kept.{held}
use Rattle.runner.proofs.Asking.{calls, founded}
use Rattle.runner.proofs.Acts.{refused_done}
use Rattle.runner.proofs.Sizes.{own-words, good-if-some}
use Rattle.runner.proofs.ByCall.{setup-done, access-done, commit-done}
use Rattle.runner.proofs.Endings.{order-ended, line-ended}
use Rattle.runner.proofs.inside.line_ended.Goals as goal
use Rattle.runner.proofs.inside.line_ended.Goals.{After-end_line-asked}

-- a commit is one of the calls
by-rule : {x : Result} (w : World) (core : ℕ) → x ≡ commit w core → x ≡ rule w (Commit core)
unfolding rule
by-rule w core e = e

-- a call that needs a machine finds one
good : (c : After-end_line-asked) (b : Asked) → c.end_line-asked.result ≡ b → calls b ≡ true → WellFormedWorld (held c.args.r.now.machine c.args.committed.now c.args.pending.now)
good c b same needs = good-if-some _ _ _ c.requires.0.holds (founded _ _ _ _ _ c.end_line-asked.ensures b same needs)

pub commit-given-requires : goal.commit-given-requires
commit-given-requires c = (good (goal.at.commit-given-requires c).After-end_line-asked _ c.in-Commit.is refl).world_sound

pub access-given-requires : goal.access-given-requires
access-given-requires c = (good (goal.at.access-given-requires c).After-end_line-asked _ c.in-One.is refl).world_sound

-- the words that a call is lent lie within the table
pub slice_bounds-commit-end : goal.slice_bounds-commit-end
slice_bounds-commit-end c = omega (arith, own-words _ _ _ c.requires.0.holds, c.requires.0.holds.pending_long)

pub slice_bounds-access-end : goal.slice_bounds-access-end
slice_bounds-access-end c = omega (arith, own-words _ _ _ c.requires.0.holds, c.requires.0.holds.pending_long)

pub returns-in-Order : goal.returns-in-Order
returns-in-Order c =
    let e = order-ended _ _ _ c.requires.0 c.requires.1 _ c.end_line-asked.ensures _ c.in-Order.is in
    record { fit = e.fit; empty = refl; listed = e.listed; kept = e.kept }

pub returns-in-Refused : goal.returns-in-Refused
returns-in-Refused c =
    let e = line-ended _ _ _ c.requires.0 c.requires.1 _ c.end_line-asked.ensures _ c.in-Refused.is refl _ c.requires.1 _ _ _ _
    (refused_done _ _ _ c.requires.0.holds _ _ c.from.ensures) in
    record { fit = e.fit; empty = refl; listed = e.listed; kept = e.kept }

pub returns-in-Ended : goal.returns-in-Ended
returns-in-Ended c =
    let e = line-ended _ _ _ c.requires.0 c.requires.1 _ c.end_line-asked.ensures _ c.in-Ended.is refl _ refl _ _ _ _
    (refused_done _ _ _ c.requires.0.holds _ _ c.from-in-Ended.ensures) in
    record { fit = e.fit; empty = refl; listed = e.listed; kept = e.kept }

pub returns-in-Setup : goal.returns-in-Setup
returns-in-Setup c =
    let made = c.set_up-given.ensures in
    let e = line-ended _ _ _ c.requires.0 c.requires.1 _ c.end_line-asked.ensures _ c.in-Setup.is refl _ c.requires.1 _ _ _ _
    (setup-done _ _ _ _ _ _ _ _ (c.of.ensures ∙ made.answer, (made.world, (made.kept, made.tables)))) in
    record { fit = e.fit; empty = refl; listed = e.listed; kept = e.kept }

pub returns-in-Commit : goal.returns-in-Commit
returns-in-Commit c =
    let g = good (goal.at.returns-in-Commit c).After-end_line-asked _ c.in-Commit.is refl in
    let e = line-ended _ _ _ c.requires.0 c.requires.1 _ c.end_line-asked.ensures _ c.in-Commit.is refl _ c.requires.1 _ _ _ _
    (commit-done _ _ _ g c.requires.0.holds _ _ _ _ c.of-in-Commit.ensures _ c.commit-given.auto.committed (by-rule _ _ c.commit-given.ensures)) in
    record { fit = e.fit; empty = refl; listed = e.listed; kept = e.kept }

pub returns-in-One : goal.returns-in-One
returns-in-One c =
    let g = good (goal.at.returns-in-One c).After-end_line-asked _ c.in-One.is refl in
    let e = line-ended _ _ _ c.requires.0 c.requires.1 _ c.end_line-asked.ensures _ c.in-One.is refl _ c.requires.1 _ _ _ _
    (access-done _ _ _ g c.requires.0.holds _ _ _ _ c.of-in-One.ensures _ c.access-given.auto.pending c.access-given.ensures) in
    record { fit = e.fit; empty = refl; listed = e.listed; kept = e.kept }
