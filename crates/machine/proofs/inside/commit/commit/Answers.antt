-- `machine::inside::commit::commit` meets its contract.
use Rattle.std.proofs.Common.{◌≡◌, ◌*◌, ◌<◌, true, false, None, Some, Ok, Err, length, refl, sym, ◌∙◌, arith, rules}
use Rattle.std.proofs.lemmas.Result.{err_from_is_err_and}
use Rattle.one_core.specs.Life.{is_read_only}
use Rattle.machine.specs.Record.{core_at}
use Rattle.machine.specs.Rule.{lent}
use Rattle.machine.proofs.Facts.{core-place}
use Rattle.machine.proofs.Entries.{part-long}
use Rattle.machine.proofs.CoreCalls.{core-found, to-settles}
use Rattle.machine.proofs.CallLaws.{refused-as}
use Rattle.machine.proofs.CommitLaws.{Ready, ready, row_within, carried-out}
use Rattle.machine.proofs.CommitCalls.{carried-through, by-commit-at}
use Rattle.machine.proofs.inside.commit.commit.Goals as goal
use Rattle.machine.proofs.inside.commit.commit.Goals.{In_ok-c, Joined-read_only, After-end, then-read_only+else-not-k+else-k, else-read_only}

-- the core that was found
here : (c : In_ok-c) → c.in_ok-c.c < c.args.m.now.cores
here c = let p = core-found c.args.core c.args.m.now.cores c.in_ok-c.c c.in_ok-c.ensures in omega (arith, p.0, p.1)

there : (c : In_ok-c) → c.in_ok-c.c < 16
there c = core-place c.args.m.now c.requires.is_sound c.in_ok-c.c (here c)

pub returns-in_err-c : goal.returns-in_err-c
returns-in_err-c c =
    let w = lent c.args.m.now c.args.committed.now c.args.pending.now in
    let p = err_from_is_err_and c.from_residual.result c.from_residual.ensures.1 in
    rw p.1 (by-commit-at w c.requires (search rules) c.args.core (Err _) None _ c.in_err-c.ensures refl (refused-as w _ _ p.2))

pub bounds-m-c : goal.bounds-m-c
bounds-m-c c = there (goal.at.bounds-m-c c).In_ok-c

pub bounds-m-c-2 : goal.bounds-m-c-2
bounds-m-c-2 c = there (goal.at.bounds-m-c-2 c).In_ok-c

pub returns-then-not-k : goal.returns-then-not-k
returns-then-not-k c =
    let w = lent c.args.m.now c.args.committed.now c.args.pending.now in
    by-commit-at w c.requires (search rules) c.args.core (Ok c.in_ok-c.c) _ _ c.in_ok-c.ensures refl (rw c.if-not-k.true refl)

pub returns-then-k : goal.returns-then-k
returns-then-k c =
    let w = lent c.args.m.now c.args.committed.now c.args.pending.now in
    rw c.tell.ensures (
    by-commit-at w c.requires (search rules) c.args.core (Ok c.in_ok-c.c) _ _ c.in_ok-c.ensures refl (rw (c.if-not-k.false, c.if-k.true) refl)
    )

-- past the tests its transaction is in progress and not marked: a read-only one was looked at, and one that has written always is so
standing : (c : Joined-read_only) → let k = core_at c.args.m.now c.in_ok-c.c in (k.active ≡ true) × (k.zombie ≡ false)
standing c =
    elim c.if-read_only.branch [
      | then-read_only+else-not-k+else-k w ↦ (w.if-not-k.false, w.if-k.false)
      | else-read_only w ↦
          let s = to-settles c.args.m.now c.requires.is_sound c.in_ok-c.c (here (goal.at.Joined-read_only c).In_ok-c) in
          let wrote : is_read_only (core_at c.args.m.now c.in_ok-c.c) ≡ false = sym c.is_read_only-read_only.ensures ∙ w.if-read_only.false in
          (s.written_active wrote, s.written_unmarked wrote)
    ]

pub returns-in-Some : goal.returns-in-Some
returns-in-Some c =
    let w = lent c.args.m.now c.args.committed.now c.args.pending.now in
    let s = standing (goal.at.returns-in-Some c).Joined-read_only in
    by-commit-at w c.requires (search rules) c.args.core (Ok c.in_ok-c.c) (Some _) _ c.in_ok-c.ensures c.in-Some.ensures (rw (s.0, s.1) refl)

-- the commit goes through, and what it asks can be carried out
able : (c : After-end) → Ready c.args.m.now c.requires.is_sound c.in_ok-c.c
able c =
    ready c.args.m.now c.requires.is_sound c.in_ok-c.c (here (goal.at.After-end c).In_ok-c) (search rules) (search rules)
    (standing (goal.at.After-end c).Joined-read_only).0

pub overflow_add-m : goal.overflow_add-m
overflow_add-m c = record { fits = omega (arith, (able c).counted) }

pub write_back-requires-clause-own_long : goal.write_back-requires-clause-own_long
write_back-requires-clause-own_long c =
    let m = c.args.m.now in
    omega (
      arith,
      part-long c.args.pending.now (c.in_ok-c.c * m.objects),
      row_within c.in_ok-c.c m.cores m.objects (here (goal.at.write_back-requires-clause-own_long c).In_ok-c),
      c.requires.committed_long,
      c.requires.pending_long,
    )

pub write_back-requires-clause-by_index : goal.write_back-requires-clause-by_index
write_back-requires-clause-by_index c d l p =
    omega (arith, (able (goal.at.write_back-requires-clause-by_index c).After-end).within d l p, c.requires.committed_long)

pub write_back-requires-clause-by_index_2 : goal.write_back-requires-clause-by_index_2
write_back-requires-clause-by_index_2 c d l p =
    (able (goal.at.write_back-requires-clause-by_index_2 c).After-end).raised d (omega (arith, c.requires.committed_long)) p

pub strike-requires : goal.strike-requires
strike-requires c = rw c.end.ensures (able (goal.at.strike-requires c).After-end).strikable

pub returns : goal.returns
returns c =
    let w = lent c.args.m.now c.args.committed.now c.args.pending.now in
    let s = standing (goal.at.returns c).Joined-read_only in
    let stored = c.write_back.ensures in
    let long : length c.args.m.now.core ≡ 16 = search rules in
    let inside : c.in_ok-c.c < length c.args.m.now.core = omega (arith, long, there (goal.at.returns c).In_ok-c) in
    rw (c.strike.ensures, c.end.ensures, stored.values, stored.raised) (
    carried-out w c.in_ok-c.c inside
    ∙ sym (carried-through w c.in_ok-c.c inside)
    ∙ by-commit-at w c.requires long c.args.core (Ok c.in_ok-c.c) None _ c.in_ok-c.ensures c.in_default.ensures (rw (s.0, s.1) refl)
    )
