-- `entry::cards_run` meets its contract: the output has room for a listing of so many lines; or the second run lists what the first has
-- counted.
use mathlib.Core.Path.{◌≡◌, sym, ◌∙◌}
use mathlib.Core.List.{List}
use Prim.Native.Nat.{ℕ}
use lib.ListN.{length}
use Rattle.runner.specs.Listing.{listing}
use Rattle.runner.specs.Runs.{ScriptRuns}
use Rattle.runner.proofs.Runs.{script-runs}
use Rattle.entry.specs.Fitting.{whole_or_none}
use Rattle.entry.specs.Enough.{Enough}
use Rattle.entry.proofs.Fits.{has_room, too_long, fits}
use Rattle.entry.proofs.Lines.{enough-room, always-enough}
use Rattle.entry.proofs.cards_run.Goals as goal

-- count and bytes, and what follows of every script
with-claims : (script output : List ℕ) {n : ℕ} {B : Type 0} → (n ≡ length (whole_or_none (listing script) output)) × B
    → (n ≡ length (whole_or_none (listing script) output)) × (B × (Enough script output n × ScriptRuns script))
with-claims script output p = (p.0, (p.1, (always-enough script output _ p.0, script-runs script)))

pub returns-then-is_enough : goal.returns-then-is_enough
returns-then-is_enough c =
    let run = c.list_into in
    let start = c.args in
    let room = enough-room start.script.now _ _ c.lines_of.ensures (sym c.is_enough.ensures ∙ c.if-is_enough.true) in
    let all = with-claims start.script.now start.output.now (has_room (listing start.script.now) start.output.now room _ _ run.ensures.count run.ensures.bytes) in
    record { count = all.0; bytes = all.1.0; enough = all.1.1.0; runs = all.1.1.1 }

pub returns-then-output-n : goal.returns-then-output-n
returns-then-output-n c =
    let first = c.list_into-n in
    let start = c.args in
    let all = with-claims start.script.now start.output.now (too_long (listing start.script.now) start.output.now first.new.output first.auto.output _ first.ensures.count c.if-output-n.true) in
    record { count = all.0; bytes = all.1.0; enough = all.1.1.0; runs = all.1.1.1 }

pub returns : goal.returns
returns c =
    let second = c.list_into-2 in
    let first = c.list_into-n in
    let start = c.args in
    let all = with-claims start.script.now start.output.now (fits (listing start.script.now) start.output.now first.new.output first.auto.output _ first.ensures.count c.if-output-n.false _ _ second.ensures.count second.ensures.bytes) in
    record { count = all.0; bytes = all.1.0; enough = all.1.1.0; runs = all.1.1.1 }
