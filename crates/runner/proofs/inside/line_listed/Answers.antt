-- `runner::inside::line_listed` meets its contract: the line of the answer stands in front of the output.
use Rattle.std.proofs.Common.{ℕ, List, ◌++◌, sym, ap, ◌∙◌}
use Rattle.runner.specs.Kept.{rest}
use Rattle.runner.proofs.Written.{written}
use Rattle.runner.proofs.inside.line_listed.Goals as goal

pub returns-in-Some-clause-listed : goal.returns-in-Some-clause-listed
returns-in-Some-clause-listed c bytes =
    let said = written _ _ _ _ _ c.requires.room c.put_line.ensures.count c.put_line.ensures.bytes in
    c.in-Some.ensures.listed bytes
    ∙ ap (λ (x : List ℕ). x ++ rest c.line_ended.new.r c.line_ended.new.committed c.line_ended.new.pending bytes) (sym said.0)

pub returns-in-Some-clause-after : goal.returns-in-Some-clause-after
returns-in-Some-clause-after c =
    let said = written _ _ _ _ _ c.requires.room c.put_line.ensures.count c.put_line.ensures.bytes in
    (said.1, said.2)
