-- `script::calls::verb` meets its contract: the bytes that an arm reads are a name's, and those that the last arm reads are no name's (`verb_is`).
use mathlib.Core.Path.{◌≡◌}
use native.Mathlib.Omega.{arith}
use Rattle.std.proofs.lemmas.Slice.Eq.{text_from_reads}
use Rattle.decimal.specs.Bytes.{ascii}
use Rattle.script.specs.Line.{verb}
use Rattle.script.proofs.calls.verb.Goals as goal

pub returns-in-setup : goal.returns-in-setup
unfolding verb
returns-in-setup c =
    let is : c.args.bytes.now ≡ ascii "setup" = text_from_reads _ _ (omega arith) (omega arith, (omega arith, (omega arith, (omega arith, (omega arith, tt))))) in
    rw is

pub returns-in-release : goal.returns-in-release
unfolding verb
returns-in-release c =
    let is : c.args.bytes.now ≡ ascii "release" = text_from_reads _ _ (omega arith) (omega arith, (omega arith, (omega arith, (omega arith, (omega arith, (omega arith, (omega arith, tt))))))) in
    rw is

pub returns-in-begin : goal.returns-in-begin
unfolding verb
returns-in-begin c =
    let is : c.args.bytes.now ≡ ascii "begin" = text_from_reads _ _ (omega arith) (omega arith, (omega arith, (omega arith, (omega arith, (omega arith, tt))))) in
    rw is

pub returns-in-read : goal.returns-in-read
unfolding verb
returns-in-read c =
    let is : c.args.bytes.now ≡ ascii "read" = text_from_reads _ _ (omega arith) (omega arith, (omega arith, (omega arith, (omega arith, tt)))) in
    rw is

pub returns-in-write : goal.returns-in-write
unfolding verb
returns-in-write c =
    let is : c.args.bytes.now ≡ ascii "write" = text_from_reads _ _ (omega arith) (omega arith, (omega arith, (omega arith, (omega arith, (omega arith, tt))))) in
    rw is

pub returns-in-commit : goal.returns-in-commit
unfolding verb
returns-in-commit c =
    let is : c.args.bytes.now ≡ ascii "commit" = text_from_reads _ _ (omega arith) (omega arith, (omega arith, (omega arith, (omega arith, (omega arith, (omega arith, tt)))))) in
    rw is

pub returns-in-giveup : goal.returns-in-giveup
unfolding verb
returns-in-giveup c =
    let is : c.args.bytes.now ≡ ascii "giveup" = text_from_reads _ _ (omega arith) (omega arith, (omega arith, (omega arith, (omega arith, (omega arith, (omega arith, tt)))))) in
    rw is

pub returns-in-finish : goal.returns-in-finish
unfolding verb
returns-in-finish c =
    let is : c.args.bytes.now ≡ ascii "finish" = text_from_reads _ _ (omega arith) (omega arith, (omega arith, (omega arith, (omega arith, (omega arith, (omega arith, tt)))))) in
    rw is
