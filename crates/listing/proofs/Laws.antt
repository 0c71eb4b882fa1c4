-- What a caller knows of a listing: a line has at most 32 bytes, what putting a text leaves, and that texts put one after another are put as
-- one.
use Rattle.std.proofs.Common.{◌≡◌, ℕ, ◌+◌, ◌<◌, ◌≤◌, List, [], ◌++◌, length, take, drop, sym, refl, ap, ◌∙◌, arith, length-append, length-drop, length-take, drop-drop, le-ltb, lt-ltb, le-leb}
use lib.Seq.{take-append_seam, drop-append-add}
use borrow.Author.Tests.{lt-leb}
use Rattle.decimal.proofs.Laws.{spelling-length}
use Rattle.one_core.specs.declared.Answer.{Answer}
use Rattle.one_core.specs.declared.Answer.TheVariants.{Ready, Running, Queued, Begun, Value, Written, Waits, Committed, SetBack, Ended, Finished, Refused}
use Rattle.listing.specs.Text.{word, value_text, spaced, said, line, fitting, put, fitting_at, placed}

-- ---- the length of a line

pub word-short : (a : Answer) → length (word a) ≤ 9
word-short Ready = omega arith
word-short Running = omega arith
word-short Queued = omega arith
word-short (Begun t) = omega arith
word-short (Value v n) = omega arith
word-short Written = omega arith
word-short (Waits c) = omega arith
word-short (Committed n) = omega arith
word-short SetBack = omega arith
word-short Ended = omega arith
word-short (Finished j) = omega arith
word-short (Refused n) = omega arith

pub spaced-short : (a : Answer) → length (spaced a) ≤ 11
spaced-short a = rw length-append (omega (arith, word-short a))

pub value-short : (a : Answer) → length (value_text a) ≤ 10
value-short Ready = omega arith
value-short Running = omega arith
value-short Queued = omega arith
value-short (Begun t) = (spelling-length t).1
value-short (Value v n) = (spelling-length v).1
value-short Written = omega arith
value-short (Waits c) = (spelling-length c).1
value-short (Committed n) = (spelling-length n).1
value-short SetBack = omega arith
value-short Ended = omega arith
value-short (Finished j) = (spelling-length j).1
value-short (Refused n) = (spelling-length n).1

pub line-short : (n : ℕ) (a : Answer) → length (line n a) ≤ 32
unfolding line said
line-short n a = simp length-append (omega (arith, spelling-length n, word-short a, value-short a))

-- ---- putting a text over the first bytes of an output

-- a text, and after it what an output held there
abbrev pub over : List ℕ → List ℕ → List ℕ
over text output = text ++ drop (length text) output

pub fitting-whole : (text output : List ℕ) → 32 ≤ length output → fitting text output ≡ text
unfolding fitting
fitting-whole text output h = rw (le-ltb (length output) 32 h)

fitting-short : (text output : List ℕ) → length output < 32 → fitting text output ≡ []
unfolding fitting
fitting-short text output h = rw (lt-ltb (length output) 32 h)

pub put_whole : (text output : List ℕ) → 32 ≤ length output → put text output ≡ over text output
unfolding put
put_whole text output h = rw (fitting-whole text output h)

put-short : (text output : List ℕ) → length output < 32 → put text output ≡ output
unfolding put
put-short text output h = rw (fitting-short text output h)

pub nothing_put : (text output : List ℕ) → length output < 32 → (0 ≡ length (fitting text output)) × (output ≡ put text output)
nothing_put text output h = (ap length (sym (fitting-short text output h)), sym (put-short text output h))

-- ---- putting a text over the bytes of an output from `at` on

pub fitting_at-whole : (at : ℕ) (text output : List ℕ) → at + length text ≤ length output → fitting_at at text output ≡ text
unfolding fitting_at
fitting_at-whole at text output h = rw (le-leb (at + length text) (length output) h)

fitting_at-short : (at : ℕ) (text output : List ℕ) → length output < at + length text → fitting_at at text output ≡ []
unfolding fitting_at
fitting_at-short at text output h = rw (lt-leb (at + length text) (length output) h)

pub placed-whole : (at : ℕ) (text output : List ℕ) → at + length text ≤ length output → placed at text output ≡ take at output ++ text ++ drop (at + length text) output
unfolding placed
placed-whole at text output h = rw (le-leb (at + length text) (length output) h)

placed-short : (at : ℕ) (text output : List ℕ) → length output < at + length text → placed at text output ≡ output
unfolding placed
placed-short at text output h = rw (lt-leb (at + length text) (length output) h)

pub placed-length : (at : ℕ) (text output : List ℕ) → at + length text ≤ length output → length (placed at text output) ≡ length output
placed-length at text output h = rw (placed-whole at text output h, length-append, length-append, length-take, length-drop) (omega arith)

pub nothing_placed : (at : ℕ) (text output : List ℕ) → length output < at + length text → (0 ≡ length (fitting_at at text output)) × (output ≡ placed at text output)
nothing_placed at text output h = (ap length (sym (fitting_at-short at text output h)), sym (placed-short at text output h))

over-length : (text output : List ℕ) → length text ≤ length output → length (over text output) ≡ length output
over-length text output h = rw (length-append, length-drop) (omega arith)

-- putting A and then B right after it is putting both
placed-next : (A B output : List ℕ) → length A + length B ≤ length output → placed (length A) B (over A output) ≡ over (A ++ B) output
placed-next A B output h =
    let room : length A + length B ≤ length (over A output) = omega (arith, over-length A output (omega arith)) in
    rw (placed-whole (length A) B (over A output) room, take-append_seam, drop-append-add, drop-drop, length-append)

-- ---- texts put one after another

-- a text of k bytes stands at the start of what an output came to
pub record Stands (text output : List ℕ) (k : ℕ) (after : List ℕ) : Type 0 where
  pub count : k ≡ length text
  pub bytes : after ≡ over text output

pub stands-none : (output : List ℕ) → Stands [] output 0 output
stands-none output = record { count = refl; bytes = refl }

pub stands-next : {A output after last : List ℕ} {k r : ℕ} (B : List ℕ) → Stands A output k after → length A + length B ≤ length output
    → r ≡ length (fitting_at k B after) → last ≡ placed k B after → Stands (A ++ B) output (k + r) last
stands-next {A} {output} {after} {last} {k} {r} B st h count bytes =
    let room : length A + length B ≤ length (over A output) = omega (arith, over-length A output (omega arith)) in
    let there = rw (st.count, st.bytes) at count in
    let whole : r ≡ length B = there ∙ ap length (fitting_at-whole (length A) B (over A output) room) in
    record { count = rw length-append (omega arith); bytes = rw (st.count, st.bytes) at bytes ∙ placed-next A B output h }

pub stands-length : {text output after : List ℕ} {k : ℕ} → Stands text output k after → length text ≤ length output → length after ≡ length output
stands-length {text} {output} st h = ap length st.bytes ∙ over-length text output h

-- a text that stands at the start was put there
pub stands-put : {text output after : List ℕ} {k : ℕ} → Stands text output k after → 32 ≤ length output → (k ≡ length (fitting text output)) × (after ≡ put text output)
stands-put {text} {output} st h =
    (st.count ∙ ap length (sym (fitting-whole text output h)), st.bytes ∙ sym (put_whole text output h))
