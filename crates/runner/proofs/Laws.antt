-- What `start` gives, and that chunks of any size give the listing. For readers: `any-cut`.
use Rattle.std.proofs.Common.{◌≡◌, ℕ, List, [], ◌∷◌, ◌++◌, length, sym, refl, ap, ◌∙◌, subst, inl, append_assoc, arith}
use mathlib.Core.List.{flatten}
use Rattle.table.specs.Pieces.{free}
use Rattle.listing.specs.Text.{heading}
use Rattle.runner.specs.declared.Reading.{Reading}
use Rattle.runner.specs.Kept.{KeptState, rest, started, ReadingFits}
use Rattle.runner.specs.Listing.{rows, listed, listing}
use Rattle.runner.proofs.Finishing.{whole-script}

-- before the first byte, with tables for the largest machine, whatever they hold
pub start-fit : (r : Reading) (cs ps : List ℕ) → r ≡ started → length cs ≡ 64 → length ps ≡ 1024 → ReadingFits r cs ps
start-fit r cs ps new committed pending =
    subst (λ (x : Reading). ReadingFits x cs ps) (sym new)
    (record {
      holds = record { committed_long = committed; pending_long = pending; blank_or_well_formed = inl refl };
      line_long = refl;
      few_bytes = omega arith;
      no_newline = unfold free in refl;
      some_line = omega arith;
      few_lines = λ e. omega arith;
      first_blank = λ e. refl;
    })

pub start-whole : (r : Reading) (cs ps : List ℕ) → r ≡ started → (bytes : List ℕ) → rest r cs ps bytes ≡ listed (rows bytes)
start-whole r cs ps new bytes = ap (λ (x : Reading). rest x cs ps bytes) new ∙ whole-script started cs ps refl refl refl bytes

-- what is still to be listed, if these bytes follow and the script ends
abbrev pub left : KeptState → List ℕ → List ℕ
left s bytes = rest s.reading s.committed s.pending bytes

-- a run from a state over the chunks, one after another: each output is what `feed` promises of its chunk, and the last is what
-- `finish` promises
pub data Run : KeptState → List (List ℕ) → List (List ℕ) → List ℕ → Type 0 where
  ends : {s : KeptState} {last : List ℕ} → last ≡ left s [] → Run s [] [] last
  feeds : {s : KeptState} (s' : KeptState) {chunk output : List ℕ} {chunks outputs : List (List ℕ)} {last : List ℕ}
      → ((bytes : List ℕ) → left s (chunk ++ bytes) ≡ output ++ left s' bytes) → Run s' chunks outputs last
      → Run s (chunk ∷ chunks) (output ∷ outputs) last

run-lists : (s : KeptState) (chunks outputs : List (List ℕ)) (last : List ℕ) → Run s chunks outputs last
    → flatten outputs ++ last ≡ left s (flatten chunks)
unfolding flatten
run-lists s [] [] last (ends e) = e
run-lists s (chunk ∷ chunks) (output ∷ outputs) last (feeds s' e run) =
    append_assoc output (flatten outputs) last
    ∙ ap (λ (x : List ℕ). output ++ x) (run-lists s' chunks outputs last run) ∙ sym (e (flatten chunks))
run-lists s [] (output ∷ outputs) last run = elim run [ ]
run-lists s (chunk ∷ chunks) [] last run = elim run [ ]

-- from what is to be listed at the start: however the script is cut into chunks, the heading and the outputs together are its listing
pub any-cut : (s : KeptState) (chunks outputs : List (List ℕ)) (last : List ℕ) → ((bytes : List ℕ) → left s bytes ≡ listed (rows bytes))
    → Run s chunks outputs last → heading ++ flatten outputs ++ last ≡ listing (flatten chunks)
unfolding listing
any-cut s chunks outputs last starts run =
    append_assoc heading (flatten outputs) last
    ∙ ap (λ (x : List ℕ). heading ++ x) (run-lists s chunks outputs last run ∙ starts (flatten chunks))
