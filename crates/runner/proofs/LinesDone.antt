-- The loop over a chunk, where a line ends, in one step. Of the line of names nothing is listed. What any other asks for is carried out, and
-- its answer is put where the output is lent. The code takes the step in three functions, whose proofs cite the laws used here: `feed` cites
-- `newline-reads`, `line_ended` cites `order-ended` and `line-ended`, `line_listed` cites `written`.
use Rattle.std.proofs.Common.{◌≡◌, ℕ, ◌+◌, ◌-◌, ◌<◌, ◌≤◌, Bool, true, List, ◌++◌, length, get_or, take, drop, sym, refl, ap, ◌∙◌, subst, arith, take-append-drop}
use Rattle.machine.specs.declared.Machine.{Machine}
use Rattle.machine.specs.Rule.{World}
use Rattle.one_core.specs.declared.Answer.{Answer}
use Rattle.script.specs.declared.Columns.{Columns}
use Rattle.listing.specs.Text.{line, fitting, put}
use Rattle.request.specs.declared.Asked.{Asked}
use Rattle.request.specs.Asks.{asks}
use Rattle.runner.specs.declared.Reading.{Reading}
use Rattle.runner.specs.Kept.{held, unfinished, rest}
use Rattle.runner.proofs.Asking.{lists, goes, ordered, outcome}
use Rattle.runner.proofs.Acts.{Done}
use Rattle.runner.proofs.Stepping.{reading}
use Rattle.runner.proofs.Written.{written as Put-written}
use Rattle.runner.proofs.Endings.{order-ended, line-ended}
use Rattle.runner.proofs.Feeding.{Feeding, newline-reads, part_room}

module _ (r₀ : Reading) (cs₀ ps₀ out₀ chunk : List ℕ) (r : Reading) (cs ps out : List ℕ) (written i : ℕ)
    (f : Feeding r₀ cs₀ ps₀ out₀ chunk r cs ps out written i) (h : i < length chunk) (newline : get_or chunk i 0 ≡ 10) (going : r.going ≡ true)
    (room : written + 32 ≤ length out) (a : Asked) (is : a ≡ asks r.columns r.number (unfinished r) r.machine.cores) where
  abbrev w : World
  w = held r.machine cs ps

  -- the part of the output from `written` on, as it is lent
  abbrev lent : List ℕ
  lent = take (length out - written) (drop written out)

  -- it comes back as it was
  unwritten : take written out ++ (lent ++ drop (length out - written) (drop written out)) ≡ out
  unwritten =
      ap (λ (part : List ℕ). take written out ++ part) (take-append-drop (length out - written) (drop written out)) ∙ take-append-drop written out

  -- the line of names: nothing is listed
  pub order-done : (at' : Columns) → a ≡ Asked.Order at'
      → Feeding r₀ cs₀ ps₀ out₀ chunk (reading r.going at' (r.number + 1) r.line 0 r.machine) cs ps out written (i + 1)
  order-done at' same =
      let e = order-ended r cs ps f.fit going a is at' same in
      subst (λ (x : List ℕ). Feeding r₀ cs₀ ps₀ out₀ chunk (reading r.going at' (r.number + 1) r.line 0 r.machine) cs ps x written (i + 1)) unwritten
      (subst (Here at') (omega arith) (newline-reads r₀ cs₀ ps₀ out₀ chunk r cs ps out written i f h newline _ cs ps 0 lent e.fit e.listed (omega arith) refl refl (omega (arith, room)) e.kept))
    where
      -- so many bytes are written by then
      Here : Columns → ℕ → Type 0
      Here x n =
          Feeding r₀ cs₀ ps₀ out₀ chunk (reading r.going x (r.number + 1) r.line 0 r.machine) cs ps
          (take written out ++ (lent ++ drop (length out - written) (drop written out))) n (i + 1)

  -- any other line: its answer is put in that part, which comes back
  pub line-done : (b : Asked) → a ≡ b → lists b ≡ true → (on : Bool) → on ≡ goes b → (m' : Machine) (answer : Answer) (cs' ps' : List ℕ)
      → Done cs ps (outcome w b) (record { machine = m'; answer = answer }) cs' ps' → (k : ℕ) (part : List ℕ)
      → k ≡ length (fitting (line r.number answer) lent) → part ≡ put (line r.number answer) lent → length part ≡ length lent
      → Feeding r₀ cs₀ ps₀ out₀ chunk (reading on (ordered r.columns b) (r.number + 1) r.line 0 m') cs' ps'
      (take written out ++ (part ++ drop (length out - written) (drop written out))) (written + k) (i + 1)
  line-done b same listed on goes_on m' answer cs' ps' did k part count bytes long =
      let e = line-ended r cs ps f.fit going a is b same listed on goes_on m' answer cs' ps' did in
      let said = Put-written r.number answer lent part k (part_room out written room) count bytes in
      newline-reads r₀ cs₀ ps₀ out₀ chunk r cs ps out written i f h newline (reading on (ordered r.columns b) (r.number + 1) r.line 0 m') cs' ps' k part e.fit
      (λ more. e.listed more ∙ ap (λ (x : List ℕ). x ++ rest (reading on (ordered r.columns b) (r.number + 1) r.line 0 m') cs' ps' more) (sym said.0))
      said.1 said.2 long (omega (arith, room)) e.kept
