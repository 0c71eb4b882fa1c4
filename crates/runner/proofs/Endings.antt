-- What the end of a line leaves, where what it asks for has been carried out.
use Rattle.std.proofs.Common.{◌≡◌, ℕ, ◌+◌, Bool, true, cond, List, [], ◌∷◌, ◌++◌, Option, None, Some, sym, refl, ap, ◌∙◌, subst, ap₂, arith}
use Rattle.machine.specs.declared.Machine.{Machine}
use Rattle.machine.specs.Rule.{World}
use Rattle.machine.specs.declared.Outcome.{Outcome}
use Rattle.one_core.specs.declared.Answer.{Answer}
use Rattle.one_core.specs.declared.Answer.TheVariants.{Ready}
use Rattle.script.specs.declared.Columns.{Columns}
use Rattle.table.specs.Pieces.{lines, free}
use Rattle.table.proofs.Laws.{lines-newline}
use Rattle.listing.specs.Text.{line}
use Rattle.request.specs.declared.Asked.{Asked}
use Rattle.request.specs.Asks.{asks}
use Rattle.runner.specs.declared.Reading.{Reading}
use Rattle.runner.specs.Listing.{answer_line}
use Rattle.runner.specs.Kept.{held, listed_from, unfinished, rest, ReadingFits, state, past_line, after_byte}
use Rattle.runner.proofs.Asking.{lists, goes, ordered, outcome}
use Rattle.runner.proofs.LineLaws.{text, Leads, line-leads}
use Rattle.runner.proofs.Acts.{Done, none_done}
use Rattle.runner.proofs.Sizes.{nothing-if-none}
use Rattle.runner.proofs.Stepping.{reading, past-made, after-ended}

-- what the end of the line leaves of the reading and the tables, and the answer that is listed
pub record Ended (r : Reading) (cs ps : List ℕ) (answer : Option Answer) (r' : Reading) (cs' ps' : List ℕ) : Type 0 where
  pub fit : ReadingFits r' cs' ps'
  pub listed : (bytes : List ℕ) → rest r cs ps (10 ∷ bytes) ≡ answer_line r.number answer ++ rest r' cs' ps' bytes
  pub kept : state r' cs' ps' ≡ after_byte (state r cs ps) 10

module _ (r : Reading) (cs ps : List ℕ) (fit : ReadingFits r cs ps) (going : r.going ≡ true) (a : Asked)
    (is : a ≡ asks r.columns r.number (unfinished r) r.machine.cores) where
  abbrev w : World
  w = held r.machine cs ps

  -- what the line asks for leads to what is listed
  leads : Leads r.columns r.number w (unfinished r) a
  leads =
      subst (Leads r.columns r.number w (unfinished r)) (sym is)
      (line-leads r.columns r.number w (unfinished r) r.machine.cores fit.some_line (λ one. ap (λ (m : Machine). m.cores) (fit.first_blank one))
      (nothing-if-none r.machine cs ps fit.holds))

  -- what it asks for has been carried out by the rule
  line-over : (b : Asked) → a ≡ b → (on : Bool) → on ≡ goes b → (done : Outcome) (cs' ps' : List ℕ) → Done cs ps (outcome w b) done cs' ps'
      → (answer : Option Answer) → answer_line r.number answer ≡ text r.number w b
      → Ended r cs ps answer (reading on (ordered r.columns b) (r.number + 1) r.line 0 done.machine) cs' ps'
  line-over b same on goes_on done cs' ps' did answer said =
      record {
        fit = record {
          holds = did.1.1.0;
          line_long = fit.line_long;
          few_bytes = omega arith;
          no_newline = unfold free in refl;
          some_line = omega arith;
          few_lines = λ e. omega (arith, led.few_lines (sym goes_on ∙ e));
          first_blank = λ e. absurd (omega (arith, fit.some_line, e));
        };
        listed = λ bytes. unfold rest in rw (going, lines-newline (unfinished r) bytes fit.no_newline) (ends (lines bytes));
        kept = sym (after-ended r cs ps 10 refl going ∙ ap (past_line (state r cs ps)) led.leaving
            ∙ past-made r cs ps (ordered r.columns b) (outcome w b).world (sym goes_on) (sym (ap (λ (v : World). v.machine) did.1.0))
            (sym did.1.1.1.0) (sym did.1.1.1.1));
      }
    where
      led : Leads r.columns r.number w (unfinished r) b
      led = subst (Leads r.columns r.number w (unfinished r)) same leads

      ends : (ls : List (List ℕ)) → listed_from true r.columns r.number w (unfinished r ∷ ls)
          ≡ answer_line r.number answer ++ listed_from on (ordered r.columns b) (r.number + 1) (held done.machine cs' ps') ls
      ends ls =
          led.listing ls
          ∙ ap₂ ◌++◌ (sym said)
          (ap₂ (λ (x : Bool) (v : World). listed_from x (ordered r.columns b) (r.number + 1) v ls) (sym goes_on) (sym did.1.0))

  -- the line of names: nothing is listed
  pub order-ended : (at' : Columns) → a ≡ Asked.Order at'
      → Ended r cs ps None (reading r.going at' (r.number + 1) r.line 0 r.machine) cs ps
  order-ended at' same =
      line-over (Asked.Order at') same r.going going (record { machine = r.machine; answer = Ready }) cs ps
      (none_done r.machine cs ps fit.holds Ready) None refl

  -- any other line
  pub line-ended : (b : Asked) → a ≡ b → lists b ≡ true → (on : Bool) → on ≡ goes b → (m' : Machine) (answer : Answer) (cs' ps' : List ℕ)
      → Done cs ps (outcome w b) (record { machine = m'; answer = answer }) cs' ps'
      → Ended r cs ps (Some answer) (reading on (ordered r.columns b) (r.number + 1) r.line 0 m') cs' ps'
  line-ended b same listed on goes_on m' answer cs' ps' did =
      line-over b same on goes_on (record { machine = m'; answer = answer }) cs' ps' did (Some answer)
      (ap (line r.number) did.0 ∙ sym (ap (λ (x : Bool). cond x (line r.number (outcome w b).answer) []) listed))
