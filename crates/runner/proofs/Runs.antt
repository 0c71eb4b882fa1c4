-- The rows after an accepted setup are a run of the machine, so the claim about whole runs holds of every script (`script-runs`, which
-- `cards_run` promises).
use Rattle.std.proofs.Common.{◌≡◌, ℕ, zero, suc, ◌+◌, ◌-◌, ◌*◌, Bool, true, false, cond, ltb, List, [], ◌∷◌, ◌++◌, length, get_or, drop, replicate, sym, refl, ap, ◌∙◌, subst, true≢false, append_assoc, arith, length-append, Option, Some, None}
use Rattle.machine.specs.Record.{sizes_in_range}
use Rattle.machine.specs.Rule as Rule
use Rattle.machine.specs.Rule.{World, Result, rule}
use Rattle.machine.specs.Words.{Event}
use Rattle.machine.specs.Claims.{Run, fresh, then, Claim, worked}
use Rattle.one_core.specs.declared.Answer.TheVariants.{Ready}
use Rattle.machine.proofs.Run.WholeRun.{whole_run}
use Rattle.script.specs.declared.Call.{Call}
use Rattle.script.specs.declared.Columns.{Columns}
use Rattle.script.specs.Line.{names, spells}
use Rattle.table.specs.Pieces.{lines}
use Rattle.listing.specs.Text.{heading, line}
use Rattle.request.specs.Asks.{most_lines}
use Rattle.runner.specs.Listing.{Request, Anew, Asks, request, set_up, met, nothing, answered, Row, unread, value_rows, rows_after, rows_of, rows, listed, listing}
use Rattle.runner.specs.Runs.{anew, ends_run, event_of, event, events, line_at, ScriptRuns}
use Rattle.runner.proofs.Setups.{set-up-refused}

-- ---- a run goes on with the rows of these lines, each of which is the rule's

run_on : (at : Columns) (w₀ w : World) (n : ℕ) (es : List Event) (ls : List (List ℕ)) → Run w₀ es w
    → (w' : World) × Run w₀ (events es (value_rows at w n ls)) w'
unfolding events value_rows
run_on at w₀ w n es [] run = (w, run)
run_on at w₀ w n es (l ∷ ls) run = go (ltb most_lines n) (λ w' es' r. run_on at w₀ w' (n + 1) es' ls r)
  where
    More : Type 0
    More = (w' : World) (es' : List Event) → Run w₀ es' w' → (w'' : World) × Run w₀ (events es' (value_rows at w' (n + 1) ls)) w''

    asked : (x : Request) → More
        → (w'' : World)
        × Run w₀ (cond (anew x) es (events (event_of (met w x).answer x ++ es) (value_rows at (met w x).world (n + 1) ls))) w''
    asked (Anew cores cards) more = unfold anew in (w, run)
    asked (Asks call) more =
        unfold anew event_of met in
        more (rule w call).world (record { call = call; answer = (rule w call).answer } ∷ es)
        (then call _ run (record { answer_is = refl; world_is = refl }))

    row : (x : Option Call) → More
        → (w'' : World)
        × Run w₀ (cond (ends_run x) es (events (event (answered w x).answer x ++ es) (value_rows at (answered w x).world (n + 1) ls))) w''
    row None more = unfold ends_run event answered in more w es run
    row (Some call) more = unfold ends_run event answered in asked (request call) more

    go : (past : Bool) → More
        → (w'' : World)
        × Run w₀ (events es (cond past (unread n ∷ [])
        (record { number = n; spelt = spells at l; answer = (answered w (spells at l)).answer }
        ∷ value_rows at (answered w (spells at l)).world (n + 1) ls))) w''
    go true more = unfold ends_run event in (w, run)
    go false more = row (spells at l) more

-- ---- the rows below an accepted setup are those of the lines after it

abbrev setup_row : ℕ → ℕ → ℕ → Row
setup_row n cores cards = record { number = n; spelt = Some (Call.Setup cores cards); answer = Ready }

-- of lines that are run on the machine that it gives
record Below (cores cards : ℕ) (below : List Row) : Type 0 where
  ready : (set_up cores cards).answer ≡ Ready
  at : Columns
  number : ℕ
  after : List (List ℕ)
  are-rows : below ≡ value_rows at (set_up cores cards).world number after

abbrev tail : List Row → List Row
tail [] = []
tail (r ∷ rs) = rs

abbrev head : Row → List Row → Row
head r [] = r
head r (s ∷ rs) = s

abbrev is_call : Option Call → Bool
is_call None = false
is_call (Some call) = true

module _ (n cores cards : ℕ) (below : List Row) where
  no_row : (above : List Row) → [] ≡ above ++ setup_row n cores cards ∷ below → ⊥
  no_row above e = omega (arith, ap length e, length-append above (setup_row n cores cards ∷ below))

  not-unread : (k : ℕ) (above : List Row) → unread k ∷ [] ≡ above ++ setup_row n cores cards ∷ below → ⊥
  not-unread k [] e = true≢false (sym (ap (λ (rs : List Row). is_call (head (unread k) rs).spelt) e))
  not-unread k (r ∷ above) e = no_row above (ap tail e)

  -- a setup answered ready is accepted, and leaves its world
  set-up-here : (at : Columns) (w : World) (x : Option Call) (k : ℕ) (ls : List (List ℕ)) → x ≡ Some (Call.Setup cores cards)
      → (answered w x).answer ≡ Ready → below ≡ value_rows at (answered w x).world k ls → Below cores cards below
  unfolding answered request met
  set-up-here at w x k ls is ready below-are =
      record {
        ready = sym (ap (λ (y : Option Call). (answered w y).answer) is) ∙ ready;
        at = at;
        number = k;
        after = ls;
        are-rows = below-are ∙ ap (λ (y : Option Call). value_rows at (answered w y).world k ls) is;
      }

  rows-below : (at : Columns) (w : World) (k : ℕ) (ls : List (List ℕ)) (above : List Row)
      → value_rows at w k ls ≡ above ++ setup_row n cores cards ∷ below → Below cores cards below
  unfolding value_rows
  rows-below at w k [] above e = absurd (no_row above e)
  rows-below at w k (l ∷ ls) above e = go (ltb most_lines k) above e (λ rest p. rows-below at (answered w (spells at l)).world (k + 1) ls rest p)
    where
      here : Row
      here = record { number = k; spelt = spells at l; answer = (answered w (spells at l)).answer }

      more : List Row
      more = value_rows at (answered w (spells at l)).world (k + 1) ls

      go : (past : Bool) (above : List Row) → cond past (unread k ∷ []) (here ∷ more) ≡ above ++ setup_row n cores cards ∷ below
          → ((rest : List Row) → more ≡ rest ++ setup_row n cores cards ∷ below → Below cores cards below) → Below cores cards below
      go true above e later = absurd (not-unread k above e)
      go false [] e later =
          set-up-here at w (spells at l) (k + 1) ls (ap (λ (rs : List Row). (head here rs).spelt) e) (ap (λ (rs : List Row). (head here rs).answer) e)
          (sym (ap tail e))
      go false (r ∷ above) e later = later above (ap tail e)

  script-below : (ls : List (List ℕ)) (above : List Row) → rows_of ls ≡ above ++ setup_row n cores cards ∷ below → Below cores cards below
  unfolding rows_of rows_after
  script-below [] above e = absurd (not-unread 1 above e)
  script-below (l ∷ ls) above e = go (names l) e
    where
      go : (x : Option Columns) → rows_after x ls ≡ above ++ setup_row n cores cards ∷ below → Below cores cards below
      go (Some at) e = rows-below at nothing 2 ls above e
      go None e = absurd (not-unread 1 above e)

-- ---- the claim of the events after an accepted setup

claim-below : (cores cards : ℕ) (below : List Row) → Below cores cards below
    → Claim (set_up cores cards).world (events [] below) (worked (set_up cores cards).world (events [] below))
claim-below cores cards below b = go (sizes_in_range cores cards) refl b.ready
  where
    w₀ : World
    w₀ = (set_up cores cards).world

    run : (w : World) × Run w₀ (events [] below) w
    run =
        subst (λ (rs : List Row). (w : World) × Run w₀ (events [] rs) w) (sym b.are-rows)
        (run_on b.at w₀ w₀ b.number [] b.after fresh)

    go : (in-range : Bool) → sizes_in_range cores cards ≡ in-range → (set_up cores cards).answer ≡ Ready
        → Claim w₀ (events [] below) (worked w₀ (events [] below))
    go true e ready =
        let same : set_up cores cards ≡ Rule.setup cores cards (replicate cards 0) (replicate (cores * cards) 0) = unfold set_up in rw e refl in
        let claim : Claim w₀ (events [] below) run.0 =
        subst (λ (x : Result). Run x.world (events [] below) run.0 → Claim x.world (events [] below) run.0) (sym same)
        (whole_run cores cards (replicate cards 0) (replicate (cores * cards) 0) (sym (ap (λ (x : Result). x.answer) same) ∙ ready)) run.1 in
        subst (λ (w : World). Claim w₀ (events [] below) w) claim.by_the_rule.world_worked claim
    go false e ready =
        let no = sym (ap (λ (x : Result). x.answer) (set-up-refused cores cards e)) ∙ ready in
        let z : ◌≡◌ {A = ℕ} 0 1 = cc in absurd (omega arith)

-- ---- the call of each row is what the line of its number spells

at_drop : (all : List (List ℕ)) (j : ℕ) (l : List ℕ) (ls : List (List ℕ)) → drop j all ≡ l ∷ ls
    → (get_or all j [] ≡ l) × (drop (suc j) all ≡ ls)
at_drop [] zero l ls e = absurd (omega (arith, ap length e))
at_drop [] (suc j) l ls e = absurd (omega (arith, ap length e))
at_drop (x ∷ all) zero l ls e = (ap (λ (ys : List (List ℕ)). get_or ys 0 []) e, ap (drop 1) e)
at_drop (x ∷ all) (suc j) l ls e = at_drop all j l ls e

module _ (call : Call) (r : Row) (below : List Row) where
  not_there : (k : ℕ) (above : List Row) → unread k ∷ [] ≡ above ++ r ∷ below → r.spelt ≡ Some call → ⊥
  not_there k [] e is = true≢false (sym (ap (λ (rs : List Row). is_call (head r rs).spelt) e ∙ ap is_call is))
  not_there k (s ∷ above) e is = omega (arith, ap (λ (rs : List Row). length (tail rs)) e, length-append above (r ∷ below))

  spelt-in : (all : List (List ℕ)) (at : Columns) (w : World) (j : ℕ) (ls : List (List ℕ)) (above : List Row) → drop j all ≡ ls
      → value_rows at w (j + 1) ls ≡ above ++ r ∷ below → r.spelt ≡ Some call → spells at (get_or all (r.number - 1) []) ≡ Some call
  unfolding value_rows
  spelt-in all at w j [] above left e is = absurd (omega (arith, ap length e, length-append above (r ∷ below)))
  spelt-in all at w j (l ∷ ls) above left e is =
      go (ltb most_lines (j + 1)) above e
      (λ rest p.
      spelt-in all at (answered w (spells at l)).world (j + 1) ls rest (ap (λ (k : ℕ). drop k all) one_more ∙ (at_drop all j l ls left).1) p is)
    where
      one_more : j + 1 ≡ suc j
      one_more = omega arith

      here : Row
      here = record { number = j + 1; spelt = spells at l; answer = (answered w (spells at l)).answer }

      more : List Row
      more = value_rows at (answered w (spells at l)).world (j + 1 + 1) ls

      go : (past : Bool) (above : List Row) → cond past (unread (j + 1) ∷ []) (here ∷ more) ≡ above ++ r ∷ below
          → ((rest : List Row) → more ≡ rest ++ r ∷ below → spells at (get_or all (r.number - 1) []) ≡ Some call)
          → spells at (get_or all (r.number - 1) []) ≡ Some call
      go true above e later = absurd (not_there (j + 1) above e is)
      go false [] e later =
          let same : r.number - 1 ≡ j = omega (arith, ap (λ (rs : List Row). (head r rs).number) e) in
          ap (λ (k : ℕ). spells at (get_or all k [])) same ∙ ap (spells at) (at_drop all j l ls left).0
          ∙ ap (λ (rs : List Row). (head r rs).spelt) e ∙ is
      go false (s ∷ above) e later = later above (ap tail e)

row-spelt : (script : List ℕ) (above below : List Row) (r : Row) (call : Call) → rows script ≡ above ++ r ∷ below → r.spelt ≡ Some call
    → (at : Columns) × (names (line_at script 1) ≡ Some at) × (spells at (line_at script r.number) ≡ Some call)
row-spelt script above below r call = go (lines script)
  where
    order : (l : List ℕ) (ls : List (List ℕ)) (x : Option Columns) → names l ≡ x → rows_after x ls ≡ above ++ r ∷ below → r.spelt ≡ Some call
        → (at : Columns) × (names l ≡ Some at) × (spells at (get_or (l ∷ ls) (r.number - 1) []) ≡ Some call)
    order l ls (Some at) n e is = (at, n, spelt-in call r below (l ∷ ls) at nothing 1 ls above refl (unfold rows_after in e) is)
    order l ls None n e is = absurd (not_there call r below 1 above (unfold rows_after in e) is)

    go : (ls : List (List ℕ)) → rows_of ls ≡ above ++ r ∷ below → r.spelt ≡ Some call
        → (at : Columns) × (names (get_or ls 0 []) ≡ Some at) × (spells at (get_or ls (r.number - 1) []) ≡ Some call)
    go [] e is = absurd (not_there call r below 1 above (unfold rows_of in e) is)
    go (l ∷ ls) e is = order l ls (names l) refl (unfold rows_of in e) is

-- ---- each row is listed

listed-append : (above below : List Row) → listed (above ++ below) ≡ listed above ++ listed below
unfolding listed
listed-append [] below = refl
listed-append (r ∷ above) below =
    ap (λ (x : List ℕ). line r.number r.answer ++ x) (listed-append above below)
    ∙ sym (append_assoc (line r.number r.answer) (listed above) (listed below))

row_listed : (script : List ℕ) (above below : List Row) (r : Row) → rows script ≡ above ++ r ∷ below
    → listing script ≡ heading ++ listed above ++ line r.number r.answer ++ listed below
unfolding listing listed
row_listed script above below r e =
    ap (λ (rs : List Row). heading ++ listed rs) e ∙ ap (λ (x : List ℕ). heading ++ x) (listed-append above (r ∷ below))
    ∙ sym (append_assoc heading (listed above) (line r.number r.answer ++ listed below))
    ∙ sym (append_assoc (heading ++ listed above) (line r.number r.answer) (listed below))

-- The whole claim, of every script.
pub script-runs : (script : List ℕ) → ScriptRuns script
script-runs script =
    record {
      whole_claim = λ above below n cores cards e. claim-below cores cards below (script-below n cores cards below (lines script) above e);
      spelt_there = row-spelt script;
      listed_there = row_listed script;
    }
