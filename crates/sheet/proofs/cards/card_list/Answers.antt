-- `sheet::cards::card_list` meets its contract.
use Rattle.std.proofs.Common.{rules, tests, ◌≡◌, sym, ap, ◌∙◌, ℕ, ◌+◌, ◌≤◌, ◌<◌, List, Some, map, length, get_or, drop, arith}
use lib.Dec.{eqb}
use Rattle.std.proofs.lemmas.List.{length_push}
use Rattle.std.proofs.lemmas.Iterator.Splits.{YieldsList-from_slice_split}
use Rattle.std.proofs.lemmas.Iterator.Consumers.{YieldsList-turn, YieldsList-end}
use Rattle.decimal.specs.Bytes.{byte}
use Rattle.decimal.specs.Reading.{read_as_number}
use Rattle.objset.proofs.Laws.{none-zero}
use Rattle.table.specs.Pieces.{pieces}
use Rattle.sheet.specs.Sheet.{rising, comma_list}
use Rattle.sheet.proofs.CardLaws.{is-dash, is-list, split-pieces, no_number, not-rising, no-card, one-card, all-cards}
use Rattle.sheet.proofs.cards.card_list.Goals as goal
use Rattle.sheet.proofs.cards.card_list.Goals.{In-Some, then-card-least-via-then-card-least, then-card-least-via-else-card-least+then-card-ge-OBJECTS}

pub returns-then-eq : goal.returns-then-eq
returns-then-eq c =
    ap Some (sym none-zero) ∙ sym (is-dash c.args.field.now (sym (rw c.as_slice.ensures at c.eq.ensures) ∙ c.if-eq.true))

pub loop-number-init : goal.loop-number-init
loop-number-init c =
    let field = c.args.field.now in
    record {
      small = omega arith;
      rest = ap (λ (s : ℕ). rising 0 s (comma_list field)) (sym none-zero)
          ∙ sym (is-list field (sym (rw c.as_slice.ensures at c.eq.ensures) ∙ c.if-eq.false));
    }

-- the piece whose turn it is
turn : (c : In-Some) → (length c.loop-number.yielded < length (pieces (byte ",") c.args.field.now))
    × (c.in-Some.number.now ≡ get_or (pieces (byte ",") c.args.field.now) (length c.loop-number.yielded) c.in-Some.number.now)
turn c =
    let field = c.args.field.now in
    rw (split-pieces 44 field) at (YieldsList-turn (YieldsList-from_slice_split _ (λ (b : ℕ). eqb b 44) field (cc) (cc) (cc) (λ x b q k. search (rules, tests))) c.loop-number.yielded _ c.loop-number.yielded_by _ _ c.in-Some.number c.in-Some.is c.next.ensures.steps)

pub returns-in_err-card : goal.returns-in_err-card
returns-in_err-card c =
    let at = c.loop-number in
    c.from_residual.ensures
    ∙ sym (no_number c.args.field.now (length at.yielded) c.in-Some.number.now (turn (goal.at.returns-in_err-card c).In-Some) at.least at.set (sym c.read.ensures ∙ c.in_err-card.was))
    ∙ at.invariant.rest

pub returns-then-card-least : goal.returns-then-card-least
returns-then-card-least c =
    let at = c.loop-number in
    let read = sym c.read.ensures ∙ c.in_ok-card.was in
    let here = turn (goal.at.returns-then-card-least c).In-Some in
    sym (elim c.then-card-least.branch [
      | then-card-least-via-then-card-least w ↦ not-rising c.args.field.now (length at.yielded) c.in-Some.number.now here at.least at.set c.in_ok-card.field-0 read w.if-card-least.true
      | then-card-least-via-else-card-least+then-card-ge-OBJECTS w ↦ no-card c.args.field.now (length at.yielded) c.in-Some.number.now here at.least at.set c.in_ok-card.field-0 read w.if-card-ge-OBJECTS.true
    ])
    ∙ at.invariant.rest

pub loop-number-preserved : goal.loop-number-preserved
loop-number-preserved c =
    let at = c.loop-number in
    let d = c.in_ok-card.field-0 in
    let i = length at.yielded in
    let ps = pieces (byte ",") c.args.field.now in
    record {
      small = omega arith;
      rest = ap (λ (k : ℕ). rising (d + 1) c.insert-set.result (map read_as_number (drop k ps))) (length_push at.yielded c.in-Some.number)
          ∙ ap (λ (s : ℕ). rising (d + 1) s (map read_as_number (drop (i + 1) ps))) c.insert-set.ensures
          ∙ sym (one-card c.args.field.now i c.in-Some.number.now (turn (goal.at.loop-number-preserved c).In-Some) at.least at.set d (sym c.read.ensures ∙ c.in_ok-card.was) (omega arith) (omega arith))
          ∙ at.invariant.rest;
    }

pub returns : goal.returns
returns c =
    let at = c.loop-number in
    let field = c.args.field.now in
    let end = YieldsList-end (YieldsList-from_slice_split _ (λ (b : ℕ). eqb b 44) field (cc) (cc) (cc) (λ x b q k. search (rules, tests))) at.yielded _ at.yielded_by _ _ c.in-None.is c.next.ensures.steps in
    let all : length (pieces (byte ",") field) ≤ length at.yielded = omega (arith, end.1, ap (λ (ps : List (List ℕ)). length ps) (split-pieces 44 field)) in
    sym (all-cards (pieces (byte ",") field) (length at.yielded) at.least at.set all) ∙ at.invariant.rest
