-- A loop that goes over the objects of a set by taking one out at each turn: the entries of the objects that are left are as they
-- were, every other is what the set makes of it.
use Rattle.std.proofs.Common.{◌≡◌, ℕ, ◌^◌, ◌<◌, Bool, true, false, not, ◌&&◌, eqb, List, None, Some, length, get_or, set, sym, refl, ap, ◌∙◌, arith, length-set, get_or-set_other, get_or-set_same, ext_get_or, ne_eqb}
use mathlib.Core.Bool.{and-true}
use borrow.Author.Tests.{eqb-false, not-true}
use Rattle.objset.specs.Objset.{has, first_object, removed}
use Rattle.objset.proofs.Laws.{both_left, both_right, has-removed, removed-fits, empty-has, member-bound, first_member, no_first}
use Rattle.machine.specs.Rule.{changed}
use Rattle.machine.proofs.Entries.{here-or-else, changed-at, changed-long}

-- what is left of the set ws
pub record Left (ws rest : ℕ) : Type 0 where
  pub fits : rest < 2 ^ 64
  pub within : (d : ℕ) → has rest d ≡ true → has ws d ≡ true

pub left-all : (ws : ℕ) → ws < 2 ^ 64 → Left ws ws
left-all ws h = record { fits = h; within = λ d p. p }

pub left-next : (ws rest d : ℕ) → Left ws rest → Left ws (removed rest d)
left-next ws rest d l =
    record {
      fits = removed-fits rest d;
      within = λ e p. l.within e (both_left (has rest e) (not (eqb e d)) (sym (has-removed rest d e l.fits) ∙ p));
    }

-- the first of what is left is in the set
pub record Next (ws rest d : ℕ) : Type 0 where
  pub waits : has rest d ≡ true
  pub written : has ws d ≡ true
  pub place : d < 64

pub next-left : (ws rest d : ℕ) → Left ws rest → Some d ≡ first_object rest → Next ws rest d
next-left ws rest d l e =
    let waits = first_member rest d (sym e) in
    record { waits = waits; written = l.within d waits; place = member-bound rest d l.fits waits }

module _ (ws : ℕ) (f : ℕ → ℕ → ℕ) (old : List ℕ) where
  -- the list `now` while `rest` is left
  pub record Turned (rest : ℕ) (now : List ℕ) : Type 0 where
    pub same_length : length now ≡ length old
    pub waiting : (d : ℕ) → d < length old → has rest d ≡ true → get_or now d 0 ≡ get_or old d 0
    pub done : (d : ℕ) → d < length old → has rest d ≡ false → get_or now d 0 ≡ get_or (changed ws f 0 old) d 0

  pub turned_none : Turned ws old
  turned_none =
      record {
        same_length = refl;
        waiting = λ d l p. refl;
        done = λ d l p. sym (changed-at ws f old d l ∙ rw p refl);
      }

  -- a turn of object d
  pub turned-next : (rest d : ℕ) (now next : List ℕ) → Left ws rest → Turned rest now → d < length old → has rest d ≡ true
      → next ≡ set now d (f d (get_or now d 0)) → Turned (removed rest d) next
  turned-next rest d now next left at l p e =
      record {
        same_length = ap length e ∙ length-set now d v ∙ at.same_length;
        waiting = λ j k q.
            let both = sym (has-removed rest d j left.fits) ∙ q in
            ap (λ (xs : List ℕ). get_or xs j 0) e
            ∙ get_or-set_other now d j v 0 (eqb-false j d (not-true (eqb j d) (both_right (has rest j) (not (eqb j d)) both)))
            ∙ at.waiting j k (both_left (has rest j) (not (eqb j d)) both);
        done = λ j k q. ap (λ (xs : List ℕ). get_or xs j 0) e ∙ here-or-else Done d j here (λ other. elsewhere j other) k q;
      }
    where
      v : ℕ
      v = f d (get_or now d 0)

      Done : ℕ → Type 0
      Done j = j < length old → has (removed rest d) j ≡ false → get_or (set now d v) j 0 ≡ get_or (changed ws f 0 old) j 0

      here : Done d
      here k q =
          get_or-set_same now d v 0 (omega (arith, l, at.same_length))
          ∙ ap (f d) (at.waiting d l p)
          ∙ sym (changed-at ws f old d l ∙ rw (left.within d p) refl)

      elsewhere : (j : ℕ) → (j ≡ d → ⊥) → Done j
      elsewhere j other k q =
          get_or-set_other now d j v 0 other
          ∙ at.done j k (sym (and-true (has rest j)) ∙ ap (λ (b : Bool). has rest j && not b) (sym (ne_eqb j d other)) ∙ sym (has-removed rest d j left.fits) ∙ q)

  pub turned-all : (rest : ℕ) (now : List ℕ) → rest < 2 ^ 64 → first_object rest ≡ None → Turned rest now → now ≡ changed ws f 0 old
  turned-all rest now h none at =
      let e = no_first rest h none in
      ext_get_or 0 now (changed ws f 0 old) (at.same_length ∙ sym (changed-long ws f 0 old))
      (λ d l. at.done d (omega (arith, at.same_length)) (empty-has rest d h e))
