-- The number of smallest key among those that pass a test, and the loop that finds the core of smallest ticket among those that hold a
-- transaction back.
use Rattle.std.proofs.Common.{◌≡◌, ℕ, zero, suc, ◌<◌, ◌≤◌, Bool, true, false, cond, not, ◌&&◌, ◌||◌, ltb, List, Option, None, Some, get_or, sym, refl, ap, ◌∙◌, subst, ap₂, true≢false, arith, ltb-false, ltb-true, lt-ltb}
use Rattle.objset.specs.Objset.{some}
use Rattle.objset.proofs.Laws.{both_left, both_right, one-some}
use Rattle.one_core.specs.declared.Core.{Core}
use Rattle.one_core.specs.Parts.{no_core}
use Rattle.one_core.specs.Life.{is_read_only, conflicting, conflicts_below, holds_back}
use Rattle.machine.specs.Rule.{least_by}
use Rattle.machine.specs.OneCore.{first_holding}

-- ---- what it is

-- e passes, and none below n that does has a smaller key
pub record Least (key : ℕ → ℕ) (n : ℕ) (f : ℕ → Bool) (e : ℕ) : Type 0 where
  pub below : e < n
  pub passes : f e ≡ true
  pub smallest : (d : ℕ) → d < n → f d ≡ true → key e ≤ key d

module _ (key : ℕ → ℕ) (f : ℕ → Bool) where
  -- one number more, which is the last
  last-or-before : (n d : ℕ) → d < suc n → (P : ℕ → Type 0) → P n → (d < n → P d) → P d
  last-or-before n d l P last before = go (ltb d n) refl
    where
      go : (b : Bool) → ltb d n ≡ b → P d
      go true t = before (ltb-true d n t)
      go false t = let is : n ≡ d = omega (arith, ltb-false d n t) in subst P is last

  pub least : (n : ℕ) → some n f ≡ true → Least key n f (least_by key n f)
  unfolding some least_by
  least zero h = absurd (true≢false (sym h))
  least (suc n) h = go (some n f) refl (f n) refl (ltb (key n) (key (least_by key n f))) refl h (least n)
    where
      go : (s : Bool) → some n f ≡ s → (p : Bool) → f n ≡ p → (q : Bool) → ltb (key n) (key (least_by key n f)) ≡ q → p || s ≡ true
          → (some n f ≡ true → Least key n f (least_by key n f))
          → Least key (suc n) f (cond s (cond (p && q) n (least_by key n f)) n)
      go true one true here true t h more =
          record {
            below = omega arith;
            passes = here;
            smallest = λ d l e. last-or-before n d l (λ x. key n ≤ key x) (omega arith) (λ less. omega (arith, (more one).smallest d less e, ltb-true (key n) (key (least_by key n f)) t));
          }
      go true one true here false t h more =
          record {
            below = omega (arith, (more one).below);
            passes = (more one).passes;
            smallest = λ d l e. last-or-before n d l (λ x. key (least_by key n f) ≤ key x) (ltb-false (key n) (key (least_by key n f)) t) (λ less. (more one).smallest d less e);
          }
      go true one false here q t h more =
          record {
            below = omega (arith, (more one).below);
            passes = (more one).passes;
            smallest =
                λ d l e.
                last-or-before n d l (λ x. f x ≡ true → key (least_by key n f) ≤ key x) (λ x. absurd (true≢false (sym x ∙ here))) (λ less. (more one).smallest d less) e;
          }
      go false none true here q t h more =
          record {
            below = omega arith;
            passes = here;
            smallest =
                λ d l e.
                last-or-before n d l (λ x. f x ≡ true → key n ≤ key x) (λ x. omega arith) (λ less x. absurd (true≢false (sym (one-some n f d less x) ∙ none))) e;
          }
      go false none false here q t h more = absurd (true≢false (sym h))

-- ---- the loop over the cores

module _ (cores : List Core) (k : Core) where
  abbrev holding : ℕ → Bool
  holding e = holds_back (get_or cores e no_core) k

  abbrev ticket : ℕ → ℕ
  ticket e = (get_or cores e no_core).ticket

  -- the first of the cores below e
  abbrev so_far : ℕ → ℕ
  so_far e = least_by ticket e holding

  -- the cores below e had their turn: ahead is the first of them, and below the ticket to beat
  pub record Looked (e : ℕ) (ahead : Option ℕ) (below : ℕ) : Type 0 where
    pub found : ahead ≡ cond (some e holding) (Some (so_far e)) None
    pub to-beat : below ≡ cond (some e holding) (ticket (so_far e)) k.ticket

  pub looked-none : Looked 0 None k.ticket
  unfolding some
  looked-none = record { found = refl; to-beat = refl }

  module _ (e j : ℕ) (ahead : Option ℕ) (below : ℕ) (next : j ≡ suc e) (l : Looked e ahead below) where
    -- the three parts of a test
    parts : (t : ℕ) → conflicts_below t (get_or cores e no_core) k ≡ true
        → ((get_or cores e no_core).active ≡ true) × (ltb (ticket e) t ≡ true) × (conflicting k (get_or cores e no_core) ≡ true)
    parts t hit =
        let active = (get_or cores e no_core).active in
        let two : (active && ltb (ticket e) t) ≡ true = both_left (active && ltb (ticket e) t) (conflicting k (get_or cores e no_core)) hit in
        (both_left active _ two, both_right active _ two, both_right (active && ltb (ticket e) t) _ hit)

    -- and together again, with another ticket to beat
    whole : (t u : ℕ) → conflicts_below t (get_or cores e no_core) k ≡ true → ltb (ticket e) u ≡ true → conflicts_below u (get_or cores e no_core) k ≡ true
    whole t u hit less = let p = parts t hit in ap₂ ◌&&◌ (ap₂ ◌&&◌ p.0 less) p.2

    -- this core takes the place
    pub looked-here : conflicts_below below (get_or cores e no_core) k ≡ true → Looked j (Some e) (ticket e)
    unfolding some least_by
    looked-here hit =
        let r = go (some e holding) refl (holding e) refl (ltb (ticket e) (ticket (so_far e))) refl l.to-beat in
        subst (λ (n : ℕ). Looked n (Some e) (ticket e)) (sym next) (record { found = r.0; to-beat = r.1 })
      where
        go : (s : Bool) → some e holding ≡ s → (p : Bool) → holding e ≡ p → (q : Bool) → ltb (ticket e) (ticket (so_far e)) ≡ q
            → below ≡ cond s (ticket (so_far e)) k.ticket
            → (Some e ≡ cond (p || s) (Some (cond s (cond (p && q) e (so_far e)) e)) None)
            × (ticket e ≡ cond (p || s) (ticket (cond s (cond (p && q) e (so_far e)) e)) k.ticket)
        go true one true here true t beat = (refl, refl)
        go true one true here false t beat = absurd (true≢false (sym (parts below hit).1 ∙ ap (ltb (ticket e)) beat ∙ t))
        go true one false here q t beat =
            let first = (parts below hit).1 in
            let less = ltb-true (ticket e) below first in
            let lead = (least ticket holding e one).passes in
            let more = ltb-true (ticket (so_far e)) k.ticket (both_right (get_or cores (so_far e) no_core).active _ (both_left ((get_or cores (so_far e) no_core).active && ltb (ticket (so_far e)) k.ticket) _ lead)) in
            absurd (true≢false (sym (whole below k.ticket hit (lt-ltb (ticket e) k.ticket (omega (arith, less, beat, more)))) ∙ here))
        go false none true here q t beat = (refl, refl)
        go false none false here q t beat = absurd (true≢false (sym (subst (λ (u : ℕ). conflicts_below u (get_or cores e no_core) k ≡ true) beat hit) ∙ here))

    -- it does not
    pub looked-past : conflicts_below below (get_or cores e no_core) k ≡ false → Looked j ahead below
    unfolding some least_by
    looked-past miss =
        let r = go (some e holding) refl (holding e) refl (ltb (ticket e) (ticket (so_far e))) refl l.found l.to-beat in
        subst (λ (n : ℕ). Looked n ahead below) (sym next) (record { found = r.0; to-beat = r.1 })
      where
        go : (s : Bool) → some e holding ≡ s → (p : Bool) → holding e ≡ p → (q : Bool) → ltb (ticket e) (ticket (so_far e)) ≡ q
            → ahead ≡ cond s (Some (so_far e)) None → below ≡ cond s (ticket (so_far e)) k.ticket
            → (ahead ≡ cond (p || s) (Some (cond s (cond (p && q) e (so_far e)) e)) None)
            × (below ≡ cond (p || s) (ticket (cond s (cond (p && q) e (so_far e)) e)) k.ticket)
        go true one true here true t is beat =
            absurd (true≢false (sym (whole k.ticket below here (ap (ltb (ticket e)) beat ∙ t)) ∙ miss))
        go true one true here false t is beat = (is, beat)
        go true one false here q t is beat = (is, beat)
        go false none true here q t is beat =
            absurd (true≢false (sym (subst (λ (u : ℕ). conflicts_below u (get_or cores e no_core) k ≡ true) (sym beat) here) ∙ miss))
        go false none false here q t is beat = (is, beat)

  -- nobody is looked at for a read-only one
  waits-for : Bool → Option ℕ
  waits-for idle = cond (not idle && some 16 holding) (Some (so_far 16)) None

  pub looked-at-nobody : is_read_only k ≡ true → None ≡ first_holding cores k
  unfolding waits-for
  looked-at-nobody e = ap waits-for (sym e)

  -- all had their turn
  pub looked-all : (e : ℕ) (ahead : Option ℕ) (below : ℕ) → is_read_only k ≡ false → e ≡ 16 → Looked e ahead below → ahead ≡ first_holding cores k
  unfolding waits-for
  looked-all e ahead below wrote all l = l.found ∙ ap (λ (n : ℕ). cond (some n holding) (Some (so_far n)) None) all ∙ ap waits-for (sym wrote)
