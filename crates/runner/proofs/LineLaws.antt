-- What the listing says of a line that has ended, and of a byte more of a line that has not.
use Rattle.std.proofs.Common.{◌≡◌, ℕ, ◌+◌, ◌<◌, ◌≤◌, Bool, true, false, cond, eqb, ltb, List, [], ◌∷◌, ◌++◌, length, sym, refl, ap, ◌∙◌, subst, true≢false, append-nil, arith, length-append, ltb-false, ltb-true, le-ltb, lt-ltb, ne_eqb, eqb-true, Option, Some, None}
use borrow.Author.Tests.{eqb-false}
use Rattle.machine.specs.Rule.{World}
use Rattle.one_core.specs.declared.Answer.TheVariants.{Refused}
use Rattle.one_core.specs.declared.Refusal.TheVariants.{Malformed}
use Rattle.script.specs.declared.Columns.{Columns}
use Rattle.table.specs.Pieces.{lines, pieces, onto, without_last_empty, free}
use Rattle.table.specs.Fields.{fields_of, place, all_stand, columns, columns_of}
use Rattle.script.specs.Line.{names, spells, ordered as in_order}
use Rattle.script.proofs.Laws.{too_long, names-too-long}
use Rattle.table.proofs.Laws.{lines-begun, lines-last, some-piece, first, others, rest-of-line, later-lines}
use Rattle.listing.specs.Text.{line}
use Rattle.request.specs.declared.Asked.{Asked}
use Rattle.request.specs.Asks.{most_lines, of_names, of_line, asks}
use Rattle.runner.specs.Listing.{nothing, answered, value_rows, rows_after, rows_of, listed}
use Rattle.runner.specs.Kept.{listed_from, line_end, names_end}
use Rattle.runner.proofs.Asking.{lists, goes, ordered, outcome, Plain, line_plain, line-answered}

-- ---- a line that has ended

module _ (at : Columns) (w : World) (l : List ℕ) (ls : List (List ℕ)) where
  pub names-good : (at' : Columns) → names l ≡ Some at' → listed_from true at 1 w (l ∷ ls) ≡ listed_from true at' 2 nothing ls
  unfolding listed_from rows_of rows_after listed
  names-good at' e = rw e refl

  pub names-good-end : (at' : Columns) → names l ≡ Some at' → line_end at 1 w l ≡ record { going = true; columns = at'; world = w }
  unfolding line_end names_end
  names-good-end at' e = rw e refl

  pub names-bad-end : names l ≡ None → line_end at 1 w l ≡ record { going = false; columns = at; world = w }
  unfolding line_end names_end
  names-bad-end e = rw e refl

  pub names-bad : names l ≡ None → listed_from true at 1 w (l ∷ ls) ≡ line 1 (Refused 11) ++ listed_from false at 2 w ls
  unfolding listed_from rows_of rows_after listed
  names-bad e = rw e refl

  module _ (n : ℕ) (later : 1 < n) where
    not_first : eqb n 1 ≡ false
    not_first = ne_eqb n 1 (λ e. omega (arith, later, e))

    pub past-most : most_lines < n → listed_from true at n w (l ∷ ls) ≡ line n (Refused 11) ++ listed_from false at (n + 1) w ls
    unfolding listed_from listed value_rows
    past-most h = rw (not_first, lt-ltb most_lines n h) refl

    pub past-most-end : most_lines < n → line_end at n w l ≡ record { going = false; columns = at; world = w }
    unfolding line_end
    past-most-end h = rw (not_first, lt-ltb most_lines n h) refl

    pub line-run-end : n ≤ most_lines → line_end at n w l ≡ record { going = true; columns = at; world = (answered w (spells at l)).world }
    unfolding line_end
    line-run-end h = rw (not_first, le-ltb most_lines n h) refl

    pub line-run : n ≤ most_lines
        → listed_from true at n w (l ∷ ls)
        ≡ line n (answered w (spells at l)).answer ++ listed_from true at (n + 1) (answered w (spells at l)).world ls
    unfolding listed_from listed value_rows
    line-run h = rw (not_first, le-ltb most_lines n h) (ap (λ (x : List ℕ). line n (answered w (spells at l)).answer ++ x) (sym (after ls)))
      where
        after : (ls : List (List ℕ)) → listed_from true at (n + 1) (answered w (spells at l)).world ls ≡ listed (value_rows at (answered w (spells at l)).world (n + 1) ls)
        after ls = rw (ne_eqb (n + 1) 1 (λ e. omega (arith, later, e))) refl

-- what is listed of line n
abbrev pub text : ℕ → World → Asked → List ℕ
text n w a = cond (lists a) (line n (outcome w a).answer) []

-- what line n, whose bytes are l, leads to, if it asks for this
pub record Leads (at : Columns) (n : ℕ) (w : World) (l : List ℕ) (a : Asked) : Type 0 where
  pub listing : (ls : List (List ℕ)) → listed_from true at n w (l ∷ ls) ≡ text n w a ++ listed_from (goes a) (ordered at a) (n + 1) (outcome w a).world ls
  pub leaving : line_end at n w l ≡ record { going = goes a; columns = ordered at a; world = (outcome w a).world }
  pub few_lines : goes a ≡ true → n ≤ most_lines

module _ (at : Columns) (n : ℕ) (w : World) (l : List ℕ) where
  names-lead : n ≡ 1 → w ≡ nothing → Leads at n w l (of_names (names l))
  unfolding of_names
  names-lead one blank = subst (λ (k : ℕ). Leads at k w l (of_names (names l))) (sym one) (go (names l) refl)
    where
      go : (x : Option Columns) → names l ≡ x → Leads at 1 w l (of_names x)
      go (Some at') e =
          record {
            listing = λ ls. names-good at w l ls at' e ∙ ap (λ (v : World). listed_from true at' 2 v ls) (sym blank);
            leaving = names-good-end at w l [] at' e;
            few_lines = λ on. omega arith;
          }
      go None e =
          record { listing = λ ls. names-bad at w l ls e; leaving = names-bad-end at w l [] e; few_lines = λ on. absurd (true≢false (sym on)) }

  module _ (later : 1 < n) where
    past-lead : most_lines < n → Leads at n w l (Asked.Ended Malformed)
    past-lead h =
        record { listing = λ ls. past-most at w l ls n later h; leaving = past-most-end at w l [] n later h; few_lines = λ on. absurd (true≢false (sym on)) }

    values-lead : n ≤ most_lines → (a : Asked) → Plain a → outcome w a ≡ answered w (spells at l) → Leads at n w l a
    values-lead h a plain same =
        record {
          listing = λ ls. rw (plain.is-listed, plain.goes_on, plain.same-order at, same) (line-run at w l ls n later h);
          leaving = rw (plain.goes_on, plain.same-order at, same) (line-run-end at w l [] n later h);
          few_lines = λ on. h;
        }

  pub line-leads : (cores : ℕ) → 0 < n → (n ≡ 1 → cores ≡ 0) → (cores ≡ 0 → w ≡ nothing) → Leads at n w l (asks at n l cores)
  unfolding asks
  line-leads cores some first none = go (eqb n 1) refl (ltb most_lines n) refl
    where
      go : (p : Bool) → eqb n 1 ≡ p → (q : Bool) → ltb most_lines n ≡ q
          → Leads at n w l (cond p (of_names (names l)) (cond q (Asked.Ended Malformed) (of_line cores (spells at l))))
      go true e q t = let one = eqb-true n 1 e in names-lead one (none (first one))
      go false e true t = past-lead (omega (arith, some, eqb-false n 1 e)) (ltb-true most_lines n t)
      go false e false t =
          values-lead (omega (arith, some, eqb-false n 1 e)) (ltb-false most_lines n t) (of_line cores (spells at l)) (line_plain cores (spells at l))
          (line-answered cores w none (spells at l))

-- ---- a byte more of a line that has not ended

-- a line that is too long is malformed, whatever it holds
pub listed-long : (going : Bool) (at : Columns) (n : ℕ) (w : World) (l l' : List ℕ) (ls : List (List ℕ)) → 64 < length l → 64 < length l'
    → listed_from going at n w (l ∷ ls) ≡ listed_from going at n w (l' ∷ ls)
unfolding listed_from rows_of listed value_rows
listed-long going at n w l l' ls h h' = rw (too_long at l h, too_long at l' h', names-too-long l h, names-too-long l' h') refl

-- a byte that is no newline joins the rest of the line
onto-line : (b : ℕ) (bytes : List ℕ) → (b ≡ 10 → ⊥) → later-lines (b ∷ bytes) ≡ later-lines bytes
unfolding later-lines pieces onto first others
onto-line b bytes h = rw (ne_eqb b 10 h, some-piece 10 bytes) refl

-- past 64 bytes, one byte more changes nothing
pub byte-lost : (going : Bool) (at : Columns) (n : ℕ) (w : World) (p : List ℕ) (b : ℕ) (bytes : List ℕ) → free 10 p ≡ true → 64 < length p
    → (b ≡ 10 → ⊥) → listed_from going at n w (lines (p ++ b ∷ bytes)) ≡ listed_from going at n w (lines (p ++ bytes))
byte-lost going at n w [] b bytes f h ne = absurd (omega (arith, h))
byte-lost going at n w (x ∷ p) b bytes f h ne =
    ap (listed_from going at n w) (lines-begun x p (b ∷ bytes) f)
    ∙ listed-long going at n w (x ∷ p ++ rest-of-line (b ∷ bytes)) (x ∷ p ++ rest-of-line bytes) (later-lines (b ∷ bytes)) (longer (rest-of-line (b ∷ bytes))) (longer (rest-of-line bytes))
    ∙ ap (λ (ls : List (List ℕ)). listed_from going at n w ((x ∷ p ++ rest-of-line bytes) ∷ ls)) (onto-line b bytes ne)
    ∙ sym (ap (listed_from going at n w) (lines-begun x p bytes f))
  where
    longer : (q : List ℕ) → 64 < length (x ∷ p ++ q)
    longer q = simp length-append (omega (arith, h))

-- ---- the script ends

-- an unfinished line is a line
pub last_line : (going : Bool) (at : Columns) (n : ℕ) (w : World) (p : List ℕ) → free 10 p ≡ true → 0 < length p
    → listed_from going at n w (lines (p ++ [])) ≡ listed_from going at n w (p ∷ [])
last_line going at n w [] f h = absurd (omega (arith, h))
last_line going at n w (b ∷ p) f h = ap (λ (x : List ℕ). listed_from going at n w (lines x)) (append-nil (b ∷ p)) ∙ ap (listed_from going at n w) (lines-last b p f)

-- after the line of names, no bytes are no line
pub no_line : (going : Bool) (at : Columns) (n : ℕ) (w : World) → 1 < n → listed_from going at n w [] ≡ []
unfolding listed_from listed value_rows
no_line true at n w h = rw (ne_eqb n 1 (λ e. omega (arith, h, e))) refl
no_line false at n w h = refl

-- empty input is a bad line of names
pub no_names : (at : Columns) (w : World) → listed_from true at 1 w (lines []) ≡ listed_from true at 1 w ([] ∷ [])
unfolding listed_from rows_of rows_after listed lines pieces without_last_empty
no_names at w = rw empty-bad refl
  where
    empty-bad : names [] ≡ None
    empty-bad = unfold names in_order columns_of columns all_stand fields_of place pieces in refl
