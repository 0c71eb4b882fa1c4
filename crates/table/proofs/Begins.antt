-- Where the fields of a line begin, one after another: how many there are, and the bytes of each.
use mathlib.Core.Path.{◌≡◌, refl, sym, ap, ◌∙◌}
use mathlib.Core.Logic.{dite}
use mathlib.Core.List.{List, [], ◌∷◌, ◌++◌}
use Prim.Native.Nat.{ℕ, zero, suc, ◌+◌, ◌-◌, ◌≤◌, ◌<◌}
use native.Mathlib.Decide.{dec_lt}
use native.Mathlib.Numerals.{add-one}
use native.Mathlib.Omega.{arith}
use lib.ListN.{length, get_or, drop, length-drop}
use lib.Seq.{take_all}
use borrow.Author.Tests.{le-leb, lt-leb}
use Rattle.table.specs.Pieces.{pieces}
use Rattle.table.specs.Fields.{field_end, after_field}
use Rattle.table.specs.Cut.{beginnings}
use Rattle.table.proofs.Laws.{some-piece}
use Rattle.table.proofs.PieceEnds.{bytes_between, not-before, inside, cut_at, cut-last}

-- ---- where the next field begins

module _ (line : List ℕ) (from : ℕ) where
  pub after-end : from ≤ length line → after_field line from ≡ field_end line from + 1
  unfolding after_field
  after-end h = rw (le-leb from (length line) h)

  pub after_none : length line < from → after_field line from ≡ from
  unfolding after_field
  after_none h = rw (lt-leb from (length line) h)

  -- another field follows
  follows : from ≤ length line → after_field line from ≤ length line
      → pieces 32 (drop from line) ≡ bytes_between from (after_field line from - 1) line ∷ pieces 32 (drop (after_field line from) line)
  unfolding field_end
  follows h k =
      let to = field_end line from in
      let back : after_field line from - 1 ≡ to = omega (arith, after-end h) in
      cut_at 32 line from to refl (omega (arith, after-end h)) ∙ rw (back, after-end h)

  -- the last field
  ends : from ≤ length line → length line < after_field line from
      → (after_field line from ≡ length line + 1) × (pieces 32 (drop from line) ≡ bytes_between from (after_field line from - 1) line ∷ [])
  unfolding field_end
  ends h k =
      let to = field_end line from in
      let there : to ≡ length line = omega (arith, after-end h, inside 32 line from to refl h) in
      let next : after_field line from ≡ length line + 1 = omega (arith, after-end h) in
      let all = take_all (after_field line from - 1 - from) (drop from line) (omega (arith, length-drop from line)) in
      (next, cut-last 32 line from to refl (omega arith) ∙ ap (λ (p : List ℕ). p ∷ []) (sym all))

-- ---- where the field begins that is so many further on

unfoldable pub begin : List ℕ → ℕ → ℕ → ℕ
begin line from zero = from
begin line from (suc n) = begin line (after_field line from) n

module _ (line : List ℕ) where
  pub next-begin : (n from : ℕ) → begin line from (suc n) ≡ after_field line (begin line from n)
  unfolding begin
  next-begin zero from = refl
  next-begin (suc n) from = next-begin n (after_field line from)

  past : (n from : ℕ) → length line < from → begin line from n ≡ from
  unfolding begin
  past zero from h = refl
  past (suc n) from h = rw (after_none line from h) (past n from h)

  -- there are more than n fields where field n begins within the line
  pub more : (n from : ℕ) → from ≤ length line
      → (n < length (pieces 32 (drop from line)) → begin line from n ≤ length line)
      × (begin line from n ≤ length line → n < length (pieces 32 (drop from line)))
  unfolding begin
  more zero from h = (λ k. h, λ k. omega (arith, ap length (some-piece 32 (drop from line))))
  more (suc n) from h =
      let next = after_field line from in
      dite (dec_lt (length line) next)
      (λ k.
      let last = ends line from h k in
      (λ p. absurd (omega (arith, ap length last.1)), λ p. absurd (omega (arith, past n next k))))
      (λ k.
      let size = ap length (follows line from h (omega arith)) in
      let ih = more n next (omega arith) in
      (λ p. ih.0 (omega (arith, size)), λ p. omega (arith, size, ih.1 p)))

  -- the bytes of field n
  pub nth-field : (n from : ℕ) → from ≤ length line → n < length (pieces 32 (drop from line))
      → get_or (pieces 32 (drop from line)) n [] ≡ bytes_between (begin line from n) (begin line from (suc n) - 1) line
  unfolding begin
  nth-field zero from h k =
      dite (dec_lt (length line) (after_field line from)) (λ p. rw (ends line from h p).1) (λ p. rw (follows line from h (omega arith)))
  nth-field (suc n) from h k =
      let next = after_field line from in
      dite (dec_lt (length line) next) (λ p. absurd (omega (arith, ap length (ends line from h p).1)))
      (λ p.
      let cut = follows line from h (omega arith) in
      rw cut (nth-field n next (omega arith) (omega (arith, ap length cut))))

  -- field n + 1 begins after field n, and at most one byte past the line's end
  pub rising : (n : ℕ) → begin line 0 n ≤ length line → (begin line 0 n < begin line 0 (suc n)) × (begin line 0 (suc n) ≤ length line + 1)
  unfolding field_end
  rising n h =
      let from = begin line 0 n in
      let to = field_end line from in
      let step = next-begin n 0 ∙ after-end line from h in
      (omega (arith, step, not-before 32 line from to refl), omega (arith, step, inside 32 line from to refl h))

-- ---- the same, of a place that is known to be where field n begins

module _ (line : List ℕ) (n from : ℕ) (e : from ≡ begin line 0 n) where
  pub one_further : from ≤ length line → (to : ℕ) → to ≡ after_field line from
      → (to ≡ begin line 0 (n + 1)) × (from < to) × (to ≤ length line + 1) × (n < length (pieces 32 line))
  one_further h to a =
      let within : begin line 0 n ≤ length line = omega arith in
      let there : to ≡ begin line 0 (suc n) = a ∙ ap (after_field line) e ∙ sym (next-begin line n 0) in
      let up = rising line n within in
      (there ∙ ap (begin line 0) (sym (add-one n)), omega arith, omega arith, (more line n 0 (omega arith)).1 within)

  pub no-further : length line < from → length (pieces 32 line) ≤ n
  no-further h =
      dite (dec_lt n (length (pieces 32 line))) (λ k. absurd (omega (arith, (more line n 0 (omega arith)).0 k))) (λ k. omega arith)

-- ---- the list of where the fields begin

module _ (line : List ℕ) where
  pub nth-begin : (m n from : ℕ) → n < m → get_or (beginnings m line from) n 0 ≡ begin line from n
  unfolding beginnings begin
  nth-begin zero n from h = absurd (omega arith)
  nth-begin (suc m) zero from h = refl
  nth-begin (suc m) (suc n) from h = nth-begin m n (after_field line from) (omega arith)

  pub how-many-begin : (n from : ℕ) → length (beginnings n line from) ≡ n
  unfolding beginnings
  how-many-begin zero from = refl
  how-many-begin (suc n) from = ap suc (how-many-begin n (after_field line from))

  pub one_more : (n from : ℕ) → beginnings (suc n) line from ≡ beginnings n line from ++ (begin line from n ∷ [])
  unfolding beginnings begin
  one_more zero from = refl
  one_more (suc n) from = ap (◌∷◌ from) (one_more n (after_field line from))
