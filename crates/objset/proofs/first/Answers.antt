-- `objset::first` meets its contract: the trailing zeros of a word that is not 0 are the objects before the first one.
use mathlib.Core.Path.{◌≡◌, sym, ◌∙◌}
use mathlib.Core.Bool.{Bool, true, false, cond, true≢false}
use Prim.Native.Nat.{ℕ, ◌^◌, ◌<◌}
use lib.Count.{count_trailing_zeros}
use lib.Dec.{ltb}
use borrow.Author.Rules.{rules}
use Rattle.std.specs.Prelude.{None, Some}
use Rattle.objset.specs.Objset.{is_empty, first_object}
use Rattle.objset.proofs.Digits.{trailing-first}
use Rattle.objset.proofs.Laws.{no_first, first-none}
use Rattle.objset.proofs.first.Goals as goal

trailing : (s : ℕ) → s < 2 ^ 64 → is_empty s ≡ false → Some (count_trailing_zeros 64 s) ≡ first_object s
unfolding first_object
trailing s hs e = go (ltb (count_trailing_zeros 64 s) 64) (trailing-first 64 s)
  where
    go : (b : Bool) → first_object s ≡ cond b (Some (count_trailing_zeros 64 s)) None → Some (count_trailing_zeros 64 s) ≡ first_object s
    go true p = sym p
    go false p = absurd (true≢false (sym (no_first s hs p) ∙ e))

pub returns-then-is_empty : goal.returns-then-is_empty
returns-then-is_empty c = sym (first-none c.args.s (sym c.is_empty.ensures ∙ c.if-is_empty.true))

pub returns-else-is_empty : goal.returns-else-is_empty
returns-else-is_empty c = trailing c.args.s (search rules) (sym c.is_empty.ensures ∙ c.if-is_empty.false)
