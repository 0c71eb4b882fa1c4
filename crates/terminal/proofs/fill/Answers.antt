-- What one more read gives stands behind the bytes that were read before.
use Rattle.std.proofs.Common.{◌≡◌, ◌≤◌, ◌+◌, ℕ, List, ◌++◌, length, take, sym, ap, ap₂, ◌∙◌, subst, le_refl, drop_at, length-take-le, rules}
use Rattle.std.proofs.lemmas.Slice.{take-put_mid_below}
use Rattle.std.specs.Io.KnownBytes.{Consumes}
use Rattle.std.proofs.KnownBytes.{Consumes-trans}
use borrow.Rule.Slice.PartMut.{put_mid, post_of}
use lib.Seq.{take-add, take-append-le}
use Rattle.terminal.proofs.fill.Goals as goal

-- the bytes that were read before, and k more of what was put behind them
grown : (n k room : ℕ) (old more : List ℕ) → n ≤ length old → k ≤ length more → take n old ++ take k more ≡ take (n + k) (put_mid n room old more)
grown n k room old more within few =
    ap₂ (λ (xs ys : List ℕ). xs ++ ys) (sym (take-put_mid_below n room old more n (le_refl n) within))
    (sym (ap (take k) (drop_at (take n old) (more ++ post_of n room old) n (length-take-le n old within)) ∙ take-append-le k more (post_of n room old) few))
    ∙ sym (take-add n k (put_mid n room old more))

pub loop-n-preserved : goal.loop-n-preserved
loop-n-preserved g c = (
  search rules,
  search rules,
  subst (Consumes _ _) (grown _ _ _ _ _ c.loop-n.invariant.0 c.in_ok-more.ensures.bound.0) (Consumes-trans _ _ _ _ _ c.loop-n.invariant.2 c.in_ok-more.ensures.bytes.0),
)
