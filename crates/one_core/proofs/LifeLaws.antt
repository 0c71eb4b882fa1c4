-- The laws of a core at another's commit.
use Rattle.std.specs.Prelude.{◌≡◌, ℕ, true, false, ◌&&◌}
use mathlib.Core.Path.{sym}
use Rattle.objset.specs.Objset.{meeting}
use Rattle.one_core.specs.declared.Core.{Core}
use Rattle.one_core.specs.Parts.{data_set}
use Rattle.one_core.specs.Life.{aborted, struck_by}

-- ---- one core after another's commit

module _ (ws : ℕ) (k : Core) where
  -- u is the data set of k
  pub data-met : (u : ℕ) → k.active ≡ true → u ≡ data_set k → meeting ws u ≡ (k.active && meeting ws (data_set k))
  data-met u on e = rw (on, sym e)

  pub struck-hit : (k.active && meeting ws (data_set k)) ≡ true → aborted k ≡ struck_by ws k
  unfolding struck_by
  struck-hit p = rw p

  pub struck-missed : (k.active && meeting ws (data_set k)) ≡ false → k ≡ struck_by ws k
  unfolding struck_by
  struck-missed p = rw p

pub struck-idle : (ws : ℕ) (k : Core) → k.active ≡ false → k ≡ struck_by ws k
unfolding struck_by
struck-idle ws k off = rw off
