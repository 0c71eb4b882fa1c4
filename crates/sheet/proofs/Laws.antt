-- What a caller knows of a sheet: its groups and levels are what paper 2 says.
use mathlib.Core.Path.{◌≡◌}
use mathlib.Core.List.{List}
use Prim.Native.Nat.{ℕ, ◌<◌}
use lib.ListN.{length, get_or}
use Rattle.objset.specs.Objset.{none}
use Rattle.taskset.specs.declared.Level.{Level}
use Rattle.taskset.specs.Tasks.{cards_of}
use Rattle.taskset.specs.Groups.{groups_of}
use Rattle.taskset.specs.Chains.{AreGroups}
use Rattle.taskset.specs.Levels.{levels_of, no_level}
use Rattle.taskset.specs.Ceilings.{AreLevels}
use Rattle.taskset.proofs.Chains.{are-groups}
use Rattle.taskset.proofs.Ceilings.{are-levels}
use Rattle.sheet.specs.Sheet.{sheet_tasks}
use Rattle.sheet.proofs.Gathered.{sheet-words}

-- ---- groups and levels of every sheet, whoever hands them back

module _ (bytes : List ℕ) where
  pub sheet-groups : (gs : List ℕ)
      → ((i : ℕ) → i < length (sheet_tasks bytes) → get_or gs i none ≡ get_or (groups_of (cards_of (sheet_tasks bytes))) i none)
      → AreGroups (sheet_tasks bytes) gs
  sheet-groups = are-groups (sheet_tasks bytes) (sheet-words bytes)

  pub sheet-levels : (level : ℕ → Level)
      → ((i : ℕ) → i < length (sheet_tasks bytes) → level i ≡ get_or (levels_of (sheet_tasks bytes)) i no_level)
      → AreLevels (sheet_tasks bytes) level
  sheet-levels = are-levels (sheet_tasks bytes) (sheet-words bytes)
