-- One byte more than a sheet can have is enough of any input: what is printed of it is what is printed of all.
use mathlib.Core.Path.{◌≡◌, sym, ap, ◌∙◌}
use mathlib.Core.Logic.{dite}
use mathlib.Core.List.{List}
use Prim.Native.Nat.{ℕ, ◌+◌}
use native.Mathlib.Decide.{dec_le}
use native.Mathlib.Omega.{arith}
use lib.ListN.{length, take, length-take}
use lib.Seq.{take_all}
use Rattle.sheet.specs.Sheet.{longest_sheet, sheet_tasks}
use Rattle.sheet.proofs.Longest.{longest-sheet}
use Rattle.levels.specs.Printed.{tasks_printed, levels_printed}

abbrev kept : List ℕ → List ℕ
kept bytes = take (longest_sheet + 1) bytes

same-tasks : (bytes : List ℕ) → sheet_tasks (kept bytes) ≡ sheet_tasks bytes
same-tasks bytes =
    dite (dec_le (length bytes) longest_sheet)
    (λ h. ap sheet_tasks (take_all (longest_sheet + 1) bytes (omega (arith, h))))
    (λ h. longest-sheet (kept bytes) (omega (arith, h, length-take (longest_sheet + 1) bytes)) ∙ sym (longest-sheet bytes (omega (arith, h))))

pub kept-printed : (bytes : List ℕ) → levels_printed (kept bytes) ≡ levels_printed bytes
unfolding levels_printed
kept-printed bytes = ap tasks_printed (same-tasks bytes)
