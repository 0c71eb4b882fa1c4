-- Each way that the values of four fields make a task, or none.
use mathlib.Core.Path.{◌≡◌, sym, ap, ◌∙◌}
use mathlib.Core.List.{List, []}
use Prim.Native.Nat.{ℕ, ◌≤◌}
use native.Mathlib.Omega.{arith}
use denote.Ref.{Bor}
use lib.ListN.{get_or}
use borrow.Author.Tests.{le-leb}
use Rattle.std.specs.Prelude.{None, Some}
use Rattle.taskset.specs.Tasks.{last_core}
use Rattle.decimal.specs.Reading.{all_digits, no_leading_zero, is_number, read_as_number}
use Rattle.table.specs.declared.Fields.{Fields}
use Rattle.table.specs.Cut.{cut_of, fields_by}
use Rattle.table.proofs.Cuts.{cut_found, cut-none, found_in}
use Rattle.sheet.specs.Sheet.{longest_line, last_task, card_list, goes_on, spelled_task, task_of, task_line}

module _ (t c d s : ℕ) where
  pub is-task : t ≤ last_task → c ≤ last_core → spelled_task t c d s ≡ Some (record { number = t; core = c; deadline = d; cards = s })
  unfolding spelled_task
  is-task h k = rw (le-leb t last_task h, le-leb c last_core k)

-- ---- a line, field by field

module _ (at : List ℕ) (line : Bor (List ℕ)) where
  pub uncut : cut_of longest_line 4 line ≡ None → task_line at line.now ≡ None
  unfolding task_line task_of goes_on read_as_number is_number all_digits no_leading_zero
  uncut e = rw (cut-none longest_line 4 line e (omega arith))

  module _ (f : Fields) (e : cut_of longest_line 4 line ≡ Some f) where
    abbrev pub field : ℕ → List ℕ
    field n = get_or (fields_by f) (get_or at n 0) []

    by-fields : task_line at line.now ≡ task_of at (fields_by f)
    unfolding task_line
    by-fields =
        ap (task_of at) ((cut_found longest_line 4 line e).fields ∙ sym (found_in longest_line 4 line e))

    pub no-number : read_as_number (field 0) ≡ None → task_line at line.now ≡ None
    unfolding task_of goes_on
    no-number a = by-fields ∙ rw a

    module _ (t : ℕ) (a : read_as_number (field 0) ≡ Some t) where
      pub no-core : read_as_number (field 1) ≡ None → task_line at line.now ≡ None
      unfolding task_of goes_on
      no-core b = by-fields ∙ rw (a, b)

      module _ (c : ℕ) (b : read_as_number (field 1) ≡ Some c) where
        pub no-deadline : read_as_number (field 2) ≡ None → task_line at line.now ≡ None
        unfolding task_of goes_on
        no-deadline g = by-fields ∙ rw (a, b, g)

        module _ (d : ℕ) (g : read_as_number (field 2) ≡ Some d) where
          pub no-cards : card_list (field 3) ≡ None → task_line at line.now ≡ None
          unfolding task_of goes_on
          no-cards h = by-fields ∙ rw (a, b, g, h)

          pub spells : (s : ℕ) → card_list (field 3) ≡ Some s → task_line at line.now ≡ spelled_task t c d s
          unfolding task_of goes_on
          spells s h = by-fields ∙ rw (a, b, g, h)
