-- The levels of the shipped sheet, worked out from its bytes: table 6.1 of source 002 with table 6.2's levels.
use mathlib.Core.Path.{◌≡◌, refl}
use mathlib.Core.List.{List, [], ◌∷◌, map}
use Rattle.decimal.specs.Reading as Reading
use Rattle.objset.specs.Objset as Objset
use Rattle.table.specs.Pieces as Pieces
use Rattle.table.specs.Fields as Fields
use Rattle.taskset.specs.declared.Task.{Task}
use Rattle.taskset.specs.declared.Level.{Level}
use Rattle.taskset.specs.Tasks as Tasks
use Rattle.taskset.specs.Groups as Groups
use Rattle.taskset.specs.Levels as Levels
use Rattle.sheet.specs.Sheet as Sheet
use Rattle.sheet.specs.Shipped.{shipped_sheet, shipped_levels}

-- the six tasks: number, core, deadline, cards (card d is the digit of weight 2 to the power d)
abbrev pub six_tasks : List Task
six_tasks =
    record { number = 1; core = 0; deadline = 50; cards = 8 }
    ∷ record { number = 2; core = 1; deadline = 100; cards = 2 }
    ∷ record { number = 3; core = 2; deadline = 80; cards = 6 }
    ∷ record { number = 4; core = 3; deadline = 70; cards = 4 }
    ∷ record { number = 5; core = 4; deadline = 120; cards = 8 }
    ∷ record { number = 6; core = 5; deadline = 60; cards = 0 } ∷ []

pub shipped-tasks : Sheet.sheet_tasks shipped_sheet ≡ six_tasks
unfolding Sheet.sheet_tasks Sheet.tasks_of_lines Sheet.tasks_below Sheet.gathered Sheet.task_line Sheet.task_of Sheet.spelled_task Sheet.goes_on Sheet.card_list Sheet.rising Pieces.pieces Pieces.onto Pieces.without_last_empty Pieces.lines Fields.fields_of Fields.place Fields.places_of Fields.all_stand Fields.columns Fields.columns_of Reading.read_as_number Reading.is_number Reading.all_digits Reading.no_leading_zero Reading.value_after Objset.none Objset.added Objset.collect Objset.has Tasks.occurs
shipped-tasks = refl

-- the cards of each task's group: 3; 1 and 2; 1 and 2; 1 and 2; 3; none
pub shipped-groups : Groups.groups_of (Tasks.cards_of six_tasks) ≡ 8 ∷ 6 ∷ 6 ∷ 6 ∷ 8 ∷ 0 ∷ []
unfolding Groups.groups_of Groups.with_task Groups.reached Groups.replaced Objset.meeting Objset.some Objset.has Objset.joined Objset.collect
shipped-groups = refl

-- the ceilings of cards 1, 2 and 3, the last row of table 6.2
pub shipped-ceilings : map (λ d. Levels.object_ceiling d (Tasks.cards_of six_tasks) (Levels.task_levels (Tasks.deadlines_of six_tasks))) (1 ∷ 2 ∷ 3 ∷ [])
    ≡ 3 ∷ 4 ∷ 6 ∷ []
unfolding Levels.task_levels Levels.task_level Levels.different Levels.at_least Levels.highest_of Tasks.occurs Objset.has
shipped-ceilings = refl

-- task, task level, transaction level
abbrev pub six_levels : List Level
six_levels =
    record { number = 1; task = 6; transaction = 6 }
    ∷ record { number = 2; task = 2; transaction = 4 }
    ∷ record { number = 3; task = 3; transaction = 4 }
    ∷ record { number = 4; task = 4; transaction = 4 }
    ∷ record { number = 5; task = 1; transaction = 6 }
    ∷ record { number = 6; task = 5; transaction = 0 } ∷ []

pub shipped-levels : shipped_levels ≡ six_levels
unfolding shipped_levels Levels.levels_of Levels.side_by_side Levels.task_levels Levels.task_level Levels.different Levels.at_least Levels.transaction_levels Levels.highest_of Tasks.occurs Objset.meeting Objset.some Objset.has
shipped-levels = rw (shipped-tasks, shipped-groups)
