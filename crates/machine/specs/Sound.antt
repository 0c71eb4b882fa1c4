-- The standing rules of a record (document 01), one definition each, in the document's order. A rule about one core (..On: specs/Tidy.antt of
-- core; ..At: here, where it speaks of the record too), one card or two cores has a name of its own, which the test and its laws use.
use Rattle.std.specs.Prelude.{ℕ, ◌+◌, Bool, not, ◌&&◌, ltb, leb, ◌==◌, nat_eq, nat_le, nat_lt, slice_index}
use Rattle.objset.specs.Objset.{most_objects, each}
use Rattle.machine.specs.declared.Machine.{Machine}
use Rattle.one_core.specs.declared.Core.{Core}
use Rattle.machine.specs.Record.{core_at, active_at, tally, sizes_in_range}
use Rattle.one_core.specs.Tidy.{◌⇒◌, sets_within_on, owner_listed_on, idle_clear_on, zombie_empty_on, few_jobs_on, unused_jobs_on, owner_first_on, unused, blank_on}
use Rattle.one_core.specs.Parts.{most_cores}

-- a rule that each of the sixteen places for cores keeps
abbrev pub each_core : (Core → Bool) → Machine → Bool
each_core rule m = each most_cores (λ c. rule (core_at m c))

-- cores and cards are in range
unfoldable pub in_range : Machine → Bool
in_range m = sizes_in_range m.cores m.objects

-- sets lie within the cards
unfoldable pub sets_within : Machine → Bool
sets_within m = each_core (sets_within_on m.objects) m

-- a transaction needs a job: its owner's place is one of the list's
unfoldable pub owner_listed : Machine → Bool
owner_listed = each_core owner_listed_on

-- a core without a transaction has empty sets, no mark, and owner's place, ticket and setbacks 0
unfoldable pub idle_clear : Machine → Bool
idle_clear = each_core idle_clear_on

-- a marked one has empty sets
unfoldable pub zombie_empty : Machine → Bool
zombie_empty = each_core zombie_empty_on

-- a list has at most 8 jobs
unfoldable pub few_jobs : Machine → Bool
few_jobs = each_core few_jobs_on

-- unused job places hold zeros
unfoldable pub unused_jobs : Machine → Bool
unused_jobs = each_core unused_jobs_on

-- core c, if the machine lacks it, has no jobs and no transaction, so by the rules above all is 0
abbrev pub lacked_at : Machine → ℕ → Bool
lacked_at m c = leb m.cores c ⇒ unused (core_at m c)

-- places for cores that the machine lacks hold zeros
unfoldable pub lacked_cores : Machine → Bool
lacked_cores m = each most_cores (lacked_at m)

-- card d, if the machine lacks it, has version 0
abbrev pub lacked_object_at : Machine → ℕ → Bool
lacked_object_at m d = leb m.objects d ⇒ nat_eq (slice_index m.versions d) 0

-- places for cards that the machine lacks hold zeros
unfoldable pub lacked_objects : Machine → Bool
lacked_objects m = each most_objects (lacked_object_at m)

-- while a transaction is in progress, every job listed before its own has a greater deadline
unfoldable pub owner_first : Machine → Bool
owner_first = each_core owner_first_on

-- the tickets of cores c and e, if both have a transaction in progress, differ
abbrev pub differ_at : Machine → ℕ → ℕ → Bool
differ_at m c e = active_at m c && active_at m e ⇒ not ((core_at m c).ticket == (core_at m e).ticket)

-- tickets in progress differ
unfoldable pub tickets_differ : Machine → Bool
tickets_differ m = each most_cores (λ c. each c (differ_at m c))

-- the ticket of core c, if in progress, is smaller than the count of tickets given
abbrev pub given_at : Machine → ℕ → Bool
given_at m c = active_at m c ⇒ ltb (core_at m c).ticket m.tickets

-- tickets in progress are smaller than the count of tickets given
unfoldable pub tickets_given : Machine → Bool
tickets_given m = each most_cores (given_at m)

-- that count is commits + give-ups + transactions in progress
unfoldable pub tickets_counted : Machine → Bool
tickets_counted m = m.tickets == m.commits + m.give_ups + tally most_cores (active_at m)

-- the version of card d does not exceed the commits
abbrev pub version_at : Machine → ℕ → Bool
version_at m d = nat_le (slice_index m.versions d) m.commits

-- no version exceeds the commits
unfoldable pub versions_bounded : Machine → Bool
versions_bounded m = each most_objects (version_at m)

-- core c has a transaction in progress with a ticket smaller than t
abbrev pub smaller_at : Machine → ℕ → ℕ → Bool
smaller_at m t c = active_at m c && nat_lt (core_at m c).ticket t

-- the number of smaller tickets in progress
unfoldable pub smaller_tickets : Machine → ℕ → ℕ
smaller_tickets m t = tally most_cores (smaller_at m t)

-- the setbacks of the transaction on core c plus the number of smaller tickets in progress is at most cores - 1
abbrev pub aborts_at : Machine → ℕ → Bool
aborts_at m c = active_at m c ⇒ ltb ((core_at m c).aborts + smaller_tickets m (core_at m c).ticket) m.cores

-- a transaction's setbacks plus the number of smaller tickets in progress is at most cores - 1
unfoldable pub aborts_bounded : Machine → Bool
aborts_bounded m = each most_cores (aborts_at m)

-- any other record is unsound
unfoldable pub sound : Machine → Bool
sound m =
    in_range m && sets_within m && owner_listed m && idle_clear m && zombie_empty m && few_jobs m && unused_jobs m && lacked_cores m
    && lacked_objects m && owner_first m && tickets_differ m && tickets_given m && tickets_counted m && versions_bounded m && aborts_bounded m

-- ---- the blank record, which is no machine's

-- all fields are 0
unfoldable pub is_blank : Machine → Bool
is_blank m =
    (m.cores == 0) && m.objects == 0 && m.tickets == 0 && m.commits == 0 && m.give_ups == 0
    && each most_objects (λ d. nat_eq (slice_index m.versions d) 0) && each_core blank_on m

-- ---- the rules as they are tested together: of the cards, of the cores by themselves, of the transactions in progress

abbrev pub cards_sound : Machine → Bool
cards_sound m = versions_bounded m && lacked_objects m

abbrev pub cores_tidy : Machine → Bool
cores_tidy m =
    sets_within m && owner_listed m && idle_clear m && zombie_empty m && few_jobs m && unused_jobs m && owner_first m && lacked_cores m

abbrev pub turns_kept : Machine → Bool
turns_kept m = tickets_differ m && tickets_given m && aborts_bounded m

-- and with them the count of tickets
abbrev pub cores_sound : Machine → Bool
cores_sound m = cores_tidy m && turns_kept m && tickets_counted m

-- a transaction in progress on core c with this ticket and these setbacks keeps the rules of those in progress
abbrev pub turn_kept : Machine → ℕ → ℕ → ℕ → Bool
turn_kept m c ticket aborts =
    each c (λ e. active_at m e ⇒ not (ticket == (core_at m e).ticket)) && nat_lt ticket m.tickets
    && nat_lt (aborts + smaller_tickets m ticket) m.cores
