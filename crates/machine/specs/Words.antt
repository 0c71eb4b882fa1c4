-- The words of demand 3 (document 01), from the calls and their answers alone. A list has the newest first, so that 'since' and
-- 'before' are the rest of the list.
use Rattle.std.specs.Prelude.{ℕ, ◌+◌, Bool, true, false, cond, not, ◌&&◌, ◌||◌, List, [], ◌∷◌, ◌==◌, slice_index}
use Rattle.objset.specs.Objset.{most_objects, some}
use Rattle.one_core.specs.declared.Answer.{Answer}
use Rattle.one_core.specs.declared.Answer.TheVariants.{Begun, Value, Written, Waits, Committed, SetBack, Ended}
use Rattle.machine.specs.Answers.{kind, values}
use Rattle.machine.specs.Record.{tally}
use Rattle.machine.specs.Rule.{Call, Release, Begin, Read, Write, Commit, GiveUp, Finish}
use Rattle.one_core.specs.Parts.{most_cores}

-- a call and its answer
pub record Event : Type 0 where
  pub call : Call
  pub answer : Answer

-- ---- what a call and its answer amount to; the first number is the core

pub data Deed : Type 0 where
  -- a begin answered begun
  begins : ℕ → Deed
  -- a read answered with a value: card, value
  reads : ℕ → ℕ → ℕ → Deed
  -- a write answered written: card, value
  writes : ℕ → ℕ → ℕ → Deed
  -- a commit answered waits: the core named
  waits : ℕ → ℕ → Deed
  -- a commit answered committed: the setbacks reported
  commits : ℕ → ℕ → Deed
  -- a read, write or commit answered set back
  told : ℕ → Deed
  -- a give up answered ended
  gives : ℕ → Deed
  -- a refused call, a release, a finish
  other : Deed

-- the answer is of the same kind as b
abbrev like : Answer → Answer → Bool
like a b = kind a == kind b

-- the first of an answer's values
abbrev first_value : Answer → ℕ
first_value a = slice_index (values a) 0

unfoldable pub amounts : Call → Answer → Deed
amounts (Release c number deadline) a = other
amounts (Begin c) a = cond (like a (Begun 0)) (begins c) other
amounts (Read c d) a = cond (like a (Value 0 0)) (reads c d (first_value a)) (cond (like a SetBack) (told c) other)
amounts (Write c d v) a = cond (like a Written) (writes c d v) (cond (like a SetBack) (told c) other)
amounts (Commit c) a =
    cond (like a (Committed 0)) (commits c (first_value a)) (cond (like a (Waits 0)) (waits c (first_value a)) (cond (like a SetBack) (told c) other))
amounts (GiveUp c) a = cond (like a Ended) (gives c) other
amounts (Finish c) a = other

unfoldable pub deeds : List Event → List Deed
deeds [] = []
deeds (e ∷ es) = amounts e.call e.answer ∷ deeds es

-- ---- tests of one deed on core c

abbrev pub begins_on : Deed → ℕ → Bool
begins_on (begins b) c = b == c
begins_on (reads b d v) c = false
begins_on (writes b d v) c = false
begins_on (waits b e) c = false
begins_on (commits b n) c = false
begins_on (told b) c = false
begins_on (gives b) c = false
begins_on other c = false

-- a commit answered committed or a give up answered ended
abbrev pub ends_on : Deed → ℕ → Bool
ends_on (begins b) c = false
ends_on (reads b d v) c = false
ends_on (writes b d v) c = false
ends_on (waits b e) c = false
ends_on (commits b n) c = b == c
ends_on (told b) c = false
ends_on (gives b) c = b == c
ends_on other c = false

-- a read answered with a value or a write answered written
abbrev pub steps_on : Deed → ℕ → Bool
steps_on (begins b) c = false
steps_on (reads b d v) c = b == c
steps_on (writes b d v) c = b == c
steps_on (waits b e) c = false
steps_on (commits b n) c = false
steps_on (told b) c = false
steps_on (gives b) c = false
steps_on other c = false

-- a read, write or commit answered set back
abbrev pub told_on : Deed → ℕ → Bool
told_on (begins b) c = false
told_on (reads b d v) c = false
told_on (writes b d v) c = false
told_on (waits b e) c = false
told_on (commits b n) c = false
told_on (told b) c = b == c
told_on (gives b) c = false
told_on other c = false

-- a read, write or commit that is not refused (answered set back or waits counts too), or a give up
abbrev pub acts_on : Deed → ℕ → Bool
acts_on (begins b) c = false
acts_on (reads b d v) c = b == c
acts_on (writes b d v) c = b == c
acts_on (waits b e) c = b == c
acts_on (commits b n) c = b == c
acts_on (told b) c = b == c
acts_on (gives b) c = b == c
acts_on other c = false

-- ---- in progress, earlier and later

-- a transaction is in progress on its core from a begin answered begun until a commit there answers committed or a give up
-- there answers ended
unfoldable pub in_progress : List Deed → ℕ → Bool
in_progress [] c = false
in_progress (x ∷ h) c = cond (begins_on x c) true (cond (ends_on x c) false (in_progress h c))

-- a begin answered begun, on any core
abbrev pub is_begin : Deed → Bool
is_begin (begins b) = true
is_begin (reads b d v) = false
is_begin (writes b d v) = false
is_begin (waits b e) = false
is_begin (commits b n) = false
is_begin (told b) = false
is_begin (gives b) = false
is_begin other = false

-- how many begins were answered begun
unfoldable pub births : List Deed → ℕ
births [] = 0
births (x ∷ h) = cond (is_begin x) 1 0 + births h

-- earlier and later go by the order of these begins: how many came before that of the transaction in progress on core c
unfoldable pub born : List Deed → ℕ → ℕ
born [] c = 0
born (x ∷ h) c = cond (begins_on x c) (births h) (born h c)

-- the number of earlier ones in progress when the last transaction on core c was begun (demand 3: k)
unfoldable pub ahead : List Deed → ℕ → ℕ
ahead [] c = 0
ahead (x ∷ h) c = cond (begins_on x c) (tally most_cores (in_progress h)) (ahead h c)

-- ---- touched, written, conflict

abbrev pub touches : Deed → ℕ → Bool
touches (begins b) d = false
touches (reads b e v) d = e == d
touches (writes b e v) d = e == d
touches (waits b e) d = false
touches (commits b n) d = false
touches (told b) d = false
touches (gives b) d = false
touches other d = false

abbrev pub stores : Deed → ℕ → Bool
stores (begins b) d = false
stores (reads b e v) d = false
stores (writes b e v) d = e == d
stores (waits b e) d = false
stores (commits b n) d = false
stores (told b) d = false
stores (gives b) d = false
stores other d = false

-- a write answered written, of any card
abbrev pub stores_any : Deed → Bool
stores_any (begins b) = false
stores_any (reads b e v) = false
stores_any (writes b e v) = true
stores_any (waits b e) = false
stores_any (commits b n) = false
stores_any (told b) = false
stores_any (gives b) = false
stores_any other = false

-- some deed of the list passes the test
unfoldable pub any : (Deed → Bool) → List Deed → Bool
any f [] = false
any f (x ∷ h) = f x || any f h

-- an attempt has touched card d
unfoldable pub touched : List Deed → ℕ → Bool
touched a d = any (λ x. touches x d) a

-- an attempt has written card d
unfoldable pub wrote : List Deed → ℕ → Bool
wrote a d = any (λ x. stores x d) a

-- an attempt has written nothing: it is read-only (document 02, paper 4: it only looks)
unfoldable pub wrote_nothing : List Deed → Bool
wrote_nothing a = not (any stores_any a)

-- attempt a has written a card that attempt b has touched
unfoldable pub crosses : List Deed → List Deed → Bool
crosses a b = some most_objects (λ d. wrote a d && touched b d)

-- ---- strikes and attempts

-- a commit answered committed strikes every other transaction in progress that has touched a card the committing one has
-- written; `going` says where one is in progress and `tried` gives the attempts so far
abbrev pub strikes_given : Deed → (ℕ → Bool) → (ℕ → List Deed) → ℕ → Bool
strikes_given (begins b) going tried c = false
strikes_given (reads b d v) going tried c = false
strikes_given (writes b d v) going tried c = false
strikes_given (waits b e) going tried c = false
strikes_given (commits b n) going tried c = not (b == c) && going c && crosses (tried b) (tried c)
strikes_given (told b) going tried c = false
strikes_given (gives b) going tried c = false
strikes_given other going tried c = false

-- the present attempt of the transaction in progress on core c, newest first: its reads answered with a value and its writes
-- answered written, from its begin or a strike on it
unfoldable pub attempt : List Deed → ℕ → List Deed
attempt [] c = []
attempt (x ∷ h) c =
    cond (begins_on x c || ends_on x c || strikes_given x (in_progress h) (attempt h) c) []
    (cond (steps_on x c) (x ∷ attempt h c) (attempt h c))

-- the deed x, after the list h, strikes the transaction in progress on core c
abbrev pub strikes : Deed → List Deed → ℕ → Bool
strikes x h c = strikes_given x (in_progress h) (attempt h) c

-- two in progress conflict if one has written a card that the other has touched
unfoldable pub conflict : List Deed → ℕ → ℕ → Bool
conflict h b c = crosses (attempt h b) (attempt h c) || crosses (attempt h c) (attempt h b)

-- being set back is being struck: how often the last transaction begun on core c was, in progress or over
unfoldable pub struck : List Deed → ℕ → ℕ
struck [] c = 0
struck (x ∷ h) c = cond (begins_on x c) 0 (cond (strikes x h c) 1 0 + struck h c)

-- how many of its calls were answered set back
unfoldable pub set_backs : List Deed → ℕ → ℕ
set_backs [] c = 0
set_backs (x ∷ h) c = cond (begins_on x c) 0 (cond (told_on x c) 1 0 + set_backs h c)
