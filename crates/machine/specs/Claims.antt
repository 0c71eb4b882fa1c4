-- The claim about whole runs, demands 2 and 3: one statement about a whole list of the seven calls after an accepted setup. Read
-- it from top to bottom; its words are in Words.antt, Rounds.antt and Serial.antt, the rules in Rule.antt, what a call's promise
-- says in Follows.antt.
use Rattle.std.specs.Prelude.{◌≡◌, ℕ, suc, ◌+◌, ◌*◌, ◌<◌, ◌≤◌, true, false, List, [], ◌∷◌, ◌++◌, ◌≢◌}
use Rattle.one_core.specs.declared.Answer.{Answer}
use Rattle.one_core.specs.declared.Answer.TheVariants.{Value, Committed}
use Rattle.machine.specs.Record.{tally}
use Rattle.machine.specs.Rule.{World, rule, Call, Read, Commit}
use Rattle.machine.specs.Follows.{Follows}
use Rattle.machine.specs.Words.{Event, Deed, begins, waits, commits, told, deeds, in_progress, births, born, ahead, wrote_nothing, attempt, strikes, conflict, struck, set_backs}
use Rattle.machine.specs.Rounds.{Rounds, fate, committed, given-up, AtMost}
use Rattle.machine.specs.Serial.{replays, serial, stood, settled, version}
use Rattle.one_core.specs.Parts.{most_cores}

-- A run from the world w₀: each call gets the record that the last one returned and is lent the tables as the calls before left
-- them, and keeps its promise, which is all that is known of it. Newest first.
pub data Run (w₀ : World) : List Event → World → Type 0 where
  fresh : Run w₀ [] w₀
  then : {es : List Event} {w w' : World} (call : Call) (a : Answer) → Run w₀ es w → Follows w call a w'
      → Run w₀ (record { call = call; answer = a } ∷ es) w'

-- the world that the rules give when worked from w₀ over the calls alone
unfoldable pub worked : World → List Event → World
worked w₀ [] = w₀
worked w₀ (e ∷ es) = (rule (worked w₀ es) e.call).world

-- Demand 3, the rule: each call's answer, the record after it and every word of both tables are those that the rules give when
-- worked from w₀ over the calls alone.
pub record ByTheRule (w₀ : World) (es : List Event) (w : World) : Type 0 where
  -- the record and both tables after the whole list
  pub world_worked : w ≡ worked w₀ es
  -- and after the calls of any beginning of it, early: the run passed through a world v, and v is the one worked
  pub passed_worked : (late early : List Event) → es ≡ late ++ early → (v : World) × Run w₀ early v × Run v late w × (v ≡ worked w₀ early)
  -- the answer of each call
  pub answers_worked : (late early : List Event) (e : Event) → es ≡ late ++ e ∷ early
      → e.answer ≡ (rule (worked w₀ early) e.call).answer

-- Demand 3, of every transaction T begun in the list. A moment is a list of the deeds so far, early; late is what came after it.
pub record Served (h : List Deed) : Type 0 where
  -- this holds after every call: T was set back at most k times; T is the last one begun on core c, in progress or over, and k,
  -- `ahead`, counts the earlier ones in progress at its begin
  pub at_most_k : (late early : List Deed) (c : ℕ) → h ≡ late ++ early → struck early c ≤ ahead early c
  -- never by a later one
  pub never_by_later : (late early : List Deed) (b n c : ℕ) → h ≡ late ++ commits b n ∷ early → strikes (commits b n) early c ≡ true
      → born early b < born early c
  -- told to wait only behind an earlier one in conflict
  pub waits_behind : (late early : List Deed) (c e : ℕ) → h ≡ late ++ waits c e ∷ early
      → (in_progress early e ≡ true) × (born early e < born early c) × (conflict early c e ≡ true)
  -- the first of them: of all in progress that were begun earlier and are in conflict with it none was begun before the one named
  pub none_before : (late early : List Deed) (c e b : ℕ) → h ≡ late ++ waits c e ∷ early
      → in_progress early b ≡ true → born early b < born early c → conflict early c b ≡ true → born early e ≤ born early b
  -- and never while its present attempt has written nothing (document 02, paper 4)
  pub no_readonly_waits : (late early : List Deed) (c e : ℕ) → h ≡ late ++ waits c e ∷ early → wrote_nothing (attempt early c) ≡ false
  -- its reported setbacks are the commits that struck it, and as many of its calls were answered set back
  pub reported : (late early : List Deed) (c n : ℕ) → h ≡ late ++ commits c n ∷ early → (n ≡ struck early c) × (n ≡ set_backs early c)
  -- a call is answered set back only while its transaction is in progress, and has one strike behind it that was not told, and no more
  pub told_a_strike : (late early : List Deed) (c : ℕ) → h ≡ late ++ told c ∷ early
      → (in_progress early c ≡ true) × (struck early c ≡ suc (set_backs early c))
  -- if not given up and with at most l reads and writes in any attempt of T and those k, committed within (k + 1) × (l + 2) rounds
  pub within_rounds : (late since early : List Deed) (c l : ℕ) → h ≡ late ++ since ++ begins c ∷ early
      → AtMost l (births early) (begins c ∷ early) since
      → Rounds (births early) (begins c ∷ early) ((tally most_cores (in_progress early) + 1) * (l + 2)) (since ++ begins c ∷ early)
      → (fate since c ≢ given-up) → fate since c ≡ committed

-- Demand 2. The committed transactions' last attempts, run one after another in commit order on a table of their own.
pub record Serial (objects : ℕ) (h : List Deed) : Type 0 where
  -- each read what it would have read had only these run before it
  pub same_reads : (late early : List Deed) (c n : ℕ) → h ≡ late ++ commits c n ∷ early → replays (attempt early c) (serial objects early) ≡ true
  -- the committed values handed to any one attempt, by any moment, stood together after setup or after one commit
  pub together : (late early : List Deed) (c : ℕ) → h ≡ late ++ early
      → (between then-on : List Deed) × (early ≡ between ++ then-on) × (settled then-on ≡ true)
      × (stood (attempt early c) (serial objects then-on) ≡ true)

-- Demand 3 of read_only ones (document 02, paper 4), from the calls and answers of the list.
pub record ReadOnly (es : List Event) : Type 0 where
  -- unmarked and with an empty write set, it commits when requested: its present attempt has written nothing, and unmarked is, in the
  -- words of demand 3, struck as often as told; then its commit is answered committed, with its strikes
  pub readonly_commits : (late early : List Event) (c : ℕ) (a : Answer) → es ≡ late ++ record { call = Commit c; answer = a } ∷ early
      → in_progress (deeds early) c ≡ true → wrote_nothing (attempt (deeds early) c) ≡ true
      → struck (deeds early) c ≡ set_backs (deeds early) c
      → a ≡ Committed (struck (deeds early) c)

-- The whole claim, about a run from w₀ over the list es to the world w.
pub record Claim (w₀ : World) (es : List Event) (w : World) : Type 0 where
  pub by_the_rule : ByTheRule w₀ es w
  pub served : Served (deeds es)
  pub read_only : ReadOnly es
  pub serially : Serial w₀.machine.objects (deeds es)
  -- and the serial run left in the cards what the run left, after each call
  pub same_cards : (late early : List Event) → es ≡ late ++ early → (worked w₀ early).committed ≡ serial w₀.machine.objects (deeds early)
  -- the version that a read gives is the count of commits that wrote the card
  pub same_versions : (late early : List Event) (c d v n : ℕ) → es ≡ late ++ record { call = Read c d; answer = Value v n } ∷ early
      → n ≡ version (deeds early) d

-- the claim holds of every list of calls after w₀
pub record EveryRun (w₀ : World) : Type 0 where
  pub claimed : (es : List Event) (w : World) → Run w₀ es w → Claim w₀ es w
