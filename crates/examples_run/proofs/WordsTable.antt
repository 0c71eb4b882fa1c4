-- The words of demands 2 and 3, computed call by call over three runs of two cores: case A of document 01, two that read one card and write
-- two others (Examples.antt), and a tight run (Played.antt).
-- What each word says stands there as it is worked by hand from document 01; each table is one computed test.
use Rattle.std.proofs.Common.{◌≡◌, ℕ, zero, suc, ◌-◌, Bool, true, false, cond, ◌&&◌, List, [], ◌∷◌, ◌++◌, map, length, take, drop, refl}
use Rattle.objset.specs.Objset.{some, each}
use Rattle.one_core.specs.Parts.{most_cores}
use Rattle.machine.specs.Answers.{kind, values}
use Rattle.machine.specs.Record.{tally}
use Rattle.machine.specs.Words.{Deed, begins, reads, writes, waits, commits, told, gives, other, amounts, deeds, in_progress, births, born, ahead, any, touched, wrote, crosses, attempt, strikes, conflict, struck, set_backs, wrote_nothing}
use Rattle.machine.specs.Rounds.{among, is_round}
use Rattle.machine.specs.Serial.{effect, replays, serial, stood, settled, version}
use Rattle.examples_run.proofs.Examples.{Expected, example_a, both_begun, shared_read}
use Rattle.examples_run.proofs.Played.{events, opening, tight, last, afterwards, tight_run}

-- a core after a call: nobody is in progress, or one
pub data Here : Type 0 where
  nobody : Here
  -- how many begins came before its own; how many earlier ones were in progress then; how often it was struck; how many of its calls were
  -- answered set back; its attempt, newest first; then of the cards after each commit so far, the newest first, and after setup: whether the
  -- committed values handed to the attempt were all on them; and whether, run alone on them, it reads what it read
  one : (born ahead struck told : ℕ) (attempt : List Deed) (stood replays : List Bool) → Here

pub record Row : Type 0 where
  -- what the call and its answer amount to
  pub deed : Deed
  pub core-0 : Here
  pub core-1 : Here
  -- the two conflict
  pub conflict : Bool
  -- the cores whose transactions the deed struck
  pub struck : List ℕ
  -- the cards and their versions
  pub cards : List ℕ
  pub versions : List ℕ

-- ---- computed

-- the numbers below n that pass the test
unfoldable pub those : ℕ → (ℕ → Bool) → List ℕ
those zero f = []
those (suc n) f = those n f ++ cond (f n) (n ∷ []) []

-- the numbers below n, each through f
unfoldable pub listed : ℕ → (ℕ → ℕ) → List ℕ
listed zero f = []
listed (suc n) f = listed n f ++ f n ∷ []

-- the cards after each commit so far, the newest first, and after setup
unfoldable pub stations : ℕ → List Deed → List (List ℕ)
stations objects [] = serial objects [] ∷ []
stations objects (x ∷ h) = cond (settled (x ∷ h)) (serial objects (x ∷ h) ∷ stations objects h) (stations objects h)

unfoldable pub here : ℕ → List Deed → ℕ → Here
here objects h c =
    cond (in_progress h c)
    (one (born h c) (ahead h c) (struck h c) (set_backs h c) (attempt h c) (map (stood (attempt h c)) (stations objects h))
    (map (replays (attempt h c)) (stations objects h))) nobody

unfoldable pub row_at : ℕ → Deed → List Deed → Row
row_at objects x h =
    record {
      deed = x;
      core-0 = here objects (x ∷ h) 0;
      core-1 = here objects (x ∷ h) 1;
      conflict = conflict (x ∷ h) 0 1;
      struck = those most_cores (strikes x h);
      cards = serial objects (x ∷ h);
      versions = listed objects (version (x ∷ h));
    }

-- a row for each call
unfoldable pub rows : ℕ → List Deed → List Expected → List Row
rows objects h [] = []
rows objects h (x ∷ xs) =
    let d : Deed = amounts x.call x.answer in
    row_at objects d h ∷ rows objects (d ∷ h) xs

-- ---- worked by hand

-- in these runs the last two are the same: who reads a card that it has written reads what it wrote
abbrev going : ℕ → ℕ → ℕ → ℕ → List Deed → List Bool → Here
going born ahead struck backs attempt stood = one born ahead struck backs attempt stood stood

abbrev row : Deed → Here → Here → Bool → List ℕ → List ℕ → List ℕ → Row
row deed core-0 core-1 conflict struck cards versions =
    record {
      deed = deed;
      core-0 = core-0;
      core-1 = core-1;
      conflict = conflict;
      struck = struck;
      cards = cards;
      versions = versions;
    }

-- deed; core 0; core 1; conflict; struck by it; cards; versions
pub table_a : List Row
table_a =
    row other nobody nobody false [] (0 ∷ 0 ∷ []) (0 ∷ 0 ∷ [])
    ∷ row other nobody nobody false [] (0 ∷ 0 ∷ []) (0 ∷ 0 ∷ [])
    ∷ row (begins 0) (going 0 0 0 0 [] (true ∷ [])) nobody false [] (0 ∷ 0 ∷ []) (0 ∷ 0 ∷ [])
    ∷ row (begins 1) (going 0 0 0 0 [] (true ∷ [])) (going 1 1 0 0 [] (true ∷ [])) false [] (0 ∷ 0 ∷ []) (0 ∷ 0 ∷ [])
    ∷ row (reads 1 0 0) (going 0 0 0 0 [] (true ∷ [])) (going 1 1 0 0 (reads 1 0 0 ∷ []) (true ∷ [])) false [] (0 ∷ 0 ∷ []) (0 ∷ 0 ∷ [])
    ∷ row (writes 0 0 30) (going 0 0 0 0 (writes 0 0 30 ∷ []) (true ∷ [])) (going 1 1 0 0 (reads 1 0 0 ∷ []) (true ∷ [])) true []
    (0 ∷ 0 ∷ []) (0 ∷ 0 ∷ [])
    ∷ row (writes 1 1 4) (going 0 0 0 0 (writes 0 0 30 ∷ []) (true ∷ []))
    (going 1 1 0 0 (writes 1 1 4 ∷ reads 1 0 0 ∷ []) (true ∷ [])) true [] (0 ∷ 0 ∷ []) (0 ∷ 0 ∷ [])
    ∷ row (waits 1 0) (going 0 0 0 0 (writes 0 0 30 ∷ []) (true ∷ []))
    (going 1 1 0 0 (writes 1 1 4 ∷ reads 1 0 0 ∷ []) (true ∷ [])) true [] (0 ∷ 0 ∷ []) (0 ∷ 0 ∷ [])
    ∷ row (commits 0 0) nobody (going 1 1 1 0 [] (true ∷ true ∷ [])) false (1 ∷ []) (30 ∷ 0 ∷ []) (1 ∷ 0 ∷ [])
    ∷ row (told 1) nobody (going 1 1 1 1 [] (true ∷ true ∷ [])) false [] (30 ∷ 0 ∷ []) (1 ∷ 0 ∷ [])
    ∷ row (reads 1 0 30) nobody (going 1 1 1 1 (reads 1 0 30 ∷ []) (true ∷ false ∷ [])) false [] (30 ∷ 0 ∷ []) (1 ∷ 0 ∷ [])
    ∷ row (commits 1 1) nobody nobody false [] (30 ∷ 0 ∷ []) (1 ∷ 0 ∷ [])
    ∷ []

pub words-of-a : rows 2 [] example_a.calls ≡ table_a
unfolding example_a table_a those listed stations here row_at rows kind values amounts tally some any in_progress births born ahead touched wrote crosses attempt conflict struck set_backs effect replays serial stood settled version
words-of-a = refl

-- the same of the two that read one card: they are never in conflict, and no commit strikes anybody
pub table_shared : List Row
table_shared =
    row other nobody nobody false [] (0 ∷ 0 ∷ 0 ∷ []) (0 ∷ 0 ∷ 0 ∷ [])
    ∷ row other nobody nobody false [] (0 ∷ 0 ∷ 0 ∷ []) (0 ∷ 0 ∷ 0 ∷ [])
    ∷ row (begins 0) (going 0 0 0 0 [] (true ∷ [])) nobody false [] (0 ∷ 0 ∷ 0 ∷ []) (0 ∷ 0 ∷ 0 ∷ [])
    ∷ row (begins 1) (going 0 0 0 0 [] (true ∷ [])) (going 1 1 0 0 [] (true ∷ [])) false [] (0 ∷ 0 ∷ 0 ∷ []) (0 ∷ 0 ∷ 0 ∷ [])
    ∷ row (reads 0 0 0) (going 0 0 0 0 (reads 0 0 0 ∷ []) (true ∷ [])) (going 1 1 0 0 [] (true ∷ [])) false []
    (0 ∷ 0 ∷ 0 ∷ []) (0 ∷ 0 ∷ 0 ∷ [])
    ∷ row (reads 1 0 0) (going 0 0 0 0 (reads 0 0 0 ∷ []) (true ∷ [])) (going 1 1 0 0 (reads 1 0 0 ∷ []) (true ∷ [])) false []
    (0 ∷ 0 ∷ 0 ∷ []) (0 ∷ 0 ∷ 0 ∷ [])
    ∷ row (writes 0 1 5) (going 0 0 0 0 (writes 0 1 5 ∷ reads 0 0 0 ∷ []) (true ∷ []))
    (going 1 1 0 0 (reads 1 0 0 ∷ []) (true ∷ [])) false [] (0 ∷ 0 ∷ 0 ∷ []) (0 ∷ 0 ∷ 0 ∷ [])
    ∷ row (writes 1 2 6) (going 0 0 0 0 (writes 0 1 5 ∷ reads 0 0 0 ∷ []) (true ∷ []))
    (going 1 1 0 0 (writes 1 2 6 ∷ reads 1 0 0 ∷ []) (true ∷ [])) false [] (0 ∷ 0 ∷ 0 ∷ []) (0 ∷ 0 ∷ 0 ∷ [])
    ∷ row (commits 1 0) (going 0 0 0 0 (writes 0 1 5 ∷ reads 0 0 0 ∷ []) (true ∷ true ∷ [])) nobody false []
    (0 ∷ 0 ∷ 6 ∷ []) (0 ∷ 0 ∷ 1 ∷ [])
    ∷ row (commits 0 0) nobody nobody false [] (0 ∷ 5 ∷ 6 ∷ []) (0 ∷ 1 ∷ 1 ∷ [])
    ∷ row (begins 0) (going 2 0 0 0 [] (true ∷ true ∷ true ∷ [])) nobody false [] (0 ∷ 5 ∷ 6 ∷ []) (0 ∷ 1 ∷ 1 ∷ [])
    ∷ row (begins 1) (going 2 0 0 0 [] (true ∷ true ∷ true ∷ [])) (going 3 1 0 0 [] (true ∷ true ∷ true ∷ [])) false []
    (0 ∷ 5 ∷ 6 ∷ []) (0 ∷ 1 ∷ 1 ∷ [])
    ∷ row (reads 0 0 0) (going 2 0 0 0 (reads 0 0 0 ∷ []) (true ∷ true ∷ true ∷ [])) (going 3 1 0 0 [] (true ∷ true ∷ true ∷ [])) false []
    (0 ∷ 5 ∷ 6 ∷ []) (0 ∷ 1 ∷ 1 ∷ [])
    ∷ row (reads 1 0 0) (going 2 0 0 0 (reads 0 0 0 ∷ []) (true ∷ true ∷ true ∷ []))
    (going 3 1 0 0 (reads 1 0 0 ∷ []) (true ∷ true ∷ true ∷ [])) false [] (0 ∷ 5 ∷ 6 ∷ []) (0 ∷ 1 ∷ 1 ∷ [])
    ∷ row (writes 0 1 7) (going 2 0 0 0 (writes 0 1 7 ∷ reads 0 0 0 ∷ []) (true ∷ true ∷ true ∷ []))
    (going 3 1 0 0 (reads 1 0 0 ∷ []) (true ∷ true ∷ true ∷ [])) false [] (0 ∷ 5 ∷ 6 ∷ []) (0 ∷ 1 ∷ 1 ∷ [])
    ∷ row (writes 1 2 8) (going 2 0 0 0 (writes 0 1 7 ∷ reads 0 0 0 ∷ []) (true ∷ true ∷ true ∷ []))
    (going 3 1 0 0 (writes 1 2 8 ∷ reads 1 0 0 ∷ []) (true ∷ true ∷ true ∷ [])) false [] (0 ∷ 5 ∷ 6 ∷ []) (0 ∷ 1 ∷ 1 ∷ [])
    ∷ row (commits 0 0) nobody (going 3 1 0 0 (writes 1 2 8 ∷ reads 1 0 0 ∷ []) (true ∷ true ∷ true ∷ true ∷ [])) false []
    (0 ∷ 7 ∷ 6 ∷ []) (0 ∷ 2 ∷ 1 ∷ [])
    ∷ row (commits 1 0) nobody nobody false [] (0 ∷ 7 ∷ 8 ∷ []) (0 ∷ 2 ∷ 2 ∷ [])
    ∷ []

pub words-of-shared : rows 3 [] shared_read.calls ≡ table_shared
unfolding both_begun shared_read table_shared those listed stations here row_at rows kind values amounts tally some any in_progress births born ahead touched wrote crosses attempt conflict struck set_backs effect replays serial stood settled version
words-of-shared = refl

-- the same of the tight run, one card: X on core 0, E on core 1; then T on core 0; and what comes afterwards
pub table_tight : List Row
table_tight =
    row other nobody nobody false [] (0 ∷ []) (0 ∷ [])
    ∷ row other nobody nobody false [] (0 ∷ []) (0 ∷ [])
    ∷ row (begins 0) (going 0 0 0 0 [] (true ∷ [])) nobody false [] (0 ∷ []) (0 ∷ [])
    ∷ row (begins 1) (going 0 0 0 0 [] (true ∷ [])) (going 1 1 0 0 [] (true ∷ [])) false [] (0 ∷ []) (0 ∷ [])
    ∷ row (reads 1 0 0) (going 0 0 0 0 [] (true ∷ [])) (going 1 1 0 0 (reads 1 0 0 ∷ []) (true ∷ [])) false [] (0 ∷ []) (0 ∷ [])
    ∷ row (writes 0 0 5) (going 0 0 0 0 (writes 0 0 5 ∷ []) (true ∷ [])) (going 1 1 0 0 (reads 1 0 0 ∷ []) (true ∷ [])) true []
    (0 ∷ []) (0 ∷ [])
    ∷ row (commits 0 0) nobody (going 1 1 1 0 [] (true ∷ true ∷ [])) false (1 ∷ []) (5 ∷ []) (1 ∷ [])
    ∷ row (begins 0) (going 2 1 0 0 [] (true ∷ true ∷ [])) (going 1 1 1 0 [] (true ∷ true ∷ [])) false [] (5 ∷ []) (1 ∷ [])
    ∷ row other (going 2 1 0 0 [] (true ∷ true ∷ [])) (going 1 1 1 0 [] (true ∷ true ∷ [])) false [] (5 ∷ []) (1 ∷ [])
    ∷ row (writes 0 0 7) (going 2 1 0 0 (writes 0 0 7 ∷ []) (true ∷ true ∷ [])) (going 1 1 1 0 [] (true ∷ true ∷ [])) false []
    (5 ∷ []) (1 ∷ [])
    ∷ row (told 1) (going 2 1 0 0 (writes 0 0 7 ∷ []) (true ∷ true ∷ [])) (going 1 1 1 1 [] (true ∷ true ∷ [])) false []
    (5 ∷ []) (1 ∷ [])
    ∷ row (writes 1 0 6) (going 2 1 0 0 (writes 0 0 7 ∷ []) (true ∷ true ∷ [])) (going 1 1 1 1 (writes 1 0 6 ∷ []) (true ∷ true ∷ [])) true []
    (5 ∷ []) (1 ∷ [])
    ∷ row (waits 0 1) (going 2 1 0 0 (writes 0 0 7 ∷ []) (true ∷ true ∷ [])) (going 1 1 1 1 (writes 1 0 6 ∷ []) (true ∷ true ∷ [])) true []
    (5 ∷ []) (1 ∷ [])
    ∷ row (waits 0 1) (going 2 1 0 0 (writes 0 0 7 ∷ []) (true ∷ true ∷ [])) (going 1 1 1 1 (writes 1 0 6 ∷ []) (true ∷ true ∷ [])) true []
    (5 ∷ []) (1 ∷ [])
    ∷ row (commits 1 1) (going 2 1 1 0 [] (true ∷ true ∷ true ∷ [])) nobody false (0 ∷ []) (6 ∷ []) (2 ∷ [])
    ∷ row (told 0) (going 2 1 1 1 [] (true ∷ true ∷ true ∷ [])) nobody false [] (6 ∷ []) (2 ∷ [])
    ∷ row (reads 0 0 6) (going 2 1 1 1 (reads 0 0 6 ∷ []) (true ∷ false ∷ false ∷ [])) nobody false [] (6 ∷ []) (2 ∷ [])
    ∷ row (commits 0 1) nobody nobody false [] (6 ∷ []) (2 ∷ [])
    ∷ row (begins 1) nobody (going 3 0 0 0 [] (true ∷ true ∷ true ∷ true ∷ [])) false [] (6 ∷ []) (2 ∷ [])
    ∷ row (writes 1 0 9) nobody (going 3 0 0 0 (writes 1 0 9 ∷ []) (true ∷ true ∷ true ∷ true ∷ [])) false [] (6 ∷ []) (2 ∷ [])
    ∷ row (reads 1 0 9) nobody (going 3 0 0 0 (reads 1 0 9 ∷ writes 1 0 9 ∷ []) (true ∷ true ∷ true ∷ true ∷ [])) false [] (6 ∷ []) (2 ∷ [])
    ∷ row (begins 0) (going 4 1 0 0 [] (true ∷ true ∷ true ∷ true ∷ [])) (going 3 0 0 0 (reads 1 0 9 ∷ writes 1 0 9 ∷ []) (true ∷ true ∷ true ∷ true ∷ [])) false [] (6 ∷ []) (2 ∷ [])
    ∷ row other (going 4 1 0 0 [] (true ∷ true ∷ true ∷ true ∷ [])) (going 3 0 0 0 (reads 1 0 9 ∷ writes 1 0 9 ∷ []) (true ∷ true ∷ true ∷ true ∷ [])) false [] (6 ∷ []) (2 ∷ [])
    ∷ row (commits 0 0) nobody (going 3 0 0 0 (reads 1 0 9 ∷ writes 1 0 9 ∷ []) (true ∷ true ∷ true ∷ true ∷ true ∷ [])) false [] (6 ∷ []) (2 ∷ [])
    ∷ row (begins 0) (going 5 1 0 0 [] (true ∷ true ∷ true ∷ true ∷ true ∷ [])) (going 3 0 0 0 (reads 1 0 9 ∷ writes 1 0 9 ∷ []) (true ∷ true ∷ true ∷ true ∷ true ∷ [])) false [] (6 ∷ []) (2 ∷ [])
    ∷ row (writes 0 0 7) (going 5 1 0 0 (writes 0 0 7 ∷ []) (true ∷ true ∷ true ∷ true ∷ true ∷ [])) (going 3 0 0 0 (reads 1 0 9 ∷ writes 1 0 9 ∷ []) (true ∷ true ∷ true ∷ true ∷ true ∷ [])) true [] (6 ∷ []) (2 ∷ [])
    ∷ row (writes 1 0 8) (going 5 1 0 0 (writes 0 0 7 ∷ []) (true ∷ true ∷ true ∷ true ∷ true ∷ [])) (going 3 0 0 0 (writes 1 0 8 ∷ reads 1 0 9 ∷ writes 1 0 9 ∷ []) (true ∷ true ∷ true ∷ true ∷ true ∷ [])) true [] (6 ∷ []) (2 ∷ [])
    ∷ row (commits 1 0) (going 5 1 1 0 [] (true ∷ true ∷ true ∷ true ∷ true ∷ true ∷ [])) nobody false (0 ∷ []) (8 ∷ []) (3 ∷ [])
    ∷ row (gives 0) nobody nobody false [] (8 ∷ []) (3 ∷ [])
    ∷ row (begins 1) nobody (going 6 0 0 0 [] (true ∷ true ∷ true ∷ true ∷ true ∷ true ∷ [])) false [] (8 ∷ []) (3 ∷ [])
    ∷ row (writes 1 0 4) nobody (going 6 0 0 0 (writes 1 0 4 ∷ []) (true ∷ true ∷ true ∷ true ∷ true ∷ true ∷ [])) false [] (8 ∷ []) (3 ∷ [])
    ∷ row (gives 1) nobody nobody false [] (8 ∷ []) (3 ∷ [])
    ∷ []

pub words-of-tight : rows 1 [] tight_run ≡ table_tight
unfolding opening tight last afterwards table_tight those listed stations here row_at rows kind values amounts tally some any in_progress births born ahead touched wrote crosses attempt conflict struck set_backs effect replays serial stood settled version
words-of-tight = refl

-- ---- who is read-only

-- after each call, the cores whose transaction's present attempt has written nothing
unfoldable pub read_only : List Deed → List Expected → List (List ℕ)
read_only h [] = []
read_only h (x ∷ xs) =
    let now : List Deed = amounts x.call x.answer ∷ h in
    those most_cores (λ c. in_progress now c && wrote_nothing (attempt now c)) ∷ read_only now xs

-- core 0 until it writes; core 1 until it writes, and again once it is struck
pub read_only_a : List (List ℕ)
read_only_a =
    [] ∷ [] ∷ (0 ∷ []) ∷ (0 ∷ 1 ∷ []) ∷ (0 ∷ 1 ∷ []) ∷ (1 ∷ []) ∷ [] ∷ [] ∷ (1 ∷ []) ∷ (1 ∷ []) ∷ (1 ∷ []) ∷ [] ∷ []

-- X and E; T until it writes, E once it is struck and until it writes; T once it is struck, to its commit
pub read_only_tight : List (List ℕ)
read_only_tight =
    [] ∷ [] ∷ (0 ∷ []) ∷ (0 ∷ 1 ∷ []) ∷ (0 ∷ 1 ∷ []) ∷ (1 ∷ []) ∷ (1 ∷ []) ∷ (0 ∷ 1 ∷ []) ∷ (0 ∷ 1 ∷ []) ∷ (1 ∷ []) ∷ (1 ∷ []) ∷ [] ∷ [] ∷ []
    ∷ (0 ∷ []) ∷ (0 ∷ []) ∷ (0 ∷ []) ∷ [] ∷ []

-- each until it writes, so that none is when it commits
pub read_only_shared : List (List ℕ)
read_only_shared =
    [] ∷ [] ∷ (0 ∷ []) ∷ (0 ∷ 1 ∷ []) ∷ (0 ∷ 1 ∷ []) ∷ (0 ∷ 1 ∷ []) ∷ (1 ∷ []) ∷ [] ∷ [] ∷ [] ∷ (0 ∷ []) ∷ (0 ∷ 1 ∷ []) ∷ (0 ∷ 1 ∷ []) ∷ (0 ∷ 1 ∷ [])
    ∷ (1 ∷ []) ∷ [] ∷ [] ∷ [] ∷ []

pub read-only-of-both : (read_only [] example_a.calls ≡ read_only_a) × (read_only [] (opening ++ tight ++ last) ≡ read_only_tight)
unfolding example_a opening tight last read_only_a read_only_tight read_only those amounts kind values some any in_progress touched wrote wrote_nothing crosses attempt
read-only-of-both = (refl, refl)

pub read-only-of-shared : read_only [] shared_read.calls ≡ read_only_shared
unfolding both_begun shared_read read_only_shared read_only those amounts kind values some any in_progress touched wrote wrote_nothing crosses attempt
read-only-of-shared = refl

-- ---- rounds

-- the calls after the first `from` of the list and up to the first `to` of it are a round for the transaction of the t-th begin, from 0
pub record Stretch : Type 0 where
  pub t : ℕ
  pub from : ℕ
  pub to : ℕ
  pub round : Bool

unfoldable pub is_one : List Deed → Stretch → Bool
is_one h s =
    let start : List Deed = drop (length h - s.from) h in
    let end : List Deed = drop (length h - s.to) h in
    is_round s.t start (take (s.to - s.from) end)

abbrev stretch : ℕ → ℕ → ℕ → Bool → Stretch
stretch t from to round = record { t = t; from = from; to = to; round = round }

pub rounds_a : List Stretch
rounds_a =
    -- of the second transaction: both cores act, the other one's commit too; once that has ended, core 1 alone
    stretch 1 4 5 false
    ∷ stretch 1 4 6 true
    ∷ stretch 1 6 8 false
    ∷ stretch 1 6 9 true
    ∷ stretch 1 9 9 false
    ∷ stretch 1 9 10 true
    ∷ stretch 1 10 11 true
    ∷ stretch 1 11 12 true
    -- of the first one: core 0 acts
    ∷ stretch 0 4 5 false
    ∷ stretch 0 5 6 true
    ∷ []

-- T's rounds in the tight run: a refused call is no act, and waits is one; the sixth commits
pub rounds_tight : List Stretch
rounds_tight =
    stretch 2 8 10 false
    ∷ stretch 2 9 10 false
    ∷ stretch 2 9 11 true
    ∷ stretch 2 11 13 true
    ∷ stretch 2 12 14 false
    ∷ stretch 2 13 15 true
    ∷ stretch 2 15 16 true
    ∷ stretch 2 16 17 true
    ∷ stretch 2 17 18 true
    -- afterwards, of the one that is given up: that is an act
    ∷ stretch 5 25 26 false
    ∷ stretch 5 25 27 true
    ∷ stretch 5 27 28 false
    ∷ stretch 5 27 29 true
    ∷ stretch 5 28 29 true
    ∷ []

pub rounds-of-a : map (is_one (deeds (events [] example_a.calls))) rounds_a ≡ map (λ (s : Stretch). s.round) rounds_a
unfolding example_a rounds_a is_one events deeds amounts kind values in_progress births born any among is_round each
rounds-of-a = refl

pub rounds-of-tight : map (is_one (deeds (events [] tight_run))) rounds_tight ≡ map (λ (s : Stretch). s.round) rounds_tight
unfolding opening tight last afterwards rounds_tight is_one events deeds amounts kind values in_progress births born any among is_round each
rounds-of-tight = refl
