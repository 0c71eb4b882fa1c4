-- The words of demand 2: the committed last attempts run one after another in commit order, and values that stood together.
use Rattle.std.specs.Prelude.{ℕ, ◌+◌, Bool, true, false, cond, ◌&&◌, List, [], ◌∷◌, replicate, ◌==◌, slice_index, slice_set}
use Rattle.machine.specs.Words.{Deed, begins, reads, writes, waits, commits, told, gives, other, wrote, attempt}

-- the cards after an attempt that runs alone on the cards t
unfoldable pub effect : List Deed → List ℕ → List ℕ
effect [] t = t
effect (begins b ∷ a) t = effect a t
effect (reads b d v ∷ a) t = effect a t
effect (writes b d v ∷ a) t = slice_set (effect a t) d v
effect (waits b e ∷ a) t = effect a t
effect (commits b n ∷ a) t = effect a t
effect (told b ∷ a) t = effect a t
effect (gives b ∷ a) t = effect a t
effect (other ∷ a) t = effect a t

-- run alone on the cards t, the attempt reads what it read
unfoldable pub replays : List Deed → List ℕ → Bool
replays [] t = true
replays (begins b ∷ a) t = replays a t
replays (reads b d v ∷ a) t = v == slice_index (effect a t) d && replays a t
replays (writes b d v ∷ a) t = replays a t
replays (waits b e ∷ a) t = replays a t
replays (commits b n ∷ a) t = replays a t
replays (told b ∷ a) t = replays a t
replays (gives b ∷ a) t = replays a t
replays (other ∷ a) t = replays a t

-- the cards, all zero at first, after the committed transactions' last attempts ran one after another in commit order
unfoldable pub serial : ℕ → List Deed → List ℕ
serial objects [] = replicate objects 0
serial objects (begins b ∷ h) = serial objects h
serial objects (reads b d v ∷ h) = serial objects h
serial objects (writes b d v ∷ h) = serial objects h
serial objects (waits b e ∷ h) = serial objects h
serial objects (commits b n ∷ h) = effect (attempt h b) (serial objects h)
serial objects (told b ∷ h) = serial objects h
serial objects (gives b ∷ h) = serial objects h
serial objects (other ∷ h) = serial objects h

-- the committed values handed to an attempt were all on the cards t: those of its reads of cards it had not written
unfoldable pub stood : List Deed → List ℕ → Bool
stood [] t = true
stood (begins b ∷ a) t = stood a t
stood (reads b d v ∷ a) t = cond (wrote a d) true (v == slice_index t d) && stood a t
stood (writes b d v ∷ a) t = stood a t
stood (waits b e ∷ a) t = stood a t
stood (commits b n ∷ a) t = stood a t
stood (told b ∷ a) t = stood a t
stood (gives b ∷ a) t = stood a t
stood (other ∷ a) t = stood a t

-- the list is empty (just after setup) or its newest deed is a commit answered committed
unfoldable pub settled : List Deed → Bool
settled [] = true
settled (begins b ∷ h) = false
settled (reads b d v ∷ h) = false
settled (writes b d v ∷ h) = false
settled (waits b e ∷ h) = false
settled (commits b n ∷ h) = true
settled (told b ∷ h) = false
settled (gives b ∷ h) = false
settled (other ∷ h) = false

-- the count of commits that wrote card d (document 01: its version)
unfoldable pub version : List Deed → ℕ → ℕ
version [] d = 0
version (begins b ∷ h) d = version h d
version (reads b e v ∷ h) d = version h d
version (writes b e v ∷ h) d = version h d
version (waits b e ∷ h) d = version h d
version (commits b n ∷ h) d = cond (wrote (attempt h b) d) 1 0 + version h d
version (told b ∷ h) d = version h d
version (gives b ∷ h) d = version h d
version (other ∷ h) d = version h d
