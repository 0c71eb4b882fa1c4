-- Rounds, and what becomes of a transaction (document 01, the words of demand 3).
use Rattle.std.specs.Prelude.{◌≡◌, ℕ, suc, ◌≤◌, Bool, true, cond, ◌&&◌, List, [], ◌∷◌, ◌++◌, length, ◌==◌, nat_le}
use Rattle.objset.specs.Objset.{each}
use Rattle.one_core.specs.Tidy.{◌⇒◌}
use Rattle.machine.specs.Words.{Deed, begins, reads, writes, waits, commits, told, gives, other, acts_on, in_progress, born, any, attempt}
use Rattle.one_core.specs.Parts.{most_cores}

-- core b has T or one of those k in progress: the one begun as number t or before, T being number t
unfoldable pub among : ℕ → List Deed → ℕ → Bool
among t h b = in_progress h b && nat_le (born h b) t

-- a stretch of calls, one after another after the list h, in which each core that has T or one of those k in progress when the
-- stretch starts acts; the first such act is for that very transaction, which only an act on its core ends
unfoldable pub is_round : ℕ → List Deed → List Deed → Bool
is_round t h stretch = each most_cores (λ b. among t h b ⇒ any (λ x. acts_on x b) stretch)

-- `Rounds t start n h`: from the list start to the list h there are n rounds that do not overlap
pub data Rounds (t : ℕ) (start : List Deed) : ℕ → List Deed → Type 0 where
  no_round : Rounds t start 0 start
  between : {n : ℕ} {h : List Deed} (x : Deed) → Rounds t start n h → Rounds t start n (x ∷ h)
  one_round : {n : ℕ} {h : List Deed} (stretch : List Deed) → Rounds t start n h → is_round t h stretch ≡ true
      → Rounds t start (suc n) (stretch ++ h)

-- what has become of the transaction begun on core c, by the deeds since
pub data Fate : Type 0 where
  in-progress committed given-up : Fate

abbrev pub fate_after : Deed → ℕ → Fate → Fate
fate_after x c committed = committed
fate_after x c given-up = given-up
fate_after (begins b) c in-progress = in-progress
fate_after (reads b d v) c in-progress = in-progress
fate_after (writes b d v) c in-progress = in-progress
fate_after (waits b e) c in-progress = in-progress
fate_after (commits b n) c in-progress = cond (b == c) committed in-progress
fate_after (told b) c in-progress = in-progress
fate_after (gives b) c in-progress = cond (b == c) given-up in-progress
fate_after other c in-progress = in-progress

unfoldable pub fate : List Deed → ℕ → Fate
fate [] c = in-progress
fate (x ∷ since) c = fate_after x c (fate since c)

-- at every moment from the list start to the list since ++ start no attempt of T or of those k has more than L reads and writes
abbrev pub AtMost : ℕ → ℕ → List Deed → List Deed → Type 0
AtMost l t start [] = (b : ℕ) → among t start b ≡ true → length (attempt start b) ≤ l
AtMost l t start (x ∷ since) =
    ((b : ℕ) → among t (x ∷ since ++ start) b ≡ true → length (attempt (x ∷ since ++ start) b) ≤ l) × AtMost l t start since
