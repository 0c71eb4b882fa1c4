-- What each deed of a run finds when it happens, said of the deeds alone: the bridge between the record, which shows it
-- (Agreement.antt), and the claims, which follow from it and never look at the record.
use Rattle.std.proofs.Common.{◌≡◌, ℕ, suc, ◌<◌, ◌≤◌, true, false, List, [], ◌∷◌, get_or}
use Rattle.machine.specs.Words.{Deed, begins, reads, writes, waits, commits, told, gives, other, in_progress, born, wrote_nothing, attempt, strikes, conflict, struck, set_backs}
use Rattle.machine.specs.Serial.{effect, serial}

-- a transaction is in progress on core c and every strike on it has been told
pub record Acting (h : List Deed) (c : ℕ) : Type 0 where
  pub is-core : c < 16
  pub going : in_progress h c ≡ true
  pub all_told : struck h c ≡ set_backs h c

-- a read of card d: it gives what the attempt would read, run alone on the cards as the commits so far left them
pub record Reading (o : ℕ) (h : List Deed) (c d v : ℕ) : Type 0 where
  pub acting : Acting h c
  pub is-object : d < o
  pub alone : v ≡ get_or (effect (attempt h c) (serial o h)) d 0

pub record Waiting (h : List Deed) (c e : ℕ) : Type 0 where
  pub acting : Acting h c
  pub going : in_progress h e ≡ true
  pub earlier : born h e < born h c
  pub in-conflict : conflict h c e ≡ true
  pub has-written : wrote_nothing (attempt h c) ≡ false
  pub first : (b : ℕ) → in_progress h b ≡ true → born h b < born h c → conflict h c b ≡ true → born h e ≤ born h b

pub record Committing (h : List Deed) (c n : ℕ) : Type 0 where
  pub acting : Acting h c
  pub reports : n ≡ struck h c
  pub strikes-later : (b : ℕ) → strikes (commits c n) h b ≡ true → born h c < born h b

-- o is the number of cards
abbrev pub Allowed : ℕ → Deed → List Deed → Type 0
Allowed o (begins c) h = (c < 16) × (in_progress h c ≡ false)
Allowed o (reads c d v) h = Reading o h c d v
Allowed o (writes c d v) h = Acting h c × (d < o)
Allowed o (waits c e) h = Waiting h c e
Allowed o (commits c n) h = Committing h c n
Allowed o (told c) h = (c < 16) × (in_progress h c ≡ true) × (struck h c ≡ suc (set_backs h c))
Allowed o (gives c) h = (c < 16) × (in_progress h c ≡ true)
Allowed o other h = Unit {0}

abbrev pub Orderly : ℕ → List Deed → Type 0
Orderly o [] = Unit {0}
Orderly o (x ∷ h) = Allowed o x h × Orderly o h
