-- Calls for any k and L from 1 on, made so that T stays in progress as long as the claim lets it. BoundExact.antt plays them and tests their
-- runs for k and L up to 2.
use Rattle.std.proofs.Common.{ℕ, zero, suc, ◌+◌, ◌-◌, cond, eqb, List, [], ◌∷◌, ◌++◌, replicate}
use Rattle.machine.specs.Rule.{Call, Release, Begin, Read, Write, Commit}

-- the call f for each of n cores from core i on
unfoldable pub on : (ℕ → Call) → ℕ → ℕ → List Call
on f i zero = []
on f i (suc n) = f i ∷ on f (suc i) n

unfoldable pub again : ℕ → List Call → List Call
again zero xs = []
again (suc n) xs = xs ++ again n xs

abbrev pub reading : ℕ → Call
reading i = Read i 0

abbrev pub put : ℕ → Call
put i = Write i 0 6

-- cores 0 to k, one card. X on core 0 strikes those k, which have read the card, and is through; then T is begun on core 0
unfoldable pub opened : ℕ → List Call
opened k =
    on (λ i. Release i 1 90) 0 (k + 1) ++ on Begin 0 (k + 1) ++ on reading 1 k ++ (Write 0 0 5 ∷ Commit 0 ∷ Begin 0 ∷ [])

-- the eldest is on core i, n of those k come after it: all are told (T, where it was not struck, writes); the eldest writes l times, while the
-- others write, so that they have to wait; and commits, which strikes them
unfoldable pub served : ℕ → ℕ → ℕ → List Call
served l i n =
    on put i (suc n) ++ (put 0 ∷ [])
    ++ (put i ∷ on put (suc i) n) ++ (cond (eqb i 1) (Commit 0) (put 0) ∷ [])
    ++ again (l - 1) ((put i ∷ on Commit (suc i) n) ++ (Commit 0 ∷ []))
    ++ on Commit (suc i) n ++ (Commit 0 ∷ Commit i ∷ [])

unfoldable pub all_served : ℕ → ℕ → ℕ → List Call
all_served l i zero = []
all_served l i (suc n) = served l i n ++ all_served l (suc i) n

-- and T is told, and reads l times
unfoldable pub calls_for : ℕ → ℕ → List Call
calls_for k l = opened k ++ all_served l 1 k ++ again (l + 1) (reading 0 ∷ [])

-- the lengths of the rounds, newest first: while n of those k are in progress, a call by each and by T
unfoldable pub rounds_for : ℕ → ℕ → List ℕ
rounds_for zero l = replicate (l + 1) 1
rounds_for (suc n) l = rounds_for n l ++ replicate (l + 2) (n + 2)

unfoldable pub total : List ℕ → ℕ
total [] = 0
total (n ∷ ns) = n + total ns
