-- Lines of a listing, each by computation: document 01's case A, and the answers that it does not have.
use Rattle.std.proofs.Common.{◌≡◌, ℕ, List, [], ◌∷◌, refl}
use Rattle.decimal.specs.Bytes.{ascii}
use Rattle.decimal.specs.Spelling.{spelling, spelling_in}
use Rattle.one_core.specs.declared.Answer.{Answer}
use Rattle.one_core.specs.declared.Answer.TheVariants.{Ready, Running, Queued, Begun, Value, Written, Waits, Committed, SetBack, Ended, Finished, Refused}
use Rattle.listing.specs.Text.{said, line}

-- the lines for these answers, one after another
listed : List (ℕ × Answer) → List (List ℕ)
listed [] = []
listed ((n, a) ∷ rest) = line n a ∷ listed rest

table : listed ((1, Refused 11) ∷ (2, Ready) ∷ (4, Running) ∷ (6, Begun 1) ∷ (9, Written) ∷ (10, Waits 0) ∷ (11, Committed 0) ∷ (12, SetBack) ∷ (13, Value 30 1) ∷ (14, Committed 1) ∷ (15, Ended) ∷ (16, Finished 7) ∷ (17, Queued) ∷ (18, Waits 15) ∷ [])
    ≡ ascii "1 refused 11\n"
    ∷ ascii "2 ready -\n"
    ∷ ascii "4 running -\n"
    ∷ ascii "6 begun 1\n"
    ∷ ascii "9 written -\n"
    ∷ ascii "10 waits 0\n"
    ∷ ascii "11 committed 0\n"
    ∷ ascii "12 setback -\n"
    ∷ ascii "13 value 30\n"
    ∷ ascii "14 committed 1\n"
    ∷ ascii "15 ended -\n"
    ∷ ascii "16 finished 7\n"
    ∷ ascii "17 queued -\n"
    ∷ ascii "18 waits 15\n"
    ∷ []
unfolding listed line said spelling spelling_in
table = refl
