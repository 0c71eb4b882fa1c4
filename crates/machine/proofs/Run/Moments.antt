-- What holds of every orderly list holds at every moment of a run: each beginning of an orderly list is orderly.
use Rattle.std.proofs.Common.{◌≡◌, ℕ, List, [], ◌∷◌, ◌++◌, subst}
use Rattle.machine.specs.Words.{Deed}
use Rattle.machine.proofs.Run.Orderly.{Orderly}

drop-late : (o : ℕ) (late early : List Deed) → Orderly o (late ++ early) → Orderly o early
drop-late o [] early r = r
drop-late o (x ∷ late) early r = drop-late o late early r.1

pub orderly-early : (o : ℕ) (h late early : List Deed) → h ≡ late ++ early → Orderly o h → Orderly o early
orderly-early o h late early e r = drop-late o late early (subst (Orderly o) e r)
