-- A good world stays good where its tables change and keep their lengths, and after a call in place.
use Rattle.std.proofs.Common.{◌≡◌, ℕ, List, length, sym, ap, ◌∙◌, subst}
use Rattle.machine.specs.declared.Machine.{Machine}
use Rattle.machine.specs.Rule.{World, Result, lent, rule}
use Rattle.machine.specs.Inside.{WellFormedWorld}
use Rattle.machine.specs.OneCore.{call_of}
use Rattle.machine.proofs.CaseOf.{case-of}
use Rattle.machine.proofs.Binds.{follows}
use Rattle.machine.proofs.InsideLaws.{commit-left}
use Rattle.machine.proofs.Sound.Keeps.{keeps-good}
use Rattle.bench_calls.specs.declared.Ask.{Ask}
use Rattle.bench_calls.specs.Lists.{inside_gives}

pub same-lengths : (m : Machine) (cs ps cs' ps' : List ℕ) → WellFormedWorld (lent m cs ps) → length cs' ≡ length cs → length ps' ≡ length ps
    → WellFormedWorld (lent m cs' ps')
same-lengths m cs ps cs' ps' g c p =
    let f = g.world_sound in
    record {
      world_sound = record { is_sound = f.is_sound; committed_long = c ∙ f.committed_long; pending_long = p ∙ f.pending_long };
      formed = g.formed;
    }

-- a call in place leaves a good world
pub step-good : (w : World) → WellFormedWorld w → (c : ℕ) (ask : Ask) (r : Result) → r ≡ inside_gives w c ask → WellFormedWorld r.world
step-good w g c Ask.Setup r e = subst WellFormedWorld (sym (ap (λ (x : Result). x.world) e)) g
step-good w g c (Ask.One a) r e = keeps-good (case-of (follows w (call_of a c) r.answer r.world e)) g
step-good w g c Ask.Commit r e =
    unfold rule in
    commit-left w.machine w.committed w.pending g (record { answer = r.answer; machine = r.world.machine }) r.world.committed r.world.pending c e
step-good w g c Ask.Nothing r e = subst WellFormedWorld (sym (ap (λ (x : Result). x.world) e)) g
