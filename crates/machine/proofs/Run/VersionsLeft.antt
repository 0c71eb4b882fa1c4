-- After a commit that goes through the versions count the commits that wrote.
use Rattle.std.proofs.Common.{◌≡◌, ℕ, ◌+◌, ◌<◌, Bool, true, false, cond, List, get_or, ap, ◌∙◌, arith}
use Rattle.machine.specs.Record.{core_at}
use Rattle.machine.specs.Rule as Rule
use Rattle.machine.specs.Rule.{World}
use Rattle.machine.specs.Words.{Deed, wrote, attempt}
use Rattle.machine.specs.Serial.{version}
use Rattle.machine.proofs.Entries.{changed-at}
use Rattle.machine.proofs.Run.Agreement.{Agree}

pub versions-left : {o : ℕ} {w : World} {h : List Deed} (a : Agree o w h) (c d : ℕ) → d < o
    → get_or (Rule.changed (core_at w.machine c).writes (λ e v. v + 1) 0 w.machine.versions) d 0 ≡ cond (wrote (attempt h c) d) 1 0 + version h d
versions-left {w = w} {h = h} a c d l =
    changed-at (core_at w.machine c).writes (λ e v. v + 1) w.machine.versions d (omega (arith, a.versions_long, a.objects-few))
    ∙ ap (λ (q : Bool). cond q (get_or w.machine.versions d 0 + 1) (get_or w.machine.versions d 0)) ((a.each-core c).same_writes d)
    ∙ go (wrote (attempt h c) d)
  where
    go : (q : Bool) → cond q (get_or w.machine.versions d 0 + 1) (get_or w.machine.versions d 0) ≡ cond q 1 0 + version h d
    go true = omega (arith, a.same_versions d l)
    go false = omega (arith, a.same_versions d l)
