-- After a commit that goes through: a written card is one of the machine's, and no version rises by more than the commits do.
use Rattle.std.proofs.Common.{◌≡◌, ℕ, ◌+◌, ◌-◌, ◌<◌, ◌≤◌, Bool, true, false, cond, List, ◌++◌, length, get_or, take, drop, refl, ap, ◌∙◌, arith, length-take-le, get_or-drop}
use Rattle.std.proofs.lemmas.List.{get_or-append_right}
use Rattle.objset.specs.Objset.{has}
use Rattle.machine.specs.declared.Machine.{Machine}
use Rattle.machine.specs.Record.{core_at}
use Rattle.machine.specs.Rule.{changed}
use Rattle.machine.specs.Inside.{Formed}
use Rattle.machine.proofs.Sound.Standing.{Standing}
use Rattle.machine.proofs.Entries.{changed-at, changed-long, changed-front}

module _ (m : Machine) (c : ℕ) (f : Formed m) (s : Standing m) (inside : c < 16) where
  abbrev pub versions-after : ℕ → ℕ
  versions-after d = get_or (changed (core_at m c).writes (λ x v. v + 1) 0 m.versions) d 0

  -- a version past the machine's cards stays, whatever becomes of those of the write set
  lacked-kept : (g : ℕ → ℕ → ℕ) (d : ℕ) → m.objects ≤ d → get_or (changed (core_at m c).writes g 0 m.versions) d 0 ≡ get_or m.versions d 0
  lacked-kept g d h =
      ap (λ (vs : List ℕ). get_or vs d 0) front ∙ get_or-append_right _ _ m.objects d 0 own h ∙ get_or-drop m.objects m.versions (d - m.objects) 0
      ∙ ap (λ (x : ℕ). get_or m.versions x 0) (omega (arith, h))
    where
      front : changed (core_at m c).writes g 0 m.versions ≡ changed (core_at m c).writes g 0 (take m.objects m.versions) ++ drop m.objects m.versions
      front =
          changed-front (core_at m c).writes g g m.objects 0 m.versions (λ e v l. refl)
          (λ e l p. omega (arith, (s.tidy c inside).writes-within e (omega (arith, l, f.versions_long)) p))

      own : length (changed (core_at m c).writes g 0 (take m.objects m.versions)) ≡ m.objects
      own =
          changed-long (core_at m c).writes g 0 (take m.objects m.versions)
          ∙ length-take-le m.objects m.versions (omega (arith, s.few-objects, f.versions_long))

  pub version-lacked : (d : ℕ) → d < 64 → m.objects ≤ d → versions-after d ≡ 0
  version-lacked d l h = lacked-kept (λ x v. v + 1) d h ∙ s.lacked-objects d l h

  pub version-bounded : (d : ℕ) → d < 64 → versions-after d ≤ m.commits + 1
  version-bounded d l =
      omega (arith, changed-at (core_at m c).writes (λ x v. v + 1) m.versions d (omega (arith, f.versions_long)), go (has (core_at m c).writes d))
    where
      go : (b : Bool) → cond b (get_or m.versions d 0 + 1) (get_or m.versions d 0) ≤ m.commits + 1
      go true = omega (arith, s.versions-bounded d l)
      go false = omega (arith, s.versions-bounded d l)
