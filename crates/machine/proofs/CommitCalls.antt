-- What a commit gives where it finds its core, by what stands there and who is first ahead, is what the rule gives.
use Rattle.std.proofs.Common.{◌≡◌, ℕ, ◌<◌, Bool, true, false, cond, Option, None, Some, Result, Ok, Err, length, sym, refl, ap, ◌∙◌, subst, arith}
use Rattle.one_core.specs.declared.Answer.TheVariants.{Waits, SetBack, Refused}
use Rattle.one_core.specs.declared.refusal.Refusal.{Refusal}
use Rattle.one_core.specs.Life.{unmarked}
use Rattle.machine.specs.declared.Machine.{Machine}
use Rattle.machine.specs.Record.{core_at, put_core}
use Rattle.machine.specs.Inside.{SoundWorld}
use Rattle.machine.specs.Rule as Rule
use Rattle.machine.specs.Rule.{World, lent, with_machine, changed, moved, set_back_told, through, commit}
use Rattle.machine.specs.OneCore.{found_core, first_holding, carried_out, waits_or, settled_at}
use Rattle.machine.proofs.Facts.{core-place}
use Rattle.machine.proofs.CoreCalls.{core-found, core-lacked}
use Rattle.machine.proofs.CoreLists.{strikes-cleared}
use Rattle.machine.proofs.CommitLaws.{waits-for, waits-for-nobody, commit-no-core, commit-none, commit-told, commit-waits, commit-through}

module _ (w : World) where
  abbrev m : Machine
  m = w.machine

  -- it goes through
  pub carried-through : (c : ℕ) → c < length m.core → carried_out w c ≡ through w c
  unfolding through
  carried-through c l = rw (strikes-cleared (core_at m c).writes c m.core l) refl

  -- who is first ahead of the transaction on the core that was found
  abbrev pub ahead_at : Result ℕ Refusal → Option ℕ
  ahead_at (Ok c) = first_holding m.core (core_at m c)
  ahead_at (Err r) = None

  module _ (f : SoundWorld w) (long : length m.core ≡ 16) (c : ℕ) where
    -- on the core that was found, by what stands there
    on-core : c < m.cores → (a z : Bool) (ahead : Option ℕ) → (core_at m c).active ≡ a → (core_at m c).zombie ≡ z
        → ahead ≡ first_holding m.core (core_at m c)
        → cond a (cond z (record { answer = SetBack; world = with_machine w (put_core m c (unmarked (core_at m c))) }) (waits_or w c ahead)) (record { answer = Refused 9; world = w })
        ≡ commit w c
    on-core h false z ahead off mark first = commit-none w c f.is_sound f.committed_long f.pending_long h off
    on-core h true true ahead on mark first = unfold set_back_told in commit-told w c f.is_sound f.committed_long f.pending_long h on mark
    on-core h true false (Some e) on mark first =
        let named = waits-for m c e first in
        ap (λ (x : ℕ). record { answer = Waits x; world = w }) (sym named.1)
        ∙ commit-waits w c f.is_sound f.committed_long f.pending_long h on mark named.0
    on-core h true false None on mark first =
        carried-through c (omega (arith, long, core-place m f.is_sound c h))
        ∙ commit-through w c f.is_sound f.committed_long f.pending_long h on mark (waits-for-nobody m c first)

    -- what the commit gives, wherever it finds its core
    pub by-commit : let to : Result ℕ Refusal = found_core c m.cores in settled_at w to (ahead_at to) ≡ commit w c
    by-commit = go (found_core c m.cores) refl
      where
        go : (to : Result ℕ Refusal) → to ≡ found_core c m.cores → settled_at w to (ahead_at to) ≡ commit w c
        go (Ok x) e =
            let there = core-found c m.cores x e in
            subst (λ (y : ℕ). settled_at w (Ok y) (ahead_at (Ok y)) ≡ commit w c) (sym there.0)
            (on-core there.1 (core_at m c).active (core_at m c).zombie (ahead_at (Ok c)) refl refl refl)
        go (Err r) e =
            let lacked = core-lacked c m.cores r e in
            subst (λ (x : Refusal). settled_at w (Err x) None ≡ commit w c) (sym lacked.0)
            (commit-no-core w c f.is_sound f.committed_long f.pending_long lacked.1)

    -- the same, of what code found and got
    pub by-commit-at : (to : Result ℕ Refusal) (ahead : Option ℕ) (r : Rule.Result) → to ≡ found_core c m.cores
        → ahead ≡ ahead_at to → r ≡ settled_at w to ahead → r ≡ commit w c
    by-commit-at to ahead r p q h =
        h ∙ ap (settled_at w to) q ∙ subst (λ (x : Result ℕ Refusal). settled_at w x (ahead_at x) ≡ commit w c) (sym p) by-commit
