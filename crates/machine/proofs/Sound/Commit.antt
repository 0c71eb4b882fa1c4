-- A commit that goes through keeps the standing rules and the shape of a record: it strikes only later transactions, and it leaves,
-- so the sum of setbacks and earlier tickets rises for none.
use Rattle.std.proofs.Common.{◌≡◌, ℕ, ◌+◌, ◌<◌, ◌≤◌, Bool, true, false, cond, eqb, ltb, List, get_or, sym, refl, ◌∙◌, subst, arith, lt-ltb, eqb-true}
use borrow.Author.Tests.{eqb-false}
use Rattle.objset.proofs.Laws.{both_left}
use Rattle.machine.specs.declared.Machine.{Machine}
use Rattle.one_core.specs.declared.Core.{Core}
use Rattle.one_core.specs.Parts.{no_core}
use Rattle.machine.specs.Record.{core_at}
use Rattle.machine.specs.Rule.{must_wait, cleared, through}
use Rattle.one_core.specs.Life.{is_struck, struck_by, over}
use Rattle.machine.proofs.Case.{not-ahead}
use Rattle.machine.proofs.Sound.Turns.{Turns, turns-left}
use Rattle.one_core.specs.Formed.{Formed-core}
use Rattle.machine.specs.Inside.{Formed}
use Rattle.one_core.proofs.Tidy.{Tidy}
use Rattle.machine.proofs.Sound.Standing.{Standing}
use Rattle.one_core.proofs.Kept.{idle-formed, over-tidy, struck-keeps, struck-aborts, struck-tidy, struck-formed}
use Rattle.machine.proofs.Entries.{cleared_at, cleared-long, changed-long}
use Rattle.machine.proofs.Sound.OneCore.{Whole}
use Rattle.machine.proofs.Sound.Versions.{version-lacked, version-bounded}

-- the transaction of core c has no contender or is read-only, so each one that its commit strikes has a later ticket
pub struck-later : (m : Machine) (c e : ℕ) → Standing m → c < 16 → e < 16 → (e ≡ c → ⊥) → must_wait m c ≡ false → (core_at m c).active ≡ true
    → is_struck (core_at m c).writes (core_at m e) ≡ true → ltb (core_at m c).ticket (core_at m e).ticket ≡ true
struck-later m c e s lc le d free on hit =
    let also = both_left (core_at m e).active _ hit in
    let behind = not-ahead m c e free le hit in
    lt-ltb (core_at m c).ticket (core_at m e).ticket (omega (arith, behind, s.turns.differ e c le lc d also on))

module _ (m : Machine) (c : ℕ) (here : c < m.cores) (w : Whole m) where
  f : Formed m
  f = w.formed

  s : Standing m
  s = w.rules

  inside : c < 16
  inside = omega (arith, s.few-cores)

  -- the set of cards that the commit writes
  abbrev ws : ℕ
  ws = (core_at m c).writes

  -- the cores after the commit
  abbrev after : ℕ → Core
  after e = get_or (cleared ws c 0 m.core) e no_core

  -- what holds of core c without its transaction and of the others, struck or not, holds of every core after the commit
  after-each : (P : ℕ → Core → Type 0) → P c (over (core_at m c))
      → ((e : ℕ) → e < 16 → (e ≡ c → ⊥) → P e (struck_by ws (core_at m e))) → (e : ℕ) → e < 16 → P e (after e)
  after-each P new old e l =
      subst (P e) (sym (cleared_at ws c m.core e (omega (arith, f.core_long)))) (go (eqb e c) refl)
    where
      go : (b : Bool) → eqb e c ≡ b → P e (cond b (over (core_at m e)) (struck_by ws (core_at m e)))
      go true t = subst (λ (x : ℕ). P x (over (core_at m x))) (sym (eqb-true e c t)) new
      go false t = old e l (eqb-false e c t)

  after-turns : must_wait m c ≡ false → (core_at m c).active ≡ true
      → Turns m.cores m.tickets (m.commits + 1 + m.give_ups) (λ e. (after e).active) (λ e. (after e).ticket) (λ e. (after e).aborts)
  after-turns free on =
      subst (λ (n : ℕ). Turns m.cores m.tickets n (λ e. (after e).active) (λ e. (after e).ticket) (λ e. (after e).aborts)) (omega arith)
      (turns-left m.cores m.tickets (m.commits + m.give_ups) (λ e. (core_at m e).active) (λ e. (after e).active)
      (λ e. (core_at m e).ticket) (λ e. (after e).ticket) (λ e. (core_at m e).aborts) (λ e. (after e).aborts) c inside
      (after-each (λ e x. (e ≡ c → ⊥) → x.active ≡ (core_at m e).active) (λ d. absurd (d refl)) (λ e l o d. struck-keeps (λ (x : Core). x.active) ws (core_at m e) refl))
      (after-each (λ e x. (e ≡ c → ⊥) → x.ticket ≡ (core_at m e).ticket) (λ d. absurd (d refl)) (λ e l o d. struck-keeps (λ (x : Core). x.ticket) ws (core_at m e) refl))
      s.turns on
      (after-each (λ e x. e ≡ c → x.active ≡ false) (λ p. refl) (λ e l o p. absurd (o p)) c inside refl)
      (after-each (λ e x. (e ≡ c → ⊥) → x.aborts ≤ (core_at m e).aborts + cond (ltb (core_at m c).ticket (core_at m e).ticket) 1 0)
      (λ d. absurd (d refl))
      (λ e l o d. struck-aborts ws (core_at m e) (ltb (core_at m c).ticket (core_at m e).ticket) (struck-later m c e s inside l o free on))))

  pub through-whole : must_wait m c ≡ false → (core_at m c).active ≡ true → (committed pending : List ℕ)
      → Whole (through (record { machine = m; committed = committed; pending = pending }) c).world.machine
  unfolding through
  through-whole free on committed pending =
      record {
        formed = record {
          core_long = cleared-long ws c 0 m.core ∙ f.core_long;
          versions_long = changed-long ws _ 0 m.versions ∙ f.versions_long;
          tickets_fit = f.tickets_fit;
          formed_core =
              after-each (λ e x. Formed-core x) (idle-formed (core_at m c).jobs (core_at m c).count (f.formed_core c inside).jobs_long)
              (λ e l o. struck-formed ws (core_at m e) (f.formed_core e l));
        };
        rules = record {
          some-cores = s.some-cores;
          few-cores = s.few-cores;
          some-objects = s.some-objects;
          few-objects = s.few-objects;
          tidy =
              after-each (λ e x. Tidy m.objects x) (over-tidy m.objects (core_at m c) (s.tidy c inside) (f.formed_core c inside))
              (λ e l o. struck-tidy m.objects ws (core_at m e) (s.tidy e l) (f.formed_core e l));
          lacked-jobs =
              after-each (λ e x. m.cores ≤ e → x.count ≡ 0) (λ h. absurd (omega arith))
              (λ e l o h. struck-keeps (λ (x : Core). x.count) ws (core_at m e) refl ∙ s.lacked-jobs e l h);
          lacked-objects = version-lacked m c f s inside;
          turns = after-turns free on;
          versions-bounded = version-bounded m c f s inside;
        };
      }
