-- Lists of cores: the cores after a commit.
use Rattle.std.proofs.Common.{◌≡◌, ℕ, zero, suc, ◌+◌, ◌<◌, ◌≤◌, Bool, true, false, ◌&&◌, List, [], ◌∷◌, length, get_or, set, sym, refl, ap, ◌∙◌, ap₂, arith, eq-eqb, ne_eqb}
use mathlib.Core.Bool.{and-false}
use Rattle.objset.specs.Objset.{is_empty}
use Rattle.objset.proofs.Laws.{empty-meeting}
use Rattle.one_core.specs.declared.Core.{Core}
use Rattle.one_core.specs.Parts.{no_core, data_set}
use Rattle.one_core.specs.Life.{is_struck, aborted, struck_by, over}
use Rattle.one_core.proofs.LifeLaws.{struck-hit, struck-missed, struck-idle}
use Rattle.machine.specs.Rule.{cleared}
use Rattle.machine.specs.OneCore.{struck_all}
use Rattle.machine.proofs.Front.{Stands, stands-next, stands-stored, stands-kept, stands-all}

-- ---- the cores after a commit

pub strikes-long : (ws : ℕ) (cores : List Core) → length (struck_all ws cores) ≡ length cores
unfolding struck_all
strikes-long ws [] = refl
strikes-long ws (k ∷ ks) = ap suc (strikes-long ws ks)

pub strikes-at : (ws : ℕ) (cores : List Core) (e : ℕ) → e < length cores → get_or (struck_all ws cores) e no_core ≡ struck_by ws (get_or cores e no_core)
unfolding struck_all
strikes-at ws [] e l = absurd (omega arith)
strikes-at ws (k ∷ ks) zero l = refl
strikes-at ws (k ∷ ks) (suc e) l = strikes-at ws ks e (omega arith)

-- the empty write set strikes nobody
nobody-struck : (ws : ℕ) (k : Core) → is_empty ws ≡ true → k ≡ struck_by ws k
nobody-struck ws k e = struck-missed ws k (ap (λ (b : Bool). k.active && b) (empty-meeting ws (data_set k) e) ∙ and-false k.active)

pub strikes-none : (ws : ℕ) (cores : List Core) → is_empty ws ≡ true → struck_all ws cores ≡ cores
unfolding struck_all
strikes-none ws [] e = refl
strikes-none ws (k ∷ ks) e = ap₂ (λ (x : Core) (xs : List Core). x ∷ xs) (sym (nobody-struck ws k e)) (strikes-none ws ks e)

-- past core c every core is by `struck_by`
struck-past : (ws c i : ℕ) (cores : List Core) → c < i → cleared ws c i cores ≡ struck_all ws cores
unfolding cleared struck_all
struck-past ws c i [] h = refl
struck-past ws c i (k ∷ ks) h =
    rw (ne_eqb i c (λ e. omega arith)) (ap (λ (xs : List Core). struck_by ws k ∷ xs) (struck-past ws c (suc i) ks (omega arith)))

struck-from : (ws c i : ℕ) (cores : List Core) (e : ℕ) → i + e ≡ c → e < length cores
    → struck_all ws (set cores e (over (get_or cores e no_core))) ≡ cleared ws c i cores
unfolding cleared struck_all
struck-from ws c i [] e h l = absurd (omega arith)
struck-from ws c i (k ∷ ks) zero h l =
    let here : i ≡ c = omega arith in
    rw (eq-eqb i c here) (ap₂ (λ (x : Core) (xs : List Core). x ∷ xs) (sym (struck-idle ws (over k) refl)) (sym (struck-past ws c (suc i) ks (omega arith))))
struck-from ws c i (k ∷ ks) (suc e) h l =
    rw (ne_eqb i c (λ p. omega arith))
    (ap (λ (xs : List Core). struck_by ws k ∷ xs) (struck-from ws c (suc i) ks e (omega arith) (omega arith)))

-- the transaction of core c over, and every other by `struck_by`
pub strikes-cleared : (ws c : ℕ) (cores : List Core) → c < length cores
    → struck_all ws (set cores c (over (get_or cores c no_core))) ≡ cleared ws c 0 cores
strikes-cleared ws c cores l = struck-from ws c 0 cores c (omega arith) l

-- ---- the loop that strikes them, one core after another

module _ (ws : ℕ) (old : List Core) where
  module _ (e : ℕ) (now : List Core) (at : Stands e (struck_all ws old) old now) (l : e < length old) where
    -- the core whose turn it is is as it was
    pub strikes-next : get_or now e no_core ≡ get_or old e no_core
    strikes-next = stands-next (struck_all ws old) old (strikes-long ws old) e now no_core at l

    pub strikes-hit : (next : List Core) → is_struck ws (get_or now e no_core) ≡ true → next ≡ set now e (aborted (get_or now e no_core))
        → Stands (e + 1) (struck_all ws old) old next
    strikes-hit next h =
        stands-stored (struck_all ws old) old (strikes-long ws old) e now next no_core _ at l
        (struck-hit ws (get_or now e no_core) h ∙ ap (struck_by ws) strikes-next ∙ sym (strikes-at ws old e l))

    pub strikes-missed : (next : List Core) → is_struck ws (get_or now e no_core) ≡ false → next ≡ now → Stands (e + 1) (struck_all ws old) old next
    strikes-missed next h =
        stands-kept (struck_all ws old) old (strikes-long ws old) e now next no_core at l
        (sym strikes-next ∙ struck-missed ws (get_or now e no_core) h ∙ ap (struck_by ws) strikes-next ∙ sym (strikes-at ws old e l))

  -- the end is reached
  pub strikes-done : (n : ℕ) (now : List Core) → Stands n (struck_all ws old) old now → length old ≤ n → now ≡ struck_all ws old
  strikes-done n now at h =
      stands-all (struck_all ws old) old (strikes-long ws old) n now no_core at (λ e l p. absurd (omega arith))
