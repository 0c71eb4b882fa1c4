-- The conditions of refusals, and a call that is lent the tables: refused where a condition holds, accepted where none does.
use Rattle.std.proofs.Common.{◌≡◌, ℕ, suc, ◌<◌, ◌≤◌, true, false, not, ◌&&◌, sym, refl, ap, ap₂, le-ltb, lt-ltb, eq-eqb}
use Rattle.one_core.specs.declared.Answer.TheVariants.{Refused}
use Rattle.one_core.specs.declared.refusal.Refusal.{Refusal}
use Rattle.one_core.specs.declared.refusal.Refusal.TheVariants.{WrongSize, Unsound, WrongTable, NoSuchCore, NoSuchObject, ListFull, NoJob, InProgress, NoneInProgress, TicketsSpent, Malformed}
use Rattle.one_core.specs.Refusal.{number}
use Rattle.machine.specs.declared.Machine.{Machine}
use Rattle.machine.specs.Sound.{sound}
use Rattle.machine.specs.Inside.{SoundWorld}
use Rattle.machine.specs.Rule.{World, Result, unless_lent, unsound, wrong_tables, no_such_core, no_such_object}

-- ---- the conditions of refusals

pub is_sound : (m : Machine) → sound m ≡ true → unsound m ≡ false
is_sound m s = ap not s

pub a-core : (m : Machine) (c : ℕ) → c < m.cores → no_such_core m c ≡ false
a-core m c h = ap not (lt-ltb c m.cores h)

pub no-core : (m : Machine) (c : ℕ) → m.cores ≤ c → no_such_core m c ≡ true
no-core m c h = ap not (le-ltb c m.cores h)

-- ---- a call that is lent the tables is refused where a condition holds, and accepted where none does

pub refused-lent : (w : World) (r n : ℕ) (done : Result) → r ≡ suc n → record { answer = Refused (suc n); world = w } ≡ unless_lent r w done
unfolding unless_lent
refused-lent w r n done e = sym (ap (λ (x : ℕ). unless_lent x w done) e)

pub accepted-lent : (w : World) (r : ℕ) (done : Result) → r ≡ 0 → done ≡ unless_lent r w done
unfolding unless_lent
accepted-lent w r done e = sym (ap (λ (x : ℕ). unless_lent x w done) e)

pub an-object : (m : Machine) (d : ℕ) → d < m.objects → no_such_object m d ≡ false
an-object m d h = ap not (lt-ltb d m.objects h)

pub no-object : (m : Machine) (d : ℕ) → m.objects ≤ d → no_such_object m d ≡ true
no-object m d h = ap not (le-ltb d m.objects h)

pub tables-fit : (w : World) → SoundWorld w → wrong_tables w ≡ false
tables-fit w f = ap not (ap₂ ◌&&◌ (eq-eqb _ _ f.committed_long) (eq-eqb _ _ f.pending_long))

-- refused for whatever reason
pub refused-by : (w : World) (done : Result) (r : Refusal) → record { answer = Refused (number r); world = w } ≡ unless_lent (number r) w done
unfolding unless_lent
refused-by w done WrongSize = refl
refused-by w done Unsound = refl
refused-by w done WrongTable = refl
refused-by w done NoSuchCore = refl
refused-by w done NoSuchObject = refl
refused-by w done ListFull = refl
refused-by w done NoJob = refl
refused-by w done InProgress = refl
refused-by w done NoneInProgress = refl
refused-by w done TicketsSpent = refl
refused-by w done Malformed = refl

pub refused-as : (w : World) (r why : Refusal) → r ≡ why
    → ◌≡◌ {A = Result} (record { answer = Refused (number r); world = w }) (record { answer = Refused (number why); world = w })
refused-as w r why e = ap (λ (x : Refusal). record { answer = Refused (number x); world = w }) e
