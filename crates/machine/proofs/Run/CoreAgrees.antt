-- The record of one core says what the words say of it.
use Rattle.std.proofs.Common.{◌≡◌, ℕ, ◌+◌, ◌^◌, ◌<◌, Bool, true, false, cond, not, ◌&&◌, ◌||◌, eqb, List, [], ◌∷◌, sym, refl, ap, ◌∙◌, ap₂, true≢false, zero-add, arith, eq-eqb, ne_eqb, eqb-true}
use mathlib.Core.Path.{fun_ext}
use mathlib.Core.Bool.{or_comm, or_assoc}
use borrow.Author.Tests.{eqb-false}
use Rattle.objset.specs.Objset.{has, some, none, added, meeting}
use Rattle.objset.proofs.Laws.{some_one, both_right, has-none, none-fits, filled-one, has-joined, has-added, added-fits}
use Rattle.one_core.specs.declared.Core.{Core}
use Rattle.one_core.specs.declared.Job.{Job}
use Rattle.one_core.specs.Parts.{data_set}
use Rattle.one_core.specs.Life.{with_list, with_sets, unmarked, aborted, is_read_only}
use Rattle.machine.specs.Words.{Deed, begins, reads, writes, waits, commits, told, gives, other, stores, stores_any, any, touched, wrote, wrote_nothing, crosses}
use Rattle.machine.proofs.Run.View.{View, further, Over}

pub record CoreAgrees (k : Core) (v : View) : Type 0 where
  pub same-going : k.active ≡ v.going
  pub same-order : v.going ≡ true → k.ticket ≡ v.order
  pub reads_fit : k.reads < 2 ^ 64
  pub writes_fit : k.writes < 2 ^ 64
  pub same_writes : (d : ℕ) → has k.writes d ≡ wrote v.tried d
  pub same-data : (d : ℕ) → (has k.reads d || has k.writes d) ≡ touched v.tried d
  pub same-hits : v.going ≡ true → k.aborts ≡ v.hits
  pub same-heard : v.going ≡ true → v.hits ≡ cond k.zombie 1 0 + v.heard
  pub zombie-empty : k.zombie ≡ true → v.tried ≡ []

-- a core with no sets, where no attempt is: its transaction is over, or none ever began
pub agrees-idle : (k : Core) (v : View) → k.active ≡ false → k.zombie ≡ false → k.reads ≡ none → k.writes ≡ none → Over v → CoreAgrees k v
unfolding wrote touched any
agrees-idle k v p z r w o =
    record {
      same-going = p ∙ sym o.0;
      same-order = λ g. absurd (true≢false (sym g ∙ o.0));
      reads_fit = rw r none-fits;
      writes_fit = rw w none-fits;
      same_writes = λ d. rw (w, o.1) (has-none d);
      same-data = λ d. rw (r, w, o.1, has-none d) refl;
      same-hits = λ g. absurd (true≢false (sym g ∙ o.0));
      same-heard = λ g. absurd (true≢false (sym g ∙ o.0));
      zombie-empty = λ g. absurd (true≢false (sym g ∙ z));
    }

mid-first : (p q r : Bool) → ((p || q) || r) ≡ (q || (p || r))
mid-first p q r = ap (λ b. b || r) (or_comm p q) ∙ or_assoc q p r

last-first : (p q r : Bool) → (p || (q || r)) ≡ (r || (p || q))
last-first p q r = sym (or_assoc p q r) ∙ or_comm (p || q) r

pub eqb-sym : (a b : ℕ) → eqb a b ≡ eqb b a
eqb-sym a b = go (eqb a b) refl
  where
    go : (q : Bool) → eqb a b ≡ q → q ≡ eqb b a
    go true t = sym (eq-eqb b a (sym (eqb-true a b t)))
    go false t = sym (ne_eqb b a (λ s. eqb-false a b t (sym s)))

-- another list of jobs changes nothing that the words speak of
pub agrees-list : (k : Core) (v : View) (jobs : List Job) (n : ℕ) → CoreAgrees k v → CoreAgrees (with_list k jobs n) v
agrees-list k v jobs n a =
    record {
      same-going = a.same-going;
      same-order = a.same-order;
      reads_fit = a.reads_fit;
      writes_fit = a.writes_fit;
      same_writes = a.same_writes;
      same-data = a.same-data;
      same-hits = a.same-hits;
      same-heard = a.same-heard;
      zombie-empty = a.zombie-empty;
    }

-- one read more
pub agrees-read : (k : Core) (v : View) (c d x : ℕ) → d < 64 → k.zombie ≡ false → CoreAgrees k v
    → CoreAgrees (with_sets k (added k.reads d) k.writes) (further (reads c d x) v)
unfolding wrote touched any
agrees-read k v c d x hd z a =
    record {
      same-going = a.same-going;
      same-order = a.same-order;
      reads_fit = added-fits k.reads d;
      writes_fit = a.writes_fit;
      same_writes = a.same_writes;
      same-data =
          λ e. ap (λ (b : Bool). b || has k.writes e) (has-added k.reads d e a.reads_fit hd)
          ∙ mid-first (has k.reads e) (eqb e d) (has k.writes e) ∙ ap₂ ◌||◌ (eqb-sym e d) (a.same-data e);
      same-hits = a.same-hits;
      same-heard = a.same-heard;
      zombie-empty = λ g. absurd (true≢false (sym g ∙ z));
    }

-- one write more
pub agrees-write : (k : Core) (v : View) (c d x : ℕ) → d < 64 → k.zombie ≡ false → CoreAgrees k v
    → CoreAgrees (with_sets k k.reads (added k.writes d)) (further (writes c d x) v)
unfolding wrote touched any
agrees-write k v c d x hd z a =
    record {
      same-going = a.same-going;
      same-order = a.same-order;
      reads_fit = a.reads_fit;
      writes_fit = added-fits k.writes d;
      same_writes =
          λ e. has-added k.writes d e a.writes_fit hd ∙ or_comm (has k.writes e) (eqb e d) ∙ ap₂ ◌||◌ (eqb-sym e d) (a.same_writes e);
      same-data =
          λ e. ap (λ (b : Bool). has k.reads e || b) (has-added k.writes d e a.writes_fit hd)
          ∙ last-first (has k.reads e) (has k.writes e) (eqb e d) ∙ ap₂ ◌||◌ (eqb-sym e d) (a.same-data e);
      same-hits = a.same-hits;
      same-heard = a.same-heard;
      zombie-empty = λ g. absurd (true≢false (sym g ∙ z));
    }

-- the sets meet where the attempts cross
pub meets-crosses : (k j : Core) (u v : View) → CoreAgrees k u → CoreAgrees j v → meeting k.writes (data_set j) ≡ crosses u.tried v.tried
unfolding meeting crosses
meets-crosses k j u v a b =
    ap (some 64) (fun_ext (λ d. ap₂ ◌&&◌ (a.same_writes d) (has-joined j.reads j.writes d b.reads_fit b.writes_fit ∙ b.same-data d)))

-- ---- a read-only attempt

store-any : (x : Deed) (d : ℕ) → stores x d ≡ true → stores_any x ≡ true
store-any (begins b) d p = p
store-any (reads b e v) d p = p
store-any (writes b e v) d p = refl
store-any (waits b e) d p = p
store-any (commits b n) d p = p
store-any (told b) d p = p
store-any (gives b) d p = p
store-any other d p = p

-- one that has written a card has written something
pub wrote-any : (a : List Deed) (d : ℕ) → wrote a d ≡ true → any stores_any a ≡ true
unfolding wrote any
wrote-any [] d p = p
wrote-any (x ∷ a) d p = go (stores x d) refl p (wrote-any a d)
  where
    go : (s : Bool) → stores x d ≡ s → (s || wrote a d) ≡ true → (wrote a d ≡ true → any stores_any a ≡ true) → (stores_any x || any stores_any a) ≡ true
    go true s q more = ap (λ (b : Bool). b || any stores_any a) (store-any x d s)
    go false s q more = ap (λ (b : Bool). stores_any x || b) (more q) ∙ or_comm (stores_any x) true

-- where the write set holds a card, the attempt has written something
pub writes-something : (k : Core) (v : View) → CoreAgrees k v → is_read_only k ≡ false → wrote_nothing v.tried ≡ false
unfolding wrote_nothing
writes-something k v a filled =
    let d = filled-one k.writes filled in
    ap not (wrote-any v.tried d.0 (sym (a.same_writes d.0) ∙ d.2))

-- a void attempt crosses nothing
pub void-crosses : (a b : List Deed) → b ≡ [] → crosses a b ≡ false
unfolding crosses touched any
void-crosses a b e = go (crosses a b) refl
  where
    go : (q : Bool) → crosses a b ≡ q → q ≡ false
    go true t = let m = some_one 64 (λ d. wrote a d && touched b d) t in sym (both_right (wrote a m.0) (touched b m.0) m.2) ∙ ap (λ (x : List Deed). touched x m.0) e
    go false t = refl

-- struck by another's commit
pub agrees-struck : (k : Core) (v : View) → k.zombie ≡ false → CoreAgrees k v
    → CoreAgrees (aborted k) (record { going = v.going; order = v.order; tried = []; hits = 1 + v.hits; heard = v.heard })
unfolding wrote touched any
agrees-struck k v z a =
    record {
      same-going = a.same-going;
      same-order = a.same-order;
      reads_fit = none-fits;
      writes_fit = none-fits;
      same_writes = has-none;
      same-data = λ d. rw (has-none d) refl;
      same-hits = λ g. omega (arith, a.same-hits g);
      same-heard = λ g. ap (λ (n : ℕ). 1 + n) (a.same-heard g ∙ ap (λ (b : Bool). cond b 1 0 + v.heard) z ∙ zero-add v.heard);
      zombie-empty = λ g. refl;
    }

-- told: the mark is taken away, one call more was answered set back
pub agrees-told : (k : Core) (v : View) → k.zombie ≡ true → CoreAgrees k v
    → CoreAgrees (unmarked k) (record { going = v.going; order = v.order; tried = v.tried; hits = v.hits; heard = 1 + v.heard })
agrees-told k v z a =
    record {
      same-going = a.same-going;
      same-order = a.same-order;
      reads_fit = a.reads_fit;
      writes_fit = a.writes_fit;
      same_writes = a.same_writes;
      same-data = a.same-data;
      same-hits = a.same-hits;
      same-heard = λ g. a.same-heard g ∙ ap (λ (b : Bool). cond b 1 0 + v.heard) z ∙ sym (zero-add (1 + v.heard));
      zombie-empty = λ g. absurd (true≢false (sym g));
    }

-- just begun
pub agrees-begun : (k : Core) (t : ℕ) → k.active ≡ true → k.ticket ≡ t → k.aborts ≡ 0 → k.zombie ≡ false → k.reads ≡ none → k.writes ≡ none
    → CoreAgrees k (record { going = true; order = t; tried = []; hits = 0; heard = 0 })
unfolding wrote touched any
agrees-begun k t p q n z r w =
    record {
      same-going = p;
      same-order = λ g. q;
      reads_fit = rw r none-fits;
      writes_fit = rw w none-fits;
      same_writes = λ d. rw w (has-none d);
      same-data = λ d. rw (r, w, has-none d) refl;
      same-hits = λ g. n;
      same-heard = λ g. rw z refl;
      zombie-empty = λ g. refl;
    }
