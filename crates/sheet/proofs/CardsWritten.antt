-- How the cards of a task are written, and that they read as the set that they were.
use Rattle.std.specs.Str.{bytes_eq}
use Rattle.std.specs.Prelude.{Option, None, Some}
use mathlib.Core.Path.{◌≡◌, refl, sym, ap, ap₂, ◌∙◌}
use mathlib.Core.Bool.{Bool, true, false, cond, ◌&&◌, ◌||◌, and-true, and-false, or-true, or-false, and-eq-true_iff}
use mathlib.Core.List.{List, [], ◌∷◌, ◌++◌, map, append-nil}
use Prim.Native.Nat.{ℕ, zero, suc, ◌+◌, ◌*◌, ◌^◌, ◌≤◌, ◌<◌}
use native.Mathlib.Omega.{arith}
use lib.Dec.{eqb, leb, ltb}
use lib.ListN.{length, length-append}
use borrow.Author.Tests.{leb-true, le-leb, ltb-true, ltb-false, lt-ltb, le-ltb, eqb-true, eqb-false, ne_eqb}
use Rattle.decimal.specs.Bytes.{byte, ascii}
use Rattle.decimal.specs.Spelling.{spelling}
use Rattle.decimal.specs.Reading.{largest, all_digits, is_number, read_as_number}
use Rattle.decimal.proofs.Laws.{spelling-length}
use Rattle.decimal.proofs.RoundTrip.{reads-spelling}
use Rattle.objset.specs.Objset.{most_objects, has, none, added}
use Rattle.objset.proofs.Laws.{same-members, has-none, has-added, added-fits, none-zero}
use Rattle.table.specs.Pieces.{pieces, free}
use Rattle.table.proofs.Laws.{first, others, pieces-begun, pieces-cut}
use Rattle.sheet.specs.Sheet.{rising, card_list}

-- ---- how a set of cards is written

-- the members of a set among so many objects, the first of them d, rising
unfoldable pub members_from : ℕ → ℕ → ℕ → List ℕ
members_from s zero d = []
members_from s (suc n) d = cond (has s d) (d ∷ members_from s n (suc d)) (members_from s n (suc d))

-- numbers, a comma before each
unfoldable pub with_commas : List ℕ → List ℕ
with_commas [] = []
with_commas (d ∷ ds) = byte "," ∷ spelling d ++ with_commas ds

-- a comma list, or `-`
unfoldable pub list_written : List ℕ → List ℕ
list_written [] = ascii "-"
list_written (d ∷ ds) = spelling d ++ with_commas ds

-- the cards of a task
unfoldable pub cards_written : ℕ → List ℕ
cards_written s = list_written (members_from s most_objects 0)

-- ---- bytes from one to another

-- whether each byte is from `low` to `high`
unfoldable pub within : ℕ → ℕ → List ℕ → Bool
within low high [] = true
within low high (b ∷ bs) = (leb low b && leb b high) && within low high bs

module _ (low high : ℕ) where
  pub within_first : (b : ℕ) (bs : List ℕ) → within low high (b ∷ bs) ≡ true → (low ≤ b) × (b ≤ high) × (within low high bs ≡ true)
  unfolding within
  within_first b bs e =
      let k = (and-eq-true_iff (leb low b && leb b high) (within low high bs)).0 e in
      let l = (and-eq-true_iff (leb low b) (leb b high)).0 k.0 in
      (leb-true low b l.0, leb-true b high l.1, k.1)

  pub within-one : (b : ℕ) (bs : List ℕ) → low ≤ b → b ≤ high → within low high bs ≡ true → within low high (b ∷ bs) ≡ true
  unfolding within
  within-one b bs l h e = rw (le-leb low b l, le-leb b high h, e)

  pub within_both : (p q : List ℕ) → within low high p ≡ true → within low high q ≡ true → within low high (p ++ q) ≡ true
  unfolding within
  within_both [] q e f = f
  within_both (b ∷ p) q e f = let k = within_first b p e in within-one b (p ++ q) k.0 k.1 (within_both p q k.2 f)

  -- so from any less to any more
  pub within_wider : (less more : ℕ) → less ≤ low → high ≤ more → (p : List ℕ) → within low high p ≡ true → within less more p ≡ true
  unfolding within
  within_wider less more l h [] e = refl
  within_wider less more l h (b ∷ p) e =
      let k = within_first b p e in
      rw (le-leb less b (omega (arith, k.0)), le-leb b more (omega (arith, k.1)), within_wider less more l h p k.2)

  -- a byte below them is none of them
  pub within-free : (at : ℕ) → at < low → (p : List ℕ) → within low high p ≡ true → free at p ≡ true
  unfolding free
  within-free at h [] e = refl
  within-free at h (b ∷ p) e =
      let k = within_first b p e in
      rw (ne_eqb b at (λ q. omega (arith, k.0)), within-free at h p k.2)

-- ---- a spelling has only digits

no-digits : (field : List ℕ) (n : ℕ) (t : Bool) → all_digits field ≡ t → read_as_number field ≡ Some n → t ≡ true
unfolding read_as_number is_number
no-digits field n true e r = refl
no-digits field n false e r =
    let none : ◌≡◌ {A = Option ℕ} None (Some n) = sym (rw e) ∙ r in
    let z : ◌≡◌ {A = ℕ} 0 1 = cc in absurd (omega arith)

spelling-digits : (n : ℕ) → n ≤ largest → all_digits (spelling n) ≡ true
spelling-digits n h = no-digits (spelling n) n (all_digits (spelling n)) refl (reads-spelling n h)

digits-within : (p : List ℕ) → all_digits p ≡ within 48 57 p
unfolding all_digits within
digits-within [] = refl
digits-within (b ∷ p) = ap (λ (r : Bool). (leb 48 b && leb b 57) && r) (digits-within p)

pub spelling-within : (n : ℕ) → n ≤ largest → within 48 57 (spelling n) ≡ true
spelling-within n h = sym (digits-within (spelling n)) ∙ spelling-digits n h

-- ---- numbers below 64

abbrev AreCards : List ℕ → Type 0
AreCards [] = Unit {0}
AreCards (d ∷ ds) = (d < most_objects) × AreCards ds

members-cards : (s n d : ℕ) → n + d ≡ most_objects → AreCards (members_from s n d)
unfolding members_from
members-cards s zero d h = tt
members-cards s (suc n) d h = go (has s d) (members-cards s n (suc d) (omega arith))
  where
    go : (t : Bool) → AreCards (members_from s n (suc d)) → AreCards (cond t (d ∷ members_from s n (suc d)) (members_from s n (suc d)))
    go true more = (omega arith, more)
    go false more = more

members-few : (s n d : ℕ) → length (members_from s n d) ≤ n
unfolding members_from
members-few s zero d = omega arith
members-few s (suc n) d = go (has s d) (members-few s n (suc d))
  where
    go : (t : Bool) → length (members_from s n (suc d)) ≤ n → length (cond t (d ∷ members_from s n (suc d)) (members_from s n (suc d))) ≤ suc n
    go true more = omega (arith, more)
    go false more = omega (arith, more)

-- ---- the numbers that are written are read

no-comma : (d : ℕ) → d < most_objects → free (byte ",") (spelling d) ≡ true
no-comma d h = within-free 48 57 44 (omega arith) (spelling d) (spelling-within d (omega arith))

list-pieces : (d : ℕ) (ds : List ℕ) → AreCards (d ∷ ds) → pieces (byte ",") (spelling d ++ with_commas ds) ≡ map spelling (d ∷ ds)
unfolding with_commas pieces first others
list-pieces d [] h =
    pieces-begun 44 (spelling d) [] (no-comma d h.0) ∙ rw append-nil
list-pieces d (e ∷ ds) h =
    pieces-cut 44 (spelling d) (spelling e ++ with_commas ds) (no-comma d h.0)
    ∙ ap (λ (ps : List (List ℕ)). spelling d ∷ ps) (list-pieces e ds h.1)

read_back : (ds : List ℕ) → AreCards ds → map read_as_number (map spelling ds) ≡ map Some ds
read_back [] h = refl
read_back (d ∷ ds) h = ap₂ (λ (n : Option ℕ) (ns : List (Option ℕ)). n ∷ ns) (reads-spelling d (omega (arith, h.0))) (read_back ds h.1)

not-dash : (p q : List ℕ) → 1 ≤ length p → within 48 57 p ≡ true → bytes_eq (p ++ q) (ascii "-") ≡ false
not-dash [] q h e = absurd (omega arith)
not-dash (b ∷ p) q h e = let k = within_first 48 57 b p e in rw (ne_eqb b 45 (λ q. omega (arith, k.0)))

list_read : (ds : List ℕ) → AreCards ds → card_list (list_written ds) ≡ rising 0 none (map Some ds)
unfolding card_list list_written rising
list_read [] h = refl
list_read (d ∷ ds) h =
    rw (not-dash (spelling d) (with_commas ds) (spelling-length d).0 (spelling-within d (omega (arith, h.0))), list-pieces d ds h, read_back (d ∷ ds) h)

-- ---- the members of a set are that set

-- what is not d is below d + 1 where it is below d
ltb_next : (e d : ℕ) → (e ≡ d → ⊥) → ltb e d ≡ ltb e (suc d)
ltb_next e d h = go (ltb e d) refl
  where
    go : (t : Bool) → ltb e d ≡ t → t ≡ ltb e (suc d)
    go true t = let l = ltb-true e d t in sym (lt-ltb e (suc d) (omega arith))
    go false t = let l = ltb-false e d t in sym (le-ltb e (suc d) (omega arith))

-- the members below d, and d where it is one, are those below d + 1
with-member : (s d e : ℕ) → has s d ≡ true → ((has s e && ltb e d) || eqb e d) ≡ (has s e && ltb e (suc d))
with-member s d e m = go (eqb e d) refl
  where
    go : (t : Bool) → eqb e d ≡ t → ((has s e && ltb e d) || t) ≡ (has s e && ltb e (suc d))
    go true t =
        let here = eqb-true e d t in
        let below : e < suc d = omega arith in
        let there : has s e ≡ true = ap (has s) here ∙ m in
        rw (there, lt-ltb e (suc d) below) (or-true (ltb e d))
    go false t = or-false (has s e && ltb e d) ∙ ap (λ (b : Bool). has s e && b) (ltb_next e d (eqb-false e d t))

without-member : (s d e : ℕ) → has s d ≡ false → (has s e && ltb e d) ≡ (has s e && ltb e (suc d))
without-member s d e m = go (eqb e d) refl
  where
    go : (t : Bool) → eqb e d ≡ t → (has s e && ltb e d) ≡ (has s e && ltb e (suc d))
    go true t = let there : has s e ≡ false = ap (has s) (eqb-true e d t) ∙ m in rw there
    go false t = ap (λ (b : Bool). has s e && b) (ltb_next e d (eqb-false e d t))

module _ (s : ℕ) (set : s < 2 ^ 64) where
  -- t has the members of s below d, and those from d on are added
  members-read : (n d least t : ℕ) → n + d ≡ most_objects → least ≤ d → t < 2 ^ 64 → ((e : ℕ) → has t e ≡ (has s e && ltb e d))
      → rising least t (map Some (members_from s n d)) ≡ Some s
  unfolding members_from rising
  members-read zero d least t h l fits so_far =
      ap Some (same-members t s fits set (λ e k. so_far e ∙ rw (lt-ltb e d (omega (arith, k))) (and-true (has s e))))
  members-read (suc n) d least t h l fits so_far =
      go (has s d) refl
      (λ q. members-read n (suc d) (suc d) (added t d) (omega arith) (omega arith) (added-fits t d)
      (λ e. has-added t d e fits in-64 ∙ rw (so_far e) (with-member s d e q)))
      (λ q. members-read n (suc d) least t (omega arith) (omega arith) fits (λ e. so_far e ∙ without-member s d e q))
    where
      in-64 : d < most_objects
      in-64 = omega arith

      go : (q : Bool) → has s d ≡ q
          → (has s d ≡ true → rising (suc d) (added t d) (map Some (members_from s n (suc d))) ≡ Some s)
          → (has s d ≡ false → rising least t (map Some (members_from s n (suc d))) ≡ Some s)
          → rising least t (map Some (cond q (d ∷ members_from s n (suc d)) (members_from s n (suc d)))) ≡ Some s
      go true q with-d without-d = rw (le-leb least d l, lt-ltb d most_objects in-64) (with-d q)
      go false q with-d without-d = without-d q

  -- the cards of a task are read as they were written
  pub cards-read : card_list (cards_written s) ≡ Some s
  unfolding cards_written
  cards-read =
      list_read (members_from s most_objects 0) (members-cards s most_objects 0 refl)
      ∙ members-read most_objects 0 0 none refl (omega arith) (rw none-zero (omega arith))
      (λ e. has-none e ∙ sym (rw (le-ltb e 0 (omega arith)) (and-false (has s e))))

-- ---- what is written has bytes from `,` to `9`, at most 705

card-first : (d : ℕ) (ds : List ℕ) → AreCards (d ∷ ds) → within 44 57 (with_commas ds) ≡ true → within 44 57 (spelling d ++ with_commas ds) ≡ true
card-first d ds h e =
    within_both 44 57 (spelling d) (with_commas ds)
    (within_wider 48 57 44 57 (omega arith) (omega arith) (spelling d) (spelling-within d (omega (arith, h.0)))) e

commas-within : (ds : List ℕ) → AreCards ds → within 44 57 (with_commas ds) ≡ true
unfolding with_commas within
commas-within [] h = refl
commas-within (d ∷ ds) h = within-one 44 57 44 (spelling d ++ with_commas ds) (omega arith) (omega arith) (card-first d ds h (commas-within ds h.1))

list-within : (ds : List ℕ) → AreCards ds → within 44 57 (list_written ds) ≡ true
unfolding list_written within
list-within [] h = refl
list-within (d ∷ ds) h = card-first d ds h (commas-within ds h.1)

pub cards-within : (s : ℕ) → within 44 57 (cards_written s) ≡ true
unfolding cards_written
cards-within s = list-within (members_from s most_objects 0) (members-cards s most_objects 0 refl)

commas-length : (ds : List ℕ) → length (with_commas ds) ≤ 11 * length ds
unfolding with_commas
commas-length [] = omega arith
commas-length (d ∷ ds) = omega (arith, length-append (spelling d) (with_commas ds), (spelling-length d).1, commas-length ds)

list_length : (ds : List ℕ) → length (list_written ds) ≤ 11 * length ds + 1
unfolding list_written
list_length [] = omega arith
list_length (d ∷ ds) = omega (arith, length-append (spelling d) (with_commas ds), (spelling-length d).1, commas-length ds)

pub cards-length : (s : ℕ) → length (cards_written s) ≤ 705
unfolding cards_written
cards-length s = omega (arith, list_length (members_from s most_objects 0), members-few s most_objects 0)
