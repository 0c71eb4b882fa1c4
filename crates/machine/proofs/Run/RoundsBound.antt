-- How many rounds a transaction T can be in progress. In each round the eldest in progress, which is T or one of those before it,
-- acts, and each act ends it or takes it one step on in an attempt that nobody strikes.
use Rattle.std.proofs.Common.{◌≡◌, ℕ, suc, ◌+◌, ◌*◌, ◌<◌, ◌≤◌, Bool, true, false, ◌&&◌, ◌||◌, leb, List, [], ◌∷◌, ◌++◌, length, refl, ap, ap₂, mul-le-mul_left, mul-suc, arith, le-leb, leb-true}
use Rattle.objset.proofs.Laws.{both_left, both_right, each-one}
use Rattle.machine.specs.Record.{tally}
use Rattle.machine.specs.Words.{Deed, ends_on, acts_on, in_progress, births, born, any, attempt}
use Rattle.machine.specs.Rounds.{Rounds, no_round, between, one_round, among, is_round}
use Rattle.machine.proofs.Run.Orderly.{Orderly}
use Rattle.machine.proofs.Tally.{tally-more, tally-less, tally-some}
use Rattle.machine.proofs.Run.Births.{clash, ended, births-grow, born-below, core-below, older-kept}
use Rattle.machine.proofs.Run.Eldest.{Eldest, some-eldest, spent, spent-at-most, Acted, ends, spends, eldest-kept, eldest-acts, eldest-rests}

-- ---- T and those before it

is_among : (t : ℕ) (h : List Deed) (b : ℕ) → in_progress h b ≡ true → born h b ≤ t → among t h b ≡ true
unfolding among
is_among t h b p l = ap₂ ◌&&◌ p (le-leb (born h b) t l)

pub among-going : (t : ℕ) (h : List Deed) (b : ℕ) → among t h b ≡ true → in_progress h b ≡ true
unfolding among
among-going t h b e = both_left (in_progress h b) (leb (born h b) t) e

among-born : (t : ℕ) (h : List Deed) (b : ℕ) → among t h b ≡ true → born h b ≤ t
unfolding among
among-born t h b e = leb-true (born h b) t (both_right (in_progress h b) (leb (born h b) t) e)

-- after T's begin no deed adds one
among-kept : (t : ℕ) (x : Deed) (h : List Deed) → t < births h → (b : ℕ) → among t (x ∷ h) b ≡ true → among t h b ≡ true
among-kept t x h l b e =
    let early = among-born t (x ∷ h) b e in
    let old = older-kept x h b (among-going t (x ∷ h) b e) (omega arith) in
    is_among t h b old.0 (omega arith)

ended-not-among : (t : ℕ) (x : Deed) (h : List Deed) (b : ℕ) → ends_on x b ≡ true → among t (x ∷ h) b ≡ false
unfolding among
ended-not-among t x h b e = rw (ended x h b e)

-- ---- a moment at which T is in progress

-- T is number t on core c, o the number of cards; `width` bounds what the attempts of T and of those before it can spend
module _ (o width t c : ℕ) where
  pub record Moment (h : List Deed) : Type 0 where
    pub orderly : Orderly o h
    pub going : in_progress h c ≡ true
    pub number : born h c ≡ t
    pub short : (b : ℕ) → among t h b ≡ true → suc (length (attempt h b)) < width

  -- T has begun
  has-begun : (h : List Deed) → Moment h → t < births h
  has-begun h m = omega (arith, born-below h c m.going, m.number)

  eldest-among : (h : List Deed) (u : ℕ) → Moment h → Eldest h u → among t h u ≡ true
  eldest-among h u m old = is_among t h u old.going (omega (arith, old.eldest c m.going, m.number))

  eldest-spent : (h : List Deed) (u : ℕ) → Moment h → Eldest h u → spent h u < width
  eldest-spent h u m old = omega (arith, spent-at-most h u, m.short u (eldest-among h u m old))

  -- every moment of the list from T's begin on
  abbrev pub Steady : List Deed → Type 0
  Steady h = (late m : List Deed) → h ≡ late ++ m → t < births m → Moment m

  steady-before : (x : Deed) (h : List Deed) → Steady (x ∷ h) → Steady h
  steady-before x h s late m e l = s (x ∷ late) m (ap (λ r. x ∷ r) e) l

  steady-next : (x : Deed) (h : List Deed) → Steady (x ∷ h) → t < births h → Moment (x ∷ h)
  steady-next x h s l = s [] (x ∷ h) refl (omega (arith, births-grow x h))

  steady-early : (late h : List Deed) → Steady (late ++ h) → Steady h
  steady-early [] h s = s
  steady-early (x ∷ late) h s = steady-early late h (steady-before x (late ++ h) s)

  -- ---- the bound, and that each deed keeps it

  module _ (total : ℕ) where
    -- the bound after n rounds: each of those still in progress may take `width` rounds, less what the eldest, on core u, has spent
    record Standing (n : ℕ) (h : List Deed) (u : ℕ) : Type 0 where
      moment : Moment h
      eldest : Eldest h u
      bound : n + width * tally 16 (among t h) ≤ total + spent h u

    module _ (n : ℕ) (x : Deed) (h : List Deed) (u : ℕ) (now : Standing n h u) (next : Moment (x ∷ h)) where
      fewer : (b : ℕ) → among t (x ∷ h) b ≡ true → among t h b ≡ true
      fewer = among-kept t x h (has-begun h now.moment)

      no_more : width * tally 16 (among t (x ∷ h)) ≤ width * tally 16 (among t h)
      no_more = mul-le-mul_left width (tally-more 16 (among t (x ∷ h)) (among t h) (λ b l. fewer b))

      -- the eldest ends: the others have less left, by more than it had spent
      after-end : ends_on x u ≡ true → (v : ℕ) × Standing (suc n) (x ∷ h) v
      after-end e =
          let (v, old) = some-eldest o (x ∷ h) c next.orderly next.going in
          let is-core = core-below o h u now.moment.orderly now.eldest.going in
          let here = eldest-among h u now.moment now.eldest in
          let one_less = tally-less 16 (among t (x ∷ h)) (among t h) u is-core (ended-not-among t x h u e) here (λ b l. fewer b) in
          let saved = mul-le-mul_left width one_less in
          let split = mul-suc width (tally 16 (among t (x ∷ h))) in
          (v, record { moment = next; eldest = old; bound = omega (arith, now.bound, eldest-spent h u now.moment now.eldest) })

      after-act : acts_on x u ≡ true → (v : ℕ) × Standing (suc n) (x ∷ h) v
      after-act e = go (eldest-acts o x h u next.orderly.0 now.eldest e)
        where
          go : Acted x h u → (v : ℕ) × Standing (suc n) (x ∷ h) v
          go (ends f) = after-end f
          go (spends f s) =
              (u, record { moment = next; eldest = eldest-kept o x h u next.orderly.0 now.eldest f; bound = omega (arith, now.bound, no_more) })

      after-rest : acts_on x u ≡ false → Standing n (x ∷ h) u
      after-rest e =
          let (old, same) = eldest-rests o x h u next.orderly.0 now.eldest e in
          record { moment = next; eldest = old; bound = omega (arith, now.bound, no_more) }

      after : (v : ℕ) × Standing n (x ∷ h) v
      after = go (acts_on x u) refl
        where
          go : (b : Bool) → acts_on x u ≡ b → (v : ℕ) × Standing n (x ∷ h) v
          go true e =
              let (v, s) = after-act e in
              (v, record { moment = next; eldest = s.eldest; bound = omega (arith, s.bound) })
          go false e = (u, after-rest e)

    -- ---- after a stretch and after rounds

    -- the eldest on core u has acted in the stretch, or it stands as it stood
    data Stretched (n : ℕ) (h : List Deed) (u : ℕ) (stretch : List Deed) : Type 0 where
      acted : (v : ℕ) → Standing (suc n) (stretch ++ h) v → Stretched n h u stretch
      rested : any (λ x. acts_on x u) stretch ≡ false → Standing n (stretch ++ h) u → Stretched n h u stretch

    after-stretch : (n : ℕ) (h : List Deed) (u : ℕ) → Standing n h u → (stretch : List Deed) → Steady (stretch ++ h)
        → Stretched n h u stretch
    unfolding any
    after-stretch n h u now [] s = rested refl now
    after-stretch n h u now (x ∷ stretch) s = go (after-stretch n h u now stretch (steady-before x (stretch ++ h) s))
      where
        next : (k v : ℕ) → Standing k (stretch ++ h) v → Moment (x ∷ stretch ++ h)
        next k v m = steady-next x (stretch ++ h) s (has-begun (stretch ++ h) m.moment)

        go : Stretched n h u stretch → Stretched n h u (x ∷ stretch)
        go (acted v m) = let (w, r) = after (suc n) x (stretch ++ h) v m (next (suc n) v m) in acted w r
        go (rested e m) = by-act (acts_on x u) refl
          where
            by-act : (b : Bool) → acts_on x u ≡ b → Stretched n h u (x ∷ stretch)
            by-act true f = let (w, r) = after-act n x (stretch ++ h) u m (next n u m) f in acted w r
            by-act false f = rested (ap₂ ◌||◌ f e) (after-rest n x (stretch ++ h) u m (next n u m) f)

    -- in a round the eldest acts
    round-acts : (h stretch : List Deed) (u : ℕ) → Moment h → Eldest h u → is_round t h stretch ≡ true
        → any (λ x. acts_on x u) stretch ≡ true
    unfolding is_round
    round-acts h stretch u m old e = rw (eldest-among h u m old) at (each-one 16 _ e u (core-below o h u m.orderly old.going))

    after-rounds : {start : List Deed} {n : ℕ} {h : List Deed} → (u : ℕ) × Standing 0 start u → Rounds t start n h → Steady h
        → (u : ℕ) × Standing n h u
    after-rounds first no_round s = first
    after-rounds first (between {n} {h} x r) s =
        let (u, now) = after-rounds first r (steady-before x h s) in
        after n x h u now (steady-next x h s (has-begun h now.moment))
    after-rounds first (one_round {n} {h} stretch r e) s =
        let (u, now) = after-rounds first r (steady-early stretch h s) in
        go u now (after-stretch n h u now stretch s)
      where
        go : (u : ℕ) → Standing n h u → Stretched n h u stretch → (v : ℕ) × Standing (suc n) (stretch ++ h) v
        go u now (acted v m) = (v, m)
        go u now (rested f m) = clash (round-acts h stretch u now.moment now.eldest e) f

    -- if `width` rounds for T and for each of those before it make at most `total`, T is not in progress after `total` rounds
    pub out-of-rounds : {start h : List Deed} → Moment start → width * tally 16 (among t start) ≤ total → Rounds t start total h
        → Steady h → ⊥
    out-of-rounds {start} {h} m fits r s =
        let (v, old) = some-eldest o start c m.orderly m.going in
        let (u, now) = after-rounds (v, record { moment = m; eldest = old; bound = omega arith }) r s in
        let here = is_among t h c now.moment.going (omega (arith, now.moment.number)) in
        let counted = tally-some 16 (among t h) c (core-below o h c now.moment.orderly now.moment.going) here in
        omega (arith, now.bound, mul-le-mul_left width counted, eldest-spent h u now.moment now.eldest)
