-- Setup, lent as many words of the two tables as it asks for.
use Rattle.std.proofs.Common.{◌≡◌, ℕ, ◌*◌, ◌≤◌, Bool, true, false, not, ◌&&◌, eqb, List, [], ◌∷◌, ◌++◌, length, take, drop, replicate, sym, refl, ap, ◌∙◌, subst, inl, inr, mul-le-mul, length-take-le, eq-eqb}
use lib.ListN.{length-replicate}
use lib.Seq.{length_front}
use Rattle.machine.specs.Record.{blank, machine_of, sizes_in_range}
use Rattle.machine.specs.Rule.{Result, lent, left, setup, unless_lent, misfit}
use Rattle.one_core.specs.Calls.{first}
use Rattle.machine.specs.declared.Outcome.{Outcome}
use Rattle.one_core.specs.declared.Answer.TheVariants.{Ready, Refused}
use Rattle.machine.specs.Inside.{WellFormedWorld}
use Rattle.machine.proofs.InsideLaws.{setup-left}
use Rattle.machine.proofs.Sound.Passed.{in-range}
use Rattle.runner.specs.Kept.{held, overlaid, BlankOrSound}
use Rattle.runner.specs.Listing.{set_up}
use Rattle.runner.proofs.Acts.{front-held}
use Rattle.runner.proofs.Over.{over-front}

-- what an accepted setup leaves
abbrev new : ℕ → ℕ → Result
new cores cards =
    record {
      answer = Ready;
      world = record { machine = machine_of cores cards; committed = replicate cards 0; pending = replicate (cores * cards) 0 };
    }

-- the numbers are in range
pub few-cards : (cores cards : ℕ) → sizes_in_range cores cards ≡ true → (cores ≤ 16) × (cards ≤ 64)
few-cards cores cards e = let r = in-range cores cards e in (r.1, r.3)

pub few_words : (cores cards : ℕ) → cores ≤ 16 → cards ≤ 64 → cores * cards ≤ 1024
few_words cores cards a b = mul-le-mul a b

accepted : (cores cards : ℕ) (cs ps : List ℕ) → sizes_in_range cores cards ≡ true → length cs ≡ cards → length ps ≡ cores * cards
    → setup cores cards cs ps ≡ new cores cards
unfolding setup
accepted cores cards cs ps e c p =
    go (sizes_in_range cores cards) e (eqb (length cs) cards) (eq-eqb (length cs) cards c) (eqb (length ps) (cores * cards))
    (eq-eqb (length ps) (cores * cards) p)
  where
    go : (a : Bool) → a ≡ true → (b : Bool) → b ≡ true → (d : Bool) → d ≡ true
        → unless_lent (first ((not a, 1) ∷ (not (b && d), 3) ∷ [])) (lent blank cs ps) (new cores cards) ≡ new cores cards
    go true i true j true k = unfold first unless_lent in refl
    go true i true j false k = cc
    go true i false j d k = cc
    go false i b j d k = cc

-- out of range it is refused, whatever it is lent
refused : (cores cards : ℕ) (cs ps : List ℕ) → sizes_in_range cores cards ≡ false
    → setup cores cards cs ps ≡ record { answer = Refused 1; world = lent blank cs ps }
unfolding setup
refused cores cards cs ps e = go (sizes_in_range cores cards) e
  where
    go : (a : Bool) → a ≡ false
        → unless_lent (first ((not a, 1) ∷ (misfit cores cards cs ps, 3) ∷ [])) (lent blank cs ps) (new cores cards)
        ≡ record { answer = Refused 1; world = lent blank cs ps }
    go true i = cc
    go false i = unfold first unless_lent in refl

-- what set_up promises
abbrev pub Done : List ℕ → List ℕ → ℕ → ℕ → Outcome → List ℕ → List ℕ → Type 0
Done cs₀ ps₀ cores cards r cs ps =
    (r.answer ≡ (set_up cores cards).answer)
    × ((held r.machine cs ps ≡ (set_up cores cards).world)
    × (BlankOrSound r.machine cs ps × ((cs ≡ overlaid (set_up cores cards).world.committed cs₀) × (ps ≡ overlaid (set_up cores cards).world.pending ps₀))))

set-up-new : (cores cards : ℕ) → sizes_in_range cores cards ≡ true → set_up cores cards ≡ new cores cards
unfolding set_up
set-up-new cores cards e =
    rw e
    (accepted cores cards (replicate cards 0) (replicate (cores * cards) 0) e (length-replicate cards 0) (length-replicate (cores * cards) 0))

pub set-up-refused : (cores cards : ℕ) → sizes_in_range cores cards ≡ false → set_up cores cards ≡ record { answer = Refused 1; world = lent blank [] [] }
unfolding set_up
set-up-refused cores cards e = rw e (refused cores cards [] [] e)

module _ (cores cards : ℕ) (cs ps : List ℕ) (cl : length cs ≡ 64) (pl : length ps ≡ 1024) (r : Outcome) (cs' ps' : List ℕ) where
  pub set-up-accepts : sizes_in_range cores cards ≡ true → length cs' ≡ length (take cards cs) → length ps' ≡ length (take (cores * cards) ps)
      → left r cs' ps' ≡ setup cores cards (take cards cs) (take (cores * cards) ps)
      → Done cs ps cores cards r (cs' ++ drop cards cs) (ps' ++ drop (cores * cards) ps)
  set-up-accepts e cl' pl' s =
      let few = few-cards cores cards e in
      let c = length-take-le cards cs (subst (λ (n : ℕ). cards ≤ n) (sym cl) few.1) in
      let p = length-take-le (cores * cards) ps (subst (λ (n : ℕ). cores * cards ≤ n) (sym pl) (few_words cores cards few.0 few.1)) in
      let made = s ∙ accepted cores cards (take cards cs) (take (cores * cards) ps) e c p ∙ sym (set-up-new cores cards e) in
      let ready = ap (λ (x : Result). x.answer) (s ∙ accepted cores cards (take cards cs) (take (cores * cards) ps) e c p) in
      let g = setup-left cores cards (take cards cs) (take (cores * cards) ps) r cs' ps' s ready in
      let front = front-held r.machine cs' ps' (drop cards cs) (drop (cores * cards) ps) g in (
        ap (λ (x : Result). x.answer) made,
        (
          front ∙ ap (λ (x : Result). x.world) made,
          (
            record {
              committed_long = length_front cs cs' cards cl' ∙ cl;
              pending_long = length_front ps ps' (cores * cards) pl' ∙ pl;
              blank_or_well_formed = inr (subst WellFormedWorld (sym front) g);
            },
            (
              over-front cards cs cs' _ cl' (ap (λ (x : Result). x.world.committed) made),
              over-front (cores * cards) ps ps' _ pl' (ap (λ (x : Result). x.world.pending) made),
            ),
          ),
        ),
      )

  pub set-up-refuses : sizes_in_range cores cards ≡ false → length cs' ≡ length (take 0 cs) → length ps' ≡ length (take 0 ps)
      → left r cs' ps' ≡ setup cores cards (take 0 cs) (take 0 ps) → Done cs ps cores cards r (cs' ++ drop 0 cs) (ps' ++ drop 0 ps)
  set-up-refuses e cl' pl' s =
      let none = s ∙ refused cores cards (take 0 cs) (take 0 ps) e in
      let blanked = ap (λ (x : Result). x.world.machine) none in
      let to = set-up-refused cores cards e in (
        ap (λ (x : Result). x.answer) none ∙ sym (ap (λ (x : Result). x.answer) to),
        (
          ap (λ m. held m (cs' ++ drop 0 cs) (ps' ++ drop 0 ps)) blanked ∙ sym (ap (λ (x : Result). x.world) to),
          (
            record {
              committed_long = length_front cs cs' 0 cl' ∙ cl;
              pending_long = length_front ps ps' 0 pl' ∙ pl;
              blank_or_well_formed = inl blanked;
            },
            (
              over-front 0 cs cs' _ cl' (ap (λ (x : Result). x.world.committed) (none ∙ sym to)),
              over-front 0 ps ps' _ pl' (ap (λ (x : Result). x.world.pending) (none ∙ sym to)),
            ),
          ),
        ),
      )

  -- the words that are lent: as many as it asks for, or none
  abbrev Leaves : ℕ × ℕ → Type 0
  Leaves x =
      length cs' ≡ length (take x.1 cs) → length ps' ≡ length (take (x.0 * x.1) ps)
      → left r cs' ps' ≡ setup cores cards (take x.1 cs) (take (x.0 * x.1) ps)
      → Done cs ps cores cards r (cs' ++ drop x.1 cs) (ps' ++ drop (x.0 * x.1) ps)

  pub lent-accepts : (x : ℕ × ℕ) → x ≡ (cores, cards) → sizes_in_range cores cards ≡ true → Leaves x
  lent-accepts x same e = subst Leaves (sym same) (set-up-accepts e)

  pub lent-refuses : (x : ℕ × ℕ) → x ≡ (0, 0) → sizes_in_range cores cards ≡ false → Leaves x
  lent-refuses x same e = subst Leaves (sym same) (set-up-refuses e)
