-- What a call after setup leaves, where it is lent the first words of the two tables: the rule's answer and world.
use Rattle.std.proofs.Common.{◌≡◌, ℕ, ◌*◌, List, ◌++◌, length, take, drop, sym, refl, ap, ◌∙◌, subst, inr, take_at}
use lib.Seq.{length_front}
use Rattle.machine.specs.Rule.{World, Result, lent, rule, Call}
use Rattle.machine.specs.Follows.{Follows}
use Rattle.machine.specs.declared.Machine.{Machine}
use Rattle.machine.specs.declared.Outcome.{Outcome}
use Rattle.machine.proofs.CaseOf.{case-of}
use Rattle.machine.specs.Inside.{WellFormedWorld}
use Rattle.machine.proofs.Sound.Keeps.{keeps-good}
use Rattle.runner.specs.Kept.{held, overlaid, BlankOrSound}
use Rattle.one_core.specs.declared.Answer.{Answer}
use Rattle.runner.proofs.Over.{over-own, over-front}

-- the words that a machine holds of tables that begin with its own
pub front-held : (m : Machine) (cs ps more more' : List ℕ) → WellFormedWorld (lent m cs ps) → held m (cs ++ more) (ps ++ more') ≡ lent m cs ps
front-held m cs ps more more' g =
    ap (λ (x : List ℕ). lent m x (take (m.cores * m.objects) (ps ++ more'))) (take_at cs more m.objects g.world_sound.committed_long)
    ∙ ap (λ (x : List ℕ). lent m cs x) (take_at ps more' (m.cores * m.objects) g.world_sound.pending_long)

-- what a call promises of its answer, its record and the whole tables, cs₀ and ps₀ before it and cs and ps after it
abbrev pub Done : List ℕ → List ℕ → Result → Outcome → List ℕ → List ℕ → Type 0
Done cs₀ ps₀ expected r cs ps =
    (r.answer ≡ expected.answer)
    × ((held r.machine cs ps ≡ expected.world)
    × (BlankOrSound r.machine cs ps × ((cs ≡ overlaid expected.world.committed cs₀) × (ps ≡ overlaid expected.world.pending ps₀))))

-- no call is made: the record and the tables stay
pub none_done : (m : Machine) (cs ps : List ℕ) → BlankOrSound m cs ps → (a : Answer)
    → Done cs ps (record { answer = a; world = held m cs ps }) (record { machine = m; answer = a }) cs ps
none_done m cs ps h a = (refl, (refl, (h, (sym (over-own m.objects cs), sym (over-own (m.cores * m.objects) ps)))))

-- what is done may be said of equal tables and an equal outcome
pub done-same : (cs₀ ps₀ : List ℕ) (x : Result) {r r' : Outcome} {cs cs' ps ps' : List ℕ} → cs ≡ cs' → ps ≡ ps' → r ≡ r' → Done cs₀ ps₀ x r' cs' ps'
    → Done cs₀ ps₀ x r cs ps
done-same cs₀ ps₀ x a b c d = rw (a, b, c) d

-- no call is made, and the answer equals the one that is expected
pub refused_done : (m : Machine) (cs ps : List ℕ) → BlankOrSound m cs ps → (a a' : Answer) → a' ≡ a
    → Done cs ps (record { answer = a; world = held m cs ps }) (record { machine = m; answer = a' }) cs ps
refused_done m cs ps h a a' same =
    done-same cs ps _ refl refl (ap (λ (x : Answer). record { machine = m; answer = x }) same) (none_done m cs ps h a)

module _ (m : Machine) (cs ps : List ℕ) (g : WellFormedWorld (held m cs ps)) (cl : length cs ≡ 64) (pl : length ps ≡ 1024) (call : Call) (r : Outcome) where
  -- the call was lent the first words, and left them as cs' and ps'
  pub acted : (cs' ps' : List ℕ) → length cs' ≡ length (take m.objects cs) → length ps' ≡ length (take (m.cores * m.objects) ps)
      → Follows (held m cs ps) call r.answer (lent r.machine cs' ps')
      → Done cs ps (rule (held m cs ps) call) r (cs' ++ drop m.objects cs) (ps' ++ drop (m.cores * m.objects) ps)
  acted cs' ps' cl' pl' f =
      let g' = keeps-good (case-of f) g in
      let front = front-held r.machine cs' ps' (drop m.objects cs) (drop (m.cores * m.objects) ps) g' in (
        f.answer_is,
        (
          front ∙ f.world_is,
          (
            record {
              committed_long = length_front cs cs' m.objects cl' ∙ cl;
              pending_long = length_front ps ps' (m.cores * m.objects) pl' ∙ pl;
              blank_or_well_formed = inr (subst WellFormedWorld (sym front) g');
            },
            (
              over-front m.objects cs cs' _ cl' (ap (λ (x : World). x.committed) f.world_is),
              over-front (m.cores * m.objects) ps ps' _ pl' (ap (λ (x : World). x.pending) f.world_is),
            ),
          ),
        ),
      )
