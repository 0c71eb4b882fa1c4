-- `decimal::print` meets its contract: a walk of its MIR, by hand, since the borrow checker shows no contract that speaks of a scratch
-- which goes into the result. The scratch is lent again to `put`, for a lifetime that is made for the call, and comes back at the bytes
-- that `put` left (`Again.antt`). Its first part goes into the result, and its last value is settled but for that part (`Part.antt`).
-- All that the proof knows of `put` is that it meets its contract.
use mathlib.Core.Path.{◌≡◌, refl, sym, ap, subst}
use Prim.Native.Nat.{ℕ, ◌<◌, ◌^◌}
use mathlib.Core.List.{[], ◌∷◌, List, ◌++◌}
use lib.ListN.{length, drop as drop-list}
use seplogic.Ra.Ura.{Ura}
use base.Fraction.{full_share}
use mir.Syntax.{named, w32, w64, ty_int}
use mir.Val.{Val, vint}
use base.Logic.{SProp, ent, sep, emp, id⊢, via, fst∗, emp∗, mono_l}
use base.Fml.{Lft, Share, GName, ftrue, fat, flft}
use prog.Memory.{Memory}
use prog.Routine.{Routine}
use prog.Wp.{Calls, Loops, WpFn, Tables}
use types.Logic.{Logic, sem}
use contract.Monad.{Fun, fact, fact_i}
use contract.Running.{tables, tables_of}
use types.Kit.{prop, Step, step, Item, ‵, raw, ◌⊛◌, some, later, ◌$◌, ◌∵◌, !, qed, by, move, keep, use1, use2, use3, drop, rewrite, split, join, pick, fsplit, fjoin, feq_l, suffices, frame, await, updating, done}
use types.Run.{look, init, forget, stop, hop, fld, from, load, addr, and_then, no_more, assigns, land, returns, enter, alloc1, alloc0, params1, pass1, pass0, free1, free0}
use types.Part.{agg, whole, sub, look_in}
use types.Tokens.{lft_new, lft_end}
use sound.WpLaws.{FmC, fm_of, WpFn-mono}
use denote.RattleType.{owns}
use denote.Laws.{Is, shows}
use denote.Memory.{mem}
use denote.Plain.{uint_Makes, uint_vals, uint_Tells, uint_Lawful}
use denote.Builtin.{u8, u32, usize}
use denote.Ref.{MutBor}
use denote.Slice.{slice_val, mut_slice_vals, mut_slice_Tells, MutSlice, Room}
use denote.Array.{Array}
use denote.Follow.{follows}
use denote.Steps.{only, owned, peeks, heard, nothing}
use denote.Triple.Entry.{on_entry}
use denote.Triple.Spec.{Meets, triple_of}
use denote.Triple.Statement.{Contract, Triple}
use denote.Triple.Call.{calls_at}
use denote.Triple.Clauses.{ensured, lasts}
use denote.Triple.Table.{entered}
use denote.Triple.Walked.{Stays, stay_none, stay_dropped, walk_of, Goes-none, Goes-spent_slice, Walks, ends_at, walked, walk_Meets}
use denote.Exit.{yes, no}
use denote.Signature.{mut_slice_of, plain}
use Rattle.decimal.specs.Spelling.{shown, printed}
use Rattle.decimal.proofs.Again.{LentAgain, lends_again, comes_back}
use Rattle.decimal.proofs.Part.{part_out}
use Rattle.decimal.specs.contracts.put as put
use Rattle.decimal.specs.contracts.put.Key.{name as #decimal·put}
use Rattle.decimal.proofs.put.Met.{met}
use Rattle.decimal.specs.contracts.print.Key.{name as #decimal·print}
use Rattle.decimal.specs.contracts.print as print
use Rattle.decimal.proofs.print.Statement as stated
use Rattle.decimal.proofs.print.Code as code

abbrev stayed : Stays (print.ended).signature.params (print.ended).kept
stayed = (stay_none (λ _. u32) yes, (stay_dropped (mut_slice_of (0 ∷ []) tt (plain (λ _. u8))) no, tt))

-- the contract that the proof cites
abbrev Put : {M : Type 1} {𝓤 : Ura M} (𝓛 : Logic 𝓤) (mem : Memory → SProp 𝓤) (run : Routine → Fun 𝓤) → Contract 𝓤
Put 𝓛 mem run = triple_of 𝓛 put.signature (put.spec 𝓛 mem run)

-- `denote.Triple.Walked`'s `says`, of a fact that stands before the rest of the goal
first_says : {M : Type 1} {𝓤 : Ura M} {𝓛 : Logic 𝓤} {K : Type 0} {Γ : List (Item 𝓤)} → K → {φ : Type 0} {P : SProp 𝓤} → φ → Step K 𝓛 Γ (prop P) Γ (prop (sep 𝓤 (fact 𝓤 φ) P))
first_says {𝓤 = 𝓤} t {φ} {P} x = step (λ s. record { prf = via 𝓤 P s.prf (via 𝓤 (sep 𝓤 (emp 𝓤) P) (emp∗ 𝓤 P) (mono_l 𝓤 P (fact_i 𝓤 φ (emp 𝓤) x))) })

module _ {M : Type 1} {𝓤 : Ura M} (𝓛 : Logic 𝓤) (memory : Memory → SProp 𝓤) (run : Routine → Fun 𝓤) (κ : Lft) (q : Share) (n : ℕ) (b o : ℕ) (γ : GName) (ys : List ℕ) (n-fits : n < 2 ^ 32) where
  -- the scratch, under the name δ at the bytes l
  open 𝓛 use {H, A}

  abbrev x : GName → List ℕ → MutBor (List ℕ)
  x δ l = record { ref_ptr = (b, o); ghost_name = δ; now = l }

  abbrev s : Val
  s = slice_val (b, o) (length ys)

  abbrev Arg : Type 0
  Arg = ℕ × (MutBor (List ℕ) × Unit {0})

  abbrev a : Arg
  a = (n, (x γ ys, tt))

  abbrev vals : List Val × (List Val × Unit {0})
  vals = (vint w32 n ∷ [], (s ∷ [], tt))

  abbrev Post : Val → SProp 𝓤
  Post = (walk_of 𝓛 print.ended stayed (print.clauses 𝓛 memory run)).post (((κ, tt), (q, tt), tt, a, vals), tt)

  -- what `put`'s triple binds outside: the scratch lent again for the lifetime ν, under the name δ
  abbrev to-put : ℕ → GName → (Put 𝓛 memory run).Ghost
  to-put ν δ = (((ν ∷ [], tt), (full_share, tt), tt, (n, (x δ ys, tt)), vals), tt)

  goes : (ν : ℕ) (δ : GName) → ent 𝓤 (sep 𝓤 (A.lft (ν ∷ []) full_share) (sem 𝓛 ((MutSlice (named 0) (ν ∷ []) u8).own_val (x δ ys) (s ∷ [])))) ((Put 𝓛 memory run).pre (to-put ν δ))
  goes ν δ =
      qed 𝓛 (‵ (flft (ν ∷ []) full_share) ∷ ‵ ((MutSlice (named 0) (ν ∷ []) u8).own_val (x δ ys) (s ∷ [])) ∷ []) ∵ nothing ! $ move ! (1 ∷ 0 ∷ []) $ join ! $ move ! (1 ∷ []) $
      nothing ! $ move ! (1 ∷ 0 ∷ []) $ fjoin ! $ owned ! u32 (Is u32) (uint_Makes 𝓛 w32) n _ (refl, n-fits) $ fjoin ! $ move ! (1 ∷ 0 ∷ []) $ join ! $ nothing ! $ move ! (1 ∷ 0 ∷ []) $ done !

  -- the result's bytes, and those that the scratch keeps behind them
  abbrev front : List ℕ
  front = shown n ys

  abbrev back : List ℕ
  back = drop-list (length front) ys

  abbrev ends_as : List ℕ → List ℕ
  ends_as ws = ws ++ back

  handed : (γ' : GName) → ent 𝓤 (sep 𝓤 (sem 𝓛 ((MutSlice (named 0) κ u8).own_val (x γ' front) (slice_val (b, o) (length front) ∷ []))) (sep 𝓤 (A.lft κ q) (sem 𝓛 (follows (Array u8 0) (Array u8 0) γ γ' ends_as)))) (Post (slice_val (b, o) (length front)))
  handed γ' =
      qed 𝓛 (‵ ((MutSlice (named 0) κ u8).own_val (x γ' front) (slice_val (b, o) (length front) ∷ [])) ∷ ‵ (flft κ q) ∷ ‵ (follows (Array u8 0) (Array u8 0) γ γ' ends_as) ∷ []) ∵
      suffices ! _ (ends_at 𝓛 print.ended stayed (print.clauses 𝓛 memory run) (((κ, tt), (q, tt), tt, a, vals), tt) (slice_val (b, o) (length front)) (x γ' front) (tt, (tt, tt)) (tt, (tt, tt))) $
      nothing ! $ move ! (2 ∷ 0 ∷ []) $ join ! $
      -- [the token; what the part owns; what the scratch ends as]
      nothing ! $ nothing ! $ fjoin ! $ owned ! u32 (Is u32) (uint_Makes 𝓛 w32) n _ (refl, n-fits) $ fjoin ! $ move ! (0 ∷ 2 ∷ []) $ join ! $ move ! (1 ∷ 0 ∷ []) $ join ! $
      -- [what is had at exit; what the scratch ends as]
      frame ! $ first_says ! refl $ first_says ! refl $ done !

  exits : (k : ℕ) (zs : List ℕ) → k ≡ length (shown n ys) → zs ≡ printed n ys → ent 𝓤 (sep 𝓤 (A.lft κ q) (sem 𝓛 ((MutSlice (named 0) κ u8).own_val (x γ zs) (s ∷ [])))) (Post (slice_val (b, o) k))
  unfolding printed
  exits k zs count bytes = subst (λ (j : ℕ). ent 𝓤 (sep 𝓤 (A.lft κ q) (sem 𝓛 ((MutSlice (named 0) κ u8).own_val (x γ zs) (s ∷ [])))) (Post (slice_val (b, o) j))) (sym count) (
      qed 𝓛 (‵ (flft κ q) ∷ ‵ ((MutSlice (named 0) κ u8).own_val (x γ zs) (s ∷ [])) ∷ []) ∵ updating ! $ rewrite ! 1 (λ (l : List ℕ). ‵ ((MutSlice (named 0) κ u8).own_val (x γ l) (s ∷ []))) bytes refl $ move ! (1 ∷ 0 ∷ []) $
      use2 𝓛 (later (some (λ (γ' : GName). ‵ ((MutSlice (named 0) κ u8).own_val (x γ' front) (slice_val (b, o) (length front) ∷ [])) ⊛ ‵ (flft κ q) ⊛ ‵ (follows (Array u8 0) (Array u8 0) γ γ' ends_as))))
      (part_out 𝓛 u8 (named 0) κ q b o γ front back (length ys)) $ await ! tt $ pick ! (λ γ'. by ! (handed γ')))

  module _ (C : Calls 𝓤 H) (Λ : Loops 𝓤 H) (fm : FmC 𝓤 H 𝓛.laws C) (known : Triple 𝓤 (C #decimal·put) (Put 𝓛 memory run)) where
    walk : Room u8 (length ys) → ent 𝓤 (on_entry 𝓛 print.signature (κ, tt) (q, tt) a vals) (WpFn 𝓤 H C Λ code.function (vint w32 n ∷ s ∷ []) Post)
    walk room =
        qed 𝓛 ((‵ (flft κ q) ⊛ ‵ ftrue) ∷ ‵ (owns (u32 ∷ MutSlice (named 0) κ u8 ∷ []) a vals) ∷ []) ∵ enter ! C Λ code.function (vint w32 n ∷ s ∷ []) _ $
        alloc1 ! (λ l₀. alloc1 ! (λ l₁. alloc1 ! (λ l₂. alloc1 ! (λ l₃. alloc1 ! (λ l₄. alloc1 ! (λ l₅. alloc1 ! (λ l₆. alloc0 ! $ params1 ! $
        pass1 ! (init ! 10 refl (tt, record { fits = n-fits })) $ pass1 ! (init ! 8 refl (tt, (tt, (record { fits = room.0 }, tt)))) $ pass0 ! $
        -- [_6; …; _5; …; _4; …; _3; …; _2; …; _1; …; room for _0; …; the token; what n and the scratch own]
        assigns ! (addr ! (from ! (fld ! refl (hop ! (look_in ! 8 (sub ! 0 refl (whole !))) (stop !))))) (from ! (stop !)) (init ! 4 refl (tt, tt)) $
        assigns ! (agg ! (and_then ! (load ! (from ! (stop !)) (look ! 4 refl)) (and_then ! (load ! (from ! (fld ! refl (stop !))) (look_in ! 8 (sub ! 1 refl (whole !)))) (no_more !)))) (from ! (stop !)) (init ! 2 refl (tt, (tt, (record { fits = room.0 }, tt)))) $
        move ! (15 ∷ []) $ fsplit ! $ move ! (1 ∷ []) $ fsplit ! $
        -- the scratch is lent again, for a lifetime ν of the call
        move ! (17 ∷ []) $ split ! $ lft_new ! tt (λ ν. move ! (3 ∷ 1 ∷ []) $
        use2 𝓛 (later (some (λ (δ : GName). ‵ ((MutSlice (named 0) (ν ∷ []) u8).own_val (x δ ys) (s ∷ [])) ⊛ ‵ (LentAgain u8 κ (ν ∷ []) q γ b o δ ys)))) (lends_again u8 κ (ν ∷ []) q γ b o 𝓛 (named 0) (named 0) ys) $ await ! tt $ pick ! (λ δ. split ! $
        move ! (2 ∷ 0 ∷ []) $ use2 𝓛 (raw ((Put 𝓛 memory run).pre (to-put ν δ))) (goes ν δ) $
        calls_at ! fm (Put 𝓛 memory run) known (to-put ν δ) (and_then ! (load ! (from ! (stop !)) (look ! 15 refl)) (and_then ! (load ! (from ! (stop !)) (look ! 7 refl)) (no_more !))) (λ w.
        use1 𝓛 (later (some (λ (k : ℕ). ((‵ (flft (ν ∷ []) full_share) ⊛ ‵ ftrue) ⊛ ‵ (usize.own_val k (w ∷ []))) ⊛ raw (ensured 𝓛 put.ended (put.clauses 𝓛 memory run) (ν ∷ [], tt) (n, (x δ ys, tt)) tt k)))) (id⊢ 𝓤 _) $ await ! tt $ pick ! (λ k.
        -- what `put` ensures, at some last bytes
        split ! $ move ! (1 ∷ []) $ use1 𝓛 (some (λ (zs : Unit {0} × (List ℕ × Unit {0})). ‵ (lasts put.ended (ν ∷ [], tt) (n, (x δ ys, tt)) zs) ⊛ (raw (fact 𝓤 _) ⊛ raw (fact 𝓤 _)))) (id⊢ 𝓤 _) $ pick ! (λ zs.
        split ! $ move ! (1 ∷ []) $ split ! $ heard ! _ (λ count. heard ! _ (λ bytes. fsplit ! $ drop ! $ fsplit ! $ fsplit ! $ fsplit ! $ move ! (1 ∷ []) $ feq_l ! (λ l. move ! (1 ∷ []) $ drop ! $
        move ! (2 ∷ []) $ split ! $ move ! (1 ∷ []) $ peeks ! usize (Is usize) (shows 𝓛 usize) k (w ∷ []) (λ is.
        land ! (from ! (stop !)) (init ! 14 refl ((uint_Lawful 𝓛 w64).typed k _ is).0) $ rewrite ! 14 (λ (u : Val). ‵ (fat full_share (ty_int w64) l₃ 0 u)) (ap only is.0) refl $
        -- the lifetime is ended, and the scratch comes back at those bytes
        move ! (1 ∷ []) $ split ! $ lft_end ! tt $ move ! (0 ∷ 5 ∷ 3 ∷ []) $
        use3 𝓛 (later (‵ ((MutSlice (named 0) κ u8).own_val (x γ zs.1.0) (s ∷ [])) ⊛ ‵ (flft κ q))) (comes_back u8 κ (ν ∷ []) q γ b o 𝓛 (named 0) (named 0) ys δ zs.1.0 room l) $ await ! tt $ split ! $
        -- [what the scratch owns; the token; …; _6; …; _5; …; _4; …; _3; …; _2; …; _1; …; room for _0; …]
        assigns ! (addr ! (from ! (fld ! refl (hop ! (look_in ! 16 (sub ! 0 refl (whole !))) (stop !))))) (from ! (stop !)) (init ! 8 refl (tt, tt)) $
        assigns ! (agg ! (and_then ! (load ! (from ! (stop !)) (look ! 8 refl)) (and_then ! (load ! (from ! (stop !)) (look ! 14 refl)) (no_more !)))) (from ! (stop !)) (init ! 20 refl (tt, (tt, (record { fits = is.1 }, tt)))) $
        returns ! (look ! 20 refl) $ forget ! 8 refl $ forget ! 10 refl $ forget ! 12 refl $ forget ! 14 refl $ forget ! 16 refl $ forget ! 18 refl $ forget ! 20 refl $
        move ! (20 ∷ 21 ∷ []) $ free1 ! $ move ! (18 ∷ 19 ∷ []) $ free1 ! $ move ! (16 ∷ 17 ∷ []) $ free1 ! $ move ! (14 ∷ 15 ∷ []) $ free1 ! $ move ! (12 ∷ 13 ∷ []) $ free1 ! $ move ! (10 ∷ 11 ∷ []) $ free1 ! $ move ! (8 ∷ 9 ∷ []) $ free1 ! $ free0 ! $
        keep ! (1 ∷ 0 ∷ []) $ by ! (exits k zs.1.0 count bytes)))))))))))))))))

module _ {M : Type 1} {𝓤 : Ura M} (𝓛 : Logic 𝓤) (memory : Memory → SProp 𝓤) (run : Routine → Fun 𝓤) where
  open 𝓛 use {H}

  print-walks : (C : Calls 𝓤 H) (Λ : Loops 𝓤 H) → FmC 𝓤 H 𝓛.laws C → Triple 𝓤 (C #decimal·put) (Put 𝓛 memory run) → Walks 𝓛 print.ended stayed (WpFn 𝓤 H C Λ code.function) (print.clauses 𝓛 memory run)
  print-walks C Λ fm known = walked 𝓛 print.ended stayed (print.clauses 𝓛 memory run) (WpFn 𝓤 H C Λ code.function)
      (λ κs. (uint_vals w32, (mut_slice_vals, tt))) (λ κs. (uint_Tells w32, (mut_slice_Tells (named 0) κs.0 u8, tt)))
      (λ κs qs bounds a g are. via 𝓤 _ (fst∗ 𝓤 _ (emp 𝓤))
      (walk 𝓛 memory run κs.0 qs.0 a.0 a.1.0.ref_ptr.0 a.1.0.ref_ptr.1 a.1.0.ghost_name a.1.0.now are.0.1 C Λ fm known are.1.0.0.1))

print-meets : {M : Type 1} {𝓤 : Ura M} (𝓛 : Logic 𝓤) → (memory : Memory → SProp 𝓤) (run : Routine → Fun 𝓤) (𝓣 : Tables 𝓤 𝓛.H) → Triple 𝓤 (𝓣.C #decimal·put) (Put 𝓛 memory run)
    → Meets 𝓛 print.signature (WpFn 𝓤 𝓛.H 𝓣.C 𝓣.Λ code.function) (print.spec 𝓛 memory run)
print-meets {𝓤 = 𝓤} 𝓛 memory run 𝓣 known =
    walk_Meets 𝓛 print.ended stayed (Goes-none 𝓛 1 (λ _. u32) yes (λ κs x f. refl), (Goes-spent_slice 𝓛 1 (0 ∷ []) tt (plain (λ _. u8)), tt)) (print.clauses 𝓛 memory run)
    (WpFn 𝓤 𝓛.H 𝓣.C 𝓣.Λ code.function) (WpFn-mono 𝓤 𝓛.H 𝓛.laws 𝓣 code.function) (print-walks 𝓛 memory run 𝓣.C 𝓣.Λ (fm_of 𝓤 𝓛.H 𝓛.laws 𝓣) known)

pub print_spec : {M : Type 1} → stated.statement M
unfolding tables_of
print_spec 𝓤 𝓛 𝓜 𝓡 wired =
    let 𝓣 = tables 𝓤 𝓛.H 𝓜 𝓡 𝓡.env in
    entered 𝓤 𝓛.H (triple_of 𝓛 print.signature (print.spec 𝓛 𝓜.mem 𝓡.returns)) 𝓣.C 𝓣.Λ #decimal·print code.function (code.unfolded 𝓤 𝓛.H 𝓜 𝓡 wired)
    (print-meets 𝓛 𝓜.mem 𝓡.returns (tables_of 𝓤 𝓛.H 𝓜 𝓣) (met 𝓤 𝓛 𝓜 𝓡 (code.calls-decimal::put 𝓡.env wired)))
