-- `&mut s[..k]`: the first part of a slice is lent for all the time that the slice has left, and the slice's last value follows the
-- part's. It says nothing of numbers.
--     part_out        own (the `&κ mut [T]` ((b, o), γ, front ++ back)) ∗ [κ]_q  ⊢ ⇛ ∃ γ'. own (the `&κ mut [T]` ((b, o), γ', front)) ∗ [κ]_q ∗
--                     the slice ends as w ++ back, where w is the part's last value
-- Assumes `Logic`.
use mathlib.Core.Path.{refl, sym}
use mathlib.Core.List.{List, [], ◌∷◌, ◌++◌}
use Prim.Native.Nat.{ℕ, ◌≤◌}
use native.Mathlib.Omega.{arith}
use native.Mathlib.Nat.{lt_of_le_of_lt, mul-le-mul_right}
use lib.ListN.{length}
use seplogic.Ra.Ura.{Ura}
use mir.Syntax.{Lifetime}
use base.Logic.{SProp, ent, sep, ex}
use base.Stored.{coded_list}
use base.Fml.{Lft, GName, Share, Fml, flft, fobs, fbor}
use types.Logic.{Logic, sem}
use types.Kit.{‵, ◌⊛◌, some, later, ◌$◌, ◌∵◌, !, qed, move, drop, use1, use2, rewrite, split, split3, pick, group, fsplit, fjoin, feq_l, feq_i, await, updating, now as at_once, show, done}
use types.SemTy.{cells, Arr, Body}
use types.Follow.{takes_part}
use types.Mut.{open_ref}
use borrow.Table.Elements.{at, cut_app, join_app, length_app}
use denote.RattleType.{RattleType}
use denote.Shadow.{pure_l}
use denote.Memory.{mem}
use denote.Array.{Array}
use denote.Slice.{MutSlice, Room, slice_val, mut_slice_at}
use denote.Follow.{follows}
use denote.FollowSlice.{heres_id, slice_of}

module _ {M : Type 1} {𝓤 : Ura M} (𝓛 : Logic 𝓤) (R : RattleType) (ℓ : Lifetime) (κ : Lft) (q : Share) (b o : ℕ) (γ : GName) (front back : List R.Denot) where
  open 𝓛 use {H, A}

  abbrev xs : List R.Denot
  xs = front ++ back

  abbrev own : GName → List R.Denot → ℕ → Fml
  own δ ys n = (MutSlice ℓ κ R).own_val (record { ref_ptr = (b, o); ghost_name = δ; now = ys }) (slice_val (b, o) n ∷ [])

  abbrev whole : List R.Denot → List R.Denot
  whole ws = ws ++ back

  abbrev behind : ℕ
  behind = at o (mem R).size (length front)

  abbrev pub PartOut : GName → SProp 𝓤
  PartOut δ = sep 𝓤 (sem 𝓛 (own δ front (length front))) (sep 𝓤 (A.lft κ q) (sem 𝓛 (follows (Array R 0) (Array R 0) γ δ whole)))

  put_back : (ws : List R.Denot) → ent 𝓤 (sep 𝓤 (sem 𝓛 ((Arr (mem R) (length front)).own_at ws b o)) (sem 𝓛 (cells (mem R) back b behind))) (sem 𝓛 ((Arr (mem R) (length xs)).own_at (whole ws) b o))
  put_back ws = qed 𝓛 (‵ ((Arr (mem R) (length front)).own_at ws b o) ∷ ‵ (cells (mem R) back b behind) ∷ []) ∵ fsplit ! $ feq_l ! (λ e.
      rewrite ! 1 (λ (j : ℕ). ‵ (cells (mem R) back b (at o (mem R).size j))) (sym e) refl $
      use2 𝓛 (‵ (cells (mem R) (whole ws) b o)) (join_app 𝓛 (mem R) ws back b o) $
      feq_i ! ℕ (length (whole ws)) (length xs) (omega (arith, length_app ws back, length_app front back)) $ fjoin ! $ done !)

  room_less : Room R (length xs) → Room R (length front)
  room_less rm =
      let l : length front ≤ length xs = omega (arith, length_app front back) in
      (lt_of_le_of_lt l rm.0, lt_of_le_of_lt (mul-le-mul_right (mem R).size l) rm.1)

  pub part_out : (n : ℕ) → ent 𝓤 (sep 𝓤 (sem 𝓛 (own γ xs n)) (A.lft κ q)) (H.⇛ (ex 𝓤 PartOut))
  part_out n =
      qed 𝓛 (‵ (own γ xs n) ∷ ‵ (flft κ q) ∷ []) ∵ updating ! $ fsplit ! $ pure_l ! (mut_slice_at R (record { ref_ptr = (b, o); ghost_name = γ; now = xs }) (slice_val (b, o) n ∷ [])) (λ p. fsplit ! $
      rewrite ! 0 (λ (l : List R.Denot). ‵ (fobs γ ((coded_list R.coded).code l))) (heres_id R xs) refl $ open_ref ! tt (Arr (mem R) (length xs)) {b = b} {o = o} $ fsplit ! $ drop ! $
      use1 𝓛 (‵ (cells (mem R) front b o) ⊛ ‵ (cells (mem R) back b behind)) (cut_app 𝓛 (mem R) front back b o) $ split ! $
      -- [the part; what is behind it; the open borrow; obs; auth]
      feq_i ! ℕ (length front) (length front) refl $ fjoin ! $ move ! (2 ∷ 3 ∷ 4 ∷ 0 ∷ 1 ∷ []) $ group ! 5 $
      use1 𝓛 (later (some (λ (δ : GName). ‵ (fobs δ ((coded_list R.coded).code front)) ⊛ ‵ (fbor κ (Body (Arr (mem R) (length front)) b o δ)) ⊛ ‵ (flft κ q) ⊛ ‵ (follows (Array R 0) (Array R 0) γ δ whole))))
      (takes_part 𝓛 (Arr (mem R) (length xs)) (Arr (mem R) (length front)) whole κ q b o b o γ (sem 𝓛 (cells (mem R) back b behind)) put_back ((coded_list R.coded).code xs) ((coded_list R.coded).code xs) front) $ await ! tt $ pick ! (λ δ. split3 ! $
      use2 𝓛 (‵ (own δ front (length front))) (slice_of 𝓛 R ℓ κ b o δ front (room_less p.1)) $ at_once ! $ show ! PartOut δ $ done !))
