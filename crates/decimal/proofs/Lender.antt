-- What whoever lent a slice has back of it, where `keeps_from` is known of it: the same memory, and from place k on the same bytes.
--     kept_back        the lifetime is over: the slice's memory is back, with as many bytes, and those from place k on are as they were lent
--                      asks that place k is within the slice
--     print_kept_back  the same of a scratch that `print` has handed a part of: its promises `digits` and `rest` are enough
-- Assumes `Logic`.
use mathlib.Core.Path.{◌≡◌, ap}
use mathlib.Core.List.{List, ◌∷◌, [], ◌++◌}
use Prim.Native.Nat.{ℕ, ◌≤◌}
use native.Mathlib.Omega.{arith}
use lib.ListN.{length, length-drop, drop as drop-list}
use lib.Seq.{drop_at}
use seplogic.Ra.Ura.{Ura}
use base.Logic.{SProp, ent, sep, ex}
use base.Fml.{Lft, fsep, feq, fdead, flent, fex, fauth}
use types.Logic.{Logic, sem}
use types.Kit.{‵, ◌$◌, ◌∵◌, !, qed, move, drop, use2, fsplit, fjoin, fpick, feq_l, feq_i, updating, now as at_once, show, done}
use types.Tokens.{lent_back}
use types.SemTy.{cells}
use borrow.Table.Elements.{length_app}
use denote.Memory.{mem}
use denote.Array.{Array}
use denote.Builtin.{u8}
use denote.Ref.{MutBor}
use denote.Lend.{Held}
use denote.Follow.{came}
use Rattle.decimal.specs.Spelling.{shown}
use Rattle.decimal.specs.Scratch.{keeps_from}
use Rattle.decimal.proofs.Laws.{shown-fits}

module _ {M : Type 1} {𝓤 : Ura M} (𝓛 : Logic 𝓤) (κ : Lft) (x part : MutBor (List ℕ)) (k : ℕ) (within : k ≤ length x.now) where
  -- where the slice lies, and the bytes that it keeps
  open 𝓛 use {H, A}

  abbrev b : ℕ
  b = x.ref_ptr.0

  abbrev o : ℕ
  o = x.ref_ptr.1

  abbrev n : ℕ
  n = length x.now

  abbrev back : List ℕ
  back = drop-list k x.now

  abbrev pub KeptBack : List ℕ → SProp 𝓤
  KeptBack ys = sem 𝓛 (fsep (feq ℕ (length ys) n) (fsep (feq (List ℕ) (drop-list k ys) (drop-list k x.now)) (cells (mem u8) ys b o)))

  pub kept_back : ent 𝓤 (sep 𝓤 (A.dead κ) (sep 𝓤 (A.lent κ (Held u8 n b o x.ghost_name)) (sem 𝓛 (keeps_from k x part)))) (H.⇛ (ex 𝓤 KeptBack))
  kept_back =
      qed 𝓛 (‵ (fdead κ) ∷ ‵ (flent κ (Held u8 n b o x.ghost_name)) ∷ ‵ (keeps_from k x part) ∷ []) ∵
      updating ! $ lent_back ! tt $ fpick ! (λ ys. fsplit ! $ fsplit ! $ feq_l ! (λ el.
      -- [its places; auth of its name; what the slice ends as]
      move ! (1 ∷ 2 ∷ []) $
      use2 𝓛 (‵ (fex (List ℕ) (λ w. fsep (feq (List ℕ) ys (w ++ back)) (fauth part.ghost_name ((Array u8 0).coded.code w))))) (came 𝓛 (Array u8 0) (Array u8 0) (λ w. w ++ back) x.ghost_name part.ghost_name ys) $
      fpick ! (λ w. fsplit ! $ feq_l ! (λ e. drop ! $
      let front : length w ≡ k = omega (arith, ap length e, length_app w back, length-drop k x.now) in
      feq_i ! (List ℕ) (drop-list k ys) back (rw e (drop_at w back k front)) $ fjoin ! $
      feq_i ! ℕ (length ys) n el $ fjoin ! $
      at_once ! $ show ! KeptBack ys $ done !))))

module _ {M : Type 1} {𝓤 : Ura M} (𝓛 : Logic 𝓤) (κ : Lft) (x part : MutBor (List ℕ)) (m : ℕ) (digits : part.now ≡ shown m x.now) where
  open 𝓛 use {H, A}

  abbrev pub within : length part.now ≤ length x.now
  within = rw digits (shown-fits m x.now)

  pub print_kept_back :
      ent 𝓤 (sep 𝓤 (A.dead κ) (sep 𝓤 (A.lent κ (Held u8 (length x.now) x.ref_ptr.0 x.ref_ptr.1 x.ghost_name)) (sem 𝓛 (keeps_from (length part.now) x part))))
      (H.⇛ (ex 𝓤 (KeptBack 𝓛 κ x part (length part.now) within)))
  print_kept_back = kept_back 𝓛 κ x part (length part.now) within
