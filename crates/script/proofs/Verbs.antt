-- Which names a call may have.
use mathlib.Core.Path.{◌≡◌, refl, ◌∙◌}
use mathlib.Core.Logic.{◌⊎◌, inl, inr}
use mathlib.Core.Bool.{Bool, true, false, cond}
use mathlib.Core.List.{List}
use Prim.Native.Nat.{ℕ}
use Rattle.std.specs.Prelude.{Option, Some, None}
use Rattle.std.specs.Str.{bytes_eq}
use Rattle.std.proofs.lemmas.Slice.Eq.{bytes_eq-Decides}
use Rattle.decimal.specs.Bytes.{ascii}
use Rattle.script.specs.declared.Verb.{Verb}
use Rattle.script.specs.Line.{verb}

-- a text is the name, or the choice goes on
choice : {P : Type 0} (f name : List ℕ) (x y : Option Verb) → (f ≡ name → P) → (cond (bytes_eq f name) x y ≡ y → P) → P
choice {P = P} f name x y is other = go (bytes_eq f name) refl
  where
    go : (t : Bool) → bytes_eq f name ≡ t → P
    go true e = is ((bytes_eq-Decides f name).0 e)
    go false e = other (rw e)

pub verb_is : (f : List ℕ) → (verb f ≡ None) ⊎ (f ≡ ascii "setup") ⊎ (f ≡ ascii "release") ⊎ (f ≡ ascii "begin") ⊎ (f ≡ ascii "read")
    ⊎ (f ≡ ascii "write") ⊎ (f ≡ ascii "commit") ⊎ (f ≡ ascii "giveup") ⊎ (f ≡ ascii "finish")
unfolding verb
verb_is f =
    choice f (ascii "setup") _ _ (λ e. inr (inl e)) (λ s.
    choice f (ascii "release") _ _ (λ e. inr (inr (inl e))) (λ r.
    choice f (ascii "begin") _ _ (λ e. inr (inr (inr (inl e)))) (λ b.
    choice f (ascii "read") _ _ (λ e. inr (inr (inr (inr (inl e))))) (λ d.
    choice f (ascii "write") _ _ (λ e. inr (inr (inr (inr (inr (inl e)))))) (λ w.
    choice f (ascii "commit") _ _ (λ e. inr (inr (inr (inr (inr (inr (inl e))))))) (λ c.
    choice f (ascii "giveup") _ _ (λ e. inr (inr (inr (inr (inr (inr (inr (inl e)))))))) (λ g.
    choice f (ascii "finish") (Some Verb.Finish) None (λ e. inr (inr (inr (inr (inr (inr (inr (inr e)))))))) (λ n.
    inl (s ∙ r ∙ b ∙ d ∙ w ∙ c ∙ g ∙ n)))))))))
