-- What a line of the listing leaves in an output that has room for it.
use Rattle.std.proofs.Common.{◌≡◌, ℕ, ◌≤◌, List, ◌++◌, length, take, drop, sym, refl, ap, ◌∙◌, subst, take_at, drop_at, le-ltb}
use Rattle.one_core.specs.declared.Answer.{Answer}
use Rattle.listing.specs.Text.{line, fitting, put}
use Rattle.listing.proofs.Laws.{line-short}

-- the line stands in front, and the bytes after it keep what they held
in-front : (n : ℕ) (a : Answer) (out out' : List ℕ) (k : ℕ) → k ≡ length (line n a) → out' ≡ line n a ++ drop (length (line n a)) out
    → (take k out' ≡ line n a) × (k ≤ 32) × (drop k out' ≡ drop k out)
in-front n a out out' k long whole = (
  ap (take k) whole ∙ take_at (line n a) (drop (length (line n a)) out) k (sym long),
  subst (λ (x : ℕ). x ≤ 32) (sym long) (line-short n a),
  ap (drop k) whole ∙ drop_at (line n a) (drop (length (line n a)) out) k (sym long) ∙ ap (λ (x : ℕ). drop x out) (sym long),
)

-- an output that has room for a line gets all of it
module _ (n : ℕ) (a : Answer) (out out' : List ℕ) (k : ℕ) (room : 32 ≤ length out) (count : k ≡ length (fitting (line n a) out))
    (bytes : out' ≡ put (line n a) out) where
  fits : fitting (line n a) out ≡ line n a
  fits = unfold fitting in rw (le-ltb (length out) 32 room) refl

  put-long : k ≡ length (line n a)
  put-long = count ∙ ap length fits

  put_whole : out' ≡ line n a ++ drop (length (line n a)) out
  put_whole = bytes ∙ (unfold put in rw fits refl)

  pub written : (take k out' ≡ line n a) × (k ≤ 32) × (drop k out' ≡ drop k out)
  written = in-front n a out out' k put-long put_whole
