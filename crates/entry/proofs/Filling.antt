-- A listing that is put into the output piece by piece: what holds after each piece.
use mathlib.Core.Path.{◌≡◌, refl, sym, ap, subst, ◌∙◌}
use mathlib.Core.Bool.{Bool, true, false, not}
use mathlib.Core.List.{List, [], ◌++◌, append-nil, append_assoc}
use Prim.Native.Nat.{ℕ, ◌+◌, ◌-◌, ◌*◌, ◌≤◌}
use native.Mathlib.Omega.{arith}
use lib.Dec.{leb}
use lib.ListN.{length, take, drop, length-append, drop_of_length-le}
use lib.Seq.{length-take-le, take_at, drop_at, drop-drop, drop-append-add}
use borrow.Author.Tests.{leb-true}
use Rattle.std.proofs.lemmas.Bool.{not-true}
use Rattle.listing.specs.Text.{heading, placed, fitting, put}
use Rattle.listing.proofs.Laws.{fitting-whole, put_whole, placed-whole, placed-length}
use Rattle.runner.specs.declared.Reading.{Reading}
use Rattle.request.specs.Asks.{most_lines}
use Rattle.runner.specs.Listing.{rows, listed, listing}
use Rattle.runner.specs.Kept.{listed_from, rest, started, ReadingFits}
use Rattle.runner.proofs.Laws.{start-fit, start-whole}
use Rattle.runner.proofs.Bounds.{enough-any}

-- `text` is listed, `total` bytes of it; it is the output's first part, if the output has room for the whole listing, and the bytes after
-- it keep what they held
pub record Listed (script out₀ text out : List ℕ) (total : ℕ) (left : List ℕ) : Type 0 where
  pub whole : listing script ≡ text ++ left
  pub long : total ≡ length text
  pub out-long : length out ≡ length out₀
  pub filled : length (listing script) ≤ length out₀ → out ≡ text ++ drop total out₀

-- a text that is put keeps the output's length, whether it fits or not
placed-long : (at : ℕ) (text output : List ℕ) → length (placed at text output) ≡ length output
placed-long at text output = go (leb (at + length text) (length output)) refl
  where
    go : (b : Bool) → leb (at + length text) (length output) ≡ b → length (placed at text output) ≡ length output
    go true e = placed-length at text output (leb-true (at + length text) (length output) e)
    go false e = unfold placed in rw e refl

-- the heading stands in front; the loop begins with the output that has it
pub heading-listed : (script out₀ out : List ℕ) → out ≡ placed 0 heading out₀ → Listed script out heading out 18 (listed (rows script))
unfolding listing
heading-listed script out₀ out e =
    record {
      whole = refl;
      long = refl;
      out-long = refl;
      filled = λ room.
          let fits : 18 ≤ length out₀ = omega (arith, length-append heading (listed (rows script)), room, ap length e, placed-long 0 heading out₀) in
          let front = e ∙ placed-whole 0 heading out₀ fits in
          front ∙ ap (λ (x : List ℕ). heading ++ x) (sym (ap (drop 18) front ∙ drop_at heading (drop 18 out₀) 18 refl));
    }

-- past the heading, that output has what it held at first
pub past-heading : (out₀ out : List ℕ) → out ≡ placed 0 heading out₀ → (n : ℕ) → 18 ≤ n → n ≤ length out₀ → drop n out ≡ drop n out₀
past-heading out₀ out e n h room =
    let past : 18 + (n - 18) ≡ n = omega (arith, h) in
    ap (drop n) (e ∙ placed-whole 0 heading out₀ (omega (arith, h, room)))
    ∙ subst (λ (k : ℕ). drop k (heading ++ drop 18 out₀) ≡ drop k out₀) past
    (drop-append-add heading (drop 18 out₀) (n - 18) ∙ drop-drop (n - 18) 18 out₀)

-- one piece more
pub piece-listed : (script out₀ text out : List ℕ) (total : ℕ) (left piece left' : List ℕ) → Listed script out₀ text out total left
    → left ≡ piece ++ left' → Listed script out₀ (text ++ piece) (placed total piece out) (total + length piece) left'
piece-listed script out₀ text out total left piece left' l e =
    record {
      whole = together;
      long = ap (λ (n : ℕ). n + length piece) l.long ∙ sym (length-append text piece);
      out-long = placed-long total piece out ∙ l.out-long;
      filled = λ room.
          let here = l.filled room in
          let fits : total + length piece ≤ length out =
          omega (arith, l.long, l.out-long, room, ap length together, length-append (text ++ piece) left', length-append text piece) in
          placed-whole total piece out fits
          ∙ ap (λ (x : List ℕ). take total x ++ piece ++ drop (total + length piece) x) here
          ∙ ap (λ (x : List ℕ). x ++ piece ++ drop (total + length piece) (text ++ drop total out₀)) (take_at text (drop total out₀) total (sym l.long))
          ∙ ap (λ (x : List ℕ). text ++ piece ++ x) (after (length piece));
    }
  where
    together : listing script ≡ (text ++ piece) ++ left'
    together = l.whole ∙ ap (λ (x : List ℕ). text ++ x) e ∙ sym (append_assoc text piece left')

    after : (n : ℕ) → drop (total + n) (text ++ drop total out₀) ≡ drop (total + n) out₀
    after n =
        ap (λ (k : ℕ). drop (k + n) (text ++ drop total out₀)) l.long ∙ drop-append-add text (drop total out₀) n ∙ drop-drop n total out₀

-- no sum of lengths wraps
pub total-small : (script out₀ text out : List ℕ) (total : ℕ) (left : List ℕ) → Listed script out₀ text out total left
    → total + length left ≤ 32 * (most_lines + 2)
total-small script out₀ text out total left l =
    omega (arith, enough-any script, l.long, ap length l.whole, length-append text left)

-- `left` is what is not run of the script
pub record Running (script out₀ out cs ps scratch : List ℕ) (total : ℕ) (r : Reading) (left : List ℕ) : Type 0 where
  pub fit : ReadingFits r cs ps
  pub scratch-long : length scratch ≡ 16384
  pub text : List ℕ
  pub headed : 18 ≤ total
  pub so_far : Listed script out₀ text out total (rest r cs ps left)

-- the whole script: its end adds `piece`, and `out` has it
pub all_listed : (script out₀ out₁ text out : List ℕ) (total : ℕ) (piece : List ℕ) (k : ℕ) → out₁ ≡ placed 0 heading out₀ → 18 ≤ total
    → Listed script out₁ text out total piece → k ≡ length piece
    → (total + k ≡ length (listing script))
    × (total + k ≤ length out₀ → placed total piece out ≡ listing script ++ drop (total + k) out₀)
all_listed script out₀ out₁ text out total piece k e h l count =
    let last = piece-listed script out₁ text out total piece piece [] l (sym (append-nil piece)) in
    let all = last.whole ∙ append-nil (text ++ piece) in
    let long : total + k ≡ length (listing script) = ap (λ (n : ℕ). total + n) count ∙ last.long ∙ ap length (sym all) in (
      long,
      λ room.
          last.filled (omega (arith, long, room, ap length e, placed-long 0 heading out₀))
          ∙ ap (λ (x : List ℕ). x ++ drop (total + length piece) out₁) (sym all)
          ∙ ap (λ (n : ℕ). listing script ++ drop (total + n) out₁) (sym count)
          ∙ ap (λ (x : List ℕ). listing script ++ x) (past-heading out₀ out₁ e (total + k) (omega (arith, h)) room),
    )

-- a chunk adds what is put of it
pub chunk-listed : (script out₀ text out : List ℕ) (total : ℕ) (left chunk left' : List ℕ) (r r' : Reading) (cs ps cs' ps' scratch : List ℕ) (k : ℕ)
    → left ≡ chunk ++ left' → k ≤ length scratch → Listed script out₀ text out total (rest r cs ps left)
    → ((bytes : List ℕ) → rest r cs ps (chunk ++ bytes) ≡ take k scratch ++ rest r' cs' ps' bytes)
    → Listed script out₀ (text ++ take k scratch) (placed total (take k scratch) out) (total + k) (rest r' cs' ps' left')
chunk-listed script out₀ text out total left chunk left' r r' cs ps cs' ps' scratch k cut fits l e =
    subst (λ (n : ℕ). Listed script out₀ (text ++ take k scratch) (placed total (take k scratch) out) (total + n) (rest r' cs' ps' left'))
    (length-take-le k scratch fits)
    (piece-listed script out₀ text out total (rest r cs ps left) (take k scratch) (rest r' cs' ps' left') l (ap (rest r cs ps) cut ∙ e left'))

-- the heading in the scratch
pub heading-put : (scratch scratch' : List ℕ) (k : ℕ) → length scratch ≡ 16384 → k ≡ length (fitting heading scratch) → scratch' ≡ put heading scratch
    → (k ≡ 18) × (take k scratch' ≡ heading)
heading-put scratch scratch' k long count bytes =
    let room : 32 ≤ length scratch = omega (arith, long) in
    let eighteen = count ∙ ap length (fitting-whole heading scratch room) in
    (eighteen, ap (take k) (bytes ∙ put_whole heading scratch room) ∙ take_at heading (drop 18 scratch) k (sym eighteen))

pub running-starts : (script out₀ out cs ps scratch piece left : List ℕ) (total : ℕ) (r : Reading) → (total ≡ 18) × (piece ≡ heading)
    → out ≡ placed 0 piece out₀ → length scratch ≡ 16384 → r ≡ started → length cs ≡ 64 → length ps ≡ 1024 → left ≡ script
    → Running script out out cs ps scratch total r left
running-starts script out₀ out cs ps scratch piece left total r put e long new committed pending all =
    record {
      fit = start-fit r cs ps new committed pending;
      scratch-long = long;
      text = heading;
      headed = omega (arith, put.0);
      so_far = subst (λ (n : ℕ). Listed script out heading out n (rest r cs ps left)) (sym put.0)
          (subst (λ (x : List ℕ). Listed script out heading out 18 (rest r cs ps x)) (sym all)
          (subst (λ (x : List ℕ). Listed script out heading out 18 x) (sym (start-whole r cs ps new script))
          (heading-listed script out₀ out (e ∙ ap (λ (x : List ℕ). placed 0 x out₀) put.1))));
    }

module _ (script out₀ out cs ps scratch : List ℕ) (total : ℕ) (r : Reading) (left : List ℕ) (run : Running script out₀ out cs ps scratch total r left) where
  pub running-goes : (chunk left' : List ℕ) (r' : Reading) (cs' ps' scratch' out' : List ℕ) (k : ℕ) → left ≡ chunk ++ left' → ReadingFits r' cs' ps'
      → length scratch' ≡ 16384 → k ≤ 16384
      → ((bytes : List ℕ) → rest r cs ps (chunk ++ bytes) ≡ take k scratch' ++ rest r' cs' ps' bytes)
      → out' ≡ placed total (take k scratch') out → Running script out₀ out' cs' ps' scratch' (total + k) r' left'
  running-goes chunk left' r' cs' ps' scratch' out' k cut fit long few e put =
      record {
        fit = fit;
        scratch-long = long;
        text = run.text ++ take k scratch';
        headed = omega (arith, run.headed);
        so_far = subst (λ (x : List ℕ). Listed script out₀ (run.text ++ take k scratch') x (total + k) (rest r' cs' ps' left'))
            (sym put)
            (chunk-listed script out₀ run.text out total left chunk left' r r' cs ps cs' ps' scratch' k cut (omega (arith, few, long)) run.so_far e);
      }

  -- nothing is left to run
  pub all-run : length left ≡ 0 → Running script out₀ out cs ps scratch total r []
  all-run over = subst (Running script out₀ out cs ps scratch total r) (drop_of_length-le left {i = 0} (omega (arith, over))) run

  -- lines are read no more
  none : (bytes : List ℕ) → r.going ≡ false → rest r cs ps bytes ≡ []
  unfolding rest listed_from
  none bytes over = rw over refl

  -- then the rest of the script may be passed over
  pub passed : not r.going ≡ true → Running script out₀ out cs ps scratch total r []
  passed stopped =
      let over = not-true r.going stopped in
      record {
        fit = run.fit;
        scratch-long = run.scratch-long;
        text = run.text;
        headed = run.headed;
        so_far = subst (λ (x : List ℕ). Listed script out₀ run.text out total x) (none left over ∙ sym (none [] over)) run.so_far;
      }

  -- no sum wraps
  pub running-small : total ≤ 32 * (most_lines + 2)
  running-small = omega (arith, total-small script out₀ run.text out total (rest r cs ps left) run.so_far)

  pub running-ends : (out₋ scratch' out' piece : List ℕ) (n : ℕ) → left ≡ [] → out₀ ≡ placed 0 piece out₋ → piece ≡ heading
      → take n scratch' ≡ rest r cs ps [] → n ≤ length scratch' → out' ≡ placed total (take n scratch') out
      → (total + n ≡ length (listing script)) × (total + n ≤ length out₋ → out' ≡ listing script ++ drop (total + n) out₋)
  running-ends out₋ scratch' out' piece n over first head last few put =
      subst (λ (x : List ℕ). (total + n ≡ length (listing script)) × (total + n ≤ length out₋ → x ≡ listing script ++ drop (total + n) out₋)) (sym put)
      (all_listed script out₋ out₀ run.text out total (take n scratch') n (first ∙ ap (λ (x : List ℕ). placed 0 x out₋) head) run.headed
      (subst (λ (x : List ℕ). Listed script out₀ run.text out total x)
      (ap (rest r cs ps) over ∙ sym last) run.so_far) (sym (length-take-le n scratch' few)))
