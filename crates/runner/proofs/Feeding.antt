-- The runner's loop over a chunk: what holds after each byte, and that the next byte keeps it.
use Rattle.std.proofs.Common.{◌≡◌, ℕ, suc, ◌+◌, ◌-◌, ◌*◌, ◌<◌, ◌≤◌, List, [], ◌∷◌, ◌++◌, length, get_or, take, drop, sym, refl, ap, ◌∙◌, subst, append_assoc, arith, length-append, length-drop, take-append-drop, append-nil, drop_of_length-le, length-take-le, drop-cons, drop-drop}
use lib.Seq.{take-append-add, drop-append-add}
use Rattle.machine.proofs.Entries.{part-whole}
use Rattle.runner.specs.declared.Reading.{Reading}
use Rattle.runner.specs.Kept.{rest, ReadingFits, KeptState, state, after_byte, fed}

one_more : (n : ℕ) → suc n ≡ n + 1
one_more n = omega arith

-- no byte stands after the output's part from `written` on
part-last : (out : List ℕ) (written : ℕ) → drop (length out - written) (drop written out) ≡ []
part-last out written = drop_of_length-le (drop written out) {i = length out - written} (omega (arith, length-drop written out))

pub part_room : (out : List ℕ) (written : ℕ) → written + 32 ≤ length out → 32 ≤ length (take (length out - written) (drop written out))
part_room out written h = rw (part-whole out written) (omega (arith, length-drop written out, h))

-- after i bytes of the chunk: what is written and what is still to be listed make up what was to be listed at first, and the output's
-- other bytes keep what they held; what the whole chunk leaves is what its other bytes will leave of what is kept by then
pub record Feeding (r₀ : Reading) (cs₀ ps₀ out₀ chunk : List ℕ) (r : Reading) (cs ps out : List ℕ) (written i : ℕ) : Type 0 where
  pub fit : ReadingFits r cs ps
  pub within : i ≤ length chunk
  pub room : written ≤ 32 * i
  pub out-long : length out ≡ length out₀
  pub listed : (bytes : List ℕ) → rest r₀ cs₀ ps₀ (chunk ++ bytes) ≡ take written out ++ rest r cs ps (drop i chunk ++ bytes)
  pub after : drop written out ≡ drop written out₀
  pub kept : fed (state r₀ cs₀ ps₀) chunk ≡ fed (state r cs ps) (drop i chunk)

pub feeding-starts : (r : Reading) (cs ps out chunk : List ℕ) → ReadingFits r cs ps → Feeding r cs ps out chunk r cs ps out 0 0
feeding-starts r cs ps out chunk f =
    record { fit = f; within = omega arith; room = omega arith; out-long = refl; listed = λ bytes. refl; after = refl; kept = refl }

module _ (r₀ : Reading) (cs₀ ps₀ out₀ chunk : List ℕ) (r : Reading) (cs ps out : List ℕ) (written i : ℕ)
    (f : Feeding r₀ cs₀ ps₀ out₀ chunk r cs ps out written i) (h : i < length chunk) where
  -- the chunk's next byte
  abbrev b : ℕ
  b = get_or chunk i 0

  next-byte : (bytes : List ℕ) → drop i chunk ++ bytes ≡ b ∷ drop (i + 1) chunk ++ bytes
  next-byte bytes = ap (λ (x : List ℕ). x ++ bytes) (drop-cons chunk i 0 h ∙ ap (λ (n : ℕ). b ∷ drop n chunk) (one_more i))

  -- the byte leaves this
  kept_on : (s : KeptState) → after_byte (state r cs ps) b ≡ s → fed (state r₀ cs₀ ps₀) chunk ≡ fed s (drop (i + 1) chunk)
  unfolding fed
  kept_on s e =
      f.kept ∙ ap (fed (state r cs ps)) (drop-cons chunk i 0 h ∙ ap (λ (n : ℕ). b ∷ drop n chunk) (one_more i))
      ∙ ap (λ (x : KeptState). fed x (drop (i + 1) chunk)) e

  -- the byte is read, and nothing is written
  pub feeding-stays : (r' : Reading) → ReadingFits r' cs ps → ((bytes : List ℕ) → rest r cs ps (b ∷ bytes) ≡ rest r' cs ps bytes)
      → after_byte (state r cs ps) b ≡ state r' cs ps → Feeding r₀ cs₀ ps₀ out₀ chunk r' cs ps out written (i + 1)
  feeding-stays r' fit' e step =
      record {
        fit = fit';
        within = omega (arith, h);
        room = omega (arith, f.room);
        out-long = f.out-long;
        listed = λ bytes.
            f.listed bytes ∙ ap (λ (x : List ℕ). take written out ++ rest r cs ps x) (next-byte bytes)
            ∙ ap (λ (x : List ℕ). take written out ++ x) (e (drop (i + 1) chunk ++ bytes));
        after = f.after;
        kept = kept_on (state r' cs ps) step;
      }

  -- the byte is read: k bytes are written, and `part` is what it leaves of the output from `written` on
  reads : (r' : Reading) (cs' ps' : List ℕ) (k : ℕ) (part : List ℕ) → ReadingFits r' cs' ps'
      → ((bytes : List ℕ) → rest r cs ps (b ∷ bytes) ≡ take k part ++ rest r' cs' ps' bytes) → k ≤ 32
      → drop k part ≡ drop k (drop written out) → length part ≡ length (drop written out) → written ≤ length out
      → state r' cs' ps' ≡ after_byte (state r cs ps) b
      → Feeding r₀ cs₀ ps₀ out₀ chunk r' cs' ps' (take written out ++ part) (written + k) (i + 1)
  reads r' cs' ps' k part fit' listed' few rest-kept long within step =
      record {
        fit = fit';
        within = omega (arith, h);
        room = omega (arith, f.room, few);
        out-long = length-append (take written out) part ∙ ap (λ (n : ℕ). length (take written out) + n) long
            ∙ sym (length-append (take written out) (drop written out)) ∙ ap length (take-append-drop written out) ∙ f.out-long;
        listed = λ bytes.
            f.listed bytes ∙ ap (λ (x : List ℕ). take written out ++ rest r cs ps x) (next-byte bytes)
            ∙ ap (λ (x : List ℕ). take written out ++ x) (listed' (drop (i + 1) chunk ++ bytes))
            ∙ sym (append_assoc (take written out) (take k part) _)
            ∙ ap (λ (x : List ℕ). x ++ rest r' cs' ps' (drop (i + 1) chunk ++ bytes)) (sym taken);
        after = dropped ∙ rest-kept ∙ drop-drop k written out ∙ sym (drop-drop k written out) ∙ ap (drop k) f.after
            ∙ drop-drop k written out₀;
        kept = kept_on (state r' cs' ps') (sym step);
      }
    where
      front : length (take written out) ≡ written
      front = length-take-le written out within

      taken : take (written + k) (take written out ++ part) ≡ take written out ++ take k part
      taken =
          subst (λ (n : ℕ). take (n + k) (take written out ++ part) ≡ take written out ++ take k part) front
          (take-append-add (take written out) part k)

      dropped : drop (written + k) (take written out ++ part) ≡ drop k part
      dropped =
          subst (λ (n : ℕ). drop (n + k) (take written out ++ part) ≡ drop k part) front
          (drop-append-add (take written out) part k)

  -- the part of the output from `written` on is lent whole, and comes back
  pub feeding-reads : (r' : Reading) (cs' ps' : List ℕ) (k : ℕ) (part : List ℕ) → ReadingFits r' cs' ps'
      → ((bytes : List ℕ) → rest r cs ps (b ∷ bytes) ≡ take k part ++ rest r' cs' ps' bytes) → k ≤ 32
      → drop k part ≡ drop k (take (length out - written) (drop written out))
      → length part ≡ length (take (length out - written) (drop written out)) → written ≤ length out
      → state r' cs' ps' ≡ after_byte (state r cs ps) b
      → Feeding r₀ cs₀ ps₀ out₀ chunk r' cs' ps' (take written out ++ (part ++ drop (length out - written) (drop written out))) (written + k) (i + 1)
  feeding-reads r' cs' ps' k part fit' listed' few rest-kept long within step =
      rw (part-last out written, append-nil part)
      (reads r' cs' ps' k part fit' listed' few (rest-kept ∙ ap (drop k) (part-whole out written)) (long ∙ ap length (part-whole out written)) within step)

  -- the byte is a newline, and ends a line
  pub newline-reads : b ≡ 10 → (r' : Reading) (cs' ps' : List ℕ) (k : ℕ) (part : List ℕ) → ReadingFits r' cs' ps'
      → ((bytes : List ℕ) → rest r cs ps (10 ∷ bytes) ≡ take k part ++ rest r' cs' ps' bytes) → k ≤ 32
      → drop k part ≡ drop k (take (length out - written) (drop written out))
      → length part ≡ length (take (length out - written) (drop written out)) → written ≤ length out
      → state r' cs' ps' ≡ after_byte (state r cs ps) 10
      → Feeding r₀ cs₀ ps₀ out₀ chunk r' cs' ps' (take written out ++ (part ++ drop (length out - written) (drop written out))) (written + k) (i + 1)
  newline-reads newline r' cs' ps' k part fit' listed' few rest-kept long within step =
      feeding-reads r' cs' ps' k part fit' (λ bytes. ap (λ (x : ℕ). rest r cs ps (x ∷ bytes)) newline ∙ listed' bytes) few rest-kept long within
      (step ∙ ap (after_byte (state r cs ps)) (sym newline))

-- what was written leaves room for a line, as long as a byte of the chunk is left
pub room-left : {r₀ : Reading} {cs₀ ps₀ out₀ chunk : List ℕ} {r : Reading} {cs ps out : List ℕ} {written i : ℕ}
    → Feeding r₀ cs₀ ps₀ out₀ chunk r cs ps out written i → i < length chunk → 32 * length chunk ≤ length out₀ → written + 32 ≤ length out
room-left f h room = omega (arith, f.room, f.out-long, h, room)

-- the whole chunk
pub feeding-done : {r₀ : Reading} {cs₀ ps₀ out₀ chunk : List ℕ} {r : Reading} {cs ps out : List ℕ} {written i : ℕ}
    → Feeding r₀ cs₀ ps₀ out₀ chunk r cs ps out written i → length chunk ≤ i
    → (bytes : List ℕ) → rest r₀ cs₀ ps₀ (chunk ++ bytes) ≡ take written out ++ rest r cs ps bytes
feeding-done {chunk = chunk} {r = r} {cs = cs} {ps = ps} {out = out} {written = written} {i = i} f over bytes =
    f.listed bytes
    ∙ ap (λ (x : List ℕ). take written out ++ rest r cs ps (x ++ bytes)) (drop_of_length-le chunk {i = i} over)

pub feeding-kept : {r₀ : Reading} {cs₀ ps₀ out₀ chunk : List ℕ} {r : Reading} {cs ps out : List ℕ} {written i : ℕ}
    → Feeding r₀ cs₀ ps₀ out₀ chunk r cs ps out written i → length chunk ≤ i → state r cs ps ≡ fed (state r₀ cs₀ ps₀) chunk
unfolding fed
feeding-kept {chunk = chunk} {r = r} {cs = cs} {ps = ps} {i = i} f over =
    sym (f.kept ∙ ap (fed (state r cs ps)) (drop_of_length-le chunk {i = i} over))
