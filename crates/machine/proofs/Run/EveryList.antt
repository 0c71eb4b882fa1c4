-- Every list of calls has a run: the claim about whole runs speaks of each of them.
use Rattle.std.proofs.Common.{◌≡◌, List, [], ◌∷◌, refl, ap}
use Rattle.machine.specs.Rule.{World, Result, Call, rule}
use Rattle.machine.specs.Words.{Event}
use Rattle.machine.specs.Claims.{Run, fresh, then}

-- the calls of a list of events
unfoldable pub calls : List Event → List Call
calls [] = []
calls (e ∷ es) = e.call ∷ calls es

-- the events, newest first, of calls, oldest first, that are played from the world w after the events es: each call gets the answer that the
-- rule gives
unfoldable pub played : World → List Event → List Call → List Event
played w es [] = es
played w es (x ∷ xs) =
    let r : Result = rule w x in
    played r.world (record { call = x; answer = r.answer } ∷ es) xs

-- what is played is a run
pub played-runs : (w₀ w : World) (es : List Event) → Run w₀ es w → (xs : List Call) → (w' : World) × Run w₀ (played w es xs) w'
unfolding played
played-runs w₀ w es run [] = (w, run)
played-runs w₀ w es run (x ∷ xs) =
    let r : Result = rule w x in
    played-runs w₀ r.world (record { call = x; answer = r.answer } ∷ es) (then x r.answer run (record { answer_is = refl; world_is = refl })) xs

-- from every world w₀, with the newest first
pub every-list-runs : (w₀ : World) (cs : List Call) → (es : List Event) × (w : World) × Run w₀ es w × (calls es ≡ cs)
unfolding calls
every-list-runs w₀ [] = ([], w₀, fresh, refl)
every-list-runs w₀ (c ∷ cs) =
    let before = every-list-runs w₀ cs in
    let now : Result = rule before.1 c in
    (record { call = c; answer = now.answer } ∷ before.0, now.world, then c now.answer before.2 (record { answer_is = refl; world_is = refl }), ap (◌∷◌ c) before.3)
