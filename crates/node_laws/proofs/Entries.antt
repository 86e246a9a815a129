use Rattle.std.proofs.Common.{◌≡◌, ◌≢◌, ◌⊎◌, ℕ, ◌≤◌, List, [], ◌∷◌, ◌++◌, Option, Some, refl, sym, ◌∙◌, ap, subst}
use Rattle.std.proofs.Math.Logic.{∥∥₁_elim}
use Rattle.std.proofs.Math.Nat.{le_trans}
use Rattle.std.proofs.Props.{props}
use Rattle.host_port.specs.declared.request.Request.{Request}
use Rattle.world_rules.specs.declared.entry.Entry.{Entry}
use Rattle.world_rules.specs.declared.entry.Side.{Side}
use Rattle.world_rules.specs.declared.entry.Side.TheVariants as SideIs
use Rattle.world_rules.specs.declared.life.Birth.{Birth}
use Rattle.world_rules.specs.declared.life.Ended.{Ended as EndMemory}
use Rattle.world_rules.specs.Book.{Book}
use Rattle.world_rules.specs.Views.{Given, Giving, deed_of, want_of, wanted_in}
use Rattle.world_rules.specs.Streams.{Streamed}
use Rattle.world_rules.specs.World.{World, first_world}
use Rattle.world_rules.specs.Rules.{next}
use Rattle.world_rules.specs.Births.{Terms}
use Rattle.world_rules.specs.Allowed.{Allowed}
use Rattle.world_rules.specs.Told.{all_after, AllAllowed, told, EntriesAllowed}
use Rattle.world_rules.specs.Sound.{IsSound}
use Rattle.world_rules.specs.Touches.{GoOn, counts_of}
use Rattle.world_rules.specs.Placed.{IsPlaced}
use Rattle.world_rules.specs.Lives.{Setting, IsRun, terms_of}
use Rattle.resource_table.specs.Handles.{Handle}
use Rattle.resource_table.specs.Steps.{Told}
use Rattle.node_state.specs.Seats.{Meaning}
use Rattle.node_state.specs.Fits.{Brought, TurnFits, give_of, entry_of}
use Rattle.node_state.specs.Streaming.{streamed_beside, streamed_after, BroughtStreams, StreamsFit, arrived_as, Kept, StreamsStand, AreOwned, HandsOn}
use Rattle.node_state.specs.Changes.{Records}
use Rattle.node_laws.proofs.Folds.{told-last}
use Rattle.node_laws.proofs.Streamed.{others-stream-nothing, gives-stream}
use Rattle.node_laws.proofs.Apart.{fresh-number}
use Rattle.node_laws.proofs.Standing.{Ready, handed-on, others-ready, give-ready, same-beside, streams-in-hand}

-- The streams of a node after a recorded entry.

-- the counts of a sound world never go back
abbrev pub CountsGo : Type 0
CountsGo = (terms : Option Terms) (births : List Birth) (w : World) (entry : Entry) → IsSound w → Allowed terms births w entry → GoOn (counts_of w) (counts_of (next births w entry))

last_allowed : (terms : Option Terms) (births : List Birth) (w : World) (entries : List Entry) (entry : Entry) → AllAllowed terms births w (entries ++ entry ∷ [])
    → Allowed terms births (all_after births w entries) entry
last_allowed terms births w [] entry allowed = allowed.0
last_allowed terms births w (e ∷ es) entry allowed = last_allowed terms births (next births w e) es entry allowed.1

-- the entry of a journal that stands was allowed
recorded_allowed : (terms : Option Terms) (old new : Book) (entry : Entry) → new.births ≡ old.births → new.entries ≡ old.entries ++ entry ∷ [] → EntriesAllowed terms new
    → Allowed terms old.births (told old) entry
unfolding told EntriesAllowed
recorded_allowed terms old new entry births entries allowed =
    let P : List Birth → Type 0 = λ bs. AllAllowed terms bs (first_world bs) new.entries in
    let Q : List Entry → Type 0 = λ es. AllAllowed terms old.births (first_world old.births) es in
    last_allowed terms old.births (first_world old.births) old.entries entry (subst Q entries (subst P births allowed))

-- no stream number is given back
streams_go : {P : Type 0} (setting : Setting P) (old new : Book) (entry : Entry) (ends : List EndMemory) → CountsGo → IsSound (told old) → Records old new entry ends → IsRun setting new
    → (told old).streams ≤ (told new).streams
streams_go setting old new entry ends go sound records run =
    let allowed = recorded_allowed (Some (terms_of setting)) old new entry records.births records.entries run.legal.entries in
    subst (λ (v : World). (told old).streams ≤ v.streams) (sym (told-last old new entry records.births records.entries))
    (go (Some (terms_of setting)) old.births (told old) entry sound allowed).streams

-- an entry that is no Give
pub others-keep : {P S : Type 0} (setting : Setting P) (tells : Told S) (old new : Book) (was is : Kept S) (pid : ℕ) (entry : Entry) (ends : List EndMemory) → CountsGo → IsSound (told old)
    → ((give : Given) → deed_of entry ≢ Giving give) → Records old new entry ends → IsRun setting new → StreamsStand tells (told old) was
    → HandsOn tells was is pid (was.hands pid ++ was.mail pid) [] → StreamsStand tells (told new) is
others-keep {S = S} setting tells old new was is pid entry ends go sound other records run stands hands =
    let same : (told new).streamed ≡ (told old).streamed =
    ap (λ (v : World). v.streamed) (told-last old new entry records.births records.entries) ∙ others-stream-nothing old.births (told old) entry other in
    let more : (told old).streams ≤ (told new).streams = streams_go setting old new entry ends go sound records run in
    handed-on tells (told new) was is pid (was.hands pid ++ was.mail pid) []
    (subst (λ (streamed : ℕ → Streamed). Ready tells streamed was pid (was.hands pid ++ was.mail pid) []) (sym same) (others-ready tells (told old) was pid stands)) hands
    (λ k past. ap (λ (streamed : ℕ → Streamed). streamed k) same ∙ stands.undrawn k (le_trans more past))

streamed_set : (a b : ℕ → Streamed) → IsProp (a ≡ b)
streamed_set a b = hlevel props

-- a Give
pub gives-keep : {E P S : Type 0} (engines : Meaning E P) (setting : Setting P) (tells : Told S) (old new : Book) (was is : Kept S) (worker pid : ℕ) (brought : Brought E)
    (streams : BroughtStreams S) (side : Side)
    (ends : List EndMemory) → CountsGo → IsSound (told old) → IsPlaced (told old) → TurnFits engines setting old.births (told old) worker pid brought
    → ∥ (side ≡ brought.side) ⊎ ((brought.side ≡ SideIs.Nothing) × (side ≡ SideIs.NoMemory)) ∥₁ → Records old new (entry_of worker pid brought side) ends → IsRun setting new
    → StreamsStand tells (told old) was → AreOwned (told old) was
    → StreamsFit tells (streamed_after ((told old).process pid) (give_of worker pid brought) (told old).streamed) brought.side streams
    → HandsOn tells was is pid (streams.hands ++ was.mail pid ++ arrived_as (told old).streams streams.arrived) streams.shed → StreamsStand tells (told new) is
gives-keep {E = E} {S = S} engines setting tells old new was is worker pid brought streams side ends go sound placed fits beside records run stands owned come hands =
    let w : World = told old in
    let after : ℕ → Streamed = streamed_after (w.process pid) (give_of worker pid brought) w.streamed in
    let o : Option Request = wanted_in (want_of brought.halt) (w.process pid).owed in
    let give : Given = record (give_of worker pid brought) { side = side } in
    let pool : List (Handle S) = streams.hands ++ was.mail pid ++ arrived_as w.streams streams.arrived in
    let came : streamed_beside o side w.streamed ≡ streamed_beside o brought.side w.streamed =
    ∥∥₁_elim beside (streamed_set (streamed_beside o side w.streamed) (streamed_beside o brought.side w.streamed)) (same-beside o side brought.side w.streamed) in
    let same : (told new).streamed ≡ after =
    ap (λ (v : World). v.streamed) (told-last old new (entry_of worker pid brought side) records.births records.entries)
    ∙ gives-stream old.births w give (entry_of worker pid brought side) refl fits.allowed.away ∙ came in
    let more : w.streams ≤ (told new).streams = streams_go setting old new (entry_of worker pid brought side) ends go sound records run in
    handed-on tells (told new) was is pid pool streams.shed
    (subst (λ (streamed : ℕ → Streamed). Ready tells streamed was pid pool streams.shed) (sym same)
    (give-ready engines setting tells old.births w worker pid brought streams was sound placed fits stands owned come)) hands
    (λ k past. ap (λ (streamed : ℕ → Streamed). streamed k) same
    ∙ streams-in-hand engines setting old.births w worker pid brought sound placed fits k (fresh-number w sound placed k pid (le_trans more past))
    ∙ stands.undrawn k (le_trans more past))
