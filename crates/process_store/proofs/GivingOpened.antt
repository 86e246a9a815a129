use Rattle.std.proofs.Common.{◌≡◌, ◌≤◌, ◌<◌, ℕ, ◌+◌, List, [], ◌∷◌, ◌++◌, Option, Some, None, Contains, length, refl, arith, sym, ◌∙◌, ap, subst}
use Rattle.resource_table.specs.Handles.{Handle, numbers_of, with_handle}
use Rattle.resource_table.specs.Steps.{Told}
use Rattle.resource_table.proofs.Numbers.{numbers_of-with_handle}
use Rattle.message_scratch.specs.Messages.{handles_in, slots_of}
use Rattle.world_rules.specs.declared.life.Ended.{Ended as EndMemory}
use Rattle.world_rules.specs.Lives.{Setting}
use Rattle.world_rules.specs.Settled.{settled, StreamOpened}
use Rattle.world_rules.specs.World.{World}
use Rattle.node_state.specs.Seats.{Meaning, Seat}
use Rattle.node_state.specs.Streaming.{Kept}
use Rattle.node_mirror.specs.Slots.{Home}
use Rattle.node_mirror.specs.Held.{Held, Mirrors}
use Rattle.node_mirror.specs.Steps.{back}
use Rattle.host_calls.specs.declared.proc.Proc.{Proc}
use Rattle.host_calls.specs.Shown.{hands_of, seat_of, shown_part}
use Rattle.process_store.specs.PassOn.{PassesOn}
use Rattle.process_store.proofs.GivingBack.{home_with}
use Rattle.process_store.proofs.GivingOutside.{opened_few, opened_from, passes_from}

-- A process for which a stream was opened is at home, with it in its table.

-- what is mirrored then
pub opened_mirrors : {E O P S L : Type 0} (engines : Meaning E P) (setting : Setting P) (w : World) (held : Held E) (ends : List EndMemory) (proc is : Proc E O P S L) (engine : E) (stream : S)
    → is.table ≡ with_handle (record { number = held.streams; stream = stream }) proc.table → is ≡ record proc { engine = engine; owed = None; table = is.table }
    → Mirrors engines setting w (record (back held proc.start.pid (Home (record (seat_of proc) { engine = engine; part = settled (shown_part proc) (StreamOpened held.streams); owed = None })) held.time
    (numbers_of proc.shed)) { streams = held.streams + 1 }) ends
    → Mirrors engines setting w (home_with held proc.start.pid (seat_of is) (numbers_of proc.shed) 1) ends
opened_mirrors {E} {O} {P} {S} {L} engines setting w held ends proc is engine stream table same m =
    let numbers : numbers_of is.table ≡ (settled (shown_part proc) (StreamOpened held.streams)).handles =
    ap (λ hs. numbers_of hs) table ∙ numbers_of-with_handle (record { number = held.streams; stream = stream }) proc.table in
    subst (λ (p : Proc E O P S L). Mirrors engines setting w (home_with held proc.start.pid (seat_of p) (numbers_of proc.shed) 1) ends) (sym same)
    (subst (λ (ns : List ℕ). Mirrors engines setting w (home_with held proc.start.pid (record (seat_of proc) { engine = engine; part = record (shown_part proc) { handles = ns }; owed = None })
    (numbers_of proc.shed) 1) ends) (sym numbers) m)

-- where its streams come from
pub opened_passes : {E O P S L : Type 0} (tells : Told S) (was after : Kept S) (proc is : Proc E O P S L) (opened other : Handle S) → is.table ≡ with_handle opened proc.table → other ≡ opened
    → is.scratch ≡ proc.scratch → PassesOn tells was after (hands_of is) proc.shed → PassesOn tells was after (hands_of proc ++ other ∷ []) proc.shed
opened_passes {S = S} tells was after proc is opened other table same scratch passes =
    passes_from tells was after (hands_of is) (hands_of proc ++ other ∷ []) proc.shed
    (λ h has. opened_from proc.table is.table (handles_in (slots_of proc.scratch)) opened other table same h
    (subst (λ sc. Contains (is.table ++ handles_in (slots_of sc)) h) scratch has)) passes

-- there is one more of them, at most
pub opened_more : {E O P S L : Type 0} (proc is : Proc E O P S L) (opened : Handle S) → is.table ≡ with_handle opened proc.table → is.scratch ≡ proc.scratch → length (hands_of is) ≤ length (hands_of proc) + 1
opened_more proc is opened table scratch =
    subst (λ sc. length (is.table ++ handles_in (slots_of sc)) ≤ length (hands_of proc) + 1) (sym scratch) (opened_few proc.table is.table (handles_in (slots_of proc.scratch)) opened table)
