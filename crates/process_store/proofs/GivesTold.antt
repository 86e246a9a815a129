use Rattle.std.proofs.Common.{◌≡◌, ◌≢◌, ℕ, List, [], ◌++◌, Option, Some, None, IfSome, true, refl, sym, ◌∙◌, ap, subst}
use Rattle.host_port.specs.declared.call.Call.{Call}
use Rattle.host_port.specs.declared.request.Request.{Request}
use Rattle.resource_table.specs.Handles.{numbers_of}
use Rattle.resource_table.specs.Steps.{Told}
use Rattle.world_rules.specs.declared.entry.Side.{Side}
use Rattle.world_rules.specs.declared.entry.Side.TheVariants as SideIs
use Rattle.world_rules.specs.declared.halt.End.{End}
use Rattle.world_rules.specs.declared.halt.End.TheVariants as EndIs
use Rattle.world_rules.specs.declared.halt.Halt.{Halt}
use Rattle.world_rules.specs.declared.halt.Halt.TheVariants as HaltIs
use Rattle.world_rules.specs.declared.life.Birth.{Birth}
use Rattle.world_rules.specs.Allowed.{GivesTurn, IsWith, RetryEndsSo, SpawnFits, WantFits}
use Rattle.world_rules.specs.Births.{Terms}
use Rattle.world_rules.specs.Book.{Book}
use Rattle.world_rules.specs.Calls.{call_of}
use Rattle.world_rules.specs.Lives.{Setting}
use Rattle.world_rules.specs.Rules.{turned}
use Rattle.world_rules.specs.Told.{told}
use Rattle.world_rules.specs.Views.{Given, Want, Ends, want_of, wanted_in}
use Rattle.world_rules.specs.World.{World, Process, Stage, Unborn, Ready, Out, Waiting, Doomed, Ended, is_ended}
use Rattle.node_state.specs.Fits.{Brought, give_of}
use Rattle.node_state.specs.Seats.{Meaning, Seat}
use Rattle.node_state.specs.Streaming.{StreamsFit, streamed_after}
use Rattle.node_mirror.specs.Slots.{Slot, SlotFits, Nobody, Home, Asleep, Giving, Away, Fated, Gone}
use Rattle.node_mirror.specs.Fits.{TurnFits, HasBirth}
use Rattle.node_mirror.proofs.MayGive.{may-give}
use Rattle.host_calls.specs.declared.proc.Proc.{Proc}
use Rattle.host_calls.specs.Shown.{brought_by, seat_of, streams_by}
use Rattle.process_store.specs.declared.store.Store.{Store}
use Rattle.process_store.specs.Gives.{ComesBack}
use Rattle.process_store.specs.Holds.{place_at}
use Rattle.process_store.specs.NodeKeeps.{NodeKeeps}
use Rattle.process_store.specs.Seen.{Seen}
use Rattle.process_store.specs.Takes.{IsFatedSlot, RecordsGive}
use Rattle.process_store.proofs.AsItComes.{comes_as}

-- What a halt tells of the Give that has it, and what a slot tells of who comes back.

-- WHO COMES BACK

ended_with : (stage : Stage) (worker : ℕ) → is_ended stage ≡ true → IsWith stage worker → ⊥
ended_with Unborn worker ended is_with = is_with
ended_with Ready worker ended is_with = is_with
ended_with (Out other) worker ended is_with = cc
ended_with (Waiting request) worker ended is_with = is_with
ended_with (Doomed other end) worker ended is_with = cc
ended_with (Ended end) worker ended is_with = is_with

doomed_by : {E P : Type 0} (engines : Meaning E P) (programs : List P) (p : Process) (slot : Slot E) (worker : ℕ) → SlotFits engines programs p slot → IsWith p.stage worker → IsFatedSlot slot
    → (end : End) × (p.stage ≡ Doomed worker end)
doomed_by engines programs p Nobody worker fits is_with fated = absurd fated
doomed_by engines programs p (Home seat) worker fits is_with fated = absurd fated
doomed_by engines programs p (Asleep seat ask) worker fits is_with fated = absurd fated
doomed_by engines programs p (Giving seat ask) worker fits is_with fated = absurd fated
doomed_by engines programs p (Away other) worker fits is_with fated = absurd fated
doomed_by engines programs p (Fated other end) worker fits is_with fated =
    let same : other ≡ worker = subst (λ (s : Stage). IsWith s worker) fits is_with in
    (end, fits ∙ ap (λ (n : ℕ). Doomed n end) same)
doomed_by engines programs p Gone worker fits is_with fated = absurd fated

out_by : {E P : Type 0} (engines : Meaning E P) (programs : List P) (p : Process) (slot : Slot E) (worker : ℕ) → SlotFits engines programs p slot → IsWith p.stage worker → (IsFatedSlot slot → ⊥)
    → p.stage ≡ Out worker
out_by engines programs p Nobody worker fits is_with unfated = absurd (subst (λ (q : Process). IsWith q.stage worker) fits is_with)
out_by engines programs p (Home seat) worker fits is_with unfated = absurd (subst (λ (s : Stage). IsWith s worker) fits.stage is_with)
out_by engines programs p (Asleep seat ask) worker fits is_with unfated = absurd (subst (λ (s : Stage). IsWith s worker) fits.stage is_with)
out_by engines programs p (Giving seat ask) worker fits is_with unfated = absurd (subst (λ (s : Stage). IsWith s worker) fits.stage is_with)
out_by engines programs p (Away other) worker fits is_with unfated =
    let same : other ≡ worker = subst (λ (s : Stage). IsWith s worker) fits is_with in
    fits ∙ ap Out same
out_by engines programs p (Fated other end) worker fits is_with unfated = absurd (unfated tt)
out_by engines programs p Gone worker fits is_with unfated = absurd (ended_with p.stage worker fits.ended is_with)

module _ {E O P S L : Type 0} {engines : Meaning E P} {may_ask : P → ℕ → Type 0} {tells : Told S} {setting : Setting P} (book : Book) (store : Store E O P S L) (spare pid worker : ℕ)
    (brought : Brought E) (keeps : NodeKeeps engines may_ask tells setting book store spare) (fits : TurnFits engines setting book.births (told book) worker pid brought) where
  with_worker : IsWith ((told book).process pid).stage worker
  with_worker = (may-give book worker pid brought keeps.stands.run fits).away

  pub fated_is : IsFatedSlot (place_at store pid) → (end : End) × (((told book).process pid).stage ≡ Doomed worker end)
  fated_is fated = doomed_by engines setting.programs ((told book).process pid) (place_at store pid) worker (keeps.stands.mirrors.slots pid) with_worker fated

  pub unfated_is : (IsFatedSlot (place_at store pid) → ⊥) → ((told book).process pid).stage ≡ Out worker
  unfated_is unfated = out_by engines setting.programs ((told book).process pid) (place_at store pid) worker (keeps.stands.mirrors.slots pid) with_worker unfated

-- SIDES

abbrev with_halt : {E : Type 0} → Seat E → List Call → Halt → Side → List ℕ → Brought E
with_halt seat calls halt side shed = record { seat = seat; calls = calls; halt = halt; side = side; shed = shed }

-- nothing came with the end of a slice
slice_side : {E P : Type 0} {engines : Meaning E P} {setting : Setting P} (births : List Birth) (w : World) (worker pid : ℕ) (seat : Seat E) (calls : List Call) (side : Side) (shed : List ℕ)
    → TurnFits engines setting births w worker pid (with_halt seat calls HaltIs.Slice side shed) → side ≡ SideIs.Nothing
slice_side births w worker pid seat calls side shed fits = by (w.process pid).owed (fits.allowed None [] tt).turn
  where
    by : (owed : Option Request) → GivesTurn None (births ++ []) w (w.process pid) (give_of worker pid (with_halt seat calls HaltIs.Slice side shed)) owed → side ≡ SideIs.Nothing
    by None turn = turn.halted.0
    by (Some request) turn = absurd turn.halted

-- every halt but the end of a slice, an ask and a retry brings an end, and nothing came with it
ends_by : (terms : Option Terms) (births : List Birth) (w : World) (p : Process) (give : Given) (end : End) (owed : Option Request) → want_of give.halt ≡ Ends end
    → GivesTurn terms births w p give owed → give.side ≡ SideIs.Nothing
ends_by terms births w p give end None wants turn = (subst (λ want. WantFits terms births w p give want) wants turn.halted).0
ends_by terms births w p give end (Some request) wants turn = (subst (λ want. RetryEndsSo terms births w p give request want) wants turn.halted).1

ends_side : {E P : Type 0} {engines : Meaning E P} {setting : Setting P} (births : List Birth) (w : World) (worker pid : ℕ) (brought : Brought E) (end : End)
    → TurnFits engines setting births w worker pid brought → want_of brought.halt ≡ Ends end → brought.side ≡ SideIs.Nothing
ends_side births w worker pid brought end fits wants =
    let p : Process = w.process pid in
    let give : Given = give_of worker pid brought in
    let birth : HasBirth None (births ++ []) w give =
    subst (λ (want : Want). IfSome (wanted_in want p.owed) (λ (r : Request). SpawnFits None (births ++ []) (call_of r) p.stage w (turned p give) r SideIs.Nothing)) (sym wants) tt in
    ends_by None (births ++ []) w p give end p.owed wants (fits.allowed None [] birth).turn

pub which_end : (halt : Halt) → halt ≢ HaltIs.Slice → ((request : Request) → halt ≢ HaltIs.Asks request) → halt ≢ HaltIs.Again → (end : End) × (want_of halt ≡ Ends end)
which_end HaltIs.Slice slice asks again = absurd (slice refl)
which_end (HaltIs.Asks request) slice asks again = absurd (asks request refl)
which_end HaltIs.Done slice asks again = (EndIs.Done, refl)
which_end (HaltIs.Trap trap) slice asks again = (EndIs.Trap trap, refl)
which_end (HaltIs.Spent spent) slice asks again = (EndIs.Spent spent, refl)
which_end (HaltIs.Host fault request) slice asks again = (EndIs.Host fault, refl)
which_end HaltIs.NoMemory slice asks again = (EndIs.NoMemory, refl)
which_end HaltIs.Again slice asks again = absurd (again refl)

-- what comes back, its halt, its side and what arrived being these
pub comes_with : {E O P S L : Type 0} {engines : Meaning E P} {setting : Setting P} {tells : Told S} {node : Seen P S} {worker pid : ℕ} (proc : Proc E O P S L) (calls : List Call)
    (halt another : Halt) (side other : Side) (arrived came : Option S) → halt ≡ another → side ≡ other → arrived ≡ came
    → ComesBack engines setting tells node worker pid (brought_by proc calls halt side) (streams_by proc arrived)
    → ComesBack engines setting tells node worker pid (brought_by proc calls another other) (streams_by proc came)
comes_with {engines = engines} {setting = setting} {tells = tells} {node = node} {worker = worker} {pid = pid} proc calls halt another side other arrived came h s a comes =
    subst (λ x. ComesBack engines setting tells node worker pid (brought_by proc calls x other) (streams_by proc came)) h (comes_as proc calls halt side other arrived came s a comes)

pub given_with : {E O P S L : Type 0} (old new : Book) (worker pid : ℕ) (proc : Proc E O P S L) (calls : List Call) (halt another : Halt) (side other : Side) → halt ≡ another → side ≡ other
    → RecordsGive old new worker pid (brought_by proc calls another other) → RecordsGive old new worker pid (brought_by proc calls halt side)
given_with old new worker pid proc calls halt another side other h s given =
    subst (λ x. RecordsGive old new worker pid (brought_by proc calls x side)) (sym h) (subst (λ x. RecordsGive old new worker pid (brought_by proc calls another x)) (sym s) given)

-- the side of a slice, and of an end, of a process that comes back so
pub came_slice : {E O P S L : Type 0} {engines : Meaning E P} {setting : Setting P} {tells : Told S} {node : Seen P S} {worker pid : ℕ} (proc : Proc E O P S L) (calls : List Call) (halt : Halt)
    (side : Side) (arrived : Option S) → halt ≡ HaltIs.Slice → ComesBack engines setting tells node worker pid (brought_by proc calls halt side) (streams_by proc arrived) → side ≡ SideIs.Nothing
came_slice {node = node} {worker = worker} {pid = pid} proc calls halt side arrived h comes =
    slice_side node.book.births (told node.book) worker pid (seat_of proc) calls side (numbers_of proc.shed) (comes_with proc calls halt HaltIs.Slice side side arrived arrived h refl refl comes).fits

pub came_end : {E O P S L : Type 0} {engines : Meaning E P} {setting : Setting P} {tells : Told S} {node : Seen P S} {worker pid : ℕ} (proc : Proc E O P S L) (calls : List Call) (halt : Halt)
    (side : Side) (arrived : Option S) (end : End) → want_of halt ≡ Ends end
    → ComesBack engines setting tells node worker pid (brought_by proc calls halt side) (streams_by proc arrived) → side ≡ SideIs.Nothing
came_end {node = node} {worker = worker} {pid = pid} proc calls halt side arrived end ends comes =
    ends_side node.book.births (told node.book) worker pid (brought_by proc calls halt side) end comes.fits ends

pub comes_from : {E O P S L : Type 0} {engines : Meaning E P} {setting : Setting P} {tells : Told S} (node : Seen P S) (worker pid : ℕ) (proc : Proc E O P S L) (calls : List Call) (halt : Halt)
    (side : Side) (arrived : Option S) → TurnFits engines setting node.book.births (told node.book) worker pid (brought_by proc calls halt side)
    → StreamsFit tells (streamed_after ((told node.book).process pid) (give_of worker pid (brought_by proc calls halt side)) (told node.book).streamed) side (streams_by proc arrived)
    → ComesBack engines setting tells node worker pid (brought_by proc calls halt side) (streams_by proc arrived)
comes_from node worker pid proc calls halt side arrived fits came = record { fits = fits; came = came }
