use Rattle.std.proofs.Common.{◌≡◌, ◌≢◌, ℕ, List, Option, Some, None, Bool, true, false, is_some, refl, sym, ◌∙◌, ap, subst}
use Rattle.host_port.specs.declared.call.Call.{Call}
use Rattle.host_port.specs.declared.request.Request.{Request}
use Rattle.world_rules.specs.declared.entry.Side.{Side}
use Rattle.world_rules.specs.declared.entry.Side.TheVariants as SideIs
use Rattle.world_rules.specs.declared.halt.End.{End}
use Rattle.world_rules.specs.declared.halt.End.TheVariants as EndIs
use Rattle.world_rules.specs.declared.halt.Halt.{Halt}
use Rattle.world_rules.specs.declared.halt.Halt.TheVariants as HaltIs
use Rattle.world_rules.specs.declared.life.Birth.{Birth}
use Rattle.world_rules.specs.Views.{Given, Ends, want_of, is_opened}
use Rattle.world_rules.specs.World.{World, Process}
use Rattle.world_rules.specs.Allowed.{GivesTurn, WantFits, RetryEndsSo}
use Rattle.world_rules.specs.Births.{Terms}
use Rattle.world_rules.specs.Lives.{Setting, terms_of}
use Rattle.node_state.specs.Seats.{Meaning, Seat}
use Rattle.node_state.specs.Fits.{Brought, TurnFits, give_of}
use Rattle.node_state.specs.Streaming.{StreamsFit, streamed_after}
use Rattle.resource_table.specs.Handles.{numbers_of}
use Rattle.resource_table.specs.Steps.{Told}
use Rattle.world_rules.specs.Book.{Book}
use Rattle.world_rules.specs.Told.{told}
use Rattle.process_table.specs.Takes.{RecordsGive}
use Rattle.host_calls.specs.declared.proc.Proc.{Proc}
use Rattle.host_calls.specs.Shown.{brought_by, seat_of, streams_by}
use Rattle.process_table.specs.Seen.{Seen}
use Rattle.process_table.specs.Gives.{ComesBack, IsGivenBack}

-- What a halt tells of the Give that has it.

abbrev with_halt : {E : Type 0} → Seat E → List Call → Halt → Side → List ℕ → Brought E
with_halt seat calls halt side shed = record { seat = seat; calls = calls; halt = halt; side = side; shed = shed }

-- nothing came with the end of a slice
pub slice-side : {E P : Type 0} {engines : Meaning E P} {setting : Setting P} (births : List Birth) (w : World) (worker pid : ℕ) (seat : Seat E) (calls : List Call) (side : Side) (shed : List ℕ)
    → TurnFits engines setting births w worker pid (with_halt seat calls HaltIs.Slice side shed) → side ≡ SideIs.Nothing
slice-side {setting = setting} births w worker pid seat calls side shed fits = by (w.process pid).owed fits.allowed.turn
  where
    by : (owed : Option Request) → GivesTurn (Some (terms_of setting)) births w (w.process pid) (give_of worker pid (with_halt seat calls HaltIs.Slice side shed)) owed → side ≡ SideIs.Nothing
    by None turn = turn.halted.0
    by (Some request) turn = absurd turn.halted

-- every halt but the end of a slice, an ask and a retry brings an end, and nothing came with it
ends_by : (terms : Option Terms) (births : List Birth) (w : World) (p : Process) (give : Given) (end : End) (owed : Option Request) → want_of give.halt ≡ Ends end → GivesTurn terms births w p give owed
    → give.side ≡ SideIs.Nothing
ends_by terms births w p give end None wants turn = (subst (λ want. WantFits terms births w p give want) wants turn.halted).0
ends_by terms births w p give end (Some request) wants turn = (subst (λ want. RetryEndsSo terms births w p give request want) wants turn.halted).1

pub ends-side : {E P : Type 0} {engines : Meaning E P} {setting : Setting P} (births : List Birth) (w : World) (worker pid : ℕ) (brought : Brought E) (end : End)
    → TurnFits engines setting births w worker pid brought → want_of brought.halt ≡ Ends end → brought.side ≡ SideIs.Nothing
ends-side {setting = setting} births w worker pid brought end fits wants = ends_by (Some (terms_of setting)) births w (w.process pid) (give_of worker pid brought) end (w.process pid).owed wants fits.allowed.turn

pub which-end : (halt : Halt) → halt ≢ HaltIs.Slice → ((request : Request) → halt ≢ HaltIs.Asks request) → halt ≢ HaltIs.Again → (end : End) × (want_of halt ≡ Ends end)
which-end HaltIs.Slice slice asks again = absurd (slice refl)
which-end (HaltIs.Asks request) slice asks again = absurd (asks request refl)
which-end HaltIs.Done slice asks again = (EndIs.Done, refl)
which-end (HaltIs.Trap trap) slice asks again = (EndIs.Trap trap, refl)
which-end (HaltIs.Spent spent) slice asks again = (EndIs.Spent spent, refl)
which-end (HaltIs.Host fault request) slice asks again = (EndIs.Host fault, refl)
which-end HaltIs.NoMemory slice asks again = (EndIs.NoMemory, refl)
which-end HaltIs.Again slice asks again = absurd (again refl)

-- nothing arrived where the side says of no stream
pub arrived-none : {S : Type 0} (arrived : Option S) (side : Side) → is_some arrived ≡ is_opened side → is_opened side ≡ false → arrived ≡ None
arrived-none None side same closed = refl
arrived-none (Some s) side same closed = let e : true ≡ false = same ∙ closed in let h : ⊥ = cc in absurd h

-- what comes back, its side and what arrived being these
pub comes-as : {E O P S L : Type 0} {engines : Meaning E P} {setting : Setting P} {tells : Told S} {node : Seen P S} {worker pid : ℕ} (proc : Proc E O P S L) (calls : List Call) (halt : Halt) (side other : Side)
    (arrived came : Option S) → side ≡ other → arrived ≡ came → ComesBack engines setting tells node worker pid (brought_by proc calls halt side) (streams_by proc arrived)
    → ComesBack engines setting tells node worker pid (brought_by proc calls halt other) (streams_by proc came)
comes-as {engines = engines} {setting = setting} {tells = tells} {node = node} {worker = worker} {pid = pid} proc calls halt side other arrived came s a comes =
    subst (λ x. ComesBack engines setting tells node worker pid (brought_by proc calls halt x) (streams_by proc came)) s
    (subst (λ x. ComesBack engines setting tells node worker pid (brought_by proc calls halt side) (streams_by proc x)) a comes)

pub came-none : {E O P S L : Type 0} {engines : Meaning E P} {setting : Setting P} {tells : Told S} {node : Seen P S} {worker pid : ℕ} (proc : Proc E O P S L) (calls : List Call) (halt : Halt) (side other : Side)
    (arrived : Option S) → side ≡ other → is_opened other ≡ false → ComesBack engines setting tells node worker pid (brought_by proc calls halt side) (streams_by proc arrived) → arrived ≡ None
came-none proc calls halt side other arrived s closed comes = arrived-none arrived side comes.came.arrived (ap is_opened s ∙ closed)

-- what was given back, likewise
pub back-as : {E O P S L : Type 0} {setting : Setting P} {tells : Told S} {old new : Seen P S} {worker pid : ℕ} (proc : Proc E O P S L) (calls : List Call) (halt : Halt) (side other : Side) → side ≡ other
    → IsGivenBack setting tells old new worker pid (brought_by proc calls halt other) → IsGivenBack setting tells old new worker pid (brought_by proc calls halt side)
back-as {setting = setting} {tells = tells} {old = old} {new = new} {worker = worker} {pid = pid} proc calls halt side other s back =
    subst (λ x. IsGivenBack setting tells old new worker pid (brought_by proc calls halt x)) (sym s) back

-- the same with the halt
pub comes-with : {E O P S L : Type 0} {engines : Meaning E P} {setting : Setting P} {tells : Told S} {node : Seen P S} {worker pid : ℕ} (proc : Proc E O P S L) (calls : List Call) (halt another : Halt)
    (side other : Side) (arrived came : Option S) → halt ≡ another → side ≡ other → arrived ≡ came → ComesBack engines setting tells node worker pid (brought_by proc calls halt side) (streams_by proc arrived)
    → ComesBack engines setting tells node worker pid (brought_by proc calls another other) (streams_by proc came)
comes-with {engines = engines} {setting = setting} {tells = tells} {node = node} {worker = worker} {pid = pid} proc calls halt another side other arrived came h s a comes =
    subst (λ x. ComesBack engines setting tells node worker pid (brought_by proc calls x other) (streams_by proc came)) h (comes-as proc calls halt side other arrived came s a comes)

pub given-with : {E O P S L : Type 0} (old new : Book) (worker pid : ℕ) (proc : Proc E O P S L) (calls : List Call) (halt another : Halt) (side other : Side) → halt ≡ another → side ≡ other
    → RecordsGive old new worker pid (brought_by proc calls another other) → RecordsGive old new worker pid (brought_by proc calls halt side)
given-with old new worker pid proc calls halt another side other h s given =
    subst (λ x. RecordsGive old new worker pid (brought_by proc calls x side)) (sym h) (subst (λ x. RecordsGive old new worker pid (brought_by proc calls another x)) (sym s) given)

-- the side of a slice, and of an end, of a process that comes back so
pub came-slice : {E O P S L : Type 0} {engines : Meaning E P} {setting : Setting P} {tells : Told S} {node : Seen P S} {worker pid : ℕ} (proc : Proc E O P S L) (calls : List Call) (halt : Halt) (side : Side)
    (arrived : Option S) → halt ≡ HaltIs.Slice → ComesBack engines setting tells node worker pid (brought_by proc calls halt side) (streams_by proc arrived) → side ≡ SideIs.Nothing
came-slice {node = node} {worker = worker} {pid = pid} proc calls halt side arrived h comes =
    slice-side node.book.births (told node.book) worker pid (seat_of proc) calls side (numbers_of proc.shed) (comes-with proc calls halt HaltIs.Slice side side arrived arrived h refl refl comes).fits

pub came-end : {E O P S L : Type 0} {engines : Meaning E P} {setting : Setting P} {tells : Told S} {node : Seen P S} {worker pid : ℕ} (proc : Proc E O P S L) (calls : List Call) (halt : Halt) (side : Side)
    (arrived : Option S) (end : End) → want_of halt ≡ Ends end → ComesBack engines setting tells node worker pid (brought_by proc calls halt side) (streams_by proc arrived) → side ≡ SideIs.Nothing
came-end {node = node} {worker = worker} {pid = pid} proc calls halt side arrived end ends comes =
    ends-side node.book.births (told node.book) worker pid (brought_by proc calls halt side) end comes.fits ends

pub comes-from : {E O P S L : Type 0} {engines : Meaning E P} {setting : Setting P} {tells : Told S} (node : Seen P S) (worker pid : ℕ) (proc : Proc E O P S L) (calls : List Call) (halt : Halt) (side : Side)
    (arrived : Option S) → TurnFits engines setting node.book.births (told node.book) worker pid (brought_by proc calls halt side)
    → StreamsFit tells (streamed_after ((told node.book).process pid) (give_of worker pid (brought_by proc calls halt side)) (told node.book).streamed) side (streams_by proc arrived)
    → ComesBack engines setting tells node worker pid (brought_by proc calls halt side) (streams_by proc arrived)
comes-from node worker pid proc calls halt side arrived fits came = record { fits = fits; came = came }
