use Rattle.std.proofs.Common.{◌≡◌, ℕ, List, Option, Some, None, Bool, true, false, is_some, refl, sym, ◌∙◌, ap, subst}
use Rattle.host_port.specs.declared.call.Call.{Call}
use Rattle.resource_table.specs.Steps.{Told}
use Rattle.world_rules.specs.declared.entry.Side.{Side}
use Rattle.world_rules.specs.declared.halt.Halt.{Halt}
use Rattle.world_rules.specs.Lives.{Setting}
use Rattle.world_rules.specs.Views.{is_opened}
use Rattle.node_state.specs.Seats.{Meaning}
use Rattle.host_calls.specs.declared.proc.Proc.{Proc}
use Rattle.host_calls.specs.Shown.{brought_by, streams_by}
use Rattle.process_store.specs.Seen.{Seen}
use Rattle.process_store.specs.Gives.{ComesBack, IsGivenBack}

-- What comes back, by what is known of its side.

-- nothing arrived where the side says of no stream
arrived_none : {S : Type 0} (arrived : Option S) (side : Side) → is_some arrived ≡ is_opened side → is_opened side ≡ false → arrived ≡ None
arrived_none None side same closed = refl
arrived_none (Some s) side same closed = let e : true ≡ false = same ∙ closed in let h : ⊥ = cc in absurd h

pub came_none : {E O P S L : Type 0} {engines : Meaning E P} {setting : Setting P} {tells : Told S} {node : Seen P S} {worker pid : ℕ} (proc : Proc E O P S L) (calls : List Call) (halt : Halt)
    (side other : Side) (arrived : Option S) → side ≡ other → is_opened other ≡ false
    → ComesBack engines setting tells node worker pid (brought_by proc calls halt side) (streams_by proc arrived) → arrived ≡ None
came_none proc calls halt side other arrived s closed comes = arrived_none arrived side comes.came.arrived (ap is_opened s ∙ closed)

-- one did where it says so
pub came_some : {E O P S L : Type 0} {engines : Meaning E P} {setting : Setting P} {tells : Told S} {node : Seen P S} {worker pid : ℕ} (proc : Proc E O P S L) (calls : List Call) (halt : Halt)
    (side other : Side) (arrived : Option S) → side ≡ other → is_opened other ≡ true
    → ComesBack engines setting tells node worker pid (brought_by proc calls halt side) (streams_by proc arrived) → arrived ≡ None → ⊥
came_some proc calls halt side other arrived s opens comes none =
    let e : true ≡ false = sym (ap is_opened s ∙ opens) ∙ sym comes.came.arrived ∙ ap (λ o. is_some o) none in
    cc

-- what comes back, its side and what arrived being these
pub comes_as : {E O P S L : Type 0} {engines : Meaning E P} {setting : Setting P} {tells : Told S} {node : Seen P S} {worker pid : ℕ} (proc : Proc E O P S L) (calls : List Call) (halt : Halt)
    (side other : Side) (arrived came : Option S) → side ≡ other → arrived ≡ came
    → ComesBack engines setting tells node worker pid (brought_by proc calls halt side) (streams_by proc arrived)
    → ComesBack engines setting tells node worker pid (brought_by proc calls halt other) (streams_by proc came)
comes_as {engines = engines} {setting = setting} {tells = tells} {node = node} {worker = worker} {pid = pid} proc calls halt side other arrived came s a comes =
    subst (λ x. ComesBack engines setting tells node worker pid (brought_by proc calls halt x) (streams_by proc came)) s
    (subst (λ x. ComesBack engines setting tells node worker pid (brought_by proc calls halt side) (streams_by proc x)) a comes)

-- what was given back, likewise
pub back_as : {E O P S L : Type 0} {setting : Setting P} {tells : Told S} {old new : Seen P S} {worker pid : ℕ} (proc : Proc E O P S L) (calls : List Call) (halt : Halt) (side other : Side) → side ≡ other
    → IsGivenBack setting tells old new worker pid (brought_by proc calls halt other) → IsGivenBack setting tells old new worker pid (brought_by proc calls halt side)
back_as {setting = setting} {tells = tells} {old = old} {new = new} {worker = worker} {pid = pid} proc calls halt side other s back =
    subst (λ x. IsGivenBack setting tells old new worker pid (brought_by proc calls halt x)) (sym s) back
