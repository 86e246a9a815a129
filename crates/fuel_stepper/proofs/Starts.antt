-- How an instance starts.
use Rattle.std.proofs.Common.{◌≡◌, ℕ, ◌+◌, ◌-◌, ◌≤◌, Bool, List, [], length, replicate, Option, Some, None, refl, sym, ap, ◌∙◌, subst, arith}
use Rattle.std.specs.Prelude.{slice_get}
use Rattle.host_port.specs.Standing.{Running}
use Rattle.host_port.specs.declared.start.Start.{Start}
use Rattle.wasm_form.specs.declared.parts.Parts.{Parts}
use Rattle.code_map.specs.declared.callee.Callee.{Callee}
use Rattle.code_map.specs.declared.map.CodeMap.{CodeMap}
use Rattle.code_map.specs.Targets.{count_if}
use Rattle.module_validator.specs.ValidModule.{ValidModule}
use Rattle.instance_store.specs.Instance.{Instance, config_of}
use Rattle.linear_memory.specs.Contents.{Contents}
use Rattle.tree_machine.specs.Config.{Config, Invocation}
use Rattle.tree_machine.specs.Begin.{begin, instance_of}
use Rattle.tree_machine.specs.Typed.{IsTypedStart}
use Rattle.flat_machine.specs.declared.halt.Halt.{Halt}
use Rattle.flat_machine.specs.Flat.{Place, Flat}
use Rattle.flat_machine.specs.Mapping.{HasResults}
use Rattle.flat_machine.specs.Runs.{IsSafe}
use Rattle.flat_machine.specs.Halts.{HaltsSo}
use Rattle.flat_machine.specs.Stands.{Stands, HaltStands, size_of_body, first_place, first_flat}
use Rattle.fuel_stepper.specs.declared.stage.Stage.{Stage}
use Rattle.fuel_stepper.specs.First.{given_by, first_results}
use Rattle.fuel_stepper.specs.Stages.{stage_behind, phase_of}
use Rattle.fuel_stepper.specs.Life.{Life, StandsAt, StandsIn, HasRun}
use Rattle.fuel_stepper.proofs.Bridge.{IsKnown, safe, halts, first_stands, first_callee}
use Rattle.fuel_stepper.proofs.Halted.{behind_stands}

-- a start, and the machine that is made of its store
module _ (v : ValidModule) (p : Parts) (q : CodeMap) (p_is : p ≡ v.parts) (q_is : q ≡ v.map) (known : IsKnown p q) (start : Start)
    (begins : begin v.parts start ≡ None) (typed : IsTypedStart start)
    (store : Instance) (store_is : config_of store ≡ instance_of v.parts start) (size results : ℕ)
    (size_is : size ≡ size_of_body (slice_get p.bodies 0)) (results_are : results ≡ first_results p q) (machine : Flat)
    (machine_is : machine ≡ record {
      values = replicate results 0;
      place = record { pc = size; body = 0; base = 0; opens = 0 };
      callers = [];
      globals = store.globals;
      table = store.table;
      memory = store.memory;
      invocations = store.invocations;
    }) where
  begins_here : begin p start ≡ None
  begins_here = ap (λ (x : Parts). begin x start) p_is ∙ begins

  store_here : config_of store ≡ instance_of p start
  store_here = store_is ∙ ap (λ (x : Parts). instance_of x start) (sym p_is)

  machine_first : machine ≡ first_flat p start results
  machine_first =
      let globals : store.globals ≡ (instance_of p start).globals = ap (λ (c : Config). c.globals) store_here in
      let table : store.table ≡ (instance_of p start).table = ap (λ (c : Config). c.table) store_here in
      let memory : store.memory ≡ (instance_of p start).memory = ap (λ (c : Config). c.memory) store_here in
      let invocations : store.invocations ≡ (instance_of p start).invocations = ap (λ (c : Config). c.invocations) store_here in
      machine_is
      ∙ ap (λ (n : ℕ). record {
        values = replicate results 0;
        place = record { pc = n; body = 0; base = 0; opens = 0 };
        callers = [];
        globals = store.globals;
        table = store.table;
        memory = store.memory;
        invocations = store.invocations;
      }) size_is
      ∙ ap (λ (c : Config). record {
        values = replicate results 0;
        place = first_place p;
        callers = [];
        globals = c.globals;
        table = c.table;
        memory = c.memory;
        invocations = c.invocations;
      }) store_here

  has_results : HasResults p 0 results
  has_results =
      let first = first_callee p q known start begins_here in
      subst (λ (n : ℕ). HasResults p 0 n) (sym (results_are ∙ ap (λ (c : Option Callee). given_by c) first.4)) first.6

  stands_first : Stands p q start [] 0 machine
  stands_first =
      subst (λ (x : Flat). Stands p q start [] 0 x) (sym machine_first)
      (first_stands p q known start results typed begins_here has_results)

  pub may_begin : IsSafe p q machine
  may_begin = safe p q known start [] 0 machine stands_first

  module _ (reason : Halt) (used : ℕ) (to : Flat) (none : used ≤ 0) (halted : HaltsSo p q reason 0 used machine to)
      (after : Stage) (after_is : after ≡ stage_behind reason) (left : ℕ) (left_is : left ≡ start.limits.fuel) where
    behind : StandsAt (stage_behind reason) p q start [] 0 to × (phase_of (stage_behind reason) ≡ Running)
    behind =
        let nothing : 0 + used ≡ 0 = omega arith in
        behind_stands p q start [] reason 0 used machine to halted none
        (subst (λ (n : ℕ). HaltStands p q start [] n reason to) nothing
        (halts p q known start [] 0 0 used reason machine to stands_first halted (omega arith)))

    pub stands_begun : StandsIn v start [] 0 (record { program = v; machine = to; fuel_left = left; stage = after })
    stands_begun = record {
      program = refl;
      kept = omega (arith, left_is);
      at = subst (λ (x : Stage). StandsAt x v.parts v.map start [] 0 to) (sym after_is)
          (subst (λ (x : Parts). StandsAt (stage_behind reason) x v.map start [] 0 to) p_is
          (subst (λ (y : CodeMap). StandsAt (stage_behind reason) p y start [] 0 to) q_is behind.0));
    }

    pub running_begun : phase_of after ≡ Running
    running_begun = ap (λ (x : Stage). phase_of x) after_is ∙ behind.1

    pub has_run : HasRun (record { program = v; machine = to; fuel_left = left; stage = after })
    has_run = record { start = start; calls = []; fuel = 0; stands = stands_begun }
