use Rattle.std.proofs.Common.{◌≡◌, [], None, sym, ap, ◌∙◌, subst}
use Rattle.std.specs.Arc.{arc_value}
use Rattle.module_validator.specs.ValidModule.{ValidModule}
use Rattle.instance_store.specs.Instance.{config_of}
use Rattle.tree_machine.specs.Begin.{begin, instance_of}
use Rattle.fuel_stepper.specs.Life.{Life, StandsIn}
use Rattle.fuel_stepper.proofs.Steps.{known_of}
use Rattle.fuel_stepper.proofs.Starts.{may_begin, stands_begun, running_begun, has_run}
use Rattle.fuel_stepper.proofs.Bridge.{few_bodies}
use Rattle.fuel_stepper.proofs.engine.InstanceEngine.start.Goals as goal

pub run-halt-requires-clause-safe : goal.run-halt-requires-clause-safe
run-halt-requires-clause-safe c =
    let p = c.parts-parts.result.now in
    let q = c.map-map.result.now in
    let v = arc_value c.in-Ok.program in
    let p_is : p ≡ v.parts = c.parts-parts.ensures.is ∙ ap (λ (x : ValidModule). x.parts) c.deref-valid.ensures in
    let q_is : q ≡ v.map = c.map-map.ensures.is ∙ ap (λ (x : ValidModule). x.map) c.deref-valid.ensures in
    let known = known_of c.deref-valid.result.now p q c.parts-parts.ensures.is c.map-map.ensures.is
    c.parts-parts.ensures.accepted c.parts-parts.ensures.spelled c.map-map.ensures.mapped in
    let same : c.deref.result.now ≡ v = c.deref.ensures ∙ sym c.in-Ok.ensures in
    let begins : begin v.parts c.args.start.now ≡ None =
    subst (λ (x : ValidModule). begin x.parts c.args.start.now ≡ None) same c.in_ok-store.ensures.begins in
    let store_is : config_of c.in_ok-store.store ≡ instance_of v.parts c.args.start.now =
    subst (λ (x : ValidModule). config_of c.in_ok-store.store ≡ instance_of x.parts c.args.start.now) same c.in_ok-store.ensures.made in
    may_begin v p q p_is q_is known c.args.start.now begins c.is_typed.ensures c.in_ok-store.store store_is c.first_size.result c.first_results-results.result
    c.first_size.ensures c.first_results-results.ensures.is c.in-Ok-new.machine c.in-Ok-new.ensures

pub run-halt-requires-clause-mapped : goal.run-halt-requires-clause-mapped
run-halt-requires-clause-mapped c =
    few_bodies c.parts-parts.result.now c.map-map.result.now
    (known_of c.deref-valid.result.now c.parts-parts.result.now c.map-map.result.now c.parts-parts.ensures.is c.map-map.ensures.is
    c.parts-parts.ensures.accepted c.parts-parts.ensures.spelled c.map-map.ensures.mapped)

pub invariant_of-result : goal.invariant_of-result
invariant_of-result c =
    let p = c.parts-parts.result.now in
    let q = c.map-map.result.now in
    let v = arc_value c.in-Ok.program in
    let p_is : p ≡ v.parts = c.parts-parts.ensures.is ∙ ap (λ (x : ValidModule). x.parts) c.deref-valid.ensures in
    let q_is : q ≡ v.map = c.map-map.ensures.is ∙ ap (λ (x : ValidModule). x.map) c.deref-valid.ensures in
    let known = known_of c.deref-valid.result.now p q c.parts-parts.ensures.is c.map-map.ensures.is
    c.parts-parts.ensures.accepted c.parts-parts.ensures.spelled c.map-map.ensures.mapped in
    let same : c.deref.result.now ≡ v = c.deref.ensures ∙ sym c.in-Ok.ensures in
    let begins : begin v.parts c.args.start.now ≡ None =
    subst (λ (x : ValidModule). begin x.parts c.args.start.now ≡ None) same c.in_ok-store.ensures.begins in
    let store_is : config_of c.in_ok-store.store ≡ instance_of v.parts c.args.start.now =
    subst (λ (x : ValidModule). config_of c.in_ok-store.store ≡ instance_of x.parts c.args.start.now) same c.in_ok-store.ensures.made in
    has_run v p q p_is q_is known c.args.start.now begins c.is_typed.ensures c.in_ok-store.store store_is c.first_size.result c.first_results-results.result
    c.first_size.ensures c.first_results-results.ensures.is c.in-Ok-new.machine c.in-Ok-new.ensures c.run-halt.result.0 c.run-halt.result.1 c.run-halt.new.self
    c.run-halt.ensures.within c.run-halt.ensures.halts c.behind.result c.behind.ensures c.fuel.result c.fuel.ensures

pub returns-clause-stands : goal.returns-clause-stands
returns-clause-stands c =
    let p = c.parts-parts.result.now in
    let q = c.map-map.result.now in
    let v = arc_value c.in-Ok.program in
    let p_is : p ≡ v.parts = c.parts-parts.ensures.is ∙ ap (λ (x : ValidModule). x.parts) c.deref-valid.ensures in
    let q_is : q ≡ v.map = c.map-map.ensures.is ∙ ap (λ (x : ValidModule). x.map) c.deref-valid.ensures in
    let known = known_of c.deref-valid.result.now p q c.parts-parts.ensures.is c.map-map.ensures.is
    c.parts-parts.ensures.accepted c.parts-parts.ensures.spelled c.map-map.ensures.mapped in
    let same : c.deref.result.now ≡ v = c.deref.ensures ∙ sym c.in-Ok.ensures in
    let begins : begin v.parts c.args.start.now ≡ None =
    subst (λ (x : ValidModule). begin x.parts c.args.start.now ≡ None) same c.in_ok-store.ensures.begins in
    let store_is : config_of c.in_ok-store.store ≡ instance_of v.parts c.args.start.now =
    subst (λ (x : ValidModule). config_of c.in_ok-store.store ≡ instance_of x.parts c.args.start.now) same c.in_ok-store.ensures.made in
    let life : Life = record { program = v; machine = c.run-halt.new.self; fuel_left = c.fuel.result; stage = c.behind.result } in
    subst (λ (x : ValidModule). StandsIn x c.args.start.now [] 0 life) c.in-Ok.ensures
    (stands_begun v p q p_is q_is known c.args.start.now begins c.is_typed.ensures c.in_ok-store.store store_is c.first_size.result c.first_results-results.result
    c.first_size.ensures c.first_results-results.ensures.is c.in-Ok-new.machine c.in-Ok-new.ensures c.run-halt.result.0 c.run-halt.result.1 c.run-halt.new.self
    c.run-halt.ensures.within c.run-halt.ensures.halts c.behind.result c.behind.ensures c.fuel.result c.fuel.ensures)

pub returns-clause-running : goal.returns-clause-running
returns-clause-running c =
    let p = c.parts-parts.result.now in
    let q = c.map-map.result.now in
    let v = arc_value c.in-Ok.program in
    let p_is : p ≡ v.parts = c.parts-parts.ensures.is ∙ ap (λ (x : ValidModule). x.parts) c.deref-valid.ensures in
    let q_is : q ≡ v.map = c.map-map.ensures.is ∙ ap (λ (x : ValidModule). x.map) c.deref-valid.ensures in
    let known = known_of c.deref-valid.result.now p q c.parts-parts.ensures.is c.map-map.ensures.is
    c.parts-parts.ensures.accepted c.parts-parts.ensures.spelled c.map-map.ensures.mapped in
    let same : c.deref.result.now ≡ v = c.deref.ensures ∙ sym c.in-Ok.ensures in
    let begins : begin v.parts c.args.start.now ≡ None =
    subst (λ (x : ValidModule). begin x.parts c.args.start.now ≡ None) same c.in_ok-store.ensures.begins in
    let store_is : config_of c.in_ok-store.store ≡ instance_of v.parts c.args.start.now =
    subst (λ (x : ValidModule). config_of c.in_ok-store.store ≡ instance_of x.parts c.args.start.now) same c.in_ok-store.ensures.made in
    running_begun v p q p_is q_is known c.args.start.now begins c.is_typed.ensures c.in_ok-store.store store_is c.first_size.result c.first_results-results.result
    c.first_size.ensures c.first_results-results.ensures.is c.in-Ok-new.machine c.in-Ok-new.ensures c.run-halt.result.0 c.run-halt.result.1 c.run-halt.new.self
    c.run-halt.ensures.within c.run-halt.ensures.halts c.behind.result c.behind.ensures c.fuel.result c.fuel.ensures
