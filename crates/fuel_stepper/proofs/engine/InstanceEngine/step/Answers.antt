use Rattle.std.proofs.Common.{◌≡◌, ◌≢◌, ◌≤◌, ◌+◌, ℕ, List, nat_lt, min, refl, sym, ap, ◌∙◌, subst, arith, add-zero}
use Rattle.std.specs.Arc.{arc_value}
use Rattle.host_port.specs.Standing.{Running, Owing}
use Rattle.host_port.specs.declared.call.Call.{Call}
use Rattle.host_port.specs.declared.start.Start.{Start}
use Rattle.module_validator.specs.ValidModule.{ValidModule}
use Rattle.tree_machine.specs.Config.{bytes_of}
use Rattle.flat_machine.specs.Halts.{HaltsSo}
use Rattle.fuel_stepper.specs.declared.stage.End.{End}
use Rattle.fuel_stepper.specs.declared.stage.Stage.TheVariants as stage
use Rattle.fuel_stepper.specs.Stages.{phase_of}
use Rattle.fuel_stepper.specs.Life.{Life, StandsIn, HasRun}
use Rattle.fuel_stepper.proofs.Bridge.{few_bodies}
use Rattle.fuel_stepper.proofs.Steps.{known_of, may_run, steps_on, is_step, keeps_run}
use Rattle.fuel_stepper.proofs.Ends.{tells_end}
use Rattle.fuel_stepper.proofs.engine.InstanceEngine.step.Goals as goal

pub returns-in-Ended-clause-stops : goal.returns-in-Ended-clause-stops
returns-in-Ended-clause-stops c valid start calls fuel stands =
    let s = c.self.inside in
    let life : Life = record { program = arc_value s.program; machine = s.machine; fuel_left = s.fuel_left; stage = s.stage } in
    tells_end valid start calls fuel life (subst (λ (l : Life). StandsIn valid start calls fuel l) (sym c.self.view_is) stands)
    c.in-Ended.end c.in-Ended.is c.args.budget c.stop-stop.result c.stop-stop.ensures

pub run-halt-requires-clause-safe : goal.run-halt-requires-clause-safe
run-halt-requires-clause-safe c =
    let s = c.self.inside in
    let life : Life = record { program = arc_value s.program; machine = s.machine; fuel_left = s.fuel_left; stage = s.stage } in
    let p = c.parts-parts.result.now in
    let q = c.map-map.result.now in
    let p_is : p ≡ life.program.parts = c.parts-parts.ensures.is ∙ ap (λ (x : ValidModule). x.parts) c.deref-valid.ensures in
    let q_is : q ≡ life.program.map = c.map-map.ensures.is ∙ ap (λ (x : ValidModule). x.map) c.deref-valid.ensures in
    let known = known_of c.deref-valid.result.now p q c.parts-parts.ensures.is c.map-map.ensures.is
    c.parts-parts.ensures.accepted c.parts-parts.ensures.spelled c.map-map.ensures.mapped in
    let running : phase_of life.stage ≡ Running = ap (λ (l : Life). phase_of l.stage) c.self.view_is ∙ c.requires.running in
    let not_ended : (e : End) → life.stage ≢ stage.Ended e = c.in_default.not-Ended in
    may_run life p q p_is q_is known c.self.invariant running not_ended

pub run-halt-requires-clause-mapped : goal.run-halt-requires-clause-mapped
run-halt-requires-clause-mapped c =
    let s = c.self.inside in
    let life : Life = record { program = arc_value s.program; machine = s.machine; fuel_left = s.fuel_left; stage = s.stage } in
    let p = c.parts-parts.result.now in
    let q = c.map-map.result.now in
    let p_is : p ≡ life.program.parts = c.parts-parts.ensures.is ∙ ap (λ (x : ValidModule). x.parts) c.deref-valid.ensures in
    let q_is : q ≡ life.program.map = c.map-map.ensures.is ∙ ap (λ (x : ValidModule). x.map) c.deref-valid.ensures in
    let known = known_of c.deref-valid.result.now p q c.parts-parts.ensures.is c.map-map.ensures.is
    c.parts-parts.ensures.accepted c.parts-parts.ensures.spelled c.map-map.ensures.mapped in
    few_bodies p q known

pub invariant_of-self-2 : goal.invariant_of-self-2
invariant_of-self-2 c =
    let s = c.self.inside in
    let life : Life = record { program = arc_value s.program; machine = s.machine; fuel_left = s.fuel_left; stage = s.stage } in
    let p = c.parts-parts.result.now in
    let q = c.map-map.result.now in
    let p_is : p ≡ life.program.parts = c.parts-parts.ensures.is ∙ ap (λ (x : ValidModule). x.parts) c.deref-valid.ensures in
    let q_is : q ≡ life.program.map = c.map-map.ensures.is ∙ ap (λ (x : ValidModule). x.map) c.deref-valid.ensures in
    let known = known_of c.deref-valid.result.now p q c.parts-parts.ensures.is c.map-map.ensures.is
    c.parts-parts.ensures.accepted c.parts-parts.ensures.spelled c.map-map.ensures.mapped in
    let running : phase_of life.stage ≡ Running = ap (λ (l : Life). phase_of l.stage) c.self.view_is ∙ c.requires.running in
    let not_ended : (e : End) → life.stage ≢ stage.Ended e = c.in_default.not-Ended in
    let within : c.run-halt.result.1 ≤ min c.args.budget life.fuel_left = subst (λ (n : ℕ). c.run-halt.result.1 ≤ n) c.min-most.ensures c.run-halt.ensures.within in
    let halted : HaltsSo p q c.run-halt.result.0 (min c.args.budget life.fuel_left) c.run-halt.result.1 life.machine c.run-halt.new.self =
    subst (λ (n : ℕ). HaltsSo p q c.run-halt.result.0 n c.run-halt.result.1 life.machine c.run-halt.new.self) c.min-most.ensures c.run-halt.ensures.halts in
    keeps_run life p q p_is q_is known c.args.budget c.run-halt.result.1 c.run-halt.result.0 (nat_lt c.run-halt.result.1 c.args.budget) c.run-halt.new.self
    running not_ended refl within halted c.told-stop.result c.told-stop.ensures c.after-self-inside.result c.after-self-inside.ensures c.self.invariant

pub returns-clause-stands : goal.returns-clause-stands
returns-clause-stands c valid start calls fuel stands =
    let s = c.self.inside in
    let life : Life = record { program = arc_value s.program; machine = s.machine; fuel_left = s.fuel_left; stage = s.stage } in
    let p = c.parts-parts.result.now in
    let q = c.map-map.result.now in
    let p_is : p ≡ life.program.parts = c.parts-parts.ensures.is ∙ ap (λ (x : ValidModule). x.parts) c.deref-valid.ensures in
    let q_is : q ≡ life.program.map = c.map-map.ensures.is ∙ ap (λ (x : ValidModule). x.map) c.deref-valid.ensures in
    let known = known_of c.deref-valid.result.now p q c.parts-parts.ensures.is c.map-map.ensures.is
    c.parts-parts.ensures.accepted c.parts-parts.ensures.spelled c.map-map.ensures.mapped in
    let running : phase_of life.stage ≡ Running = ap (λ (l : Life). phase_of l.stage) c.self.view_is ∙ c.requires.running in
    let not_ended : (e : End) → life.stage ≢ stage.Ended e = c.in_default.not-Ended in
    let within : c.run-halt.result.1 ≤ min c.args.budget life.fuel_left = subst (λ (n : ℕ). c.run-halt.result.1 ≤ n) c.min-most.ensures c.run-halt.ensures.within in
    let halted : HaltsSo p q c.run-halt.result.0 (min c.args.budget life.fuel_left) c.run-halt.result.1 life.machine c.run-halt.new.self =
    subst (λ (n : ℕ). HaltsSo p q c.run-halt.result.0 n c.run-halt.result.1 life.machine c.run-halt.new.self) c.min-most.ensures c.run-halt.ensures.halts in
    steps_on life p q p_is q_is known c.args.budget c.run-halt.result.1 c.run-halt.result.0 (nat_lt c.run-halt.result.1 c.args.budget) c.run-halt.new.self
    running not_ended refl within halted c.told-stop.result c.told-stop.ensures c.after-self-inside.result c.after-self-inside.ensures
    valid start calls fuel (subst (λ (l : Life). StandsIn valid start calls fuel l) (sym c.self.view_is) stands)

pub returns-clause-stops : goal.returns-clause-stops
returns-clause-stops c valid start calls fuel stands =
    let s = c.self.inside in
    let life : Life = record { program = arc_value s.program; machine = s.machine; fuel_left = s.fuel_left; stage = s.stage } in
    let p = c.parts-parts.result.now in
    let q = c.map-map.result.now in
    let p_is : p ≡ life.program.parts = c.parts-parts.ensures.is ∙ ap (λ (x : ValidModule). x.parts) c.deref-valid.ensures in
    let q_is : q ≡ life.program.map = c.map-map.ensures.is ∙ ap (λ (x : ValidModule). x.map) c.deref-valid.ensures in
    let known = known_of c.deref-valid.result.now p q c.parts-parts.ensures.is c.map-map.ensures.is
    c.parts-parts.ensures.accepted c.parts-parts.ensures.spelled c.map-map.ensures.mapped in
    let running : phase_of life.stage ≡ Running = ap (λ (l : Life). phase_of l.stage) c.self.view_is ∙ c.requires.running in
    let not_ended : (e : End) → life.stage ≢ stage.Ended e = c.in_default.not-Ended in
    let within : c.run-halt.result.1 ≤ min c.args.budget life.fuel_left = subst (λ (n : ℕ). c.run-halt.result.1 ≤ n) c.min-most.ensures c.run-halt.ensures.within in
    let halted : HaltsSo p q c.run-halt.result.0 (min c.args.budget life.fuel_left) c.run-halt.result.1 life.machine c.run-halt.new.self =
    subst (λ (n : ℕ). HaltsSo p q c.run-halt.result.0 n c.run-halt.result.1 life.machine c.run-halt.new.self) c.min-most.ensures c.run-halt.ensures.halts in
    is_step life p q p_is q_is known c.args.budget c.run-halt.result.1 c.run-halt.result.0 (nat_lt c.run-halt.result.1 c.args.budget) c.run-halt.new.self
    running not_ended refl within halted c.told-stop.result c.told-stop.ensures c.after-self-inside.result c.after-self-inside.ensures
    valid start calls fuel (subst (λ (l : Life). StandsIn valid start calls fuel l) (sym c.self.view_is) stands)
