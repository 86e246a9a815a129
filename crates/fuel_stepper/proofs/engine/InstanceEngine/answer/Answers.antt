use Rattle.std.proofs.Common.{◌≡◌, ◌≢◌, ◌≤◌, ◌+◌, ℕ, List, [], ◌∷◌, ◌++◌, nat_lt, min, refl, sym, ap, ◌∙◌, subst, arith, add-zero}
use Rattle.std.specs.Arc.{arc_value}
use Rattle.host_port.specs.Standing.{Running, Owing}
use Rattle.host_port.specs.declared.call.Call.{Call}
use Rattle.host_port.specs.declared.start.Start.{Start}
use Rattle.module_validator.specs.ValidModule.{ValidModule}
use Rattle.tree_machine.specs.Config.{bytes_of}
use Rattle.flat_machine.specs.Halts.{HaltsSo}
use Rattle.fuel_stepper.specs.declared.stage.End.{End}
use Rattle.fuel_stepper.specs.declared.stage.Stage.TheVariants as stage
use Rattle.fuel_stepper.specs.Stages.{phase_of}
use Rattle.fuel_stepper.specs.Life.{Life, StandsIn, HasRun}
use Rattle.host_port.specs.Areas.{request_of}
use Rattle.host_port.specs.Steps.{IsAnswerable}
use Rattle.flat_machine.specs.declared.halt.Halt.TheVariants as halt
use Rattle.fuel_stepper.proofs.Bridge.{few_bodies}
use Rattle.fuel_stepper.proofs.Steps.{known_of, may_resume, may_go_on, answers_on, answer_keeps_run, answer_running}
use Rattle.fuel_stepper.proofs.engine.InstanceEngine.answer.Goals as goal

pub resume-requires : goal.resume-requires
resume-requires c =
    let s = c.self.inside in
    let life : Life = record { program = arc_value s.program; machine = s.machine; fuel_left = s.fuel_left; stage = s.stage } in
    let p = c.parts-parts.result.now in
    let q = c.map-map.result.now in
    let p_is : p ≡ life.program.parts = c.parts-parts.ensures.is ∙ ap (λ (x : ValidModule). x.parts) c.deref-valid.ensures in
    let q_is : q ≡ life.program.map = c.map-map.ensures.is ∙ ap (λ (x : ValidModule). x.map) c.deref-valid.ensures in
    let known = known_of c.deref-valid.result.now p q c.parts-parts.ensures.is c.map-map.ensures.is
    c.parts-parts.ensures.accepted c.parts-parts.ensures.spelled c.map-map.ensures.mapped in
    let answerable : IsAnswerable (phase_of life.stage) (bytes_of life.machine.memory) c.args.reply.now =
    subst (λ (l : Life). IsAnswerable (phase_of l.stage) (bytes_of l.machine.memory) c.args.reply.now) (sym c.self.view_is) c.requires in
    let fits = may_resume life p q p_is q_is known c.args.reply.now c.self.invariant answerable in
    record { text = fits.text; word = fits.word; room = fits.room }

pub run-halt-requires-clause-safe : goal.run-halt-requires-clause-safe
run-halt-requires-clause-safe c =
    let s = c.self.inside in
    let life : Life = record { program = arc_value s.program; machine = s.machine; fuel_left = s.fuel_left; stage = s.stage } in
    let p = c.parts-parts.result.now in
    let q = c.map-map.result.now in
    let p_is : p ≡ life.program.parts = c.parts-parts.ensures.is ∙ ap (λ (x : ValidModule). x.parts) c.deref-valid.ensures in
    let q_is : q ≡ life.program.map = c.map-map.ensures.is ∙ ap (λ (x : ValidModule). x.map) c.deref-valid.ensures in
    let known = known_of c.deref-valid.result.now p q c.parts-parts.ensures.is c.map-map.ensures.is
    c.parts-parts.ensures.accepted c.parts-parts.ensures.spelled c.map-map.ensures.mapped in
    let answerable : IsAnswerable (phase_of life.stage) (bytes_of life.machine.memory) c.args.reply.now =
    subst (λ (l : Life). IsAnswerable (phase_of l.stage) (bytes_of l.machine.memory) c.args.reply.now) (sym c.self.view_is) c.requires in
    may_go_on life p q p_is q_is known c.args.reply.now 0 halt.Slice c.resume.new.self c.resume.new.self answerable c.resume.ensures c.self.invariant

pub run-halt-requires-clause-mapped : goal.run-halt-requires-clause-mapped
run-halt-requires-clause-mapped c =
    let s = c.self.inside in
    let life : Life = record { program = arc_value s.program; machine = s.machine; fuel_left = s.fuel_left; stage = s.stage } in
    let p = c.parts-parts.result.now in
    let q = c.map-map.result.now in
    let p_is : p ≡ life.program.parts = c.parts-parts.ensures.is ∙ ap (λ (x : ValidModule). x.parts) c.deref-valid.ensures in
    let q_is : q ≡ life.program.map = c.map-map.ensures.is ∙ ap (λ (x : ValidModule). x.map) c.deref-valid.ensures in
    let known = known_of c.deref-valid.result.now p q c.parts-parts.ensures.is c.map-map.ensures.is
    c.parts-parts.ensures.accepted c.parts-parts.ensures.spelled c.map-map.ensures.mapped in
    few_bodies p q known

pub invariant_of-self : goal.invariant_of-self
invariant_of-self c =
    let s = c.self.inside in
    let life : Life = record { program = arc_value s.program; machine = s.machine; fuel_left = s.fuel_left; stage = s.stage } in
    let p = c.parts-parts.result.now in
    let q = c.map-map.result.now in
    let p_is : p ≡ life.program.parts = c.parts-parts.ensures.is ∙ ap (λ (x : ValidModule). x.parts) c.deref-valid.ensures in
    let q_is : q ≡ life.program.map = c.map-map.ensures.is ∙ ap (λ (x : ValidModule). x.map) c.deref-valid.ensures in
    let known = known_of c.deref-valid.result.now p q c.parts-parts.ensures.is c.map-map.ensures.is
    c.parts-parts.ensures.accepted c.parts-parts.ensures.spelled c.map-map.ensures.mapped in
    let answerable : IsAnswerable (phase_of life.stage) (bytes_of life.machine.memory) c.args.reply.now =
    subst (λ (l : Life). IsAnswerable (phase_of l.stage) (bytes_of l.machine.memory) c.args.reply.now) (sym c.self.view_is) c.requires in
    answer_keeps_run life p q p_is q_is known c.args.reply.now c.run-halt.result.1 c.run-halt.result.0 c.resume.new.self c.run-halt.new.self
    answerable c.resume.ensures c.run-halt.ensures.within c.run-halt.ensures.halts c.behind-self-inside.result c.behind-self-inside.ensures c.self.invariant

pub returns-clause-phase : goal.returns-clause-phase
returns-clause-phase c =
    let s = c.self.inside in
    let life : Life = record { program = arc_value s.program; machine = s.machine; fuel_left = s.fuel_left; stage = s.stage } in
    let p = c.parts-parts.result.now in
    let q = c.map-map.result.now in
    let p_is : p ≡ life.program.parts = c.parts-parts.ensures.is ∙ ap (λ (x : ValidModule). x.parts) c.deref-valid.ensures in
    let q_is : q ≡ life.program.map = c.map-map.ensures.is ∙ ap (λ (x : ValidModule). x.map) c.deref-valid.ensures in
    let known = known_of c.deref-valid.result.now p q c.parts-parts.ensures.is c.map-map.ensures.is
    c.parts-parts.ensures.accepted c.parts-parts.ensures.spelled c.map-map.ensures.mapped in
    let answerable : IsAnswerable (phase_of life.stage) (bytes_of life.machine.memory) c.args.reply.now =
    subst (λ (l : Life). IsAnswerable (phase_of l.stage) (bytes_of l.machine.memory) c.args.reply.now) (sym c.self.view_is) c.requires in
    answer_running life p q p_is q_is known c.args.reply.now c.run-halt.result.1 c.run-halt.result.0 c.resume.new.self c.run-halt.new.self
    answerable c.resume.ensures c.run-halt.ensures.within c.run-halt.ensures.halts c.behind-self-inside.result c.behind-self-inside.ensures c.self.invariant

pub returns-clause-stands : goal.returns-clause-stands
returns-clause-stands c valid start calls fuel ask owed stands =
    let s = c.self.inside in
    let life : Life = record { program = arc_value s.program; machine = s.machine; fuel_left = s.fuel_left; stage = s.stage } in
    let p = c.parts-parts.result.now in
    let q = c.map-map.result.now in
    let p_is : p ≡ life.program.parts = c.parts-parts.ensures.is ∙ ap (λ (x : ValidModule). x.parts) c.deref-valid.ensures in
    let q_is : q ≡ life.program.map = c.map-map.ensures.is ∙ ap (λ (x : ValidModule). x.map) c.deref-valid.ensures in
    let known = known_of c.deref-valid.result.now p q c.parts-parts.ensures.is c.map-map.ensures.is
    c.parts-parts.ensures.accepted c.parts-parts.ensures.spelled c.map-map.ensures.mapped in
    let answerable : IsAnswerable (phase_of life.stage) (bytes_of life.machine.memory) c.args.reply.now =
    subst (λ (l : Life). IsAnswerable (phase_of l.stage) (bytes_of l.machine.memory) c.args.reply.now) (sym c.self.view_is) c.requires in
    subst (λ (l : Life). StandsIn valid start (calls ++ record { request = request_of (bytes_of l.machine.memory) ask; reply = c.args.reply.now } ∷ []) fuel
    (record { program = life.program; machine = c.run-halt.new.self; fuel_left = life.fuel_left; stage = c.behind-self-inside.result })) c.self.view_is
    (answers_on life p q p_is q_is known c.args.reply.now c.run-halt.result.1 c.run-halt.result.0 c.resume.new.self c.run-halt.new.self
    answerable c.resume.ensures c.run-halt.ensures.within c.run-halt.ensures.halts c.behind-self-inside.result c.behind-self-inside.ensures valid start calls fuel ask
    (ap (λ (l : Life). phase_of l.stage) c.self.view_is ∙ owed)
    (subst (λ (l : Life). StandsIn valid start calls fuel l) (sym c.self.view_is) stands))
