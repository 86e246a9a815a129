use Rattle.std.proofs.Common.{◌≡◌, true, false, refl, sym, ◌∙◌}
use Rattle.host_port.specs.declared.request.Request.{Request}
use Rattle.host_port.specs.Areas.{request_of}
use Rattle.world_rules.specs.declared.entry.Side.TheVariants as SideIs
use Rattle.world_rules.specs.Answers.{number_reply}
use Rattle.world_rules.specs.Calls as CallIs
use Rattle.world_rules.specs.Allowed.{handles_full}
use Rattle.host_calls.specs.Shown.{shown_part}
use Rattle.host_calls.proofs.OutsideForms.{connect_for, connect_full, connect_failed, connect_starved, connect_opened}
use Rattle.host_calls.proofs.OutsideComes.{answers_alone, opens_alone}
use Rattle.host_calls.proofs.outside_calls.connect_step.Goals as goal

pub returns-then-full-clause-step : goal.returns-then-full-clause-step
returns-then-full-clause-step g c =
    let request : Request = request_of (g.E.Engine.memory c.args.proc.now.engine) c.args.ask in
    let part = shown_part c.args.proc.now in
    let is = connect_for request c.requires.number in
    let full : handles_full part ≡ true = sym c.full.ensures ∙ c.if-full.true in
    rw c.answered.ensures
    (answers_alone _ request CallIs.Connect is.named c.args.proc.now (SideIs.Answer (number_reply 2)) c.requires.order (λ s. refl) (connect_full request part full is) refl refl)

pub returns-in-Done-clause-step : goal.returns-in-Done-clause-step
returns-in-Done-clause-step g c =
    let request : Request = request_of (g.E.Engine.memory c.args.proc.now.engine) c.args.ask in
    let part = shown_part c.args.proc.now in
    let is = connect_for request c.requires.number in
    let full : handles_full part ≡ false = sym c.full.ensures ∙ c.if-full.false in
    opens_alone _ request CallIs.Connect is.named c.args.proc.now c.in-Done.stream c.requires.order (λ s. refl) (connect_opened request part full is) refl c.in-Done.ensures.fresh

pub returns-in-Failed-clause-step : goal.returns-in-Failed-clause-step
returns-in-Failed-clause-step g c =
    let request : Request = request_of (g.E.Engine.memory c.args.proc.now.engine) c.args.ask in
    let part = shown_part c.args.proc.now in
    let is = connect_for request c.requires.number in
    let full : handles_full part ≡ false = sym c.full.ensures ∙ c.if-full.false in
    rw c.answered-in-Failed.ensures
    (answers_alone _ request CallIs.Connect is.named c.args.proc.now (SideIs.Answer (number_reply 1)) c.requires.order (λ s. refl) (connect_failed request part full is) refl refl)

pub returns-in-NoMemory-clause-step : goal.returns-in-NoMemory-clause-step
returns-in-NoMemory-clause-step g c =
    let request : Request = request_of (g.E.Engine.memory c.args.proc.now.engine) c.args.ask in
    let part = shown_part c.args.proc.now in
    let is = connect_for request c.requires.number in
    let full : handles_full part ≡ false = sym c.full.ensures ∙ c.if-full.false in
    rw c.answered-in-NoMemory.ensures
    (answers_alone _ request CallIs.Connect is.named c.args.proc.now (SideIs.Answer (number_reply 12)) c.requires.order (λ s. refl) (connect_starved request part full is) refl refl)
