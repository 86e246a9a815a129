use Rattle.std.proofs.Common.{◌≡◌, true, false, refl, sym, ◌∙◌}
use Rattle.host_port.specs.declared.request.Request.{Request}
use Rattle.host_port.specs.Areas.{request_of}
use Rattle.world_rules.specs.declared.entry.Side.TheVariants as SideIs
use Rattle.world_rules.specs.Calls as CallIs
use Rattle.host_calls.specs.Shown.{shown_part}
use Rattle.world_rules.specs.Answers.{number_reply}
use Rattle.world_rules.specs.Allowed.{handles_full}
use Rattle.host_calls.proofs.OutsideForms.{accept_for, accept_full, accept_failed, accept_starved, accept_pending, accept_opened}
use Rattle.host_calls.proofs.OutsideComes.{answers_alone, answers_listening, opens_listening, same_part}
use Rattle.host_calls.proofs.outside_calls.accept_step.Goals as goal

pub returns-then-full-clause-step : goal.returns-then-full-clause-step
returns-then-full-clause-step g c =
    let request : Request = request_of (g.E.Engine.memory c.args.proc.now.engine) c.args.ask in
    let part = shown_part c.args.proc.now in
    let is = accept_for request c.requires.number in
    let full : handles_full part ≡ true = sym c.full.ensures ∙ c.if-full.true in
    rw c.answered.ensures
    (answers_alone _ request CallIs.Accept is.named c.args.proc.now (SideIs.Answer (number_reply 2)) c.requires.order (λ s. refl) (accept_full request part full is) refl refl)

pub returns-in-Some-Done-clause-step : goal.returns-in-Some-Done-clause-step
returns-in-Some-Done-clause-step g c =
    let request : Request = request_of (g.E.Engine.memory c.args.proc.now.engine) c.args.ask in
    let part = shown_part c.args.proc.now in
    let is = accept_for request c.requires.number in
    let full : handles_full part ≡ false = sym c.full.ensures ∙ c.if-full.false in
    opens_listening _ request CallIs.Accept is.named c.args.proc.now c.accept_on.new.listeners c.in-Some-Done.stream c.requires.order (λ s. refl) (accept_opened request part full is)
    (same_part request CallIs.Accept is.named c.args.proc.now c.accept_on.new.listeners SideIs.Opened
    c.in-Some-Done.ensures.numbers c.in-Some-Done.ensures.next refl) (rw c.in-Some-Done.field-0-is at c.in-Some-Done.ensures.accepted.accepted)

pub returns-in-Some-NotReady-clause-step : goal.returns-in-Some-NotReady-clause-step
returns-in-Some-NotReady-clause-step g c =
    let request : Request = request_of (g.E.Engine.memory c.args.proc.now.engine) c.args.ask in
    let part = shown_part c.args.proc.now in
    let is = accept_for request c.requires.number in
    let full : handles_full part ≡ false = sym c.full.ensures ∙ c.if-full.false in
    answers_listening _ request CallIs.Accept is.named c.args.proc.now c.accept_on.new.listeners SideIs.Pending c.requires.order (λ s. refl) (accept_pending request part full is)
    (same_part request CallIs.Accept is.named c.args.proc.now c.accept_on.new.listeners SideIs.Pending c.in-Some-NotReady.ensures.numbers c.in-Some-NotReady.ensures.next refl) refl

pub returns-in-Some-Failed-clause-step : goal.returns-in-Some-Failed-clause-step
returns-in-Some-Failed-clause-step g c =
    let request : Request = request_of (g.E.Engine.memory c.args.proc.now.engine) c.args.ask in
    let part = shown_part c.args.proc.now in
    let is = accept_for request c.requires.number in
    let full : handles_full part ≡ false = sym c.full.ensures ∙ c.if-full.false in
    rw c.answered-in-Some-Failed.ensures
    (answers_listening _ request CallIs.Accept is.named c.args.proc.now c.accept_on.new.listeners (SideIs.Answer (number_reply 1)) c.requires.order (λ s. refl)
    (accept_failed request part full is)
    (same_part request CallIs.Accept is.named c.args.proc.now c.accept_on.new.listeners (SideIs.Answer (number_reply 1)) c.in-Some-Failed.ensures.numbers c.in-Some-Failed.ensures.next refl) refl)

pub returns-in-Some-NoMemory-clause-step : goal.returns-in-Some-NoMemory-clause-step
returns-in-Some-NoMemory-clause-step g c =
    let request : Request = request_of (g.E.Engine.memory c.args.proc.now.engine) c.args.ask in
    let part = shown_part c.args.proc.now in
    let is = accept_for request c.requires.number in
    let full : handles_full part ≡ false = sym c.full.ensures ∙ c.if-full.false in
    rw c.answered-in-Some-NoMemory.ensures
    (answers_listening _ request CallIs.Accept is.named c.args.proc.now c.accept_on.new.listeners (SideIs.Answer (number_reply 12)) c.requires.order (λ s. refl)
    (accept_starved request part full is)
    (same_part request CallIs.Accept is.named c.args.proc.now c.accept_on.new.listeners (SideIs.Answer (number_reply 12)) c.in-Some-NoMemory.ensures.numbers c.in-Some-NoMemory.ensures.next refl) refl)
