use Rattle.std.proofs.Common.{◌≡◌, ◌<◌, ◌^◌, nat_le, true, false, refl, ap, sym, ◌∙◌, arith}
use Rattle.host_port.specs.declared.request.Request.{Request}
use Rattle.host_port.specs.Areas.{request_of}
use Rattle.world_rules.specs.declared.entry.Side.TheVariants as SideIs
use Rattle.world_rules.specs.Calls as CallIs
use Rattle.host_calls.specs.Shown.{shown_part}
use Rattle.world_rules.specs.Answers.{number_reply, written_reply}
use Rattle.world_rules.specs.Allowed.{listeners_full}
use Rattle.host_calls.proofs.OutsideForms.{bind_for, bind_id, bind_full, bind_failed, bind_starved, bind_done}
use Rattle.host_calls.proofs.OutsideComes.{answers_alone, answers_listening, bound_part, numbers_length}
use Rattle.host_calls.proofs.outside_calls.bind_step.Goals as goal

pub address-id-requires-after_bounds : goal.address-id-requires-after_bounds
address-id-requires-after_bounds g c κs within = bind_id (g.E.Engine.memory c.args.proc.now.engine) c.args.ask c.requires.asked.fits c.requires.number

pub returns-then-full-clause-step : goal.returns-then-full-clause-step
returns-then-full-clause-step g c =
    let request : Request = request_of (g.E.Engine.memory c.args.proc.now.engine) c.args.ask in
    let part = shown_part c.args.proc.now in
    let is = bind_for request c.requires.number in
    let full : listeners_full part ≡ true = ap (nat_le 16) (numbers_length c.args.proc.now.listeners) ∙ sym c.full.ensures.full ∙ c.if-full.true in
    rw c.answered.ensures
    (answers_alone _ request CallIs.Bind is.named c.args.proc.now (SideIs.Answer (number_reply 2)) c.requires.order (λ s. refl) (bind_full request part full is) refl refl)

pub returns-then-number-clause-step : goal.returns-then-number-clause-step
returns-then-number-clause-step g c =
    let request : Request = request_of (g.E.Engine.memory c.args.proc.now.engine) c.args.ask in
    let part = shown_part c.args.proc.now in
    let is = bind_for request c.requires.number in
    let full : listeners_full part ≡ false = ap (nat_le 16) (numbers_length c.args.proc.now.listeners) ∙ sym c.full.ensures.full ∙ c.if-full.false in
    rw c.answered-then-number.ensures
    (answers_alone _ request CallIs.Bind is.named c.args.proc.now (SideIs.Answer (number_reply 12)) c.requires.order (λ s. refl) (bind_starved request part full is) refl refl)

pub returns-in-Done-clause-step : goal.returns-in-Done-clause-step
returns-in-Done-clause-step g c =
    let request : Request = request_of (g.E.Engine.memory c.args.proc.now.engine) c.args.ask in
    let part = shown_part c.args.proc.now in
    let is = bind_for request c.requires.number in
    let full : listeners_full part ≡ false = ap (nat_le 16) (numbers_length c.args.proc.now.listeners) ∙ sym c.full.ensures.full ∙ c.if-full.false in
    let next = c.args.proc.now.listeners.next in
    let small : next < 2 ^ 64 = omega (arith, c.next-number.ensures, c.next-number.type_inv) in
    let reply : c.written.result ≡ written_reply 0 c.address-id.result next = c.written.ensures ∙ ap (written_reply 0 c.address-id.result) c.next-number.ensures in
    rw reply
    (answers_listening _ request CallIs.Bind is.named c.args.proc.now c.add.new.self (SideIs.Answer (written_reply 0 c.address-id.result next)) c.requires.order (λ s. refl)
    (bind_done request part c.address-id.result c.address-id.ensures small full is)
    (bound_part request is.named c.args.proc.now c.in-Done.listener c.add.new.self c.address-id.result c.add.ensures) refl)

pub returns-in-Failed-clause-step : goal.returns-in-Failed-clause-step
returns-in-Failed-clause-step g c =
    let request : Request = request_of (g.E.Engine.memory c.args.proc.now.engine) c.args.ask in
    let part = shown_part c.args.proc.now in
    let is = bind_for request c.requires.number in
    let full : listeners_full part ≡ false = ap (nat_le 16) (numbers_length c.args.proc.now.listeners) ∙ sym c.full.ensures.full ∙ c.if-full.false in
    rw c.answered-in-Failed.ensures
    (answers_alone _ request CallIs.Bind is.named c.args.proc.now (SideIs.Answer (number_reply 1)) c.requires.order (λ s. refl) (bind_failed request part full is) refl refl)

pub returns-in-NoMemory-clause-step : goal.returns-in-NoMemory-clause-step
returns-in-NoMemory-clause-step g c =
    let request : Request = request_of (g.E.Engine.memory c.args.proc.now.engine) c.args.ask in
    let part = shown_part c.args.proc.now in
    let is = bind_for request c.requires.number in
    let full : listeners_full part ≡ false = ap (nat_le 16) (numbers_length c.args.proc.now.listeners) ∙ sym c.full.ensures.full ∙ c.if-full.false in
    rw c.answered-in-NoMemory.ensures
    (answers_alone _ request CallIs.Bind is.named c.args.proc.now (SideIs.Answer (number_reply 12)) c.requires.order (λ s. refl) (bind_starved request part full is) refl refl)
