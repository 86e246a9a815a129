use Rattle.std.proofs.Common.{ap, sym, ◌∙◌}
use Rattle.std.proofs.lemmas.Result.{on_ok_weaker}
use Rattle.world_rules.specs.Changes.{replied}
use Rattle.plain_world.specs.Shown.{shown_world}
use Rattle.plain_world.proofs.Sending.{sent-some}
use Rattle.plain_world.proofs.world.PlainWorld.send_scratch.Goals as goal

pub returns : goal.returns
returns c =
    let w = shown_world c.args.self.now in
    on_ok_weaker c.arrive.result (λ done.
    sent-some w (shown_world c.send_off.new.self) (shown_world c.reply.new.self) (shown_world c.arrive.new.self)
    c.args.pid c.args.to c.args.request.now c.in-Some.message (w.process c.args.pid).part.scratch
    (sym c.in-Some.is ∙ c.in_ok-message.ensures.message) c.in_ok-message.ensures.sent
    (c.in_ok-reply.ensures ∙ ap (replied (shown_world c.send_off.new.self) c.args.pid c.args.request.now) c.number_reply.ensures)
    done) c.arrive.ensures
