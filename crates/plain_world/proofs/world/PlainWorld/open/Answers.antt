use Rattle.std.proofs.Common.{ℕ, [], ◌∷◌, ap, ◌∙◌}
use Rattle.host_port.specs.declared.reply.Reply.{Reply}
use Rattle.world_rules.specs.Arrivals as Came
use Rattle.world_rules.specs.Answers.{written_reply}
use Rattle.world_rules.specs.Changes.{with_part}
use Rattle.world_rules.specs.Moves.{Opened}
use Rattle.world_rules.specs.Outside.{stream_drawn, id_address}
use Rattle.world_rules.specs.Settled.{settled, StreamOpened}
use Rattle.world_rules.specs.World.{World, with_moves}
use Rattle.plain_part.specs.Shown.{shown_call}
use Rattle.plain_world.specs.Shown.{shown_world}
use Rattle.plain_world.proofs.Answering.{answered_ok}
use Rattle.plain_world.proofs.world.PlainWorld.open.Goals as goal

pub returns : goal.returns
returns c =
    let w = shown_world c.args.self.now in
    let pid = c.args.pid in
    let handle : ℕ = w.streams in
    let reply = written_reply 0 (id_address (shown_call c.args.call) c.args.request.now) handle in
    let same = c.in_ok-reply.ensures ∙ ap (λ (addr : ℕ). written_reply 0 addr handle) c.id_address.ensures in
    answered_ok c.answer.result
    (with_moves (with_part (stream_drawn w) pid (settled (w.process pid).part (StreamOpened handle))) (Opened handle pid ∷ []))
    (shown_world c.add_move.new.self) (shown_world c.answer.new.self) pid c.args.request.now reply c.in_ok-reply.reply
    (Came.Opened reply) (Came.Opened c.in_ok-try_clone.field-0)
    (c.in_ok-add_move.ensures
    ∙ ap (λ (v : World). with_moves v (Opened handle pid ∷ []))
    (c.in_ok-settle_stream.ensures
    ∙ ap (λ (v : World). with_part v pid (settled (v.process pid).part (StreamOpened handle))) c.in_ok-draw_stream.ensures))
    same (ap (λ (r : Reply). Came.Opened r) (c.in_ok-try_clone.ensures ∙ same)) c.answer.ensures
