use Rattle.std.proofs.Common.{ℕ, ap, ◌∙◌, not, nat_eq}
use Rattle.world_rules.specs.Answers.{empty_reply}
use Rattle.world_rules.specs.Calls.{arg}
use Rattle.world_rules.specs.World.{with_process}
use Rattle.plain_world.specs.Shown.{shown_world}
use Rattle.plain_world.proofs.Answering.{replied_ok}
use Rattle.plain_world.proofs.world.PlainWorld.mind_links.Goals as goal

pub returns : goal.returns
returns c =
    let w = shown_world c.args.self.now in
    let pid = c.args.pid in
    replied_ok c.reply.result (with_process w pid (record (w.process pid) { dies = not (nat_eq (arg c.args.request.now 0) 0) }))
    (shown_world c.set_dies.new.self) (shown_world c.reply.new.self) pid c.args.request.now empty_reply c.empty_reply.result
    (c.in_ok-set_dies.ensures ∙ ap (λ (n : ℕ). with_process w pid (record (w.process pid) { dies = not (nat_eq n 0) })) c.argument.ensures)
    c.empty_reply.ensures c.reply.ensures
