use Rattle.std.proofs.Common.{ℕ, None, ap, ◌∙◌}
use Rattle.world_rules.specs.Answers.{empty_reply}
use Rattle.world_rules.specs.Calls.{arg}
use Rattle.world_rules.specs.Links.{with_link}
use Rattle.plain_world.specs.Shown.{shown_world}
use Rattle.plain_world.proofs.Answering.{replied_ok}
use Rattle.plain_world.proofs.world.PlainWorld.unlink.Goals as goal

pub returns : goal.returns
returns c =
    let w = shown_world c.args.self.now in
    replied_ok c.reply.result (with_link w c.args.pid (arg c.args.request.now 0) None) (shown_world c.set_link.new.self)
    (shown_world c.reply.new.self) c.args.pid c.args.request.now empty_reply c.empty_reply.result
    (c.in_ok-set_link.ensures ∙ ap (λ (other : ℕ). with_link w c.args.pid other None) c.argument.ensures)
    c.empty_reply.ensures c.reply.ensures
