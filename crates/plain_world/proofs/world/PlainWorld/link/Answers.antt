use Rattle.std.proofs.Common.{ℕ, Some, ap, ◌∙◌}
use Rattle.std.proofs.lemmas.Result.{IfOk-equal}
use Rattle.world_rules.specs.Answers.{number_reply}
use Rattle.world_rules.specs.Changes.{replied}
use Rattle.world_rules.specs.Calls.{arg}
use Rattle.world_rules.specs.Links.{with_link, link_answer, link_performed}
use Rattle.plain_world.specs.Shown.{shown_world}
use Rattle.plain_world.proofs.Answering.{replied_ok, nat_eq-other}
use Rattle.plain_world.proofs.Linking.{link-zero, link-other}
use Rattle.plain_world.proofs.world.PlainWorld.link.Goals as goal

pub returns-then-answer-eq0 : goal.returns-then-answer-eq0
returns-then-answer-eq0 c =
    let w = shown_world c.args.self.now in
    let pid = c.args.pid in
    let request = c.args.request.now in
    let there = with_link w pid (arg request 1) (Some (arg request 0)) in
    IfOk-equal c.reply.result (shown_world c.reply.new.self) (replied there pid request (number_reply 0)) (link_performed w pid request c.args.refused)
    (replied_ok c.reply.result there (shown_world c.set_link.new.self) (shown_world c.reply.new.self) pid request (number_reply 0) c.number_reply.result
    (c.in_ok-set_link.ensures
    ∙ ap (λ (other : ℕ). with_link w pid other (Some c.argument.result)) c.argument-other.ensures
    ∙ ap (λ (tag : ℕ). with_link w pid (arg request 1) (Some tag)) c.argument.ensures)
    c.number_reply.ensures c.reply.ensures)
    (link-zero w pid request c.args.refused c.link_answer-answer.result
    (c.link_answer-answer.ensures ∙ ap (λ (other : ℕ). link_answer w pid other c.args.refused) c.argument-other.ensures) c.if-answer-eq0.true)

pub returns : goal.returns
returns c =
    let w = shown_world c.args.self.now in
    let pid = c.args.pid in
    let request = c.args.request.now in
    IfOk-equal c.reply-2.result (shown_world c.reply-2.new.self) (replied w pid request c.number_reply-2.result) (link_performed w pid request c.args.refused)
    c.reply-2.ensures
    (ap (replied w pid request) c.number_reply-2.ensures
    ∙ link-other w pid request c.args.refused c.link_answer-answer.result
    (c.link_answer-answer.ensures ∙ ap (λ (other : ℕ). link_answer w pid other c.args.refused) c.argument-other.ensures)
    (nat_eq-other c.link_answer-answer.result 0 c.if-answer-eq0.false))
