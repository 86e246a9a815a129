use Rattle.std.proofs.Common.{Some, ap, ◌∙◌}
use Rattle.std.proofs.lemmas.Result.{IfOk-equal}
use Rattle.world_rules.specs.Answers.{number_reply}
use Rattle.world_rules.specs.Changes.{replied}
use Rattle.world_rules.specs.Calls.{arg}
use Rattle.world_rules.specs.Registry.{with_name, put_performed}
use Rattle.plain_world.specs.Shown.{shown_world}
use Rattle.plain_world.proofs.Answering.{replied_ok, put-zero, put-other, nat_eq-other}
use Rattle.plain_world.proofs.world.PlainWorld.register.Goals as goal

pub returns-then-answer-eq0 : goal.returns-then-answer-eq0
returns-then-answer-eq0 c =
    let w = shown_world c.args.self.now in
    let request = c.args.request.now in
    let there = with_name w request.first (Some (arg request 2)) in
    IfOk-equal c.reply.result (shown_world c.reply.new.self) (replied there c.args.pid request (number_reply 0)) (put_performed w c.args.pid request c.args.refused)
    (replied_ok c.reply.result there (shown_world c.set_name.new.self) (shown_world c.reply.new.self) c.args.pid request (number_reply 0) c.number_reply.result
    c.in_ok-set_name.ensures c.number_reply.ensures c.reply.ensures)
    (put-zero w c.args.pid request c.args.refused c.put_answer-answer.result c.put_answer-answer.ensures c.if-answer-eq0.true)

pub returns : goal.returns
returns c =
    let w = shown_world c.args.self.now in
    let request = c.args.request.now in
    IfOk-equal c.reply-2.result (shown_world c.reply-2.new.self) (replied w c.args.pid request c.number_reply-2.result) (put_performed w c.args.pid request c.args.refused)
    c.reply-2.ensures
    (ap (replied w c.args.pid request) c.number_reply-2.ensures
    ∙ put-other w c.args.pid request c.args.refused c.put_answer-answer.result c.put_answer-answer.ensures
    (nat_eq-other c.put_answer-answer.result 0 c.if-answer-eq0.false))
