use Rattle.std.proofs.Common.{sym, ap, subst, ◌∙◌, reverse}
use Rattle.body_validator.specs.Covering.{Covers}
use Rattle.body_validator.proofs.Types.{not_both}
use Rattle.body_validator.proofs.Remaining.{one_turned}
use Rattle.body_validator.proofs.Advancing.{else_advances, else_refuses, else_no_frames}
use Rattle.body_validator.proofs.checker.Checker.otherwise.Goals as goal

pub returns-in_default-clause-no : goal.returns-in_default-clause-no
returns-in_default-clause-no c e function pool i q = else_no_frames function pool c.args.self.now c.args.self.now i q c.in_default.ensures.0

pub returns-then-not-may_be-clause-no : goal.returns-then-not-may_be-clause-no
returns-then-not-may_be-clause-no c e function pool i q =
    else_refuses function pool c.args.self.now c.args.self.now i q c.in-Some.first c.pop.new.self c.in-Some.ensures
    (λ h. not_both _ (c.may_be.ensures.1 (subst (λ l. Covers c.args.self.now.operands l) (sym (one_turned c.in-Some.first.gives) ∙ ap reverse (sym c.listed.ensures)) h)) c.if-not-may_be.true)

pub returns-clause-yes : goal.returns-clause-yes
returns-clause-yes c e function pool i q =
    else_advances function pool c.args.self.now (record { alloc = c.args.self.now.alloc; operands = c.new.result; frames = c.push.new.self }) i q c.in-Some.first c.pop.new.self c.in-Some.ensures
    (subst (λ l. Covers c.args.self.now.operands l) (ap reverse c.listed.ensures ∙ one_turned c.in-Some.first.gives) (c.may_be.ensures.0 c.if-not-may_be.false))
    c.in_ok-push.ensures.ok c.new.ensures
