use Rattle.std.proofs.Common.{sym, ap, subst, ◌∙◌, refl, reverse}
use Rattle.body_validator.specs.Covering.{Covers, IsImage, GivesAll}
use Rattle.body_validator.proofs.Types.{not_both}
use Rattle.body_validator.proofs.Remaining.{one_turned}
use Rattle.body_validator.proofs.Advancing.{end_advances, end_refuses, if_end_refuses, end_no_frames}
use Rattle.body_validator.proofs.checker.Checker.end.Goals as goal

pub returns-in_default-clause-no : goal.returns-in_default-clause-no
returns-in_default-clause-no c e function pool i q = end_no_frames function pool c.args.self.now c.args.self.now i q c.in_default.ensures.0

pub returns-then-not-may_be-clause-no : goal.returns-then-not-may_be-clause-no
returns-then-not-may_be-clause-no c e function pool i q =
    end_refuses function pool c.args.self.now c.args.self.now i q c.in-Some.inside c.pop.new.self c.in-Some.ensures
    (λ h. not_both _ (c.may_be.ensures.1 (subst (λ l. Covers c.args.self.now.operands l) (sym (one_turned c.in-Some.inside.gives) ∙ ap reverse (sym c.listed.ensures)) h)) c.if-not-may_be.true)

pub returns-then-not-may_end-clause-no : goal.returns-then-not-may_end-clause-no
returns-then-not-may_end-clause-no c e function pool i q =
    if_end_refuses function pool c.args.self.now c.args.self.now i q c.in-Some.inside c.pop.new.self c.in-Some.ensures (λ h. not_both _ (c.may_end.ensures.1 h) c.if-not-may_end.true)

pub returns-clause-yes : goal.returns-clause-yes
returns-clause-yes c e function pool i q =
    end_advances function pool c.args.self.now (record { alloc = c.args.self.now.alloc; operands = c.pushes.new.self; frames = c.pop.new.self }) i q c.in-Some.inside c.pop.new.self c.in-Some.ensures
    (subst (λ l. Covers c.args.self.now.operands l) (ap reverse c.listed.ensures ∙ one_turned c.in-Some.inside.gives) (c.may_be.ensures.0 c.if-not-may_be.false))
    (c.may_end.ensures.0 c.if-not-may_end.false) refl
    (subst (λ l. IsImage (GivesAll l) c.in-Some.inside.below c.pushes.new.self) c.listed-2.ensures c.in_ok-pushes.ensures.ok)
