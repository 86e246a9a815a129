use Rattle.std.proofs.Common.{arith, subst}
use Rattle.std.specs.Prelude.{option_to_list}
use Rattle.wasm_form.specs.Typing.{EndsIn}
use Rattle.body_validator.specs.Covering.{IsImage, IsStuck}
use Rattle.body_validator.proofs.Types.{label_is, label_none, not_both}
use Rattle.body_validator.proofs.Leaving.{no_default, no_number, no_carried, table_image, labels_differ, all_same}
use Rattle.body_validator.proofs.operand_types.OperandTypes.table.Goals as goal

pub returns-in_default-clause-no : goal.returns-in_default-clause-no
returns-in_default-clause-no c e context labels =
    no_default context c.args.labels.now c.args.last _ (label_none c.args.frames.now context.labels c.args.last c.carried.result labels c.carried.ensures c.in_default.is)

pub returns-then-not-is_same-clause-no : goal.returns-then-not-is_same-clause-no
returns-then-not-is_same-clause-no c e context labels =
    labels_differ context c.args.labels.now c.args.last c.args.frames.now c.in-Some.carried c.loop-label.label-index c.carried-in-loop-label.result c.args.self.now labels
    (label_is c.args.frames.now context.labels c.args.last c.carried.result c.in-Some.carried labels c.carried.ensures c.in-Some.is)
    c.loop-label-test.true c.carried-in-loop-label.ensures (λ s. not_both _ (c.is_same.ensures.1 s) c.if-not-is_same.true)

pub returns-then-not-pop_expect-clause-no : goal.returns-then-not-pop_expect-clause-no
returns-then-not-pop_expect-clause-no c e context labels =
    no_number context c.args.labels.now c.args.last (option_to_list c.in-Some.carried)
    (label_is c.args.frames.now context.labels c.args.last c.carried.result c.in-Some.carried labels c.carried.ensures c.in-Some.is)
    c.args.self.now (c.pop_expect.ensures.no c.if-not-pop_expect.true)

pub returns-clause-yes : goal.returns-clause-yes
returns-clause-yes c e context labels =
    table_image context c.args.labels.now c.args.last (option_to_list c.in-Some.carried)
    (label_is c.args.frames.now context.labels c.args.last c.carried.result c.in-Some.carried labels c.carried.ensures c.in-Some.is)
    c.args.self.now c.pop_expect.new.self c.leave_with.new.self
    (all_same context c.args.labels.now c.args.frames.now c.in-Some.carried labels (λ k h. c.loop-label.invariant.same_so_far k (omega arith)))
    (c.pop_expect.ensures.yes c.if-not-pop_expect.false)
    (subst (λ n. IsImage (λ x y. EndsIn n x) c.pop_expect.new.self c.leave_with.new.self) c.listed.ensures (c.leave_with.ensures.yes e))

pub returns-clause-no : goal.returns-clause-no
returns-clause-no c e context labels =
    no_carried context c.args.labels.now c.args.last (option_to_list c.in-Some.carried)
    (label_is c.args.frames.now context.labels c.args.last c.carried.result c.in-Some.carried labels c.carried.ensures c.in-Some.is)
    c.args.self.now c.pop_expect.new.self (c.pop_expect.ensures.yes c.if-not-pop_expect.false)
    (subst (λ n. IsStuck (λ x y. EndsIn n x) c.pop_expect.new.self) c.listed.ensures (c.leave_with.ensures.no e))
