use Rattle.body_validator.proofs.Selecting.{no_condition, no_second, no_first, no_either, selected}
use Rattle.body_validator.proofs.operand_types.OperandTypes.select.Goals as goal

pub returns-then-not-pop_expect-clause-no : goal.returns-then-not-pop_expect-clause-no
returns-then-not-pop_expect-clause-no c e = no_condition c.args.self.now (c.pop_expect.ensures.no c.if-not-pop_expect.true)

pub returns-in_default-clause-no : goal.returns-in_default-clause-no
returns-in_default-clause-no c e = no_second c.args.self.now c.pop_expect.new.self (c.pop_expect.ensures.yes c.if-not-pop_expect.false)
    (c.pop_place.ensures.none c.in_default.is)

pub returns-in_default-pop_place-clause-no : goal.returns-in_default-pop_place-clause-no
returns-in_default-pop_place-clause-no c e =
    no_first c.args.self.now c.pop_expect.new.self (c.pop_expect.ensures.yes c.if-not-pop_expect.false)
    c.in-Some.second c.pop_place.new.self c.in-Some.ensures.some (c.pop_place-2.ensures.none c.in_default-pop_place.is)

pub returns-in_default-either-clause-no : goal.returns-in_default-either-clause-no
returns-in_default-either-clause-no c e =
    no_either c.args.self.now c.pop_expect.new.self (c.pop_expect.ensures.yes c.if-not-pop_expect.false)
    c.in-Some.second c.pop_place.new.self c.in-Some.ensures.some
    c.in-Some-pop_place.first c.pop_place-2.new.self c.in-Some-pop_place.ensures.some c.either.result c.either.ensures c.in_default-either.is

pub returns-clause-yes : goal.returns-clause-yes
returns-clause-yes c e =
    selected c.args.self.now c.pop_expect.new.self (c.pop_expect.ensures.yes c.if-not-pop_expect.false)
    c.in-Some.second c.pop_place.new.self c.in-Some.ensures.some
    c.in-Some-pop_place.first c.pop_place-2.new.self c.in-Some-pop_place.ensures.some c.either.result c.in-Some-either.chosen c.push_place.new.self
    c.either.ensures c.in-Some-either.is c.in_ok-push_place.ensures.ok
