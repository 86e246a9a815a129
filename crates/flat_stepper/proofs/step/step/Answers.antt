use Rattle.std.proofs.Common.{refl, rules, arith}
use Rattle.flat_stepper.proofs.Calling.{calls_there, calls_type}
use Rattle.flat_stepper.proofs.Counting.{counted_low, counted_high, comes_next, room_next}
use Rattle.flat_stepper.proofs.step.step.Goals as goal

pub index-requires : goal.index-requires
index-requires c = calls_there c.args.within.now c.args.instr.now c.args.values.now c.args.memory.now c.args.globals.now c.args.at c.requires.stands c.in-16.is

pub index-requires-in-17 : goal.index-requires-in-17
index-requires-in-17 c = calls_type c.args.within.now c.args.instr.now c.args.values.now c.args.memory.now c.args.globals.now c.args.at c.requires.stands c.in-17.is

pub returns-in-11-clause-room : goal.returns-in-11-clause-room
returns-in-11-clause-room c = let room = c.requires.room in omega (arith, room, c.pass_end.ensures.sp, c.pass_end.ensures.low)

pub returns-in-11-clause-steps : goal.returns-in-11-clause-steps
returns-in-11-clause-steps c = (c.pass_end.ensures.forward, λ m map flat has s. c.pass_end.ensures.passes m map flat has c.args.values.now c.args.memory.now c.args.globals.now s)

pub returns-in-5-clause-room : goal.returns-in-5-clause-room
returns-in-5-clause-room c = let room = c.requires.room in omega (arith, room, c.pass_other.ensures.sp, c.pass_other.ensures.low)

pub returns-in-5-clause-steps : goal.returns-in-5-clause-steps
returns-in-5-clause-steps c = (c.pass_other.ensures.forward, λ m map flat has s. c.pass_other.ensures.passes m map flat has c.args.values.now c.args.memory.now c.args.globals.now s)

pub returns-in-2-clause-room : goal.returns-in-2-clause-room
returns-in-2-clause-room c = room_next c.args.at c.begin.result _ c.of-in-2.result c.of-in-2.ensures c.begin.ensures.room

pub returns-in-2-clause-steps : goal.returns-in-2-clause-steps
returns-in-2-clause-steps c = comes_next c.args.within.now c.args.instr.now c.args.values.now c.args.memory.now c.args.globals.now c.args.at c.args.values.now c.args.memory.now c.args.globals.now c.begin.result c.of-in-2.result c.of-in-2.ensures (counted_low c.args.instr.now (let is = c.in-2.if-instr-lt4-own.true in omega (arith, is))) (c.begin.ensures.steps c.args.memory.now c.args.globals.now)

pub returns-in-32-clause-room : goal.returns-in-32-clause-room
returns-in-32-clause-room c = room_next c.args.at c.local.result _ c.of.result c.of.ensures c.local.ensures.room

pub returns-in-32-clause-steps : goal.returns-in-32-clause-steps
returns-in-32-clause-steps c = comes_next c.args.within.now c.args.instr.now c.args.values.now c.args.memory.now c.args.globals.now c.args.at c.local.new.values c.args.memory.now c.args.globals.now c.local.result c.of.result c.of.ensures (counted_high c.args.instr.now (let is = c.in-32.is in omega (arith, is))) (c.local.ensures.steps c.args.memory.now c.args.globals.now)

pub returns-in-35-clause-room : goal.returns-in-35-clause-room
returns-in-35-clause-room c = room_next c.args.at c.global.result _ c.of-in-35.result c.of-in-35.ensures c.global.ensures.room

pub returns-in-35-clause-steps : goal.returns-in-35-clause-steps
returns-in-35-clause-steps c = comes_next c.args.within.now c.args.instr.now c.args.values.now c.args.memory.now c.args.globals.now c.args.at c.global.new.values c.args.memory.now c.args.globals.now c.global.result c.of-in-35.result c.of-in-35.ensures (counted_high c.args.instr.now (let is = c.in-35.is in omega (arith, is))) c.global.ensures.steps

pub returns-in-63-clause-room : goal.returns-in-63-clause-room
returns-in-63-clause-room c = room_next c.args.at c.size.result _ c.of-in-63.result c.of-in-63.ensures c.size.ensures.room

pub returns-in-63-clause-steps : goal.returns-in-63-clause-steps
returns-in-63-clause-steps c = comes_next c.args.within.now c.args.instr.now c.args.values.now c.args.memory.now c.args.globals.now c.args.at c.size.new.values c.args.memory.now c.args.globals.now c.size.result c.of-in-63.result c.of-in-63.ensures (counted_high c.args.instr.now (let is = c.in-63.is in omega (arith, is))) c.size.ensures.steps

pub returns-in-65-clause-room : goal.returns-in-65-clause-room
returns-in-65-clause-room c = room_next c.args.at c.constant_32.result _ c.of-in-65.result c.of-in-65.ensures c.constant_32.ensures.room

pub returns-in-65-clause-steps : goal.returns-in-65-clause-steps
returns-in-65-clause-steps c = comes_next c.args.within.now c.args.instr.now c.args.values.now c.args.memory.now c.args.globals.now c.args.at c.constant_32.new.values c.args.memory.now c.args.globals.now c.constant_32.result c.of-in-65.result c.of-in-65.ensures (counted_high c.args.instr.now (let is = c.in-65.is in omega (arith, is))) (c.constant_32.ensures.steps c.args.memory.now c.args.globals.now)

pub returns-in-66-clause-room : goal.returns-in-66-clause-room
returns-in-66-clause-room c = room_next c.args.at c.constant_64.result _ c.of-in-66.result c.of-in-66.ensures c.constant_64.ensures.room

pub returns-in-66-clause-steps : goal.returns-in-66-clause-steps
returns-in-66-clause-steps c = comes_next c.args.within.now c.args.instr.now c.args.values.now c.args.memory.now c.args.globals.now c.args.at c.constant_64.new.values c.args.memory.now c.args.globals.now c.constant_64.result c.of-in-66.result c.of-in-66.ensures (counted_high c.args.instr.now (let is = c.in-66.is in omega (arith, is))) (c.constant_64.ensures.steps c.args.memory.now c.args.globals.now)

pub returns-in-4-clause-steps : goal.returns-in-4-clause-steps
returns-in-4-clause-steps c = ((counted_low c.args.instr.now (let is = c.in-4.is in omega (arith, is))), c.choose.ensures.steps c.args.memory.now c.args.globals.now)

pub returns-in-12-clause-steps : goal.returns-in-12-clause-steps
returns-in-12-clause-steps c = ((counted_high c.args.instr.now (let is = c.in-12.is in omega (arith, is))), c.branch-within.ensures.steps c.args.memory.now c.args.globals.now)

pub returns-in-13-clause-steps : goal.returns-in-13-clause-steps
returns-in-13-clause-steps c = ((counted_high c.args.instr.now (let is = c.in-13.is in omega (arith, is))), c.branch_if.ensures.steps c.args.memory.now c.args.globals.now)

pub returns-in-14-clause-steps : goal.returns-in-14-clause-steps
returns-in-14-clause-steps c = ((counted_high c.args.instr.now (let is = c.in-14.is in omega (arith, is))), c.branch_table.ensures.steps c.args.memory.now c.args.globals.now)

pub returns-in-16-clause-steps : goal.returns-in-16-clause-steps
returns-in-16-clause-steps c = (refl, (counted_high c.args.instr.now (let is = c.in-16.is in omega (arith, is)), search rules))

pub returns-in-17-clause-steps : goal.returns-in-17-clause-steps
returns-in-17-clause-steps c = (refl, (counted_high c.args.instr.now (let is = c.in-17.is in omega (arith, is)), search rules))
