use Rattle.std.proofs.Common.{refl, arith}
use Rattle.flat_stepper.proofs.Places.{step_within}
use Rattle.flat_stepper.proofs.Straights.{can_go, straight_free, straight_arrives, straight_traps, still_shows}
use Rattle.flat_stepper.proofs.Counting.{low_counted}
use Rattle.flat_stepper.proofs.step.straight.Goals as goal

pub execute-requires-clause-goes : goal.execute-requires-clause-goes
execute-requires-clause-goes c = can_go c.args.within.now c.args.instr.now c.args.values.now c.args.memory.now c.args.globals.now c.args.at c.requires.stands c.requires.code

pub behind-requires : goal.behind-requires
behind-requires c = let below = step_within c.args.within.now c.args.instr.now c.args.values.now c.args.memory.now c.args.globals.now c.args.at c.requires.stands in omega arith

pub returns-in-Ok-clause-steps : goal.returns-in-Ok-clause-steps
returns-in-Ok-clause-steps c = (
  low_counted c.args.instr.now c.requires.code,
  λ m map flat has s.
      straight_arrives m map flat has c.args.within.now c.args.instr.now c.args.values.now c.args.memory.now c.args.globals.now c.args.at s c.requires.code c.execute.new.values c.execute.new.memory c.execute.new.globals c.in-Ok.sp c.behind.result
      (c.in-Ok.ensures.goes flat has s.shown (straight_free m map flat has c.args.within.now c.args.instr.now c.args.values.now c.args.memory.now c.args.globals.now c.args.at s c.requires.code)) c.behind.ensures.pc c.behind.ensures.sp c.behind.ensures.opens (omega (arith, c.in-Ok.ensures.height)),
)

pub returns-in-Err-clause-steps : goal.returns-in-Err-clause-steps
returns-in-Err-clause-steps c = (
  refl,
  (
    low_counted c.args.instr.now c.requires.code,
    λ m map flat has s. (
      straight_traps m map flat has c.args.within.now c.args.instr.now c.args.values.now c.args.memory.now c.args.globals.now c.args.at s c.requires.code c.in-Err.trap (c.in-Err.ensures.goes flat has s.shown (straight_free m map flat has c.args.within.now c.args.instr.now c.args.values.now c.args.memory.now c.args.globals.now c.args.at s c.requires.code)),
      still_shows m map flat has c.args.within.now c.args.instr.now c.args.values.now c.args.memory.now c.args.globals.now c.args.at s c.execute.new.values c.execute.new.memory c.execute.new.globals c.in-Err.ensures.values c.in-Err.ensures.memory c.in-Err.ensures.globals,
    ),
  ),
)
