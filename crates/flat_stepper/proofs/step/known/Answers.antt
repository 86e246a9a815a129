use Rattle.std.proofs.Common.{refl, sym, subst, arith}
use Rattle.flat_stepper.specs.Standing.{IsLow}
use Rattle.flat_stepper.proofs.Places.{step_within}
use Rattle.flat_stepper.proofs.Straights.{low_is, can_go, low_adds_none, straight_free, straight_arrives, straight_traps, still_shows}
use Rattle.flat_stepper.proofs.Counting.{low_counted}
use Rattle.flat_stepper.proofs.step.known.Goals as goal

pub execute_here-requires-clause-goes : goal.execute_here-requires-clause-goes
execute_here-requires-clause-goes c =
    let low : IsLow c.args.instr.now.code = subst IsLow (sym c.requires.same) (low_is c.args.code c.requires.code) in
    can_go c.args.within.now c.args.instr.now c.args.values.now c.args.memory.now c.args.globals.now c.args.at c.requires.stands low

pub execute_here-requires-clause-none : goal.execute_here-requires-clause-none
execute_here-requires-clause-none c =
    let low : IsLow c.args.instr.now.code = subst IsLow (sym c.requires.same) (low_is c.args.code c.requires.code) in
    low_adds_none c.args.instr.now.code low

pub behind-requires : goal.behind-requires
behind-requires c = let below = step_within c.args.within.now c.args.instr.now c.args.values.now c.args.memory.now c.args.globals.now c.args.at c.requires.stands in omega arith

pub returns-in-Ok-clause-steps : goal.returns-in-Ok-clause-steps
returns-in-Ok-clause-steps c =
    let low : IsLow c.args.instr.now.code = subst IsLow (sym c.requires.same) (low_is c.args.code c.requires.code) in (
      low_counted c.args.instr.now low,
      λ m map flat has s. straight_arrives m map flat has c.args.within.now c.args.instr.now c.args.values.now c.args.memory.now c.args.globals.now c.args.at s low c.execute_here.new.values c.execute_here.new.memory c.execute_here.new.globals c.in-Ok.sp c.behind.result
          (c.in-Ok.ensures.goes flat has s.shown (straight_free m map flat has c.args.within.now c.args.instr.now c.args.values.now c.args.memory.now c.args.globals.now c.args.at s low)) c.behind.ensures.pc c.behind.ensures.sp c.behind.ensures.opens (omega (arith, c.in-Ok.ensures.height)),
    )

pub returns-in-Err-clause-steps : goal.returns-in-Err-clause-steps
returns-in-Err-clause-steps c =
    let low : IsLow c.args.instr.now.code = subst IsLow (sym c.requires.same) (low_is c.args.code c.requires.code) in (
      refl,
      (
        low_counted c.args.instr.now low,
        λ m map flat has s. (
          straight_traps m map flat has c.args.within.now c.args.instr.now c.args.values.now c.args.memory.now c.args.globals.now c.args.at s low c.in-Err.trap (c.in-Err.ensures.goes flat has s.shown (straight_free m map flat has c.args.within.now c.args.instr.now c.args.values.now c.args.memory.now c.args.globals.now c.args.at s low)),
          still_shows m map flat has c.args.within.now c.args.instr.now c.args.values.now c.args.memory.now c.args.globals.now c.args.at s c.execute_here.new.values c.execute_here.new.memory c.execute_here.new.globals c.in-Err.ensures.values c.in-Err.ensures.memory c.in-Err.ensures.globals,
        ),
      ),
    )
