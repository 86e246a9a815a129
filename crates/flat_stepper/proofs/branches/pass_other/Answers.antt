use Rattle.std.proofs.Common.{◌+◌, refl, arith}
use Rattle.flat_stepper.proofs.Passing.{other_finds, other_leads, other_passes}
use Rattle.flat_stepper.proofs.branches.pass_other.Goals as goal

pub target-to-requires : goal.target-to-requires
target-to-requires c = other_finds c.args.within.now c.args.instr.now c.args.at c.requires.stands c.requires.code

pub overflow_add-result : goal.overflow_add-result
overflow_add-result c = let l = other_leads c.args.within.now c.args.instr.now c.args.at c.requires.stands c.requires.code c.target-to.result c.target-to.ensures in omega (arith, l.0, l.1)

pub returns-clause-forward : goal.returns-clause-forward
returns-clause-forward c = (other_leads c.args.within.now c.args.instr.now c.args.at c.requires.stands c.requires.code c.target-to.result c.target-to.ensures).0

pub returns-clause-low : goal.returns-clause-low
returns-clause-low c = (other_leads c.args.within.now c.args.instr.now c.args.at c.requires.stands c.requires.code c.target-to.result c.target-to.ensures).1

pub returns-clause-passes : goal.returns-clause-passes
returns-clause-passes c m map flat has values memory globals s =
    other_passes m map flat has c.args.within.now c.args.instr.now values memory globals c.args.at s c.requires.code c.target-to.result c.target-to.ensures (record { pc = c.target-to.result.to; sp = c.args.at.sp; opens = c.args.within.now.outer + c.target-to.result.opens }) refl refl refl
