use Rattle.std.proofs.Common.{◌∙◌, sym, ap, ℕ, arith}
use Rattle.tree_machine.specs.Outcomes.{Gives}
use Rattle.flat_machine.specs.Shown.{stack_of}
use Rattle.flat_stepper.proofs.Places.{step_within}
use Rattle.flat_stepper.proofs.Raising.{size_full, size_pushed, shows}
use Rattle.flat_stepper.proofs.raises.size.Goals as goal

pub returns-then-is_full-clause-steps : goal.returns-then-is_full-clause-steps
returns-then-is_full-clause-steps c m map flat has s = (size_full m map flat has c.args.within.now c.args.instr.now c.args.values.now c.args.memory.now c.args.globals.now c.args.at s c.requires.code _ (c.is_full.ensures.full c.if-is_full.true), shows m map flat has c.args.within.now c.args.instr.now c.args.values.now c.args.memory.now c.args.globals.now c.args.at s)

pub behind-requires : goal.behind-requires
behind-requires c = let below = step_within c.args.within.now c.args.instr.now c.args.values.now c.args.memory.now c.args.globals.now c.args.at c.requires.stands in omega arith

pub returns-clause-steps : goal.returns-clause-steps
returns-clause-steps c m map flat has s =
    let room = c.is_full.ensures.room c.if-is_full.false in
    size_pushed m map flat has c.args.within.now c.args.instr.now c.args.values.now c.args.memory.now c.args.globals.now c.args.at s c.requires.code c.push_size-sp.new.values c.behind.result (c.push_size-sp.ensures.sizes ∙ ap (λ (n : ℕ). Gives (stack_of c.push_size-sp.new.values n)) (sym c.behind.ensures.sp)) c.behind.ensures.pc c.behind.ensures.opens (omega arith)
