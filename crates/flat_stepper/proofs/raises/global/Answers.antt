use Rattle.std.proofs.Common.{◌∙◌, sym, ap, ℕ, arith}
use Rattle.tree_machine.specs.Outcomes.{Gives}
use Rattle.flat_machine.specs.Shown.{stack_of}
use Rattle.flat_stepper.proofs.Places.{step_within}
use Rattle.flat_stepper.proofs.Raising.{global_full, global_there, global_below, global_pushed, shows}
use Rattle.flat_stepper.proofs.raises.global.Goals as goal

pub returns-then-is_full-clause-steps : goal.returns-then-is_full-clause-steps
returns-then-is_full-clause-steps c m map flat has s = (global_full m map flat has c.args.within.now c.args.instr.now c.args.values.now c.args.memory.now c.args.globals.now c.args.at s c.requires.code _ (c.is_full.ensures.full c.if-is_full.true), shows m map flat has c.args.within.now c.args.instr.now c.args.values.now c.args.memory.now c.args.globals.now c.args.at s)

pub index-requires : goal.index-requires
index-requires c = global_there c.requires.stands.0 c.requires.stands.1 c.requires.stands.2 c.requires.stands.3 c.args.within.now c.args.instr.now c.args.values.now c.args.memory.now c.args.globals.now c.args.at c.requires.stands.4 c.requires.code

pub get_global-sp-requires-clause-there : goal.get_global-sp-requires-clause-there
get_global-sp-requires-clause-there c = global_below c.requires.stands.0 c.requires.stands.1 c.requires.stands.2 c.requires.stands.3 c.args.within.now c.args.instr.now c.args.values.now c.args.memory.now c.args.globals.now c.args.at c.requires.stands.4 c.requires.code c.index.result c.index.ensures

pub behind-requires : goal.behind-requires
behind-requires c = let below = step_within c.args.within.now c.args.instr.now c.args.values.now c.args.memory.now c.args.globals.now c.args.at c.requires.stands in omega arith

pub returns-clause-steps : goal.returns-clause-steps
returns-clause-steps c m map flat has s =
    let room = c.is_full.ensures.room c.if-is_full.false in
    global_pushed m map flat has c.args.within.now c.args.instr.now c.args.values.now c.args.memory.now c.args.globals.now c.args.at s c.requires.code c.index.result c.index.ensures c.get_global-sp.new.values c.behind.result (c.get_global-sp.ensures.gets ∙ ap (λ (n : ℕ). Gives (stack_of c.get_global-sp.new.values n)) (sym c.behind.ensures.sp)) c.behind.ensures.pc c.behind.ensures.opens (omega arith)
