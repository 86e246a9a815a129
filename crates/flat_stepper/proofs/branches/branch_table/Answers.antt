use Rattle.std.proofs.Common.{◌∙◌, ◌≡◌, ◌-◌, min, ap, ℕ, List, arith}
use Rattle.std.specs.Prelude.{slice_index}
use Rattle.flat_stepper.specs.Targets.{entry_of}
use Rattle.flat_stepper.proofs.Branching.{reached, can_table, can_take, table_reaches, table_jumps, table_moves, jump_arrives}
use Rattle.flat_stepper.proofs.branches.branch_table.Goals as goal

-- the number of the entry
number_is : (old : List ℕ) (sp count from number : ℕ) → number ≡ min (slice_index old (sp - 1)) from → from ≡ count → number ≡ min (slice_index old (sp - 1)) count
number_is old sp count from number e f = e ∙ ap (λ (n : ℕ). min (slice_index old (sp - 1)) n) f

pub overflow_sub-sp : goal.overflow_sub-sp
overflow_sub-sp c = let one = can_take c.args.within.now c.args.instr.now c.args.values.now c.args.at c.requires.stands c.requires.code in omega arith

pub bounds-values-sp : goal.bounds-values-sp
bounds-values-sp c = let one = can_take c.args.within.now c.args.instr.now c.args.values.now c.args.at c.requires.stands c.requires.code in omega arith

pub label_count-requires : goal.label_count-requires
label_count-requires c = can_table c.args.within.now c.args.instr.now c.args.values.now c.args.at c.requires.stands c.requires.code

pub entry-requires : goal.entry-requires
entry-requires c = let r = table_reaches c.args.within.now c.args.instr.now c.args.values.now c.args.at c.requires.stands c.requires.code c.label_count.result c.min-number.result c.label_count.ensures (number_is c.args.values.now c.args.at.sp c.label_count.result c.from.result c.min-number.result c.min-number.ensures c.from.ensures) in (r.target, r.is)

pub jump-requires-clause-height : goal.jump-requires-clause-height
jump-requires-clause-height c = (reached c.args.within.now _ _ _ c.entry.result (table_reaches c.args.within.now c.args.instr.now c.args.values.now c.args.at c.requires.stands c.requires.code c.label_count.result c.min-number.result c.label_count.ensures (number_is c.args.values.now c.args.at.sp c.label_count.result c.from.result c.min-number.result c.min-number.ensures c.from.ensures)) c.entry.ensures).2

pub jump-requires-clause-opens : goal.jump-requires-clause-opens
jump-requires-clause-opens c = let low = (reached c.args.within.now _ _ _ c.entry.result (table_reaches c.args.within.now c.args.instr.now c.args.values.now c.args.at c.requires.stands c.requires.code c.label_count.result c.min-number.result c.label_count.ensures (number_is c.args.values.now c.args.at.sp c.label_count.result c.from.result c.min-number.result c.min-number.ensures c.from.ensures)) c.entry.ensures).1 in omega arith

pub returns-clause-room : goal.returns-clause-room
returns-clause-room c = let r = reached c.args.within.now _ _ _ c.entry.result (table_reaches c.args.within.now c.args.instr.now c.args.values.now c.args.at c.requires.stands c.requires.code c.label_count.result c.min-number.result c.label_count.ensures (number_is c.args.values.now c.args.at.sp c.label_count.result c.from.result c.min-number.result c.min-number.ensures c.from.ensures)) c.entry.ensures in omega (arith, r.1, r.2)

pub returns-clause-steps : goal.returns-clause-steps
returns-clause-steps c memory globals m map flat has s =
    let one = can_take c.args.within.now c.args.instr.now c.args.values.now c.args.at c.requires.stands c.requires.code in
    let r = reached c.args.within.now _ _ _ c.entry.result (table_reaches c.args.within.now c.args.instr.now c.args.values.now c.args.at c.requires.stands c.requires.code c.label_count.result c.min-number.result c.label_count.ensures (number_is c.args.values.now c.args.at.sp c.label_count.result c.from.result c.min-number.result c.min-number.ensures c.from.ensures)) c.entry.ensures in
    let t = can_table c.args.within.now c.args.instr.now c.args.values.now c.args.at c.requires.stands c.requires.code in
    let number : c.min-number.result ≡ min (slice_index c.args.values.now (c.args.at.sp - 1)) t.1 =
    (number_is c.args.values.now c.args.at.sp c.label_count.result c.from.result c.min-number.result c.min-number.ensures c.from.ensures) ∙ ap (λ (n : ℕ). min (slice_index c.args.values.now (c.args.at.sp - 1)) n) (c.label_count.ensures t.0 t.1 t.2 t.3) in
    table_moves m map flat has c.args.within.now c.args.instr.now c.args.values.now memory globals c.args.at s t.0 t.1 t.2 c.requires.code t.3 (c.args.at.sp - 1) c.min-number.result (omega arith) number
    ∙ jump_arrives m map flat has c.args.within.now c.args.instr.now c.args.values.now memory globals c.args.at s (entry_of c.args.within.now c.args.at.pc c.min-number.result) _ (c.args.at.sp - 1) c.jump.new.values c.entry.result c.jump.result
    (table_jumps m map flat has c.args.within.now c.args.instr.now c.args.values.now memory globals c.args.at s t.0 t.1 t.2 c.requires.code t.3 (c.args.at.sp - 1) c.min-number.result (omega arith) number)
    c.entry.ensures c.jump.ensures.pc c.jump.ensures.opens c.jump.ensures.values (omega (arith, r.1, r.2))
