use Rattle.std.proofs.Common.{◌-◌, ◌∙◌, ap, arith}
use Rattle.flat_machine.specs.Shown.{moved}
use Rattle.flat_stepper.specs.declared.within.Spot.{Spot}
use Rattle.flat_stepper.proofs.Running.{body_below, at_instr, behind_code, stands, runs_on, runs_past, is_over, instr_there}
use Rattle.flat_stepper.proofs.Turns.{ready_turn, over_turn, held_turn}
use Rattle.flat_stepper.proofs.body.run_body.Goals as goal

pub fetch-within-requires-clause-body : goal.fetch-within-requires-clause-body
fetch-within-requires-clause-body c = (body_below c.args.parts.now c.args.map.now c.requires.start.0 c.requires.start.1 c.args.values.now c.args.sp c.args.at c.args.outer c.args.memory.now c.args.globals.now c.requires.start.2)

pub step-requires-clause-stands : goal.step-requires-clause-stands
step-requires-clause-stands c = (c.args.parts.now, c.args.map.now, (moved c.requires.start.0 c.requires.start.1 c.loop-instr.values c.loop-instr.spot.sp c.loop-instr.memory c.loop-instr.globals c.loop-instr.spot.pc c.loop-instr.spot.opens), c.requires.start.1, (stands c.args.parts.now c.args.map.now c.requires.start.0 c.requires.start.1 c.args.values.now c.args.sp c.args.at c.args.outer c.args.memory.now c.args.globals.now c.requires.start.2 c.fetch-within.result c.fetch-within.ensures c.loop-instr.values c.loop-instr.memory c.loop-instr.globals c.loop-instr.spot (c.args.budget - c.loop-instr.left) c.in-Some.instr.now (c.loop-instr.invariant.runs c.requires.start.0 c.requires.start.1 c.requires.start.2) (at_instr c.fetch-within.result.code.now c.loop-instr.spot.pc c.in-Some.instr.now c.in-Some.ensures.lookup.3.0 (c.in-Some.ensures.lookup.3.1 c.in-Some.instr.now))))

pub overflow_sub-left : goal.overflow_sub-left
overflow_sub-left c = c.is_spent.ensures.more c.if-is_spent.false c.in-Some.instr.now (at_instr c.fetch-within.result.code.now c.loop-instr.spot.pc c.in-Some.instr.now c.in-Some.ensures.lookup.3.0 (c.in-Some.ensures.lookup.3.1 c.in-Some.instr.now)) c.in-Goes.ensures.steps.0

pub loop-instr-preserved-in-Goes : goal.loop-instr-preserved-in-Goes
loop-instr-preserved-in-Goes c = record {
  room = c.in-Goes.ensures.room;
  low = let low = c.loop-instr.invariant.low in omega arith;
  runs = λ flat has b. runs_on c.args.parts.now c.args.map.now (c.args.budget - c.loop-instr.left) _ flat (moved flat has c.loop-instr.values c.loop-instr.spot.sp c.loop-instr.memory c.loop-instr.globals c.loop-instr.spot.pc c.loop-instr.spot.opens) _ (c.loop-instr.invariant.runs flat has b)
      (c.in-Goes.ensures.steps.1 c.args.parts.now c.args.map.now (moved flat has c.loop-instr.values c.loop-instr.spot.sp c.loop-instr.memory c.loop-instr.globals c.loop-instr.spot.pc c.loop-instr.spot.opens) has (stands c.args.parts.now c.args.map.now flat has c.args.values.now c.args.sp c.args.at c.args.outer c.args.memory.now c.args.globals.now b c.fetch-within.result c.fetch-within.ensures c.loop-instr.values c.loop-instr.memory c.loop-instr.globals c.loop-instr.spot (c.args.budget - c.loop-instr.left) c.in-Some.instr.now (c.loop-instr.invariant.runs flat has b) (at_instr c.fetch-within.result.code.now c.loop-instr.spot.pc c.in-Some.instr.now c.in-Some.ensures.lookup.3.0 (c.in-Some.ensures.lookup.3.1 c.in-Some.instr.now))))
      (let some = c.is_spent.ensures.more c.if-is_spent.false c.in-Some.instr.now (at_instr c.fetch-within.result.code.now c.loop-instr.spot.pc c.in-Some.instr.now c.in-Some.ensures.lookup.3.0 (c.in-Some.ensures.lookup.3.1 c.in-Some.instr.now)) c.in-Goes.ensures.steps.0 in let low = c.loop-instr.invariant.low in omega arith);
}

pub loop-instr-preserved : goal.loop-instr-preserved
loop-instr-preserved c = record {
  room = c.in-Passes.ensures.room;
  low = c.loop-instr.invariant.low;
  runs = λ flat has b. runs_past c.args.parts.now c.args.map.now _ flat (moved flat has c.loop-instr.values c.loop-instr.spot.sp c.loop-instr.memory c.loop-instr.globals c.loop-instr.spot.pc c.loop-instr.spot.opens) _ (c.loop-instr.invariant.runs flat has b)
      (c.in-Passes.ensures.steps.1 c.args.parts.now c.args.map.now (moved flat has c.loop-instr.values c.loop-instr.spot.sp c.loop-instr.memory c.loop-instr.globals c.loop-instr.spot.pc c.loop-instr.spot.opens) has (stands c.args.parts.now c.args.map.now flat has c.args.values.now c.args.sp c.args.at c.args.outer c.args.memory.now c.args.globals.now b c.fetch-within.result c.fetch-within.ensures c.loop-instr.values c.loop-instr.memory c.loop-instr.globals c.loop-instr.spot (c.args.budget - c.loop-instr.left) c.in-Some.instr.now (c.loop-instr.invariant.runs flat has b) (at_instr c.fetch-within.result.code.now c.loop-instr.spot.pc c.in-Some.instr.now c.in-Some.ensures.lookup.3.0 (c.in-Some.ensures.lookup.3.1 c.in-Some.instr.now))));
}

pub returns-then-is_spent-clause-turns : goal.returns-then-is_spent-clause-turns
returns-then-is_spent-clause-turns c flat has b =
    ready_turn c.args.parts.now c.args.map.now flat has c.loop-instr.values c.loop-instr.memory c.loop-instr.globals c.loop-instr.spot (c.args.budget - c.loop-instr.left) c.args.budget c.turn.result c.in-Some.instr.now (c.loop-instr.invariant.runs flat has b)
    c.turn.ensures.pause c.turn.ensures.executed c.turn.ensures.pc c.turn.ensures.sp c.turn.ensures.opens (let none = c.is_spent.ensures.spent c.if-is_spent.true in omega arith)
    (instr_there c.args.parts.now c.args.map.now flat has c.args.values.now c.args.sp c.args.at c.args.outer c.args.memory.now c.args.globals.now b c.fetch-within.result c.fetch-within.ensures c.loop-instr.values c.loop-instr.memory c.loop-instr.globals c.loop-instr.spot c.in-Some.instr.now (at_instr c.fetch-within.result.code.now c.loop-instr.spot.pc c.in-Some.instr.now c.in-Some.ensures.lookup.3.0 (c.in-Some.ensures.lookup.3.1 c.in-Some.instr.now))) (c.is_spent.ensures.counted c.if-is_spent.true c.in-Some.instr.now (at_instr c.fetch-within.result.code.now c.loop-instr.spot.pc c.in-Some.instr.now c.in-Some.ensures.lookup.3.0 (c.in-Some.ensures.lookup.3.1 c.in-Some.instr.now))).0 (c.is_spent.ensures.counted c.if-is_spent.true c.in-Some.instr.now (at_instr c.fetch-within.result.code.now c.loop-instr.spot.pc c.in-Some.instr.now c.in-Some.ensures.lookup.3.0 (c.in-Some.ensures.lookup.3.1 c.in-Some.instr.now))).1

pub returns-in-Pauses-clause-turns : goal.returns-in-Pauses-clause-turns
returns-in-Pauses-clause-turns c flat has b =
    held_turn c.args.parts.now c.args.map.now flat has c.step.new.values c.step.new.memory c.step.new.globals (moved flat has c.loop-instr.values c.loop-instr.spot.sp c.loop-instr.memory c.loop-instr.globals c.loop-instr.spot.pc c.loop-instr.spot.opens) c.loop-instr.spot (c.args.budget - c.loop-instr.left) c.args.budget c.turn-in-Pauses.result c.in-Some.instr.now c.in-Pauses.pause
    (c.loop-instr.invariant.runs flat has b)
    c.turn-in-Pauses.ensures.pause c.turn-in-Pauses.ensures.executed (c.turn-in-Pauses.ensures.pc ∙ ap (λ (s : Spot). s.pc) c.in-Pauses.ensures.steps.0) (c.turn-in-Pauses.ensures.sp ∙ ap (λ (s : Spot). s.sp) c.in-Pauses.ensures.steps.0) (c.turn-in-Pauses.ensures.opens ∙ ap (λ (s : Spot). s.opens) c.in-Pauses.ensures.steps.0)
    (let some = c.is_spent.ensures.more c.if-is_spent.false c.in-Some.instr.now (at_instr c.fetch-within.result.code.now c.loop-instr.spot.pc c.in-Some.instr.now c.in-Some.ensures.lookup.3.0 (c.in-Some.ensures.lookup.3.1 c.in-Some.instr.now)) c.in-Pauses.ensures.steps.1.0 in let low = c.loop-instr.invariant.low in omega arith)
    (instr_there c.args.parts.now c.args.map.now flat has c.args.values.now c.args.sp c.args.at c.args.outer c.args.memory.now c.args.globals.now b c.fetch-within.result c.fetch-within.ensures c.loop-instr.values c.loop-instr.memory c.loop-instr.globals c.loop-instr.spot c.in-Some.instr.now (at_instr c.fetch-within.result.code.now c.loop-instr.spot.pc c.in-Some.instr.now c.in-Some.ensures.lookup.3.0 (c.in-Some.ensures.lookup.3.1 c.in-Some.instr.now)))
    (c.in-Pauses.ensures.steps.1.1 c.args.parts.now c.args.map.now (moved flat has c.loop-instr.values c.loop-instr.spot.sp c.loop-instr.memory c.loop-instr.globals c.loop-instr.spot.pc c.loop-instr.spot.opens) has (stands c.args.parts.now c.args.map.now flat has c.args.values.now c.args.sp c.args.at c.args.outer c.args.memory.now c.args.globals.now b c.fetch-within.result c.fetch-within.ensures c.loop-instr.values c.loop-instr.memory c.loop-instr.globals c.loop-instr.spot (c.args.budget - c.loop-instr.left) c.in-Some.instr.now (c.loop-instr.invariant.runs flat has b) (at_instr c.fetch-within.result.code.now c.loop-instr.spot.pc c.in-Some.instr.now c.in-Some.ensures.lookup.3.0 (c.in-Some.ensures.lookup.3.1 c.in-Some.instr.now))))

pub returns-clause-turns : goal.returns-clause-turns
returns-clause-turns c flat has b =
    over_turn c.args.parts.now c.args.map.now flat has c.loop-instr.values c.loop-instr.memory c.loop-instr.globals c.loop-instr.spot (c.args.budget - c.loop-instr.left) c.args.budget c.turn-2.result (c.loop-instr.invariant.runs flat has b)
    c.turn-2.ensures.pause c.turn-2.ensures.executed c.turn-2.ensures.pc c.turn-2.ensures.sp c.turn-2.ensures.opens
    (is_over c.args.parts.now c.args.map.now flat has c.args.values.now c.args.sp c.args.at c.args.outer c.args.memory.now c.args.globals.now b c.fetch-within.result c.fetch-within.ensures c.loop-instr.values c.loop-instr.memory c.loop-instr.globals c.loop-instr.spot (behind_code c.fetch-within.result.code.now c.loop-instr.spot.pc c.in_default.ensures.lookup.3))
