use Rattle.std.proofs.Common.{◌≡◌, length, subst, ap, arith}
use Rattle.std.proofs.lemmas.List.{nil_from_length}
use Rattle.code_map.specs.Steps.{IsBegun}
use Rattle.code_map.proofs.Bodies.{begins, begun_small, one_step, finished, has_room}
use Rattle.code_map.proofs.body.map_body.Goals as goal

pub loop-instr-init : goal.loop-instr-init
loop-instr-init c =
    let count : c.len.result ≡ length c.args.expr.now.code = c.len.ensures in
    let b : IsBegun c.args.locals c.args.gives (length c.args.expr.now.code) c.in_ok-pass.pass = subst (λ k. IsBegun c.args.locals c.args.gives k c.in_ok-pass.pass) count c.in_ok-pass.ensures in
    record {
      place = omega (arith, ap length b.slots, ap length c.as_slice-left.ensures);
      small = begun_small c.args.locals c.args.gives (length c.args.expr.now.code) c.in_ok-pass.pass c.requires.few b;
      whole = λ m tree are plain f. begins m c.args.locals c.args.gives c.args.expr.now tree c.as_slice-left.result.now c.in_ok-pass.pass plain f c.as_slice-left.ensures c.requires.short b;
    }

pub step-requires-clause-room : goal.step-requires-clause-room
step-requires-clause-room c =
    let m = c.requires.of_module in
    let t = c.requires.tree in
    has_room m.0 c.args.locals c.args.gives c.args.expr.now t.0 c.loop-instr.left.now c.in-Some.rest.now c.in-Some.instr.now c.loop-instr.pass c.requires.short c.loop-instr.invariant.place
    c.in-Some.ensures.cases.0 c.loop-instr.invariant.small (c.loop-instr.invariant.whole m.0 t.0 m.1 t.1 t.2)

pub loop-instr-preserved : goal.loop-instr-preserved
loop-instr-preserved c = record {
  place = omega (arith, c.in_ok-step.ensures.slots, c.loop-instr.invariant.place, ap length c.in-Some.ensures.cases.0);
  small = c.in_ok-step.ensures.small;
  whole = λ m tree are plain f.
      one_step m c.args.signatures.now c.args.locals c.args.gives c.args.expr.now tree c.loop-instr.left.now c.in-Some.rest.now c.in-Some.instr.now c.loop-instr.pass c.step.new.self
      c.as_slice.result.now c.as_slice-in-Some.result.now are c.as_slice.ensures c.as_slice-in-Some.ensures c.in-Some.ensures.cases.0 c.in_ok-step.ensures
      (c.loop-instr.invariant.whole m tree are plain f);
}

pub returns : goal.returns
returns c m are tree plain f =
    finished m c.args.locals c.args.gives c.args.expr.now tree c.loop-instr.left.now c.loop-instr.pass (nil_from_length _ c.in_default.ensures.cases) (c.loop-instr.invariant.whole m tree are plain f)
