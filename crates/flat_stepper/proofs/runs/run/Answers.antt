use Rattle.std.proofs.Common.{◌≡◌, ℕ, ◌+◌, ◌-◌, arith}
use Rattle.flat_machine.proofs.RunsCompose.{runs_joined, safe_on}
use Rattle.flat_stepper.specs.States.{flat_of}
use Rattle.flat_stepper.proofs.Halting.{halts_after}
use Rattle.flat_stepper.proofs.runs.run.Goals as goal

pub advance-halts-requires-clause-safe : goal.advance-halts-requires-clause-safe
advance-halts-requires-clause-safe c =
    safe_on c.args.parts.now c.args.map.now c.loop-halt.executed (flat_of c.args.state.now) (flat_of c.loop-halt.state) c.requires.safe c.loop-halt.invariant.2

pub returns-then-halts-clause-halts : goal.returns-then-halts-clause-halts
returns-then-halts-clause-halts c =
    let halts = rw c.if-halts.true at c.advance-halts.ensures.advances in
    let split : c.args.budget ≡ c.loop-halt.executed + (c.args.budget - c.loop-halt.executed) = omega (arith, c.loop-halt.invariant.1) in
    halts_after c.args.parts.now c.args.map.now c.advance-halts.new.halt c.args.budget c.loop-halt.executed c.advance-halts.result.1 (c.args.budget - c.loop-halt.executed)
    (flat_of c.args.state.now) (flat_of c.loop-halt.state) (flat_of c.advance-halts.new.state) split c.loop-halt.invariant.2 halts

pub loop-halt-preserved : goal.loop-halt-preserved
loop-halt-preserved c =
    let goes = rw c.if-halts.false at c.advance-halts.ensures.advances in (
      c.advance-halts.ensures.sound,
      omega (arith, c.loop-halt.invariant.1, c.advance-halts.ensures.within),
      runs_joined c.args.parts.now c.args.map.now c.loop-halt.executed c.advance-halts.result.1 (flat_of c.args.state.now) (flat_of c.loop-halt.state)
          (flat_of c.advance-halts.new.state) c.loop-halt.invariant.2 goes,
    )
