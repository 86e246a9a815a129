use Rattle.std.proofs.Common.{◌≡◌, arith}
use Rattle.flat_machine.specs.Shown.{stack_of}
use Rattle.flat_stepper.specs.States.{flat_of}
use Rattle.flat_stepper.proofs.StackFacts.{stack_length}
use Rattle.flat_stepper.proofs.Moving.{host_params}
use Rattle.flat_stepper.proofs.calls.call.Goals as goal

pub ask_host-requires-clause-params : goal.ask_host-requires-clause-params
ask_host-requires-clause-params c =
    let s = c.args.state.now in
    let free = rw c.in-Host.is at c.requires.applies in
    let b = host_params c.args.parts.now c.args.map.now c.in-Host.call c.in-Host.params c.in-Host.gives c.in-Host.class (stack_of s.values.items c.args.sp) (flat_of s) free in
    omega (arith, stack_length s.values.items c.args.sp, b.0)

pub returns-in-Own-clause-calls : goal.returns-in-Own-clause-calls
returns-in-Own-clause-calls c = rw c.in-Own.is (c.call_own.ensures.calls c.in-Own.gives c.in-Own.class)

pub returns-in-Host-clause-calls : goal.returns-in-Host-clause-calls
returns-in-Host-clause-calls c = rw c.in-Host.is (c.ask_host.ensures.calls c.args.map.now c.in-Host.class)
