use Rattle.std.proofs.Common.{◌≡◌, ◌≢◌, ℕ, Some, List}
use Rattle.flat_machine.specs.Moves.{Stuck, move, call_function, call_indirect}
use Rattle.flat_machine.specs.Moves as moves
use Rattle.flat_stepper.specs.States.{flat_of}
use Rattle.flat_stepper.specs.Outcomes.{reason}
use Rattle.flat_stepper.proofs.Halting.{move_call, move_call_indirect, not_stuck, calls_advance, leaves_advance}
use Rattle.flat_stepper.proofs.runs.advance.Goals as goal

pub leave-halts-requires-clause-applies : goal.leave-halts-requires-clause-applies
leave-halts-requires-clause-applies c =
    let m = c.args.parts.now in
    let map = c.args.map.now in
    let to = flat_of c.go_on-pause.new.state in
    let over = rw c.in-Over.is at c.go_on-pause.ensures.pauses in
    not_stuck m map c.go_on-pause.result.1 (flat_of c.args.state.now) to (moves.leave m map to.callers to) c.requires.safe c.go_on-pause.ensures.runs over

pub call_function-halts-requires-clause-applies : goal.call_function-halts-requires-clause-applies
call_function-halts-requires-clause-applies c =
    let m = c.args.parts.now in
    let map = c.args.map.now in
    let to = flat_of c.go_on-pause.new.state in
    let pauses = rw c.in-Call.is at c.go_on-pause.ensures.pauses in
    not_stuck m map c.go_on-pause.result.1 (flat_of c.args.state.now) to (call_function m map (Some c.in-Call.function) to) c.requires.safe c.go_on-pause.ensures.runs
    (move_call m map c.in-Call.function to pauses.1)

pub call_indirect-halts-requires-clause-applies : goal.call_indirect-halts-requires-clause-applies
call_indirect-halts-requires-clause-applies c =
    let m = c.args.parts.now in
    let map = c.args.map.now in
    let to = flat_of c.go_on-pause.new.state in
    let pauses = rw c.in-CallIndirect.is at c.go_on-pause.ensures.pauses in
    not_stuck m map c.go_on-pause.result.1 (flat_of c.args.state.now) to (call_indirect m map (Some c.in-CallIndirect.ty) to) c.requires.safe c.go_on-pause.ensures.runs
    (move_call_indirect m map c.in-CallIndirect.ty to pauses.1)

pub returns-in-Over-clause-advances : goal.returns-in-Over-clause-advances
returns-in-Over-clause-advances c =
    let m = c.args.parts.now in
    let map = c.args.map.now in
    let mid = flat_of c.go_on-pause.new.state in
    let over = rw c.in-Over.is at c.go_on-pause.ensures.pauses in
    leaves_advance m map (reason c.leave-halts.result c.leave-halts.new.halt) c.args.budget c.go_on-pause.result.1 (flat_of c.args.state.now) mid (flat_of c.leave-halts.new.state)
    (moves.leave m map mid.callers mid) c.go_on-pause.ensures.runs over c.leave-halts.ensures.leaves

pub returns-in-Call-clause-advances : goal.returns-in-Call-clause-advances
returns-in-Call-clause-advances c =
    let m = c.args.parts.now in
    let map = c.args.map.now in
    let mid = flat_of c.go_on-pause.new.state in
    let pauses = rw c.in-Call.is at c.go_on-pause.ensures.pauses in
    calls_advance m map (reason c.call_function-halts.result c.call_function-halts.new.halt) c.args.budget c.go_on-pause.result.1 (flat_of c.args.state.now) mid (flat_of c.call_function-halts.new.state)
    (call_function m map (Some c.in-Call.function) mid) c.go_on-pause.ensures.runs (move_call m map c.in-Call.function mid pauses.1) c.call_function-halts.ensures.calls

pub returns-in-CallIndirect-clause-advances : goal.returns-in-CallIndirect-clause-advances
returns-in-CallIndirect-clause-advances c =
    let m = c.args.parts.now in
    let map = c.args.map.now in
    let mid = flat_of c.go_on-pause.new.state in
    let pauses = rw c.in-CallIndirect.is at c.go_on-pause.ensures.pauses in
    calls_advance m map (reason c.call_indirect-halts.result c.call_indirect-halts.new.halt) c.args.budget c.go_on-pause.result.1 (flat_of c.args.state.now) mid (flat_of c.call_indirect-halts.new.state)
    (call_indirect m map (Some c.in-CallIndirect.ty) mid) c.go_on-pause.ensures.runs (move_call_indirect m map c.in-CallIndirect.ty mid pauses.1)
    c.call_indirect-halts.ensures.calls
