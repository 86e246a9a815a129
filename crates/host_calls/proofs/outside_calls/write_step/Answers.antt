use Rattle.std.proofs.Common.{◌≡◌, ℕ, List, take, drop, slice_index, refl, ap, sym, ◌∙◌, arith}
use Rattle.host_port.specs.declared.request.Request.{Request}
use Rattle.host_port.specs.Areas.{request_of}
use Rattle.world_rules.specs.declared.entry.Side.TheVariants as SideIs
use Rattle.world_rules.specs.Calls as CallIs
use Rattle.host_calls.specs.Shown.{shown_part}
use Rattle.resource_table.specs.Steps.{Told, told}
use Rattle.host_calls.specs.OutsideSteps.{count_reply}
use Rattle.host_calls.proofs.OutsideForms.{write_for, write_within, write_count, write_first, write_done}
use Rattle.host_calls.proofs.OutsideNames.{write_there}
use Rattle.host_calls.proofs.OutsideStreams.{no_write}
use Rattle.host_calls.proofs.OutsideComes.{answers_alone, writes_done, writes_wait, writes_fail}
use Rattle.host_calls.proofs.outside_calls.write_step.Goals as goal

pub address-addr-requires-after_bounds : goal.address-addr-requires-after_bounds
address-addr-requires-after_bounds g c κs within = let inside = write_within (g.E.Engine.memory c.args.proc.now.engine) c.args.ask c.requires.asked.fits c.requires.number in omega arith

pub address-count_addr-requires-after_bounds : goal.address-count_addr-requires-after_bounds
address-count_addr-requires-after_bounds g c κs within = write_count (g.E.Engine.memory c.args.proc.now.engine) c.args.ask c.requires.asked.fits c.requires.number

pub returns-then-len-eq0 : goal.returns-then-len-eq0
returns-then-len-eq0 g c =
    let request : Request = request_of (g.E.Engine.memory c.args.proc.now.engine) c.args.ask in
    let part = shown_part c.args.proc.now in
    let is = write_for request c.requires.number in
    let bound = c.min-len.ensures in
    let zero = c.if-len-eq0.true in
    let none : slice_index c.args.ask.args 2 ≡ 0 = omega arith in
    record {
      step = rw c.counted.ensures
          (answers_alone _ request CallIs.WriteStream is.named c.args.proc.now (SideIs.Answer (count_reply 0 c.address-count_addr.result)) c.requires.order
          (no_write request c.address-count_addr.result none)
          (write_done request part 0 c.address-count_addr.result c.address-count_addr.ensures (omega arith) (omega arith) is) refl refl);
    }

pub unreachable-requires : goal.unreachable-requires
unreachable-requires g c =
    let inside = write_within (g.E.Engine.memory c.args.proc.now.engine) c.args.ask c.requires.asked.fits c.requires.number in
    let past = c.in_default.ensures in
    let addr = c.address-addr.ensures in
    let bound = c.min-len.ensures in
    omega arith

pub unreachable-requires-in-None : goal.unreachable-requires-in-None
unreachable-requires-in-None g c =
    let request : Request = request_of (g.E.Engine.memory c.args.proc.now.engine) c.args.ask in
    absurd (c.in-None.ensures.none.0 refl (write_there request (shown_part c.args.proc.now) c.requires.number c.requires.asked.faultless))

pub returns-in-Some-Done : goal.returns-in-Some-Done
returns-in-Some-Done g c =
    let tells : Told g.row.O-Stream.Denot = told g.O.Stream.Stream.taken g.O.Stream.Stream.put g.O.Stream.Stream.faults g.O.Stream.Stream.waits g.O.Stream.Stream.empties g.O.Stream.Stream.down in
    let memory : List ℕ = g.E.Engine.memory c.args.proc.now.engine in
    let request : Request = request_of (g.E.Engine.memory c.args.proc.now.engine) c.args.ask in
    let addr = c.address-addr.result in
    let count_addr = c.address-count_addr.result in
    let first : request.first ≡ take (slice_index c.args.ask.args 2) (drop addr memory) =
    write_first memory c.args.ask c.requires.asked.fits c.requires.number ∙ ap (λ (a : ℕ). take (slice_index c.args.ask.args 2) (drop a memory)) (sym c.address-addr.ensures) in
    let changes = rw c.in-Some-Done.field-0-is at c.in-Some-Done.ensures.written in
    record {
      step = rw c.counted-in-Some-Done.ensures
          (writes_done tells request c.args.proc.now c.write_step.new.self c.requires.order c.requires.number c.min-len.result c.min-len.ensures c.if-len-eq0.false c.in-Some.piece.now memory addr
          c.in-Some-Done.count count_addr c.in-Some.ensures.0 c.in-Some.ensures.1 first changes c.address-count_addr.ensures);
    }

pub returns-in-Some-NotReady : goal.returns-in-Some-NotReady
returns-in-Some-NotReady g c =
    let tells : Told g.row.O-Stream.Denot = told g.O.Stream.Stream.taken g.O.Stream.Stream.put g.O.Stream.Stream.faults g.O.Stream.Stream.waits g.O.Stream.Stream.empties g.O.Stream.Stream.down in
    let request : Request = request_of (g.E.Engine.memory c.args.proc.now.engine) c.args.ask in
    let changes = rw c.in-Some-NotReady.field-0-is at c.in-Some-NotReady.ensures.written in
    record {
      step = writes_wait tells request c.args.proc.now c.write_step.new.self c.requires.order c.requires.number c.min-len.result c.min-len.ensures c.if-len-eq0.false c.in-Some.piece.now changes;
    }

pub returns-in-Some-Failed : goal.returns-in-Some-Failed
returns-in-Some-Failed g c =
    let tells : Told g.row.O-Stream.Denot = told g.O.Stream.Stream.taken g.O.Stream.Stream.put g.O.Stream.Stream.faults g.O.Stream.Stream.waits g.O.Stream.Stream.empties g.O.Stream.Stream.down in
    let request : Request = request_of (g.E.Engine.memory c.args.proc.now.engine) c.args.ask in
    let changes = rw c.in-Some-Failed.field-0-is at c.in-Some-Failed.ensures.written in
    record {
      step = rw c.answered.ensures
          (writes_fail tells request c.args.proc.now c.write_step.new.self c.requires.order c.requires.number c.min-len.result c.min-len.ensures c.if-len-eq0.false c.in-Some.piece.now changes);
    }
