use Rattle.std.proofs.Common.{◌≡◌, ℕ, List, [], length, take, slice_index, refl, ap, sym, ◌∙◌, arith}
use Rattle.host_port.specs.declared.request.Request.{Request}
use Rattle.host_port.specs.Areas.{request_of}
use Rattle.world_rules.specs.declared.entry.Side.TheVariants as SideIs
use Rattle.world_rules.specs.Calls as CallIs
use Rattle.host_calls.specs.Shown.{shown_part}
use Rattle.std.proofs.lemmas.List.Elements.{All-nil}
use Rattle.resource_table.specs.Steps.{Told, told}
use Rattle.host_calls.specs.OutsideSteps.{moved_reply}
use Rattle.host_calls.proofs.OutsideForms.{read_for, read_address, read_count, read_done}
use Rattle.host_calls.proofs.OutsideNames.{read_there}
use Rattle.host_calls.proofs.OutsideStreams.{no_read}
use Rattle.host_calls.proofs.OutsideComes.{answers_alone, reads_done, reads_wait, reads_fail, cut_buffer}
use Rattle.host_calls.proofs.outside_calls.read_step.Goals as goal

pub address-addr-requires-after_bounds : goal.address-addr-requires-after_bounds
address-addr-requires-after_bounds g c κs within = read_address (g.E.Engine.memory c.args.proc.now.engine) c.args.ask c.requires.asked.fits c.requires.number

pub address-count_addr-requires-after_bounds : goal.address-count_addr-requires-after_bounds
address-count_addr-requires-after_bounds g c κs within = read_count (g.E.Engine.memory c.args.proc.now.engine) c.args.ask c.requires.asked.fits c.requires.number

pub returns-then-len-eq0 : goal.returns-then-len-eq0
returns-then-len-eq0 g c =
    let request : Request = request_of (g.E.Engine.memory c.args.proc.now.engine) c.args.ask in
    let part = shown_part c.args.proc.now in
    let is = read_for request c.requires.number in
    let bound = c.min-len.ensures in
    let zero = c.if-len-eq0.true in
    let none : slice_index c.args.ask.args 2 ≡ 0 = omega arith in
    let reply : c.moved.result ≡ moved_reply c.address-addr.result [] c.address-count_addr.result =
    c.moved.ensures.reply ∙ ap (λ (bytes : List ℕ). moved_reply c.address-addr.result bytes c.address-count_addr.result) c.new.ensures in
    record {
      step = rw reply
          (answers_alone _ request CallIs.ReadStream is.named c.args.proc.now (SideIs.Answer (moved_reply c.address-addr.result [] c.address-count_addr.result)) c.requires.order
          (no_read request c.address-addr.result c.address-count_addr.result none)
          (read_done request part c.address-addr.result c.address-count_addr.result [] c.address-addr.ensures c.address-count_addr.ensures (All-nil _) (omega arith) (omega arith) is) refl refl);
    }

pub unreachable-requires : goal.unreachable-requires
unreachable-requires g c =
    let request : Request = request_of (g.E.Engine.memory c.args.proc.now.engine) c.args.ask in
    absurd (c.in-None.ensures.none.0 refl (read_there request (shown_part c.args.proc.now) c.requires.number c.requires.asked.faultless))

pub returns-in-Some-Done : goal.returns-in-Some-Done
returns-in-Some-Done g c =
    let tells : Told g.row.O-Stream.Denot = told g.O.Stream.Stream.taken g.O.Stream.Stream.put g.O.Stream.Stream.faults g.O.Stream.Stream.waits g.O.Stream.Stream.empties g.O.Stream.Stream.down in
    let request : Request = request_of (g.E.Engine.memory c.args.proc.now.engine) c.args.ask in
    let addr = c.address-addr.result in
    let count_addr = c.address-count_addr.result in
    let buffer = c.read_step.new.buf in
    let bytes = c.from_vec.result in
    let kept : length buffer ≡ length c.as_mut_slice.result.now = c.read_step.auto.buf in
    let long : length c.as_mut_slice.result.now ≡ c.min-len.result = c.as_mut_slice.ensures.len ∙ c.in-Ok.ensures.len in
    let changes = rw c.in-Some-Done.field-0-is at c.in-Some-Done.ensures.read in
    let within = changes.changed.taken.within in
    let are : bytes ≡ take c.in-Some-Done.count buffer = c.from_vec.ensures ∙ cut_buffer c.in-Some-Done.count c.in-Ok.buffer.len buffer _ c.truncate.new.self.items c.truncate.ensures.items
    (first_of (omega (arith, within, kept, c.as_mut_slice.ensures.len), omega (arith, within, kept, c.as_mut_slice.ensures.len, c.in-Ok.buffer.ok.0))) within in
    record {
      step = rw c.moved-in-Some-Done.ensures.reply
          (reads_done tells request c.args.proc.now c.read_step.new.self c.requires.order c.requires.number c.min-len.result c.min-len.ensures c.if-len-eq0.false buffer c.in-Some-Done.count addr
          count_addr
          bytes (kept ∙ long) (rw (sym kept) at changes) are c.address-addr.ensures c.address-count_addr.ensures c.moved-in-Some-Done.ensures.octets);
    }

pub returns-in-Some-NotReady : goal.returns-in-Some-NotReady
returns-in-Some-NotReady g c =
    let tells : Told g.row.O-Stream.Denot = told g.O.Stream.Stream.taken g.O.Stream.Stream.put g.O.Stream.Stream.faults g.O.Stream.Stream.waits g.O.Stream.Stream.empties g.O.Stream.Stream.down in
    let request : Request = request_of (g.E.Engine.memory c.args.proc.now.engine) c.args.ask in
    let kept : length c.read_step.new.buf ≡ length c.as_mut_slice.result.now = c.read_step.auto.buf in
    let changes = rw c.in-Some-NotReady.field-0-is at c.in-Some-NotReady.ensures.read in
    record {
      step = reads_wait tells request c.args.proc.now c.read_step.new.self c.requires.order c.requires.number c.min-len.result c.min-len.ensures c.if-len-eq0.false c.read_step.new.buf
          (rw (sym kept) at changes);
    }

pub returns-in-Some-Failed : goal.returns-in-Some-Failed
returns-in-Some-Failed g c =
    let tells : Told g.row.O-Stream.Denot = told g.O.Stream.Stream.taken g.O.Stream.Stream.put g.O.Stream.Stream.faults g.O.Stream.Stream.waits g.O.Stream.Stream.empties g.O.Stream.Stream.down in
    let request : Request = request_of (g.E.Engine.memory c.args.proc.now.engine) c.args.ask in
    let kept : length c.read_step.new.buf ≡ length c.as_mut_slice.result.now = c.read_step.auto.buf in
    let changes = rw c.in-Some-Failed.field-0-is at c.in-Some-Failed.ensures.read in
    record {
      step = rw c.answered.ensures
          (reads_fail tells request c.args.proc.now c.read_step.new.self c.requires.order c.requires.number c.min-len.result c.min-len.ensures c.if-len-eq0.false c.read_step.new.buf
          (rw (sym kept) at changes));
    }
