use Rattle.std.proofs.Common.{◌≡◌, ap, sym, ◌∙◌, Bool, false, length, nat_lt}
use Rattle.resource_table.specs.Handles.{numbers_of}
use Rattle.world_rules.specs.Part.{is_among, slots_of}
use Rattle.world_rules.specs.Judge.{unless}
use Rattle.world_rules.specs.declared.halt.HostFault.TheVariants as FaultIs
use Rattle.host_calls.specs.Shown.{shown_scratch}
use Rattle.host_calls.proofs.Numbering.{among_by}
use Rattle.host_calls.proofs.Faults.{no_handle}
use Rattle.host_calls.proofs.judging.push_fault.Goals as goal

pub returns-then-not-has : goal.returns-then-not-has
returns-then-not-has g c =
    let numbers = numbers_of c.args.proc.now.table in
    let out : false ≡ is_among numbers c.args.handle =
    sym c.if-not-has.true ∙ among_by numbers c.args.handle c.has.result c.has.ensures.0 c.has.ensures.1 in
    no_handle c.args.proc.now.scratch c.in-Some.pushes (is_among numbers c.args.handle)
    (unless (nat_lt (length (slots_of (shown_scratch c.args.proc.now.scratch))) 64) FaultIs.PlacesFull)
    (sym c.in-Some.is ∙ c.pushes.ensures) out
