use Rattle.std.proofs.Common.{◌≡◌, ap, sym, ◌∙◌, Bool, false}
use Rattle.resource_table.specs.Handles.{numbers_of}
use Rattle.world_rules.specs.Part.{is_among}
use Rattle.world_rules.specs.Judge.{unless}
use Rattle.world_rules.specs.declared.halt.HostFault.TheVariants as FaultIs
use Rattle.host_calls.proofs.Numbering.{among_by}
use Rattle.host_calls.proofs.judging.handle_fault.Goals as goal

pub returns-else-has : goal.returns-else-has
returns-else-has g c =
    let numbers = numbers_of c.args.proc.now.table in
    let out : false ≡ is_among numbers c.args.handle =
    sym c.if-has.false ∙ among_by numbers c.args.handle c.has.result c.has.ensures.0 c.has.ensures.1 in
    ap (λ (b : Bool). unless b FaultIs.NoSuchHandle) out
