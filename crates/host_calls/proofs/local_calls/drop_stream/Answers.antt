use Rattle.std.proofs.Common.{◌≡◌, sym, ◌∙◌}
use Rattle.resource_table.specs.Handles.{numbers_of}
use Rattle.resource_table.specs.Steps.{told}
use Rattle.world_rules.specs.Part.{is_among}
use Rattle.world_rules.specs.declared.halt.HostFault.TheVariants as FaultIs
use Rattle.host_calls.proofs.Faults.{unless_true}
use Rattle.host_calls.proofs.Moving.{is_found}
use Rattle.host_calls.proofs.Making.{dropped_as}
use Rattle.host_calls.proofs.local_calls.drop_stream.Goals as goal

pub unreachable-requires : goal.unreachable-requires
unreachable-requires g c =
    is_found c.args.handle c.args.proc.now.table
    (unless_true (is_among (numbers_of c.args.proc.now.table) c.args.handle) FaultIs.NoSuchHandle c.requires.fit)
    (sym c.give_out.ensures.given ∙ c.in_default.is)

pub returns : goal.returns
returns g c =
    dropped_as
    (told g.O.Stream.Stream.taken g.O.Stream.Stream.put g.O.Stream.Stream.faults g.O.Stream.Stream.waits g.O.Stream.Stream.empties g.O.Stream.Stream.down)
    c.args.proc.now c.args.handle c.in-Some.moved c.give_out.new.self c.shut.new.self c.count-count.ensures.rising
    (sym c.give_out.ensures.given ∙ c.in-Some.is) c.give_out.ensures.left c.shut.ensures
