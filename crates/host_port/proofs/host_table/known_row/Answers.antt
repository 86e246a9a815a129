use Rattle.std.proofs.Common.{ap, ◌∙◌}
use Rattle.std.specs.Prelude.{slice_get}
use Rattle.host_port.proofs.RowLaws.{place_match}
use Rattle.host_port.proofs.host_table.known_row.Goals as goal

pub returns : goal.returns
returns c =
    place_match c.rows.result.now c.rows.ensures.each c.args.call c.at_place.result
    (c.at_place.ensures ∙ ap (slice_get c.rows.result.now) c.from.ensures)
