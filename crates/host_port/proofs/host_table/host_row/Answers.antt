use Rattle.std.proofs.Common.{sym, ◌∙◌}
use Rattle.host_port.proofs.RowLaws.{served_match, not_served}
use Rattle.host_port.proofs.host_table.host_row.Goals as goal

pub returns-then-is_served : goal.returns-then-is_served
returns-then-is_served c = served_match c.args.call c.known_row.result (sym c.is_served.ensures ∙ c.if-is_served.true) c.known_row.ensures

pub returns-else-is_served : goal.returns-else-is_served
returns-else-is_served c = not_served c.args.call (sym c.is_served.ensures ∙ c.if-is_served.false)
