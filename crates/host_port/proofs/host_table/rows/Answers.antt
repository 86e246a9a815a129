use Rattle.std.proofs.Common.{refl}
use Rattle.host_port.specs.HostTable.{all_rows}
use Rattle.host_port.proofs.RowLaws.{shown_table}
use Rattle.host_port.proofs.host_table.rows.Goals as goal

pub returns : goal.returns
unfolding all_rows
returns c = shown_table _ refl
