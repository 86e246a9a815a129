use Rattle.host_port.proofs.RowLaws.{import_match}
use Rattle.host_port.proofs.host_table.import.Goals as goal

pub returns : goal.returns
returns c = import_match c.rows.result.now c.rows.ensures.each c.args.import_module.now c.args.import_name.now c.first_imported.result c.first_imported.ensures
