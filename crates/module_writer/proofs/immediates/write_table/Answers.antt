use Rattle.module_writer.proofs.TableLabels.{table_items, appends_table}
use Rattle.module_writer.proofs.immediates.write_table.Goals as goal

pub write_items-requires : goal.write_items-requires
write_items-requires c = table_items _ _ _ _ c.requires

pub returns : goal.returns
returns c = appends_table _ _ _ _ _ _ _ _ c.requires c.in_ok-write_u32.ensures c.in_ok-write_items.ensures c.in_ok-write_u32-2.ensures
