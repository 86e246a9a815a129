use Rattle.std.proofs.Common.{refl}
use Rattle.wasm_ops.proofs.Rows.{table_from_tests}
use Rattle.wasm_ops.proofs.table.rows.Goals as goal

pub returns : goal.returns
returns c = table_from_tests _ refl refl
