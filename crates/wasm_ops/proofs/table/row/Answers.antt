use Rattle.std.proofs.Common.{refl, ap, arith}
use Rattle.wasm_ops.proofs.Laws.{plain_law, access_law, is_access}
use Rattle.wasm_ops.proofs.Rows.{row_at}
use Rattle.wasm_ops.proofs.table.row.Goals.{in-0-to-5, in-11-to-17, in-26-to-27, in-32-to-36, in-40-to-191}
use Rattle.wasm_ops.proofs.table.row.Goals as goal

pub returns-clause-row : goal.returns-clause-row
returns-clause-row c =
    let place = c.if-code-lt28.place in
    elim c.if-code-lt28.branch [
      | in-0-to-5 w ↦ row_at _ _ c.rows-table.ensures 0 0x00 6 refl c.args.code place (omega arith) (omega arith) (omega arith) (omega arith)
      | in-11-to-17 w ↦ row_at _ _ c.rows-table.ensures 5 0x0b 7 refl c.args.code place (omega arith) (omega arith) (omega arith) (omega arith)
      | in-26-to-27 w ↦ row_at _ _ c.rows-table.ensures 13 0x1a 2 refl c.args.code place (omega arith) (omega arith) (omega arith) (omega arith)
      | in-32-to-36 w ↦ row_at _ _ c.rows-table.ensures 17 0x20 5 refl c.args.code place (omega arith) (omega arith) (omega arith) (omega arith)
      | in-40-to-191 w ↦ row_at _ _ c.rows-table.ensures 20 0x28 152 refl c.args.code place (omega arith) (omega arith) (omega arith) (omega arith)
    ]

pub returns-clause-plain : goal.returns-clause-plain
returns-clause-plain c = plain_law c.args.code _ (returns-clause-row c)

pub returns-clause-load : goal.returns-clause-load
returns-clause-load c = λ load. access_law c.args.code _ c.ranges.code.fits (returns-clause-row c) (ap is_access load)

pub returns-clause-store : goal.returns-clause-store
returns-clause-store c = λ store. access_law c.args.code _ c.ranges.code.fits (returns-clause-row c) (ap is_access store)
