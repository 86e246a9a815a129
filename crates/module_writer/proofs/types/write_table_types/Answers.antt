use Rattle.std.proofs.Common.{None, refl, arith}
use Rattle.wasm_form.specs.declared.types.Bounds.{Bounds}
use Rattle.module_writer.proofs.Items.{appends_none, appends_more, appends_all}
use Rattle.module_writer.proofs.types.write_table_types.Goals as goal

pub loop-bounds-init : goal.loop-bounds-init
loop-bounds-init c = appends_none _ _ c.args.tables.now _

pub loop-bounds-preserved : goal.loop-bounds-preserved
loop-bounds-preserved c =
    let default : Bounds = record { min = 0; max = None } in
    appends_more _ _ _ _ _ default _ _ _ c.loop-bounds.invariant c.in_ok-write_table_type.ensures refl (omega arith)

pub returns : goal.returns
returns c = appends_all _ _ _ _ _ _ c.loop-bounds.invariant (omega arith)
