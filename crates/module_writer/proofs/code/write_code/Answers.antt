use Rattle.std.proofs.Common.{refl, arith}
use Rattle.module_writer.specs.Lines.{SpellsLine}
use Rattle.module_writer.proofs.Items.{item_at, appends_none, appends_more, appends_all}
use Rattle.module_writer.proofs.code.write_code.Goals as goal

pub loop-instr-init : goal.loop-instr-init
loop-instr-init c = appends_none _ _ c.args.code.now _

pub write_instr-requires : goal.write_instr-requires
write_instr-requires c = item_at (SpellsLine c.args.labels.now) c.args.code.now c.loop-instr.instr-index _ (omega arith) c.requires

pub loop-instr-preserved : goal.loop-instr-preserved
loop-instr-preserved c =
    appends_more _ _ _ _ _ _ _ _ _ c.loop-instr.invariant c.in_ok-write_instr.ensures refl (omega arith)

pub returns : goal.returns
returns c = appends_all _ _ _ _ _ _ c.loop-instr.invariant (omega arith)
