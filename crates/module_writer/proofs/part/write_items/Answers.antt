use Rattle.std.proofs.Common.{arith, sym, subst}
use Rattle.module_writer.specs.Writing.{HasSpelling}
use Rattle.module_writer.proofs.Items.{item_at, appends_none, appends_more, appends_all}
use Rattle.module_writer.proofs.part.write_items.Goals as goal

pub loop-item-init : goal.loop-item-init
loop-item-init g c = appends_none _ _ c.args.items.now _

pub write-requires : goal.write-requires
write-requires g c =
    subst (HasSpelling g.T.Part.spells) (sym c.item-item.is)
    (item_at g.T.Part.spells c.args.items.now c.loop-item.item-index c.item-item.result (omega arith) c.requires)

pub loop-item-preserved : goal.loop-item-preserved
loop-item-preserved g c =
    appends_more _ _ _ _ _ c.item-item.result _ _ _ c.loop-item.invariant c.in_ok-write.ensures c.item-item.is (omega arith)

pub returns : goal.returns
returns g c = appends_all _ _ _ _ _ _ c.loop-item.invariant (omega arith)
