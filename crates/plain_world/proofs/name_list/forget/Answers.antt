use Rattle.plain_world.proofs.NameList.{names_forgotten, names_all_marked, name_marked}
use Rattle.plain_world.proofs.name_list.forget.Goals as goal

pub loop-name-preserved : goal.loop-name-preserved
loop-name-preserved c =
    name_marked c.args.pid c.args.names.now c.loop-name.names c.loop-name.name-index c.name-item.result c.unless_process-name.result
    c.loop-name-test.true c.loop-name.invariant c.name-item.is c.unless_process-name.ensures

pub returns : goal.returns
returns c =
    names_forgotten c.args.names.now c.loop-name.names c.args.pid
    (names_all_marked c.args.pid c.args.names.now c.loop-name.names c.loop-name.name-index c.loop-name-test.false c.loop-name.invariant)
