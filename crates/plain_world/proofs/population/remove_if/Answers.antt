use Rattle.plain_world.proofs.Watching.{others_stay}
use Rattle.plain_world.proofs.population.remove_if.Goals as goal

pub returns-then-yes : goal.returns-then-yes
returns-then-yes c = others_stay c.args.pid c.args.numbers.now c.remove.new.self c.args.yes c.remove.ensures c.if-yes.true
