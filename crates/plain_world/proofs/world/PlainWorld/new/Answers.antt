use Rattle.plain_world.specs.ShownProcess.{process_in, shown_process}
use Rattle.plain_world.proofs.FirstWorld.{first_shows}
use Rattle.plain_world.proofs.world.PlainWorld.new.Goals as goal

pub returns : goal.returns
returns c =
    first_shows c.in_ok-new.field-0.ready c.new-5.result.items (process_in c.in_ok-new.field-0.list) c.new-2.result.items c.new-3.result.items
    c.new-4.result.items c.new-6.result.items c.new-7.result.items (shown_process c.fresh-first.result) c.args.start c.in_ok-new.ensures.ready
    c.in_ok-new.ensures.first c.new-2.ensures.items c.new-3.ensures.items c.new-4.ensures.items c.new-5.ensures.items c.new-6.ensures.items
    c.new-7.ensures.items c.fresh-first.ensures
