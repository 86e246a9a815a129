use Rattle.plain_world.proofs.NameList.{names_set, names_unset}
use Rattle.plain_world.proofs.name_list.set_named.Goals as goal

pub returns-in_ok-push : goal.returns-in_ok-push
returns-in_ok-push c =
    names_set c.args.names.now.items c.remove_name.new.names.items c.push.new.self.items c.args.text.now c.in_ok-try_clone.field-0
    c.in-Some.pid c.args.pid c.remove_name.ensures c.in_ok-try_clone.ensures c.in_ok-push.ensures.items c.in-Some.is

pub returns-in_default : goal.returns-in_default
returns-in_default c =
    names_unset c.args.names.now.items c.remove_name.new.names.items c.args.text.now c.args.pid c.remove_name.ensures
    c.in_default.is
