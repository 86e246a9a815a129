use Rattle.plain_world.proofs.LinkList.{links_set, links_unset}
use Rattle.plain_world.proofs.link_list.set_tag.Goals as goal

pub returns-in_ok-push : goal.returns-in_ok-push
returns-in_ok-push c =
    links_set c.args.links.now.items c.remove_link.new.links.items c.push.new.self.items c.args.low c.args.high c.in-Some.tag
    c.args.tag c.remove_link.ensures c.in_ok-push.ensures.items c.in-Some.is

pub returns-in_default : goal.returns-in_default
returns-in_default c =
    links_unset c.args.links.now.items c.remove_link.new.links.items c.args.low c.args.high c.args.tag c.remove_link.ensures
    c.in_default.is
