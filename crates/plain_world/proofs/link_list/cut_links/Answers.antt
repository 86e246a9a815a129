use Rattle.plain_world.proofs.LinkList.{links_cut}
use Rattle.plain_world.proofs.link_list.cut_links.Goals as goal

pub returns : goal.returns
returns c = links_cut c.args.links.now.items c.remove_links.new.links.items c.args.pid c.remove_links.ensures
