use Rattle.node_mirror.proofs.NetMaps.{net_stays, net_leaves, net_linked, net_unlinked, net_minded, net_born, net_first}
use Rattle.node_mirror.proofs.linking.nets_stay.Goals as goal

pub returns : goal.returns
returns c = record {
  stays = net_stays;
  leave = net_leaves;
  linked = net_linked;
  unlinked = net_unlinked;
  minded = net_minded;
  born = net_born;
  first = net_first;
}
