use Rattle.node_laws.proofs.OutsideGives.{owed-pending, answerable-outside, answerable-opening}
use Rattle.node_laws.proofs.networking.outside_replies_fit.Goals as goal

pub returns : goal.returns
returns g c = record {
  pending = λ setting. owed-pending;
  answered = λ setting. answerable-outside;
  opened = λ setting. answerable-opening;
}
