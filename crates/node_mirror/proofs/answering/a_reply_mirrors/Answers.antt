use Rattle.node_mirror.proofs.Homes.{giving_at, giving_there, reply_mirrors}
use Rattle.node_mirror.proofs.answering.a_reply_mirrors.Goals as goal

pub returns : goal.returns
returns g c = record {
  replied = λ setting w held ends pid seat ask reply engine m at after.
      reply_mirrors w held ends pid seat ask reply engine m (giving_there (w.process pid) seat ask (giving_at w held ends pid seat ask m at)) after;
}
