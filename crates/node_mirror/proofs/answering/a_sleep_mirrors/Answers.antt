use Rattle.std.proofs.Common.{inr}
use Rattle.host_port.specs.Areas.{request_of}
use Rattle.node_mirror.proofs.Homes.{wait_mirrors, sleep_wants_nothing}
use Rattle.node_mirror.proofs.answering.a_sleep_mirrors.Goals as goal

pub returns : goal.returns
returns g c = λ setting w held ends pid seat ask deadline m at call.
    wait_mirrors w held ends pid seat ask deadline m at (inr call) (sleep_wants_nothing (request_of (g.E.Engine.memory seat.engine) ask) (w.process pid).mail call)
