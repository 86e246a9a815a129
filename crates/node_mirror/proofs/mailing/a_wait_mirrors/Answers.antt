use Rattle.std.proofs.Common.{List, ◌∙◌, ap, inl}
use Rattle.host_port.specs.Areas.{request_of}
use Rattle.world_rules.specs.Mail.{MailItem, tags_in, pick}
use Rattle.node_mirror.proofs.Homes.{wait_mirrors}
use Rattle.node_mirror.proofs.mailing.a_wait_mirrors.Goals as goal

pub returns : goal.returns
returns g c = λ setting w held ends pid seat ask deadline m at call none.
    wait_mirrors w held ends pid seat ask deadline m at (inl call)
    (λ is. ap (λ (items : List MailItem). pick (tags_in (request_of (g.E.Engine.memory seat.engine) ask).first) items) (m.mail pid) ∙ none)
