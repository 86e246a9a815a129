use Rattle.host_port.specs.Areas.{request_of}
use Rattle.world_rules.specs.Mail.{tags_in}
use Rattle.node_mirror.proofs.Mailboxes.{wakes_mirror, unwanted_mirrors, asleep_mirrors, awake_mirrors}
use Rattle.node_mirror.proofs.mailing.an_arrival_mirrors.Goals as goal

pub returns : goal.returns
returns g c = record {
  wakes = λ setting w held ends to seat ask item engine m at call wanted room after.
      wakes_mirror w held ends to seat ask item engine m at call
      (λ none. c.waits_are_unmet.ensures.wanted (tags_in (request_of (g.E.Engine.memory seat.engine) ask).first) (w.process to).mail item none wanted) after;
  unwanted = λ setting w held ends to seat ask item m at call other room.
      unwanted_mirrors w held ends to seat ask item m at call
      (λ none. c.waits_are_unmet.ensures.unwanted (tags_in (request_of (g.E.Engine.memory seat.engine) ask).first) (w.process to).mail item none other) room;
  sleeps = λ setting. asleep_mirrors;
  awake = λ setting. awake_mirrors;
}
