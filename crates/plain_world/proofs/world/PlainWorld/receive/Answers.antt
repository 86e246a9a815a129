use Rattle.std.proofs.Common.{Option, option_map, ap, sym, ◌∙◌}
use Rattle.std.proofs.lemmas.Result.{on_ok_weaker}
use Rattle.plain_part.specs.declared.mail_item.MailItem as Kept
use Rattle.plain_part.specs.Shown.{shown_item}
use Rattle.plain_world.specs.Shown.{shown_world}
use Rattle.plain_world.proofs.Deliveries.{received-nothing, received-item}
use Rattle.plain_world.proofs.world.PlainWorld.receive.Goals as goal

pub returns-in-None : goal.returns-in-None
returns-in-None c =
    on_ok_weaker c.receive_nothing.result (λ done.
    received-nothing (shown_world c.args.self.now) (shown_world c.take_wanted.new.self) (shown_world c.receive_nothing.new.self)
    c.args.pid c.args.request.now
    (ap (λ (o : Option Kept.MailItem). option_map shown_item o) (sym c.in-None.is) ∙ c.in_ok-take_wanted.ensures.found)
    c.in_ok-take_wanted.ensures.left done) c.receive_nothing.ensures

pub returns-in-Some : goal.returns-in-Some
returns-in-Some c =
    on_ok_weaker c.deliver.result (λ done.
    received-item (shown_world c.args.self.now) (shown_world c.take_wanted.new.self) (shown_world c.deliver.new.self)
    c.args.pid c.args.request.now (shown_item c.in-Some.item)
    (ap (λ (o : Option Kept.MailItem). option_map shown_item o) (sym c.in-Some.is) ∙ c.in_ok-take_wanted.ensures.found)
    c.in_ok-take_wanted.ensures.left done) c.deliver.ensures
