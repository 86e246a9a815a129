use Rattle.std.proofs.Common.{Option, option_map, ap, sym, ◌∙◌}
use Rattle.std.proofs.lemmas.Result.{on_ok_weaker}
use Rattle.plain_part.specs.declared.mail_item.MailItem as Kept
use Rattle.plain_part.specs.Shown.{shown_item}
use Rattle.plain_world.specs.Shown.{shown_world}
use Rattle.plain_world.proofs.Deliveries.{arrived-unwanted, arrived-wanted}
use Rattle.plain_world.proofs.world.PlainWorld.arrive.Goals as goal

pub returns-in-None : goal.returns-in-None
returns-in-None c =
    arrived-unwanted (shown_world c.args.self.now) (shown_world c.post.new.self) (shown_world c.take_wanted.new.self)
    c.args.to (shown_item c.args.item) c.in-Some.request
    (sym c.in-Some.is ∙ c.in_ok-awaited.ensures) c.in_ok-post.ensures
    (ap (λ (o : Option Kept.MailItem). option_map shown_item o) (sym c.in-None.is) ∙ c.in_ok-take_wanted.ensures.found)
    c.in_ok-take_wanted.ensures.left

pub returns : goal.returns
returns c =
    on_ok_weaker c.deliver.result (λ done.
    arrived-wanted (shown_world c.args.self.now) (shown_world c.post.new.self) (shown_world c.take_wanted.new.self)
    (shown_world c.deliver.new.self) c.args.to (shown_item c.args.item) (shown_item c.in-Some-2.item) c.in-Some.request
    (sym c.in-Some.is ∙ c.in_ok-awaited.ensures) c.in_ok-post.ensures
    (ap (λ (o : Option Kept.MailItem). option_map shown_item o) (sym c.in-Some-2.is) ∙ c.in_ok-take_wanted.ensures.found)
    c.in_ok-take_wanted.ensures.left done) c.deliver.ensures
