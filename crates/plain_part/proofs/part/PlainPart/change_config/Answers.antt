use Rattle.plain_part.specs.Shown.{shown_part}
use Rattle.plain_part.proofs.ConfigLaws.{same_configs}
use Rattle.plain_part.proofs.part.PlainPart.change_config.Goals as goal

pub returns : goal.returns
returns c = same_configs (shown_part c.args.self.now) _ _ _ _ c.set_config.ensures.put c.set_config.ensures.next
