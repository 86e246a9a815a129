use Rattle.plain_world.specs.declared.arrival.PlainWhat.{PlainWhat}
use Rattle.plain_world.specs.declared.arrival.PlainWhat.TheVariants as Plain
use Rattle.world_rules.specs.Arrivals.{What, Delivered, Signalled, Answered, Opened, Doomed, Starved}

-- what reached a process
abbrev pub shown_what : PlainWhat → What
shown_what (Plain.Delivered tag bytes slots) = Delivered tag bytes.items slots.items
shown_what (Plain.Signalled tag) = Signalled tag
shown_what (Plain.Answered reply) = Answered reply
shown_what (Plain.Opened reply) = Opened reply
shown_what (Plain.Doomed end) = Doomed end
shown_what (Plain.Starved calls) = Starved calls
