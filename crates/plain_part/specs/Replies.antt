use Rattle.std.specs.Prelude.{option_map, Option}
use Rattle.host_port.specs.declared.start.Start.{Start}
use Rattle.host_port.specs.declared.request.Request.{Request}
use Rattle.host_port.specs.declared.reply.Reply.{Reply}
use Rattle.world_rules.specs.Part.{Part}
use Rattle.world_rules.specs.Local.{local}

-- The replies of local calls.

-- the reply of an answer, if there is one
abbrev pub reply_in : Option (Reply × Part) → Option Reply
reply_in answer = option_map (λ (found : Reply × Part). found.0) answer

-- what a local request is answered, if it is judged fit
abbrev pub reply_to : Start → Part → Request → Option Reply
reply_to start part request = reply_in (local start part request)
