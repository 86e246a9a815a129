-- What a refused push hands back.
use Rattle.resource_table.specs.Handles.{Handle}
use Rattle.message_scratch.specs.declared.refused.PushRefused.{PushRefused}
use Rattle.message_scratch.specs.declared.refused.PushRefused.TheVariants.{NoMessage, PlacesFull, NoMemory}

-- the handle that was to be pushed
abbrev pub handed_back : {S : Type 0} → PushRefused S → Handle S
handed_back (NoMessage handle) = handle
handed_back (PlacesFull handle) = handle
handed_back (NoMemory handle) = handle
