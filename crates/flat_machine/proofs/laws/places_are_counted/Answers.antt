use Rattle.flat_machine.proofs.Rooms.{places_counted}
use Rattle.flat_machine.proofs.laws.places_are_counted.Goals as goal

pub returns : goal.returns
returns c m flat config tells = places_counted m flat config tells
