-- Where functions stand.
use Rattle.flat_machine.specs.Flat as flat_machine
use Rattle.flat_stepper.specs.declared.place.Place.{Place}

-- the place of the flat machine
abbrev pub place_of : Place → flat_machine.Place
place_of place = record { pc = place.pc; body = place.body; base = place.base; opens = place.opens }
