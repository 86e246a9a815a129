use Rattle.plain_world.specs.declared.give.PlainGive.{PlainGive}
use Rattle.world_rules.specs.Views.{Given}

-- a process that is given back
abbrev pub shown_give : PlainGive → Given
shown_give give = record {
  worker = give.worker;
  pid = give.pid;
  calls = give.calls.now;
  fuel = give.fuel;
  halt = give.halt.now;
  side = give.side.now;
}
