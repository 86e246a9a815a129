use Rattle.std.proofs.lemmas.Result.{on_ok_weaker}
use Rattle.plain_world.specs.Shown.{shown_world}
use Rattle.plain_world.proofs.Turning.{record_done}
use Rattle.plain_world.proofs.world.PlainWorld.record.Goals as goal

pub returns : goal.returns
returns c =
    on_ok_weaker c.put_turned.result
    (λ turn worker. record_done (shown_world c.args.self.now) (shown_world c.set_clock.new.self)
    (shown_world c.stream_wanted.new.self) (shown_world c.starve.new.self) (shown_world c.put_turned.new.self)
    (record {
      worker = worker;
      pid = c.args.pid;
      calls = c.args.calls.now;
      fuel = c.args.fuel;
      halt = c.args.halt.now;
      side = c.args.side.now;
    })
    c.set_clock.ensures c.in_ok-stream_wanted.ensures c.in_ok-starve.ensures turn)
    c.put_turned.ensures
