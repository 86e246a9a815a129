use Rattle.std.specs.Prelude.{ℕ, ◌+◌, [], ◌∷◌, if◌then◌else◌}
use Rattle.std.specs.Option.{option_map_or}
use Rattle.host_port.specs.declared.request.Request.{Request}
use Rattle.host_port.specs.declared.reply.Reply.{Reply}
use Rattle.world_rules.specs.declared.entry.Side.{Side}
use Rattle.world_rules.specs.Views.{answer_in, is_opened}
use Rattle.world_rules.specs.Calls.{HostCall, arg}
use Rattle.world_rules.specs.Calls as CallIs
use Rattle.world_rules.specs.Answers.{written_reply}
use Rattle.world_rules.specs.Settled.{settled, StreamOpened, ListenerBound}
use Rattle.world_rules.specs.Arrivals as Came
use Rattle.world_rules.specs.Moves.{Opened, Shut}
use Rattle.world_rules.specs.Streams.{has_result}
use Rattle.world_rules.specs.World.{World, with_moves, with_closed}
use Rattle.world_rules.specs.Changes.{with_part, answered, replied}

-- The calls of the outside, which a worker has performed before the give.

-- the next stream number is drawn
abbrev pub stream_drawn : World → World
stream_drawn w = record w { streams = w.streams + 1 }

-- the argument that tells where the number of an opened stream is written
abbrev pub id_address : HostCall → Request → ℕ
id_address CallIs.Accept request = arg request 1
id_address _ request = arg request 2

-- OPENED. The next stream number is drawn into the caller's table, and the reply is 0 with the number at `id`.
abbrev pub opened : HostCall → World → ℕ → Request → World
opened call w pid request =
    let reply = written_reply 0 (id_address call request) w.streams in
    answered
    (with_moves (with_part (stream_drawn w) pid (settled (w.process pid).part (StreamOpened w.streams)))
    (Opened w.streams pid ∷ []))
    pid request reply (Came.Opened reply)

-- a stream that was opened for a doomed process is drawn and closed
abbrev pub opened_and_shut : World → ℕ → World
opened_and_shut w pid =
    with_moves (with_closed (stream_drawn w) (w.streams ∷ [])) (Opened w.streams pid ∷ Shut w.streams ∷ [])

-- a listener that was bound is the caller's
abbrev pub bound : HostCall → World → ℕ → Reply → World
bound CallIs.Bind w pid reply =
    if has_result 0 reply then with_part w pid (settled (w.process pid).part ListenerBound) else w
bound _ w pid reply = w

-- OUTSIDE. The caller gets what the outside answered, or the stream that was opened.
abbrev pub outside_performed : HostCall → World → ℕ → Request → Side → World
outside_performed call w pid request side =
    if is_opened side
    then opened call w pid request
    else option_map_or (λ (reply : Reply). replied (bound call w pid reply) pid request reply) (answer_in side) w
