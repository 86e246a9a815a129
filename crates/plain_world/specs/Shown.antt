use Rattle.std.specs.Prelude.{ℕ, ◌&&◌, List, find, option_map, slice_get, Option, nat_eq}
use Rattle.std.specs.Option.{option_map_or, option_flatten}
use Rattle.host_port.specs.HostTable.{same_text}
use Rattle.plain_world.specs.declared.world.PlainLink.{PlainLink}
use Rattle.plain_world.specs.declared.world.PlainName.{PlainName}
use Rattle.plain_world.specs.declared.world.PlainWorld.{PlainWorld}
use Rattle.plain_world.specs.ShownProcess.{process_in}
use Rattle.world_rules.specs.Streams.{Streamed, nothing_streamed}
use Rattle.world_rules.specs.World.{World}

-- What a plain world shows of the world: all of it.

-- the tag of a link: that of the first entry of the two processes
abbrev pub tag_in : List PlainLink → ℕ → ℕ → Option ℕ
tag_in links a b = option_map (λ link. link.tag) (find (λ link. nat_eq a link.low && nat_eq b link.high) links)

-- what a name names: what the first entry of the name says
abbrev pub named_in : List PlainName → List ℕ → Option ℕ
named_in names text =
    option_flatten (option_map (λ (name : PlainName). name.pid) (find (λ name. same_text text name.text) names))

-- what was streamed on a stream: what stands at that place
abbrev pub streamed_in : List Streamed → ℕ → Streamed
streamed_in streamed handle = option_map_or (λ s. s) (slice_get streamed handle) nothing_streamed

abbrev pub shown_world : PlainWorld → World
shown_world plain = record {
  ready = plain.processes.ready;
  process = process_in plain.processes.list;
  links = tag_in plain.links.items;
  names = named_in plain.names.items;
  numbers_drawn = plain.numbers_drawn;
  streams = plain.streams;
  spawns = plain.spawns;
  sends = plain.sends;
  time = plain.time;
  row = plain.row;
  over = plain.over;
  streamed = streamed_in plain.streamed.items;
  closed = plain.closed.items;
  exits = plain.exits.items;
  moves = plain.moves.items;
}
