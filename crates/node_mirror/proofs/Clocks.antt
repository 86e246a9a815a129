-- The time of a node beside its world's; and waits that are over, and signals that are put, one after another.
use Rattle.std.specs.Prelude.{◌≡◌, ℕ, List, [], ◌∷◌, ◌++◌, max, refl}
use Rattle.std.proofs.Common.{ap}
use Rattle.world_rules.specs.declared.life.Ended.{Ended as EndMemory}
use Rattle.world_rules.specs.Links.{Told, all_told}
use Rattle.world_rules.specs.Lives.{Setting}
use Rattle.world_rules.specs.Mail.{Signal}
use Rattle.world_rules.specs.Receive.{arrived}
use Rattle.world_rules.specs.Time.{at_time, timed_out, all_timed_out}
use Rattle.world_rules.specs.World.{World}
use Rattle.node_state.specs.Posts.{time_at}
use Rattle.node_state.specs.Seats.{Meaning}
use Rattle.node_mirror.specs.Held.{Held, Mirrors}

pub late_last : (w : World) (pids : List ℕ) (pid : ℕ) → all_timed_out w (pids ++ pid ∷ []) ≡ timed_out ((all_timed_out w pids).process pid).stage (all_timed_out w pids) pid
late_last w [] pid = refl
late_last w (first ∷ pids) pid = late_last (timed_out (w.process first).stage w first) pids pid

pub told_last : (w : World) (signals : List Told) (told : Told) → all_told w (signals ++ told ∷ []) ≡ arrived (all_told w signals) told.to (Signal told.tag)
told_last w [] told = refl
told_last w (first ∷ signals) told = told_last (arrived w first.to (Signal first.tag)) signals told

pub time_mirrors : {E P : Type 0} (engines : Meaning E P) (setting : Setting P) (w : World) (held : Held E) (ends : List EndMemory) (now : ℕ)
    → Mirrors engines setting w held ends → Mirrors engines setting (at_time now w) (record held { time = time_at held.time now }) ends
time_mirrors engines setting w held ends now m = record {
  order = record {
    undrawn = m.order.undrawn;
    drawn = m.order.drawn;
    each = m.order.each;
    over = m.order.over;
    names = m.order.names;
    links = m.order.links;
  };
  unmet = m.unmet;
  programs = m.programs;
  slots = m.slots;
  mail = m.mail;
  deadlines = m.deadlines;
  names = m.names;
  numbers = m.numbers;
  births = m.births;
  drawn = m.drawn;
  unended = m.unended;
  out = m.out;
  sends = m.sends;
  time = ap (λ (t : ℕ). max t now) m.time;
  over = m.over;
  streams = m.streams;
  closed = m.closed;
  ended = m.ended;
  memories = m.memories;
  room = m.room;
}
