use Rattle.std.proofs.Common.{◌≡◌, ℕ, List}
use Rattle.world_rules.specs.World.{World}
use Rattle.node_state.specs.Seats.{Meaning}
use Rattle.node_state.specs.Held.{Held, Mirrors}

-- What is counted beside the processes: in a world, and in a node.

-- how many sends were answered 0, the time, how many stream numbers were drawn, and the closed streams
pub record Tally : Type 0 where
  pub sends : ℕ
  pub time : ℕ
  pub streams : ℕ
  pub closed : List ℕ

abbrev pub tally_of : World → Tally
tally_of w = record { sends = w.sends; time = w.time; streams = w.streams; closed = w.closed }

abbrev pub held_tally : {E : Type 0} → Held E → Tally
held_tally held = record { sends = held.sends; time = held.time; streams = held.streams; closed = held.closed }

-- a node that mirrors a world counts what the world does
pub tally-held : {E P : Type 0} (engines : Meaning E P) (programs : List P) (w : World) (held : Held E) → Mirrors engines programs w held → tally_of w ≡ held_tally held
tally-held engines programs w held m = λ i. record { sends = m.sends i; time = m.time i; streams = m.streams i; closed = m.closed i }

-- where each is the same, all is
pub tally-is : {E : Type 0} (tally : Tally) (held : Held E) → tally.sends ≡ held.sends → tally.time ≡ held.time → tally.streams ≡ held.streams → tally.closed ≡ held.closed → tally ≡ held_tally held
tally-is tally held sends time streams closed = λ i. record { sends = sends i; time = time i; streams = streams i; closed = closed i }
