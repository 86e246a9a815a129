-- The limits of frames and values.
use Rattle.std.specs.Prelude.{ℕ, ◌+◌, pred, List, length, sum_by, cond, nat_le}
use Rattle.host_port.specs.declared.stop.Spent.TheVariants as limit
use Rattle.tree_machine.specs.Config.{Cont, Frame}
use Rattle.tree_machine.specs.Outcomes.{Outcome, Goes, Calls, Traps, Exceeds, Stuck}

-- the most frames
abbrev pub most_frames : ℕ
most_frames = 2048

-- the most value places
abbrev pub most_values : ℕ
most_values = 32768

-- the places of a frame: its locals, its operands, and the blocks, loops and ifs that are open; the body is none of
-- these
abbrev pub places_of : Frame → ℕ
places_of f =
    length f.locals + length f.operands + sum_by (λ (k : Cont). length k.under) f.conts + pred (length f.conts)

-- the places of all frames
abbrev pub places : List Frame → ℕ
places frames = sum_by places_of frames

-- no more than may be
abbrev pub has_room : (places : ℕ) → (outcome : Outcome) → Outcome
has_room n outcome = cond (nat_le n most_values) outcome (Exceeds limit.Values)

-- the limit of values is judged by what an instruction leaves; a host call as if its results stood, before the host is
-- asked
unfoldable pub judged : Outcome → Outcome
judged (Goes to) = has_room (places to.frames) (Goes to)
judged (Calls ask results waits) = has_room (places waits.frames + results) (Calls ask results waits)
judged (Traps trap) = Traps trap
judged (Exceeds spent) = Exceeds spent
judged Stuck = Stuck
