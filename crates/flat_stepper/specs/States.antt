-- What a machine's state shows, and what every state keeps.
use Rattle.std.specs.Prelude.{◌≡◌, ℕ, ◌+◌, ◌≤◌, List, [], length, map, reverse, drop, vec_capacity}
use Rattle.tree_machine.specs.Limits.{most_frames, most_values}
use Rattle.flat_machine.specs.Flat.{Flat}
use Rattle.flat_machine.specs.Shown.{stack_of, memory_where}
use Rattle.flat_stepper.specs.Places.{place_of}
use Rattle.flat_stepper.specs.declared.state.State.{State}

-- the flat machine that a state shows
abbrev pub flat_of : State → Flat
flat_of s = record {
  values = stack_of s.values.items s.sp;
  place = place_of s.place;
  callers = map place_of (reverse s.callers.items);
  globals = s.globals.items;
  table = s.table.items;
  memory = memory_where s.has_memory s.memory;
  invocations = drop s.entered s.invocations.items;
}

-- The values and the open blocks have room in the array, which has no more places than may be; and for as many places,
-- and for as many callers as may be, there is room in reserve.
pub record IsSound (s : State) : Type 0 where
  pub room : s.sp + s.place.opens ≤ length s.values.items
  pub few : length s.values.items ≤ most_values
  pub reserved : most_values ≤ vec_capacity s.values
  pub depth : length s.callers.items + 1 ≤ most_frames
  pub frames : most_frames ≤ vec_capacity s.callers + 1
  pub begun : s.entered ≤ length s.invocations.items
