-- Where a run stands.
use Rattle.std.specs.Prelude.{ℕ, List, [], ◌∷◌, cond, nat_le, Option, Some, None}
use Rattle.host_port.specs.Standing.{State, Ready, Finished, Exhausted, Standing}
use Rattle.host_port.specs.declared.stop.Spent.TheVariants as limit
use Rattle.wasm_form.specs.declared.parts.Parts.{Parts}
use Rattle.tree_machine.specs.Functions.{Function, own_function}
use Rattle.tree_machine.specs.Config.{Config, Frame, Invocation, frame_of, with_frames, bytes_of}
use Rattle.tree_machine.specs.Limits.{most_values, places}
use Rattle.tree_machine.specs.Exits.{settled}

-- the state of a run, and its configuration: exits are made where it is ready; where the host is asked, the arguments
-- are taken
pub record Point : Type 0 where
  pub state : State
  pub config : Config

abbrev pub point : State → Config → Point
point state config = record { state = state; config = config }

-- what a host sees of it
abbrev pub shown : Point → Standing
shown p = record { state = p.state; memory = bytes_of p.config.memory }

-- it is ready where a frame is left, and goes on so where none is
abbrev pub unless_left : List Frame → Config → (goes : Point) → Point
unless_left [] c goes = goes
unless_left (f ∷ below) c goes = point Ready (with_frames (f ∷ below) c)

-- the first function is entered with these arguments, unless that makes too many values; after its exits the others
-- follow, where it has returned. One that the module does not define is not entered, and no instruction is executed
-- then
abbrev pub entered : Option Function → (arguments : List ℕ) → (before after : Config) → (others : Point) → Point
entered None arguments before after others = point Ready before
entered (Some function) arguments before after others =
    cond (nat_le (places (frame_of function arguments ∷ [])) most_values)
    (unless_left (settled (frame_of function arguments ∷ [])) after others)
    (point (Exhausted limit.Values) before)

-- no frame is left: the functions that are still to be entered are, one after another; where none is, the run is over
abbrev pub enter_next : Parts → Config → List Invocation → Point
enter_next m c [] = point Finished (record c { invocations = []; frames = [] })
enter_next m c (i ∷ rest) =
    entered (own_function m i.function) i.arguments
    (record c { invocations = i ∷ rest; frames = [] })
    (record c { invocations = rest; frames = [] })
    (enter_next m c rest)

-- exits are made, and where no frame is left the next function is entered
unfoldable pub settle : Parts → Config → Point
settle m c = unless_left (settled c.frames) c (enter_next m c c.invocations)
