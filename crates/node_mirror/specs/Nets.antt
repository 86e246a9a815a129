use Rattle.std.specs.Prelude.{◌≡◌, ◌||◌, ℕ, List, Option, Some, None, Bool, if◌then◌else◌}
use Rattle.std.specs.FinMap.{get}
use Rattle.link_signals.specs.Links.{Processes, Tags}
use Rattle.link_signals.specs.declared.signal.Signal.{Signal}
use Rattle.world_rules.specs.Links.{Told}
use Rattle.world_rules.specs.Part.{is_among}
use Rattle.world_rules.specs.World.{World, Process, is_live}

-- Links as the store of links keeps them, beside those of a world.

-- of a live process, whether it dies with links
abbrev pub minded : Process → Option Bool
minded p = if is_live p.stage then Some p.dies else None

-- NET. The store has the live processes, each with whether it dies with links, and the links of the world.
pub record IsNet (w : World) (processes : Processes) (tags : Tags) : Type 0 where
  pub minds : (pid : ℕ) → get processes pid ≡ minded (w.process pid)
  pub links : (a b : ℕ) → get tags (a, b) ≡ w.links a b

-- a signal of the store as the world has it
abbrev pub told_of : Signal → Told
told_of signal = record { to = signal.to; tag = signal.tag }

-- what is left of the processes and of the links when these have gone
pub record LeavesNet (members : List ℕ) (processes : Processes) (tags : Tags) (left : Processes) (kept : Tags)
    : Type 0 where
  pub minds : (pid : ℕ) → get left pid ≡ (if is_among members pid then None else get processes pid)
  pub links : (a b : ℕ) → get kept (a, b)
      ≡ (if is_among members a || is_among members b then None else get tags (a, b))
