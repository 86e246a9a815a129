use Rattle.std.specs.Prelude.{◌≡◌, ◌⊎◌, ℕ, ◌<◌, ◌≤◌, Option, Some, None, Bool, true, false}
use Rattle.host_port.specs.declared.start.Start.{Start}
use Rattle.host_port.specs.declared.request.Request.{Request}
use Rattle.world_rules.specs.declared.entry.Side.{Side}
use Rattle.world_rules.specs.declared.entry.Side.TheVariants as SideIs
use Rattle.world_rules.specs.declared.life.Birth.{Birth}
use Rattle.world_rules.specs.declared.life.Birth.TheVariants.{Born, Refused}
use Rattle.world_rules.specs.World.{World, Process, unended_count}
use Rattle.world_rules.specs.Spawn.{IsChildStart}

-- Which births a spawn may have. What only the terms of a run tell isn't tested without them.

-- the terms of a run: how process 1 starts; how many processes may live at once; how many Pending gives and early
-- Ticks in a row make the run idle; and whether a start finds its program and isn't refused
pub record Terms : Type 0 where
  pub first : Start
  pub live : ℕ
  pub idle : ℕ
  pub can_start : Start → Bool

-- 1,000,000 process numbers may be drawn
abbrev pub most_numbers : ℕ
most_numbers = 1000000

-- the processes that haven't ended number the live limit, or fewer
abbrev pub IsCrowded : Option Terms → World → Type 0
IsCrowded None w = Unit {0}
IsCrowded (Some terms) w = terms.live ≤ unended_count w

abbrev pub HasPlace : Option Terms → World → Type 0
HasPlace None w = Unit {0}
HasPlace (Some terms) w = unended_count w < terms.live

-- a program starts so
abbrev pub Starts : Option Terms → Start → Type 0
Starts None start = Unit {0}
Starts (Some terms) start = terms.can_start start ≡ true

-- no start that the request spells starts a program
abbrev pub StartsNothing : Option Terms → World → Process → Request → Type 0
StartsNothing None w parent request = Unit {0}
StartsNothing (Some terms) w parent request =
    (start : Start) → IsChildStart w parent request start → terms.can_start start ≡ false

-- a child is born: there is a place and a number for it, its start is the one that the request spells, and its program
-- starts so
pub record IsBorn (terms : Option Terms) (w : World) (parent : Process) (request : Request) (side : Side)
    (start : Start) : Type 0 where
  pub beside : side ≡ SideIs.Nothing
  pub place : HasPlace terms w
  pub number : w.numbers_drawn < most_numbers
  pub child : IsChildStart w parent request start
  pub starts : Starts terms start

-- 2 exactly where the live limit is met
pub record IsCrowdedOut (terms : Option Terms) (w : World) (side : Side) (reply : ℕ) : Type 0 where
  pub answer : reply ≡ 2
  pub beside : side ≡ SideIs.Nothing
  pub crowded : IsCrowded terms w

-- else 3 exactly where all numbers were drawn
pub record IsNumberless (terms : Option Terms) (w : World) (side : Side) (reply : ℕ) : Type 0 where
  pub answer : reply ≡ 3
  pub beside : side ≡ SideIs.Nothing
  pub place : HasPlace terms w
  pub drawn : most_numbers ≤ w.numbers_drawn

-- else 1 exactly where no program starts so
pub record IsStartless (terms : Option Terms) (w : World) (parent : Process) (request : Request) (side : Side)
    (reply : ℕ) : Type 0 where
  pub answer : reply ≡ 1
  pub beside : side ≡ SideIs.Nothing
  pub place : HasPlace terms w
  pub number : w.numbers_drawn < most_numbers
  pub startless : StartsNothing terms w parent request

-- 12 in the place of 0 or 1, where memory was refused
pub record IsMemoryless (terms : Option Terms) (w : World) (side : Side) (reply : ℕ) : Type 0 where
  pub answer : reply ≡ 12
  pub beside : side ≡ SideIs.NoMemory
  pub place : HasPlace terms w
  pub number : w.numbers_drawn < most_numbers

abbrev pub IsRefusedBirth : Option Terms → World → Process → Request → Side → ℕ → Type 0
IsRefusedBirth terms w parent request side reply =
    IsCrowdedOut terms w side reply
    ⊎ IsNumberless terms w side reply
    ⊎ IsStartless terms w parent request side reply
    ⊎ IsMemoryless terms w side reply

-- BIRTH. A spawn has a birth, and it is the one that comes.
abbrev pub BirthFits : Option Terms → World → Process → Request → Side → Option Birth → Type 0
BirthFits terms w parent request side None = ⊥
BirthFits terms w parent request side (Some (Born start)) = IsBorn terms w parent request side start
BirthFits terms w parent request side (Some (Refused reply)) = IsRefusedBirth terms w parent request side reply
