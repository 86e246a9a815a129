use Rattle.std.specs.Prelude.{◌≡◌, ℕ, ◌+◌, List, slice_get, Option, Some, None, nat_eq, if◌then◌else◌}
use Rattle.std.specs.Option.{option_map_or}
use Rattle.host_port.specs.declared.start.Start.{Start}
use Rattle.host_port.specs.declared.request.Request.{Request}
use Rattle.host_port.specs.Allowance.{Allowance}
use Rattle.spawn_config.specs.Spelling.{Spells}
use Rattle.spawn_config.specs.Lower.{lower_of}
use Rattle.world_rules.specs.declared.life.Birth.{Birth}
use Rattle.world_rules.specs.declared.life.Birth.TheVariants.{Born, Refused}
use Rattle.world_rules.specs.Calls.{arg}
use Rattle.world_rules.specs.Answers.{number_reply, written_reply}
use Rattle.world_rules.specs.World.{World, Process, Ready, fresh_process, with_process}
use Rattle.world_rules.specs.Judge.{no_config}
use Rattle.world_rules.specs.Changes.{replied}
use Rattle.world_rules.specs.Links.{with_link}

-- Spawn. What a spawn comes to stands in the births of the journal: the first is process 1's start, and one follows
-- for each spawn that was performed.

-- the number of the next child
abbrev pub next_number : World → ℕ
next_number w = w.numbers_drawn + 1

-- the limits of a child: the caller's own, or the lesser of each of a config's and the caller's
abbrev pub child_limits : Process → ℕ → Allowance
child_limits p config =
    if nat_eq config no_config
    then p.start.limits
    else option_map_or (λ (limits : Allowance). lower_of limits p.start.limits) (p.part.configs config) p.start.limits

-- the start of a child, as its parent asks for it
pub record IsChildStart (w : World) (parent : Process) (request : Request) (start : Start) : Type 0 where
  pub pid : start.pid ≡ next_number w
  pub «module» : start.«module» ≡ arg request 2
  pub entry : start.entry ≡ request.first
  pub params : Spells request.second start.params
  pub limits : start.limits ≡ child_limits parent (arg request 1)

-- the birth of the next spawn, if the journal has one
abbrev pub next_birth : List Birth → World → Option Birth
next_birth births w = slice_get births (w.spawns + 1)

-- the child has the next number, is ready, and is linked with its parent where the request asks for a link
abbrev pub born : World → ℕ → Request → Start → World
born w pid request start =
    let child = next_number w in
    let tag = arg request 0 in
    let there = record (with_process w child (fresh_process start Ready)) { numbers_drawn = child } in
    if nat_eq tag 0 then there else with_link there pid child (Some tag)

-- one spawn more was performed
abbrev pub spawn_counted : World → World
spawn_counted w = record w { spawns = w.spawns + 1 }

-- SPAWN. A birth answers 0, with the child's number at `id`; a refusal answers its number; without a birth memory is
-- lacking.
abbrev pub spawned : Option Birth → World → ℕ → Request → World
spawned None w pid request = replied (spawn_counted w) pid request (number_reply 12)
spawned (Some (Born start)) w pid request =
    replied (born (spawn_counted w) pid request start) pid request (written_reply 0 (arg request 7) (next_number w))
spawned (Some (Refused reply)) w pid request = replied (spawn_counted w) pid request (number_reply reply)

abbrev pub spawn_performed : List Birth → World → ℕ → Request → World
spawn_performed births w pid request = spawned (next_birth births w) w pid request
