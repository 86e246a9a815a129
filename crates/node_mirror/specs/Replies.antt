use Rattle.std.specs.Prelude.{ℕ, List, [], ◌∷◌, Option, Some, None, Bool, true, false}
use Rattle.world_rules.specs.Calls.{HostCall}
use Rattle.world_rules.specs.Calls as CallIs

-- What a node tells a process that has called the world.

-- the numbers that it tells, and writes nothing with them
abbrev pub told_numbers : Option HostCall → List ℕ
told_numbers (Some CallIs.Send) = 0 ∷ 1 ∷ 2 ∷ 12 ∷ []
told_numbers (Some CallIs.Receive) = 0 ∷ 1 ∷ 9027 ∷ []
told_numbers (Some CallIs.Exists) = 0 ∷ 1 ∷ []
told_numbers (Some CallIs.Spawn) = 1 ∷ 2 ∷ 3 ∷ 12 ∷ []
told_numbers (Some CallIs.Link) = 0 ∷ 1 ∷ 12 ∷ []
told_numbers (Some CallIs.RegistryPut) = 0 ∷ 1 ∷ 12 ∷ []
told_numbers (Some CallIs.RegistryGet) = 1 ∷ []
told_numbers _ = []

-- which argument is the address at which it writes, with 0, the number of a process: of the child, or of the one that
-- is named
abbrev pub id_argument : Option HostCall → Option ℕ
id_argument (Some CallIs.Spawn) = Some 7
id_argument (Some CallIs.RegistryGet) = Some 2
id_argument _ = None

-- the call is answered, and no more is told
abbrev pub tells_nothing : Option HostCall → Bool
tells_nothing (Some CallIs.Kill) = true
tells_nothing (Some CallIs.Unlink) = true
tells_nothing (Some CallIs.DieWhenLinkDies) = true
tells_nothing (Some CallIs.SleepMs) = true
tells_nothing (Some CallIs.RegistryRemove) = true
tells_nothing _ = false
