use Rattle.std.specs.Prelude.{◌≡◌, ◌≤◌, ◌<◌, [], ◌∷◌, ◌++◌, Some, None, true, refl}
use native.Mathlib.Omega.{arith}
use Rattle.std.proofs.Common.{inl, inr}
use Rattle.host_port.specs.HostTable.{known_row_of, all_rows}
use Rattle.world_rules.specs.declared.entry.Entry.{Entry}
use Rattle.world_rules.specs.declared.entry.Side.TheVariants as SideIs
use Rattle.world_rules.specs.declared.life.Birth.{Birth}
use Rattle.world_rules.specs.declared.life.Birth.TheVariants.{Refused}
use Rattle.world_rules.specs.World.{World, Process, Unborn, Ready, link_between}
use Rattle.world_rules.specs.Births.{Terms, BirthFits}
use Rattle.world_rules.specs.Spawn.{child_limits}
use Rattle.world_rules.specs.Part.{with_config, no_part}
use Rattle.world_rules.proofs.Worked.{AreSame, born_of, start_of, spawn_linked, turn, take_by, asks_by, world_after, results}

-- SPAWN. With the live limit 1 a spawn answers 2. A spawn that finds no program answers 1; then the next good spawn answers 0 with
-- process number 2.

-- the world of one process that is out
abbrev w_out : World
w_out = world_after (born_of 1 ∷ []) (take_by 0 1 ∷ [])

abbrev spawns : Entry
spawns = asks_by 0 1 [] 1 (spawn_linked 77)

abbrev alone : Terms
alone = record { first = start_of 1; live = 1; idle = 3; can_start = λ _. true }

-- the birth of a refusal is 2: it fits, and no child does
abbrev fits : Terms → Birth → Type 0
fits terms birth = BirthFits (Some terms) w_out (w_out.process 1) (spawn_linked 77) SideIs.Nothing (Some birth)

crowded_fits : fits alone (Refused 2)
unfolding known_row_of all_rows
crowded_fits = inl (record { answer = refl; beside = refl; crowded = omega arith })

no_child_fits : fits alone (born_of 2) → ⊥
unfolding known_row_of all_rows
no_child_fits born = let h : 1 < 1 = born.place in omega arith

-- with room for it a child fits, and no refusal without its reason
abbrev roomy : Terms
roomy = record { first = start_of 1; live = 2; idle = 3; can_start = λ _. true }

not_crowded : fits roomy (Refused 2) → ⊥
unfolding known_row_of all_rows
not_crowded (inl refused) = let h : 2 ≤ 1 = refused.crowded in omega arith
not_crowded (inr (inl refused)) = let h : AreSame 2 3 = refused.answer in omega arith
not_crowded (inr (inr (inl refused))) = let h : AreSame 2 1 = refused.answer in omega arith
not_crowded (inr (inr (inr refused))) = let h : AreSame 2 12 = refused.answer in omega arith

-- a journal whose births lack the spawn's isn't allowed
unborn_unfit : BirthFits None w_out (w_out.process 1) (spawn_linked 77) SideIs.Nothing None → ⊥
unfolding known_row_of all_rows
unborn_unfit none = none

-- what comes of a refusal, and of the next good spawn, whose child is linked and ready before its parent
abbrev w_refused : World
w_refused = world_after (born_of 1 ∷ Refused 1 ∷ []) (turn 1 [] 1 (spawn_linked 77))

refused : (results w_refused 1 ≡ Some 1 ∷ []) × (w_refused.numbers_drawn ≡ 1) × (w_refused.spawns ≡ 1) × (w_refused.ready ≡ 1 ∷ [])
unfolding known_row_of all_rows
refused = (refl, refl, refl, refl)

unborn : (w_refused.process 2).stage ≡ Unborn
unfolding known_row_of all_rows
unborn = refl

abbrev w_born : World
w_born = world_after (born_of 1 ∷ Refused 1 ∷ born_of 2 ∷ []) (turn 1 [] 1 (spawn_linked 77) ++ turn 1 [] 2 (spawn_linked 77))

born : (results w_born 1 ≡ Some 1 ∷ Some 0 ∷ []) × (w_born.numbers_drawn ≡ 2) × (w_born.ready ≡ 2 ∷ 1 ∷ [])
unfolding known_row_of all_rows
born = (refl, refl, refl)

linked : (link_between w_born 1 2 ≡ Some 77) × ((w_born.process 2).stage ≡ Ready) × ((w_born.process 2).start ≡ start_of 2)
unfolding known_row_of all_rows
linked = (refl, refl, refl)

-- a child gets the lesser of each limit of a config and of the caller's
abbrev parent : Process
parent = record (w_out.process 1) { part = with_config 0 (Some (record { pages = 2; fuel = 5000000000; traffic = 67108864 })) no_part }

lesser : (child_limits parent 0 ≡ record { pages = 2; fuel = 1000000000; traffic = 67108864 })
    × (child_limits parent 0xFFFFFFFFFFFFFFFF ≡ record { pages = 64; fuel = 1000000000; traffic = 67108864 })
unfolding known_row_of all_rows
lesser = (refl, refl)
