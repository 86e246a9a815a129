use Rattle.std.specs.Prelude.{◌≡◌, ℕ, List, [], ◌∷◌, ◌++◌, Some, map, codes, refl}
use Rattle.host_port.specs.declared.call.Call.{Call}
use Rattle.host_port.specs.declared.request.Request.{Request}
use Rattle.host_port.specs.HostTable.{known_row_of, all_rows}
use Rattle.world_rules.specs.declared.entry.Entry.{Entry}
use Rattle.world_rules.specs.declared.entry.Side.TheVariants as SideIs
use Rattle.world_rules.specs.declared.halt.Halt.TheVariants as HaltIs
use Rattle.world_rules.specs.declared.life.Birth.{Birth}
use Rattle.world_rules.specs.Streams.{word_value}
use Rattle.world_rules.specs.World.{World}
use Rattle.world_rules.proofs.Worked.{born_of, request, spawn_linked, sleep_ms, turn, turn_beside, turn_ends, world_after, results}

-- THE REGISTRY. A put of `a` with process 2 answers 0; after 2 ended, a get of `a` answers 1. A put of `b` with 3, then with 4: a get
-- gives 4. A put with a process that isn't there answers 1.

abbrev births : List Birth
births = born_of 1 ∷ born_of 2 ∷ born_of 3 ∷ born_of 4 ∷ []

abbrev put : List ℕ → ℕ → Request
put name pid = request 24 (0 ∷ 1 ∷ pid ∷ []) name []

-- the number is written at 80
abbrev get : List ℕ → Request
get name = request 25 (0 ∷ 1 ∷ 80 ∷ []) name []

abbrev naps : ℕ → ℕ → List Entry
naps pid fuel = turn_beside (SideIs.Clock 0) pid [] fuel (sleep_ms 0)

abbrev four : List Entry
four =
    turn 1 [] 1 (spawn_linked 0) ++ naps 2 1
    ++ turn 1 [] 2 (spawn_linked 0) ++ naps 2 2 ++ naps 3 1
    ++ turn 1 [] 3 (spawn_linked 0) ++ naps 2 3 ++ naps 3 2 ++ naps 4 1

abbrev named : List Entry
named =
    four ++ turn 1 [] 4 (put (codes "a") 2) ++ naps 2 4 ++ naps 3 3 ++ naps 4 2
    ++ turn 1 [] 5 (get (codes "a")) ++ turn_ends 2 5 HaltIs.Done ++ naps 3 4 ++ naps 4 3
    ++ turn 1 [] 6 (get (codes "a")) ++ naps 3 5 ++ naps 4 4
    ++ turn 1 [] 7 (put (codes "b") 3) ++ naps 3 6 ++ naps 4 5
    ++ turn 1 [] 8 (put (codes "b") 4) ++ naps 3 7 ++ naps 4 6
    ++ turn 1 [] 9 (get (codes "b")) ++ naps 3 8 ++ naps 4 7
    ++ turn 1 [] 10 (put (codes "c") 9)

abbrev w_named : World
w_named = world_after births named

-- three spawns, then put 0, get 0, get 1, put 0, put 0, get 0, put 1
answers : results w_named 1
    ≡ Some 0 ∷ Some 0 ∷ Some 0 ∷ Some 0 ∷ Some 0 ∷ Some 1 ∷ Some 0 ∷ Some 0 ∷ Some 0 ∷ Some 1 ∷ []
unfolding known_row_of all_rows
answers = refl

-- the words that were written: the children's numbers, 2 by the first get, and 4 by the last
words : map (λ (call : Call). word_value call.reply.word) (w_named.process 1).calls
    ≡ 2 ∷ 3 ∷ 4 ∷ 0 ∷ 2 ∷ 0 ∷ 0 ∷ 0 ∷ 4 ∷ 0 ∷ []
unfolding known_row_of all_rows
words = refl

ready_last : w_named.ready ≡ 3 ∷ 4 ∷ 1 ∷ []
unfolding known_row_of all_rows
ready_last = refl
