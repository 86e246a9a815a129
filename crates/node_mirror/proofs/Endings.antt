use Rattle.std.proofs.Common.{◌≡◌, ℕ, List, [], ◌∷◌, ◌++◌, true}
use Rattle.world_rules.specs.declared.life.Ended.{Ended as EndMemory}
use Rattle.world_rules.specs.World.{Process, Exit, is_ended}
use Rattle.world_rules.specs.Lives.{Setting, IsMemoryOf, EndsAreMemories}
use Rattle.node_mirror.specs.Held.{HaveEnded}

-- One end more, and the memory that is kept of it.

-- one end more
pub ended_last : (ps : ℕ → Process) (exits : List Exit) (exit : Exit) → HaveEnded ps exits → is_ended (ps exit.pid).stage ≡ true → HaveEnded ps (exits ++ exit ∷ [])
ended_last ps [] exit h e = (e, tt)
ended_last ps (x ∷ xs) exit h e = (h.0, ended_last ps xs exit h.1 e)

pub ends_last : {P : Type 0} (setting : Setting P) (ps : ℕ → Process) (exits : List Exit) (exit : Exit) (memories : List EndMemory) (memory : EndMemory) → EndsAreMemories setting ps exits memories
    → memory.pid ≡ exit.pid → IsMemoryOf setting (ps exit.pid) memory → EndsAreMemories setting ps (exits ++ exit ∷ []) (memories ++ memory ∷ [])
ends_last setting ps [] exit [] memory ends is shows = (is, shows, tt)
ends_last setting ps [] exit (m ∷ ms) memory ends is shows = absurd ends
ends_last setting ps (x ∷ xs) exit [] memory ends is shows = absurd ends
ends_last setting ps (x ∷ xs) exit (m ∷ ms) memory ends is shows = (ends.0, ends.1, ends_last setting ps xs exit ms memory ends.2 is shows)
