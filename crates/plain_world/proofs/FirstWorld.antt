use Rattle.std.specs.Prelude.{◌≡◌, ℕ, List, [], ◌∷◌, false}
use Rattle.std.proofs.Common.{◌∙◌, ap}
use Rattle.host_port.specs.declared.start.Start.{Start}
use Rattle.world_rules.specs.declared.life.Birth.TheVariants.{Born}
use Rattle.world_rules.specs.Moves.{Move}
use Rattle.world_rules.specs.Streams.{Streamed}
use Rattle.world_rules.specs.World.{World, Process, Exit, Ready, fresh_process, first_world, put}
use Rattle.plain_world.specs.declared.world.PlainLink.{PlainLink}
use Rattle.plain_world.specs.declared.world.PlainName.{PlainName}
use Rattle.plain_world.specs.ShownProcess.{nobody}
use Rattle.plain_world.specs.Shown.{tag_in, named_in, streamed_in}

-- The world in which a run begins.

-- what lists of such items show
abbrev world_of : List ℕ → (ℕ → Process) → List PlainLink → List PlainName → List Streamed → List ℕ → List Exit → List Move → World
world_of ready process links names streamed closed exits moves = record {
  ready = ready;
  process = process;
  links = tag_in links;
  names = named_in names;
  numbers_drawn = 1;
  streams = 0;
  spawns = 0;
  sends = 0;
  time = 0;
  row = 0;
  over = false;
  streamed = streamed_in streamed;
  closed = closed;
  exits = exits;
  moves = moves;
}

pub first_shows : (ready closed : List ℕ) (process : ℕ → Process) (links : List PlainLink) (names : List PlainName)
    (streamed : List Streamed) (exits : List Exit) (moves : List Move) (first : Process) (start : Start) → ready ≡ 1 ∷ [] →
    process ≡ put (λ pid. nobody) 1 first → links ≡ [] → names ≡ [] → streamed ≡ [] → closed ≡ [] → exits ≡ [] → moves ≡ [] →
    first ≡ fresh_process start Ready → world_of ready process links names streamed closed exits moves ≡ first_world (Born start ∷ [])
first_shows ready closed process links names streamed exits moves first start r p l n s c e m born =
    ap (λ (x : List ℕ). world_of x process links names streamed closed exits moves) r
    ∙ ap (λ (x : List PlainLink). world_of (1 ∷ []) process x names streamed closed exits moves) l
    ∙ ap (λ (x : List PlainName). world_of (1 ∷ []) process [] x streamed closed exits moves) n
    ∙ ap (λ (x : List Streamed). world_of (1 ∷ []) process [] [] x closed exits moves) s
    ∙ ap (λ (x : List ℕ). world_of (1 ∷ []) process [] [] [] x exits moves) c
    ∙ ap (λ (x : List Exit). world_of (1 ∷ []) process [] [] [] [] x moves) e
    ∙ ap (λ (x : List Move). world_of (1 ∷ []) process [] [] [] [] [] x) m
    ∙ ap (λ (x : ℕ → Process). world_of (1 ∷ []) x [] [] [] [] [] []) (p ∙ ap (λ (one : Process). put (λ pid. nobody) 1 one) born)
