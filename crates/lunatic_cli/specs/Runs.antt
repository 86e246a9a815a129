-- What the run of a module is over.
use Rattle.std.specs.Prelude.{◌≡◌, ℕ, [], ◌∷◌, Some}
use Rattle.host_port.specs.Standing.{Finished, state_of}
use Rattle.world_rules.specs.declared.life.Birth.TheVariants.{Born}
use Rattle.world_rules.specs.Lives.{Setting}
use Rattle.process_table.specs.Seen.{Seen}
use Rattle.wasm_form.specs.declared.parts.Parts.{Parts}
use Rattle.module_validator.specs.ValidModule.{ValidModule}
use Rattle.tree_machine.specs.Begin as begins
use Rattle.tree_machine.specs.Run as runs
use Rattle.command_words.specs.declared.options.Options.{Options}
use Rattle.lunatic_cli.specs.Options.{first_start}

-- a run of this one module: why it doesn't start, and where it stands after calls and fuel, are the definition's
abbrev pub run_setting : Options → Parts → Setting Parts
run_setting options m = record {
  programs = m ∷ [];
  begin = begins.begin;
  at = runs.at;
  first = first_start options;
  live = options.live;
  idle = options.idle;
}

-- the same of an accepted module, with the map of its code
abbrev pub valid_setting : Options → ValidModule → Setting ValidModule
valid_setting options valid = record {
  programs = valid ∷ [];
  begin = λ v start. begins.begin v.parts start;
  at = λ v start. runs.at v.parts start;
  first = first_start options;
  live = options.live;
  idle = options.idle;
}

-- a node in which process 1 is born on this module, and nothing has happened
pub record IsFirstNode {S : Type 0} (options : Options) (valid : ValidModule) (node : Seen ValidModule S) : Type 0 where
  pub programs : node.programs ≡ valid ∷ []
  pub births : node.book.births ≡ Born (first_start options) ∷ []
  pub entries : node.book.entries ≡ []
  pub live : node.live ≡ options.live
  pub idle : node.idle ≡ options.idle

-- process 1's run asks nothing and comes to its end within its fuel: its entry function returns
pub record Returns (options : Options) (m : Parts) : Type 0 where
  pub fuel : ℕ
  pub returned : state_of (runs.at m (first_start options) [] fuel) ≡ Some Finished
