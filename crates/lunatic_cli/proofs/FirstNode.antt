-- The node of a module, and the setting of its run.
use Rattle.std.proofs.Common.{◌≡◌, ℕ, List, [], ◌∷◌, Some, slice_get, refl, sym, ◌∙◌, ap}
use Rattle.host_port.specs.declared.start.Start.{Start}
use Rattle.host_port.specs.declared.start.StartRefusal.{StartRefusal}
use Rattle.world_rules.specs.World.{first_start as start_in}
use Rattle.process_table.specs.Seen.{Seen, setting_of}
use Rattle.module_validator.specs.ValidModule.{ValidModule}
use Rattle.tree_machine.specs.Begin as begins
use Rattle.tree_machine.specs.Run as runs
use Rattle.command_words.specs.declared.options.Options.{Options}
use Rattle.lunatic_cli.specs.Options.{first_start}
use Rattle.lunatic_cli.specs.Runs.{valid_setting, IsFirstNode}

-- what the node's run is over
pub setting-valid : {S : Type 0} (options : Options) (valid : ValidModule) (node : Seen ValidModule S) → IsFirstNode options valid node →
    setting_of (λ v start. begins.begin v.parts start) (λ v start calls fuel. runs.at v.parts start calls fuel) node ≡ valid_setting options valid
setting-valid options valid node first =
    let start : start_in node.book.births ≡ first_start options = ap start_in first.births in
    λ i. record {
      programs = first.programs i;
      begin = λ v start. begins.begin v.parts start;
      at = λ v start. runs.at v.parts start;
      first = start i;
      live = first.live i;
      idle = first.idle i;
    }

-- the one program of a list
pub found-first : {P : Type 0} (programs : List P) (x : P) (k : ℕ) → programs ≡ x ∷ [] → k ≡ 0 → slice_get programs k ≡ Some x
found-first programs x k is zero_is = rw (is, zero_is) refl

-- the begin of the first program is that of the module
pub refused-first : (programs : List ValidModule) (valid : ValidModule) (options : Options) (start : Start) (why : StartRefusal) → programs ≡ valid ∷ [] → start ≡ first_start options →
    ((program : ValidModule) → slice_get programs start.«module» ≡ Some program → begins.begin program.parts start ≡ Some why) →
    begins.begin valid.parts (first_start options) ≡ Some why
refused-first programs valid options start why is started refused =
    ap (begins.begin valid.parts) (sym started) ∙ refused valid (found-first programs valid start.«module» is (ap (λ (s : Start). s.«module») started))
