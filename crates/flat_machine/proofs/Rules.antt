-- A rule applies to a typed configuration, and a map has one target at a place.
use Rattle.std.proofs.Common.{◌≡◌, ◌≢◌, ℕ, List, [], sym, ◌∙◌, ap, subst, slice_get}
use Rattle.wasm_form.specs.declared.parts.Parts.{Parts}
use Rattle.code_map.specs.declared.target.Target.{Target}
use Rattle.code_map.specs.declared.body_map.BodyMap.{BodyMap}
use Rattle.code_map.specs.Targets.{HasTarget}
use Rattle.tree_machine.specs.Config.{Config}
use Rattle.tree_machine.specs.Outcomes.{Outcome, Stuck}
use Rattle.tree_machine.specs.Step.{next}
use Rattle.tree_machine.specs.Typed.{IsTyped, HasNext, IsTypedModule, IsKept}
use Rattle.tree_machine.proofs.StepTyped.{next_kept}
use Rattle.flat_machine.specs.Flat.{Place}
use Rattle.flat_machine.specs.Mapping.{HasTargetAt}
use Rattle.flat_machine.proofs.Standing.{same_some}

pub not_stuck : (m : Parts) → IsTypedModule m → (c : Config) → IsTyped m [] c → HasNext c.frames → next m c ≢ Stuck
not_stuck m module_typed c typed next_is stuck = subst (λ (o : Outcome). IsKept m o) stuck (next_kept m module_typed c typed next_is)

pub one_target : (maps : List BodyMap) (place : Place) (t u : Target) → HasTargetAt maps place t → HasTargetAt maps place u → t ≡ u
one_target maps place t u one two =
    let map : two.0 ≡ one.0 = same_some (slice_get maps place.body) two.0 one.0 two.1 one.1 in
    let other : HasTarget one.0 place.pc u = subst (λ (x : BodyMap). HasTarget x place.pc u) map two.2 in
    let slot : other.0 ≡ one.2.0 = same_some (slice_get one.0.slots place.pc) other.0 one.2.0 other.1 one.2.1 in
    same_some (slice_get one.0.targets one.2.0) t u one.2.2 (ap (λ (n : ℕ). slice_get one.0.targets n) (sym slot) ∙ other.2)
