-- What the laws of the flat machine say of an accepted module.
use Rattle.std.proofs.Common.{◌≡◌, ℕ, ◌+◌, ◌-◌, ◌<◌, ◌≤◌, List, [], ◌∷◌, ◌++◌, length, arith, slice_get, Option, Some, None, IsTrue, Bool, refl}
use Rattle.host_port.specs.Areas.{areas_fit, request_of}
use Rattle.host_port.specs.Forms.{HasForm}
use Rattle.host_port.specs.declared.ask.Ask.{Ask}
use Rattle.host_port.specs.declared.call.Call.{Call}
use Rattle.host_port.specs.declared.reply.Reply.{Reply}
use Rattle.host_port.specs.declared.start.Start.{Start}
use Rattle.wasm_form.specs.declared.parts.Parts.{Parts}
use Rattle.wasm_form.specs.Modules.{IsSpelled}
use Rattle.wasm_form.specs.Verdict.{IsAccepted}
use Rattle.code_map.specs.declared.callee.Callee.TheVariants as callee
use Rattle.code_map.specs.declared.map.CodeMap.{CodeMap}
use Rattle.code_map.specs.Targets.{count_if}
use Rattle.module_validator.specs.Host.{host}
use Rattle.module_validator.specs.Calls.{IsItsMap}
use Rattle.tree_machine.specs.Config.{Config, bytes_of}
use Rattle.tree_machine.specs.Begin.{begin}
use Rattle.tree_machine.specs.Typed.{IsTyped, IsTypedModule, IsTypedStart, Offers}
use Rattle.tree_machine.proofs.BeginTyped.{module_typed}
use Rattle.flat_machine.specs.declared.halt.Halt.{Halt}
use Rattle.flat_machine.specs.Flat.{Flat}
use Rattle.flat_machine.specs.Mapping.{HasResults, Follows}
use Rattle.flat_machine.specs.MappedModule.{IsMappedModule}
use Rattle.flat_machine.specs.Moves.{move}
use Rattle.flat_machine.specs.MovesAgree.{MoveAgrees}
use Rattle.flat_machine.specs.Runs.{IsSafe}
use Rattle.flat_machine.specs.Halts.{HaltsSo, replied_to}
use Rattle.flat_machine.specs.Stands.{Stands, Awaits, IsReadyAt, HaltStands, ReplyFits, first_flat}
use Rattle.flat_machine.proofs.ModuleMapped.{accepted_mapped}
use Rattle.flat_machine.proofs.EveryMove.{every_move}
use Rattle.flat_machine.proofs.RunsAgree.{stands_safe, halts_stand, halts_ready}
use Rattle.flat_machine.proofs.RunsStand as runs_stand

-- what is known of an accepted module and the map of its code
pub record IsKnown (m : Parts) (map : CodeMap) : Type 0 where
  pub accepted : IsAccepted host m
  pub spelled : IsSpelled m
  pub mapped : IsItsMap m map

pub offered : Offers host
unfolding host
offered import_module name = refl

module _ (m : Parts) (map : CodeMap) (known : IsKnown m map) where
  typed : IsTypedModule m
  typed = module_typed host m offered known.accepted known.spelled

  mapped : IsMappedModule m map
  mapped = accepted_mapped host m map offered known.accepted known.spelled known.mapped

  moves : (flat : Flat) (c : Config) → Follows m map.bodies flat c → IsTyped m [] c → MoveAgrees m map flat c (move m map flat)
  moves flat c follows typed_here = every_move m map typed mapped flat c follows typed_here

  pub few_bodies : length m.bodies ≤ length map.bodies
  few_bodies = let count : length map.bodies ≡ length m.bodies = known.mapped.bodies.count in omega arith

  pub safe : (start : Start) (calls : List Call) (fuel : ℕ) (flat : Flat) → Stands m map start calls fuel flat → IsSafe m map flat
  safe start calls fuel flat stands = stands_safe m map moves start calls fuel flat stands

  pub halts : (start : Start) (calls : List Call) (fuel budget executed : ℕ) (reason : Halt) (from to : Flat) →
      Stands m map start calls fuel from → HaltsSo m map reason budget executed from to →
      fuel + executed ≤ start.limits.fuel → HaltStands m map start calls (fuel + executed) reason to
  halts start calls fuel budget executed reason from to stands halted fueled =
      halts_stand m map moves start calls reason fuel budget executed from to stands halted fueled

  pub ready : (start : Start) (calls : List Call) (fuel budget executed k : ℕ) (reason : Halt) (from to : Flat) →
      Stands m map start calls fuel from → HaltsSo m map reason budget executed from to →
      fuel + executed ≤ start.limits.fuel → k < executed → IsReadyAt m start calls (fuel + k)
  ready start calls fuel budget executed k reason from to stands halted fueled less =
      halts_ready m map moves start calls reason fuel budget executed k from to stands halted fueled less

  pub reply_fits : (start : Start) (calls : List Call) (fuel : ℕ) (ask : Ask) (flat : Flat) (reply : Reply) →
      Awaits m map start calls fuel ask flat → IsTrue (areas_fit (bytes_of flat.memory) ask) → HasForm ask reply →
      ReplyFits reply flat
  reply_fits start calls fuel ask flat reply awaits fits form = runs_stand.reply_fits m map start calls fuel ask flat reply mapped awaits fits form

  pub reply_stands : (start : Start) (calls : List Call) (fuel : ℕ) (ask : Ask) (flat : Flat) (reply : Reply) →
      Awaits m map start calls fuel ask flat → IsTrue (areas_fit (bytes_of flat.memory) ask) → HasForm ask reply →
      Stands m map start (calls ++ record { request = request_of (bytes_of flat.memory) ask; reply = reply } ∷ []) fuel (replied_to reply flat)
  reply_stands start calls fuel ask flat reply awaits fits form = runs_stand.reply_stands m map start calls fuel ask flat reply mapped awaits fits form

  pub first_stands : (start : Start) (results : ℕ) → IsTypedStart start → begin m start ≡ None → HasResults m 0 results →
      Stands m map start [] 0 (first_flat m start results)
  first_stands start results typed_start begins has =
      runs_stand.first_stands host m map start results offered known.accepted known.spelled mapped typed_start begins has

  pub first_callee : (start : Start) → begin m start ≡ None →
      (params : ℕ) × (locals : ℕ) × (gives : Bool) × (class : ℕ)
      × (slice_get map.callees (length map.callees - length m.bodies) ≡ Some (callee.Own 0 params locals gives class))
      × (0 < length m.bodies) × HasResults m 0 (count_if gives)
  first_callee start begins = runs_stand.first_results m map start mapped begins
