-- Where the machine stands in the run of its module: at the begin, and after a reply.
use Rattle.std.proofs.Common.{◌≡◌, ◌<◌, ℕ, ◌+◌, ◌-◌, ◌&&◌, Bool, true, cond, nat_le, List, [], ◌∷◌, ◌++◌, length, slice_get, Option, Some, None, is_none, option_and_then, arith, refl, sym, ◌∙◌, ap, subst}
use Rattle.std.proofs.lemmas.Bool.Decides.{nat_tests}
use Rattle.linear_memory.specs.Contents.{Contents}
use Rattle.host_port.specs.Areas.{areas_fit, request_of}
use Rattle.host_port.specs.Forms.{HasForm}
use Rattle.host_port.specs.declared.ask.Ask.{Ask}
use Rattle.host_port.specs.declared.call.Call.{Call}
use Rattle.host_port.specs.declared.reply.Reply.{Reply}
use Rattle.host_port.specs.declared.start.Start.{Start}
use Rattle.host_port.specs.declared.start.StartRefusal.{StartRefusal}
use Rattle.wasm_form.specs.declared.body.Body.{Body}
use Rattle.wasm_form.specs.declared.parts.Parts.{Parts}
use Rattle.wasm_form.specs.Modules.{IsSpelled}
use Rattle.wasm_form.specs.Profile.{Host as Offer}
use Rattle.wasm_form.specs.Verdict.{IsAccepted}
use Rattle.code_map.specs.declared.callee.Callee.TheVariants as callee
use Rattle.code_map.specs.declared.map.CodeMap.{CodeMap}
use Rattle.code_map.specs.Targets.{count_if}
use Rattle.tree_machine.specs.Config.{bytes_of}
use Rattle.tree_machine.specs.Begin.{begin, begun}
use Rattle.tree_machine.specs.Point.{Point}
use Rattle.tree_machine.specs.Run.{Course, all_used, run, point_at}
use Rattle.tree_machine.specs.RunLaws.{answer_none}
use Rattle.tree_machine.specs.CallLaws.{takes_reply}
use Rattle.tree_machine.specs.Typed.{IsTypedStart, Offers}
use Rattle.tree_machine.proofs.ModuleTyped.{body_below}
use Rattle.flat_machine.specs.Flat.{Place, Flat}
use Rattle.flat_machine.specs.Mapping.{HasResults}
use Rattle.flat_machine.specs.MappedModule.{IsMappedModule}
use Rattle.flat_machine.specs.Entering.{Begins}
use Rattle.flat_machine.specs.Halts.{replied_to}
use Rattle.flat_machine.specs.MovesAgree.{TakesReply}
use Rattle.flat_machine.specs.Stands.{Stands, Awaits, ReplyFits, size_of_body, first_flat}
use Rattle.flat_machine.proofs.Starts.{first_body, begins_for}
use Rattle.flat_machine.proofs.LeaveMoves.{body_callee}
use Rattle.flat_machine.proofs.ReplyBytes.{reply_taken}

-- the run of a module that is not refused begins where it is begun
begun_at : (m : Parts) (start : Start) → begin m start ≡ None → point_at m start [] 0 ≡ Some (begun m start)
unfolding point_at run
begun_at m start begins =
    let none : is_none (begin m start) ≡ true = ap (λ (o : Option StartRefusal). is_none o) begins in
    let few : nat_le 0 start.limits.fuel ≡ true = grind (arith, nat_tests) in
    let p = begun m start in
    ap (λ (b : Bool). cond (b && nat_le 0 start.limits.fuel) (option_and_then all_used (run m start [] 0)) None) none
    ∙ ap (λ (b : Bool). cond b (option_and_then all_used (run m start [] 0)) None) few
    ∙ ap (λ (o : Option Course). option_and_then all_used o) (answer_none m p.state p.config)

-- the machine before its first function is entered
pub first_stands : (host : Offer) (m : Parts) (map : CodeMap) (start : Start) (results : ℕ) → Offers host → IsAccepted host m → IsSpelled m → IsMappedModule m map →
    IsTypedStart start → begin m start ≡ None → HasResults m 0 results → Stands m map start [] 0 (first_flat m start results)
first_stands host m map start results offers accepted spelled mapped typed begins has_results =
    let body = first_body m map start mapped begins in
    let flat : Flat = first_flat m start results in
    let is : Begins m start flat = record {
      body = body.0;
      there = body.2;
      place = ap (λ (o : Option Body). let place : Place = record { pc = size_of_body o; body = 0; base = 0; opens = 0 } in place) body.2;
      callers = refl;
      count = results;
      results = has_results;
      values = refl;
      globals = refl;
      table = refl;
      memory = refl;
      invocations = refl;
    } in
    let stands = begins_for m start flat is host map offers accepted spelled mapped typed begins in
    record {
      config = stands.to;
      follows = stands.follows;
      typed = stands.typed;
      is_at = begun_at m start begins ∙ ap (λ (p : Point). Some p) (sym stands.point);
    }

-- what the map says of the first body
pub first_results : (m : Parts) (map : CodeMap) (start : Start) → IsMappedModule m map → begin m start ≡ None →
    (params : ℕ) × (locals : ℕ) × (gives : Bool) × (class : ℕ)
    × (slice_get map.callees (length map.callees - length m.bodies) ≡ Some (callee.Own 0 params locals gives class)) × (0 < length m.bodies) × HasResults m 0 (count_if gives)
first_results m map start mapped begins =
    let body = first_body m map start mapped begins in
    let found = body_callee m map mapped 0 body.1 body.3 in
    let at : length map.callees - length m.bodies ≡ length map.callees - length m.bodies + 0 = omega arith in (
      found.params,
      found.locals,
      found.gives,
      found.class,
      ap (slice_get map.callees) at ∙ found.there,
      body_below m.bodies 0 body.0 body.2,
      subst (HasResults m 0) found.results body.3,
    )

module _ (m : Parts) (map : CodeMap) (start : Start) (calls : List Call) (fuel : ℕ) (ask : Ask) (flat : Flat) (reply : Reply) (mapped : IsMappedModule m map)
    (awaits : Awaits m map start calls fuel ask flat) (fits : areas_fit (bytes_of flat.memory) ask ≡ true) (form : HasForm ask reply) where
  taken : TakesReply m map.bodies awaits.results flat awaits.config reply
  taken = reply_taken m map ask awaits.results flat awaits.config reply mapped awaits.waits_for fits form

  -- the reply can be given
  pub reply_fits : ReplyFits reply flat
  reply_fits =
      let take = taken in
      let count = take.count in
      let room = awaits.waits_for.room in
      record { text = take.text; word = take.word; room = omega arith }

  -- with it the machine stands where the run goes on
  pub reply_stands : Stands m map start (calls ++ record { request = request_of (bytes_of flat.memory) ask; reply = reply } ∷ []) fuel (replied_to reply flat)
  reply_stands =
      let take = taken in
      let c = awaits.config in
      let answered : Option Contents → Call = λ memory. record { request = request_of (bytes_of memory) ask; reply = reply } in
      record {
        config = take.to;
        follows = take.follows;
        typed = take.typed;
        is_at = ap (λ (memory : Option Contents). point_at m start (calls ++ answered memory ∷ []) fuel) awaits.waits_for.follows.tells.memory
            ∙ takes_reply m start calls fuel ask c reply awaits.is_at ∙ take.goes_on;
      }
