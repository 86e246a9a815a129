-- A reply goes on in the flat machine as in the configuration that waits.
use Rattle.std.proofs.Common.{◌≡◌, ◌<◌, ℕ, ◌+◌, true, List, [], ◌∷◌, ◌++◌, length, reverse, Option, option_map, option_to_list, arith, sym, ◌∙◌, ap, subst, append_assoc, length-append}
use Rattle.linear_memory.specs.Contents.{Contents}
use Rattle.host_port.specs.Areas.{areas_fit}
use Rattle.host_port.specs.Forms.{HasForm}
use Rattle.host_port.specs.declared.ask.Ask.{Ask}
use Rattle.host_port.specs.declared.reply.Reply.{Reply}
use Rattle.wasm_form.specs.declared.value_type.ValType.{ValType}
use Rattle.wasm_form.specs.declared.parts.Parts.{Parts}
use Rattle.code_map.specs.declared.body_map.BodyMap.{BodyMap}
use Rattle.tree_machine.specs.Config.{Frame, Config, with_operands, bytes_of, with_bytes}
use Rattle.tree_machine.specs.Point.{settle}
use Rattle.tree_machine.specs.Replies.{push_result, resumed, replied}
use Rattle.tree_machine.specs.Typed.{AreValues, IsTyped}
use Rattle.tree_machine.proofs.Values.{as_many}
use Rattle.tree_machine.proofs.ReplyTyped.{both_written, pushed_typed}
use Rattle.flat_machine.specs.Flat.{Place, Flat}
use Rattle.flat_machine.specs.Values.{operands_with, all_values}
use Rattle.flat_machine.specs.Tells.{PlacesStand}
use Rattle.flat_machine.specs.Mapping.{results_from, Waits, FrameMapped, CallersMapped, PlacesMapped}
use Rattle.flat_machine.specs.Waiting.{FollowsGiven, replied_bytes, Resumes}
use Rattle.flat_machine.proofs.Returns.{results_stay}
use Rattle.flat_machine.proofs.EndsAgree.{operands_joined}

-- the values with the result on top
pushed_values : (result : Option ℕ) (f : Frame) (below : List Frame) →
    option_to_list result ++ all_values (f ∷ below) ≡ all_values (push_result result (f ∷ below))
pushed_values result f below =
    let top = option_to_list result in
    let joined : operands_with (top ++ f.operands) f.conts ≡ top ++ operands_with f.operands f.conts = operands_joined top f.operands f.conts in
    let turned : List ℕ = reverse f.locals in
    sym (append_assoc top (operands_with f.operands f.conts ++ turned) (all_values below))
    ∙ ap (λ (l : List ℕ). l ++ all_values below) (sym (append_assoc top (operands_with f.operands f.conts) turned))
    ∙ ap (λ (l : List ℕ). (l ++ turned) ++ all_values below) (sym joined)

pushed_all : (m : Parts) (list : List Place) (result : Option ℕ) (frames : List Frame) → 0 < length list → PlacesStand m list frames →
    option_to_list result ++ all_values frames ≡ all_values (push_result result frames)
pushed_all m [] result frames some h = absurd (omega (arith, some))
pushed_all m (place ∷ callers) result [] some h = absurd h
pushed_all m (place ∷ callers) result (f ∷ below) some h = pushed_values result f below

pushed_stands : (m : Parts) (list : List Place) (result : Option ℕ) (frames : List Frame) → PlacesStand m list frames → PlacesStand m list (push_result result frames)
pushed_stands m [] result [] h = h
pushed_stands m [] result (f ∷ below) h = absurd h
pushed_stands m (place ∷ callers) result [] h = absurd h
pushed_stands m (place ∷ callers) result (f ∷ below) h = h

-- a frame that is given the results that it waits for
given_mapped : (m : Parts) (maps : List BodyMap) (place : Place) (f : Frame) (results : List ℕ) → FrameMapped m maps (length results) place f →
    FrameMapped m maps 0 place (with_operands (results ++ f.operands) f)
given_mapped m maps place f results fm =
    let high = fm.height_is in
    let sizes : length (operands_with (results ++ f.operands) f.conts) ≡ length results + length (operands_with f.operands f.conts) =
    ap length (operands_joined results f.operands f.conts) ∙ length-append results (operands_with f.operands f.conts) in
    record { left = fm.left; map = fm.map; map_is = fm.map_is; labels = fm.labels; height = fm.height; height_is = omega arith; lists = fm.lists }

pushed_mapped : (m : Parts) (maps : List BodyMap) (list : List Place) (given : ℕ) (result : Option ℕ) (frames : List Frame) → length (option_to_list result) ≡ given →
    Waits frames → PlacesMapped m maps given list frames → PlacesMapped m maps 0 list (push_result result frames)
pushed_mapped m maps [] given result frames count waits h = tt
pushed_mapped m maps (place ∷ callers) given result [] count waits h = tt
pushed_mapped m maps (place ∷ callers) given result (f ∷ below) count waits h =
    let top = option_to_list result in
    let fm : FrameMapped m maps (length top) place f = subst (λ (n : ℕ). FrameMapped m maps n place f) (sym count) h.0 in
    let stay : results_from f.operands f.conts ≡ results_from (top ++ f.operands) f.conts = results_stay f.operands (top ++ f.operands) f.conts waits in
    (given_mapped m maps place f top fm, subst (λ (n : ℕ). CallersMapped m maps place.body n callers below) stay h.1)

-- a reply of the call's form
pub reply_resumes : (m : Parts) (maps : List BodyMap) (flat : Flat) (c : Config) (ask : Ask) (given : List ValType) (results : ℕ) (reply : Reply) →
    FollowsGiven m maps results flat c → IsTyped m given c → results ≡ length given → areas_fit (bytes_of flat.memory) ask ≡ true → HasForm ask reply →
    AreValues given (option_to_list reply.result) → Resumes m maps flat c reply
unfolding replied
reply_resumes m maps flat c ask given results reply follows typed results_are fits form values =
    let tells = follows.tells in
    let room : areas_fit (bytes_of c.memory) ask ≡ true = subst (λ (o : Option Contents). areas_fit (bytes_of o) ask ≡ true) tells.memory fits in
    let to_write = both_written m c.memory typed.memory ask reply room form.writes in
    let to = resumed reply.result c to_write.bytes in
    let count : length (option_to_list reply.result) ≡ results = as_many given (option_to_list reply.result) values ∙ sym results_are in
    record {
      bytes = to_write.bytes;
      written = ap (λ (o : Option Contents). replied_bytes reply (bytes_of o)) tells.memory ∙ to_write.there;
      size = to_write.size ∙ ap (λ (o : Option Contents). length (bytes_of o)) (sym tells.memory);
      to = to;
      goes_on = ap (option_map (λ bytes. settle m (resumed reply.result c bytes))) to_write.there;
      typed = record {
        globals = typed.globals;
        table = typed.table;
        memory = to_write.typed;
        invocations = typed.invocations;
        frames = pushed_typed m given reply.result c.frames typed.frames values;
      };
      follows = record {
        tells = record {
          values = ap (λ (l : List ℕ). option_to_list reply.result ++ l) tells.values
              ∙ pushed_all m (flat.place ∷ flat.callers) reply.result c.frames (omega arith) tells.places;
          places = pushed_stands m (flat.place ∷ flat.callers) reply.result c.frames tells.places;
          globals = tells.globals;
          table = tells.table;
          memory = ap (with_bytes to_write.bytes) tells.memory;
          invocations = tells.invocations;
        };
        mapped = pushed_mapped m maps (flat.place ∷ flat.callers) results reply.result c.frames count follows.waits follows.mapped;
      };
    }
