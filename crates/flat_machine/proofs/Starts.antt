-- The machine of an instance that begins stands where its run begins.
use Rattle.std.proofs.Common.{◌≡◌, ℕ, List, [], ◌∷◌, ◌++◌, length, reverse, replicate, slice_get, Option, Some, None, arith, refl, sym, ◌∙◌, ap, subst, append-nil}
use Rattle.std.proofs.lemmas.List.{length-reverse, length-replicate}
use Rattle.linear_memory.specs.Contents.{Contents}
use Rattle.host_port.specs.declared.start.Start.{Start}
use Rattle.wasm_form.specs.declared.body.Body.{Body}
use Rattle.wasm_form.specs.declared.parts.Parts.{Parts}
use Rattle.wasm_form.specs.Modules.{IsSpelled}
use Rattle.wasm_form.specs.Profile.{Host as Offer}
use Rattle.wasm_form.specs.Typing.{arrow}
use Rattle.wasm_form.specs.Verdict.{IsAccepted}
use Rattle.code_map.specs.declared.map.CodeMap.{CodeMap}
use Rattle.tree_machine.specs.Config.{Frame, Invocation, with_frames}
use Rattle.tree_machine.specs.Point.{unless_left, enter_next, settle}
use Rattle.tree_machine.specs.Begin.{begin, instance_of, begun}
use Rattle.tree_machine.specs.Typed.{AreValues, FramesTyped, IsTypedStart, Offers}
use Rattle.tree_machine.proofs.Values.{zeros_are}
use Rattle.tree_machine.proofs.BeginTyped.{instance_typed, entry_is}
use Rattle.tree_machine.proofs.ExitsTyped.{with_typed}
use Rattle.tree_machine.proofs.ModuleTyped.{body_below, body_there}
use Rattle.flat_machine.specs.Flat.{Place, Flat}
use Rattle.flat_machine.specs.Values.{frame_values, all_values}
use Rattle.flat_machine.specs.Tells.{IsOver}
use Rattle.flat_machine.specs.Mapping.{HasResults, Follows}
use Rattle.flat_machine.specs.MappedModule.{IsMappedModule}
use Rattle.flat_machine.specs.Entering.{Begins, StandsFor}
use Rattle.flat_machine.proofs.Settling.{settles_to}
use Rattle.flat_machine.proofs.StraightAgrees.{flat_of}
use Rattle.flat_machine.proofs.Inner.{follows_with}
use Rattle.flat_machine.proofs.ModuleMapped.{first_own}
use Rattle.flat_machine.proofs.Enterings.{settled_last}

-- a module that begins has a first body
pub first_body : (m : Parts) (map : CodeMap) (start : Start) → IsMappedModule m map → begin m start ≡ None →
    (body : Body) × (count : ℕ) × (slice_get m.bodies 0 ≡ Some body) × HasResults m 0 count
first_body m map start mapped begins = let entry = entry_is m start begins in first_own m map mapped entry.0 entry.1 entry.2

-- behind the first body the code is over
pub begins_over : (m : Parts) (start : Start) (flat : Flat) → Begins m start flat → IsOver m flat.place
begins_over m start flat is =
    subst (IsOver m) (sym is.place) (is.body, is.there, refl)

module _ (m : Parts) (start : Start) (flat : Flat) (is : Begins m start flat) where
  abbrev zeros : List ℕ
  zeros = replicate is.count 0

  -- the frame of the first body, as if it had been executed
  abbrev first : Frame
  first = record { locals = []; operands = zeros; conts = [] }

  abbrev place_behind : Place
  place_behind = record { pc = length is.body.expr.code; body = 0; base = 0; opens = 0 }

  flat_is : flat ≡ flat_of zeros place_behind [] (instance_of m start)
  flat_is =
      ap (λ (x : List ℕ). record flat { values = x }) is.values
      ∙ ap (λ (x : Place). record flat { values = zeros; place = x }) is.place
      ∙ ap (λ (x : List Place). record flat { values = zeros; place = place_behind; callers = x }) is.callers
      ∙ ap (λ (x : List ℕ). record flat { values = zeros; place = place_behind; callers = []; globals = x }) is.globals
      ∙ ap (λ (x : List (Option ℕ)). record (flat_of zeros place_behind [] (instance_of m start)) { table = x; memory = flat.memory; invocations = flat.invocations }) is.table
      ∙ ap (λ (x : Option Contents). record (flat_of zeros place_behind [] (instance_of m start)) { memory = x; invocations = flat.invocations }) is.memory
      ∙ ap (λ (x : List Invocation). record (flat_of zeros place_behind [] (instance_of m start)) { invocations = x }) is.invocations

  zeros_count : length {A = ℕ} zeros ≡ is.count
  zeros_count = length-replicate is.count 0

  frames_typed : FramesTyped m [] (first ∷ [])
  frames_typed =
      let ty = is.results.1 in
      let count : length (reverse ty.results) ≡ is.count = length-reverse ty.results ∙ is.results.4 in (
        arrow [] ty.results,
        record {
          runs = [];
          labels = [];
          stack = reverse ty.results;
          locals = tt;
          operands = subst (λ (n : ℕ). AreValues (reverse ty.results) (replicate n 0)) count (zeros_are (reverse ty.results));
          conts = refl;
        },
        tt,
      )

  begin_follows : (map : CodeMap) → IsMappedModule m map → Follows m map.bodies flat (with_frames (first ∷ []) (instance_of m start))
  begin_follows map mapped =
      let within = body_below m.bodies 0 is.body is.there in
      let count = mapped.mapped.bodies.count in
      let found = body_there map.bodies 0 (omega arith) in
      let values : zeros ≡ frame_values first ++ all_values [] = sym (append-nil (zeros ++ []) ∙ append-nil zeros) in
      subst (λ (x : Flat). Follows m map.bodies x (with_frames (first ∷ []) (instance_of m start))) (sym flat_is)
      (follows_with m map.bodies (instance_of m start) zeros place_behind [] first [] values
      (record {
        left = record { body = is.body; is = is.there; afters = []; lists = refl };
        map = found.0;
        map_is = found.1;
        labels = [];
        height = length {A = ℕ} zeros;
        height_is = omega arith;
        lists = tt;
      })
      refl refl tt (subst (HasResults m 0) (sym zeros_count) is.results, tt, tt))

  begin_point : settle m (with_frames (first ∷ []) (instance_of m start)) ≡ begun m start
  unfolding begun
  begin_point =
      let c = instance_of m start in
      settles_to m c (first ∷ []) ∙ ap (λ (frames : List Frame). unless_left frames c (enter_next m c c.invocations)) (settled_last first refl)

  -- the machine stands for a typed configuration at the begin of the run
  pub begins_for : (host : Offer) (map : CodeMap) → Offers host → IsAccepted host m → IsSpelled m → IsMappedModule m map → IsTypedStart start → begin m start ≡ None →
      StandsFor m map.bodies flat (begun m start)
  begins_for host map offers accepted spelled mapped typed begins = record {
    to = with_frames (first ∷ []) (instance_of m start);
    point = begin_point;
    typed = with_typed m [] [] (instance_of m start) (first ∷ []) (instance_typed host m offers accepted spelled start typed.pages typed.params begins) frames_typed;
    follows = begin_follows map mapped;
  }
