-- The innermost list, as it stands in the code and in the map of its body.
use Rattle.std.proofs.Common.{◌≡◌, ℕ, suc, pred, ◌+◌, List, [], ◌∷◌, ◌++◌, length, slice_get, Some, arith, refl, ap, subst}
use Rattle.std.proofs.lemmas.Option.{slice_get_within}
use Rattle.wasm_form.specs.declared.body.Body.{Body}
use Rattle.wasm_form.specs.declared.expr.Expr.{Expr}
use Rattle.wasm_form.specs.declared.instr.Instr.{Instr}
use Rattle.wasm_form.specs.declared.parts.Parts.{Parts}
use Rattle.code_map.specs.declared.target.Target.{Target}
use Rattle.code_map.specs.declared.body_map.BodyMap.{BodyMap}
use Rattle.tree_machine.specs.Config.{Cont, Frame, Config, with_frames}
use Rattle.flat_machine.specs.Flat.{Place}
use Rattle.flat_machine.specs.Text.{IsAt, ListStands, ListsStand}
use Rattle.flat_machine.specs.Values.{frame_values, all_values}
use Rattle.flat_machine.specs.Tells.{opens_of, PlacesStand, IsInstrAt}
use Rattle.flat_machine.specs.Mapping.{left_by, ListMapped, ListsMapped, FrameMapped, results_from, CallersMapped, Follows}
use Rattle.flat_machine.proofs.Standing.{same_some, BeginsWith, code_begins}
use Rattle.flat_machine.proofs.StraightAgrees.{flat_of}

-- the innermost list, where there is an instruction at the place
pub record Inner (m : Parts) (maps : List BodyMap) (place : Place) (i : Instr) (locals height : ℕ) (ks : List Cont) : Type 0 where
  pub k : Cont
  pub around : List Cont
  pub is : ks ≡ k ∷ around
  pub body : Body
  pub body_is : slice_get m.bodies place.body ≡ Some body
  pub map : BodyMap
  pub map_is : slice_get maps place.body ≡ Some map
  pub after : ℕ
  pub afters : List ℕ
  pub list : ListStands body.expr place.pc after k around
  pub outer : ListsStand body.expr after afters around
  pub target : Target
  pub labels : List Target
  pub mapped : ListMapped m map body.expr locals target labels place.pc height after k around
  pub outer_mapped : ListsMapped m map body.expr locals labels after (target.height + left_by k.label) afters around
  pub begins : BeginsWith i k.rest

inner_in : (m : Parts) (maps : List BodyMap) (place : Place) (i : Instr) (locals height : ℕ) (body : Body) (map : BodyMap) (afters : List ℕ) (labels : List Target) (ks : List Cont) →
    slice_get m.bodies place.body ≡ Some body → slice_get maps place.body ≡ Some map → IsAt body.expr place.pc i →
    ListsStand body.expr place.pc afters ks → ListsMapped m map body.expr locals labels place.pc height afters ks → Inner m maps place i locals height ks
inner_in m maps place i locals height body map [] labels [] is map_is at lists mapped =
    let past = slice_get_within body.expr.code place.pc i at in absurd (omega (arith, lists, past))
inner_in m maps place i locals height body map [] labels (k ∷ ks) is map_is at lists mapped = absurd lists
inner_in m maps place i locals height body map (after ∷ afters) labels [] is map_is at lists mapped = absurd lists
inner_in m maps place i locals height body map (after ∷ afters) [] (k ∷ ks) is map_is at lists mapped = absurd mapped
inner_in m maps place i locals height body map (after ∷ afters) (t ∷ labels) (k ∷ ks) is map_is at lists mapped = record {
  k = k;
  around = ks;
  is = refl;
  body = body;
  body_is = is;
  map = map;
  map_is = map_is;
  after = after;
  afters = afters;
  list = lists.0;
  outer = lists.1;
  target = t;
  labels = labels;
  mapped = mapped.0;
  outer_mapped = mapped.1;
  begins = code_begins body.expr place.pc after i k ks k.rest refl at lists.0;
}

pub inner : (m : Parts) (maps : List BodyMap) (given : ℕ) (place : Place) (i : Instr) (f : Frame) → IsInstrAt m place i → (fm : FrameMapped m maps given place f) →
    Inner m maps place i (length f.locals) fm.height f.conts
inner m maps given place i f at fm =
    let left = fm.left in
    let same : at.0 ≡ left.body = same_some (slice_get m.bodies place.body) at.0 left.body at.1 left.is in
    inner_in m maps place i (length f.locals) fm.height left.body fm.map left.afters fm.labels f.conts left.is fm.map_is
    (subst (λ (b : Body). IsAt b.expr place.pc i) same at.2) left.lists fm.lists

-- as many targets as lists
pub labels_count : (m : Parts) (map : BodyMap) (e : Expr) (locals : ℕ) (labels : List Target) (pc height : ℕ) (afters : List ℕ) (ks : List Cont) →
    ListsMapped m map e locals labels pc height afters ks → length labels ≡ length ks
labels_count m map e locals [] pc height [] [] h = refl
labels_count m map e locals [] pc height [] (k ∷ ks) h = absurd h
labels_count m map e locals [] pc height (after ∷ afters) ks h = absurd h
labels_count m map e locals (t ∷ labels) pc height [] ks h = absurd h
labels_count m map e locals (t ∷ labels) pc height (after ∷ afters) [] h = absurd h
labels_count m map e locals (t ∷ labels) pc height (after ∷ afters) (k ∷ ks) h =
    ap suc (labels_count m map e locals labels after (t.height + left_by k.label) afters ks h.1)

-- while lists are left, the function's results hang on the outermost label alone
pub results_same : (operands others : List ℕ) (k d : Cont) (ks : List Cont) → k.label ≡ d.label → results_from operands (k ∷ ks) ≡ results_from others (d ∷ ks)
results_same operands others k d [] e = ap left_by e
results_same operands others k d (j ∷ ks) e = results_same operands others j j ks refl

-- the machine stands for a configuration whose innermost frame is mapped at this place
pub follows_with : (m : Parts) (maps : List BodyMap) (c : Config) (values : List ℕ) (place : Place) (callers : List Place) (g : Frame) (below : List Frame) →
    values ≡ frame_values g ++ all_values below → FrameMapped m maps 0 place g → place.base ≡ length (all_values below) →
    place.opens ≡ opens_of callers + pred (length g.conts) → PlacesStand m callers below → CallersMapped m maps place.body (results_from g.operands g.conts) callers below →
    Follows m maps (flat_of values place callers c) (with_frames (g ∷ below) c)
follows_with m maps c values place callers g below e fm base opens outer outer_mapped = record {
  tells = record {
    values = e;
    places = (fm.left, base, opens, outer);
    globals = refl;
    table = refl;
    memory = refl;
    invocations = refl;
  };
  mapped = (fm, outer_mapped);
}
