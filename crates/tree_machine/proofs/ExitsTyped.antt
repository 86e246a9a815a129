-- Exits and entering keep a configuration typed, and end where an instruction is to come.
use Rattle.std.proofs.Common.{◌≡◌, ℕ, List, [], ◌∷◌, ◌++◌, reverse, replicate, flat_map, cond, nat_le, Bool, true, false, Option, Some, None, refl, sym, ◌∙◌, subst, append-nil}
use Rattle.std.specs.Prelude.{⊤}
use Rattle.host_port.specs.Standing.{Exhausted}
use Rattle.host_port.specs.declared.stop.Spent.TheVariants as limit
use Rattle.wasm_form.specs.declared.value_type.ValType.{ValType}
use Rattle.wasm_form.specs.declared.body.LocalRun.{LocalRun}
use Rattle.wasm_form.specs.declared.parts.Parts.{Parts}
use Rattle.wasm_form.specs.Trees.{Code, Empty, Then, TableOf, BlockOf, LoopOf, IfOf, IfElseOf}
use Rattle.wasm_form.specs.Context.{Context, context_of}
use Rattle.wasm_form.specs.Typing.{Types}
use Rattle.tree_machine.specs.Functions.{Function, own_function}
use Rattle.tree_machine.specs.Config.{Cont, Frame, Invocation, Config, frame_of, with_frames}
use Rattle.tree_machine.specs.Limits.{most_values, places}
use Rattle.tree_machine.specs.Exits.{unless_ended, leave_lists, unless_returned, return_to, settled}
use Rattle.tree_machine.specs.Point.{Point, point, unless_left, entered, enter_next, settle}
use Rattle.tree_machine.specs.Typed.{AreValues, ContsTyped, with_labels, FrameTyped, FramesTyped, IsTyped, IsNext, HasNextIn, IsTypedAt, IsTypedFunction, IsTypedModule}
use Rattle.tree_machine.proofs.Values.{values_append, zeros_are}

unless_case : (P : Frame → Type 0) (code : Code) (stays goes : Frame) → (IsNext code → P stays) → (code ≡ Empty → P goes) → P (unless_ended code stays goes)
unless_case P Empty stays goes one two = two refl
unless_case P (Then i rest) stays goes one two = one tt
unless_case P (TableOf labels last rest) stays goes one two = one tt
unless_case P (BlockOf result inside rest) stays goes one two = one tt
unless_case P (LoopOf result inside rest) stays goes one two = one tt
unless_case P (IfOf result inside rest) stays goes one two = one tt
unless_case P (IfElseOf result inside other rest) stays goes one two = one tt

-- an instruction is to come, or no list is left
abbrev EndsOrNext : List Cont → Type 0
EndsOrNext [] = ⊤
EndsOrNext (k ∷ ks) = IsNext k.rest

-- a frame whose lists were left
record Left (context : Context) (locals : List ℕ) (f : Frame) : Type 0 where
  labels : List (List ValType)
  stack : List ValType
  same : f.locals ≡ locals
  operands : AreValues stack f.operands
  conts : ContsTyped context labels f.conts stack
  next : EndsOrNext f.conts

leave_keeps : (context : Context) (locals operands : List ℕ) (labels : List (List ValType)) (ks : List Cont) (stack : List ValType) →
    AreValues stack operands → ContsTyped context labels ks stack → Left context locals (leave_lists locals operands ks)
leave_keeps context locals operands [] [] stack h c =
    record { labels = []; stack = stack; same = refl; operands = h; conts = c; next = tt }
leave_keeps context locals operands [] (k ∷ ks) stack h c = absurd c
leave_keeps context locals operands (carried ∷ around) [] stack h c = absurd c
leave_keeps context locals operands (carried ∷ around) (k ∷ ks) stack h c =
    let ends = c.0 in
    let below = c.1 in
    let typed = c.2 in
    unless_case (Left context locals) k.rest _ _
    (λ next. record { labels = carried ∷ around; stack = stack; same = refl; operands = h; conts = c; next = next })
    (λ empty.
    let same : ends ≡ stack = subst (λ (code : Code). Types (with_labels (carried ∷ around) context) code stack ends) empty typed.leads in
    leave_keeps context locals (operands ++ k.under) around ks (ends ++ below)
    (subst (λ (s : List ValType). AreValues (s ++ below) (operands ++ k.under)) (sym same)
    (values_append stack below operands k.under h typed.under)) c.3)

ended_stack : (context : Context) (labels : List (List ValType)) (ks : List Cont) (stack : List ValType) → ks ≡ [] →
    ContsTyped context labels ks stack → stack ≡ reverse context.results
ended_stack context [] [] stack e c = c
ended_stack context (carried ∷ around) [] stack e c = absurd c
ended_stack context labels (k ∷ ks) stack e c = absurd (cc)

returned_case : (P : List Frame → Type 0) (ks : List Cont) (stays goes : List Frame) → EndsOrNext ks →
    (HasNextIn ks → P stays) → (ks ≡ [] → P goes) → P (unless_returned ks stays goes)
returned_case P [] stays goes next one two = two refl
returned_case P (k ∷ ks) stays goes next one two = one next

abbrev EmptyOrNext : List Frame → Type 0
EmptyOrNext [] = ⊤
EmptyOrNext (f ∷ below) = HasNextIn f.conts

return_keeps : (m : Parts) (given : List ValType) (results : List ℕ) (frames : List Frame) →
    AreValues given results → FramesTyped m given frames →
    FramesTyped m [] (return_to results frames) × EmptyOrNext (return_to results frames)
return_keeps m given results [] h typed = (tt, tt)
return_keeps m given results (f ∷ below) h typed =
    let ty = typed.0 in
    let frame = typed.1 in
    let left = leave_lists f.locals (results ++ f.operands) f.conts in
    let is : Left (context_of m ty frame.runs) f.locals left =
    leave_keeps (context_of m ty frame.runs) f.locals (results ++ f.operands) frame.labels f.conts (given ++ frame.stack)
    (values_append given frame.stack results f.operands h frame.operands) frame.conts in
    returned_case (λ (frames : List Frame). FramesTyped m [] frames × EmptyOrNext frames) left.conts (left ∷ below) (return_to left.operands below) is.next
    (λ next. (
      (
        ty,
        record {
          runs = frame.runs;
          labels = is.labels;
          stack = is.stack;
          locals = subst (AreValues (context_of m ty frame.runs).locals) (sym is.same) frame.locals;
          operands = is.operands;
          conts = is.conts;
        },
        typed.2,
      ),
      next,
    ))
    (λ ended.
    let all : is.stack ≡ reverse ty.results = ended_stack (context_of m ty frame.runs) is.labels left.conts is.stack ended is.conts in
    return_keeps m (reverse ty.results) left.operands below
    (subst (λ (s : List ValType). AreValues s left.operands) all is.operands) typed.2)

-- exits keep frames typed
settled_keeps : (m : Parts) (frames : List Frame) → FramesTyped m [] frames → FramesTyped m [] (settled frames) × EmptyOrNext (settled frames)
unfolding settled
settled_keeps m frames typed = return_keeps m [] [] frames tt typed

left_keeps : (m : Parts) (frames : List Frame) (c : Config) (goes : Point) → FramesTyped m [] frames → EmptyOrNext frames →
    (FramesTyped m [] frames → IsTyped m [] (with_frames frames c)) → IsTypedAt m goes.state goes.config →
    IsTypedAt m (unless_left frames c goes).state (unless_left frames c goes).config
left_keeps m [] c goes typed next now goes_typed = goes_typed
left_keeps m (f ∷ below) c goes typed next now goes_typed = (now typed, next)

-- a typed configuration with other frames
pub with_typed : (m : Parts) (given gives : List ValType) (c : Config) (frames : List Frame) → IsTyped m given c → FramesTyped m gives frames →
    IsTyped m gives (with_frames frames c)
with_typed m given gives c frames is typed =
    record { globals = is.globals; table = is.table; memory = is.memory; invocations = is.invocations; frames = typed }

-- a frame that is entered is typed
pub entered_typed : (m : Parts) (function : Function) (arguments : List ℕ) → IsTypedFunction m function → AreValues function.ty.params arguments →
    FrameTyped m [] (frame_of function arguments) function.ty
entered_typed m function arguments is h =
    let others = flat_map (λ (run : LocalRun). replicate run.count run.ty) is.runs in
    record {
      runs = is.runs;
      labels = function.ty.results ∷ [];
      stack = [];
      locals = values_append function.ty.params others arguments (replicate function.locals 0) h
          (subst (λ (n : ℕ). AreValues others (replicate n 0)) (sym is.locals) (zeros_are others));
      operands = tt;
      conts = (reverse function.ty.results, [], record { instrs = is.instrs; leads = is.typed; label = (refl, refl); under = tt; outermost = λ e. refl }, append-nil (reverse function.ty.results));
    }

room_keeps : (m : Parts) (room : Bool) (p : Point) (c : Config) → IsTypedAt m p.state p.config →
    IsTypedAt m (cond room p (point (Exhausted limit.Values) c)).state (cond room p (point (Exhausted limit.Values) c)).config
room_keeps m true p c h = h
room_keeps m false p c h = tt

entered_keeps : (m : Parts) (module_typed : IsTypedModule m) (c : Config) (o : Option Function) (i : Invocation) (rest : List Invocation) (others : Point) →
    own_function m i.function ≡ o → IsTyped m [] (record c { invocations = i ∷ rest; frames = [] }) → IsTypedAt m others.state others.config →
    IsTypedAt m (entered o i.arguments (record c { invocations = i ∷ rest; frames = [] }) (record c { invocations = rest; frames = [] }) others).state
    (entered o i.arguments (record c { invocations = i ∷ rest; frames = [] }) (record c { invocations = rest; frames = [] }) others).config
entered_keeps m module_typed c None i rest others e is others_typed =
    let function = is.invocations.0 in
    let no : None ≡ Some function.0 = sym e ∙ function.1 in absurd (cc)
entered_keeps m module_typed c (Some function) i rest others e is others_typed =
    let known = is.invocations.0 in
    let same : known.0 ≡ function = cc in
    let arguments : AreValues function.ty.params i.arguments = subst (λ (g : Function). AreValues g.ty.params i.arguments) same known.2 in
    let frame = entered_typed m function i.arguments (module_typed.functions i.function function e) arguments in
    let frames = settled_keeps m (frame_of function i.arguments ∷ []) (function.ty, frame, tt) in
    let after : Config = record c { invocations = rest; frames = [] } in
    room_keeps m (nat_le (places (frame_of function i.arguments ∷ [])) most_values)
    (unless_left (settled (frame_of function i.arguments ∷ [])) after others) (record c { invocations = i ∷ rest; frames = [] })
    (left_keeps m (settled (frame_of function i.arguments ∷ [])) after others frames.0 frames.1
    (λ typed. record { globals = is.globals; table = is.table; memory = is.memory; invocations = is.invocations.1; frames = typed }) others_typed)

-- entering the functions that are still to be entered
pub enter_keeps : (m : Parts) → IsTypedModule m → (c : Config) (list : List Invocation) → IsTyped m [] (record c { invocations = list; frames = [] }) →
    IsTypedAt m (enter_next m c list).state (enter_next m c list).config
enter_keeps m module_typed c [] is = tt
enter_keeps m module_typed c (i ∷ rest) is =
    entered_keeps m module_typed c (own_function m i.function) i rest (enter_next m c rest) refl is
    (enter_keeps m module_typed c rest
    (record { globals = is.globals; table = is.table; memory = is.memory; invocations = is.invocations.1; frames = tt }))

-- exits, and entering where no frame is left
pub settle_keeps : (m : Parts) → IsTypedModule m → (c : Config) → IsTyped m [] c → IsTypedAt m (settle m c).state (settle m c).config
unfolding settle
settle_keeps m module_typed c is =
    let frames = settled_keeps m c.frames is.frames in
    left_keeps m (settled c.frames) c (enter_next m c c.invocations) frames.0 frames.1
    (λ typed. with_typed m [] [] c (settled c.frames) is typed)
    (enter_keeps m module_typed c c.invocations
    (record { globals = is.globals; table = is.table; memory = is.memory; invocations = is.invocations; frames = tt }))
