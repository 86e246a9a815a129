-- Where a run stands is unchanged by leaving one ended list and by returning from one function.
use Rattle.std.proofs.Common.{◌≡◌, ℕ, List, [], ◌∷◌, ◌++◌, refl, sym, ◌∙◌, ap}
use Rattle.wasm_form.specs.declared.parts.Parts.{Parts}
use Rattle.wasm_form.specs.Trees.{Code, Empty}
use Rattle.tree_machine.specs.Functions.{own_function}
use Rattle.tree_machine.specs.Config.{Cont, Frame, Config, Invocation, with_frames}
use Rattle.tree_machine.specs.Exits.{unless_ended, leave_lists, unless_returned, return_to, settled}
use Rattle.flat_machine.specs.Ends.{frame_with, given}
use Rattle.tree_machine.specs.Point.{Point, unless_left, entered, enter_next, settle}

-- what is made of a frame whose ended lists are left
abbrev after_lists : Frame → List Frame → List Frame
after_lists f below = unless_returned f.conts (f ∷ below) (return_to f.operands below)

left_list : (locals operands : List ℕ) (code : Code) (k : Cont) (ks : List Cont) → code ≡ Empty →
    unless_ended code (record { locals = locals; operands = operands; conts = k ∷ ks }) (leave_lists locals (operands ++ k.under) ks) ≡
    leave_lists locals (operands ++ k.under) ks
left_list locals operands code k ks e =
    ap (λ (x : Code). unless_ended x (record { locals = locals; operands = operands; conts = k ∷ ks }) (leave_lists locals (operands ++ k.under) ks)) e

-- the innermost list is over
pub settled_list : (f : Frame) (operands : List ℕ) (k : Cont) (ks : List Cont) (below : List Frame) → k.rest ≡ Empty →
    settled (frame_with operands (k ∷ ks) f ∷ below) ≡ settled (frame_with (operands ++ k.under) ks f ∷ below)
unfolding settled
settled_list f operands k ks below e = ap (λ (g : Frame). after_lists g below) (left_list f.locals operands k.rest k ks e)

-- no list is left
pub settled_frame : (f : Frame) (operands : List ℕ) (below : List Frame) →
    settled (frame_with operands [] f ∷ below) ≡ settled (given operands below)
unfolding settled
settled_frame f operands [] = refl
settled_frame f operands (g ∷ below) = refl

entered_same : (m : Parts) (c : Config) (frames : List Frame) (invocations : List Invocation) →
    enter_next m (with_frames frames c) invocations ≡ enter_next m c invocations
entered_same m c frames [] = refl
entered_same m c frames (i ∷ rest) =
    ap (λ (p : Point). entered (own_function m i.function) i.arguments (record c { invocations = i ∷ rest; frames = [] })
    (record c { invocations = rest; frames = [] }) p)
    (entered_same m c frames rest)

pub left_same : (c : Config) (frames others : List Frame) (goes : Point) → unless_left others (with_frames frames c) goes ≡ unless_left others c goes
left_same c frames [] goes = refl
left_same c frames (f ∷ below) goes = refl

pub settles_to : (m : Parts) (c : Config) (frames : List Frame) →
    settle m (with_frames frames c) ≡ unless_left (settled frames) c (enter_next m c c.invocations)
unfolding settle
settles_to m c frames =
    left_same c frames (settled frames) (enter_next m (with_frames frames c) c.invocations)
    ∙ ap (λ (p : Point). unless_left (settled frames) c p) (entered_same m c frames c.invocations)

-- where a run stands hangs on the frames after exits alone
pub settle_by : (m : Parts) (c : Config) (one two : List Frame) → settled one ≡ settled two →
    settle m (with_frames one c) ≡ settle m (with_frames two c)
settle_by m c one two e =
    settles_to m c one ∙ ap (λ (frames : List Frame). unless_left frames c (enter_next m c c.invocations)) e ∙ sym (settles_to m c two)

-- leaving the innermost list, which is over
pub settle_list : (m : Parts) (c : Config) (f : Frame) (operands : List ℕ) (k : Cont) (ks : List Cont) (below : List Frame) → k.rest ≡ Empty →
    settle m (with_frames (frame_with operands (k ∷ ks) f ∷ below) c) ≡ settle m (with_frames (frame_with (operands ++ k.under) ks f ∷ below) c)
settle_list m c f operands k ks below e =
    settle_by m c (frame_with operands (k ∷ ks) f ∷ below) (frame_with (operands ++ k.under) ks f ∷ below) (settled_list f operands k ks below e)

-- returning from a function none of whose lists is left
pub settle_frame : (m : Parts) (c : Config) (f : Frame) (operands : List ℕ) (below : List Frame) →
    settle m (with_frames (frame_with operands [] f ∷ below) c) ≡ settle m (with_frames (given operands below) c)
settle_frame m c f operands below =
    settle_by m c (frame_with operands [] f ∷ below) (given operands below) (settled_frame f operands below)
