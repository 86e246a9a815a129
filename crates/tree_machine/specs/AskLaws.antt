-- Lemmas that prove that a run asks only what its module may ask; the proof of that law cites files of specs/ alone.
use Rattle.std.proofs.Common.{◌≡◌, ◌+◌, ℕ, zero, suc, List, [], ◌∷◌, Option, Some, None, true, false, Bool, cond, length, nat_le, nat_lt, drop, take, reverse, slice_get, slice_set, option_map, refl, ◌∙◌, ap}
use Rattle.wasm_ops.specs.declared.trap.Trap.TheVariants as traps
use Rattle.wasm_ops.specs.Table.{width_of}
use Rattle.linear_memory.specs.Bytes.{low_bytes, written}
use Rattle.linear_memory.specs.Contents.{Contents}
use Rattle.host_port.specs.Areas.{request_of}
use Rattle.host_port.specs.Standing.{State, Ready, Asking, Finished, Trapped, Exhausted, state_of}
use Rattle.host_port.specs.declared.ask.Ask.{Ask}
use Rattle.host_port.specs.declared.call.Call.{Call}
use Rattle.host_port.specs.declared.start.Start.{Start}
use Rattle.host_port.specs.declared.stop.Spent.TheVariants as limit
use Rattle.wasm_form.specs.declared.types.FuncType.{FuncType}
use Rattle.wasm_form.specs.declared.parts.Parts.{Parts}
use Rattle.wasm_form.specs.Trees.{Code, Empty, Then, TableOf, BlockOf, LoopOf, IfOf, IfElseOf}
use Rattle.tree_machine.specs.Instructions.{Plain, plain_of}
use Rattle.tree_machine.specs.Instructions as op
use Rattle.tree_machine.specs.Functions.{Callee, Own, Host, type_of, callee_of, same_type}
use Rattle.tree_machine.specs.Config.{Config, Cont, Frame, bytes_of, frame_of, with_operands, with_frames}
use Rattle.tree_machine.specs.Outcomes.{Effect, Gives, Fails, Undefined, Outcome, Goes, Calls, Traps, Exceeds, Stuck, to_frame, to_operands}
use Rattle.tree_machine.specs.Variables.{global_set}
use Rattle.tree_machine.specs.MemoryAccess.{store}
use Rattle.tree_machine.specs.MemorySize.{grow, pages_in, grown, minus_one}
use Rattle.tree_machine.specs.Limits.{judged, places, most_values, most_frames}
use Rattle.tree_machine.specs.Calls.{invoke, call, call_typed, call_element, call_indirect}
use Rattle.tree_machine.specs.Point.{Point, point, shown, settle}
use Rattle.tree_machine.specs.Step.{execute_plain, execute, with_rest, next_of, next_in, next_among, next, stands_after, step}
use Rattle.tree_machine.specs.Replies.{same_request, replied}
use Rattle.tree_machine.specs.Begin.{begun, instance_of, invocations_of}
use Rattle.tree_machine.specs.Run.{course, answer, advanced, run, point_at, at, may_ask}
use Rattle.tree_machine.specs.RunLaws.{at_point}
use Rattle.tree_machine.specs.CallLaws.{settle_rests, next_rests, replied_rests, course_is, answered_is, and_then_is, advance_is}

-- where the host is asked, that is what the module may ask
abbrev IsAllowed : Parts → Outcome → Type 0
IsAllowed m (Goes to) = Unit {0}
IsAllowed m (Calls ask results waits) = may_ask m ask.call
IsAllowed m (Traps trap) = Unit {0}
IsAllowed m (Exceeds spent) = Unit {0}
IsAllowed m Stuck = Unit {0}

either : (m : Parts) (b : Bool) (one two : Outcome) → IsAllowed m one → IsAllowed m two → IsAllowed m (cond b one two)
either m true one two first second = first
either m false one two first second = second

frames_ask_nothing : (m : Parts) (c : Config) (below : List Frame) (e : Effect Frame) → IsAllowed m (to_frame c below e)
frames_ask_nothing m c below (Gives f) = tt
frames_ask_nothing m c below (Fails trap) = tt
frames_ask_nothing m c below Undefined = tt

operands_ask_nothing : (m : Parts) (c : Config) (f : Frame) (below : List Frame) (e : Effect (List ℕ)) → IsAllowed m (to_operands c f below e)
operands_ask_nothing m c f below (Gives operands) = tt
operands_ask_nothing m c f below (Fails trap) = tt
operands_ask_nothing m c f below Undefined = tt

global_asks_nothing : (m : Parts) (x : ℕ) (operands : List ℕ) (c : Config) (f : Frame) (below : List Frame) →
    IsAllowed m (global_set x operands c f below)
global_asks_nothing m x [] c f below = tt
global_asks_nothing m x (value ∷ operands) c f below =
    either m (nat_lt x (length c.globals))
    (Goes (record c { globals = slice_set c.globals x value; frames = with_operands operands f ∷ below })) Stuck tt tt

store_asks_nothing : (m : Parts) (code offset : ℕ) (memory : Option Contents) (operands : List ℕ) (c : Config) (f : Frame) (below : List Frame) →
    IsAllowed m (store code offset memory operands c f below)
store_asks_nothing m code offset None operands c f below = tt
store_asks_nothing m code offset (Some memory) [] c f below = tt
store_asks_nothing m code offset (Some memory) (value ∷ []) c f below = tt
store_asks_nothing m code offset (Some memory) (value ∷ address ∷ operands) c f below =
    either m (nat_le (address + offset + width_of code) (length memory.bytes))
    (Goes (record c {
      memory = Some (record memory { bytes = written memory.bytes (address + offset) (low_bytes (width_of code) value) });
      frames = with_operands operands f ∷ below;
    }))
    (Traps traps.Bounds) tt tt

grow_asks_nothing : (m : Parts) (memory : Option Contents) (operands : List ℕ) (c : Config) (f : Frame) (below : List Frame) →
    IsAllowed m (grow memory operands c f below)
grow_asks_nothing m None operands c f below = tt
grow_asks_nothing m (Some memory) [] c f below = tt
grow_asks_nothing m (Some memory) (pages ∷ operands) c f below =
    either m (nat_le (pages_in memory + pages) memory.most)
    (Goes (record c { memory = Some (grown pages memory); frames = with_operands (pages_in memory ∷ operands) f ∷ below }))
    (Goes (with_frames (with_operands (minus_one ∷ operands) f ∷ below) c)) tt tt

invoke_may : (m : Parts) (index : ℕ) (callee : Callee) (arguments : List ℕ) (c : Config) (frames : List Frame) →
    callee_of m index ≡ Some callee → IsAllowed m (invoke callee arguments c frames)
invoke_may m index (Own function) arguments c frames is =
    either m (nat_le (length frames + 1) most_frames) (Goes (with_frames (frame_of function arguments ∷ frames) c)) (Exceeds limit.Frames) tt tt
invoke_may m index (Host ty number) arguments c frames is = (index, ty, is)

call_may : (m : Parts) (index : ℕ) (callee : Option Callee) (operands : List ℕ) (c : Config) (f : Frame) (below : List Frame) →
    callee_of m index ≡ callee → IsAllowed m (call callee operands c f below)
call_may m index None operands c f below is = tt
call_may m index (Some callee) operands c f below is =
    let count = length (type_of callee).params in
    let frames = with_operands (drop count operands) f ∷ below in
    either m (nat_le count (length operands)) (invoke callee (reverse (take count operands)) c frames) Stuck
    (invoke_may m index callee (reverse (take count operands)) c frames is) tt

typed_may : (m : Parts) (index : ℕ) (ty : Option FuncType) (callee : Option Callee) (operands : List ℕ) (c : Config) (f : Frame) (below : List Frame) →
    callee_of m index ≡ callee → IsAllowed m (call_typed ty callee operands c f below)
typed_may m index None callee operands c f below is = tt
typed_may m index (Some ty) None operands c f below is = tt
typed_may m index (Some ty) (Some callee) operands c f below is =
    either m (same_type (type_of callee) ty) (call (Some callee) operands c f below) (Traps traps.WrongType)
    (call_may m index (Some callee) operands c f below is) tt

element_may : (m : Parts) (ty : ℕ) (element : Option (Option ℕ)) (operands : List ℕ) (c : Config) (f : Frame) (below : List Frame) →
    IsAllowed m (call_element m ty element operands c f below)
element_may m ty None operands c f below = tt
element_may m ty (Some None) operands c f below = tt
element_may m ty (Some (Some function)) operands c f below = typed_may m function _ _ operands c f below refl

indirect_may : (m : Parts) (ty : ℕ) (operands : List ℕ) (c : Config) (f : Frame) (below : List Frame) →
    IsAllowed m (call_indirect m ty operands c f below)
indirect_may m ty [] c f below = tt
indirect_may m ty (place ∷ operands) c f below = element_may m ty (slice_get c.table place) operands c f below

plain_may : (m : Parts) (i : Plain) (c : Config) (f : Frame) (below : List Frame) → IsAllowed m (execute_plain m i c f below)
unfolding execute_plain
plain_may m op.Unreachable c f below = tt
plain_may m op.Nop c f below = tt
plain_may m (op.Br label) c f below = frames_ask_nothing m c below _
plain_may m (op.BrIf label) c f below = frames_ask_nothing m c below _
plain_may m op.Return c f below = frames_ask_nothing m c below _
plain_may m (op.Call function) c f below = call_may m function _ f.operands c f below refl
plain_may m (op.CallIndirect ty) c f below = indirect_may m ty f.operands c f below
plain_may m op.Drop c f below = operands_ask_nothing m c f below _
plain_may m op.Select c f below = operands_ask_nothing m c f below _
plain_may m (op.LocalGet x) c f below = operands_ask_nothing m c f below _
plain_may m (op.LocalSet x) c f below = frames_ask_nothing m c below _
plain_may m (op.LocalTee x) c f below = frames_ask_nothing m c below _
plain_may m (op.GlobalGet x) c f below = operands_ask_nothing m c f below _
plain_may m (op.GlobalSet x) c f below = global_asks_nothing m x f.operands c f below
plain_may m (op.Load code offset) c f below = operands_ask_nothing m c f below _
plain_may m (op.Store code offset) c f below = store_asks_nothing m code offset c.memory f.operands c f below
plain_may m op.MemorySize c f below = operands_ask_nothing m c f below _
plain_may m op.MemoryGrow c f below = grow_asks_nothing m c.memory f.operands c f below
plain_may m (op.Const value) c f below = tt
plain_may m (op.Unary code) c f below = operands_ask_nothing m c f below _
plain_may m (op.Binary code) c f below = operands_ask_nothing m c f below _

execute_may : (m : Parts) (i : Option Plain) (c : Config) (f : Frame) (below : List Frame) → IsAllowed m (execute m i c f below)
execute_may m None c f below = tt
execute_may m (Some i) c f below = plain_may m i c f below

code_may : (m : Parts) (code : Code) (c : Config) (f : Frame) (k : Cont) (ks : List Cont) (below : List Frame) →
    IsAllowed m (next_of m code c f k ks below)
code_may m Empty c f k ks below = tt
code_may m (Then i rest) c f k ks below = execute_may m (plain_of i) c (with_rest rest f k ks) below
code_may m (TableOf labels last rest) c f k ks below = frames_ask_nothing m c below _
code_may m (BlockOf result inside rest) c f k ks below = tt
code_may m (LoopOf result inside rest) c f k ks below = tt
code_may m (IfOf result inside rest) c f k ks below = frames_ask_nothing m c below _
code_may m (IfElseOf result inside other rest) c f k ks below = frames_ask_nothing m c below _

lists_may : (m : Parts) (c : Config) (f : Frame) (ks : List Cont) (below : List Frame) → IsAllowed m (next_in m c f ks below)
lists_may m c f [] below = tt
lists_may m c f (k ∷ ks) below = code_may m k.rest c f k ks below

frames_may : (m : Parts) (c : Config) (frames : List Frame) → IsAllowed m (next_among m c frames)
frames_may m c [] = tt
frames_may m c (f ∷ below) = lists_may m c f f.conts below

judged_may : (m : Parts) (o : Outcome) → IsAllowed m o → IsAllowed m (judged o)
unfolding judged
judged_may m (Goes to) may = either m (nat_le (places to.frames) most_values) (Goes to) (Exceeds limit.Values) tt tt
judged_may m (Calls ask results waits) may =
    either m (nat_le (places waits.frames + results) most_values) (Calls ask results waits) (Exceeds limit.Values) may tt
judged_may m (Traps trap) may = tt
judged_may m (Exceeds spent) may = tt
judged_may m Stuck may = tt

-- where a point is at an ask, that is what the module may ask
abbrev MayBe : Parts → Point → Type 0
MayBe m p = (ask : Ask) → p.state ≡ Asking ask → may_ask m ask.call

asks_same : (m : Parts) (a b : Ask) → Asking a ≡ Asking b → may_ask m a.call → may_ask m b.call
asks_same m a b e may = let same : a ≡ b = cc in (may.0, may.1, may.2 ∙ ap (λ (x : Ask). Some (Host may.1 x.call)) same)

after_may : (m : Parts) (c : Config) (o : Outcome) (p : Point) → IsAllowed m o → stands_after m c o ≡ Some p → MayBe m p
after_may m c (Goes to) p may h =
    let same : settle m to ≡ p = cc in
    λ ask e. absurd (settle_rests m to ask (ap (λ (q : Point). q.state) same ∙ e))
after_may m c (Calls a results waits) p may h =
    let same : point (Asking a) waits ≡ p = cc in
    λ ask e. asks_same m a ask (ap (λ (q : Point). q.state) same ∙ e) may
after_may m c (Traps trap) p may h =
    let same : point (Trapped trap) c ≡ p = cc in
    λ ask e. let no : Trapped trap ≡ Asking ask = ap (λ (q : Point). q.state) same ∙ e in absurd (cc)
after_may m c (Exceeds spent) p may h =
    let same : point (Exhausted spent) c ≡ p = cc in
    λ ask e. let no : Exhausted spent ≡ Asking ask = ap (λ (q : Point). q.state) same ∙ e in absurd (cc)
after_may m c Stuck p may h = absurd (cc)

step_may : (m : Parts) (c : Config) (p : Point) → step m c ≡ Some p → MayBe m p
unfolding step next
step_may m c p h = after_may m c (judged (next m c)) p (judged_may m (next m c) (frames_may m c c.frames)) h

-- what is answered was at that ask before, or is at none
answer_may : (m : Parts) (s : State) (c : Config) (calls left : List Call) (p : Point) →
    answer m s c calls ≡ Some (course left p) → MayBe m (point s c) → MayBe m p
answer_may m Ready c calls left p h may =
    let same = (course_is calls left (point Ready c) p h).1 in λ ask e. may ask (ap (λ (q : Point). q.state) same ∙ e)
answer_may m Finished c calls left p h may =
    let same = (course_is calls left (point Finished c) p h).1 in λ ask e. may ask (ap (λ (q : Point). q.state) same ∙ e)
answer_may m (Trapped trap) c calls left p h may =
    let same = (course_is calls left (point (Trapped trap) c) p h).1 in λ ask e. may ask (ap (λ (q : Point). q.state) same ∙ e)
answer_may m (Exhausted spent) c calls left p h may =
    let same = (course_is calls left (point (Exhausted spent) c) p h).1 in λ ask e. may ask (ap (λ (q : Point). q.state) same ∙ e)
answer_may m (Asking a) c [] left p h may =
    let same = (course_is [] left (point (Asking a) c) p h).1 in λ ask e. may ask (ap (λ (q : Point). q.state) same ∙ e)
answer_may m (Asking a) c (call ∷ rest) left p h may =
    let is = answered_is (same_request call.request (request_of (bytes_of c.memory) a)) (replied m c call.reply) rest left p h in
    λ ask e. absurd (replied_rests m c call.reply p is.1 ask e)

run_may : (m : Parts) (start : Start) (calls : List Call) (n : ℕ) (left : List Call) (p : Point) →
    run m start calls n ≡ Some (course left p) → MayBe m p
unfolding run begun
run_may m start calls zero left p h =
    answer_may m (begun m start).state (begun m start).config calls left p h
    (λ ask e. absurd (next_rests m (instance_of m start) (invocations_of m start) ask e))
run_may m start calls (suc n) left p h =
    let before = and_then_is (advanced m) (run m start calls n) (course left p) h in
    let r = before.0 in
    let is = advance_is m r.place.state r.place.config r.left left p before.2 in
    answer_may m is.next.state is.next.config r.left left p is.answers (step_may m r.place.config is.next is.steps)

shown_state : (o : Option Point) (s : State) → state_of (option_map shown o) ≡ Some s → (p : Point) × (o ≡ Some p) × (p.state ≡ s)
shown_state None s h = absurd (cc)
shown_state (Some p) s h = (p, refl, cc)

-- a run asks only what its module may ask
pub asks_what_it_may : (m : Parts) (start : Start) (calls : List Call) (n : ℕ) (ask : Ask) →
    state_of (at m start calls n) ≡ Some (Asking ask) → may_ask m ask.call
unfolding at
asks_what_it_may m start calls n ask h =
    let some = shown_state (point_at m start calls n) (Asking ask) h in
    let is = at_point m start calls n some.0 some.1 in
    run_may m start calls n [] some.0 is.runs ask some.2
