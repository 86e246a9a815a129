-- Lemmas on the calls of a run: more calls, a reply, and fewer instructions. They stand here for the crates above.
use Rattle.std.proofs.Common.{◌≡◌, ◌≢◌, ◌≤◌, ◌<◌, ℕ, zero, suc, ◌+◌, ◌-◌, List, [], ◌∷◌, ◌++◌, Option, Some, None, true, false, Bool, cond, nat_eq, option_map, option_and_then, arith, refl, sym, ◌∙◌, ap, append_assoc}
use Rattle.std.proofs.lemmas.Bool.Decides.{nat_tests}
use Rattle.std.specs.Cmp.Lexicographic.{pointwise}
use Rattle.host_port.specs.Areas.{request_of}
use Rattle.host_port.specs.Standing.{State, Ready, Asking, Finished, Trapped, Exhausted}
use Rattle.host_port.specs.declared.ask.Ask.{Ask}
use Rattle.host_port.specs.declared.call.Call.{Call}
use Rattle.host_port.specs.declared.request.Request.{Request}
use Rattle.host_port.specs.declared.reply.Reply.{Reply}
use Rattle.host_port.specs.declared.start.Start.{Start}
use Rattle.host_port.specs.declared.stop.Spent.{Spent}
use Rattle.host_port.specs.declared.stop.Spent.TheVariants as limit
use Rattle.wasm_form.specs.declared.parts.Parts.{Parts}
use Rattle.tree_machine.specs.Functions.{Function, own_function}
use Rattle.tree_machine.specs.Config.{Config, Frame, Invocation, bytes_of}
use Rattle.tree_machine.specs.Exits.{settled}
use Rattle.tree_machine.specs.Point.{Point, point, unless_left, entered, enter_next, settle}
use Rattle.tree_machine.specs.Step.{step}
use Rattle.tree_machine.specs.Replies.{same_truth, same_request, replied}
use Rattle.tree_machine.specs.Begin.{begun}
use Rattle.tree_machine.specs.Run.{Course, course, answer, answered, advance, advanced, run, all_used, point_at}
use Rattle.tree_machine.specs.RunLaws.{at_point, point_of, answer_none}

-- the run waits for no reply
abbrev pub Rests : State → Type 0
Rests s = (ask : Ask) → s ≢ Asking ask

left_rests : (frames : List Frame) (c : Config) (goes : Point) → Rests goes.state → Rests (unless_left frames c goes).state
left_rests [] c goes rests = rests
left_rests (f ∷ below) c goes rests = λ ask e. absurd (cc)

room_rests : (room : Bool) (p q : Point) → Rests p.state → Rests q.state → Rests (cond room p q).state
room_rests true p q one two = one
room_rests false p q one two = two

exhausted_rests : (spent : Spent) → Rests (Exhausted spent)
exhausted_rests spent ask e = absurd (cc)

entered_rests : (function : Option Function) (arguments : List ℕ) (before after : Config) (others : Point) →
    Rests others.state → Rests (entered function arguments before after others).state
entered_rests None arguments before after others rests = λ ask e. absurd (cc)
entered_rests (Some function) arguments before after others rests =
    room_rests _ _ _ (left_rests _ after others rests) (exhausted_rests limit.Values)

pub next_rests : (m : Parts) (c : Config) (list : List Invocation) → Rests (enter_next m c list).state
next_rests m c [] = λ ask e. absurd (cc)
next_rests m c (i ∷ rest) =
    entered_rests (own_function m i.function) i.arguments _ _ (enter_next m c rest) (next_rests m c rest)

-- after exits no reply is awaited
pub settle_rests : (m : Parts) (c : Config) → Rests (settle m c).state
unfolding settle
settle_rests m c = left_rests (settled c.frames) c _ (next_rests m c c.invocations)

mapped_rests : (m : Parts) (f : List ℕ → Config) (o : Option (List ℕ)) (p : Point) →
    option_map (λ bytes. settle m (f bytes)) o ≡ Some p → Rests p.state
mapped_rests m f None p h = absurd (cc)
mapped_rests m f (Some bytes) p h =
    let same : settle m (f bytes) ≡ p = cc in
    λ ask e. settle_rests m (f bytes) ask (ap (λ (q : Point). q.state) same ∙ e)

pub replied_rests : (m : Parts) (c : Config) (reply : Reply) (p : Point) → replied m c reply ≡ Some p → Rests p.state
unfolding replied
replied_rests m c reply p h = mapped_rests m _ _ p h

resting : (m : Parts) (s : State) (c : Config) (calls : List Call) → Rests s → answer m s c calls ≡ Some (course calls (point s c))
resting m Ready c calls rests = refl
resting m (Asking ask) c calls rests = absurd (rests ask refl)
resting m Finished c calls rests = refl
resting m (Trapped trap) c calls rests = refl
resting m (Exhausted spent) c calls rests = refl

-- a run that stands there with these calls left, where more calls follow
abbrev pub extend : Parts → Point → (left more : List Call) → Option Course
extend m p [] more = answered m more p
extend m p (call ∷ left) more = Some (course (call ∷ (left ++ more)) p)

extend_resting : (m : Parts) (p : Point) (left more : List Call) → Rests p.state → extend m p left more ≡ Some (course (left ++ more) p)
extend_resting m p [] more rests = resting m p.state p.config more rests
extend_resting m p (call ∷ left) more rests = refl

pub course_is : (a b : List Call) (p q : Point) → Some (course a p) ≡ Some (course b q) → (a ≡ b) × (p ≡ q)
course_is a b p q h =
    let same : course a p ≡ course b q = cc in
    (ap (λ (r : Course). r.left) same, ap (λ (r : Course). r.place) same)

pub answered_is : (b : Bool) (o : Option Point) (rest left : List Call) (p : Point) →
    cond b (option_map (course rest) o) None ≡ Some (course left p) → (b ≡ true) × (o ≡ Some p) × (rest ≡ left)
answered_is true (Some q) rest left p h = let both = course_is rest left q p h in (refl, ap (λ (x : Point). Some x) both.1, both.0)
answered_is true None rest left p h = absurd (cc)
answered_is false o rest left p h = absurd (cc)

more_while_resting : (m : Parts) (s : State) (c : Config) (calls more left : List Call) (p : Point) → Rests s →
    Some (course calls (point s c)) ≡ Some (course left p) → Some (course (calls ++ more) (point s c)) ≡ extend m p left more
more_while_resting m s c calls more left p rests h =
    let both = course_is calls left (point s c) p h in
    let q : point s c ≡ p = both.1 in
    let l : calls ≡ left = both.0 in
    let there : Rests p.state = λ ask e. rests ask (ap (λ (x : Point). x.state) q ∙ e) in
    ap (λ (x : List Call). Some (course (x ++ more) (point s c))) l ∙ ap (λ (x : Point). Some (course (left ++ more) x)) q
    ∙ sym (extend_resting m p left more there)

-- what more calls add to an answer
answer_more : (m : Parts) (s : State) (c : Config) (calls more left : List Call) (p : Point) →
    answer m s c calls ≡ Some (course left p) → answer m s c (calls ++ more) ≡ extend m p left more
answer_more m Ready c calls more left p h = more_while_resting m Ready c calls more left p (λ ask e. absurd (cc)) h
answer_more m Finished c calls more left p h = more_while_resting m Finished c calls more left p (λ ask e. absurd (cc)) h
answer_more m (Trapped trap) c calls more left p h = more_while_resting m (Trapped trap) c calls more left p (λ ask e. absurd (cc)) h
answer_more m (Exhausted spent) c calls more left p h = more_while_resting m (Exhausted spent) c calls more left p (λ ask e. absurd (cc)) h
answer_more m (Asking ask) c [] more left p h =
    let both = course_is [] left (point (Asking ask) c) p h in
    let q : p ≡ point (Asking ask) c = sym both.1 in
    let l : left ≡ [] = sym both.0 in
    rw (q, l) refl
answer_more m (Asking ask) c (call ∷ rest) more left p h =
    let is = answered_is (same_request call.request (request_of (bytes_of c.memory) ask)) (replied m c call.reply) rest left p h in
    let b = is.0 in
    let o = is.1 in
    rw (b, o) (ap (λ (x : List Call). Some (course (x ++ more) p)) is.2 ∙ sym (extend_resting m p left more (replied_rests m c call.reply p o)))

-- a run that goes on by one instruction: it was ready, a step leads on, and what that asks is answered
pub record Advances (m : Parts) (s : State) (c : Config) (calls left : List Call) (p : Point) : Type 0 where
  pub ready : s ≡ Ready
  pub next : Point
  pub steps : step m c ≡ Some next
  pub answers : answered m calls next ≡ Some (course left p)

pub and_then_is : {A B : Type 0} (f : A → Option B) (o : Option A) (y : B) → option_and_then f o ≡ Some y → (x : A) × (o ≡ Some x) × (f x ≡ Some y)
and_then_is f None y h = absurd (cc)
and_then_is f (Some x) y h = (x, refl, h)

pub advance_is : (m : Parts) (s : State) (c : Config) (calls left : List Call) (p : Point) →
    advance m s c calls ≡ Some (course left p) → Advances m s c calls left p
advance_is m Ready c calls left p h =
    let is = and_then_is (answered m calls) (step m c) (course left p) h in
    record { ready = refl; next = is.0; steps = is.1; answers = is.2 }
advance_is m (Asking ask) c calls left p h = absurd (cc)
advance_is m Finished c calls left p h = absurd (cc)
advance_is m (Trapped trap) c calls left p h = absurd (cc)
advance_is m (Exhausted spent) c calls left p h = absurd (cc)

advance_by : (m : Parts) (s : State) (c : Config) (calls : List Call) (q : Point) → s ≡ Ready → step m c ≡ Some q →
    advance m s c calls ≡ answered m calls q
advance_by m s c calls q ready steps = rw (ready, steps) refl

ready_rests : (s : State) → s ≡ Ready → Rests s
ready_rests s ready ask e = absurd (cc)

-- a run with more calls
pub run_more : (m : Parts) (start : Start) (calls more : List Call) (n : ℕ) (left : List Call) (p : Point) →
    run m start calls n ≡ Some (course left p) → run m start (calls ++ more) n ≡ extend m p left more
unfolding run
run_more m start calls more zero left p h = answer_more m (begun m start).state (begun m start).config calls more left p h
run_more m start calls more (suc n) left p h =
    let before = and_then_is (advanced m) (run m start calls n) (course left p) h in
    let r = before.0 in
    let is = advance_is m r.place.state r.place.config r.left left p before.2 in
    let on : run m start (calls ++ more) n ≡ Some (course (r.left ++ more) r.place) =
    run_more m start calls more n r.left r.place before.1
    ∙ extend_resting m r.place r.left more (ready_rests r.place.state is.ready) in
    ap (option_and_then (advanced m)) on
    ∙ advance_by m r.place.state r.place.config (r.left ++ more) is.next is.ready is.steps
    ∙ answer_more m is.next.state is.next.config r.left more left p is.answers

same_number : (n : ℕ) → nat_eq n n ≡ true
same_number n = grind (arith, nat_tests)

same_numbers : (ns : List ℕ) → pointwise nat_eq ns ns ≡ true
same_numbers [] = refl
same_numbers (n ∷ ns) = let one = same_number n in let others = same_numbers ns in rw (one, others) refl

same_truths : (b : Bool) → same_truth b b ≡ true
same_truths true = refl
same_truths false = refl

-- a request is the same as itself
pub same_requests : (r : Request) → same_request r r ≡ true
unfolding same_request
same_requests r =
    let call = same_number r.ask.call in
    let args = same_numbers r.ask.args in
    let fits = same_truths r.fits in
    let first = same_numbers r.first in
    let second = same_numbers r.second in
    rw (call, args, fits, first, second) refl

used_of : (o : Option Point) → option_and_then all_used (option_map (course []) o) ≡ o
used_of None = refl
used_of (Some p) = refl

-- where a run is at an ask, it takes the reply
pub takes_reply : (m : Parts) (start : Start) (calls : List Call) (n : ℕ) (ask : Ask) (c : Config) (reply : Reply) →
    point_at m start calls n ≡ Some (point (Asking ask) c) →
    point_at m start (calls ++ record { request = request_of (bytes_of c.memory) ask; reply = reply } ∷ []) n ≡ replied m c reply
takes_reply m start calls n ask c reply here =
    let is = at_point m start calls n (point (Asking ask) c) here in
    let call : Call = record { request = request_of (bytes_of c.memory) ask; reply = reply } in
    let same : same_request call.request (request_of (bytes_of c.memory) ask) ≡ true = same_requests (request_of (bytes_of c.memory) ask) in
    let more : run m start (calls ++ call ∷ []) n ≡ option_map (course []) (replied m c reply) =
    run_more m start calls (call ∷ []) n [] (point (Asking ask) c) is.runs ∙ rw same refl in
    point_of m start (calls ++ call ∷ []) n _ is.begins is.fueled more ∙ used_of (replied m c reply)

-- the calls that a run has used are the first of its calls
pub record HasUsed (m : Parts) (start : Start) (calls : List Call) (n : ℕ) (left : List Call) (p : Point) : Type 0 where
  pub first : List Call
  pub are : calls ≡ first ++ left
  pub runs : run m start first n ≡ Some (course [] p)

record Uses (m : Parts) (s : State) (c : Config) (calls left : List Call) (p : Point) : Type 0 where
  first : List Call
  are : calls ≡ first ++ left
  answers : answer m s c first ≡ Some (course [] p)

uses_none : (m : Parts) (s : State) (c : Config) (calls left : List Call) (p : Point) →
    Some (course calls (point s c)) ≡ Some (course left p) → Uses m s c calls left p
uses_none m s c calls left p h =
    let both = course_is calls left (point s c) p h in
    record { first = []; are = both.0; answers = answer_none m s c ∙ ap (λ (x : Point). Some (course [] x)) both.1 }

answer_uses : (m : Parts) (s : State) (c : Config) (calls left : List Call) (p : Point) →
    answer m s c calls ≡ Some (course left p) → Uses m s c calls left p
answer_uses m Ready c calls left p h = uses_none m Ready c calls left p h
answer_uses m Finished c calls left p h = uses_none m Finished c calls left p h
answer_uses m (Trapped trap) c calls left p h = uses_none m (Trapped trap) c calls left p h
answer_uses m (Exhausted spent) c calls left p h = uses_none m (Exhausted spent) c calls left p h
answer_uses m (Asking ask) c [] left p h = uses_none m (Asking ask) c [] left p h
answer_uses m (Asking ask) c (call ∷ rest) left p h =
    let is = answered_is (same_request call.request (request_of (bytes_of c.memory) ask)) (replied m c call.reply) rest left p h in
    let b = is.0 in
    let o = is.1 in
    record { first = call ∷ []; are = ap (λ (x : List Call). call ∷ x) is.2; answers = rw (b, o) refl }

-- a run with calls left is one with fewer calls
pub run_uses : (m : Parts) (start : Start) (calls : List Call) (n : ℕ) (left : List Call) (p : Point) →
    run m start calls n ≡ Some (course left p) → HasUsed m start calls n left p
unfolding run
run_uses m start calls zero left p h =
    let is = answer_uses m (begun m start).state (begun m start).config calls left p h in
    record { first = is.first; are = is.are; runs = is.answers }
run_uses m start calls (suc n) left p h =
    let before = and_then_is (advanced m) (run m start calls n) (course left p) h in
    let r = before.0 in
    let is = advance_is m r.place.state r.place.config r.left left p before.2 in
    let used = run_uses m start calls n r.left r.place before.1 in
    let last = answer_uses m is.next.state is.next.config r.left left p is.answers in
    let on : run m start (used.first ++ last.first) n ≡ Some (course last.first r.place) =
    run_more m start used.first last.first n [] r.place used.runs ∙ resting m r.place.state r.place.config last.first (ready_rests r.place.state is.ready) in
    record {
      first = used.first ++ last.first;
      are = used.are ∙ ap (λ (x : List Call). used.first ++ x) last.are ∙ sym (append_assoc used.first last.first left);
      runs = ap (option_and_then (advanced m)) on
          ∙ advance_by m r.place.state r.place.config last.first is.next is.ready is.steps ∙ last.answers;
    }

-- a run that has gone on was ready, one instruction before and at fewer
record IsReadyAt (m : Parts) (start : Start) (calls : List Call) (k : ℕ) : Type 0 where
  config : Config
  others : List Call
  runs : run m start calls k ≡ Some (course others (point Ready config))

ready_course : (r : Course) → r.place.state ≡ Ready → Some r ≡ Some (course r.left (point Ready r.place.config))
ready_course r ready = ap (λ (s : State). Some (course r.left (point s r.place.config))) ready

ready_one_before : (m : Parts) (start : Start) (calls : List Call) (k : ℕ) (left : List Call) (p : Point) →
    run m start calls (suc k) ≡ Some (course left p) → IsReadyAt m start calls k
unfolding run
ready_one_before m start calls k left p h =
    let before = and_then_is (advanced m) (run m start calls k) (course left p) h in
    let r = before.0 in
    let is = advance_is m r.place.state r.place.config r.left left p before.2 in
    record { config = r.place.config; others = r.left; runs = before.1 ∙ ready_course r is.ready }

ready_before : (m : Parts) (start : Start) (calls : List Call) (k d n : ℕ) (left : List Call) (p : Point) → n ≡ k + suc d →
    run m start calls n ≡ Some (course left p) → IsReadyAt m start calls k
ready_before m start calls k zero n left p e h =
    let next : n ≡ suc k = omega arith in
    ready_one_before m start calls k left p (ap (run m start calls) (sym next) ∙ h)
ready_before m start calls k (suc d) n left p e h =
    let next : n ≡ suc (k + suc d) = omega arith in
    let is = ready_one_before m start calls (k + suc d) left p (ap (run m start calls) (sym next) ∙ h) in
    ready_before m start calls k d (k + suc d) is.others (point Ready is.config) refl is.runs

-- at fewer instructions a run with the first of the calls is ready
pub record WasReady (m : Parts) (start : Start) (calls : List Call) (n : ℕ) : Type 0 where
  pub first : List Call
  pub others : List Call
  pub config : Config
  pub are : calls ≡ first ++ others
  pub there : point_at m start first n ≡ Some (point Ready config)

pub was_ready : (m : Parts) (start : Start) (calls : List Call) (n k : ℕ) (p : Point) →
    point_at m start calls n ≡ Some p → k < n → WasReady m start calls k
was_ready m start calls n k p here less =
    let is = at_point m start calls n p here in
    let gap : n ≡ k + suc (n - k - 1) = omega arith in
    let before = ready_before m start calls k (n - k - 1) n [] p gap is.runs in
    let used = run_uses m start calls k before.others (point Ready before.config) before.runs in
    let fuel : n ≤ start.limits.fuel = is.fueled in
    record {
      first = used.first;
      others = before.others;
      config = before.config;
      are = used.are;
      there = point_of m start used.first k _ is.begins (omega arith) used.runs;
    }
