use Rattle.std.specs.Prelude.{◌≡◌, ◌⊎◌, ◌≢◌, ℕ, ◌<◌, ◌≤◌, List, [], ◌∷◌, ◌++◌, length, Bool, true, false, nat_eq, Result, OnOk, if◌then◌else◌}
use Rattle.std.proofs.Common.{sym, ◌∙◌, ap, inl, inr, set}
use Rattle.std.proofs.Math.Path.{fun_ext}
use Rattle.std.proofs.lemmas.Bool.Decides.{eqb_tells}
use Rattle.std.proofs.lemmas.Result.{on_ok_weaker}
use Rattle.host_port.specs.declared.request.Request.{Request}
use Rattle.host_port.specs.declared.reply.Reply.{Reply}
use Rattle.world_rules.specs.Arrivals.{What}
use Rattle.world_rules.specs.World.{World, Process, put, with_process, is_home}
use Rattle.world_rules.specs.Changes.{with_arrival, readied, answered, replied}
use Rattle.plain_world.specs.declared.process.PlainProcess.{PlainProcess}
use Rattle.plain_world.specs.ShownProcess.{nobody, shown_process, process_in}
use Rattle.plain_world.proofs.Places.{look_past, look_set, look_push, look_push_nothing, same_function}

-- The list of processes, and what it shows.

pub process_past : (ps : List PlainProcess) (pid : ℕ) → length ps ≤ pid → process_in ps pid ≡ nobody
process_past ps pid past = look_past shown_process nobody ps pid past

pub process_set : (ps : List PlainProcess) (pid : ℕ) (p : PlainProcess) → pid < length ps →
    process_in (set ps pid p) ≡ put (process_in ps) pid (shown_process p)
process_set ps pid p within = look_set shown_process nobody ps pid p within

pub process_push : (ps : List PlainProcess) (p : PlainProcess) →
    process_in (ps ++ p ∷ []) ≡ put (process_in ps) (length ps) (shown_process p)
process_push ps p = look_push shown_process nobody ps p

pub process_push_nobody : (ps : List PlainProcess) (p : PlainProcess) → shown_process p ≡ nobody →
    process_in (ps ++ p ∷ []) ≡ process_in ps
process_push_nobody ps p is = look_push_nothing shown_process nobody ps p is

-- nobody is taken out where nobody was
pub process_none : (ps : List PlainProcess) (pid : ℕ) → length ps ≤ pid → process_in ps ≡ put (process_in ps) pid nobody
process_none ps pid past = same_function (process_in ps) pid nobody (process_past ps pid past)

-- of two processes put in one place the later counts
pub put_over : (processes : ℕ → Process) (pid : ℕ) (first second : Process) →
    put (put processes pid first) pid second ≡ put processes pid second
put_over processes pid first second = fun_ext (λ other. by other (eqb_tells other pid))
  where
    by : (other : ℕ) → ((nat_eq other pid ≡ true) × (other ≡ pid)) ⊎ ((nat_eq other pid ≡ false) × (other ≢ pid)) →
        put (put processes pid first) pid second other ≡ put processes pid second other
    by other (inl h) =
        ap (λ (b : Bool). if b then second else put processes pid first other) h.0
        ∙ sym (ap (λ (b : Bool). if b then second else processes other) h.0)
    by other (inr h) =
        ap (λ (b : Bool). if b then second else (if b then first else processes other)) h.0
        ∙ sym (ap (λ (b : Bool). if b then second else processes other) h.0)

-- a process that was taken out is put back changed
pub put_back : (w left new : World) (pid : ℕ) (p : Process) → left ≡ with_process w pid nobody →
    new ≡ with_process left pid p → new ≡ with_process w pid p
put_back w left new pid p out back =
    back ∙ ap (λ (v : World). with_process v pid p) out
    ∙ ap (λ (ps : ℕ → Process). record w { process = ps }) (put_over w.process pid nobody p)

-- a process replaced in a list that shows the same
pub process_replaced : (ps filled : List PlainProcess) (pid : ℕ) (p put_in : PlainProcess) → pid < length filled →
    process_in filled ≡ process_in ps → put_in ≡ p →
    process_in (set filled pid put_in) ≡ put (process_in ps) pid (shown_process p)
process_replaced ps filled pid p put_in within same is =
    process_set filled pid put_in within
    ∙ ap (λ (f : ℕ → Process). put f pid (shown_process put_in)) same
    ∙ ap (λ (q : PlainProcess). put (process_in ps) pid (shown_process q)) is

-- a process more, behind a list that shows the same
pub process_pushed : (ps filled new : List PlainProcess) (pid : ℕ) (p : PlainProcess) → new ≡ filled ++ p ∷ [] →
    length filled ≡ pid → process_in filled ≡ process_in ps →
    process_in new ≡ put (process_in ps) pid (shown_process p)
process_pushed ps filled new pid p is long same =
    ap process_in is ∙ process_push filled p
    ∙ ap (λ (n : ℕ). put (process_in filled) n (shown_process p)) long
    ∙ ap (λ (f : ℕ → Process). put f pid (shown_process p)) same

pub put_changed : (w left new : World) (pid : ℕ) (taken p : Process) (change : Process → Process) → taken ≡ w.process pid →
    left ≡ with_process w pid nobody → p ≡ change taken → new ≡ with_process left pid p →
    new ≡ with_process w pid (change (w.process pid))
put_changed w left new pid taken p change same out is back =
    put_back w left new pid p out back ∙ ap (λ (q : Process). with_process w pid q) (is ∙ ap change same)

-- the same, where the call that puts it back is the last one
pub put_changed_ok : {T E : Type 0} (r : Result T E) (w left new : World) (pid : ℕ) (taken p : Process)
    (change : Process → Process) → taken ≡ w.process pid → left ≡ with_process w pid nobody → p ≡ change taken →
    OnOk r (new ≡ with_process left pid p) → OnOk r (new ≡ with_process w pid (change (w.process pid)))
put_changed_ok r w left new pid taken p change same out is back =
    on_ok_weaker r (λ one. put_changed w left new pid taken p change same out is one) back

-- a call behind others
pub ok_after : {T E : Type 0} (r : Result T E) (f : World → World) (new middle old : World) → middle ≡ old →
    OnOk r (new ≡ f middle) → OnOk r (new ≡ f old)
ok_after r f new middle old is ok = on_ok_weaker r (λ one. one ∙ ap f is) ok

-- a process at home is answered
pub answered_home : (w : World) (pid : ℕ) (request : Request) (reply : Reply) (what : What) →
    is_home (w.process pid).stage ≡ true →
    answered w pid request reply what
    ≡ with_arrival (with_process w pid (readied (w.process pid) request reply)) pid what
answered_home w pid request reply what home =
    ap (λ (b : Bool). if b
    then with_arrival (with_process w pid (readied (w.process pid) request reply)) pid what
    else w) home

-- a reply behind others
pub reply_after : {T E : Type 0} (r : Result T E) (new middle old : World) (pid : ℕ) (request : Request) (given reply : Reply) →
    middle ≡ old → given ≡ reply → OnOk r (new ≡ replied middle pid request given) →
    OnOk r (new ≡ replied old pid request reply)
reply_after r new middle old pid request given reply is same ok =
    on_ok_weaker r
    (λ one. one ∙ ap (λ (v : World). replied v pid request given) is ∙ ap (λ (x : Reply). replied old pid request x) same) ok
