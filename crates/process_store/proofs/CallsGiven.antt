use Rattle.std.proofs.Common.{◌≡◌, ◌≢◌, ◌⊎◌, ◌≤◌, ℕ, ◌+◌, ◌-◌, List, [], ◌∷◌, Option, Some, None, Bool, true, false, cond, length, nat_eq, if◌then◌else◌, append-nil, vec_capacity, refl, arith, sym, ◌∙◌, ap, subst, inl, inr}
use Rattle.std.proofs.Math.Logic.{∥∥₁_elim}
use Rattle.std.proofs.Math.Nat.{ℕ_set}
use Rattle.std.proofs.lemmas.Bool.Decides.{eqb_tells}
use Rattle.std.specs.Option.{option_to_list}
use Rattle.run_queue.specs.Schedule.{Schedule}
use Rattle.host_port.specs.declared.call.Call.{Call}
use Rattle.host_port.specs.declared.request.Request.{Request}
use Rattle.host_port.specs.declared.row.Kind.TheVariants as KindIs
use Rattle.host_port.specs.declared.start.Start.{Start}
use Rattle.host_port.specs.declared.start.StartRefusal.{StartRefusal}
use Rattle.host_port.specs.Standing.{Standing}
use Rattle.resource_table.specs.Handles.{numbers_of}
use Rattle.resource_table.specs.Steps.{Told}
use Rattle.world_rules.specs.declared.entry.Entry.{Entry}
use Rattle.world_rules.specs.declared.entry.Side.{Side}
use Rattle.world_rules.specs.declared.halt.Halt.TheVariants.{Asks}
use Rattle.world_rules.specs.declared.life.Birth.{Birth}
use Rattle.world_rules.specs.declared.life.Ended.{Ended as EndMemory}
use Rattle.world_rules.specs.Allowed.{Allowed}
use Rattle.world_rules.specs.Book.{Book, AddsEntry}
use Rattle.world_rules.specs.Calls.{call_of}
use Rattle.world_rules.specs.Kinds.{kind_of}
use Rattle.world_rules.specs.Lives.{Setting, terms_of}
use Rattle.world_rules.specs.Rules.{asked, given, happened, home, performed, recorded}
use Rattle.world_rules.specs.Told.{told}
use Rattle.world_rules.specs.Views.{deed_of}
use Rattle.world_rules.specs.World.{World, Stage, Out}
use Rattle.node_state.specs.Fits.{Brought, give_of, entry_of}
use Rattle.node_state.specs.Posts.{time_beside}
use Rattle.node_state.specs.Seats.{Meaning}
use Rattle.node_state.specs.Streaming.{StreamsFit, streamed_after}
use Rattle.node_mirror.specs.Slots.{Slot, Away, Giving, Gone, is_giving, is_home}
use Rattle.node_mirror.specs.Held.{Held, Mirrors, StandsFor, kept_places}
use Rattle.node_mirror.specs.Steps.{Requeued, back, replaced}
use Rattle.node_mirror.specs.Fits.{Records, TurnFits}
use Rattle.host_calls.specs.declared.proc.Proc.{Proc}
use Rattle.host_calls.specs.Shown.{brought_by, hands_of, seat_of, streams_by}
use Rattle.process_store.specs.declared.store.Store.{Store}
use Rattle.process_store.specs.Holds.{Becomes, held_of, kept_of, place_at}
use Rattle.process_store.specs.Keeps.{StoreKeeps}
use Rattle.process_store.specs.NodeKeeps.{NodeKeeps}
use Rattle.process_store.specs.PassOn.{PassesOn}
use Rattle.process_store.specs.Performing.{IsPerformed, Performs}
use Rattle.process_store.proofs.CallsAsked.{IsBeside, kind_performed, slot_here}
use Rattle.process_store.proofs.GivingBack.{GivenLaw, Steps, given_keeps, held_after, is_away_slot, mirrors_after, out_some, places_same, row_broken}
use Rattle.process_store.proofs.NodeStanding.{EntryLaw, births_stay, records_one, setting_with}
use Rattle.process_store.proofs.Passing.{passes_then_stays}
use Rattle.process_store.proofs.QueuedAgain.{IsGiver, give_requeued, gone_but}
use Rattle.process_store.proofs.StrikingAll.{mirrors_becomes}

-- A process is given back with a call of the world, which is performed.

-- what the law says of the process that has come home
abbrev pub AskLaw : {E P : Type 0} → Meaning E P → Type 0
AskLaw {E = E} {P = P} engines =
    (setting : Setting P) (old : Book) (was : Held E) (pid worker : ℕ) (brought : Brought E) (side : Side) (request : Request) →
    StandsFor engines setting old (told old) was → was.slots pid ≡ Away worker → brought.halt ≡ Asks request → kind_of request ≡ Some KindIs.World →
    TurnFits engines setting old.births (told old) worker pid brought →
    Mirrors engines setting (home (recorded (told old) (record (give_of worker pid brought) { side = side })) pid)
    (back was pid (Giving brought.seat request.ask) (time_beside side was.time) brought.shed) old.ends

-- the process has come home, and its call is to be performed
pub came_mirrors : {E O P S L : Type 0} {engines : Meaning E P} {may_ask : P → ℕ → Type 0} {tells : Told S} {setting : Setting P} → AskLaw engines → (old : Book) (s0 s1 : Store E O P S L)
    (spare worker : ℕ) (proc : Proc E O P S L) (calls : List Call) (request : Request) (side : Side) → NodeKeeps engines may_ask tells setting old s0 spare
    → ((told old).process proc.start.pid).stage ≡ Out worker → IsPerformed (call_of request)
    → TurnFits engines setting old.births (told old) worker proc.start.pid (brought_by proc calls (Asks request) side)
    → Becomes s1 (back (held_of s0) proc.start.pid (Giving (seat_of proc) request.ask) (time_beside side s0.time) (numbers_of proc.shed))
    → Mirrors engines setting (home (recorded (told old) (give_of worker proc.start.pid (brought_by proc calls (Asks request) side))) proc.start.pid) (held_of s1) old.ends
came_mirrors {engines = engines} {setting = setting} law old s0 s1 spare worker proc calls request side keeps out call fits becomes =
    let pid : ℕ = proc.start.pid in
    mirrors_becomes engines setting (home (recorded (told old) (give_of worker pid (brought_by proc calls (Asks request) side))) pid) s1
    (back (held_of s0) pid (Giving (seat_of proc) request.ask) (time_beside side s0.time) (numbers_of proc.shed)) old.ends becomes
    (law setting old (held_of s0) pid worker (brought_by proc calls (Asks request) side) side request keeps.stands (is_away_slot old s0 spare pid worker keeps out) refl
    (kind_performed request call) fits)

pub came_giving : {E O P S L : Type 0} (s0 s1 : Store E O P S L) (proc : Proc E O P S L) (request : Request) (time : ℕ)
    → Becomes s1 (back (held_of s0) proc.start.pid (Giving (seat_of proc) request.ask) time (numbers_of proc.shed)) → place_at s1 proc.start.pid ≡ Giving (seat_of proc) request.ask
came_giving s0 s1 proc request time becomes =
    ap (λ (h : Held _). h.slots proc.start.pid) becomes ∙ slot_here (held_of s0).slots proc.start.pid (Giving (seat_of proc) request.ask)

-- The steps: the process has come back, its call was performed, the row was set, and who came home was queued.
pub record CallSteps {E O P S L : Type 0} (engines : Meaning E P) (tells : Told S) (s0 s1 s2 s3 s4 : Store E O P S L) (proc : Proc E O P S L) (request : Request) (side : Side) (refused : Bool)
    : Type 0 where
  pub becomes : Becomes s1 (back (held_of s0) proc.start.pid (Giving (seat_of proc) request.ask) (time_beside side s0.time) (numbers_of proc.shed))
  pub queue : s1.queue ≡ s0.queue
  pub came_rooms : vec_capacity s1.closed ≡ vec_capacity s0.closed
  pub came_in : PassesOn tells (kept_of s0) (kept_of s1) (hands_of proc) proc.shed
  pub performs : Performs engines s1 s2 proc.start.pid request refused
  pub passes : PassesOn tells (kept_of s1) (kept_of s2) [] []
  pub rows : s3 ≡ record s2 { row = 0 }
  pub settles : Becomes s4 (held_of s3)
  pub kept : kept_of s4 ≡ kept_of s3
  pub keeps : StoreKeeps s4
  pub came : s4.came.items ≡ []
  pub giver : s4.giver ≡ None
  pub capacity : vec_capacity s4.closed ≡ vec_capacity s3.closed
  pub queued : Requeued s3.queue.ready (option_to_list s3.giver) (held_of s4)

steps_of : {E O P S L : Type 0} {engines : Meaning E P} {tells : Told S} {s0 s1 s2 s3 s4 : Store E O P S L} {proc : Proc E O P S L} {request : Request} {side : Side} {refused : Bool}
    → CallSteps engines tells s0 s1 s2 s3 s4 proc request side refused → Steps tells s0 s2 s3 s4 (held_of s2) 0 (hands_of proc) proc.shed
steps_of {tells = tells} {s0 = s0} {s1 = s1} {s2 = s2} {proc = proc} steps = record {
  becomes = refl;
  passes = passes_then_stays tells (kept_of s0) (kept_of s1) (kept_of s2) (hands_of proc) proc.shed steps.came_in steps.passes;
  rooms = steps.performs.beside.3 ∙ steps.came_rooms;
  rows = steps.rows;
  settles = steps.settles;
  kept = steps.kept;
  keeps = steps.keeps;
  came = steps.came;
  giver = steps.giver;
  capacity = steps.capacity;
}

false_by : (b : Bool) → (b ≡ true → ⊥) → b ≡ false
false_by true never = absurd (never refl)
false_by false never = refl

true_false : (b : Bool) → b ≡ true → b ≡ false → ⊥
true_false b so not_so = let e : true ≡ false = sym so ∙ not_so in cc

giver_absent : (pid : ℕ) (here : Bool) (giver : Option ℕ) → giver ≡ None → ∥ (giver ≡ Some pid) ⊎ ((giver ≡ None) × (here ≡ false)) ∥₁ → here ≡ true → ⊥
giver_absent pid here giver none how there = let e : ◌≡◌ {A = ℕ} 1 0 = ∥∥₁_elim how (ℕ_set 1 0) by in cc
  where
    by : (giver ≡ Some pid) ⊎ ((giver ≡ None) × (here ≡ false)) → ◌≡◌ {A = ℕ} 1 0
    by (inl same) = let e : ◌≡◌ {A = Option ℕ} None (Some pid) = sym none ∙ same in let h : ⊥ = cc in absurd h
    by (inr away) = absurd (true_false here there away.1)

-- who is to go behind the others
giver_by : (pid : ℕ) (here : Bool) (giver : Option ℕ) → ∥ (giver ≡ Some pid) ⊎ ((giver ≡ None) × (here ≡ false)) ∥₁ → (giver ≡ Some pid) ⊎ ((giver ≡ None) × (here ≡ false))
giver_by pid here (Some other) how = inl (ap Some (∥∥₁_elim how (ℕ_set other pid) by))
  where
    by : (Some other ≡ Some pid) ⊎ ((Some other ≡ None) × (here ≡ false)) → other ≡ pid
    by (inl same) = cc
    by (inr none) = let e = none.0 in let h : ⊥ = cc in absurd h
giver_by pid here None how = inr (refl, false_by here (giver_absent pid here None refl how))

-- one process less is out
places_fewer : (out out' room room' : ℕ) (over over' : Bool) → 1 ≤ out → out' ≡ out - 1 → over' ≡ over → room' + 1 ≡ room → kept_places out over ≤ room → kept_places out' over' ≤ room'
places_fewer out out' room room' over over' some less same one was = rw same (by over was)
  where
    by : (over : Bool) → out + cond over 0 1 ≤ room → out' + cond over 0 1 ≤ room'
    by true w = omega (arith, some, less, one, w)
    by false w = omega (arith, some, less, one, w)

one_more : (n m : ℕ) → n ≡ m → n ≤ m + 1
one_more n m same = omega (arith, same)

-- CALLED. What a node keeps after such a Give.
module _ {E O P S L : Type 0} {engines : Meaning E P} {may_ask : P → ℕ → Type 0} {tells : Told S} (begin : P → Start → Option StartRefusal) (at : P → Start → List Call → ℕ → Option Standing)
    (programs : List P) (old new : Book) (live idle : ℕ) (s0 s1 s2 s3 s4 : Store E O P S L) (spare : ℕ) (worker : ℕ) (proc : Proc E O P S L) (calls : List Call) (request : Request)
    (side beside : Side) (refused : Bool) (keeps : NodeKeeps engines may_ask tells (setting_with begin at programs old.births live idle) old s0 spare)
    (out : ((told old).process proc.start.pid).stage ≡ Out worker) (call : IsPerformed (call_of request))
    (fits : TurnFits engines (setting_with begin at programs old.births live idle) old.births (told old) worker proc.start.pid (brought_by proc calls (Asks request) side))
    (is : IsBeside (setting_with begin at programs old.births live idle) old worker proc.start.pid (brought_by proc calls (Asks request) side) refused beside)
    (adds : AddsEntry old new (entry_of worker proc.start.pid (brought_by proc calls (Asks request) side) beside))
    (steps : CallSteps engines tells s0 s1 s2 s3 s4 proc request side refused) where
  abbrev pid : ℕ
  pid = proc.start.pid

  abbrev setting : Setting P
  setting = setting_with begin at programs old.births live idle

  abbrev brought : Brought E
  brought = brought_by proc calls (Asks request) side

  abbrev entry : Entry
  entry = entry_of worker pid brought beside

  away : place_at s0 pid ≡ Away worker
  away = is_away_slot old s0 spare pid worker keeps out

  -- THE WORLD
  world_is : happened new.births (told old) (deed_of entry)
      ≡ performed new.births (call_of request) (home (recorded (told old) (record (give_of worker pid brought) { side = beside })) pid) pid request beside
  world_is =
      ap (λ (stage : Stage). given stage new.births (told old) (record (give_of worker pid brought) { side = beside })) out
      ∙ ap (λ (b : Bool). asked b new.births (home (recorded (told old) (record (give_of worker pid brought) { side = beside })) pid) pid request beside) is.pending

  mirrors_call : AskLaw engines
      → Mirrors engines setting (performed new.births (call_of request) (home (recorded (told old) (record (give_of worker pid brought) { side = beside })) pid) pid request beside)
      (held_of s4) new.ends
  mirrors_call law =
      let v : World = home (recorded (told old) (record (give_of worker pid brought) { side = beside })) pid in
      let back_home = law setting old (held_of s0) pid worker brought beside request keeps.stands away refl (kind_performed request call) fits in
      let timed = subst (λ (t : ℕ). Mirrors engines setting v (back (held_of s0) pid (Giving (seat_of proc) request.ask) t (numbers_of proc.shed)) old.ends) (is.time s0.time) back_home in
      let here = mirrors_becomes engines setting v s1 (back (held_of s0) pid (Giving (seat_of proc) request.ask) (time_beside side s0.time) (numbers_of proc.shed)) old.ends steps.becomes timed in
      let after = steps.performs.mirrors setting v old.ends new.births beside is.refusal here in
      let u : World = performed new.births (call_of request) v pid request beside in
      mirrors_after engines setting u new.ends (steps_of steps) (subst (λ (es : List EndMemory). Mirrors engines setting u (held_of s2) es) (sym adds.ends) after)

  -- THE SLOTS
  slots_back : (q : ℕ) → place_at s1 q ≡ replaced (place_at s0) pid (Giving (seat_of proc) request.ask) q
  slots_back q = ap (λ (h : Held _). h.slots q) steps.becomes

  slots_last : (q : ℕ) → place_at s4 q ≡ place_at s2 q
  slots_last q = ap (λ (h : Held _). h.slots q) (held_after (steps_of steps))

  gone_stay : (q : ℕ) → place_at s0 q ≡ Gone → place_at s4 q ≡ Gone
  gone_stay q gone = slots_last q ∙ steps.performs.stay_gone q (gone_but (held_of s0) (held_of s1) pid worker (Giving (seat_of proc) request.ask) away slots_back q gone)

  none_giving : (q : ℕ) → is_giving (place_at s4 q) ≡ false
  none_giving q = ap is_giving (slots_last q) ∙ false_by (is_giving (place_at s2 q)) (λ gives. never gives (eqb_tells q pid))
    where
      never : is_giving (place_at s2 q) ≡ true → ((nat_eq q pid ≡ true) × (q ≡ pid)) ⊎ ((nat_eq q pid ≡ false) × (q ≢ pid)) → ⊥
      never gives (inl same) = true_false (is_giving (place_at s2 q)) gives (ap (λ (n : ℕ). is_giving (place_at s2 n)) same.1 ∙ steps.performs.performed_is)
      never gives (inr other) =
          true_false (is_giving (place_at s1 q)) (steps.performs.gives_stay q gives)
          (ap is_giving (slots_back q) ∙ ap (λ (b : Bool). is_giving (if b then Giving (seat_of proc) request.ask else place_at s0 q)) other.0 ∙ keeps.stands.performed q)

  -- THE QUEUE
  giver_is : IsGiver (held_of s4) pid s2.giver
  giver_is =
      giver_by pid (is_home (place_at s4 pid)) s2.giver
      (subst (λ (s : Slot E). ∥ (s2.giver ≡ Some pid) ⊎ ((s2.giver ≡ None) × (is_home s ≡ false)) ∥₁) (sym (slots_last pid)) steps.performs.giver)

  requeued : Requeued (held_of s0).ready (pid ∷ []) (held_of s4)
  requeued =
      give_requeued s0 (held_of s4) pid s2.giver keeps.keeps keeps.stands.performed gone_stay giver_is
      (subst (λ (xs : List ℕ). Requeued xs (option_to_list s2.giver) (held_of s4)) (steps.performs.beside.2 ∙ ap (λ (q : Schedule). q.ready) steps.queue)
      (subst (λ (s : Store E O P S L). Requeued s.queue.ready (option_to_list s.giver) (held_of s4)) steps.rows steps.queued))

  -- THE COUNTS
  some_out : 1 ≤ s0.out
  some_out = out_some s0 pid worker keeps.keeps away

  out_is : s2.out ≡ s0.out - 1
  out_is = ap (λ (s : Store E O P S L). s.out) steps.performs.beside.0 ∙ ap (λ (h : Held E). h.out) steps.becomes

  over_is : s2.over ≡ s0.over
  over_is = ap (λ (s : Store E O P S L). s.over) steps.performs.beside.0 ∙ ap (λ (h : Held E). h.over) steps.becomes

  births_are : s2.births ≡ s0.births
  births_are = ap (λ (s : Store E O P S L). s.births) steps.performs.beside.0 ∙ ap (λ (h : Held E). h.births) steps.becomes

  streams_are : s2.streams ≡ s0.streams
  streams_are = ap (λ (s : Store E O P S L). s.streams) steps.performs.beside.0 ∙ ap (λ (h : Held E). h.streams) steps.becomes

  numbers_are : (held_of s4).numbers ≡ (held_of s0).numbers
  numbers_are = ap (λ (h : Held E). h.numbers) (held_after (steps_of steps)) ∙ ap (λ (n : ℕ). n - 1) steps.performs.beside.1 ∙ ap (λ (h : Held E). h.numbers) steps.becomes

  records : Records old new entry [] []
  records = records_one old new entry adds

  stands : AskLaw engines → EntryLaw engines → StandsFor engines setting new (told new) (held_of s4)
  stands ask_law entry_law =
      let after = held_after (steps_of steps) in
      let same : new.births ≡ old.births = births_stay old new entry [] records in
      entry_law setting old new (held_of s0) (held_of s4)
      (performed new.births (call_of request) (home (recorded (told old) (record (give_of worker pid brought) { side = beside })) pid) pid request beside) entry [] [] keeps.stands records
      (subst (λ (bs : List Birth). Allowed (Some (terms_of setting)) bs (told old) entry) (sym same) is.allowed) is.run world_is (mirrors_call ask_law)
      (ap (λ (h : Held E). h.births) after ∙ births_are ∙ sym keeps.stands.mirrors.births ∙ sym keeps.stands.run.legal.births ∙ ap (λ (bs : List Birth). length bs) (sym same))
      requeued (ap (λ (h : Held E). h.row) after ∙ sym (row_broken (told old) (record (give_of worker pid brought) { side = beside }) worker out is.pending)) none_giving
      (places_fewer s0.out s4.out old.entry_room new.entry_room s0.over s4.over some_out (ap (λ (h : Held E). h.out) after ∙ out_is) (ap (λ (h : Held E). h.over) after ∙ over_is) adds.entry_room
      keeps.stands.room)

  pub call_keeps : AskLaw engines → EntryLaw engines → GivenLaw engines tells
      → StreamsFit tells (streamed_after ((told old).process pid) (give_of worker pid brought) (told old).streamed) side (streams_by proc None)
      → NodeKeeps engines may_ask tells (setting_with begin at programs new.births live idle) new s4 spare
  call_keeps ask_law entry_law given_law came =
      given_keeps begin at programs old new live idle s0 s2 s3 s4 spare (held_of s2) 0 (hands_of proc) proc.shed worker pid brought (streams_by proc None) beside [] given_law keeps fits came is.how
      records (steps_of steps) (sym (append-nil (hands_of proc))) refl some_out out_is (inl over_is) (one_more s2.streams s0.streams streams_are)
      (places_same s0 s4 keeps.keeps steps.keeps numbers_are) (stands ask_law entry_law)
