use Rattle.std.proofs.Common.{◌≡◌, ℕ, ◌+◌, ◌<◌, ◌≤◌, List, [], ◌∷◌, ◌++◌, length, Option, Some, None, Bool, true, false, cond, option_map, nat_le, ◌&&◌, max, append-nil, refl, sym, ◌∙◌, ap, subst, arith}
use Rattle.std.proofs.lemmas.Bool.Decides.{nat_tests}
use Rattle.host_port.specs.declared.ask.Ask.{Ask}
use Rattle.host_port.specs.declared.request.Request.{Request}
use Rattle.host_port.specs.Areas.{request_of}
use Rattle.world_rules.specs.declared.entry.Entry.{Entry}
use Rattle.world_rules.specs.declared.entry.Entry.TheVariants.{Tick}
use Rattle.world_rules.specs.Arrivals as Came
use Rattle.world_rules.specs.Book.{Book}
use Rattle.world_rules.specs.Calls.{call_of}
use Rattle.world_rules.specs.World.{World, Process, Stage, Unborn, Ready, Out, Waiting, Doomed, Ended, with_process, is_ready, is_ended, is_away, is_waiting}
use Rattle.world_rules.specs.Changes.{reached, readied, with_arrival}
use Rattle.world_rules.specs.Time.{late_reply, has_deadline, is_due, timed_processes, due_processes, at_time, timed_out, ticked}
use Rattle.world_rules.specs.Rules.{next, queued, with_row, ready_among, is_early, row_with}
use Rattle.world_rules.specs.Allowed.{Allowed}
use Rattle.world_rules.specs.Told.{told}
use Rattle.world_rules.specs.Sound.{IsSound}
use Rattle.world_rules.specs.Lives.{Setting, EndsAreMemories, terms_of}
use Rattle.node_state.specs.Seats.{Meaning, Seat, IsOwed, phase_by}
use Rattle.node_state.specs.Slots.{Slot, Nobody, Home, Asleep, Away, Fated, Gone, IsAsleep, SlotFits}
use Rattle.node_state.specs.Held.{Held, StandsFor, ListsReady, AreReady, IsFirstAlone, is_in, away_count}
use Rattle.node_state.specs.Fits.{IsAnswered}
use Rattle.node_state.specs.Posts.{time_at}
use Rattle.node_state.specs.Changes.{Records, Counts, WakesOne, WakesNone}
use Rattle.node_laws.proofs.ReadyList.{true_is_not_false, nat_eq_other, queued-ready, ready-all}
use Rattle.node_laws.proofs.Folds.{told-last, run-next}
use Rattle.node_laws.proofs.Goes.{Alters, all-one, slots-one, mail-one, deadlines-one, ended-stay, ends-stay, first-is, first-kept, count-alone}
use Rattle.node_laws.proofs.Takes.{longer}
use Rattle.node_laws.proofs.Ends.{owes_nothing}

-- The clock is read: a wait ends, or nobody is woken.

-- WHO WAITS WITH A DEADLINE, where process 1 is alone

some_none : {X : Type 0} (o : Option ℕ) (d : ℕ) → o ≡ Some d → o ≡ None → X
some_none o d some none = absurd cc

has_none : (p : Process) → p.deadline ≡ None → has_deadline p ≡ false
has_none p none = rw none (either (is_waiting p.stage))
  where
    either : (b : Bool) → (b && false) ≡ false
    either true = refl
    either false = refl

has_some : (p : Process) (d : ℕ) → p.deadline ≡ Some d → is_waiting p.stage ≡ true → has_deadline p ≡ true
has_some p d some waits = rw (some, waits) refl

due_some : (p : Process) (d time : ℕ) → p.deadline ≡ Some d → is_waiting p.stage ≡ true → is_due time p ≡ nat_le d time
due_some p d time some waits = rw (some, waits) refl

-- who has a deadline waits
waits_by : (p : Process) (d : ℕ) (b : Bool) → is_waiting p.stage ≡ b → (is_waiting p.stage ≡ false → p.deadline ≡ None) → p.deadline ≡ Some d → is_waiting p.stage ≡ true
waits_by p d true is untimed some = is
waits_by p d false is untimed some = some_none p.deadline d some (untimed is)

timed_alone : (w : World) → w.numbers_drawn ≡ 1 → timed_processes w ≡ cond (has_deadline (w.process 1)) (1 ∷ []) []
timed_alone w drawn = rw drawn refl

due_alone : (w : World) (now : ℕ) → w.numbers_drawn ≡ 1 → due_processes (at_time now w) ≡ cond (is_due (max w.time now) (w.process 1)) (1 ∷ []) []
due_alone w now drawn = rw drawn refl

le_true : (a b : ℕ) → a ≤ b → nat_le a b ≡ true
le_true a b h = grind (arith, nat_tests, h)

le_false : (a b : ℕ) → b < a → nat_le a b ≡ false
le_false a b h = grind (arith, nat_tests, h)

-- what a deadline of process 1 tells of the world
record IsTimed (w : World) (d : ℕ) : Type 0 where
  pub some : (w.process 1).deadline ≡ Some d
  pub waits : is_waiting (w.process 1).stage ≡ true
  pub timed : timed_processes w ≡ 1 ∷ []

timed_by : {E P : Type 0} {engines : Meaning E P} {setting : Setting P} (book : Book) (held : Held E) (d : ℕ) → IsSound (told book) → StandsFor engines setting book (told book) held
    → held.deadlines 1 ≡ Some d → IsTimed (told book) d
timed_by book held d sound keeps timed =
    let w : World = told book in
    let some : (w.process 1).deadline ≡ Some d = keeps.mirrors.deadlines 1 ∙ timed in
    let waits = waits_by (w.process 1) d (is_waiting (w.process 1).stage) refl (sound.processes.each 1).deadline some in
    record { some = some; waits = waits; timed = timed_alone w keeps.first.drawn ∙ ap (λ (b : Bool). cond b (1 ∷ []) []) (has_some (w.process 1) d some waits) }

-- nobody waits with a deadline
pub untimed : {E P : Type 0} {engines : Meaning E P} {setting : Setting P} (book : Book) (held : Held E) → StandsFor engines setting book (told book) held → held.deadlines 1 ≡ None
    → timed_processes (told book) ≡ []
untimed book held keeps none =
    let w : World = told book in
    timed_alone w keeps.first.drawn ∙ ap (λ (b : Bool). cond b (1 ∷ []) []) (has_none (w.process 1) (keeps.mirrors.deadlines 1 ∙ none))

-- process 1 alone waits with a deadline
pub timed : {E P : Type 0} {engines : Meaning E P} {setting : Setting P} (book : Book) (held : Held E) (d : ℕ) → IsSound (told book) → StandsFor engines setting book (told book) held
    → held.deadlines 1 ≡ Some d → timed_processes (told book) ≡ 1 ∷ []
timed book held d sound keeps is = (timed_by book held d sound keeps is).timed

-- which wait a time ends
pub due : {E P : Type 0} {engines : Meaning E P} {setting : Setting P} (book : Book) (held : Held E) (d now : ℕ) → IsSound (told book) → StandsFor engines setting book (told book) held
    → held.deadlines 1 ≡ Some d → due_processes (at_time now (told book)) ≡ cond (nat_le d (time_at held.time now)) (1 ∷ []) []
due book held d now sound keeps is =
    let w : World = told book in
    let t = timed_by book held d sound keeps is in
    due_alone w now keeps.first.drawn
    ∙ ap (λ (b : Bool). cond b (1 ∷ []) []) (due_some (w.process 1) d (max w.time now) t.some t.waits ∙ ap (λ (time : ℕ). nat_le d (max time now)) keeps.mirrors.time)

-- nobody but process 1 has a deadline
pub first-timed : {E P : Type 0} {engines : Meaning E P} {setting : Setting P} (book : Book) (held : Held E) (pid d : ℕ) → IsSound (told book) → StandsFor engines setting book (told book) held
    → held.deadlines pid ≡ Some d → pid ≡ 1
first-timed book held pid d sound keeps is =
    let w : World = told book in
    first-is w pid is_waiting keeps.first refl (waits_by (w.process pid) d (is_waiting (w.process pid).stage) refl (sound.processes.each pid).deadline (keeps.mirrors.deadlines pid ∙ is))

not_waiting : {X : Type 0} (stage to : Stage) → is_waiting stage ≡ true → stage ≡ to → is_waiting to ≡ false → X
not_waiting stage to waits is isnt = true_is_not_false (sym waits ∙ ap is_waiting is ∙ isnt)

ended_waits : {X : Type 0} (stage : Stage) → is_waiting stage ≡ true → is_ended stage ≡ true → X
ended_waits Unborn waits ended = true_is_not_false (sym ended)
ended_waits Ready waits ended = true_is_not_false (sym ended)
ended_waits (Out worker) waits ended = true_is_not_false (sym ended)
ended_waits (Waiting request) waits ended = true_is_not_false (sym ended)
ended_waits (Doomed worker end) waits ended = true_is_not_false (sym ended)
ended_waits (Ended end) waits ended = true_is_not_false (sym waits)

-- who waits is asleep
pub asleep-there : {E P : Type 0} (engines : Meaning E P) (programs : List P) (p : Process) (slot : Slot E) → SlotFits engines programs p slot → is_waiting p.stage ≡ true
    → (seat : Seat E) × (ask : Ask) × (slot ≡ Asleep seat ask)
asleep-there engines programs p Nobody fits waits = not_waiting p.stage Unborn waits (ap (λ (x : Process). x.stage) fits) refl
asleep-there engines programs p (Home seat) fits waits = not_waiting p.stage _ waits fits.stage refl
asleep-there engines programs p (Asleep seat ask) fits waits = (seat, ask, refl)
asleep-there engines programs p (Away worker) fits waits = not_waiting p.stage _ waits fits refl
asleep-there engines programs p (Fated worker end) fits waits = not_waiting p.stage _ waits fits refl
asleep-there engines programs p Gone fits waits = ended_waits p.stage waits fits.ended

-- process 1 is asleep where it has a deadline
pub timed-asleep : {E P : Type 0} {engines : Meaning E P} {setting : Setting P} (book : Book) (held : Held E) (d : ℕ) → IsSound (told book) → StandsFor engines setting book (told book) held
    → held.deadlines 1 ≡ Some d → (seat : Seat E) × (ask : Ask) × (held.slots 1 ≡ Asleep seat ask)
timed-asleep {engines = engines} {setting = setting} book held d sound keeps is =
    asleep-there engines setting.programs ((told book).process 1) (held.slots 1) (keeps.mirrors.slots 1) (timed_by book held d sound keeps is).waits

-- THE READY LIST

-- where process 1 isn't ready nobody is
nobody_listed : (w : World) → IsFirstAlone w → is_ready (w.process 1).stage ≡ false → (rest : List ℕ) → AreReady w.process rest → rest ≡ []
nobody_listed w first unready [] each = refl
nobody_listed w first unready (q ∷ rest) each =
    let one : q ≡ 1 = first-is w q is_ready first refl each.0 in
    true_is_not_false (sym each.0 ∙ ap (λ (k : ℕ). is_ready (w.process k).stage) one ∙ unready)

-- process 1 alone is ready after an entry before which nobody was
lists_one : (w v u : World) (p : Process) → Alters w v 1 p → is_ready p.stage ≡ true → IsFirstAlone w → w.ready ≡ [] → u.ready ≡ (queued w.ready [] v).ready → u.process ≡ v.process
    → ListsReady u (1 ∷ [])
lists_one w v u p alters ready first none is same =
    let here : is_ready (v.process 1).stage ≡ true = ap (λ (x : Process). is_ready x.stage) alters.at ∙ ready in
    let drawn : v.numbers_drawn ≡ 1 = alters.drawn ∙ first.drawn in
    record {
      same = is ∙ rw (none, drawn, here) refl;
      each = rw same (here, refl, tt);
      all = rw same (all-one w v 1 p (λ q x. is_ready x.stage ≡ true → is_in q (1 ∷ []) ≡ true) alters (λ r. refl) (λ q other r. true_is_not_false (sym r ∙ ap is_ready (first.others q other))));
    }

-- nobody changes
lists_same : (w u : World) (was is : List ℕ) → u.ready ≡ (queued w.ready [] w).ready → u.process ≡ w.process → is ≡ was → ListsReady w was → ListsReady u is
lists_same w u was is ready same_process same lists =
    let kept : ready_among w w.ready ≡ was = rw lists.same (ready-all w.process was lists.each) in
    record {
      same = ready ∙ queued-ready w.ready [] was w kept (λ q r. rw (append-nil w.ready, lists.same) (lists.all q r)) ∙ append-nil was ∙ sym same;
      each = rw (same_process, same) lists.each;
      all = rw (same_process, same) lists.all;
    }

-- A WAIT ENDS

room_tick : (m n a b : ℕ) → n ≡ m → b + 1 ≡ a → m + 2 ≤ a → n + 1 ≤ b
room_tick m n a b out room most = omega arith

-- the world after the wait of process 1 is over
abbrev late : Process → Request → Process
late p request = reached (readied p request (late_reply (call_of request))) (Came.Answered (late_reply (call_of request)))

abbrev woken : World → Request → World
woken w request =
    with_arrival (with_process w 1 (readied (w.process 1) request (late_reply (call_of request)))) 1 (Came.Answered (late_reply (call_of request)))

ticked_is : (w : World) (now : ℕ) (request : Request) → (w.process 1).stage ≡ Waiting request → due_processes (at_time now w) ≡ 1 ∷ [] → ticked w now ≡ woken (at_time now w) request
ticked_is w now request waits due_one = rw due_one (timed_is (w.process 1).stage waits)
  where
    timed_is : (stage : Stage) → stage ≡ Waiting request → timed_out stage (at_time now w) 1 ≡ woken (at_time now w) request
    timed_is stage is = rw is (rw waits refl)

row_broken : (w : World) (now : ℕ) → due_processes (at_time now w) ≡ 1 ∷ [] → row_with (is_early w now) w.row ≡ 0
row_broken w now due_one = rw due_one refl

row_longer : (w : World) (now : ℕ) → due_processes (at_time now w) ≡ [] → row_with (is_early w now) w.row ≡ w.row + 1
row_longer w now none = rw none refl

-- a request that isn't there is of no ask
nothing_owed : (f : Ask → Request) (owed : Option Ask) → option_map f owed ≡ None → owed ≡ None
nothing_owed f None none = refl
nothing_owed f (Some ask) none = let h : ⊥ = cc in absurd h

-- TICK. The wait of process 1 is over: it is at home, behind the ready list, and its engine has the late reply.
pub keeps-wake : {E P : Type 0} {engines : Meaning E P} {setting : Setting P} (old new : Book) (was is : Held E) (worker now d : ℕ) (seat : Seat E) (ask : Ask) (engine : E)
    → IsSound (told old) → StandsFor engines setting old (told old) was → was.over ≡ false
    → was.slots 1 ≡ Asleep seat ask → was.deadlines 1 ≡ Some d → d ≤ time_at was.time now
    → IsAnswered engines seat.engine (late_reply (call_of (request_of (engines.memory seat.engine) ask))) engine
    → WakesOne was is 1 (Home (record seat { engine = engine }))
    → Counts was is was.sends (time_at was.time now) 0
    → Records old new (Tick worker now) [] → was.out + 2 ≤ old.entry_room
    → StandsFor engines setting new (told new) is
keeps-wake {E = E} {engines = engines} {setting = setting} old new was is worker now d seat ask engine sound keeps going slot_is timed_is passed answered wakes counts records room =
    let w : World = told old in
    let m = keeps.mirrors in
    let entry : Entry = Tick worker now in
    let request : Request = request_of (engines.memory seat.engine) ask in
    let asleep : IsAsleep engines setting.programs (w.process 1) seat ask = subst (λ (s : Slot E). SlotFits engines setting.programs (w.process 1) s) slot_is (m.slots 1) in
    let unowed : seat.owed ≡ None = nothing_owed (request_of (engines.memory seat.engine)) seat.owed (sym asleep.seated.owed ∙ asleep.owed) in
    let t = timed_by old was d sound keeps timed_is in
    let due_one : due_processes (at_time now w) ≡ 1 ∷ [] = due old was d now sound keeps timed_is ∙ ap (λ (b : Bool). cond b (1 ∷ []) []) (le_true d (time_at was.time now) passed) in
    let v : World = woken (at_time now w) request in
    let u : World = with_row 0 (queued w.ready [] v) in
    let p : Process = late (w.process 1) request in
    let alters : Alters w v 1 p = record { at = refl; others = λ q other. rw (nat_eq_other q 1 other) refl; drawn = refl; spawns = refl; unlinked = λ a b h. h } in
    let after : Alters w u 1 p = record { at = alters.at; others = alters.others; drawn = alters.drawn; spawns = alters.spawns; unlinked = alters.unlinked } in
    let is_so : next old.births w entry ≡ u = (λ i. with_row (row_broken w now due_one i) (queued w.ready [] (ticked_is w now request asleep.stage due_one i))) in
    let unended : is_ended (w.process 1).stage ≡ false = ap is_ended asleep.stage in
    let none : was.ready ≡ [] = nobody_listed w keeps.first (ap is_ready asleep.stage) was.ready m.ready.each in
    let stay : (q : ℕ) → is_ended (w.process q).stage ≡ true → u.process q ≡ w.process q = λ q e. after.others q
    (λ same. true_is_not_false (sym e ∙ ap (λ (k : ℕ). is_ended (w.process k).stage) same ∙ unended)) in
    let zero_out : was.out ≡ 0 = sym m.out ∙ count-alone w keeps.first.drawn ∙ ap (λ (s : Stage). cond (is_away s) 1 0) asleep.stage in
    let still_out : away_count u.process u.numbers_drawn ≡ 0 = count-alone u keeps.first.drawn in
    let allowed : Allowed (Some (terms_of setting)) old.births w entry = (m.over ∙ going, rw t.timed (omega arith)) in
    rw (told-last old new entry records.births records.entries, is_so) (record {
      run = run-next setting old new entry [] records keeps.run allowed tt (ap (λ (x : World). x.spawns) is_so)
          (subst (λ (x : World). EndsAreMemories setting x.process x.exits (old.ends ++ [])) (sym is_so)
          (rw (append-nil old.ends) (ends-stay setting w.process u.process w.exits old.ends keeps.ended stay keeps.run.ends)));
      mirrors = record {
        ready = rw (wakes.ready, none) (lists_one w v u p alters refl keeps.first (m.ready.same ∙ none) refl refl);
        slots = slots-one engines setting.programs w u 1 p was is (Home (record seat { engine = engine })) (was.mail 1) None after wakes.change
            (record {
              stage = refl;
              seated = record {
                stands = λ program found. answered.stands program (w.process 1).start (w.process 1).calls (w.process 1).fuel ask asleep.seated.phase (asleep.seated.stands program found);
                start = asleep.seated.start;
                part = asleep.seated.part;
                fuel = asleep.seated.fuel;
                owed = ap (λ (o : Option Ask). option_map (request_of (engines.memory engine)) o) (sym unowed);
                phase = answered.running ∙ ap phase_by (sym unowed);
              };
              tries = owes_nothing (IsOwed (engines.memory engine) seat.part) seat.owed unowed;
            }) m.slots;
        mail = mail-one w u 1 p was is (Home (record seat { engine = engine })) None after (rw (← m.mail 1) at wakes.change) m.mail;
        deadlines = deadlines-one w u 1 p was is (Home (record seat { engine = engine })) (was.mail 1) after wakes.change m.deadlines;
        sends = m.sends ∙ sym counts.sends_are;
        time = ap (λ (time : ℕ). max time now) m.time ∙ sym counts.time_is;
        row = sym counts.row_is;
        over = m.over ∙ sym counts.over;
        out = still_out ∙ sym zero_out ∙ sym wakes.out;
        streams = m.streams ∙ sym wakes.closes.streams_are;
        closed = m.closed ∙ sym (wakes.closes.closed_are ∙ append-nil was.closed);
        unlinked = m.unlinked;
      };
      quiet = λ o. true_is_not_false (sym o ∙ counts.over ∙ going);
      room = rw (counts.over, going) (room_tick was.out is.out old.entry_room new.entry_room wakes.out records.entry_room room);
      row_bound = rw counts.row_is (omega arith);
      ended = ended-stay w.process u.process w.exits keeps.ended stay;
      first = first-kept w v 0 w.ready [] 1 p alters refl refl refl unended refl keeps.first;
    })

-- NOBODY IS WOKEN

bound_more : (row is a b : ℕ) → is ≡ row + 1 → b ≡ a + 1 → row ≤ a → is ≤ b
bound_more row is a b one more h = omega arith

early_is : (w : World) (now : ℕ) → due_processes (at_time now w) ≡ [] → ticked w now ≡ at_time now w
early_is w now none = rw none refl

-- an early TICK. The deadline of process 1 hasn't come: nobody is woken, and the row is one longer.
pub keeps-early-tick : {E P : Type 0} {engines : Meaning E P} {setting : Setting P} (old new : Book) (was is : Held E) (worker now d : ℕ)
    → IsSound (told old) → StandsFor engines setting old (told old) was → was.over ≡ false
    → was.deadlines 1 ≡ Some d → time_at was.time now < d
    → WakesNone was is → Counts was is was.sends (time_at was.time now) (was.row + 1)
    → Records old new (Tick worker now) [] → was.out + 2 ≤ old.entry_room
    → StandsFor engines setting new (told new) is
keeps-early-tick {E = E} {engines = engines} {setting = setting} old new was is worker now d sound keeps going timed_is early wakes counts records room =
    let w : World = told old in
    let m = keeps.mirrors in
    let entry : Entry = Tick worker now in
    let t = timed_by old was d sound keeps timed_is in
    let none : due_processes (at_time now w) ≡ [] = due old was d now sound keeps timed_is ∙ ap (λ (b : Bool). cond b (1 ∷ []) []) (le_false d (time_at was.time now) early) in
    let v : World = at_time now w in
    let u : World = with_row (w.row + 1) (queued w.ready [] v) in
    let is_so : next old.births w entry ≡ u = (λ i. with_row (row_longer w now none i) (queued w.ready [] (early_is w now none i))) in
    let allowed : Allowed (Some (terms_of setting)) old.births w entry = (m.over ∙ going, rw t.timed (omega arith)) in
    rw (told-last old new entry records.births records.entries, is_so) (record {
      run = run-next setting old new entry [] records keeps.run allowed tt (ap (λ (x : World). x.spawns) is_so)
          (subst (λ (x : World). EndsAreMemories setting x.process x.exits (old.ends ++ [])) (sym is_so) (rw (append-nil old.ends) keeps.run.ends));
      mirrors = record {
        ready = lists_same w u was.ready is.ready refl refl wakes.ready m.ready;
        slots = λ pid. subst (λ (s : Slot E). SlotFits engines setting.programs (w.process pid) s) (sym (wakes.slots pid)) (m.slots pid);
        mail = λ pid. m.mail pid ∙ sym (wakes.mail pid);
        deadlines = λ pid. m.deadlines pid ∙ sym (wakes.deadlines pid);
        sends = m.sends ∙ sym counts.sends_are;
        time = ap (λ (time : ℕ). max time now) m.time ∙ sym counts.time_is;
        row = ap (λ (n : ℕ). n + 1) m.row ∙ sym counts.row_is;
        over = m.over ∙ sym counts.over;
        out = m.out ∙ sym wakes.out;
        streams = m.streams ∙ sym wakes.closes.streams_are;
        closed = m.closed ∙ sym (wakes.closes.closed_are ∙ append-nil was.closed);
        unlinked = m.unlinked;
      };
      quiet = λ o. true_is_not_false (sym o ∙ counts.over ∙ going);
      room = rw (counts.over, going) (room_tick was.out is.out old.entry_room new.entry_room wakes.out records.entry_room room);
      row_bound = bound_more was.row is.row (length old.entries) (length new.entries) counts.row_is (longer old new entry [] records) keeps.row_bound;
      ended = keeps.ended;
      first = record { numbered = keeps.first.numbered; drawn = keeps.first.drawn; others = keeps.first.others; ends = keeps.first.ends; going = keeps.first.going };
    })
