use Rattle.std.proofs.Common.{◌≡◌, ◌⊎◌, ℕ, ◌≤◌, List, [], ◌∷◌, ◌++◌, Option, Some, None, Bool, true, false, cond, option_map, refl, sym, ◌∙◌, ap, subst}
use Rattle.host_port.specs.declared.ask.Ask.{Ask}
use Rattle.host_port.specs.declared.reply.Reply.{Reply}
use Rattle.host_port.specs.declared.request.Request.{Request}
use Rattle.host_port.specs.Areas.{request_of}
use Rattle.world_rules.specs.declared.life.Ended.{Ended as EndMemory}
use Rattle.world_rules.specs.Arrivals.{What}
use Rattle.world_rules.specs.Arrivals as Came
use Rattle.world_rules.specs.Calls.{HostCall, call_of}
use Rattle.world_rules.specs.Calls as CallIs
use Rattle.world_rules.specs.Mail.{MailItem, message_count, most_messages}
use Rattle.world_rules.specs.Part.{Part}
use Rattle.world_rules.specs.World.{World, Process, Stage, Ready, Waiting, is_home, is_live, is_away, is_ended, with_process}
use Rattle.world_rules.specs.Changes.{readied, with_arrival, answered, replied, waiting}
use Rattle.world_rules.specs.Time.{late_reply, timed_out}
use Rattle.world_rules.specs.Sound.{IsInOrder, is_born, Rise}
use Rattle.world_rules.specs.Lives.{Setting}
use Rattle.world_rules.specs.Unmet.{NothingWanted}
use Rattle.world_rules.specs.laws.BirthLaws.{none_is_some}
use Rattle.world_rules.specs.laws.KeepingLaws.{false_is_true}
use Rattle.node_state.specs.Seats.{Meaning, Seat, StandsAt, IsOwed, phase_by}
use Rattle.node_state.specs.Fits.{IsAnswered}
use Rattle.node_laws.proofs.HostRows.{sleep-called}
use Rattle.node_laws.proofs.Tallies.{Tally, tally_of}
use Rattle.node_laws.proofs.Worlds.{Becomes, with_reply, becomes-change, becomes-waiting}
use Rattle.node_laws.proofs.Ends.{owes_nothing}
use Rattle.node_mirror.specs.Slots.{Slot, SlotFits, Home, Asleep, Giving, IsHome, IsAsleep, IsGiving}
use Rattle.node_mirror.specs.Held.{Held, Mirrors}
use Rattle.node_mirror.specs.Steps.{with_one, home, asleep}
use Rattle.node_mirror.proofs.One.{RestStays, GoesOn, program_stays, counted_of, counted_same, with_counted, mirrors_one}

-- A process at home is answered, or waits.

-- WHERE IT IS

-- a process at home, whose engine owes the reply to this ask: its Give is being performed, or it waits
pub record IsThere {E P : Type 0} (engines : Meaning E P) (programs : List P) (p : Process) (seat : Seat E) (ask : Ask) : Type 0 where
  pub stands : StandsAt engines programs p seat.engine p.calls p.fuel
  pub start : seat.start ≡ p.start
  pub part : seat.part ≡ p.part
  pub fuel : seat.fuel ≡ p.fuel
  pub none : seat.owed ≡ None
  pub phase : engines.phase seat.engine ≡ phase_by (Some ask)
  pub home : is_home p.stage ≡ true

unmapped : {A B : Type 0} (f : A → B) (o : Option A) → option_map f o ≡ None → o ≡ None
unmapped f None e = refl
unmapped f (Some a) e = absurd (none_is_some (sym e))

pub giving_at : {E P : Type 0} {engines : Meaning E P} {setting : Setting P} (w : World) (held : Held E) (ends : List EndMemory) (pid : ℕ) (seat : Seat E) (ask : Ask)
    → Mirrors engines setting w held ends → held.slots pid ≡ Giving seat ask → IsGiving engines setting.programs (w.process pid) seat ask
giving_at {E} {engines = engines} {setting = setting} w held ends pid seat ask m at = subst (λ (s : Slot E). SlotFits engines setting.programs (w.process pid) s) at (m.slots pid)

pub asleep_at : {E P : Type 0} {engines : Meaning E P} {setting : Setting P} (w : World) (held : Held E) (ends : List EndMemory) (pid : ℕ) (seat : Seat E) (ask : Ask)
    → Mirrors engines setting w held ends → held.slots pid ≡ Asleep seat ask → IsAsleep engines setting.programs (w.process pid) seat ask
asleep_at {E} {engines = engines} {setting = setting} w held ends pid seat ask m at = subst (λ (s : Slot E). SlotFits engines setting.programs (w.process pid) s) at (m.slots pid)

pub giving_there : {E P : Type 0} {engines : Meaning E P} {programs : List P} (p : Process) (seat : Seat E) (ask : Ask) → IsGiving engines programs p seat ask → IsThere engines programs p seat ask
giving_there {engines = engines} p seat ask g = record {
  stands = g.seated.stands;
  start = g.seated.start;
  part = g.seated.part;
  fuel = g.seated.fuel;
  none = unmapped (request_of (engines.memory seat.engine)) seat.owed (sym g.seated.owed ∙ g.owed);
  phase = g.seated.phase;
  home = ap (λ (s : Stage). is_home s) g.stage;
}

pub asleep_there : {E P : Type 0} {engines : Meaning E P} {programs : List P} (p : Process) (seat : Seat E) (ask : Ask) → IsAsleep engines programs p seat ask → IsThere engines programs p seat ask
asleep_there {engines = engines} p seat ask a = record {
  stands = a.seated.stands;
  start = a.seated.start;
  part = a.seated.part;
  fuel = a.seated.fuel;
  none = unmapped (request_of (engines.memory seat.engine)) seat.owed (sym a.seated.owed ∙ a.owed);
  phase = a.seated.phase;
  home = ap (λ (s : Stage). is_home s) a.stage;
}

-- WHO IS AT HOME

home_born : (s : Stage) → is_home s ≡ true → is_born s ≡ true
home_born Ready e = refl
home_born (Waiting request) e = refl
home_born _ e = false_is_true e

home_live : (s : Stage) → is_home s ≡ true → is_live s ≡ true
home_live Ready e = refl
home_live (Waiting request) e = refl
home_live _ e = false_is_true e

home_goes : (s : Stage) → is_home s ≡ true → is_ended s ≡ false
home_goes Ready e = refl
home_goes (Waiting request) e = refl
home_goes _ e = false_is_true e

home_stays : (s : Stage) → is_home s ≡ true → is_away s ≡ false
home_stays Ready e = refl
home_stays (Waiting request) e = refl
home_stays _ e = false_is_true e

-- nothing has become of a world
pub becomes_self : (w : World) (pid : ℕ) → Becomes w w pid (w.process pid) (tally_of w)
becomes_self w pid = record {
  alters = record { at = refl; others = λ q other. refl; drawn = refl; spawns = refl; unlinked = λ a b none. none };
  counted = refl;
  over = refl;
  exits = refl;
}

pub rest_self : (w : World) → RestStays w w
rest_self w = record { names = λ name. refl; links = λ a b. refl; over = refl; numbers = refl }

-- ANSWERED

so_chosen : (b : Bool) (x y : World) → b ≡ true → cond b x y ≡ x
so_chosen true x y so = refl
so_chosen false x y so = false_is_true so

-- the request of a process at home is answered
pub becomes_told : (w v : World) (pid : ℕ) (p : Process) (n : Tally) (request : Request) (reply : Reply) (what : What) → Becomes w v pid p n → is_home p.stage ≡ true
    → Becomes w (answered v pid request reply what) pid (with_reply p request reply what) n
becomes_told w v pid p n request reply what b at_home =
    let u : World = with_process v pid (readied (v.process pid) request reply) in
    let told : answered v pid request reply what ≡ with_arrival u pid what =
    so_chosen (is_home (v.process pid).stage) (with_arrival u pid what) v (ap (λ (x : Process). is_home x.stage) b.alters.at ∙ at_home) in
    subst (λ (x : World). Becomes w x pid (with_reply p request reply what) n) (sym told)
    (becomes-change w u pid (readied p request reply) n (λ x. record x { arrivals = x.arrivals ++ record { turns = x.gives; what = what } ∷ [] })
    (becomes-change w v pid p n (λ x. readied x request reply) b))

pub rest_answered : (w v : World) (pid : ℕ) (request : Request) (reply : Reply) (what : What) → RestStays w v → RestStays w (answered v pid request reply what)
rest_answered w v pid request reply what rest = by (is_home (v.process pid).stage)
  where
    by : (b : Bool) → RestStays w (cond b (with_arrival (with_process v pid (readied (v.process pid) request reply)) pid what) v)
    by true = record { names = rest.names; links = rest.links; over = rest.over; numbers = rest.numbers }
    by false = rest

-- the process before its answer: its part and its mailbox are these
abbrev pub holding : Process → Part → List MailItem → Process
holding p part mail = record p { part = part; mail = mail }

-- the seat after the answer
abbrev pub told_seat : {E : Type 0} → Seat E → E → Part → Seat E
told_seat seat engine part = record seat { engine = engine; part = part }

-- THE ANSWER. The process has the reply among its calls, this part and this mailbox, and is at home.
pub answer_fits : {E P : Type 0} {engines : Meaning E P} {programs : List P} (p : Process) (seat : Seat E) (ask : Ask) (reply : Reply) (what : What) (engine : E) (part now : Part)
    (mail : List MailItem) → IsThere engines programs p seat ask → IsAnswered engines seat.engine reply engine → part ≡ now
    → IsHome engines programs (with_reply (holding p now mail) (request_of (engines.memory seat.engine) ask) reply what) (told_seat seat engine part)
answer_fits {engines = engines} {programs = programs} p seat ask reply what engine part now mail there after part_is = record {
  stage = refl;
  seated = record {
    stands = λ program found. after.stands program p.start p.calls p.fuel ask there.phase (there.stands program found);
    start = there.start;
    part = part_is;
    fuel = there.fuel;
    owed = ap (λ (o : Option Ask). option_map (request_of (engines.memory engine)) o) (sym there.none);
    phase = after.running ∙ ap phase_by (sym there.none);
  };
  tries = owes_nothing (IsOwed (engines.memory engine) part) seat.owed there.none;
}

pub answer_goes : (w v : World) (pid : ℕ) (request : Request) (reply : Reply) (what : What) (now : Part) (mail : List MailItem) → RestStays w v → is_home (w.process pid).stage ≡ true
    → IsInOrder pid (w.process pid) → message_count mail ≤ most_messages → Rise now.handles
    → GoesOn w v pid (with_reply (holding (w.process pid) now mail) request reply what)
answer_goes w v pid request reply what now mail rest at_home order few rise = record {
  rest = rest;
  was = home_born (w.process pid).stage at_home;
  born = refl;
  lives = sym (home_live (w.process pid).stage at_home);
  before = home_goes (w.process pid).stage at_home;
  after = refl;
  order = record { own = λ _. order.own (home_born (w.process pid).stage at_home); deadline = λ _. refl; mail = few; handles = rise };
}

-- one who is at home is answered, and so much is counted
pub answers_mirror : {E P : Type 0} {engines : Meaning E P} {setting : Setting P} (w v : World) (held : Held E) (ends : List EndMemory) (pid : ℕ) (seat : Seat E) (ask : Ask) (reply : Reply)
    (what : What) (engine : E) (part now : Part) (mail items : List MailItem) (n count : Tally)
    → Mirrors engines setting w held ends → IsThere engines setting.programs (w.process pid) seat ask → IsAnswered engines seat.engine reply engine
    → Becomes w v pid (with_reply (holding (w.process pid) now mail) (request_of (engines.memory seat.engine) ask) reply what) n → RestStays w v
    → part ≡ now → mail ≡ items → n ≡ count → message_count mail ≤ most_messages → Rise now.handles
    → Mirrors engines setting v (with_counted (with_one held pid (Home (told_seat seat engine part)) items None) count held.out) ends
answers_mirror {engines = engines} {setting = setting} w v held ends pid seat ask reply what engine part now mail items n count m there after becomes rest part_is mail_is counted few rise =
    let p : Process = w.process pid in
    let request : Request = request_of (engines.memory seat.engine) ask in
    let q : Process = with_reply (holding p now mail) request reply what in
    mirrors_one w v held ends pid q (Home (told_seat seat engine part)) items None n count m becomes counted
    (answer_goes w v pid request reply what now mail rest there.home (m.order.each pid) few rise)
    (sym (home_stays p.stage there.home))
    (record {
      program = program_stays pid q m (home_born p.stage there.home) refl;
      unmet = tt;
      slot_fits = answer_fits p seat ask reply what engine part now mail there after part_is;
      mail_is = mail_is;
      deadline_is = refl;
    })

-- REPLY. One who is at home gets the reply to its request.
pub reply_mirrors : {E P : Type 0} {engines : Meaning E P} {setting : Setting P} (w : World) (held : Held E) (ends : List EndMemory) (pid : ℕ) (seat : Seat E) (ask : Ask) (reply : Reply) (engine : E)
    → Mirrors engines setting w held ends → IsThere engines setting.programs (w.process pid) seat ask → IsAnswered engines seat.engine reply engine
    → Mirrors engines setting (replied w pid (request_of (engines.memory seat.engine) ask) reply) (home held pid (record seat { engine = engine })) ends
reply_mirrors {engines = engines} w held ends pid seat ask reply engine m there after =
    let p : Process = w.process pid in
    let request : Request = request_of (engines.memory seat.engine) ask in
    let order : IsInOrder pid p = m.order.each pid in
    answers_mirror w (replied w pid request reply) held ends pid seat ask reply (Came.Answered reply) engine seat.part p.part p.mail (held.mail pid) (tally_of w) (counted_of held)
    m there after (becomes_told w w pid p (tally_of w) request reply (Came.Answered reply) (becomes_self w pid) there.home)
    (rest_answered w w pid request reply (Came.Answered reply) (rest_self w)) there.part (m.mail pid) (counted_same w held ends m) order.mail order.handles

-- LATENESS. One who waits gets the late reply.
pub lateness_mirrors : {E P : Type 0} {engines : Meaning E P} {setting : Setting P} (w : World) (held : Held E) (ends : List EndMemory) (pid : ℕ) (seat : Seat E) (ask : Ask) (engine : E)
    → Mirrors engines setting w held ends → held.slots pid ≡ Asleep seat ask
    → IsAnswered engines seat.engine (late_reply (call_of (request_of (engines.memory seat.engine) ask))) engine
    → Mirrors engines setting (timed_out (w.process pid).stage w pid) (home held pid (record seat { engine = engine })) ends
lateness_mirrors {engines = engines} {setting = setting} w held ends pid seat ask engine m at after =
    let request : Request = request_of (engines.memory seat.engine) ask in
    let waits : IsAsleep engines setting.programs (w.process pid) seat ask = asleep_at w held ends pid seat ask m at in
    subst (λ (v : World). Mirrors engines setting v (home held pid (record seat { engine = engine })) ends) (sym (ap (λ (s : Stage). timed_out s w pid) waits.stage))
    (reply_mirrors w held ends pid seat ask (late_reply (call_of request)) engine m (asleep_there (w.process pid) seat ask waits) after)

-- WAITS

wait_goes : (w v : World) (pid : ℕ) (request : Request) (deadline : Option ℕ) → RestStays w v → (w.process pid).stage ≡ Ready → IsInOrder pid (w.process pid)
    → GoesOn w v pid (record (w.process pid) { stage = Waiting request; deadline = deadline })
wait_goes w v pid request deadline rest at order = record {
  rest = rest;
  was = ap (λ (s : Stage). is_born s) at;
  born = refl;
  lives = sym (ap (λ (s : Stage). is_live s) at);
  before = ap (λ (s : Stage). is_ended s) at;
  after = refl;
  order = record { own = λ _. order.own (ap (λ (s : Stage). is_born s) at); deadline = λ isnt. false_is_true (sym isnt); mail = order.mail; handles = order.handles };
}

-- WAIT. One whose Give is performed waits in a receive or in a sleep, and finds nothing that it waits for.
pub wait_mirrors : {E P : Type 0} {engines : Meaning E P} {setting : Setting P} (w : World) (held : Held E) (ends : List EndMemory) (pid : ℕ) (seat : Seat E) (ask : Ask) (deadline : Option ℕ)
    → Mirrors engines setting w held ends → held.slots pid ≡ Giving seat ask → (ask.call ≡ 9) ⊎ (ask.call ≡ 17)
    → NothingWanted (Waiting (request_of (engines.memory seat.engine) ask)) (w.process pid).mail
    → Mirrors engines setting (waiting w pid (request_of (engines.memory seat.engine) ask) deadline) (asleep held pid seat ask deadline) ends
wait_mirrors {engines = engines} {setting = setting} w held ends pid seat ask deadline m at call none =
    let p : Process = w.process pid in
    let request : Request = request_of (engines.memory seat.engine) ask in
    let g : IsGiving engines setting.programs p seat ask = giving_at w held ends pid seat ask m at in
    let q : Process = record p { stage = Waiting request; deadline = deadline } in
    let v : World = waiting w pid request deadline in
    mirrors_one w v held ends pid q (Asleep seat ask) (held.mail pid) deadline (tally_of w) (counted_of held) m
    (becomes-waiting w w pid p (tally_of w) request deadline (becomes_self w pid)) (counted_same w held ends m)
    (wait_goes w v pid request deadline (record { names = λ name. refl; links = λ a b. refl; over = refl; numbers = refl }) g.stage (m.order.each pid))
    (sym (ap (λ (s : Stage). is_away s) g.stage))
    (record {
      program = program_stays pid q m (ap (λ (s : Stage). is_born s) g.stage) refl;
      unmet = none;
      slot_fits = record {
        stage = refl;
        owed = g.owed;
        seated = record { stands = g.seated.stands; start = g.seated.start; part = g.seated.part; fuel = g.seated.fuel; owed = g.seated.owed; phase = g.seated.phase };
        fitting = g.fitting;
        call = ∣ call ∣₁;
      };
      mail_is = m.mail pid;
      deadline_is = refl;
    })

-- a sleep wants nothing of the mailbox
pub sleep_wants_nothing : (request : Request) (mail : List MailItem) → request.ask.call ≡ 17 → NothingWanted (Waiting request) mail
sleep_wants_nothing request mail call is = let sleeps = sleep-called request call in absurd (other_call (sym sleeps ∙ is))
  where
    other_call : Some CallIs.SleepMs ≡ Some CallIs.Receive → ⊥
    other_call e = cc
