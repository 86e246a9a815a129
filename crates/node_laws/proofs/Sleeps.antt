use Rattle.std.proofs.Common.{◌≡◌, ℕ, List, [], Option, None, true, false, max, slice_index, refl, sym, ◌∙◌, ap, inr}
use Rattle.host_port.specs.declared.call.Call.{Call}
use Rattle.host_port.specs.declared.request.Request.{Request}
use Rattle.world_rules.specs.declared.entry.Side.{Side}
use Rattle.world_rules.specs.declared.entry.Side.TheVariants.{Clock}
use Rattle.world_rules.specs.declared.halt.Halt.TheVariants.{Asks}
use Rattle.world_rules.specs.declared.life.Birth.{Birth}
use Rattle.world_rules.specs.Answers.{empty_reply}
use Rattle.world_rules.specs.Arrivals as Came
use Rattle.world_rules.specs.Book.{Book}
use Rattle.world_rules.specs.Calls.{HostCall, call_of, arg}
use Rattle.world_rules.specs.Views.{Given}
use Rattle.world_rules.specs.World.{World, Process, Out}
use Rattle.world_rules.specs.Changes.{replied, waiting}
use Rattle.world_rules.specs.Time.{is_positive, sleep_performed}
use Rattle.world_rules.specs.Rules.{performed, recorded, home, part_after_turn}
use Rattle.world_rules.specs.Told.{told}
use Rattle.world_rules.specs.Lives.{Setting}
use Rattle.node_state.specs.Seats.{Meaning}
use Rattle.node_state.specs.Slots.{Home, Asleep, Away}
use Rattle.node_state.specs.Held.{Held, StandsFor}
use Rattle.node_state.specs.Fits.{Brought, TurnFits, IsAnswered, entry_of}
use Rattle.node_state.specs.Changes.{Records, GivesBack, Counts, Closes}
use Rattle.node_state.specs.Posts.{time_at, deadline_of}
use Rattle.node_laws.proofs.HostRows.{sleep-called, sleep-unkept}
use Rattle.node_laws.proofs.Tallies.{Tally}
use Rattle.node_laws.proofs.Gives.{give_as, brings, records-as, slot-out, part-asked}
use Rattle.node_laws.proofs.Worlds.{Becomes, come_home, recording, becomes-home, becomes-answered, given-out}
use Rattle.node_laws.proofs.Requests.{keeps-answered, keeps-asleep, tally-asked}

-- A process is given back with a sleep.

-- what a sleep is performed as
sleep_is : (births : List Birth) (r : World) (pid : ℕ) (request : Request) (side : Side) → request.ask.call ≡ 17 → performed births (call_of request) r pid request side ≡ sleep_performed r pid request
sleep_is births r pid request side call = ap (λ (c : Option HostCall). performed births c r pid request side) (sleep-called request call)

sleeps_not : (r : World) (pid : ℕ) (request : Request) → is_positive (arg request 0) ≡ false → sleep_performed r pid request ≡ replied r pid request empty_reply
sleeps_not r pid request e = rw e refl

sleeps : (r : World) (pid : ℕ) (request : Request) → is_positive (arg request 0) ≡ true → sleep_performed r pid request ≡ waiting r pid request (deadline_of r.time (arg request 0))
sleeps r pid request e = rw e refl

-- SLEEP. A process that asks for a sleep of no time is answered, and goes behind the ready list.
pub keeps-slept : {E P : Type 0} {engines : Meaning E P} {setting : Setting P} (old new : Book) (was is : Held E) (pid worker : ℕ) (brought : Brought E) (request : Request) (now : ℕ) (engine : E)
    → StandsFor engines setting old (told old) was → was.over ≡ false
    → was.slots pid ≡ Away worker → request.ask.call ≡ 17 → is_positive (slice_index request.ask.args 0) ≡ false
    → TurnFits engines setting old.births (told old) worker pid brought → brought.halt ≡ Asks request → brought.side ≡ Clock now
    → IsAnswered engines brought.seat.engine empty_reply engine
    → GivesBack was is pid (Home (record brought.seat { engine = engine })) true (was.mail pid) None
    → Counts was is was.sends (time_at was.time now) 0 → Closes was is was.streams brought.shed
    → Records old new (entry_of worker pid brought (Clock now)) []
    → StandsFor engines setting new (told new) is
keeps-slept {engines = engines} {setting = setting} old new was is pid worker brought request now engine keeps going slot call none fits halt side after gives counts closes records =
    let w : World = told old in
    let seat = brought.seat in
    let calls : List Call = brought.calls in
    let shed : List ℕ = brought.shed in
    let f = brings old.births w worker pid brought (Asks request) (Clock now) halt side fits in
    let give : Given = give_as worker pid calls seat.fuel (Asks request) (Clock now) in
    let r : World = home (recorded w give) pid in
    let p : Process = come_home (w.process pid) give in
    let n : Tally = recording w give in
    let b : Becomes w r pid p n = becomes-home w give in
    let out : (w.process pid).stage ≡ Out worker = slot-out old was pid worker keeps slot in
    keeps-answered old new was is pid worker seat calls shed (Asks request) request (Clock now) (Clock now) empty_reply (Came.Answered empty_reply) engine (replied r pid request empty_reply) seat.part
    (part_after_turn (w.process pid) give) (was.mail pid) (w.process pid).mail seat.owed None n
    keeps going slot f f.allowed f.phase.0 refl
    (becomes-answered w r pid p n request empty_reply (Came.Answered empty_reply) b refl)
    (given-out (w.process pid).stage worker old.births w give out
    ∙ sleep_is old.births r pid request (Clock now) call
    ∙ sleeps_not r pid request none)
    after (part-asked (w.process pid) worker pid calls seat.fuel request (Clock now) seat.part refl f.seated.part) (sym (keeps.mirrors.mail pid)) (f.phase.1 ∙ sleep-unkept request call) refl
    (tally-asked old was is pid worker seat calls shed request (Clock now) (Clock now) (time_at was.time now) keeps f counts refl closes) gives counts.row_is counts.over
    (records-as old new worker pid brought (Asks request) (Clock now) (Clock now) [] halt refl records)

-- SLEEP. A process that asks for a sleep of some time is asleep at home.
pub keeps-sleeping : {E P : Type 0} {engines : Meaning E P} {setting : Setting P} (old new : Book) (was is : Held E) (pid worker : ℕ) (brought : Brought E) (request : Request) (now : ℕ)
    → StandsFor engines setting old (told old) was → was.over ≡ false
    → was.slots pid ≡ Away worker → request.ask.call ≡ 17 → is_positive (slice_index request.ask.args 0) ≡ true
    → TurnFits engines setting old.births (told old) worker pid brought → brought.halt ≡ Asks request → brought.side ≡ Clock now
    → GivesBack was is pid (Asleep brought.seat request.ask) false (was.mail pid) (deadline_of (time_at was.time now) (slice_index request.ask.args 0))
    → Counts was is was.sends (time_at was.time now) 0 → Closes was is was.streams brought.shed
    → Records old new (entry_of worker pid brought (Clock now)) []
    → StandsFor engines setting new (told new) is
keeps-sleeping {engines = engines} {setting = setting} old new was is pid worker brought request now keeps going slot call some fits halt side gives counts closes records =
    let w : World = told old in
    let seat = brought.seat in
    let calls : List Call = brought.calls in
    let f = brings old.births w worker pid brought (Asks request) (Clock now) halt side fits in
    let give : Given = give_as worker pid calls seat.fuel (Asks request) (Clock now) in
    let r : World = home (recorded w give) pid in
    let t : ℕ = max w.time now in
    let b : Becomes w r pid (come_home (w.process pid) give) (recording w give) = becomes-home w give in
    let out : (w.process pid).stage ≡ Out worker = slot-out old was pid worker keeps slot in
    let ms : ℕ = arg request 0 in
    keeps-asleep old new was is pid worker seat calls brought.shed request now seat.part (was.mail pid) (deadline_of t ms) (deadline_of (time_at was.time now) ms)
    keeps going slot (inr call) (f.phase.1 ∙ sleep-unkept request call) f
    (given-out (w.process pid).stage worker old.births w give out
    ∙ sleep_is old.births r pid request (Clock now) call
    ∙ sleeps r pid request some
    ∙ ap (λ (m : Tally). waiting r pid request (deadline_of m.time ms)) b.counted)
    refl refl (ap (λ (time : ℕ). deadline_of (time_at time now) ms) keeps.mirrors.time) gives counts closes
    (records-as old new worker pid brought (Asks request) (Clock now) (Clock now) [] halt refl records)
