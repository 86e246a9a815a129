use Rattle.std.proofs.Common.{◌≡◌, ◌≢◌, ℕ, List, [], ◌++◌, append-nil, append_assoc, Option, Some, None, true, false, max, nat_eq, slice_index, refl, sym, ◌∙◌, ap, arith, inl}
use Rattle.std.proofs.lemmas.Bool.Decides.{nat_tests}
use Rattle.host_port.specs.declared.call.Call.{Call}
use Rattle.host_port.specs.declared.request.Request.{Request}
use Rattle.world_rules.specs.declared.entry.Side.{Side}
use Rattle.world_rules.specs.declared.entry.Side.TheVariants.{Clock}
use Rattle.world_rules.specs.declared.halt.Halt.TheVariants.{Asks}
use Rattle.world_rules.specs.declared.life.Birth.{Birth}
use Rattle.world_rules.specs.Answers.{number_reply}
use Rattle.world_rules.specs.Arrivals.{arrival_of}
use Rattle.world_rules.specs.Arrivals as Came
use Rattle.world_rules.specs.Book.{Book}
use Rattle.world_rules.specs.Calls.{HostCall, call_of, arg}
use Rattle.world_rules.specs.Mail.{MailItem, Letter, tags_in, pick, unpicked}
use Rattle.world_rules.specs.Part.{Part, scratch_handles}
use Rattle.world_rules.specs.Settled.{settled, Delivered}
use Rattle.world_rules.specs.Views.{Given}
use Rattle.world_rules.specs.World.{World, Process, Out}
use Rattle.world_rules.specs.Changes.{replied, waiting}
use Rattle.world_rules.specs.Receive.{receive_performed, unmet, delivered, delivered_or, without_wanted, held}
use Rattle.world_rules.specs.Rules.{performed, recorded, home, part_after_turn}
use Rattle.world_rules.specs.Told.{told}
use Rattle.world_rules.specs.Lives.{Setting}
use Rattle.node_state.specs.declared.outcome.Receipt.{Receipt}
use Rattle.node_state.specs.declared.outcome.Receipt.TheVariants as ReceiptIs
use Rattle.node_state.specs.Seats.{Meaning}
use Rattle.node_state.specs.Slots.{Home, Asleep, Away}
use Rattle.node_state.specs.Held.{Held, StandsFor}
use Rattle.node_state.specs.Fits.{Brought, TurnFits, IsAnswered, entry_of}
use Rattle.node_state.specs.Changes.{Records, GivesBack, Counts, Closes}
use Rattle.node_state.specs.Posts.{Receives, receipt_code, receipt_closings, time_at, deadline_of}
use Rattle.node_laws.proofs.HostRows.{receive-called, receive-unkept}
use Rattle.node_laws.proofs.Tallies.{Tally, held_tally, tally-is}
use Rattle.node_laws.proofs.Gives.{give_as, brings, records-as, slot-out, part-asked}
use Rattle.node_laws.proofs.Worlds.{Becomes, come_home, closing, recording, becomes-home, becomes-answered, becomes-held, given-out}
use Rattle.node_laws.proofs.Requests.{asking, keeps-answered, keeps-asleep, tally-asked}

-- A process is given back with a receive.

-- what a receive is performed as
receive_is : (births : List Birth) (r : World) (pid : ℕ) (request : Request) (side : Side) (mail : List MailItem) (found : Option MailItem) → request.ask.call ≡ 9
    → (r.process pid).mail ≡ mail → pick (tags_in request.first) mail ≡ found
    → performed births (call_of request) r pid request side ≡ delivered_or (unmet r pid request) r pid request found
receive_is births r pid request side mail found call at is =
    let receives : performed births (call_of request) r pid request side ≡ receive_performed r pid request =
    ap (λ (c : Option HostCall). performed births c r pid request side) (receive-called request call) in
    receives
    ∙ ap (λ (m : List MailItem). delivered_or (unmet r pid request) r pid request (pick (tags_in request.first) m)) at
    ∙ ap (λ (f : Option MailItem). delivered_or (unmet r pid request) r pid request f) is

unmet_now : (r : World) (pid : ℕ) (request : Request) → arg request 2 ≡ 0 → unmet r pid request ≡ replied r pid request (number_reply 9027)
unmet_now r pid request e = rw e refl

unmet_waits : (r : World) (pid : ℕ) (request : Request) → arg request 2 ≢ 0 → unmet r pid request ≡ waiting r pid request (deadline_of r.time (arg request 2))
unmet_waits r pid request e =
    let t : nat_eq (arg request 2) 0 ≡ false = grind (arith, nat_tests, e) in
    rw t refl

-- RECEIVE. A process that asks for a receive and doesn't wait is answered, and goes behind the ready list.
pub keeps-received : {E P : Type 0} {engines : Meaning E P} {setting : Setting P} (old new : Book) (was is : Held E) (pid worker : ℕ) (brought : Brought E) (request : Request) (now : ℕ) (engine : E)
    (mail : List MailItem) (part : Part) (receipt : Receipt)
    → StandsFor engines setting old (told old) was → was.over ≡ false
    → was.slots pid ≡ Away worker → request.ask.call ≡ 9 → receipt ≢ ReceiptIs.Waits
    → TurnFits engines setting old.births (told old) worker pid brought → brought.halt ≡ Asks request → brought.side ≡ Clock now
    → Receives (tags_in request.first) (slice_index request.ask.args 2) (was.mail pid) brought.seat.part mail part receipt
    → IsAnswered engines brought.seat.engine (number_reply (receipt_code receipt)) engine
    → GivesBack was is pid (Home (record brought.seat { engine = engine; part = part })) true mail None
    → Counts was is was.sends (time_at was.time now) 0 → Closes was is was.streams (brought.shed ++ receipt_closings receipt brought.seat.part)
    → Records old new (entry_of worker pid brought (Clock now)) []
    → StandsFor engines setting new (told new) is
keeps-received {engines = engines} {setting = setting} old new was is pid worker brought request now engine mail part ReceiptIs.Delivered keeps going slot call answers fits halt side takes after gives
    counts closes records =
    let w : World = told old in
    let m = keeps.mirrors in
    let seat = brought.seat in
    let calls : List Call = brought.calls in
    let shed : List ℕ = brought.shed in
    let f = brings old.births w worker pid brought (Asks request) (Clock now) halt side fits in
    let give : Given = give_as worker pid calls seat.fuel (Asks request) (Clock now) in
    let r : World = home (recorded w give) pid in
    let p : Process = come_home (w.process pid) give in
    let n : Tally = recording w give in
    let b : Becomes w r pid p n = becomes-home w give in
    let out : (w.process pid).stage ≡ Out worker = slot-out old was pid worker keeps slot in
    let tags : List ℕ = tags_in request.first in
    let item : MailItem = Letter takes.number takes.message in
    let found : pick tags (w.process pid).mail ≡ Some item = rw (m.mail pid) takes.found in
    let left : mail ≡ unpicked tags (w.process pid).mail = rw (m.mail pid) takes.left in
    let u : World = held (without_wanted r pid request) pid item in
    let part_is : seat.part ≡ part_after_turn (w.process pid) give = part-asked (w.process pid) worker pid calls seat.fuel request (Clock now) seat.part refl f.seated.part in
    let part_now : Part = settled (part_after_turn (w.process pid) give) (Delivered item) in
    let shut : List ℕ = scratch_handles (part_after_turn (w.process pid) give) in
    let h : Becomes w u pid (asking (w.process pid) give part_now (unpicked tags (w.process pid).mail)) (closing n shut) = becomes-held w r pid p n request item b in
    let counted : closing n shut ≡ held_tally is =
    tally-is (closing n shut) is (m.sends ∙ sym counts.sends_are) (ap (λ (t : ℕ). time_at t now) m.time ∙ sym counts.time_is) (m.streams ∙ sym closes.streams_are)
    ((λ i. (m.closed i ++ sym f.seated.closed i) ++ scratch_handles (sym part_is i)) ∙ append_assoc was.closed shed (scratch_handles seat.part) ∙ sym closes.closed_are) in
    keeps-answered old new was is pid worker seat calls shed (Asks request) request (Clock now) (Clock now) (number_reply 0) (arrival_of item) engine
    (delivered (without_wanted r pid request) pid request item) part part_now mail (unpicked tags (w.process pid).mail) seat.owed None (closing n shut)
    keeps going slot f f.allowed f.phase.0 refl
    (becomes-answered w u pid (asking (w.process pid) give part_now (unpicked tags (w.process pid).mail)) (closing n shut) request (number_reply 0) (arrival_of item) h refl)
    (given-out (w.process pid).stage worker old.births w give out
    ∙ receive_is old.births r pid request (Clock now) (w.process pid).mail (Some item) call (ap (λ (x : Process). x.mail) b.alters.at) found)
    after (takes.held ∙ ap (λ (x : Part). settled x (Delivered item)) part_is) left (f.phase.1 ∙ receive-unkept request call) refl counted gives counts.row_is counts.over
    (records-as old new worker pid brought (Asks request) (Clock now) (Clock now) [] halt refl records)
keeps-received {engines = engines} {setting = setting} old new was is pid worker brought request now engine mail part ReceiptIs.TimedOut keeps going slot call answers fits halt side missed after gives
    counts closes records =
    let w : World = told old in
    let seat = brought.seat in
    let calls : List Call = brought.calls in
    let shed : List ℕ = brought.shed in
    let f = brings old.births w worker pid brought (Asks request) (Clock now) halt side fits in
    let give : Given = give_as worker pid calls seat.fuel (Asks request) (Clock now) in
    let r : World = home (recorded w give) pid in
    let p : Process = come_home (w.process pid) give in
    let n : Tally = recording w give in
    let b : Becomes w r pid p n = becomes-home w give in
    let out : (w.process pid).stage ≡ Out worker = slot-out old was pid worker keeps slot in
    let none : pick (tags_in request.first) (w.process pid).mail ≡ None = rw (keeps.mirrors.mail pid) missed.0 in
    let part_is : seat.part ≡ part_after_turn (w.process pid) give = part-asked (w.process pid) worker pid calls seat.fuel request (Clock now) seat.part refl f.seated.part in
    let shut : Closes was is was.streams shed = record { streams_are = closes.streams_are; closed_are = closes.closed_are ∙ ap (λ (xs : List ℕ). was.closed ++ xs) (append-nil shed) } in
    keeps-answered old new was is pid worker seat calls shed (Asks request) request (Clock now) (Clock now) (number_reply 9027) (Came.Answered (number_reply 9027)) engine
    (replied r pid request (number_reply 9027)) part (part_after_turn (w.process pid) give) mail (w.process pid).mail seat.owed None n
    keeps going slot f f.allowed f.phase.0 refl
    (becomes-answered w r pid p n request (number_reply 9027) (Came.Answered (number_reply 9027)) b refl)
    (given-out (w.process pid).stage worker old.births w give out
    ∙ receive_is old.births r pid request (Clock now) (w.process pid).mail None call (ap (λ (x : Process). x.mail) b.alters.at) none
    ∙ unmet_now r pid request missed.1)
    after (missed.2.part_stays ∙ part_is) (missed.2.mail_stays ∙ sym (keeps.mirrors.mail pid)) (f.phase.1 ∙ receive-unkept request call) refl
    (tally-asked old was is pid worker seat calls shed request (Clock now) (Clock now) (time_at was.time now) keeps f counts refl shut) gives counts.row_is counts.over
    (records-as old new worker pid brought (Asks request) (Clock now) (Clock now) [] halt refl records)
keeps-received old new was is pid worker brought request now engine mail part ReceiptIs.Waits keeps going slot call answers fits halt side missed after gives counts closes records =
    absurd (answers refl)

-- WAIT. A process that asks for a receive and finds nothing that it wants is asleep at home.
pub keeps-waits : {E P : Type 0} {engines : Meaning E P} {setting : Setting P} (old new : Book) (was is : Held E) (pid worker : ℕ) (brought : Brought E) (request : Request) (now : ℕ)
    (mail : List MailItem) (part : Part)
    → StandsFor engines setting old (told old) was → was.over ≡ false
    → was.slots pid ≡ Away worker → request.ask.call ≡ 9
    → TurnFits engines setting old.births (told old) worker pid brought → brought.halt ≡ Asks request → brought.side ≡ Clock now
    → Receives (tags_in request.first) (slice_index request.ask.args 2) (was.mail pid) brought.seat.part mail part ReceiptIs.Waits
    → GivesBack was is pid (Asleep (record brought.seat { part = part }) request.ask) false mail
    (deadline_of (time_at was.time now) (slice_index request.ask.args 2))
    → Counts was is was.sends (time_at was.time now) 0 → Closes was is was.streams brought.shed
    → Records old new (entry_of worker pid brought (Clock now)) []
    → StandsFor engines setting new (told new) is
keeps-waits {engines = engines} {setting = setting} old new was is pid worker brought request now mail part keeps going slot call fits halt side missed gives counts closes records =
    let w : World = told old in
    let seat = brought.seat in
    let calls : List Call = brought.calls in
    let f = brings old.births w worker pid brought (Asks request) (Clock now) halt side fits in
    let give : Given = give_as worker pid calls seat.fuel (Asks request) (Clock now) in
    let r : World = home (recorded w give) pid in
    let t : ℕ = max w.time now in
    let b : Becomes w r pid (come_home (w.process pid) give) (recording w give) = becomes-home w give in
    let out : (w.process pid).stage ≡ Out worker = slot-out old was pid worker keeps slot in
    let none : pick (tags_in request.first) (w.process pid).mail ≡ None = rw (keeps.mirrors.mail pid) missed.0 in
    let ms : ℕ = arg request 2 in
    keeps-asleep old new was is pid worker seat calls brought.shed request now part mail (deadline_of t ms) (deadline_of (time_at was.time now) ms)
    keeps going slot (inl call) (f.phase.1 ∙ receive-unkept request call) f
    (given-out (w.process pid).stage worker old.births w give out
    ∙ receive_is old.births r pid request (Clock now) (w.process pid).mail None call (ap (λ (x : Process). x.mail) b.alters.at) none
    ∙ unmet_waits r pid request missed.1
    ∙ ap (λ (m : Tally). waiting r pid request (deadline_of m.time ms)) b.counted)
    missed.2.part_stays missed.2.mail_stays (ap (λ (time : ℕ). deadline_of (time_at time now) ms) keeps.mirrors.time) gives counts closes
    (records-as old new worker pid brought (Asks request) (Clock now) (Clock now) [] halt refl records)
