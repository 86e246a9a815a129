use Rattle.std.proofs.Common.{◌≡◌, ℕ, ◌+◌, ◌<◌, ◌≤◌, List, [], ◌∷◌, ◌++◌, Option, Some, None, Bool, true, false, cond, nat_eq, nat_lt, slice_index, refl, sym, ◌∙◌, ap, subst, arith}
use Rattle.std.proofs.lemmas.Bool.Decides.{nat_tests}
use Rattle.host_port.specs.declared.call.Call.{Call}
use Rattle.host_port.specs.declared.request.Request.{Request}
use Rattle.world_rules.specs.declared.entry.Entry.TheVariants.{Give}
use Rattle.world_rules.specs.declared.entry.Side.{Side}
use Rattle.world_rules.specs.declared.entry.Side.TheVariants as SideIs
use Rattle.world_rules.specs.declared.halt.Halt.TheVariants.{Asks}
use Rattle.world_rules.specs.declared.life.Birth.{Birth}
use Rattle.world_rules.specs.Answers.{number_reply}
use Rattle.world_rules.specs.Arrivals as Came
use Rattle.world_rules.specs.Book.{Book}
use Rattle.world_rules.specs.Births.{Terms}
use Rattle.world_rules.specs.Calls.{HostCall, call_of, arg}
use Rattle.world_rules.specs.Mail.{MailItem, Letter, message_count, most_messages}
use Rattle.world_rules.specs.Part.{Part, Scratch}
use Rattle.world_rules.specs.Settled.{settled, SentOff}
use Rattle.world_rules.specs.Views.{Given, is_refused, is_pending}
use Rattle.world_rules.specs.World.{World, Process, Unborn, Ready, Out, is_live, is_away}
use Rattle.world_rules.specs.Changes.{replied}
use Rattle.world_rules.specs.Receive.{send_performed, send_answer, sent, sent_off, unless_refused}
use Rattle.world_rules.specs.Rules.{asked, performed, recorded, home, part_after_turn}
use Rattle.world_rules.specs.Allowed.{GiveFits, GivesTurn, IsRefusal}
use Rattle.world_rules.specs.Allowed.{TurnFits as IsAllowedTurn}
use Rattle.world_rules.specs.Told.{told}
use Rattle.world_rules.specs.Lives.{Setting, terms_of}
use Rattle.node_state.specs.declared.outcome.Post.{Post}
use Rattle.node_state.specs.declared.outcome.Post.TheVariants.{Put, Nobody, Full, Refused}
use Rattle.node_state.specs.Seats.{Meaning, Seat}
use Rattle.node_state.specs.Slots.{Home, Away}
use Rattle.node_state.specs.Held.{Held, StandsFor}
use Rattle.node_state.specs.Fits.{Brought, TurnFits, IsAnswered, entry_of}
use Rattle.node_state.specs.Changes.{Records, GivesBack, Counts, Closes}
use Rattle.node_state.specs.Posts.{Posts, StayBoth, time_beside, code_of, side_of, sends_after}
use Rattle.node_laws.proofs.HostRows.{send-called, send-beside, send-refusable, send-unkept}
use Rattle.node_laws.proofs.Tallies.{Tally, held_tally, tally-is}
use Rattle.node_laws.proofs.Goes.{first-is}
use Rattle.node_laws.proofs.Gives.{with-away, give_as, bring, brings, records-as, slot-out, part-asked, both-closed}
use Rattle.node_laws.proofs.Worlds.{Becomes, come_home, with_reply, recording, sending, becomes-home, becomes-answered, becomes-sent_off, becomes-arrived, given-out}
use Rattle.node_laws.proofs.Requests.{keeps-answered, own-asked, tally-asked}

-- A process is given back with a send.

-- what a send is performed as
send_is : (births : List Birth) (r : World) (pid : ℕ) (request : Request) (side : Side) (scratch : Option Scratch) (answer : ℕ) → request.ask.call ≡ 8
    → send_answer (r.process (arg request 0)) (is_refused side) ≡ answer → (r.process pid).part.scratch ≡ scratch
    → performed births (call_of request) r pid request side ≡ cond (nat_eq answer 0) (sent r pid (arg request 0) request scratch) (replied r pid request (number_reply answer))
send_is births r pid request side scratch answer call is held =
    let to : ℕ = arg request 0 in
    let sends : performed births (call_of request) r pid request side ≡ send_performed r pid request (is_refused side) =
    ap (λ (c : Option HostCall). performed births c r pid request side) (send-called request call) in
    sends
    ∙ ap (λ (n : ℕ). cond (nat_eq n 0) (sent r pid to request (r.process pid).part.scratch) (replied r pid request (number_reply n))) is
    ∙ ap (λ (m : Option Scratch). cond (nat_eq answer 0) (sent r pid to request m) (replied r pid request (number_reply answer))) held

answer_room : (p : Process) (refused : Bool) → is_live p.stage ≡ true → message_count p.mail < most_messages → send_answer p refused ≡ unless_refused refused 0
answer_room p refused live h =
    let t : nat_lt (message_count p.mail) most_messages ≡ true = grind (arith, nat_tests, h) in
    rw (live, t) refl

answer_full : (p : Process) (refused : Bool) → is_live p.stage ≡ true → most_messages ≤ message_count p.mail → send_answer p refused ≡ 2
answer_full p refused live h =
    let t : nat_lt (message_count p.mail) most_messages ≡ false = grind (arith, nat_tests, h) in
    rw (live, t) refl

answer_nobody : (p : Process) (refused : Bool) → p.stage ≡ Unborn → send_answer p refused ≡ 1
answer_nobody p refused e = rw e refl

-- the answer at the number that the request names, in a world where that is a process of these
answer_at : (r : World) (to pid : ℕ) (p : Process) (refused : Bool) (answer : ℕ) → to ≡ pid → r.process pid ≡ p → send_answer p refused ≡ answer → send_answer (r.process to) refused ≡ answer
answer_at r to pid p refused answer same at is = ap (λ (k : ℕ). send_answer (r.process k) refused) same ∙ ap (λ (x : Process). send_answer x refused) at ∙ is

-- a refusal may be recorded where the mailbox had room
refusal_fits : (terms : Option Terms) (births : List Birth) (w : World) (worker pid : ℕ) (calls : List Call) (fuel : ℕ) (request : Request) → (w.process pid).owed ≡ None
    → (w.process pid).stage ≡ Out worker → request.ask.call ≡ 8
    → send_answer (w.process (arg request 0)) false ≡ 0
    → GiveFits terms births w (give_as worker pid calls fuel (Asks request) SideIs.Nothing)
    → GiveFits terms births w (give_as worker pid calls fuel (Asks request) SideIs.NoMemory)
refusal_fits terms births w worker pid calls fuel request own out call lost fits =
    let p : Process = w.process pid in
    let plain : Given = give_as worker pid calls fuel (Asks request) SideIs.Nothing in
    let give : Given = give_as worker pid calls fuel (Asks request) SideIs.NoMemory in
    let t : IsAllowedTurn terms births w p plain = subst (λ (o : Option Request). GivesTurn terms births w p plain o) own fits.turn in
    let refusal : IsRefusal w pid request = record { refusable = send-refusable request call; performed = rw out refl; lost = rw (send-called request call) lost } in
    let turn : IsAllowedTurn terms births w p give = record {
      grown = t.grown;
      burnt = t.burnt;
      answered = t.answered;
      local = t.local;
      halted = record {
        kind = t.halted.kind;
        judged = t.halted.judged;
        beside = record { side = rw (send-beside request call) refusal; birth = rw (send-called request call) tt };
      };
    } in
    record { away = fits.away; turn = subst (λ (o : Option Request). GivesTurn terms births w p give o) (sym own) turn }

-- the message of a process that sends to itself
becomes_sent : (w r : World) (pid : ℕ) (p : Process) (n : Tally) (request : Request) (scratch : Scratch) → Becomes w r pid p n → p.stage ≡ Ready →
    Becomes w (sent r pid pid request (Some scratch)) pid
    (record (with_reply (record p { part = settled p.part SentOff }) request (number_reply 0) (Came.Answered (number_reply 0))) { mail = p.mail ++ Letter r.sends scratch.message ∷ [] }) (sending n)
becomes_sent w r pid p n request scratch b ready =
    let reply = number_reply 0 in
    let off : Process = record p { part = settled p.part SentOff } in
    becomes-arrived w (replied (sent_off r pid pid) pid request reply) pid (with_reply off request reply (Came.Answered reply)) (sending n) (Letter r.sends scratch.message)
    (becomes-answered w (sent_off r pid pid) pid off (sending n) request reply (Came.Answered reply) (becomes-sent_off w r pid pid p n b) ready) refl

-- a send that wasn't put into a mailbox is answered, and all else stays
stays : {E P : Type 0} {engines : Meaning E P} {setting : Setting P} (old new : Book) (was is : Held E) (pid worker : ℕ) (seat : Seat E) (calls : List Call) (shed : List ℕ) (request : Request)
    (other : Side) (number : ℕ) (engine : E) (mail : List MailItem) (part : Part)
    → StandsFor engines setting old (told old) was → was.over ≡ false → was.slots pid ≡ Away worker → request.ask.call ≡ 8
    → TurnFits engines setting old.births (told old) worker pid (bring seat calls (Asks request) SideIs.Nothing shed)
    → GiveFits (Some (terms_of setting)) old.births (told old) (give_as worker pid calls seat.fuel (Asks request) other)
    → is_pending other ≡ false → time_beside other was.time ≡ was.time
    → performed old.births (call_of request) (home (recorded (told old) (give_as worker pid calls seat.fuel (Asks request) other)) pid) pid request other
    ≡ replied (home (recorded (told old) (give_as worker pid calls seat.fuel (Asks request) other)) pid) pid request (number_reply number)
    → StayBoth (was.mail pid) seat.part mail part
    → IsAnswered engines seat.engine (number_reply number) engine
    → GivesBack was is pid (Home (record seat { engine = engine; part = part })) true mail None
    → Counts was is was.sends was.time 0 → Closes was is was.streams shed
    → Records old new (Give worker pid calls seat.fuel (Asks request) other) []
    → StandsFor engines setting new (told new) is
stays old new was is pid worker seat calls shed request other number engine mail part keeps going slot call fits allowed free untimed is_so both after gives counts closes records =
    let w : World = told old in
    let give : Given = give_as worker pid calls seat.fuel (Asks request) other in
    let r : World = home (recorded w give) pid in
    let p : Process = come_home (w.process pid) give in
    let n : Tally = recording w give in
    let b : Becomes w r pid p n = becomes-home w give in
    let out : (w.process pid).stage ≡ Out worker = slot-out old was pid worker keeps slot in
    let part_is : seat.part ≡ part_after_turn (w.process pid) give = part-asked (w.process pid) worker pid calls seat.fuel request SideIs.Nothing seat.part refl fits.seated.part in
    keeps-answered old new was is pid worker seat calls shed (Asks request) request SideIs.Nothing other (number_reply number) (Came.Answered (number_reply number)) engine
    (replied r pid request (number_reply number)) part (part_after_turn (w.process pid) give) mail (w.process pid).mail seat.owed None n
    keeps going slot fits allowed fits.phase.0 free
    (becomes-answered w r pid p n request (number_reply number) (Came.Answered (number_reply number)) b refl)
    (given-out (w.process pid).stage worker old.births w give out
    ∙ ap (λ (waits : Bool). asked waits old.births r pid request other) free ∙ is_so)
    after (both.part_stays ∙ part_is) (both.mail_stays ∙ sym (keeps.mirrors.mail pid)) (fits.phase.1 ∙ send-unkept request call) refl
    (tally-asked old was is pid worker seat calls shed request SideIs.Nothing other was.time keeps fits counts untimed closes) gives counts.row_is counts.over records

-- what a send comes to, by what becomes of its message
send_by : {E P : Type 0} {engines : Meaning E P} {setting : Setting P} (old new : Book) (was is : Held E) (pid worker : ℕ) (seat : Seat E) (calls : List Call) (shed : List ℕ) (request : Request)
    (engine : E) (mail : List MailItem) (part : Part) (outcome : Post)
    → StandsFor engines setting old (told old) was → was.over ≡ false
    → was.slots pid ≡ Away worker → request.ask.call ≡ 8
    → TurnFits engines setting old.births (told old) worker pid (bring seat calls (Asks request) SideIs.Nothing shed)
    → Posts (slice_index request.ask.args 0) pid was.sends (was.mail pid) seat.part mail part outcome
    → IsAnswered engines seat.engine (number_reply (code_of outcome)) engine
    → GivesBack was is pid (Home (record seat { engine = engine; part = part })) true mail None
    → Counts was is (sends_after outcome was.sends) was.time 0 → Closes was is was.streams shed
    → Records old new (Give worker pid calls seat.fuel (Asks request) (side_of outcome)) []
    → StandsFor engines setting new (told new) is
send_by {engines = engines} {setting = setting} old new was is pid worker seat calls shed request engine mail part Put keeps going slot call fits posts after gives counts closes records =
    let w : World = told old in
    let m = keeps.mirrors in
    let give : Given = give_as worker pid calls seat.fuel (Asks request) SideIs.Nothing in
    let r : World = home (recorded w give) pid in
    let p : Process = come_home (w.process pid) give in
    let n : Tally = recording w give in
    let b : Becomes w r pid p n = becomes-home w give in
    let out : (w.process pid).stage ≡ Out worker = slot-out old was pid worker keeps slot in
    let puts = posts.2 in
    let room : message_count (w.process pid).mail < most_messages = rw (m.mail pid) posts.1 in
    let answer = answer_at r (arg request 0) pid p false 0 posts.0 b.alters.at (answer_room p false refl room) in
    let part_is : seat.part ≡ part_after_turn (w.process pid) give = part-asked (w.process pid) worker pid calls seat.fuel request SideIs.Nothing seat.part refl fits.seated.part in
    let scratch : (r.process pid).part.scratch ≡ Some puts.scratch = ap (λ (x : Process). x.part.scratch) b.alters.at ∙ ap (λ (x : Part). x.scratch) (sym part_is) ∙ puts.was in
    let mail_is : mail ≡ (w.process pid).mail ++ Letter w.sends puts.scratch.message ∷ [] = rw (m.mail pid, m.sends) puts.behind in
    let counted : sending n ≡ held_tally is =
    tally-is (sending n) is (ap (λ (k : ℕ). k + 1) m.sends ∙ sym counts.sends_are) (m.time ∙ sym counts.time_is) (m.streams ∙ sym closes.streams_are)
    (both-closed w.closed was.closed _ shed m.closed (sym fits.seated.closed) ∙ sym closes.closed_are) in
    keeps-answered old new was is pid worker seat calls shed (Asks request) request SideIs.Nothing SideIs.Nothing (number_reply 0) (Came.Answered (number_reply 0)) engine
    (sent r pid pid request (Some puts.scratch))
    part (settled (part_after_turn (w.process pid) give) SentOff) mail ((w.process pid).mail ++ Letter w.sends puts.scratch.message ∷ []) seat.owed None (sending n)
    keeps going slot fits fits.allowed fits.phase.0 refl
    (becomes_sent w r pid p n request puts.scratch b refl)
    (given-out (w.process pid).stage worker old.births w give out
    ∙ send_is old.births r pid request SideIs.Nothing (Some puts.scratch) 0 call answer scratch
    ∙ ap (λ (k : ℕ). sent r pid k request (Some puts.scratch)) posts.0)
    after (puts.left ∙ ap (λ (x : Part). settled x SentOff) part_is) mail_is (fits.phase.1 ∙ send-unkept request call) refl counted gives counts.row_is counts.over records
send_by {engines = engines} {setting = setting} old new was is pid worker seat calls shed request engine mail part Nobody keeps going slot call fits posts after gives counts closes records =
    let w : World = told old in
    let give : Given = give_as worker pid calls seat.fuel (Asks request) SideIs.Nothing in
    let r : World = home (recorded w give) pid in
    let b = becomes-home w give in
    let one : pid ≡ 1 = first-is w pid is_away keeps.first refl (with-away (w.process pid).stage worker fits.allowed.away) in
    let to : ℕ = arg request 0 in
    let unborn : (r.process to).stage ≡ Unborn = ap (λ (x : Process). x.stage) (b.alters.others to posts.0) ∙ keeps.first.others to (λ e. posts.0 (e ∙ sym one)) in
    stays old new was is pid worker seat calls shed request SideIs.Nothing 1 engine mail part keeps going slot call fits fits.allowed refl refl
    (send_is old.births r pid request SideIs.Nothing (r.process pid).part.scratch 1 call (answer_nobody (r.process to) false unborn) refl)
    posts.1 after gives counts closes records
send_by {engines = engines} {setting = setting} old new was is pid worker seat calls shed request engine mail part Full keeps going slot call fits posts after gives counts closes records =
    let w : World = told old in
    let give : Given = give_as worker pid calls seat.fuel (Asks request) SideIs.Nothing in
    let r : World = home (recorded w give) pid in
    let p : Process = come_home (w.process pid) give in
    let b = becomes-home w give in
    let full : most_messages ≤ message_count (w.process pid).mail = rw (keeps.mirrors.mail pid) posts.1 in
    let answer = answer_at r (arg request 0) pid p false 2 posts.0 b.alters.at (answer_full p false refl full) in
    stays old new was is pid worker seat calls shed request SideIs.Nothing 2 engine mail part keeps going slot call fits fits.allowed refl refl
    (send_is old.births r pid request SideIs.Nothing (r.process pid).part.scratch 2 call answer refl)
    posts.2 after gives counts closes records
send_by {engines = engines} {setting = setting} old new was is pid worker seat calls shed request engine mail part Refused keeps going slot call fits posts after gives counts closes records =
    let w : World = told old in
    let give : Given = give_as worker pid calls seat.fuel (Asks request) SideIs.NoMemory in
    let r : World = home (recorded w give) pid in
    let p : Process = come_home (w.process pid) give in
    let b = becomes-home w give in
    let out : (w.process pid).stage ≡ Out worker = slot-out old was pid worker keeps slot in
    let room : message_count (w.process pid).mail < most_messages = rw (keeps.mirrors.mail pid) posts.1 in
    let answer = answer_at r (arg request 0) pid p true 12 posts.0 b.alters.at (answer_room p true refl room) in
    let before = answer_at w (arg request 0) pid (w.process pid) false 0 posts.0 refl (answer_room (w.process pid) false (ap is_live out) room) in
    let own = own-asked old.births w worker pid seat calls request SideIs.Nothing shed fits in
    stays old new was is pid worker seat calls shed request SideIs.NoMemory 12 engine mail part keeps going slot call fits
    (refusal_fits (Some (terms_of setting)) old.births w worker pid calls seat.fuel request own out call before fits.allowed) refl refl
    (send_is old.births r pid request SideIs.NoMemory (r.process pid).part.scratch 12 call answer refl)
    posts.2 after gives counts closes records

-- SEND. A process that asks for a send is answered by what became of its message, and goes behind the ready list.
pub keeps-send : {E P : Type 0} {engines : Meaning E P} {setting : Setting P} (old new : Book) (was is : Held E) (pid worker : ℕ) (brought : Brought E) (request : Request) (engine : E)
    (mail : List MailItem) (part : Part) (outcome : Post)
    → StandsFor engines setting old (told old) was → was.over ≡ false
    → was.slots pid ≡ Away worker → request.ask.call ≡ 8
    → TurnFits engines setting old.births (told old) worker pid brought → brought.halt ≡ Asks request → brought.side ≡ SideIs.Nothing
    → Posts (slice_index request.ask.args 0) pid was.sends (was.mail pid) brought.seat.part mail part outcome
    → IsAnswered engines brought.seat.engine (number_reply (code_of outcome)) engine
    → GivesBack was is pid (Home (record brought.seat { engine = engine; part = part })) true mail None
    → Counts was is (sends_after outcome was.sends) was.time 0 → Closes was is was.streams brought.shed
    → Records old new (entry_of worker pid brought (side_of outcome)) []
    → StandsFor engines setting new (told new) is
keeps-send old new was is pid worker brought request engine mail part outcome keeps going slot call fits halt side posts after gives counts closes records =
    send_by old new was is pid worker brought.seat brought.calls brought.shed request engine mail part outcome keeps going slot call
    (brings old.births (told old) worker pid brought (Asks request) SideIs.Nothing halt side fits) posts after gives counts closes
    (records-as old new worker pid brought (Asks request) (side_of outcome) (side_of outcome) [] halt refl records)
