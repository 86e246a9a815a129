use Rattle.std.proofs.Common.{◌≡◌, ℕ, ◌+◌, List, [], ◌∷◌, ◌++◌, Option, Some, None, Bool, true, false, cond, option_map, refl, sym, ◌∙◌, ap, subst}
use Rattle.host_port.specs.declared.ask.Ask.{Ask}
use Rattle.host_port.specs.declared.call.Call.{Call}
use Rattle.host_port.specs.declared.request.Request.{Request}
use Rattle.host_port.specs.declared.reply.Reply.{Reply}
use Rattle.host_port.specs.Areas.{request_of}
use Rattle.world_rules.specs.declared.entry.Side.{Side}
use Rattle.world_rules.specs.declared.entry.Side.TheVariants as SideIs
use Rattle.world_rules.specs.declared.halt.Halt.{Halt}
use Rattle.world_rules.specs.declared.life.Birth.{Birth}
use Rattle.world_rules.specs.Answers.{written_reply}
use Rattle.world_rules.specs.Arrivals.{What}
use Rattle.world_rules.specs.Arrivals as Came
use Rattle.world_rules.specs.Book.{Book}
use Rattle.world_rules.specs.Calls.{HostCall, call_of}
use Rattle.world_rules.specs.Calls as CallIs
use Rattle.world_rules.specs.Changes.{readied, with_arrival, with_part, replied, pended}
use Rattle.world_rules.specs.Lives.{Setting}
use Rattle.world_rules.specs.Moves as Moves
use Rattle.world_rules.specs.Outside.{stream_drawn, opened, bound, id_address}
use Rattle.world_rules.specs.Part.{Part}
use Rattle.world_rules.specs.Rules.{turned, recorded, home, happened, performed, part_after_turn}
use Rattle.world_rules.specs.Settled.{settled, StreamOpened, ListenerBound}
use Rattle.world_rules.specs.Sound.{IsInOrder, Rise, is_born}
use Rattle.world_rules.specs.Streams.{has_result}
use Rattle.world_rules.specs.Told.{told}
use Rattle.world_rules.specs.Views.{Given, Giving as GivesBack}
use Rattle.world_rules.specs.World.{World, Process, Ready, Out, is_home, is_waiting, with_process, with_moves}
use Rattle.node_state.specs.Seats.{Meaning, Seat, StandsAt, IsSeatOf, phase_by}
use Rattle.node_state.specs.Fits.{Brought, Owes, IsAnswered, SeatFits, is_bound, give_of}
use Rattle.node_state.specs.Posts.{id_of, id_in}
use Rattle.node_laws.proofs.Tallies.{Tally}
use Rattle.node_laws.proofs.Gives.{give_as, bring, both-closed}
use Rattle.node_laws.proofs.Worlds.{Becomes, with_reply, recording, becomes-back, becomes-answered, becomes-pended, becomes-opened, becomes-bound, given-out}
use Rattle.node_laws.proofs.Requests.{asking}
use Rattle.node_laws.proofs.OutsideRows.{performs-outside, id-named}
use Rattle.node_mirror.specs.Slots.{Home, Away, IsHome}
use Rattle.node_mirror.specs.Held.{Held, Mirrors, StandsFor}
use Rattle.node_mirror.specs.Fits.{TurnFits}
use Rattle.node_mirror.specs.Steps.{back}
use Rattle.node_mirror.proofs.Rising.{turn_rise, settled_rise}
use Rattle.node_mirror.proofs.Backs.{ComesBack, rest_of, rest-recorded, away-out, orders-one, becomes-mirrors}
use Rattle.node_mirror.proofs.MayGive.{refusing, may-give}
use Rattle.node_mirror.proofs.Asks.{brings}
use Rattle.node_mirror.proofs.Outward.{outward, with_name, part-outward, part-unbound}

-- A process comes back that has called the outside.

-- who was out is in order where it is at home, and waits for nothing
order_home : (pid worker : ℕ) (p q : Process) → IsInOrder pid p → p.stage ≡ Out worker → q.start ≡ p.start → q.mail ≡ p.mail → q.deadline ≡ None → Rise q.part.handles → IsInOrder pid q
order_home pid worker p q order out started mailed undue rise = record {
  own = λ _. ap (λ s. s.pid) started ∙ order.own (ap is_born out);
  deadline = λ _. undue;
  mail = rw mailed order.mail;
  handles = rise;
}

-- NO ANSWER YET
pended_back : {E P : Type 0} {engines : Meaning E P} {setting : Setting P} (old : Book) (was : Held E) (births : List Birth) (pid worker : ℕ) (seat : Seat E) (calls : List Call) (halt : Halt)
    (shed : List ℕ) → StandsFor engines setting old (told old) was → was.slots pid ≡ Away worker
    → TurnFits engines setting old.births (told old) worker pid (bring seat calls halt SideIs.Pending shed)
    → Mirrors engines setting (happened births (told old) (GivesBack (give_as worker pid calls seat.fuel halt SideIs.Pending))) (back was pid (Home seat) was.time shed) old.ends
pended_back {engines = engines} {setting = setting} old was births pid worker seat calls halt shed keeps slot fits =
    let w : World = told old in
    let m = keeps.mirrors in
    let p : Process = w.process pid in
    let give : Given = give_as worker pid calls seat.fuel halt SideIs.Pending in
    let o = outward {engines = engines} None (refusing old.births) w worker pid seat calls halt SideIs.Pending refl
    (may-give old worker pid (bring seat calls halt SideIs.Pending shed) keeps.run fits) fits.phase in
    let r : World = home (recorded w give) pid in
    let n : Tally = recording w give in
    let back_home : Process = record (turned p give) { stage = Ready } in
    let b : Becomes w r pid back_home n = becomes-back w give o.unstarved in
    let v : World = pended r pid o.request in
    let q : Process = record back_home { stage = Ready; owed = Some o.request } in
    let c : Becomes w v pid q n = becomes-pended w r pid back_home n o.request b in
    let out : p.stage ≡ Out worker = away-out pid worker m slot in
    let seated : IsSeatOf engines setting.programs q (phase_by seat.owed) seat = record {
      stands = fits.seated.stands;
      start = fits.seated.start;
      part = part-outward w worker pid seat calls halt SideIs.Pending shed o fits.seated ∙ part-unbound o.call.name SideIs.Pending (part_after_turn p give) refl;
      fuel = refl;
      owed = ap (λ (x : Request). Some x) o.owes.bytes ∙ ap (λ (x : Option Ask). option_map (request_of (engines.memory seat.engine)) x) (sym o.owed);
      phase = o.owes.phase ∙ ap phase_by (sym o.owed);
    } in
    let at_home : IsHome engines setting.programs q seat = record { stage = refl; seated = seated; tries = fits.pending refl } in
    let undue : p.deadline ≡ None = (m.order.each pid).deadline (ap is_waiting out) in
    let comes : ComesBack w v pid q n = record {
      becomes = c;
      order = orders-one w v pid worker q m.order out c.alters c.over (rest-recorded w give) refl refl
          (order_home pid worker p q (m.order.each pid) out refl refl undue (turn_rise p give (m.order.each pid).handles));
      rest = rest-recorded w give;
    } in
    subst (λ (x : World). Mirrors engines setting x (back was pid (Home seat) was.time shed) old.ends)
    (sym (given-out p.stage worker births w give out ∙ o.performs births r (ap (λ (x : Process). x.owed) b.alters.at)))
    (becomes-mirrors engines setting w v was old.ends pid worker q n (Home seat) was.time was.streams shed m slot comes refl refl refl refl at_home m.sends m.time m.streams
    (both-closed w.closed was.closed _ shed m.closed (sym fits.seated.closed)))

-- PENDING
pub pending-back : {E P : Type 0} {engines : Meaning E P} {setting : Setting P} (old : Book) (was : Held E) (births : List Birth) (pid worker : ℕ) (brought : Brought E)
    → StandsFor engines setting old (told old) was → was.slots pid ≡ Away worker → brought.side ≡ SideIs.Pending
    → TurnFits engines setting old.births (told old) worker pid brought
    → Mirrors engines setting (happened births (told old) (GivesBack (record (give_of worker pid brought) { side = SideIs.Pending }))) (back was pid (Home brought.seat) was.time brought.shed) old.ends
pending-back old was births pid worker brought keeps slot side fits =
    pended_back old was births pid worker brought.seat brought.calls brought.halt brought.shed keeps slot
    (brings old.births (told old) worker pid brought brought.halt SideIs.Pending refl side fits)

-- ANSWERED

answered_rest : (b : Bool) (v : World) (pid : ℕ) (request : Request) (reply : Reply) (what : What)
    → rest_of (cond b (with_arrival (with_process v pid (readied (v.process pid) request reply)) pid what) v) ≡ rest_of v
answered_rest true v pid request reply what = refl
answered_rest false v pid request reply what = refl

bound_rest : (name : HostCall) (v : World) (pid : ℕ) (reply : Reply) → rest_of (bound name v pid reply) ≡ rest_of v
bound_rest CallIs.Bind v pid reply = one (has_result 0 reply)
  where
    one : (b : Bool) → rest_of (cond b (with_part v pid (settled (v.process pid).part ListenerBound)) v) ≡ rest_of v
    one true = refl
    one false = refl
bound_rest _ v pid reply = refl

-- a listener is bound where the call of this name was answered so
becomes_bound : (name : HostCall) (w v : World) (pid : ℕ) (p : Process) (n : Tally) (reply : Reply) → Becomes w v pid p n
    → Becomes w (bound name v pid reply) pid (record p { part = with_name name (SideIs.Answer reply) p.part }) n
becomes_bound CallIs.Bind w v pid p n reply b =
    one (has_result 0 reply) refl
  where
    one : (t : Bool) → has_result 0 reply ≡ t → Becomes w (bound CallIs.Bind v pid reply) pid (record p { part = with_name CallIs.Bind (SideIs.Answer reply) p.part }) n
    one true is = rw is (becomes-bound w v pid p n b)
    one false is = rw is b
becomes_bound _ w v pid p n reply b = b

named_rise : (b : Bool) (part : Part) → Rise part.handles → Rise (cond b (settled part ListenerBound) part).handles
named_rise true part rise = rise
named_rise false part rise = rise

-- the request of a process that comes back is answered
answered_back : {E P : Type 0} {engines : Meaning E P} {setting : Setting P} (old : Book) (was : Held E) (pid worker : ℕ) (seat : Seat E) (calls : List Call) (halt : Halt) (side : Side)
    (shed : List ℕ) (request : Request) (reply : Reply) (what : What) (engine : E) (v : World) (part part_now : Part) (n : Tally) (streams : ℕ)
    → StandsFor engines setting old (told old) was → was.slots pid ≡ Away worker
    → SeatFits engines setting.programs ((told old).process pid) (bring seat calls halt side shed) (give_as worker pid calls seat.fuel halt side)
    → Owes engines seat.engine request → IsAnswered engines seat.engine reply engine
    → Becomes (told old) v pid (with_reply (asking ((told old).process pid) (give_as worker pid calls seat.fuel halt side) part_now ((told old).process pid).mail) request reply what) n
    → rest_of v ≡ rest_of (told old) → part ≡ part_now → Rise part_now.handles
    → n.sends ≡ was.sends → n.time ≡ was.time → n.streams ≡ streams → n.closed ≡ was.closed ++ shed
    → Mirrors engines setting v
    (record (back was pid (Home (record { engine = engine; start = seat.start; part = part; fuel = seat.fuel; owed = None })) was.time shed) { streams = streams }) old.ends
answered_back {engines = engines} {setting = setting} old was pid worker seat calls halt side shed request reply what engine v part part_now n streams keeps slot fits owes after b rest part_is rise
    sends time streams_is closed =
    let w : World = told old in
    let m = keeps.mirrors in
    let p : Process = w.process pid in
    let give : Given = give_as worker pid calls seat.fuel halt side in
    let q : Process = with_reply (asking p give part_now p.mail) request reply what in
    let s : Seat _ = record { engine = engine; start = seat.start; part = part; fuel = seat.fuel; owed = None } in
    let out : p.stage ≡ Out worker = away-out pid worker m slot in
    let stands : StandsAt engines setting.programs q engine q.calls q.fuel =
    λ program found. subst (λ (r : Request). engines.stands engine program p.start ((p.calls ++ calls) ++ record { request = r; reply = reply } ∷ []) seat.fuel) (sym owes.bytes)
    (after.stands program p.start (p.calls ++ calls) seat.fuel request.ask owes.phase (fits.stands program found)) in
    let seated : IsSeatOf engines setting.programs q (phase_by None) s = record { stands = stands; start = fits.start; part = part_is; fuel = refl; owed = refl; phase = after.running } in
    let at_home : IsHome engines setting.programs q s = record { stage = refl; seated = seated; tries = tt } in
    let undue : p.deadline ≡ None = (m.order.each pid).deadline (ap is_waiting out) in
    let comes : ComesBack w v pid q n = record {
      becomes = b;
      order = orders-one w v pid worker q m.order out b.alters b.over rest refl refl (order_home pid worker p q (m.order.each pid) out refl refl refl rise);
      rest = rest;
    } in
    becomes-mirrors engines setting w v was old.ends pid worker q n (Home s) was.time streams shed m slot comes refl refl refl (sym undue) at_home sends time streams_is closed

replied_back : {E P : Type 0} {engines : Meaning E P} {setting : Setting P} (old : Book) (was : Held E) (births : List Birth) (pid worker : ℕ) (seat : Seat E) (calls : List Call) (halt : Halt)
    (shed : List ℕ) (reply : Reply) (engine : E) → StandsFor engines setting old (told old) was → was.slots pid ≡ Away worker
    → TurnFits engines setting old.births (told old) worker pid (bring seat calls halt (SideIs.Answer reply) shed) → IsAnswered engines seat.engine reply engine
    → Mirrors engines setting (happened births (told old) (GivesBack (give_as worker pid calls seat.fuel halt (SideIs.Answer reply))))
    (back was pid (Home (record seat { engine = engine; owed = None })) was.time shed) old.ends
replied_back {engines = engines} {setting = setting} old was births pid worker seat calls halt shed reply engine keeps slot fits after =
    let w : World = told old in
    let m = keeps.mirrors in
    let p : Process = w.process pid in
    let answers : Side = SideIs.Answer reply in
    let give : Given = give_as worker pid calls seat.fuel halt answers in
    let o = outward {engines = engines} None (refusing old.births) w worker pid seat calls halt answers refl (may-give old worker pid (bring seat calls halt answers shed) keeps.run fits) fits.phase in
    let name : HostCall = o.call.name in
    let request : Request = o.request in
    let r : World = home (recorded w give) pid in
    let n : Tally = recording w give in
    let back_home : Process = record (turned p give) { stage = Ready } in
    let b : Becomes w r pid back_home n = becomes-back w give o.unstarved in
    let part_now : Part = with_name name answers (part_after_turn p give) in
    let u : World = bound name r pid reply in
    let c : Becomes w u pid (record back_home { part = part_now }) n = becomes_bound name w r pid back_home n reply b in
    let v : World = replied u pid request reply in
    let rest : rest_of v ≡ rest_of w = answered_rest (is_home (u.process pid).stage) u pid request reply (Came.Answered reply) ∙ bound_rest name r pid reply ∙ rest-recorded w give in
    subst (λ (x : World). Mirrors engines setting x (back was pid (Home (record seat { engine = engine; owed = None })) was.time shed) old.ends)
    (sym (given-out p.stage worker births w give (away-out pid worker m slot) ∙ o.performs births r (ap (λ (x : Process). x.owed) b.alters.at)
    ∙ ap (λ (call : Option HostCall). performed births call r pid request answers) o.call.called
    ∙ performs-outside name births r pid request answers o.call.named))
    (answered_back old was pid worker seat calls halt answers shed request reply (Came.Answered reply) engine v seat.part part_now n was.streams keeps slot fits.seated o.owes after
    (becomes-answered w u pid (asking p give part_now p.mail) n request reply (Came.Answered reply) c refl)
    rest (part-outward w worker pid seat calls halt answers shed o fits.seated)
    (named_rise (is_bound (Some name) answers) (part_after_turn p give) (turn_rise p give (m.order.each pid).handles)) m.sends m.time m.streams
    (both-closed w.closed was.closed _ shed m.closed (sym fits.seated.closed)))

-- ANSWER
pub answer-back : {E P : Type 0} {engines : Meaning E P} {setting : Setting P} (old : Book) (was : Held E) (births : List Birth) (pid worker : ℕ) (brought : Brought E) (reply : Reply) (engine : E)
    → StandsFor engines setting old (told old) was → was.slots pid ≡ Away worker → brought.side ≡ SideIs.Answer reply
    → TurnFits engines setting old.births (told old) worker pid brought → IsAnswered engines brought.seat.engine reply engine
    → Mirrors engines setting (happened births (told old) (GivesBack (record (give_of worker pid brought) { side = SideIs.Answer reply })))
    (back was pid (Home (record brought.seat { engine = engine; owed = None })) was.time brought.shed) old.ends
answer-back old was births pid worker brought reply engine keeps slot side fits after =
    replied_back old was births pid worker brought.seat brought.calls brought.halt brought.shed reply engine keeps slot
    (brings old.births (told old) worker pid brought brought.halt (SideIs.Answer reply) refl side fits) after

-- OPENED

some_ask : (a b : Ask) → Some a ≡ Some b → a ≡ b
some_ask a b e = cc

-- what the engine is told of an opened stream
reply_opened : (name : HostCall) (request : Request) (ask : Ask) (was now : ℕ) → call_of request ≡ Some name → ask ≡ request.ask → was ≡ now
    → written_reply 0 (id_of ask) was ≡ written_reply 0 (id_address name request) now
reply_opened name request ask was now called same count =
    let at : id_of ask ≡ id_address name request =
    ap id_of same ∙ ap (λ (call : Option HostCall). id_in call request.ask.args) called ∙ id-named name request in
    (λ i. written_reply 0 (at i) (count i))

opened_back : {E P : Type 0} {engines : Meaning E P} {setting : Setting P} (old : Book) (was : Held E) (births : List Birth) (pid worker : ℕ) (seat : Seat E) (calls : List Call) (halt : Halt)
    (shed : List ℕ) (ask : Ask) (engine : E) → StandsFor engines setting old (told old) was → was.slots pid ≡ Away worker → seat.owed ≡ Some ask
    → TurnFits engines setting old.births (told old) worker pid (bring seat calls halt SideIs.Opened shed) → IsAnswered engines seat.engine (written_reply 0 (id_of ask) was.streams) engine
    → Mirrors engines setting (happened births (told old) (GivesBack (give_as worker pid calls seat.fuel halt SideIs.Opened)))
    (record (back was pid (Home (record seat { engine = engine; part = settled seat.part (StreamOpened was.streams); owed = None })) was.time shed) { streams = was.streams + 1 }) old.ends
opened_back {engines = engines} {setting = setting} old was births pid worker seat calls halt shed ask engine keeps slot owed fits after =
    let w : World = told old in
    let m = keeps.mirrors in
    let p : Process = w.process pid in
    let give : Given = give_as worker pid calls seat.fuel halt SideIs.Opened in
    let o = outward {engines = engines} None (refusing old.births) w worker pid seat calls halt SideIs.Opened refl
    (may-give old worker pid (bring seat calls halt SideIs.Opened shed) keeps.run fits) fits.phase in
    let name : HostCall = o.call.name in
    let request : Request = o.request in
    let r : World = home (recorded w give) pid in
    let n : Tally = recording w give in
    let back_home : Process = record (turned p give) { stage = Ready } in
    let b : Becomes w r pid back_home n = becomes-back w give o.unstarved in
    let more : Tally = record n { streams = n.streams + 1 } in
    let streams_is : was.streams ≡ r.streams = sym m.streams ∙ sym (ap (λ (t : Tally). t.streams) b.counted) in
    let part_now : Part = settled (part_after_turn p give) (StreamOpened r.streams) in
    let reply : Reply = written_reply 0 (id_address name request) r.streams in
    let told_is : written_reply 0 (id_of ask) was.streams ≡ reply = reply_opened name request ask was.streams r.streams o.call.called (some_ask ask request.ask (sym owed ∙ o.owed)) streams_is in
    let part_is : seat.part ≡ part_after_turn p give =
    part-outward w worker pid seat calls halt SideIs.Opened shed o fits.seated ∙ part-unbound name SideIs.Opened (part_after_turn p give) refl in
    let c = becomes-opened w r pid back_home n b in
    let v : World = opened name r pid request in
    let drawn : World = with_moves (with_part (stream_drawn r) pid (settled (r.process pid).part (StreamOpened r.streams))) (Moves.Opened r.streams pid ∷ []) in
    let d = becomes-answered w drawn pid (asking p give part_now p.mail) more request reply (Came.Opened reply) c refl in
    let rest : rest_of v ≡ rest_of w = answered_rest (is_home (drawn.process pid).stage) drawn pid request reply (Came.Opened reply) ∙ rest-recorded w give in
    subst (λ (x : World). Mirrors engines setting x
    (record (back was pid (Home (record seat { engine = engine; part = settled seat.part (StreamOpened was.streams); owed = None })) was.time shed) { streams = was.streams + 1 }) old.ends)
    (sym (given-out p.stage worker births w give (away-out pid worker m slot) ∙ o.performs births r (ap (λ (x : Process). x.owed) b.alters.at)
    ∙ ap (λ (call : Option HostCall). performed births call r pid request SideIs.Opened) o.call.called
    ∙ performs-outside name births r pid request SideIs.Opened o.call.named))
    (answered_back old was pid worker seat calls halt SideIs.Opened shed request reply (Came.Opened reply) engine v (settled seat.part (StreamOpened was.streams)) part_now more (was.streams + 1)
    keeps slot fits.seated o.owes (subst (λ (x : Reply). IsAnswered engines seat.engine x engine) told_is after) d rest
    (λ i. settled (part_is i) (StreamOpened (streams_is i)))
    (settled_rise (StreamOpened r.streams) (part_after_turn p give) (turn_rise p give (m.order.each pid).handles)) m.sends m.time (ap (λ (k : ℕ). k + 1) m.streams)
    (both-closed w.closed was.closed _ shed m.closed (sym fits.seated.closed)))

-- OPENING
pub opening-back : {E P : Type 0} {engines : Meaning E P} {setting : Setting P} (old : Book) (was : Held E) (births : List Birth) (pid worker : ℕ) (brought : Brought E) (ask : Ask) (engine : E)
    → StandsFor engines setting old (told old) was → was.slots pid ≡ Away worker → brought.side ≡ SideIs.Opened → brought.seat.owed ≡ Some ask
    → TurnFits engines setting old.births (told old) worker pid brought → IsAnswered engines brought.seat.engine (written_reply 0 (id_of ask) was.streams) engine
    → Mirrors engines setting (happened births (told old) (GivesBack (record (give_of worker pid brought) { side = SideIs.Opened })))
    (record (back was pid (Home (record brought.seat { engine = engine; part = settled brought.seat.part (StreamOpened was.streams); owed = None })) was.time brought.shed) {
      streams = was.streams + 1;
    }) old.ends
opening-back old was births pid worker brought ask engine keeps slot side owed fits after =
    opened_back old was births pid worker brought.seat brought.calls brought.halt brought.shed ask engine keeps slot owed
    (brings old.births (told old) worker pid brought brought.halt SideIs.Opened refl side fits) after
