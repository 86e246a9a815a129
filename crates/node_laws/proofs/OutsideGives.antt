use Rattle.std.specs.Prelude.{IfSome, IsSome}
use Rattle.std.proofs.Common.{◌≡◌, ℕ, ◌+◌, ◌<◌, ◌≤◌, ◌^◌, List, [], ◌++◌, length, Option, Some, None, Bool, true, false, cond, option_map, refl, sym, ◌∙◌, ap, subst}
use Rattle.host_port.specs.declared.ask.Ask.{Ask}
use Rattle.host_port.specs.declared.call.Call.{Call}
use Rattle.host_port.specs.declared.request.Request.{Request}
use Rattle.host_port.specs.declared.reply.Reply.{Reply}
use Rattle.host_port.specs.Areas.{request_of, areas_fit}
use Rattle.host_port.specs.Steps.{IsAnswerable}
use Rattle.world_rules.specs.declared.entry.Side.{Side}
use Rattle.world_rules.specs.declared.entry.Side.TheVariants as SideIs
use Rattle.world_rules.specs.declared.halt.Halt.{Halt}
use Rattle.world_rules.specs.declared.halt.Halt.TheVariants as HaltIs
use Rattle.world_rules.specs.declared.halt.End.{End}
use Rattle.world_rules.specs.declared.halt.End.TheVariants as EndIs
use Rattle.world_rules.specs.declared.life.Birth.{Birth}
use Rattle.world_rules.specs.Answers.{written_reply}
use Rattle.world_rules.specs.Arrivals as Came
use Rattle.world_rules.specs.Births.{Terms}
use Rattle.world_rules.specs.Book.{Book}
use Rattle.world_rules.specs.Calls.{HostCall, call_of, call_numbered}
use Rattle.world_rules.specs.Calls as CallIs
use Rattle.world_rules.specs.Kinds.{kind_of, may_come}
use Rattle.world_rules.specs.Outside.{opened, bound, id_address}
use Rattle.world_rules.specs.Part.{Part}
use Rattle.world_rules.specs.Settled.{settled, StreamOpened, ListenerBound}
use Rattle.world_rules.specs.Sound.{IsSound}
use Rattle.world_rules.specs.Streams.{has_result}
use Rattle.world_rules.specs.Views.{Given, Want, Ends, want_of, wanted_in, answer_in, is_pending, is_starved}
use Rattle.world_rules.specs.World.{World, Process, Stage, Ready, Out, is_waiting}
use Rattle.world_rules.specs.Changes.{replied, pended}
use Rattle.world_rules.specs.Rules.{turned, recorded, home, halted, asked, retried, performed, part_after_turn, is_pending_give}
use Rattle.world_rules.specs.Allowed.{GivesTurn, WantFits, RetryEndsSo, RetryFits, SideFits}
use Rattle.world_rules.specs.Allowed.{TurnFits as IsAllowedTurn}
use Rattle.world_rules.specs.Told.{told}
use Rattle.world_rules.specs.Lives.{Setting, terms_of}
use Rattle.node_state.specs.Seats.{Meaning, Seat, IsSeatOf, IsAsked, phase_by}
use Rattle.node_state.specs.Slots.{Home, Away, IsHome}
use Rattle.node_state.specs.Held.{Held, StandsFor}
use Rattle.node_state.specs.Fits.{Brought, TurnFits, Owes, PartFits, IsAnswered, entry_of, is_bound, is_outside, kept_ask, with_bound, part_brought}
use Rattle.node_state.specs.Posts.{id_of, id_in}
use Rattle.node_state.specs.Changes.{Records, GivesBack, Counts, Closes}
use Rattle.node_laws.proofs.ReadyList.{true_is_not_false}
use Rattle.node_laws.proofs.Tallies.{Tally, held_tally, tally-is}
use Rattle.node_laws.proofs.Gives.{give_as, bring, brings, slot-out, unbound, both-closed, keeps-give, settles-on}
use Rattle.node_laws.proofs.Worlds.{Becomes, recording, becomes-back, becomes-answered, becomes-pended, becomes-opened, becomes-bound, given-out}
use Rattle.node_laws.proofs.Requests.{asking, own-asked, keeps-answered}
use Rattle.node_laws.proofs.OutsideRows.{IsOutsideCall, is_external, outside-call, performs-outside, id-named, answer-fits, row-form, tells-opening}

-- A process is given back that has called the outside.

-- WHAT IT HAS ASKED

-- a process that is given back beside what came from outside: the request that it has asked, or has tried again, which its
-- engine owes; what came beside it fits; and what its halt is performed as
pub record IsOutward {E P : Type 0} (engines : Meaning E P) (births : List Birth) (w : World) (pid : ℕ) (seat : Seat E) (halt : Halt) (side : Side) : Type 0 where
  pub request : Request
  pub owes : Owes engines seat.engine request
  pub owed : seat.owed ≡ Some request.ask
  pub unstarved : is_starved halt ≡ false
  pub wanted : wanted_in (want_of halt) (w.process pid).owed ≡ Some request
  pub part : Part
  pub beside : SideFits (may_come request) w pid part request side
  pub call : IsOutsideCall request
  pub performs : (r : World) → (r.process pid).owed ≡ (w.process pid).owed → halted (want_of halt) births r pid side ≡ asked (is_pending side) births r pid request side

-- where a process ends nothing comes beside it
ends_silent : (terms : Option Terms) (births : List Birth) (w : World) (p : Process) (give : Given) (owed : Option Request) (end : End) → want_of give.halt ≡ Ends end
    → GivesTurn terms births w p give owed → give.side ≡ SideIs.Nothing
ends_silent terms births w p give None end is turn =
    let t : WantFits terms births w p give (Ends end) = subst (λ (want : Want). WantFits terms births w p give want) is turn.halted in
    t.0
ends_silent terms births w p give (Some request) end is turn =
    let t : RetryEndsSo terms births w p give request (Ends end) = subst (λ (want : Want). RetryEndsSo terms births w p give request want) is turn.halted in
    t.1

goes_silent : (terms : Option Terms) (births : List Birth) (w : World) (p : Process) (worker pid : ℕ) (calls : List Call) (fuel : ℕ) (side : Side) (owed : Option Request)
    → GivesTurn terms births w p (give_as worker pid calls fuel HaltIs.Slice side) owed → side ≡ SideIs.Nothing
goes_silent terms births w p worker pid calls fuel side None turn = turn.halted.0
goes_silent terms births w p worker pid calls fuel side (Some request) turn = absurd turn.halted

not_silent : {X : Type 0} (side : Side) → is_external side ≡ true → side ≡ SideIs.Nothing → X
not_silent side external silent = true_is_not_false (sym external ∙ ap is_external silent)

kept_so : (request : Request) → is_outside (kind_of request) ≡ true → kept_ask request ≡ Some request.ask
kept_so request outside = rw outside refl

pub outward : {E P : Type 0} {engines : Meaning E P} {setting : Setting P} (births : List Birth) (w : World) (worker pid : ℕ) (seat : Seat E) (calls : List Call) (halt : Halt) (side : Side)
    (shed : List ℕ) → is_external side ≡ true → TurnFits engines setting births w worker pid (bring seat calls halt side shed) → IsOutward engines births w pid seat halt side
outward {setting = setting} births w worker pid seat calls HaltIs.Slice side shed external fits =
    not_silent side external (goes_silent (Some (terms_of setting)) births w (w.process pid) worker pid calls seat.fuel side (w.process pid).owed fits.allowed.turn)
outward {setting = setting} births w worker pid seat calls (HaltIs.Asks request) side shed external fits =
    let give : Given = give_as worker pid calls seat.fuel (HaltIs.Asks request) side in
    let t : IsAllowedTurn (Some (terms_of setting)) births w (w.process pid) give = subst (λ (o : Option Request). GivesTurn (Some (terms_of setting)) births w (w.process pid) give o)
    (own-asked births w worker pid seat calls request side shed fits) fits.allowed.turn in
    let part : Part = (turned (w.process pid) give).part in
    let beside : SideFits (may_come request) w pid part request side = t.halted.beside.side in
    let call = outside-call w pid part request side external beside in
    record {
      request = request;
      owes = fits.phase.0;
      owed = fits.phase.1 ∙ kept_so request call.kind;
      unstarved = refl;
      wanted = refl;
      part = part;
      beside = beside;
      call = call;
      performs = λ r same. refl;
    }
outward {setting = setting} births w worker pid seat calls HaltIs.Done side shed external fits =
    not_silent side external
    (ends_silent (Some (terms_of setting)) births w (w.process pid) (give_as worker pid calls seat.fuel HaltIs.Done side) (w.process pid).owed EndIs.Done refl fits.allowed.turn)
outward {setting = setting} births w worker pid seat calls (HaltIs.Trap trap) side shed external fits =
    not_silent side external
    (ends_silent (Some (terms_of setting)) births w (w.process pid) (give_as worker pid calls seat.fuel (HaltIs.Trap trap) side) (w.process pid).owed (EndIs.Trap trap) refl fits.allowed.turn)
outward {setting = setting} births w worker pid seat calls (HaltIs.Spent spent) side shed external fits =
    not_silent side external
    (ends_silent (Some (terms_of setting)) births w (w.process pid) (give_as worker pid calls seat.fuel (HaltIs.Spent spent) side) (w.process pid).owed (EndIs.Spent spent) refl fits.allowed.turn)
outward {setting = setting} births w worker pid seat calls (HaltIs.Host fault request) side shed external fits =
    not_silent side external
    (ends_silent (Some (terms_of setting)) births w (w.process pid) (give_as worker pid calls seat.fuel (HaltIs.Host fault request) side) (w.process pid).owed (EndIs.Host fault) refl
    fits.allowed.turn)
outward {setting = setting} births w worker pid seat calls HaltIs.NoMemory side shed external fits =
    not_silent side external
    (ends_silent (Some (terms_of setting)) births w (w.process pid) (give_as worker pid calls seat.fuel HaltIs.NoMemory side) (w.process pid).owed EndIs.NoMemory refl fits.allowed.turn)
outward {setting = setting} births w worker pid seat calls HaltIs.Again side shed external fits =
    let give : Given = give_as worker pid calls seat.fuel HaltIs.Again side in
    let owes = fits.phase in
    let request : Request = owes.0 in
    let t : RetryFits (Some (terms_of setting)) births w (w.process pid) give request = subst (λ (o : Option Request). GivesTurn (Some (terms_of setting)) births w (w.process pid) give o) owes.1
    fits.allowed.turn in
    let part : Part = (w.process pid).part in
    let beside : SideFits (may_come request) w pid part request side = t.halted.side in
    record {
      request = request;
      owes = owes.2;
      owed = owes.3;
      unstarved = refl;
      wanted = owes.1;
      part = part;
      beside = beside;
      call = outside-call w pid part request side external beside;
      performs = λ r same. ap (λ (o : Option Request). retried o births r pid side) (same ∙ owes.1);
    }

-- the same of what is brought back, its side being known
outward_brought : {E P : Type 0} {engines : Meaning E P} {setting : Setting P} (births : List Birth) (w : World) (worker pid : ℕ) (brought : Brought E) (side : Side) → brought.side ≡ side
    → is_external side ≡ true → TurnFits engines setting births w worker pid brought → IsOutward engines births w pid brought.seat brought.halt side
outward_brought births w worker pid brought side is external fits =
    outward births w worker pid brought.seat brought.calls brought.halt side brought.shed external (brings births w worker pid brought brought.halt side refl is fits)

-- THE PART THAT COMES BACK

part_fits : (part : Part) (halt : Halt) (after : Part) → is_starved halt ≡ false → PartFits part halt after → part ≡ after
part_fits part HaltIs.Slice after free fits = fits
part_fits part (HaltIs.Asks request) after free fits = fits
part_fits part HaltIs.Done after free fits = fits
part_fits part (HaltIs.Trap trap) after free fits = fits
part_fits part (HaltIs.Spent spent) after free fits = fits
part_fits part (HaltIs.Host fault request) after free fits = fits
part_fits part HaltIs.NoMemory after free fits = true_is_not_false free
part_fits part HaltIs.Again after free fits = fits

-- with a listener where the call of this name was answered so
abbrev with_name : HostCall → Side → Part → Part
with_name name side part = cond (is_bound (Some name) side) (settled part ListenerBound) part

-- the part that comes back with an outward process
part_outward : {E P : Type 0} {engines : Meaning E P} {setting : Setting P} (births : List Birth) (w : World) (worker pid : ℕ) (seat : Seat E) (calls : List Call) (halt : Halt) (side : Side)
    (shed : List ℕ) → (o : IsOutward engines births w pid seat halt side) → TurnFits engines setting births w worker pid (bring seat calls halt side shed)
    → seat.part ≡ with_name o.call.name side (part_after_turn (w.process pid) (give_as worker pid calls seat.fuel halt side))
part_outward births w worker pid seat calls halt side shed o fits =
    let give : Given = give_as worker pid calls seat.fuel halt side in
    let after : Part = part_after_turn (w.process pid) give in
    part_fits seat.part halt (part_brought (w.process pid) give) o.unstarved fits.seated.part
    ∙ ap (λ (wanted : Option Request). with_bound wanted side after) o.wanted
    ∙ ap (λ (call : Option HostCall). cond (is_bound call side) (settled after ListenerBound) after) o.call.called

part_unbound : (name : HostCall) (side : Side) (part : Part) → answer_in side ≡ None → with_name name side part ≡ part
part_unbound name side part none = ap (λ (b : Bool). cond b (settled part ListenerBound) part) (unbound (Some name) side none)

-- NO ANSWER YET

out_pends : (stage : Stage) (worker : ℕ) → stage ≡ Out worker → is_pending_give stage SideIs.Pending ≡ true
out_pends stage worker is = rw is refl

-- so much is counted beside what the outside has answered
tally_outward : {E P : Type 0} {engines : Meaning E P} {setting : Setting P} (old : Book) (was is : Held E) (pid worker : ℕ) (brought : Brought E) (side : Side) (row : ℕ)
    → StandsFor engines setting old (told old) was → TurnFits engines setting old.births (told old) worker pid brought
    → Counts was is was.sends was.time row → (recording (told old) (give_as worker pid brought.calls brought.seat.fuel brought.halt side)).time ≡ (told old).time
    → is.closed ≡ was.closed ++ brought.shed → (streams : ℕ) → streams ≡ is.streams
    → record (recording (told old) (give_as worker pid brought.calls brought.seat.fuel brought.halt side)) { streams = streams } ≡ held_tally is
tally_outward old was is pid worker brought side row keeps fits counts untimed closed streams streams_is =
    let w : World = told old in
    let m = keeps.mirrors in
    tally-is (record (recording w (give_as worker pid brought.calls brought.seat.fuel brought.halt side)) { streams = streams }) is (m.sends ∙ sym counts.sends_are)
    (untimed ∙ m.time ∙ sym counts.time_is) streams_is
    (both-closed w.closed was.closed _ brought.shed m.closed (sym fits.seated.closed) ∙ sym closed)

-- PENDING. A process whose request can't be answered yet goes behind the ready list with the ask that it owes.
pub keeps-pending : {E P : Type 0} {engines : Meaning E P} {setting : Setting P} (old new : Book) (was is : Held E) (pid worker : ℕ) (brought : Brought E)
    → StandsFor engines setting old (told old) was → was.over ≡ false → was.slots pid ≡ Away worker → brought.side ≡ SideIs.Pending
    → TurnFits engines setting old.births (told old) worker pid brought
    → GivesBack was is pid (Home brought.seat) true (was.mail pid) (was.deadlines pid)
    → Counts was is was.sends was.time (was.row + 1) → Closes was is was.streams brought.shed
    → Records old new (entry_of worker pid brought SideIs.Pending) []
    → StandsFor engines setting new (told new) is
keeps-pending {engines = engines} {setting = setting} old new was is pid worker brought keeps going slot side fits gives counts closes records =
    let w : World = told old in
    let m = keeps.mirrors in
    let p : Process = w.process pid in
    let seat = brought.seat in
    let f = brings old.births w worker pid brought brought.halt SideIs.Pending refl side fits in
    let o = outward old.births w worker pid seat brought.calls brought.halt SideIs.Pending brought.shed refl f in
    let give : Given = give_as worker pid brought.calls seat.fuel brought.halt SideIs.Pending in
    let r : World = home (recorded w give) pid in
    let n : Tally = recording w give in
    let back : Process = record (turned p give) { stage = Ready } in
    let b : Becomes w r pid back n = becomes-back w give o.unstarved in
    let v : World = pended r pid o.request in
    let q : Process = record back { stage = Ready; owed = Some o.request } in
    let c : Becomes w v pid q n = becomes-pended w r pid back n o.request b in
    let out : p.stage ≡ Out worker = slot-out old was pid worker keeps slot in
    let memory : List ℕ = engines.memory seat.engine in
    let seated : IsSeatOf engines setting.programs q (phase_by seat.owed) seat = record {
      stands = f.seated.stands;
      start = f.seated.start;
      part = part_outward old.births w worker pid seat brought.calls brought.halt SideIs.Pending brought.shed o f
          ∙ part_unbound o.call.name SideIs.Pending (part_after_turn p give) refl;
      fuel = refl;
      owed = ap (λ (x : Request). Some x) o.owes.bytes ∙ ap (λ (x : Option Ask). option_map (request_of memory) x) (sym o.owed);
      phase = o.owes.phase ∙ ap phase_by (sym o.owed);
    } in
    let at_home : IsHome engines setting.programs q seat = record { stage = refl; seated = seated; tries = f.pending refl } in
    keeps-give old new was is pid worker brought.calls seat.fuel brought.halt SideIs.Pending [] v q (Home seat) true keeps f.allowed f.turn
    (given-out p.stage worker old.births w give out ∙ o.performs r (ap (λ (x : Process). x.owed) b.alters.at)) c.alters refl refl
    (rw (← m.mail pid, ← m.deadlines pid) at gives) at_home
    (c.counted ∙ tally_outward old was is pid worker brought SideIs.Pending (was.row + 1) keeps fits counts refl closes.closed_are w.streams (m.streams ∙ sym closes.streams_are))
    (out_pends p.stage worker out) counts.row_is
    (settles-on old was is v pid worker q keeps going f.allowed.away c.alters refl c.exits c.over counts.over) records

-- ANSWERED

-- a listener is bound where the call of this name was answered so
becomes_bound : (name : HostCall) (w v : World) (pid : ℕ) (p : Process) (n : Tally) (reply : Reply) → Becomes w v pid p n
    → Becomes w (bound name v pid reply) pid (record p { part = with_name name (SideIs.Answer reply) p.part }) n
becomes_bound CallIs.Bind w v pid p n reply b =
    one (has_result 0 reply) refl
  where
    one : (t : Bool) → has_result 0 reply ≡ t → Becomes w (bound CallIs.Bind v pid reply) pid (record p { part = with_name CallIs.Bind (SideIs.Answer reply) p.part }) n
    one true is = rw is (becomes-bound w v pid p n b)
    one false is = rw is b
becomes_bound _ w v pid p n reply b = b

-- who is out has no deadline
undue : {E P : Type 0} {engines : Meaning E P} {setting : Setting P} (book : Book) (held : Held E) (pid worker : ℕ) → IsSound (told book) → StandsFor engines setting book (told book) held
    → ((told book).process pid).stage ≡ Out worker → held.deadlines pid ≡ None
undue book held pid worker sound keeps out = sym (keeps.mirrors.deadlines pid) ∙ (sound.processes.each pid).deadline (ap is_waiting out)

-- ANSWER. A process whose request the outside has answered goes behind the ready list, its engine being told the reply.
pub keeps-outside-answer : {E P : Type 0} {engines : Meaning E P} {setting : Setting P} (old new : Book) (was is : Held E) (pid worker : ℕ) (brought : Brought E) (reply : Reply) (engine : E)
    → IsSound (told old) → StandsFor engines setting old (told old) was → was.over ≡ false → was.slots pid ≡ Away worker → brought.side ≡ SideIs.Answer reply
    → TurnFits engines setting old.births (told old) worker pid brought
    → IsAnswered engines brought.seat.engine reply engine
    → GivesBack was is pid (Home (record brought.seat { engine = engine; owed = None })) true (was.mail pid) (was.deadlines pid)
    → Counts was is was.sends was.time 0 → Closes was is was.streams brought.shed
    → Records old new (entry_of worker pid brought (SideIs.Answer reply)) []
    → StandsFor engines setting new (told new) is
keeps-outside-answer {engines = engines} {setting = setting} old new was is pid worker brought reply engine sound keeps going slot side fits after gives counts closes records =
    let w : World = told old in
    let m = keeps.mirrors in
    let p : Process = w.process pid in
    let seat = brought.seat in
    let answers : Side = SideIs.Answer reply in
    let f = brings old.births w worker pid brought brought.halt answers refl side fits in
    let o = outward old.births w worker pid seat brought.calls brought.halt answers brought.shed refl f in
    let name : HostCall = o.call.name in
    let request : Request = o.request in
    let give : Given = give_as worker pid brought.calls seat.fuel brought.halt answers in
    let r : World = home (recorded w give) pid in
    let n : Tally = recording w give in
    let back : Process = record (turned p give) { stage = Ready } in
    let b : Becomes w r pid back n = becomes-back w give o.unstarved in
    let part_now : Part = with_name name answers (part_after_turn p give) in
    let u : World = bound name r pid reply in
    let c : Becomes w u pid (record back { part = part_now }) n = becomes_bound name w r pid back n reply b in
    let out : p.stage ≡ Out worker = slot-out old was pid worker keeps slot in
    keeps-answered old new was is pid worker seat brought.calls brought.shed brought.halt request answers answers reply (Came.Answered reply) engine (replied u pid request reply)
    seat.part part_now (was.mail pid) p.mail None (was.deadlines pid) n
    keeps going slot f f.allowed o.owes refl
    (becomes-answered w u pid (asking p give part_now p.mail) n request reply (Came.Answered reply) c refl)
    (given-out p.stage worker old.births w give out ∙ o.performs r (ap (λ (x : Process). x.owed) b.alters.at)
    ∙ ap (λ (call : Option HostCall). performed old.births call r pid request answers) o.call.called
    ∙ performs-outside name old.births r pid request answers o.call.named)
    after (part_outward old.births w worker pid seat brought.calls brought.halt answers brought.shed o f) (sym (m.mail pid)) refl (undue old was pid worker sound keeps out)
    (tally_outward old was is pid worker brought answers 0 keeps fits counts refl closes.closed_are w.streams (m.streams ∙ sym closes.streams_are))
    gives counts.row_is counts.over records

-- OPENED

some_ask : (a b : Ask) → Some a ≡ Some b → a ≡ b
some_ask a b e = cc

-- what the engine is told of an opened stream
reply_opened : (name : HostCall) (request : Request) (ask : Ask) (was now : ℕ) → call_of request ≡ Some name → ask ≡ request.ask → was ≡ now
    → written_reply 0 (id_of ask) was ≡ written_reply 0 (id_address name request) now
reply_opened name request ask was now called same count =
    let at : id_of ask ≡ id_address name request =
    ap id_of same ∙ ap (λ (call : Option HostCall). id_in call request.ask.args) called ∙ id-named name request in
    (λ i. written_reply 0 (at i) (count i))

-- OPENING. A process for which a stream was opened goes behind the ready list, with the stream of the next number.
pub keeps-opening : {E P : Type 0} {engines : Meaning E P} {setting : Setting P} (old new : Book) (was is : Held E) (pid worker : ℕ) (brought : Brought E) (ask : Ask) (engine : E)
    → IsSound (told old) → StandsFor engines setting old (told old) was → was.over ≡ false → was.slots pid ≡ Away worker → brought.side ≡ SideIs.Opened → brought.seat.owed ≡ Some ask
    → TurnFits engines setting old.births (told old) worker pid brought
    → IsAnswered engines brought.seat.engine (written_reply 0 (id_of ask) was.streams) engine
    → GivesBack was is pid (Home (record brought.seat { engine = engine; part = settled brought.seat.part (StreamOpened was.streams); owed = None })) true (was.mail pid) (was.deadlines pid)
    → Counts was is was.sends was.time 0 → Closes was is (was.streams + 1) brought.shed
    → Records old new (entry_of worker pid brought SideIs.Opened) []
    → StandsFor engines setting new (told new) is
keeps-opening {engines = engines} {setting = setting} old new was is pid worker brought ask engine sound keeps going slot side owed fits after gives counts closes records =
    let w : World = told old in
    let m = keeps.mirrors in
    let p : Process = w.process pid in
    let seat = brought.seat in
    let f = brings old.births w worker pid brought brought.halt SideIs.Opened refl side fits in
    let o = outward old.births w worker pid seat brought.calls brought.halt SideIs.Opened brought.shed refl f in
    let name : HostCall = o.call.name in
    let request : Request = o.request in
    let give : Given = give_as worker pid brought.calls seat.fuel brought.halt SideIs.Opened in
    let r : World = home (recorded w give) pid in
    let n : Tally = recording w give in
    let back : Process = record (turned p give) { stage = Ready } in
    let b : Becomes w r pid back n = becomes-back w give o.unstarved in
    let more : Tally = record n { streams = n.streams + 1 } in
    let streams_is : was.streams ≡ r.streams = sym m.streams ∙ sym (ap (λ (t : Tally). t.streams) b.counted) in
    let part_now : Part = settled (part_after_turn p give) (StreamOpened r.streams) in
    let reply : Reply = written_reply 0 (id_address name request) r.streams in
    let told_is : written_reply 0 (id_of ask) was.streams ≡ reply = reply_opened name request ask was.streams r.streams o.call.called (some_ask ask request.ask (sym owed ∙ o.owed)) streams_is in
    let part_is : seat.part ≡ part_after_turn p give =
    part_outward old.births w worker pid seat brought.calls brought.halt SideIs.Opened brought.shed o f ∙ part_unbound name SideIs.Opened (part_after_turn p give) refl in
    let c = becomes-opened w r pid back n b in
    let out : p.stage ≡ Out worker = slot-out old was pid worker keeps slot in
    keeps-answered old new was is pid worker seat brought.calls brought.shed brought.halt request SideIs.Opened SideIs.Opened reply (Came.Opened reply) engine (opened name r pid request)
    (settled seat.part (StreamOpened was.streams)) part_now (was.mail pid) p.mail None (was.deadlines pid) more
    keeps going slot f f.allowed o.owes refl
    (becomes-answered w _ pid (asking p give part_now p.mail) more request reply (Came.Opened reply) c refl)
    (given-out p.stage worker old.births w give out ∙ o.performs r (ap (λ (x : Process). x.owed) b.alters.at)
    ∙ ap (λ (call : Option HostCall). performed old.births call r pid request SideIs.Opened) o.call.called
    ∙ performs-outside name old.births r pid request SideIs.Opened o.call.named)
    (subst (λ (x : Reply). IsAnswered engines seat.engine x engine) told_is after)
    (λ i. settled (part_is i) (StreamOpened (streams_is i))) (sym (m.mail pid)) refl (undue old was pid worker sound keeps out)
    (tally_outward old was is pid worker brought SideIs.Opened 0 keeps fits counts refl closes.closed_are (w.streams + 1) (ap (λ (k : ℕ). k + 1) m.streams ∙ sym closes.streams_are))
    gives counts.row_is counts.over records

-- WHAT THE ENGINE MAY BE TOLD

owes_some : {A : Type 0} (owed : Option A) (x : A) → owed ≡ Some x → IsSome owed
owes_some owed x is = rw is refl

areas_asked : {E P : Type 0} {engines : Meaning E P} {setting : Setting P} (births : List Birth) (w : World) (worker pid : ℕ) (brought : Brought E) (ask : Ask)
    → TurnFits engines setting births w worker pid brought → brought.seat.owed ≡ Some ask → areas_fit (engines.memory brought.seat.engine) ask ≡ true
areas_asked {engines = engines} births w worker pid brought ask fits owed =
    let asked : IsAsked (engines.memory brought.seat.engine) brought.seat.part ask =
    subst (λ (o : Option Ask). IfSome o (IsAsked (engines.memory brought.seat.engine) brought.seat.part)) owed fits.tries in
    asked.fits

pub owed-pending : {E P : Type 0} {engines : Meaning E P} {setting : Setting P} (births : List Birth) (w : World) (worker pid : ℕ) (brought : Brought E)
    → TurnFits engines setting births w worker pid brought → brought.side ≡ SideIs.Pending → IsSome brought.seat.owed
owed-pending births w worker pid brought fits side =
    let o = outward_brought births w worker pid brought SideIs.Pending side refl fits in
    owes_some brought.seat.owed o.request.ask o.owed

pub answerable-outside : {E P : Type 0} {engines : Meaning E P} {setting : Setting P} (births : List Birth) (w : World) (worker pid : ℕ) (brought : Brought E) (reply : Reply)
    → TurnFits engines setting births w worker pid brought → brought.side ≡ SideIs.Answer reply
    → IsSome brought.seat.owed × IsAnswerable (engines.phase brought.seat.engine) (engines.memory brought.seat.engine) reply
answerable-outside births w worker pid brought reply fits side =
    let o = outward_brought births w worker pid brought (SideIs.Answer reply) side refl fits in
    let answer = answer-fits (may_come o.request) w pid o.part o.request reply o.beside in (
      owes_some brought.seat.owed o.request.ask o.owed,
      record {
        ask = o.request.ask;
        owed = o.owes.phase;
        fits = areas_asked births w worker pid brought o.request.ask fits o.owed;
        form = row-form o.request reply o.call.served answer.form;
      },
    )

pub answerable-opening : {E P : Type 0} {engines : Meaning E P} {setting : Setting P} (births : List Birth) (w : World) (worker pid : ℕ) (brought : Brought E)
    → TurnFits engines setting births w worker pid brought → brought.side ≡ SideIs.Opened
    → (ask : Ask) × (brought.seat.owed ≡ Some ask) × (id_of ask + 8 ≤ length (engines.memory brought.seat.engine))
    × ((number : ℕ) → number < 2 ^ 64 → IsAnswerable (engines.phase brought.seat.engine) (engines.memory brought.seat.engine) (written_reply 0 (id_of ask) number))
answerable-opening {engines = engines} births w worker pid brought fits side =
    let o = outward_brought births w worker pid brought SideIs.Opened side refl fits in
    let areas = areas_asked births w worker pid brought o.request.ask fits o.owed in
    let tells = tells-opening (engines.memory brought.seat.engine) w pid o.part o.request areas o.beside in
    (o.request.ask, o.owed, tells.within, λ number small. record { ask = o.request.ask; owed = o.owes.phase; fits = areas; form = tells.form number small })
