use Rattle.std.proofs.Common.{◌≡◌, ℕ, List, [], ◌∷◌, ◌++◌, Option, Some, None, Bool, true, false, cond, option_map, refl, sym, ◌∙◌, ap, subst, ◌⊎◌}
use Rattle.host_port.specs.declared.ask.Ask.{Ask}
use Rattle.host_port.specs.declared.call.Call.{Call}
use Rattle.host_port.specs.declared.request.Request.{Request}
use Rattle.host_port.specs.declared.reply.Reply.{Reply}
use Rattle.host_port.specs.Areas.{request_of}
use Rattle.host_port.specs.Standing.{Owing}
use Rattle.world_rules.specs.declared.entry.Entry.TheVariants.{Give}
use Rattle.world_rules.specs.declared.entry.Side.{Side}
use Rattle.world_rules.specs.declared.entry.Side.TheVariants as SideIs
use Rattle.world_rules.specs.declared.halt.Halt.{Halt}
use Rattle.world_rules.specs.declared.halt.Halt.TheVariants.{Asks}
use Rattle.world_rules.specs.declared.halt.HostFault.TheVariants.{BadPointer}
use Rattle.world_rules.specs.declared.life.Birth.{Birth}
use Rattle.world_rules.specs.Arrivals.{What}
use Rattle.world_rules.specs.Book.{Book}
use Rattle.world_rules.specs.Judge.{Judgement, Fit, Faulty}
use Rattle.world_rules.specs.Mail.{MailItem}
use Rattle.world_rules.specs.Part.{Part}
use Rattle.world_rules.specs.Views.{Given, is_pending}
use Rattle.world_rules.specs.World.{World, Process, Stage, Ready, Out, Waiting}
use Rattle.world_rules.specs.Changes.{waiting}
use Rattle.world_rules.specs.Rules.{turned, recorded, home, given, is_pending_give}
use Rattle.world_rules.specs.Allowed.{GiveFits, GivesTurn}
use Rattle.world_rules.specs.Allowed.{TurnFits as IsAllowedTurn}
use Rattle.world_rules.specs.Told.{told}
use Rattle.world_rules.specs.Lives.{Setting, OwnTurnIsRun, terms_of}
use Rattle.node_state.specs.Seats.{Meaning, Seat, StandsAt, IsSeatOf, IsFitting, IsOwed, phase_by}
use Rattle.node_state.specs.Slots.{Home, Asleep, Away, IsHome, IsAsleep}
use Rattle.node_state.specs.Held.{Held, StandsFor}
use Rattle.node_state.specs.Fits.{TurnFits, Owes, IsAnswered}
use Rattle.node_state.specs.Changes.{Records, GivesBack, Counts, Closes}
use Rattle.node_state.specs.Posts.{time_at, time_beside}
use Rattle.node_laws.proofs.Tallies.{Tally, held_tally, tally-is}
use Rattle.node_laws.proofs.Gives.{keeps-give, settles-on, give_as, bring, slot-out, own-asks, part-asked, both-closed}
use Rattle.node_laws.proofs.Worlds.{Becomes, come_home, with_reply, recording, becomes-home, becomes-waiting}
use Rattle.node_laws.proofs.Ends.{owes_nothing}

-- A process is given back with a request, which is answered, or for which it waits.

-- the process that such a Give leaves at home, its part and its mailbox being these
abbrev pub asking : Process → Given → Part → List MailItem → Process
asking p give part mail = record (turned p give) { stage = Ready; part = part; mail = mail }

-- only a Pending give goes on with the row
pub out-answers : (stage : Stage) (worker : ℕ) (side : Side) → stage ≡ Out worker → is_pending side ≡ false → is_pending_give stage side ≡ false
out-answers stage worker side is free = rw is free

-- the same turn is a run, whatever is recorded beside it
turn_beside : {P : Type 0} (setting : Setting P) (p : Process) (worker pid : ℕ) (calls : List Call) (fuel : ℕ) (halt : Halt) (side other : Side) (owed : Option Request)
    → OwnTurnIsRun setting p (give_as worker pid calls fuel halt side) owed → OwnTurnIsRun setting p (give_as worker pid calls fuel halt other) owed
turn_beside setting p worker pid calls fuel halt side other None turn = record { program = turn.program; found = turn.found; turn = turn.turn }
turn_beside setting p worker pid calls fuel halt side other (Some request) turn = tt

-- the request is answered
pub keeps-answered : {E P : Type 0} {engines : Meaning E P} {setting : Setting P} (old new : Book) (was is : Held E) (pid worker : ℕ) (seat : Seat E) (calls : List Call) (shed : List ℕ) (halt : Halt)
    (request : Request) (side other : Side) (reply : Reply) (what : What) (engine : E) (v : World) (part part_now : Part) (mail mail_now : List MailItem) (owed : Option Ask) (due : Option ℕ)
    (n : Tally)
    → StandsFor engines setting old (told old) was → was.over ≡ false → was.slots pid ≡ Away worker
    → TurnFits engines setting old.births (told old) worker pid (bring seat calls halt side shed)
    → GiveFits (Some (terms_of setting)) old.births (told old) (give_as worker pid calls seat.fuel halt other)
    → Owes engines seat.engine request
    → is_pending other ≡ false
    → Becomes (told old) v pid (with_reply (asking ((told old).process pid) (give_as worker pid calls seat.fuel halt other) part_now mail_now) request reply what) n
    → given ((told old).process pid).stage old.births (told old) (give_as worker pid calls seat.fuel halt other) ≡ v
    → IsAnswered engines seat.engine reply engine
    → part ≡ part_now → mail ≡ mail_now → owed ≡ None → due ≡ None → n ≡ held_tally is
    → GivesBack was is pid (Home (record { engine = engine; start = seat.start; part = part; fuel = seat.fuel; owed = owed })) true mail due
    → is.row ≡ 0 → is.over ≡ was.over
    → Records old new (Give worker pid calls seat.fuel halt other) []
    → StandsFor engines setting new (told new) is
keeps-answered {engines = engines} {setting = setting} old new was is pid worker seat calls shed halt request side other reply what engine v part part_now mail mail_now owed due n keeps going slot
    fits allowed owes free b becomes after part_is mail_is none undue counted gives row over records =
    let w : World = told old in
    let p : Process = w.process pid in
    let give : Given = give_as worker pid calls seat.fuel halt other in
    let q : Process = with_reply (asking p give part_now mail_now) request reply what in
    let stands : StandsAt engines setting.programs q engine q.calls q.fuel =
    λ program found. subst (λ (r : Request). engines.stands engine program p.start ((p.calls ++ calls) ++ record { request = r; reply = reply } ∷ []) seat.fuel) (sym owes.bytes)
    (after.stands program p.start (p.calls ++ calls) seat.fuel request.ask owes.phase (fits.seated.stands program found)) in
    let s : Seat _ = record { engine = engine; start = seat.start; part = part; fuel = seat.fuel; owed = owed } in
    let seated : IsSeatOf engines setting.programs q (phase_by owed) s = record {
      stands = stands;
      start = fits.seated.start;
      part = part_is;
      fuel = refl;
      owed = ap (λ (o : Option Ask). option_map (request_of (engines.memory engine)) o) (sym none);
      phase = after.running ∙ ap phase_by (sym none);
    } in
    let is_home : IsHome engines setting.programs q s = record { stage = refl; seated = seated; tries = owes_nothing (IsOwed (engines.memory engine) part) owed none } in
    keeps-give old new was is pid worker calls seat.fuel halt other [] v q (Home s) false keeps allowed
    (turn_beside setting p worker pid calls seat.fuel halt side other p.owed fits.turn)
    becomes b.alters refl refl (rw (mail_is, undue) at gives) is_home
    (b.counted ∙ counted)
    (out-answers p.stage worker other (slot-out old was pid worker keeps slot) free) row
    (settles-on old was is v pid worker q keeps going fits.allowed.away b.alters refl b.exits b.over over) records

fit_fits : (b : Bool) (j : Judgement) → cond b j (Faulty BadPointer) ≡ Fit → b ≡ true
fit_fits true j e = refl
fit_fits false j e = let h : ⊥ = cc in absurd h

-- a turn that asks is one of its own
pub own-asked : {E P : Type 0} {engines : Meaning E P} {setting : Setting P} (births : List Birth) (w : World) (worker pid : ℕ) (seat : Seat E) (calls : List Call) (request : Request) (side : Side)
    (shed : List ℕ) → TurnFits engines setting births w worker pid (bring seat calls (Asks request) side shed) → (w.process pid).owed ≡ None
own-asked {setting = setting} births w worker pid seat calls request side shed fits =
    own-asks (Some (terms_of setting)) births w (w.process pid) (give_as worker pid calls seat.fuel (Asks request) side) (w.process pid).owed request refl fits.allowed.turn

-- the areas of a request that a turn asks for lie in the memory
pub asked-fits : {E P : Type 0} {engines : Meaning E P} {setting : Setting P} (births : List Birth) (w : World) (worker pid : ℕ) (seat : Seat E) (calls : List Call) (request : Request) (side : Side)
    (shed : List ℕ) → TurnFits engines setting births w worker pid (bring seat calls (Asks request) side shed) → request.fits ≡ true
asked-fits {setting = setting} births w worker pid seat calls request side shed fits =
    let give : Given = give_as worker pid calls seat.fuel (Asks request) side in
    let t : IsAllowedTurn (Some (terms_of setting)) births w (w.process pid) give = subst (λ (o : Option Request). GivesTurn (Some (terms_of setting)) births w (w.process pid) give o)
    (own-asked births w worker pid seat calls request side shed fits) fits.allowed.turn in
    fit_fits request.fits _ t.halted.judged

-- so much is counted after a request that the world has answered, its closings being those of the turn's calls, then these
pub tally-asked : {E P : Type 0} {engines : Meaning E P} {setting : Setting P} (old : Book) (was is : Held E) (pid worker : ℕ) (seat : Seat E) (calls : List Call) (shed : List ℕ) (request : Request)
    (side other : Side) (time : ℕ)
    → StandsFor engines setting old (told old) was → TurnFits engines setting old.births (told old) worker pid (bring seat calls (Asks request) side shed)
    → Counts was is was.sends time 0 → time_beside other was.time ≡ time → Closes was is was.streams shed
    → recording (told old) (give_as worker pid calls seat.fuel (Asks request) other) ≡ held_tally is
tally-asked old was is pid worker seat calls shed request side other time keeps fits counts time_is closes =
    let w : World = told old in
    let m = keeps.mirrors in
    tally-is (recording w (give_as worker pid calls seat.fuel (Asks request) other)) is (m.sends ∙ sym counts.sends_are)
    (ap (λ (t : ℕ). time_beside other t) m.time ∙ time_is ∙ sym counts.time_is) (m.streams ∙ sym closes.streams_are)
    (both-closed w.closed was.closed _ shed m.closed (sym fits.seated.closed) ∙ sym closes.closed_are)

-- the request waits for its answer
pub keeps-asleep : {E P : Type 0} {engines : Meaning E P} {setting : Setting P} (old new : Book) (was is : Held E) (pid worker : ℕ) (seat : Seat E) (calls : List Call) (shed : List ℕ)
    (request : Request) (now : ℕ) (part : Part) (mail : List MailItem) (deadline due : Option ℕ)
    → StandsFor engines setting old (told old) was → was.over ≡ false → was.slots pid ≡ Away worker
    → (request.ask.call ≡ 9) ⊎ (request.ask.call ≡ 17) → seat.owed ≡ None
    → TurnFits engines setting old.births (told old) worker pid (bring seat calls (Asks request) (SideIs.Clock now) shed)
    → given ((told old).process pid).stage old.births (told old) (give_as worker pid calls seat.fuel (Asks request) (SideIs.Clock now))
    ≡ waiting (home (recorded (told old) (give_as worker pid calls seat.fuel (Asks request) (SideIs.Clock now))) pid) pid request deadline
    → part ≡ seat.part → mail ≡ was.mail pid → deadline ≡ due
    → GivesBack was is pid (Asleep (record { engine = seat.engine; start = seat.start; part = part; fuel = seat.fuel; owed = seat.owed }) request.ask) false mail due
    → Counts was is was.sends (time_at was.time now) 0 → Closes was is was.streams shed
    → Records old new (Give worker pid calls seat.fuel (Asks request) (SideIs.Clock now)) []
    → StandsFor engines setting new (told new) is
keeps-asleep {engines = engines} {setting = setting} old new was is pid worker seat calls shed request now part mail deadline due keeps going slot call none fits becomes part_is mail_is due_is gives
    counts closes records =
    let w : World = told old in
    let p : Process = w.process pid in
    let give : Given = give_as worker pid calls seat.fuel (Asks request) (SideIs.Clock now) in
    let r : World = home (recorded w give) pid in
    let q : Process = record (come_home p give) { stage = Waiting request; deadline = deadline } in
    let b = becomes-waiting w r pid (come_home p give) (recording w give) request deadline (becomes-home w give) in
    let s : Seat _ = record { engine = seat.engine; start = seat.start; part = part; fuel = seat.fuel; owed = seat.owed } in
    let memory : List ℕ = engines.memory seat.engine in
    let own : p.owed ≡ None = own-asked old.births w worker pid seat calls request (SideIs.Clock now) shed fits in
    let owes = fits.phase.0 in
    let seated : IsSeatOf engines setting.programs q (Owing request.ask) s = record {
      stands = fits.seated.stands;
      start = fits.seated.start;
      part = part_is ∙ part-asked p worker pid calls seat.fuel request (SideIs.Clock now) seat.part refl fits.seated.part;
      fuel = refl;
      owed = own ∙ ap (λ (o : Option Ask). option_map (request_of memory) o) (sym none);
      phase = owes.phase;
    } in
    let fitting : IsFitting memory (request_of memory request.ask) =
    record { bytes = refl; fits = ap (λ (x : Request). x.fits) (sym owes.bytes) ∙ asked-fits old.births w worker pid seat calls request (SideIs.Clock now) shed fits } in
    let asleep : IsAsleep engines setting.programs q s request.ask = record { stage = ap Waiting owes.bytes; owed = own; seated = seated; fitting = fitting; call = ∣ call ∣₁ } in
    keeps-give old new was is pid worker calls seat.fuel (Asks request) (SideIs.Clock now) [] (waiting r pid request deadline) q (Asleep s request.ask) false keeps fits.allowed fits.turn
    becomes b.alters refl refl (rw (mail_is ∙ sym (keeps.mirrors.mail pid), sym due_is) at gives) asleep
    (b.counted ∙ tally-asked old was is pid worker seat calls shed request (SideIs.Clock now) (SideIs.Clock now) (time_at was.time now) keeps fits counts refl closes)
    (out-answers p.stage worker (SideIs.Clock now) (slot-out old was pid worker keeps slot) refl) counts.row_is
    (settles-on old was is (waiting r pid request deadline) pid worker q keeps going fits.allowed.away b.alters refl b.exits b.over counts.over) records
