use Rattle.std.proofs.Common.{◌≡◌, ◌≢◌, ℕ, ◌+◌, ◌≤◌, List, [], ◌∷◌, ◌++◌, length, Option, Some, None, Bool, true, false, cond, nat_eq, append-nil, refl, sym, ◌∙◌, ap, subst, arith, ◌⊎◌, inl, inr}
use Rattle.std.proofs.lemmas.Bool.Decides.{eqb_tells}
use Rattle.host_port.specs.declared.call.Call.{Call}
use Rattle.host_port.specs.declared.request.Request.{Request}
use Rattle.world_rules.specs.declared.entry.Entry.{Entry}
use Rattle.world_rules.specs.declared.entry.Entry.TheVariants.{Give}
use Rattle.world_rules.specs.declared.entry.Side.{Side}
use Rattle.world_rules.specs.declared.halt.Halt.{Halt}
use Rattle.world_rules.specs.declared.halt.Halt.TheVariants as HaltIs
use Rattle.world_rules.specs.declared.halt.End.{End}
use Rattle.world_rules.specs.declared.life.Birth.{Birth}
use Rattle.world_rules.specs.declared.life.Ended.{Ended as EndMemory}
use Rattle.world_rules.specs.Book.{Book}
use Rattle.world_rules.specs.Calls.{HostCall, call_of}
use Rattle.world_rules.specs.Calls as CallIs
use Rattle.world_rules.specs.Part.{Part}
use Rattle.world_rules.specs.Settled.{settled, ListenerBound}
use Rattle.world_rules.specs.Births.{Terms}
use Rattle.world_rules.specs.Views.{Given, Giving, Want, Goes, Wants, want_of, wanted_in, answer_in, is_pending}
use Rattle.world_rules.specs.World.{World, Process, Stage, Unborn, Ready, Out, Waiting, Doomed, Ended, is_live, is_ready, is_ended, is_away}
use Rattle.world_rules.specs.Rules.{part_after_turn, given, queued, ready_among, with_row, row_with, row_after, is_pending_give}
use Rattle.world_rules.specs.Allowed.{IsWith, GiveFits, GivesTurn, RetryEndsSo}
use Rattle.world_rules.specs.Told.{told}
use Rattle.world_rules.specs.Lives.{Setting, terms_of, OwnTurnIsRun, IsMemoryOf, EndsAreMemories}
use Rattle.node_state.specs.Seats.{Meaning, Seat, part_handles}
use Rattle.node_state.specs.Slots.{Slot, Away, Fated, SlotFits}
use Rattle.node_state.specs.Held.{Held, StandsFor, ListsReady, AreReady, IsFirstAlone, HaveEnded, is_in, away_count, kept_places}
use Rattle.node_state.specs.Fits.{Brought, TurnFits, PartFits, entry_of, is_bound, with_bound, part_brought}
use Rattle.node_state.specs.Changes.{Records, GivesBack}
use Rattle.node_laws.proofs.ReadyList.{true_is_not_false, queued-ready, ready-all, ready-stays, ready-last, not_listed, in-last, in-longer}
use Rattle.node_laws.proofs.Folds.{told-last, run-next}
use Rattle.node_laws.proofs.Tallies.{Tally, tally_of, held_tally}
use Rattle.node_laws.proofs.Takes.{longer}
use Rattle.node_laws.proofs.Goes.{Alters, slots-one, mail-one, deadlines-one, all-one, ended-stay, ends-stay, ended-last, ends-last, first-is, numbered-one, count-alone}

-- A process is given back: what holds whatever becomes of it.

pub with-away : (stage : Stage) (worker : ℕ) → IsWith stage worker → is_away stage ≡ true
with-away Unborn worker h = absurd h
with-away Ready worker h = absurd h
with-away (Out other) worker h = refl
with-away (Waiting request) worker h = absurd h
with-away (Doomed other end) worker h = refl
with-away (Ended end) worker h = absurd h

away_unready : (stage : Stage) → is_away stage ≡ true → is_ready stage ≡ false
away_unready Unborn h = refl
away_unready Ready h = true_is_not_false (sym h)
away_unready (Out other) h = refl
away_unready (Waiting request) h = refl
away_unready (Doomed other end) h = refl
away_unready (Ended end) h = refl

pub away_unended : (stage : Stage) → is_away stage ≡ true → is_ended stage ≡ false
away_unended Unborn h = refl
away_unended Ready h = refl
away_unended (Out other) h = refl
away_unended (Waiting request) h = refl
away_unended (Doomed other end) h = refl
away_unended (Ended end) h = true_is_not_false (sym h)

-- who is with a worker, and is live, is out to it
pub with-out : (stage : Stage) (worker : ℕ) → IsWith stage worker → is_live stage ≡ true → stage ≡ Out worker
with-out Unborn worker h l = absurd h
with-out Ready worker h l = absurd h
with-out (Out other) worker h l = ap Out h
with-out (Waiting request) worker h l = absurd h
with-out (Doomed other end) worker h l = true_is_not_false (sym l)
with-out (Ended end) worker h l = absurd h

-- who is with a worker, and isn't live, is doomed under it
pub with-doomed : (stage : Stage) (worker : ℕ) → IsWith stage worker → is_live stage ≡ false → (end : End) × (stage ≡ Doomed worker end)
with-doomed Unborn worker h l = absurd h
with-doomed Ready worker h l = absurd h
with-doomed (Out other) worker h l = true_is_not_false l
with-doomed (Waiting request) worker h l = absurd h
with-doomed (Doomed other end) worker h l = (end, ap (λ (n : ℕ). Doomed n end) h)
with-doomed (Ended end) worker h l = absurd h

-- while the run goes on, who is with a worker is out to it
pub out-going : {E P : Type 0} {engines : Meaning E P} {setting : Setting P} (book : Book) (held : Held E) (pid worker : ℕ) → StandsFor engines setting book (told book) held → held.over ≡ false
    → IsWith ((told book).process pid).stage worker → ((told book).process pid).stage ≡ Out worker
out-going book held pid worker keeps going is_with =
    let w : World = told book in
    let away = with-away (w.process pid).stage worker is_with in
    let one : pid ≡ 1 = first-is w pid is_away keeps.first refl away in
    let live : is_live (w.process 1).stage ≡ true = keeps.first.going (keeps.mirrors.over ∙ going) in
    with-out (w.process pid).stage worker is_with (subst (λ (k : ℕ). is_live (w.process k).stage ≡ true) (sym one) live)

-- a Give with anything but no answer yet breaks the row
pub not_pending : (stage : Stage) (side : Side) → is_pending side ≡ false → is_pending_give stage side ≡ false
not_pending Unborn side h = refl
not_pending Ready side h = refl
not_pending (Out worker) side h = h
not_pending (Waiting request) side h = refl
not_pending (Doomed worker end) side h = refl
not_pending (Ended end) side h = refl

-- the ready list after a Give

each_give : (ps : ℕ → Process) (pid : ℕ) (was : List ℕ) (b : Bool) → is_ready (ps pid).stage ≡ b → AreReady ps was → is_in pid was ≡ false → AreReady ps (was ++ cond b (pid ∷ []) [])
each_give ps pid was true e each out = ready-last ps pid was each e out
each_give ps pid was false e each out = rw (append-nil was) each

all_give : (q pid : ℕ) (was : List ℕ) (b : Bool) → ((nat_eq q pid ≡ true) × (q ≡ pid)) ⊎ ((nat_eq q pid ≡ false) × (q ≢ pid)) → (q ≡ pid → b ≡ true) → (q ≢ pid → is_in q was ≡ true)
    → is_in q (was ++ cond b (pid ∷ []) []) ≡ true
all_give q pid was true (inl same) here there = rw same.1 (in-last pid was)
all_give q pid was false (inl same) here there = true_is_not_false (sym (here same.1))
all_give q pid was true (inr other) here there = in-longer q pid was (there other.1)
all_give q pid was false (inr other) here there = rw (append-nil was) (there other.1)

lists_give : (w v : World) (row pid : ℕ) (p : Process) (was : List ℕ) → Alters w v pid p → is_ready (w.process pid).stage ≡ false → ListsReady w was
    → ListsReady (with_row row (queued w.ready (pid ∷ []) v)) (was ++ cond (is_ready p.stage) (pid ∷ []) [])
lists_give w v row pid p was alters unready lists =
    let out : is_in pid was ≡ false = not_listed w.process pid was lists.each unready in
    let stays : AreReady v.process was = ready-stays w.process v.process pid was alters.others out lists.each in
    let kept : ready_among v was ≡ was = ready-all v.process was stays in
    let here : is_ready (v.process pid).stage ≡ is_ready p.stage = ap (λ (x : Process). is_ready x.stage) alters.at in
    let old = λ (q : ℕ) (r : is_ready (v.process q).stage ≡ true) (other : q ≢ pid). lists.all q (ap (λ (x : Process). is_ready x.stage) (sym (alters.others q other)) ∙ r) in
    record {
      same = rw lists.same (queued-ready was (pid ∷ []) was v kept (λ q r. all_give q pid was true (eqb_tells q pid) (λ _. refl) (old q r))) ∙ ap (λ (b : Bool). was ++ cond b (pid ∷ []) []) here;
      each = each_give v.process pid was (is_ready p.stage) here stays out;
      all = λ q r. all_give q pid was (is_ready p.stage) (eqb_tells q pid) (λ same. sym here ∙ ap (λ (k : ℕ). is_ready (v.process k).stage) (sym same) ∙ r) (old q r);
    }

room_give : (was is : Bool) (m n a b : ℕ) → (was ≡ true → is ≡ true) → n + 1 ≡ m → b + 1 ≡ a → kept_places m was ≤ a → kept_places n is ≤ b
room_give true true m n a b later e f r = omega arith
room_give true false m n a b later e f r = true_is_not_false (sym (later refl))
room_give false true m n a b later e f r = omega arith
room_give false false m n a b later e f r = omega arith

row_bounded : (pending : Bool) (was is a b : ℕ) → is ≡ row_with pending was → b ≡ a + 1 → was ≤ a → is ≤ b
row_bounded true was is a b same more h = omega arith
row_bounded false was is a b same more h = omega arith

-- WHAT IS BROUGHT BACK, one by one

abbrev pub give_as : (worker pid : ℕ) → List Call → (fuel : ℕ) → Halt → Side → Given
give_as worker pid calls fuel halt side = record { worker = worker; pid = pid; calls = calls; fuel = fuel; halt = halt; side = side }

abbrev pub bring : {E : Type 0} → Seat E → List Call → Halt → Side → List ℕ → Brought E
bring seat calls halt side shed = record { seat = seat; calls = calls; halt = halt; side = side; shed = shed }

-- what is brought back with this halt and this side
pub brings : {E P : Type 0} {engines : Meaning E P} {setting : Setting P} (births : List Birth) (w : World) (worker pid : ℕ) (brought : Brought E) (halt : Halt) (side : Side)
    → brought.halt ≡ halt → brought.side ≡ side → TurnFits engines setting births w worker pid brought
    → TurnFits engines setting births w worker pid (bring brought.seat brought.calls halt side brought.shed)
brings {E = E} {engines = engines} {setting = setting} births w worker pid brought halt side h s fits =
    subst (λ (b : Brought E). TurnFits engines setting births w worker pid b) (λ i. bring brought.seat brought.calls (h i) (s i) brought.shed) fits

pub records-as : {E : Type 0} (old new : Book) (worker pid : ℕ) (brought : Brought E) (halt : Halt) (side other : Side) (more : List EndMemory) → brought.halt ≡ halt → side ≡ other
    → Records old new (entry_of worker pid brought side) more → Records old new (Give worker pid brought.calls brought.seat.fuel halt other) more
records-as old new worker pid brought halt side other more h s records =
    subst (λ (e : Entry). Records old new e more) (λ i. Give worker pid brought.calls brought.seat.fuel (h i) (s i)) records

-- what the world after a Give must show, beside the one process
pub record Settles {P : Type 0} (setting : Setting P) (v : World) (ends : List EndMemory) (p : Process) (was is : Bool) : Type 0 where
  pub later : was ≡ true → is ≡ true
  pub quiet : is ≡ true → is_live p.stage ≡ false
  pub over : v.over ≡ is
  pub ended : HaveEnded v.process v.exits
  pub memories : EndsAreMemories setting v.process v.exits ends
  pub first_ends : is_ended p.stage ≡ false → v.exits ≡ []
  pub first_going : is ≡ false → is_live p.stage ≡ true

first_give : (w v : World) (row : ℕ) (earlier giver : List ℕ) (p : Process) (is : Bool) → Alters w v 1 p → p.start ≡ (w.process 1).start → v.over ≡ is → (is_ended p.stage ≡ false → v.exits ≡ [])
    → (is ≡ false → is_live p.stage ≡ true) → IsFirstAlone w → IsFirstAlone (with_row row (queued earlier giver v))
first_give w v row earlier giver p is alters started over ends going first = record {
  numbered = numbered-one w v 1 p alters started refl first.numbered;
  drawn = alters.drawn ∙ first.drawn;
  others = λ q other. ap (λ (x : Process). x.stage) (alters.others q other) ∙ first.others q other;
  ends = λ e. ends (ap (λ (x : Process). is_ended x.stage) (sym alters.at) ∙ e);
  going = λ g. ap (λ (x : Process). is_live x.stage) alters.at ∙ going (sym over ∙ g);
}

-- THE SLOT, THE PART AND THE TURN of a process that comes back

-- a process whose slot is away is out to its worker, and one that is fated is doomed under it
pub slot-out : {E P : Type 0} {engines : Meaning E P} {setting : Setting P} (book : Book) (held : Held E) (pid worker : ℕ) → StandsFor engines setting book (told book) held
    → held.slots pid ≡ Away worker → ((told book).process pid).stage ≡ Out worker
slot-out {E = E} {engines = engines} {setting = setting} book held pid worker keeps away =
    subst (λ (s : Slot E). SlotFits engines setting.programs ((told book).process pid) s) away (keeps.mirrors.slots pid)

pub slot-doomed : {E P : Type 0} {engines : Meaning E P} {setting : Setting P} (book : Book) (held : Held E) (pid worker : ℕ) (end : End) → StandsFor engines setting book (told book) held
    → held.slots pid ≡ Fated worker end → ((told book).process pid).stage ≡ Doomed worker end
slot-doomed {E = E} {engines = engines} {setting = setting} book held pid worker end keeps fated =
    subst (λ (s : Slot E). SlotFits engines setting.programs ((told book).process pid) s) fated (keeps.mirrors.slots pid)

-- a turn that goes on, or asks, is one of the process's own
pub own-goes : (terms : Option Terms) (births : List Birth) (w : World) (p : Process) (give : Given) (owed : Option Request) → want_of give.halt ≡ Goes
    → GivesTurn terms births w p give owed → owed ≡ None
own-goes terms births w p give None goes turn = refl
own-goes terms births w p give (Some request) goes turn = absurd (subst (λ (want : Want). RetryEndsSo terms births w p give request want) goes turn.halted)

pub own-asks : (terms : Option Terms) (births : List Birth) (w : World) (p : Process) (give : Given) (owed : Option Request) (asked : Request) → want_of give.halt ≡ Wants asked
    → GivesTurn terms births w p give owed → owed ≡ None
own-asks terms births w p give None asked asks turn = refl
own-asks terms births w p give (Some request) asked asks turn = absurd (subst (λ (want : Want). RetryEndsSo terms births w p give request want) asks turn.halted)

-- the streams in hand are those that the turn has left, whatever it ended with
hands_bound : (wanted : Option Request) (side : Side) (part : Part) → part_handles (with_bound wanted side part) ≡ part_handles part
hands_bound None side part = refl
hands_bound (Some request) side part =
    one (is_bound (call_of request) side)
  where
    one : (b : Bool) → part_handles (cond b (settled part ListenerBound) part) ≡ part_handles part
    one true = refl
    one false = refl

hands_fit : (part : Part) (halt : Halt) (after : Part) → PartFits part halt after → part_handles part ≡ part_handles after
hands_fit part HaltIs.Slice after fits = ap part_handles fits
hands_fit part (HaltIs.Asks request) after fits = ap part_handles fits
hands_fit part HaltIs.Done after fits = ap part_handles fits
hands_fit part (HaltIs.Trap trap) after fits = ap part_handles fits
hands_fit part (HaltIs.Spent spent) after fits = ap part_handles fits
hands_fit part (HaltIs.Host fault request) after fits = ap part_handles fits
hands_fit part HaltIs.NoMemory after fits = ap part_handles fits
hands_fit part HaltIs.Again after fits = ap part_handles fits

pub hands-brought : (p : Process) (give : Given) (part : Part) → PartFits part give.halt (part_brought p give) → part_handles part ≡ part_handles (part_after_turn p give)
hands-brought p give part fits = hands_fit part give.halt (part_brought p give) fits ∙ hands_bound (wanted_in (want_of give.halt) p.owed) give.side (part_after_turn p give)

-- beside anything but an answer no listener is bound
pub unbound : (call : Option HostCall) (side : Side) → answer_in side ≡ None → is_bound call side ≡ false
unbound (Some CallIs.Bind) side none = rw none refl
unbound _ side none = refl

pub part-asked : (p : Process) (worker pid : ℕ) (calls : List Call) (fuel : ℕ) (request : Request) (side : Side) (part : Part) → answer_in side ≡ None
    → PartFits part (HaltIs.Asks request) (part_brought p (give_as worker pid calls fuel (HaltIs.Asks request) side))
    → part ≡ part_after_turn p (give_as worker pid calls fuel (HaltIs.Asks request) side)
part-asked p worker pid calls fuel request side part none fits =
    let after : Part = part_after_turn p (give_as worker pid calls fuel (HaltIs.Asks request) side) in
    fits ∙ ap (λ (b : Bool). cond b (settled after ListenerBound) after) (unbound (call_of request) side none)

-- what was closed before, and besides
pub both-closed : (was old shed more : List ℕ) → was ≡ old → shed ≡ more → (was ++ shed) ≡ old ++ more
both-closed was old shed more a b = λ i. a i ++ b i

-- GIVE. Where a Give makes this process of the one that was out, the node that holds it so stands for the journal with
-- the Give.
pub keeps-give : {E P : Type 0} {engines : Meaning E P} {setting : Setting P} (old new : Book) (was is : Held E) (pid worker : ℕ) (calls : List Call) (fuel : ℕ) (halt : Halt) (side : Side)
    (more : List EndMemory) (v : World) (p : Process) (slot : Slot E) (pending : Bool)
    → StandsFor engines setting old (told old) was
    → GiveFits (Some (terms_of setting)) old.births (told old) (give_as worker pid calls fuel halt side)
    → OwnTurnIsRun setting ((told old).process pid) (give_as worker pid calls fuel halt side) ((told old).process pid).owed
    → given ((told old).process pid).stage old.births (told old) (give_as worker pid calls fuel halt side) ≡ v
    → Alters (told old) v pid p → p.start ≡ ((told old).process pid).start → is_away p.stage ≡ false
    → GivesBack was is pid slot (is_ready p.stage) p.mail p.deadline → SlotFits engines setting.programs p slot
    → tally_of v ≡ held_tally is
    → is_pending_give ((told old).process pid).stage side ≡ pending → is.row ≡ row_with pending was.row
    → Settles setting v (old.ends ++ more) p was.over is.over
    → Records old new (Give worker pid calls fuel halt side) more
    → StandsFor engines setting new (told new) is
keeps-give {engines = engines} {setting = setting} old new was is pid worker calls fuel halt side more v p slot pending keeps fits turn becomes alters started home gives seated counted answered row
    settles records =
    let w : World = told old in
    let n : ℕ = row_after w (Giving (give_as worker pid calls fuel halt side)) in
    let away : is_away (w.process pid).stage ≡ true = with-away (w.process pid).stage worker fits.away in
    let one : pid ≡ 1 = first-is w pid is_away keeps.first refl away in
    let here : is_away (w.process 1).stage ≡ true = subst (λ (k : ℕ). is_away (w.process k).stage ≡ true) one away in
    let alters_one : Alters w v 1 p = subst (λ (k : ℕ). Alters w v k p) one alters in
    let there : is_away (v.process 1).stage ≡ false = ap (λ (x : Process). is_away x.stage) alters_one.at ∙ home in
    let one_out : was.out ≡ 1 = sym keeps.mirrors.out ∙ count-alone w keeps.first.drawn ∙ ap (λ (b : Bool). cond b 1 0) here in
    let zero_out : away_count v.process v.numbers_drawn ≡ 0 = count-alone v (alters.drawn ∙ keeps.first.drawn) ∙ ap (λ (b : Bool). cond b 1 0) there in
    let none : is.out ≡ 0 = let g = gives.out in omega arith in
    let unborn : (q : ℕ) → q ≢ pid → (w.process q).stage ≡ Unborn = λ q other. keeps.first.others q (λ e. other (e ∙ sym one)) in
    let row_is : n ≡ row_with pending was.row = ap (λ (b : Bool). row_with b w.row) answered ∙ ap (λ (m : ℕ). row_with pending m) keeps.mirrors.row in
    rw (told-last old new (Give worker pid calls fuel halt side) records.births records.entries, becomes) (record {
      run = run-next setting old new (Give worker pid calls fuel halt side) more records keeps.run fits turn (rw becomes alters.spawns) (rw becomes settles.memories);
      mirrors = record {
        ready = rw gives.ready (lists_give w v n pid p was.ready alters (away_unready (w.process pid).stage away) keeps.mirrors.ready);
        slots = slots-one engines setting.programs w v pid p was is slot p.mail p.deadline alters gives.change seated keeps.mirrors.slots;
        mail = mail-one w v pid p was is slot p.deadline alters gives.change keeps.mirrors.mail;
        deadlines = deadlines-one w v pid p was is slot p.mail alters gives.change keeps.mirrors.deadlines;
        sends = ap (λ (t : Tally). t.sends) counted;
        time = ap (λ (t : Tally). t.time) counted;
        row = row_is ∙ sym row;
        over = settles.over;
        out = zero_out ∙ sym none;
        streams = ap (λ (t : Tally). t.streams) counted;
        closed = ap (λ (t : Tally). t.closed) counted;
        unlinked = λ a b. alters.unlinked a b (keeps.mirrors.unlinked a b);
      };
      quiet = λ o. all-one w v pid p (λ q x. is_live x.stage ≡ false) alters (settles.quiet o) (λ q other. ap is_live (unborn q other));
      room = room_give was.over is.over was.out is.out old.entry_room new.entry_room settles.later gives.out records.entry_room keeps.room;
      row_bound = row_bounded pending was.row is.row (length old.entries) (length new.entries) row (longer old new (Give worker pid calls fuel halt side) more records) keeps.row_bound;
      ended = settles.ended;
      first = first_give w v n w.ready (pid ∷ []) p is.over alters_one (subst (λ (k : ℕ). p.start ≡ (w.process k).start) one started) settles.over settles.first_ends settles.first_going keeps.first;
    })

-- a process that doesn't end

kept : (w v : World) (pid worker : ℕ) (p : Process) → Alters w v pid p → IsWith (w.process pid).stage worker → (q : ℕ) → is_ended (w.process q).stage ≡ true → v.process q ≡ w.process q
kept w v pid worker p alters away q e =
    alters.others q (λ same. true_is_not_false (sym e ∙ ap (λ (k : ℕ). is_ended (w.process k).stage) same ∙ away_unended (w.process pid).stage (with-away (w.process pid).stage worker away)))

unended : (w : World) (pid worker : ℕ) → IsFirstAlone w → IsWith (w.process pid).stage worker → w.exits ≡ []
unended w pid worker first away =
    let gone = with-away (w.process pid).stage worker away in
    first.ends (subst (λ (k : ℕ). is_ended (w.process k).stage ≡ false) (first-is w pid is_away first refl gone) (away_unended (w.process pid).stage gone))

pub settles-on : {E P : Type 0} {engines : Meaning E P} {setting : Setting P} (old : Book) (was is : Held E) (v : World) (pid worker : ℕ) (p : Process)
    → StandsFor engines setting old (told old) was → was.over ≡ false → IsWith ((told old).process pid).stage worker → Alters (told old) v pid p → is_live p.stage ≡ true
    → v.exits ≡ (told old).exits → v.over ≡ (told old).over → is.over ≡ was.over → Settles setting v (old.ends ++ []) p was.over is.over
settles-on {setting = setting} old was is v pid worker p keeps going away alters live exits over same =
    let w : World = told old in
    record {
      later = λ o. same ∙ o;
      quiet = λ o. true_is_not_false (sym o ∙ same ∙ going);
      over = over ∙ keeps.mirrors.over ∙ sym same;
      ended = rw exits (ended-stay w.process v.process w.exits keeps.ended (kept w v pid worker p alters away));
      memories = rw (exits, append-nil old.ends) (ends-stay setting w.process v.process w.exits old.ends keeps.ended (kept w v pid worker p alters away) keeps.run.ends);
      first_ends = λ _. exits ∙ unended w pid worker keeps.first away;
      first_going = λ _. live;
    }

-- a process that ends, with the memory that it then has

pub settles-end : {E P : Type 0} {engines : Meaning E P} {setting : Setting P} (old : Book) (was is : Held E) (v : World) (pid worker : ℕ) (p : Process) (end : End) (memory : EndMemory)
    → StandsFor engines setting old (told old) was → IsWith ((told old).process pid).stage worker → Alters (told old) v pid p → p.stage ≡ Ended end
    → v.exits ≡ (told old).exits ++ record { pid = pid; end = end } ∷ [] → v.over ≡ true → is.over ≡ true → memory.pid ≡ pid → IsMemoryOf setting p memory
    → Settles setting v (old.ends ++ memory ∷ []) p was.over is.over
settles-end {setting = setting} old was is v pid worker p end memory keeps away alters stage exits over ends numbered shows =
    let w : World = told old in
    let stays = kept w v pid worker p alters away in
    record {
      later = λ _. ends;
      quiet = λ _. ap is_live stage;
      over = over ∙ sym ends;
      ended = rw exits (ended-last v.process w.exits (record { pid = pid; end = end }) (ended-stay w.process v.process w.exits keeps.ended stays)
          (ap (λ (x : Process). is_ended x.stage) alters.at ∙ ap is_ended stage));
      memories = rw exits (ends-last setting v.process w.exits (record { pid = pid; end = end }) old.ends memory
          (ends-stay setting w.process v.process w.exits old.ends keeps.ended stays keeps.run.ends) numbered (subst (λ (x : Process). IsMemoryOf setting x memory) (sym alters.at) shows));
      first_ends = λ e. true_is_not_false (sym (ap is_ended stage) ∙ e);
      first_going = λ o. true_is_not_false (sym ends ∙ o);
    }
