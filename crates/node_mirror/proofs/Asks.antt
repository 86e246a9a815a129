use Rattle.std.proofs.Common.{◌≡◌, ℕ, List, Option, Some, None, Bool, true, false, cond, option_map, refl, sym, ◌∙◌, ap, subst}
use Rattle.host_port.specs.declared.ask.Ask.{Ask}
use Rattle.host_port.specs.declared.call.Call.{Call}
use Rattle.host_port.specs.declared.request.Request.{Request}
use Rattle.host_port.specs.declared.row.Kind.TheVariants as KindIs
use Rattle.host_port.specs.Areas.{request_of}
use Rattle.host_port.specs.Standing.{Owing}
use Rattle.world_rules.specs.declared.entry.Side.{Side}
use Rattle.world_rules.specs.declared.entry.Side.TheVariants as SideIs
use Rattle.world_rules.specs.declared.halt.Halt.{Halt}
use Rattle.world_rules.specs.declared.halt.Halt.TheVariants as HaltIs
use Rattle.world_rules.specs.declared.halt.HostFault.TheVariants.{BadPointer}
use Rattle.world_rules.specs.declared.life.Birth.{Birth}
use Rattle.world_rules.specs.Allowed.{GiveFits, GivesTurn}
use Rattle.world_rules.specs.Allowed.{TurnFits as IsAllowedTurn}
use Rattle.world_rules.specs.Book.{Book}
use Rattle.world_rules.specs.Calls.{HostCall, call_of}
use Rattle.world_rules.specs.Calls as CallIs
use Rattle.world_rules.specs.Judge.{Judgement, Fit, Faulty}
use Rattle.world_rules.specs.Kinds.{kind_of}
use Rattle.world_rules.specs.Lives.{Setting}
use Rattle.world_rules.specs.Part.{Part}
use Rattle.world_rules.specs.Rules.{recorded, home, happened, part_after_turn}
use Rattle.world_rules.specs.Settled.{settled, ListenerBound}
use Rattle.world_rules.specs.Told.{told}
use Rattle.world_rules.specs.Views.{Given, Giving as GivesBack}
use Rattle.world_rules.specs.World.{World, Process, Out}
use Rattle.node_state.specs.Seats.{Meaning, Seat, IsSeatOf, IsFitting, IsOwed, phase_by}
use Rattle.node_state.specs.Fits.{Brought, PartFits, is_bound, kept_ask, part_brought, give_of}
use Rattle.node_state.specs.Posts.{time_beside}
use Rattle.node_laws.proofs.Gives.{give_as, bring, own-goes, own-asks, both-closed}
use Rattle.node_laws.proofs.Worlds.{recording, come_home, given-out}
use Rattle.node_laws.proofs.Ends.{owes_nothing}
use Rattle.node_mirror.specs.Slots.{Home, Giving, Away, IsHome, IsGiving}
use Rattle.node_mirror.specs.Held.{Held, Mirrors, StandsFor}
use Rattle.node_mirror.specs.Fits.{TurnFits}
use Rattle.node_mirror.specs.Steps.{back}
use Rattle.node_mirror.proofs.Backs.{away-out, comes-home, becomes-mirrors}
use Rattle.node_mirror.proofs.MayGive.{refusing, may-give}
use Rattle.node_mirror.proofs.WorldRows.{is_no_bind, world-unbound}

-- A process comes back with a request to the world, or stopped by a bound of its turn.

-- what is brought back with this halt and this side
pub brings : {E P : Type 0} {engines : Meaning E P} {setting : Setting P} (births : List Birth) (w : World) (worker pid : ℕ) (brought : Brought E) (halt : Halt) (side : Side)
    → brought.halt ≡ halt → brought.side ≡ side → TurnFits engines setting births w worker pid brought
    → TurnFits engines setting births w worker pid (bring brought.seat brought.calls halt side brought.shed)
brings {E = E} {engines = engines} {setting = setting} births w worker pid brought halt side h s fits =
    subst (λ (b : Brought E). TurnFits engines setting births w worker pid b) (λ i. bring brought.seat brought.calls (h i) (s i) brought.shed) fits

fit_fits : (b : Bool) (j : Judgement) → cond b j (Faulty BadPointer) ≡ Fit → b ≡ true
fit_fits true j e = refl
fit_fits false j e = let h : ⊥ = cc in absurd h

-- a turn that asks is one of the process's own, and the areas of the request lie in the memory
asks_own : {E P : Type 0} {engines : Meaning E P} {setting : Setting P} (old : Book) (was : Held E) (worker pid : ℕ) (seat : Seat E) (calls : List Call) (request : Request) (side : Side)
    (shed : List ℕ) → StandsFor engines setting old (told old) was → TurnFits engines setting old.births (told old) worker pid (bring seat calls (HaltIs.Asks request) side shed)
    → (((told old).process pid).owed ≡ None) × (request.fits ≡ true)
asks_own old was worker pid seat calls request side shed keeps fits =
    let w : World = told old in
    let p : Process = w.process pid in
    let births : List Birth = refusing old.births in
    let give : Given = give_as worker pid calls seat.fuel (HaltIs.Asks request) side in
    let may : GiveFits None births w give = may-give old worker pid (bring seat calls (HaltIs.Asks request) side shed) keeps.run fits in
    let own : p.owed ≡ None = own-asks None births w p give p.owed request refl may.turn in
    let turn : IsAllowedTurn None births w p give = subst (λ (o : Option Request). GivesTurn None births w p give o) own may.turn in
    (own, fit_fits request.fits _ turn.halted.judged)

-- no listener was bound
unbound : (call : Option HostCall) (side : Side) → is_no_bind call ≡ true → is_bound call side ≡ false
unbound (Some CallIs.Bind) side none = let h : ⊥ = cc in absurd h
unbound _ side none = refl

part_asked : (p : Process) (worker pid : ℕ) (calls : List Call) (fuel : ℕ) (request : Request) (other side : Side) (part : Part) → kind_of request ≡ Some KindIs.World
    → PartFits part (HaltIs.Asks request) (part_brought p (give_as worker pid calls fuel (HaltIs.Asks request) other))
    → part ≡ part_after_turn p (give_as worker pid calls fuel (HaltIs.Asks request) side)
part_asked p worker pid calls fuel request other side part world fits =
    let after : Part = part_after_turn p (give_as worker pid calls fuel (HaltIs.Asks request) other) in
    fits ∙ ap (λ (b : Bool). cond b (settled after ListenerBound) after) (unbound (call_of request) other (world-unbound request world))

unkept : (request : Request) → kind_of request ≡ Some KindIs.World → kept_ask request ≡ None
unkept request world = rw world refl

-- ASK
asked_back : {E P : Type 0} {engines : Meaning E P} {setting : Setting P} (old : Book) (was : Held E) (pid worker : ℕ) (seat : Seat E) (calls : List Call) (shed : List ℕ) (other side : Side)
    (request : Request) → StandsFor engines setting old (told old) was → was.slots pid ≡ Away worker → kind_of request ≡ Some KindIs.World
    → TurnFits engines setting old.births (told old) worker pid (bring seat calls (HaltIs.Asks request) other shed)
    → Mirrors engines setting (home (recorded (told old) (give_as worker pid calls seat.fuel (HaltIs.Asks request) side)) pid)
    (back was pid (Giving seat request.ask) (time_beside side was.time) shed) old.ends
asked_back {engines = engines} {setting = setting} old was pid worker seat calls shed other side request keeps slot world fits =
    let w : World = told old in
    let m = keeps.mirrors in
    let p : Process = w.process pid in
    let give : Given = give_as worker pid calls seat.fuel (HaltIs.Asks request) side in
    let q : Process = come_home p give in
    let own = asks_own old was worker pid seat calls request other shed keeps fits in
    let owes = fits.phase.0 in
    let memory : List ℕ = engines.memory seat.engine in
    let none : seat.owed ≡ None = fits.phase.1 ∙ unkept request world in
    let seated : IsSeatOf engines setting.programs q (Owing request.ask) seat = record {
      stands = fits.seated.stands;
      start = fits.seated.start;
      part = part_asked p worker pid calls seat.fuel request other side seat.part world fits.seated.part;
      fuel = refl;
      owed = own.0 ∙ ap (λ (o : Option Ask). option_map (request_of memory) o) (sym none);
      phase = owes.phase;
    } in
    let fitting : IsFitting memory (request_of memory request.ask) = record { bytes = refl; fits = ap (λ (x : Request). x.fits) (sym owes.bytes) ∙ own.1 } in
    let giving : IsGiving engines setting.programs q seat request.ask = record { stage = refl; owed = own.0; seated = seated; fitting = fitting } in
    becomes-mirrors engines setting w (home (recorded w give) pid) was old.ends pid worker q (recording w give) (Giving seat request.ask) (time_beside side was.time) was.streams shed m slot
    (comes-home w give worker m.order (away-out pid worker m slot)) refl refl refl refl giving m.sends (ap (λ (t : ℕ). time_beside side t) m.time) m.streams
    (both-closed w.closed was.closed _ shed m.closed (sym fits.seated.closed))

pub ask-back : {E P : Type 0} {engines : Meaning E P} {setting : Setting P} (old : Book) (was : Held E) (pid worker : ℕ) (brought : Brought E) (side : Side) (request : Request)
    → StandsFor engines setting old (told old) was → was.slots pid ≡ Away worker → brought.halt ≡ HaltIs.Asks request → kind_of request ≡ Some KindIs.World
    → TurnFits engines setting old.births (told old) worker pid brought
    → Mirrors engines setting (home (recorded (told old) (record (give_of worker pid brought) { side = side })) pid)
    (back was pid (Giving brought.seat request.ask) (time_beside side was.time) brought.shed) old.ends
ask-back {engines = engines} {setting = setting} old was pid worker brought side request keeps slot halt world fits =
    subst (λ (h : Halt). Mirrors engines setting (home (recorded (told old) (give_as worker pid brought.calls brought.seat.fuel h side)) pid)
    (back was pid (Giving brought.seat request.ask) (time_beside side was.time) brought.shed) old.ends) (sym halt)
    (asked_back old was pid worker brought.seat brought.calls brought.shed brought.side side request keeps slot world
    (brings old.births (told old) worker pid brought (HaltIs.Asks request) brought.side halt refl fits))

-- SLICE
sliced_back : {E P : Type 0} {engines : Meaning E P} {setting : Setting P} (old : Book) (was : Held E) (births : List Birth) (pid worker : ℕ) (seat : Seat E) (calls : List Call) (shed : List ℕ)
    → StandsFor engines setting old (told old) was → was.slots pid ≡ Away worker
    → TurnFits engines setting old.births (told old) worker pid (bring seat calls HaltIs.Slice SideIs.Nothing shed)
    → Mirrors engines setting (happened births (told old) (GivesBack (give_as worker pid calls seat.fuel HaltIs.Slice SideIs.Nothing))) (back was pid (Home seat) was.time shed) old.ends
sliced_back {E = E} {engines = engines} {setting = setting} old was births pid worker seat calls shed keeps slot fits =
    let w : World = told old in
    let m = keeps.mirrors in
    let p : Process = w.process pid in
    let give : Given = give_as worker pid calls seat.fuel HaltIs.Slice SideIs.Nothing in
    let q : Process = come_home p give in
    let may : GiveFits None (refusing old.births) w give = may-give old worker pid (bring seat calls HaltIs.Slice SideIs.Nothing shed) keeps.run fits in
    let own : p.owed ≡ None = own-goes None (refusing old.births) w p give p.owed refl may.turn in
    let none : seat.owed ≡ None = fits.phase.1 in
    let out : p.stage ≡ Out worker = away-out pid worker m slot in
    let seated : IsSeatOf engines setting.programs q (phase_by seat.owed) seat = record {
      stands = fits.seated.stands;
      start = fits.seated.start;
      part = fits.seated.part;
      fuel = refl;
      owed = own ∙ ap (λ (o : Option Ask). option_map (request_of (engines.memory seat.engine)) o) (sym none);
      phase = fits.phase.0 ∙ ap phase_by (sym none);
    } in
    let at_home : IsHome engines setting.programs q seat = record { stage = refl; seated = seated; tries = owes_nothing (IsOwed (engines.memory seat.engine) seat.part) seat.owed none } in
    subst (λ (v : World). Mirrors engines setting v (back was pid (Home seat) was.time shed) old.ends) (sym (given-out p.stage worker births w give out))
    (becomes-mirrors engines setting w (home (recorded w give) pid) was old.ends pid worker q (recording w give) (Home seat) was.time was.streams shed m slot
    (comes-home w give worker m.order out) refl refl refl refl at_home m.sends m.time m.streams
    (both-closed w.closed was.closed _ shed m.closed (sym fits.seated.closed)))

pub slice-back : {E P : Type 0} {engines : Meaning E P} {setting : Setting P} (old : Book) (was : Held E) (births : List Birth) (pid worker : ℕ) (brought : Brought E)
    → StandsFor engines setting old (told old) was → was.slots pid ≡ Away worker → brought.halt ≡ HaltIs.Slice → brought.side ≡ SideIs.Nothing
    → TurnFits engines setting old.births (told old) worker pid brought
    → Mirrors engines setting (happened births (told old) (GivesBack (record (give_of worker pid brought) { side = SideIs.Nothing }))) (back was pid (Home brought.seat) was.time brought.shed) old.ends
slice-back {engines = engines} {setting = setting} old was births pid worker brought keeps slot halt side fits =
    subst (λ (h : Halt). Mirrors engines setting (happened births (told old) (GivesBack (give_as worker pid brought.calls brought.seat.fuel h SideIs.Nothing)))
    (back was pid (Home brought.seat) was.time brought.shed) old.ends) (sym halt)
    (sliced_back old was births pid worker brought.seat brought.calls brought.shed keeps slot
    (brings old.births (told old) worker pid brought HaltIs.Slice SideIs.Nothing halt side fits))
