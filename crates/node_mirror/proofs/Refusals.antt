use Rattle.std.proofs.Common.{◌≡◌, ℕ, List, ◌++◌, Option, Some, None, true, false, refl, sym, ap, subst}
use Rattle.host_port.specs.declared.call.Call.{Call}
use Rattle.host_port.specs.declared.request.Request.{Request}
use Rattle.host_port.specs.declared.row.MayCome.{MayCome}
use Rattle.host_port.specs.declared.row.MayCome.TheVariants as Beside
use Rattle.world_rules.specs.declared.entry.Side.{Side}
use Rattle.world_rules.specs.declared.entry.Side.TheVariants as SideIs
use Rattle.world_rules.specs.declared.halt.Halt.{Halt}
use Rattle.world_rules.specs.declared.halt.Halt.TheVariants as HaltIs
use Rattle.world_rules.specs.declared.life.Birth.{Birth}
use Rattle.world_rules.specs.Allowed.{Allowed, GiveFits, GivesTurn, SideFits, SpawnFits, IsRefusal, plain_answer, is_out}
use Rattle.world_rules.specs.Allowed.{TurnFits as IsAllowedTurn}
use Rattle.world_rules.specs.Births.{Terms}
use Rattle.world_rules.specs.Book.{Book}
use Rattle.world_rules.specs.Calls.{call_of}
use Rattle.world_rules.specs.Kinds.{may_come, is_refusable}
use Rattle.world_rules.specs.Lives.{Setting, TurnIsRun, OwnTurnIsRun, terms_of}
use Rattle.world_rules.specs.Part.{Part}
use Rattle.world_rules.specs.Rules.{turned}
use Rattle.world_rules.specs.Told.{told}
use Rattle.world_rules.specs.Views.{Given, deed_of}
use Rattle.world_rules.specs.World.{World, Process, Stage, Out}
use Rattle.node_state.specs.Seats.{Meaning, Seat}
use Rattle.node_state.specs.Fits.{Brought, give_of, entry_of}
use Rattle.node_laws.proofs.Gives.{give_as, bring, own-asks}
use Rattle.node_mirror.specs.Slots.{Away}
use Rattle.node_mirror.specs.Held.{Held, StandsFor}
use Rattle.node_mirror.specs.Fits.{TurnFits, HasBirth}
use Rattle.node_mirror.proofs.Backs.{away-out}
use Rattle.node_mirror.proofs.MayGive.{refusing, may-give}
use Rattle.node_mirror.proofs.Asks.{brings}

-- What a worker brings back is an entry that is allowed.

pub brought-allowed : {E P : Type 0} {engines : Meaning E P} {setting : Setting P} (old : Book) (more : List Birth) (pid worker : ℕ) (brought : Brought E)
    → TurnFits engines setting old.births (told old) worker pid brought → HasBirth (Some (terms_of setting)) (old.births ++ more) (told old) (give_of worker pid brought)
    → Allowed (Some (terms_of setting)) (old.births ++ more) (told old) (entry_of worker pid brought brought.side)
    × TurnIsRun setting (told old) (deed_of (entry_of worker pid brought brought.side))
brought-allowed {setting = setting} old more pid worker brought fits birth = (fits.allowed (Some (terms_of setting)) more birth, fits.turn)

-- beside what may be nothing, memory may be refused
refusal_fits : (may : Option MayCome) (w : World) (pid : ℕ) (part : Part) (request : Request) → SideFits may w pid part request SideIs.Nothing → IsRefusal w pid request
    → SideFits may w pid part request SideIs.NoMemory
refusal_fits (Some Beside.Nothing) w pid part request fits refusal = refusal
refusal_fits (Some Beside.Clock) w pid part request fits refusal = absurd fits
refusal_fits (Some (Beside.Answer true true)) w pid part request fits refusal = absurd fits
refusal_fits (Some (Beside.Answer true false)) w pid part request fits refusal = absurd fits
refusal_fits (Some (Beside.Answer false true)) w pid part request fits refusal = absurd fits
refusal_fits (Some (Beside.Answer false false)) w pid part request fits refusal = absurd fits
refusal_fits None w pid part request fits refusal = absurd fits

-- the same turn is a run, whatever is recorded beside it
turn_beside : {P : Type 0} (setting : Setting P) (p : Process) (worker pid : ℕ) (calls : List Call) (fuel : ℕ) (halt : Halt) (side other : Side) (owed : Option Request)
    → OwnTurnIsRun setting p (give_as worker pid calls fuel halt side) owed → OwnTurnIsRun setting p (give_as worker pid calls fuel halt other) owed
turn_beside setting p worker pid calls fuel halt side other None turn = record { program = turn.program; found = turn.found; turn = turn.turn }
turn_beside setting p worker pid calls fuel halt side other (Some request) turn = tt

asked_allowed : {E P : Type 0} {engines : Meaning E P} {setting : Setting P} (old : Book) (was : Held E) (births : List Birth) (pid worker : ℕ) (seat : Seat E) (calls : List Call) (shed : List ℕ)
    (request : Request) → StandsFor engines setting old (told old) was → was.slots pid ≡ Away worker
    → TurnFits engines setting old.births (told old) worker pid (bring seat calls (HaltIs.Asks request) SideIs.Nothing shed)
    → is_refusable request ≡ true → plain_answer (call_of request) (told old) pid request ≡ 0
    → SpawnFits (Some (terms_of setting)) births (call_of request) (Out worker) (told old)
    (turned ((told old).process pid) (give_as worker pid calls seat.fuel (HaltIs.Asks request) SideIs.Nothing)) request SideIs.NoMemory
    → GiveFits (Some (terms_of setting)) births (told old) (give_as worker pid calls seat.fuel (HaltIs.Asks request) SideIs.NoMemory)
    × OwnTurnIsRun setting ((told old).process pid) (give_as worker pid calls seat.fuel (HaltIs.Asks request) SideIs.NoMemory) ((told old).process pid).owed
asked_allowed {setting = setting} old was births pid worker seat calls shed request keeps slot fits refusable plain birth =
    let w : World = told old in
    let p : Process = w.process pid in
    let terms : Option Terms = Some (terms_of setting) in
    let give : Given = give_as worker pid calls seat.fuel (HaltIs.Asks request) SideIs.Nothing in
    let refused : Given = give_as worker pid calls seat.fuel (HaltIs.Asks request) SideIs.NoMemory in
    let out : p.stage ≡ Out worker = away-out pid worker keeps.mirrors slot in
    let may : GiveFits None (refusing old.births) w give = may-give old worker pid (bring seat calls (HaltIs.Asks request) SideIs.Nothing shed) keeps.run fits in
    let own : p.owed ≡ None = own-asks None (refusing old.births) w p give p.owed request refl may.turn in
    let t : IsAllowedTurn None (refusing old.births) w p give = subst (λ (o : Option Request). GivesTurn None (refusing old.births) w p give o) own may.turn in
    let refusal : IsRefusal w pid request = record { refusable = refusable; performed = ap is_out out; lost = plain } in
    let turn : IsAllowedTurn terms births w p refused = record {
      grown = t.grown;
      burnt = t.burnt;
      answered = t.answered;
      local = t.local;
      halted = record {
        kind = t.halted.kind;
        judged = t.halted.judged;
        beside = record {
          side = refusal_fits (may_come request) w pid (turned p give).part request t.halted.beside.side refusal;
          birth = subst (λ (s : Stage). SpawnFits terms births (call_of request) s w (turned p refused) request SideIs.NoMemory) (sym out) birth;
        };
      };
    } in (
      record { away = may.away; turn = subst (λ (o : Option Request). GivesTurn terms births w p refused o) (sym own) turn },
      turn_beside setting p worker pid calls seat.fuel (HaltIs.Asks request) SideIs.Nothing SideIs.NoMemory p.owed fits.turn,
    )

pub refusal-allowed : {E P : Type 0} {engines : Meaning E P} {setting : Setting P} (old : Book) (was : Held E) (more : List Birth) (pid worker : ℕ) (brought : Brought E) (request : Request)
    → StandsFor engines setting old (told old) was → was.slots pid ≡ Away worker → TurnFits engines setting old.births (told old) worker pid brought
    → brought.halt ≡ HaltIs.Asks request → brought.side ≡ SideIs.Nothing → is_refusable request ≡ true → plain_answer (call_of request) (told old) pid request ≡ 0
    → SpawnFits (Some (terms_of setting)) (old.births ++ more) (call_of request) (Out worker) (told old) (turned ((told old).process pid) (give_of worker pid brought)) request SideIs.NoMemory
    → Allowed (Some (terms_of setting)) (old.births ++ more) (told old) (entry_of worker pid brought SideIs.NoMemory)
    × TurnIsRun setting (told old) (deed_of (entry_of worker pid brought SideIs.NoMemory))
refusal-allowed {setting = setting} old was more pid worker brought request keeps slot fits halt side refusable plain birth =
    let w : World = told old in
    let births : List Birth = old.births ++ more in
    let at : Halt → Given = λ h. give_as worker pid brought.calls brought.seat.fuel h SideIs.NoMemory in
    subst (λ (h : Halt). GiveFits (Some (terms_of setting)) births w (at h) × OwnTurnIsRun setting (w.process pid) (at h) (w.process pid).owed) (sym halt)
    (asked_allowed old was births pid worker brought.seat brought.calls brought.shed request keeps slot
    (brings old.births w worker pid brought (HaltIs.Asks request) SideIs.Nothing halt side fits) refusable plain
    (subst (λ (h : Halt). SpawnFits (Some (terms_of setting)) births (call_of request) (Out worker) w
    (turned (w.process pid) (give_as worker pid brought.calls brought.seat.fuel h SideIs.Nothing)) request SideIs.NoMemory) halt birth))
