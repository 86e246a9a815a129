use Rattle.std.proofs.Common.{◌≡◌, ℕ, List, Option, Some, None, Bool, true, false, cond, refl, sym, ◌∙◌, ap, subst}
use Rattle.host_port.specs.declared.call.Call.{Call}
use Rattle.host_port.specs.declared.request.Request.{Request}
use Rattle.world_rules.specs.declared.entry.Side.{Side}
use Rattle.world_rules.specs.declared.entry.Side.TheVariants as SideIs
use Rattle.world_rules.specs.declared.halt.Halt.{Halt}
use Rattle.world_rules.specs.declared.halt.Halt.TheVariants as HaltIs
use Rattle.world_rules.specs.declared.halt.End.{End}
use Rattle.world_rules.specs.declared.halt.End.TheVariants as EndIs
use Rattle.world_rules.specs.declared.life.Birth.{Birth}
use Rattle.world_rules.specs.Births.{Terms}
use Rattle.world_rules.specs.Calls.{HostCall}
use Rattle.world_rules.specs.Kinds.{kind_of, may_come}
use Rattle.world_rules.specs.Part.{Part}
use Rattle.world_rules.specs.Settled.{settled, ListenerBound}
use Rattle.world_rules.specs.Views.{Given, Want, Ends, want_of, wanted_in, answer_in, is_pending, is_starved}
use Rattle.world_rules.specs.World.{World, Process}
use Rattle.world_rules.specs.Rules.{turned, halted, asked, retried, part_after_turn}
use Rattle.world_rules.specs.Allowed.{GiveFits, GivesTurn, WantFits, RetryEndsSo, RetryFits, SideFits}
use Rattle.world_rules.specs.Allowed.{TurnFits as IsAllowedTurn}
use Rattle.node_state.specs.Seats.{Meaning, Seat}
use Rattle.node_state.specs.Fits.{Owes, PartFits, PhaseFits, SeatFits, is_bound, is_outside, kept_ask, with_bound, part_brought}
use Rattle.node_laws.proofs.ReadyList.{true_is_not_false}
use Rattle.node_laws.proofs.Gives.{give_as, bring, unbound, own-asks}
use Rattle.node_laws.proofs.OutsideRows.{IsOutsideCall, is_external, outside-call}

-- What a process that comes back has asked of the outside.

-- a process that is given back beside what came from outside: the request that it has asked, or has tried again, which its
-- engine owes; what came beside it fits; and what its halt is performed as
pub record IsOutward {E P : Type 0} (engines : Meaning E P) (w : World) (pid : ℕ) (seat : Seat E) (halt : Halt) (side : Side) : Type 0 where
  pub request : Request
  pub owes : Owes engines seat.engine request
  pub owed : seat.owed ≡ Some request.ask
  pub unstarved : is_starved halt ≡ false
  pub wanted : wanted_in (want_of halt) (w.process pid).owed ≡ Some request
  pub part : Part
  pub beside : SideFits (may_come request) w pid part request side
  pub call : IsOutsideCall request
  pub performs : (births : List Birth) (r : World) → (r.process pid).owed ≡ (w.process pid).owed
      → halted (want_of halt) births r pid side ≡ asked (is_pending side) births r pid request side

-- where a process ends nothing comes beside it
ends_silent : (terms : Option Terms) (births : List Birth) (w : World) (p : Process) (give : Given) (owed : Option Request) (end : End) → want_of give.halt ≡ Ends end
    → GivesTurn terms births w p give owed → give.side ≡ SideIs.Nothing
ends_silent terms births w p give None end is turn =
    let t : WantFits terms births w p give (Ends end) = subst (λ (want : Want). WantFits terms births w p give want) is turn.halted in
    t.0
ends_silent terms births w p give (Some request) end is turn =
    let t : RetryEndsSo terms births w p give request (Ends end) = subst (λ (want : Want). RetryEndsSo terms births w p give request want) is turn.halted in
    t.1

goes_silent : (terms : Option Terms) (births : List Birth) (w : World) (p : Process) (worker pid : ℕ) (calls : List Call) (fuel : ℕ) (side : Side) (owed : Option Request)
    → GivesTurn terms births w p (give_as worker pid calls fuel HaltIs.Slice side) owed → side ≡ SideIs.Nothing
goes_silent terms births w p worker pid calls fuel side None turn = turn.halted.0
goes_silent terms births w p worker pid calls fuel side (Some request) turn = absurd turn.halted

not_silent : {X : Type 0} (side : Side) → is_external side ≡ true → side ≡ SideIs.Nothing → X
not_silent side external silent = true_is_not_false (sym external ∙ ap is_external silent)

kept_so : (request : Request) → is_outside (kind_of request) ≡ true → kept_ask request ≡ Some request.ask
kept_so request outside = rw outside refl

pub outward : {E P : Type 0} {engines : Meaning E P} (terms : Option Terms) (births : List Birth) (w : World) (worker pid : ℕ) (seat : Seat E) (calls : List Call) (halt : Halt) (side : Side)
    → is_external side ≡ true → GiveFits terms births w (give_as worker pid calls seat.fuel halt side) → PhaseFits engines (w.process pid).owed seat halt
    → IsOutward engines w pid seat halt side
outward terms births w worker pid seat calls HaltIs.Slice side external may phase =
    not_silent side external (goes_silent terms births w (w.process pid) worker pid calls seat.fuel side (w.process pid).owed may.turn)
outward terms births w worker pid seat calls (HaltIs.Asks request) side external may phase =
    let give : Given = give_as worker pid calls seat.fuel (HaltIs.Asks request) side in
    let t : IsAllowedTurn terms births w (w.process pid) give = subst (λ (o : Option Request). GivesTurn terms births w (w.process pid) give o)
    (own-asks terms births w (w.process pid) give (w.process pid).owed request refl may.turn) may.turn in
    let part : Part = (turned (w.process pid) give).part in
    let beside : SideFits (may_come request) w pid part request side = t.halted.beside.side in
    let call = outside-call w pid part request side external beside in
    record {
      request = request;
      owes = phase.0;
      owed = phase.1 ∙ kept_so request call.kind;
      unstarved = refl;
      wanted = refl;
      part = part;
      beside = beside;
      call = call;
      performs = λ more r same. refl;
    }
outward terms births w worker pid seat calls HaltIs.Done side external may phase =
    not_silent side external (ends_silent terms births w (w.process pid) (give_as worker pid calls seat.fuel HaltIs.Done side) (w.process pid).owed EndIs.Done refl may.turn)
outward terms births w worker pid seat calls (HaltIs.Trap trap) side external may phase =
    not_silent side external (ends_silent terms births w (w.process pid) (give_as worker pid calls seat.fuel (HaltIs.Trap trap) side) (w.process pid).owed (EndIs.Trap trap) refl may.turn)
outward terms births w worker pid seat calls (HaltIs.Spent spent) side external may phase =
    not_silent side external (ends_silent terms births w (w.process pid) (give_as worker pid calls seat.fuel (HaltIs.Spent spent) side) (w.process pid).owed (EndIs.Spent spent) refl may.turn)
outward terms births w worker pid seat calls (HaltIs.Host fault request) side external may phase =
    not_silent side external (ends_silent terms births w (w.process pid) (give_as worker pid calls seat.fuel (HaltIs.Host fault request) side) (w.process pid).owed (EndIs.Host fault) refl may.turn)
outward terms births w worker pid seat calls HaltIs.NoMemory side external may phase =
    not_silent side external (ends_silent terms births w (w.process pid) (give_as worker pid calls seat.fuel HaltIs.NoMemory side) (w.process pid).owed EndIs.NoMemory refl may.turn)
outward terms births w worker pid seat calls HaltIs.Again side external may phase =
    let give : Given = give_as worker pid calls seat.fuel HaltIs.Again side in
    let request : Request = phase.0 in
    let t : RetryFits terms births w (w.process pid) give request = subst (λ (o : Option Request). GivesTurn terms births w (w.process pid) give o) phase.1 may.turn in
    let part : Part = (w.process pid).part in
    let beside : SideFits (may_come request) w pid part request side = t.halted.side in
    record {
      request = request;
      owes = phase.2;
      owed = phase.3;
      unstarved = refl;
      wanted = phase.1;
      part = part;
      beside = beside;
      call = outside-call w pid part request side external beside;
      performs = λ more r same. ap (λ (o : Option Request). retried o more r pid side) (same ∙ phase.1);
    }

-- THE PART THAT COMES BACK

part_fits : (part : Part) (halt : Halt) (after : Part) → is_starved halt ≡ false → PartFits part halt after → part ≡ after
part_fits part HaltIs.Slice after free fits = fits
part_fits part (HaltIs.Asks request) after free fits = fits
part_fits part HaltIs.Done after free fits = fits
part_fits part (HaltIs.Trap trap) after free fits = fits
part_fits part (HaltIs.Spent spent) after free fits = fits
part_fits part (HaltIs.Host fault request) after free fits = fits
part_fits part HaltIs.NoMemory after free fits = true_is_not_false free
part_fits part HaltIs.Again after free fits = fits

-- with a listener where the call of this name was answered so
abbrev pub with_name : HostCall → Side → Part → Part
with_name name side part = cond (is_bound (Some name) side) (settled part ListenerBound) part

-- the part that comes back with an outward process
pub part-outward : {E P : Type 0} {engines : Meaning E P} {programs : List P} (w : World) (worker pid : ℕ) (seat : Seat E) (calls : List Call) (halt : Halt) (side : Side) (shed : List ℕ)
    → (o : IsOutward engines w pid seat halt side) → SeatFits engines programs (w.process pid) (bring seat calls halt side shed) (give_as worker pid calls seat.fuel halt side)
    → seat.part ≡ with_name o.call.name side (part_after_turn (w.process pid) (give_as worker pid calls seat.fuel halt side))
part-outward w worker pid seat calls halt side shed o seated =
    let give : Given = give_as worker pid calls seat.fuel halt side in
    let after : Part = part_after_turn (w.process pid) give in
    part_fits seat.part halt (part_brought (w.process pid) give) o.unstarved seated.part
    ∙ ap (λ (wanted : Option Request). with_bound wanted side after) o.wanted
    ∙ ap (λ (call : Option HostCall). cond (is_bound call side) (settled after ListenerBound) after) o.call.called

pub part-unbound : (name : HostCall) (side : Side) (part : Part) → answer_in side ≡ None → with_name name side part ≡ part
part-unbound name side part none = ap (λ (b : Bool). cond b (settled part ListenerBound) part) (unbound (Some name) side none)
