use Rattle.std.proofs.Common.{◌≡◌, ℕ, List, Some, slice_get, refl, sym, ◌∙◌, ap, subst}
use Rattle.host_port.specs.declared.ask.Ask.{Ask}
use Rattle.host_port.specs.declared.reply.Reply.{Reply}
use Rattle.host_port.specs.Standing.{Phase}
use Rattle.host_port.specs.Steps.{IsAnswerable}
use Rattle.node_state.specs.Seats.{Meaning, Seat}
use Rattle.node_state.specs.Fits.{IsAnswered}
use Rattle.node_mirror.specs.Slots.{Slot, Nobody, Home, Asleep, Giving, Away, Fated, Gone}
use Rattle.process_store.specs.Telling.{MayBeTold, Tells}

-- The process whose Give is being performed.

abbrev seat_or : {E : Type 0} → Seat E → Slot E → Seat E
seat_or seat Nobody = seat
seat_or seat (Home other) = seat
seat_or seat (Asleep other ask) = seat
seat_or seat (Giving other ask) = other
seat_or seat (Away worker) = seat
seat_or seat (Fated worker end) = seat
seat_or seat Gone = seat

abbrev ask_or : {E : Type 0} → Ask → Slot E → Ask
ask_or ask Nobody = ask
ask_or ask (Home other) = ask
ask_or ask (Asleep other asked) = ask
ask_or ask (Giving other asked) = asked
ask_or ask (Away worker) = ask
ask_or ask (Fated worker end) = ask
ask_or ask Gone = ask

-- there is one such seat, with one ask
pub same_seat : {E : Type 0} (slot : Slot E) (seat other : Seat E) (ask asked : Ask) → slot ≡ Giving seat ask → slot ≡ Giving other asked → seat ≡ other
same_seat slot seat other ask asked is too = ap (seat_or seat) (sym is ∙ too)

pub same_ask : {E : Type 0} (slot : Slot E) (seat other : Seat E) (ask asked : Ask) → slot ≡ Giving seat ask → slot ≡ Giving other asked → ask ≡ asked
same_ask slot seat other ask asked is too = ap (ask_or ask) (sym is ∙ too)

-- what came of the engine that was told, at the one seat there
pub tells : {E P : Type 0} (engines : Meaning E P) (slot : Slot E) (reply : Reply) (Is : Seat E → E → Type 0) (seat : Seat E) (ask : Ask) (engine : E) → slot ≡ Giving seat ask
    → IsAnswered engines seat.engine reply engine → Is seat engine → Tells engines slot reply Is
tells engines slot reply Is seat ask engine there answered is other asked at =
    let same = same_seat slot seat other ask asked there at in
    (engine, subst (λ (s : Seat _). IsAnswered engines s.engine reply engine) same answered, subst (λ (s : Seat _). Is s engine) same is)

-- who may be told this at the one seat there
pub may_be_told : {E : Type 0} (phase : E → Phase) (memory : E → List ℕ) (slot : Slot E) (reply : Reply) (seat : Seat E) (ask : Ask) → slot ≡ Giving seat ask → MayBeTold phase memory slot reply
    → IsAnswerable (phase seat.engine) (memory seat.engine) reply
may_be_told phase memory slot reply seat ask there may = subst (λ s. MayBeTold phase memory s reply) there may
