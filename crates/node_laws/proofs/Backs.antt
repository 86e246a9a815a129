use Rattle.std.proofs.Common.{◌≡◌, ℕ, List, Bool, true, false, cond, refl, sym, ◌∙◌, ap, subst, ◌⊎◌, inl, inr}
use Rattle.world_rules.specs.declared.halt.End.{End}
use Rattle.world_rules.specs.Book.{Book}
use Rattle.world_rules.specs.World.{World, Process, Stage, Unborn, Ready, Out, Waiting, Doomed, Ended, is_live, is_away, is_ended}
use Rattle.world_rules.specs.Allowed.{IsWith}
use Rattle.world_rules.specs.Told.{told}
use Rattle.world_rules.specs.Lives.{Setting}
use Rattle.node_state.specs.Seats.{Meaning}
use Rattle.node_state.specs.Slots.{Slot, Nobody, Home, Asleep, Away, Fated, Gone, SlotFits}
use Rattle.node_state.specs.Held.{Held, StandsFor}
use Rattle.node_laws.proofs.ReadyList.{true_is_not_false}
use Rattle.node_laws.proofs.Goes.{first-is, count-alone}
use Rattle.node_laws.proofs.Gives.{with-away}

-- What a node shows of a process that comes back from its worker.

-- a worker has the one process
pub one-out : {E P : Type 0} {engines : Meaning E P} {setting : Setting P} (book : Book) (held : Held E) (pid worker : ℕ) → StandsFor engines setting book (told book) held
    → IsWith ((told book).process pid).stage worker → (pid ≡ 1) × (held.out ≡ 1)
one-out book held pid worker keeps is_with =
    let w : World = told book in
    let away = with-away (w.process pid).stage worker is_with in
    let one : pid ≡ 1 = first-is w pid is_away keeps.first refl away in
    let here : is_away (w.process 1).stage ≡ true = subst (λ (k : ℕ). is_away (w.process k).stage ≡ true) one away in
    (one, sym keeps.mirrors.out ∙ count-alone w keeps.first.drawn ∙ ap (λ (b : Bool). cond b 1 0) here)

not_with : {X : Type 0} (stage : Stage) (worker : ℕ) → IsWith stage worker → is_away stage ≡ false → X
not_with stage worker is_with home = true_is_not_false (sym (with-away stage worker is_with) ∙ home)

ended_home : (stage : Stage) → is_ended stage ≡ true → is_away stage ≡ false
ended_home Unborn h = refl
ended_home Ready h = refl
ended_home (Out worker) h = true_is_not_false (sym h)
ended_home (Waiting request) h = refl
ended_home (Doomed worker end) h = true_is_not_false (sym h)
ended_home (Ended end) h = refl

out_with : (stage : Stage) (other worker : ℕ) → stage ≡ Out other → IsWith stage worker → other ≡ worker
out_with stage other worker is h = rw is at h

doomed_with : (stage : Stage) (other worker : ℕ) (end : End) → stage ≡ Doomed other end → IsWith stage worker → other ≡ worker
doomed_with stage other worker end is h = rw is at h

-- its slot is that of a process that this worker has, or has to its doom
pub slot-with : {E P : Type 0} (engines : Meaning E P) (programs : List P) (p : Process) (slot : Slot E) (worker : ℕ) → SlotFits engines programs p slot → IsWith p.stage worker
    → ((slot ≡ Away worker) × (p.stage ≡ Out worker)) ⊎ ((end : End) × (slot ≡ Fated worker end) × (p.stage ≡ Doomed worker end))
slot-with engines programs p Nobody worker fits is_with = not_with p.stage worker is_with (ap (λ (x : Process). is_away x.stage) fits)
slot-with engines programs p (Home seat) worker fits is_with = not_with p.stage worker is_with (ap is_away fits.stage)
slot-with engines programs p (Asleep seat ask) worker fits is_with = not_with p.stage worker is_with (ap is_away fits.stage)
slot-with engines programs p (Away other) worker fits is_with =
    let same : other ≡ worker = out_with p.stage other worker fits is_with in
    inl (ap Away same, fits ∙ ap Out same)
slot-with engines programs p (Fated other end) worker fits is_with =
    let same : other ≡ worker = doomed_with p.stage other worker end fits is_with in
    inr (end, ap (λ (n : ℕ). Fated n end) same, fits ∙ ap (λ (n : ℕ). Doomed n end) same)
slot-with engines programs p Gone worker fits is_with = not_with p.stage worker is_with (ended_home p.stage fits.ended)

-- while a process is out the run goes on
pub going-out : {E P : Type 0} {engines : Meaning E P} {setting : Setting P} (book : Book) (held : Held E) (pid worker : ℕ) → StandsFor engines setting book (told book) held
    → ((told book).process pid).stage ≡ Out worker → held.over ≡ false
going-out book held pid worker keeps out = by held.over refl
  where
    by : (b : Bool) → held.over ≡ b → held.over ≡ false
    by false is = is
    by true is = true_is_not_false (sym (ap is_live out) ∙ keeps.quiet is pid)

-- who is doomed is so since the run is over
pub over-doomed : {E P : Type 0} {engines : Meaning E P} {setting : Setting P} (book : Book) (held : Held E) (pid worker : ℕ) (end : End) → StandsFor engines setting book (told book) held
    → ((told book).process pid).stage ≡ Doomed worker end → held.over ≡ true
over-doomed book held pid worker end keeps doomed =
    let w : World = told book in
    let one : pid ≡ 1 = first-is w pid is_away keeps.first refl (ap is_away doomed) in
    let here : (w.process 1).stage ≡ Doomed worker end = subst (λ (k : ℕ). (w.process k).stage ≡ Doomed worker end) one doomed in
    by (ap is_live here) held.over refl
  where
    by : is_live ((told book).process 1).stage ≡ false → (b : Bool) → held.over ≡ b → held.over ≡ true
    by dead true is = is
    by dead false is = true_is_not_false (sym (keeps.first.going (keeps.mirrors.over ∙ is)) ∙ dead)
