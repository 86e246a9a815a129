use Rattle.std.proofs.Common.{◌≡◌, ℕ, List, [], ◌∷◌, Bool, true, false, cond, nat_eq, ◌≢◌, refl, sym, ◌∙◌, ap, subst, ◌⊎◌, inl, inr}
use Rattle.std.proofs.lemmas.Bool.Decides.{eqb_tells}
use Rattle.std.proofs.Math.Logic.{∥∥₁_elim}
use Rattle.std.proofs.Math.Nat.{ℕ_set}
use Rattle.host_port.specs.declared.ask.Ask.{Ask}
use Rattle.host_port.specs.Areas.{request_of}
use Rattle.host_port.specs.Forms.{HasForm}
use Rattle.host_port.specs.Steps.{IsAnswerable}
use Rattle.world_rules.specs.declared.entry.Entry.TheVariants.{Take}
use Rattle.world_rules.specs.Book.{Book}
use Rattle.world_rules.specs.Calls.{call_of}
use Rattle.world_rules.specs.World.{World, Process, Stage, Out, is_away, is_ready}
use Rattle.world_rules.specs.Time.{late_reply}
use Rattle.world_rules.specs.Told.{told}
use Rattle.world_rules.specs.Lives.{Setting}
use Rattle.node_state.specs.declared.outcome.Receipt.TheVariants as ReceiptIs
use Rattle.node_state.specs.Seats.{Meaning, Seat, IsSeatOf, phase_by}
use Rattle.node_state.specs.Slots.{IsHome, IsAsleep, Slot, Asleep, SlotFits}
use Rattle.node_state.specs.Held.{Held, StandsFor, IsFirstAlone, AreReady, is_in}
use Rattle.node_state.specs.Changes.{Records}
use Rattle.node_laws.proofs.ReadyList.{nat_eq_same, true_is_not_false}
use Rattle.node_laws.proofs.Folds.{told-last}
use Rattle.node_laws.proofs.Goes.{first-is, count-alone}
use Rattle.node_laws.proofs.Takes.{ready_is}
use Rattle.node_laws.proofs.HostRows.{receive-called, sleep-called}
use Rattle.node_laws.proofs.Answerable.{receive-form, sleep-form}

-- What a node shows of a process that is taken, and what it tells an engine whose wait has ended.

-- after its Take the process is out to the worker, and all else of it is as it was at home
pub shown-taken : {E P : Type 0} (engines : Meaning E P) (programs : List P) (old new : Book) (pid worker : ℕ) (seat : Seat E) → IsHome engines programs ((told old).process pid) seat
    → Records old new (Take worker pid) [] → IsSeatOf engines programs ((told new).process pid) (phase_by seat.owed) seat × (((told new).process pid).stage ≡ Out worker)
shown-taken engines programs old new pid worker seat home records =
    let s = home.seated in
    rw (told-last old new (Take worker pid) records.births records.entries, nat_eq_same pid)
    (record { stands = s.stands; start = s.start; part = s.part; fuel = s.fuel; owed = s.owed; phase = s.phase }, refl)

ready_home : (stage : Stage) → is_ready stage ≡ true → is_away stage ≡ false
ready_home stage h = ap is_away (ready_is stage h)

-- nobody else is in the ready list
alone : (w : World) (pid : ℕ) → pid ≡ 1 → IsFirstAlone w → (rest : List ℕ) → is_in pid rest ≡ false → AreReady w.process rest → rest ≡ []
alone w pid one first [] out each = refl
alone w pid one first (q ∷ rest) out each =
    let same : q ≡ 1 = first-is w q is_ready first refl each.0 in
    let both : pid ≡ q = one ∙ sym same in
    let k : nat_eq pid q ≡ true = rw both (nat_eq_same q) in
    true_is_not_false (rw k at out)

-- the front of the ready list is process 1, whose start has its number, and no worker has a process
pub front-first : {E P : Type 0} {engines : Meaning E P} {setting : Setting P} (book : Book) (held : Held E) (pid : ℕ) (rest : List ℕ) → StandsFor engines setting book (told book) held
    → held.ready ≡ pid ∷ rest → (pid ≡ 1) × (((told book).process pid).start.pid ≡ pid) × (held.out ≡ 0) × (rest ≡ [])
front-first book held pid rest keeps front =
    let w : World = told book in
    let listed = rw front at keeps.mirrors.ready.each in
    let one : pid ≡ 1 = first-is w pid is_ready keeps.first refl listed.0 in
    let ready : is_ready (w.process 1).stage ≡ true = subst (λ (k : ℕ). is_ready (w.process k).stage ≡ true) one listed.0 in
    let home : is_away (w.process 1).stage ≡ false = ready_home (w.process 1).stage ready in (
      one,
      subst (λ (k : ℕ). (w.process k).start.pid ≡ k) (sym one) keeps.first.numbered,
      sym keeps.mirrors.out ∙ count-alone w keeps.first.drawn
          ∙ ap (λ (b : Bool). cond b 1 0) home,
      alone w pid one keeps.first rest listed.1 listed.2,
    )

-- THE LATE REPLY

late_form : (ask : Ask) (memory : List ℕ) → (ask.call ≡ 9) ⊎ (ask.call ≡ 17) → HasForm ask (late_reply (call_of (request_of memory ask)))
late_form ask memory (inl call) = rw (receive-called (request_of memory ask) call) (receive-form ask ReceiptIs.TimedOut call)
late_form ask memory (inr call) = rw (sleep-called (request_of memory ask) call) (sleep-form ask call)

-- a number that is one of two is the one or the other
one_of : (n a b : ℕ) → ∥ (n ≡ a) ⊎ (n ≡ b) ∥₁ → (n ≡ a) ⊎ (n ≡ b)
one_of n a b either = tell (eqb_tells n a)
  where
    tell : ((nat_eq n a ≡ true) × (n ≡ a)) ⊎ ((nat_eq n a ≡ false) × (n ≢ a)) → (n ≡ a) ⊎ (n ≡ b)
    tell (inl same) = inl same.1
    tell (inr other) = inr (∥∥₁_elim either (ℕ_set n b) from)
      where
        from : (n ≡ a) ⊎ (n ≡ b) → n ≡ b
        from (inl same) = absurd (other.1 same)
        from (inr same) = same

-- an engine whose process is asleep may be told the late reply
pub answerable-late : {E P : Type 0} (engines : Meaning E P) (programs : List P) (p : Process) (seat : Seat E) (ask : Ask) → IsAsleep engines programs p seat ask
    → IsAnswerable (engines.phase seat.engine) (engines.memory seat.engine) (late_reply (call_of (request_of (engines.memory seat.engine) ask)))
answerable-late engines programs p seat ask asleep = record {
  ask = ask;
  owed = asleep.seated.phase;
  fits = asleep.fitting.fits;
  form = late_form ask (engines.memory seat.engine) (one_of ask.call 9 17 asleep.call);
}

-- so it is with a process whose slot is asleep
pub answerable-asleep : {E P : Type 0} {engines : Meaning E P} {setting : Setting P} (book : Book) (held : Held E) (pid : ℕ) (seat : Seat E) (ask : Ask)
    → StandsFor engines setting book (told book) held → held.slots pid ≡ Asleep seat ask → IsAnswerable (engines.phase seat.engine) (engines.memory seat.engine)
    (late_reply (call_of (request_of (engines.memory seat.engine) ask)))
answerable-asleep {E = E} {engines = engines} {setting = setting} book held pid seat ask keeps is =
    answerable-late engines setting.programs ((told book).process pid) seat ask
    (subst (λ (s : Slot E). SlotFits engines setting.programs ((told book).process pid) s) is (keeps.mirrors.slots pid))
