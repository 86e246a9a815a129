use Rattle.std.proofs.Common.{◌≡◌, ◌≢◌, ℕ, ◌+◌, ◌≤◌, List, [], ◌∷◌, Some, true, false, cond, slice_get, append-nil, length, length-append, refl, sym, ◌∙◌, ap, subst, arith}
use Rattle.world_rules.specs.declared.entry.Entry.{Entry}
use Rattle.world_rules.specs.declared.entry.Entry.TheVariants.{Take}
use Rattle.world_rules.specs.declared.life.Ended.{Ended as EndMemory}
use Rattle.world_rules.specs.Book.{Book}
use Rattle.world_rules.specs.World.{World, Process, Stage, Unborn, Ready, Out, Waiting, Doomed, Ended, is_ready, is_ended, is_away}
use Rattle.world_rules.specs.Rules.{next, taken, queued, ready_among}
use Rattle.world_rules.specs.Allowed.{Allowed}
use Rattle.world_rules.specs.Told.{told}
use Rattle.world_rules.specs.Lives.{Setting, terms_of}
use Rattle.node_state.specs.Seats.{Meaning, Seat}
use Rattle.node_state.specs.Slots.{Slot, Nobody, Home, Asleep, Away, Fated, Gone, IsHome, SlotFits}
use Rattle.node_state.specs.Held.{Held, StandsFor, ListsReady, away_count}
use Rattle.node_state.specs.Changes.{Records, TakesFront}
use Rattle.node_laws.proofs.ReadyList.{true_is_not_false, queued-ready, ready-all, ready-stays, in-rest}
use Rattle.node_laws.proofs.Folds.{told-last, run-next}
use Rattle.node_laws.proofs.Goes.{Alters, alters-with, slots-one, mail-one, deadlines-one, ended-stay, ends-stay, first-is, first-kept, count-alone}

-- The front of the ready list is taken.

pub ready_is : (stage : Stage) → is_ready stage ≡ true → stage ≡ Ready
ready_is Unborn h = true_is_not_false (sym h)
ready_is Ready h = refl
ready_is (Out worker) h = true_is_not_false (sym h)
ready_is (Waiting request) h = true_is_not_false (sym h)
ready_is (Doomed worker end) h = true_is_not_false (sym h)
ready_is (Ended end) h = true_is_not_false (sym h)

not_ready : {X : Type 0} (stage to : Stage) → is_ready stage ≡ true → stage ≡ to → is_ready to ≡ false → X
not_ready stage to ready is unready = true_is_not_false (sym ready ∙ ap is_ready is ∙ unready)

not_ended : {X : Type 0} (stage : Stage) → is_ready stage ≡ true → is_ended stage ≡ true → X
not_ended stage ready ended = true_is_not_false (sym ended ∙ ap is_ended (ready_is stage ready))

-- who is ready has a seat
pub seat-there : {E P : Type 0} (engines : Meaning E P) (programs : List P) (p : Process) (slot : Slot E) → SlotFits engines programs p slot → is_ready p.stage ≡ true
    → (s : Seat E) × (slot ≡ Home s) × IsHome engines programs p s
seat-there engines programs p Nobody fits ready = not_ready p.stage Unborn ready (ap (λ (x : Process). x.stage) fits) refl
seat-there engines programs p (Home seat) fits ready = (seat, refl, fits)
seat-there engines programs p (Asleep seat ask) fits ready = not_ready p.stage _ ready fits.stage refl
seat-there engines programs p (Away worker) fits ready = not_ready p.stage _ ready fits refl
seat-there engines programs p (Fated worker end) fits ready = not_ready p.stage _ ready fits refl
seat-there engines programs p Gone fits ready = not_ended p.stage ready fits.ended

-- the front of the list is ready, and has a seat
pub front-seat : {E P : Type 0} {engines : Meaning E P} {setting : Setting P} (book : Book) (held : Held E) (pid : ℕ) (rest : List ℕ) → StandsFor engines setting book (told book) held
    → held.ready ≡ pid ∷ rest → (s : Seat E) × (held.slots pid ≡ Home s) × IsHome engines setting.programs ((told book).process pid) s
front-seat {engines = engines} {setting = setting} book held pid rest keeps front =
    let w : World = told book in
    let listed = rw front at keeps.mirrors.ready.each in
    seat-there engines setting.programs (w.process pid) (held.slots pid) (keeps.mirrors.slots pid) listed.0

-- who is ready in the world after a take is another, and was ready
still_ready : (w v : World) (pid worker : ℕ) (p : Process) → Alters w v pid p → is_ready p.stage ≡ false → (q : ℕ) → is_ready (v.process q).stage ≡ true
    → (q ≢ pid) × (is_ready (w.process q).stage ≡ true)
still_ready w v pid worker p alters out q ready =
    let other : q ≢ pid = λ e. true_is_not_false (sym ready ∙ ap (λ (k : ℕ). is_ready (v.process k).stage) e ∙ ap (λ (x : Process). is_ready x.stage) alters.at ∙ out) in
    (other, ap (λ (x : Process). is_ready x.stage) (sym (alters.others q other)) ∙ ready)

lists_take : (w v u : World) (pid : ℕ) (p : Process) (was is : List ℕ) → Alters w v pid p → is_ready p.stage ≡ false → was ≡ pid ∷ is → u.ready ≡ (queued w.ready [] v).ready → u.process ≡ v.process
    → ListsReady w was → ListsReady u is
lists_take w v u pid p was is alters out front same_ready same lists =
    let each = rw front at lists.each in
    let stays = ready-stays w.process v.process pid is alters.others each.1 each.2 in
    let kept : ready_among v (pid ∷ is) ≡ is = rw (alters.at, out) (ready-all v.process is stays) in
    let ready : w.ready ≡ pid ∷ is = lists.same ∙ front in
    let all = λ (q : ℕ) (r : is_ready (v.process q).stage ≡ true). still_ready w v pid 0 p alters out q r in
    record {
      same = same_ready ∙ queued-ready w.ready [] is v (rw ready kept) (λ q r. rw (append-nil w.ready, ready) (rw front at (lists.all q (all q r).1))) ∙ append-nil is;
      each = rw same stays;
      all = rw same (λ q r. in-rest q pid is (all q r).0 (rw front at (lists.all q (all q r).1)));
    }

room_take : (m n a b : ℕ) → n ≡ m + 1 → b + 1 ≡ a → m + 3 ≤ a → n + 1 ≤ b
room_take m n a b out room most = omega arith

-- one entry more
pub longer : (old new : Book) (entry : Entry) (ends : List EndMemory) → Records old new entry ends → length new.entries ≡ length old.entries + 1
longer old new entry ends records = ap (λ (es : List Entry). length es) records.entries ∙ length-append old.entries (entry ∷ [])

bound_same : (was is a b : ℕ) → is ≡ was → b ≡ a + 1 → was ≤ a → is ≤ b
bound_same was is a b same more h = omega arith

-- TAKE. The front of the ready list is out to the worker; the node stands for the journal with the Take.
pub keeps-take : {E P : Type 0} {engines : Meaning E P} {setting : Setting P} (old new : Book) (was is : Held E) (pid worker : ℕ) → StandsFor engines setting old (told old) was → was.over ≡ false
    → TakesFront was is pid worker → Records old new (Take worker pid) [] → was.out + 3 ≤ old.entry_room → StandsFor engines setting new (told new) is
keeps-take {engines = engines} {setting = setting} old new was is pid worker keeps going takes records room =
    let w : World = told old in
    let m = keeps.mirrors in
    let p : Process = record (w.process pid) { stage = Out worker } in
    let v : World = taken w worker pid in
    let entry : Entry = Take worker pid in
    let u : World = next old.births w entry in
    let alters : Alters w v pid p = alters-with w pid p in
    let after : Alters w u pid p = record { at = alters.at; others = alters.others; drawn = alters.drawn; spawns = refl; unlinked = λ a b h. h } in
    let each = rw takes.front at m.ready.each in
    let was_ready : (w.process pid).stage ≡ Ready = ready_is (w.process pid).stage each.0 in
    let one : pid ≡ 1 = first-is w pid is_ready keeps.first refl each.0 in
    let unended : is_ended (w.process pid).stage ≡ false = ap is_ended was_ready in
    let here : (w.process 1).stage ≡ Ready = subst (λ (k : ℕ). (w.process k).stage ≡ Ready) one was_ready in
    let there : (u.process 1).stage ≡ Out worker = subst (λ (k : ℕ). (u.process k).stage ≡ Out worker) one (ap (λ (x : Process). x.stage) after.at) in
    let zero_out : was.out ≡ 0 = sym m.out ∙ count-alone w keeps.first.drawn ∙ ap (λ (s : Stage). cond (is_away s) 1 0) here in
    let one_out : away_count u.process u.numbers_drawn ≡ 1 = count-alone u keeps.first.drawn ∙ ap (λ (s : Stage). cond (is_away s) 1 0) there in
    let stay : (q : ℕ) → is_ended (w.process q).stage ≡ true → u.process q ≡ w.process q = λ q e. after.others q
    (λ same. true_is_not_false (sym e ∙ ap (λ (k : ℕ). is_ended (w.process k).stage) same ∙ unended)) in
    let allowed : Allowed (Some (terms_of setting)) old.births w entry = (m.over ∙ going, ap (λ (xs : List ℕ). slice_get xs 0) (m.ready.same ∙ takes.front)) in
    rw (told-last old new entry records.births records.entries) (record {
      run = run-next setting old new entry [] records keeps.run allowed tt refl
          (rw (append-nil old.ends) (ends-stay setting w.process u.process w.exits old.ends keeps.ended stay keeps.run.ends));
      mirrors = record {
        ready = lists_take w v u pid p was.ready is.ready alters refl takes.front refl refl m.ready;
        slots = slots-one engines setting.programs w u pid p was is (Away worker) (was.mail pid) (was.deadlines pid) after takes.change refl m.slots;
        mail = mail-one w u pid p was is (Away worker) (was.deadlines pid) after (rw (← m.mail pid) at takes.change) m.mail;
        deadlines = deadlines-one w u pid p was is (Away worker) (was.mail pid) after (rw (← m.deadlines pid) at takes.change) m.deadlines;
        sends = m.sends ∙ sym takes.counts.sends_are;
        time = m.time ∙ sym takes.counts.time_is;
        row = m.row ∙ sym takes.counts.row_is;
        over = m.over ∙ sym takes.counts.over;
        out = one_out ∙ (sym (takes.out ∙ ap (λ (n : ℕ). n + 1) zero_out));
        streams = m.streams ∙ sym takes.closes.streams_are;
        closed = m.closed ∙ sym (takes.closes.closed_are ∙ append-nil was.closed);
        unlinked = m.unlinked;
      };
      quiet = λ o. true_is_not_false (sym o ∙ takes.counts.over ∙ going);
      room = rw (takes.counts.over, going) (room_take was.out is.out old.entry_room new.entry_room takes.out records.entry_room room);
      row_bound = bound_same was.row is.row (length old.entries) (length new.entries) takes.counts.row_is (longer old new entry [] records) keeps.row_bound;
      ended = ended-stay w.process u.process w.exits keeps.ended stay;
      first = first-kept w v w.row w.ready [] pid p alters refl refl one unended refl keeps.first;
    })
