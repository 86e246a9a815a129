use Rattle.std.proofs.Common.{◌≡◌, ℕ, List, [], ◌∷◌, ◌++◌, Option, None, Bool, true, false, cond, append-nil, refl, sym, ◌∙◌, ap, subst}
use Rattle.world_rules.specs.declared.halt.End.{End}
use Rattle.world_rules.specs.declared.life.Ended.{Ended as EndMemory}
use Rattle.world_rules.specs.Arrivals as Came
use Rattle.world_rules.specs.Mail.{mail_handles}
use Rattle.world_rules.specs.Part.{Part}
use Rattle.world_rules.specs.World.{World, Process, Stage, Unborn, Ready, Out, Waiting, Doomed, Ended, is_live, is_ended, is_away, is_waiting}
use Rattle.world_rules.specs.Changes.{reached}
use Rattle.world_rules.specs.Ends.{stripped, fated, ended_from_outside, doomed, struck, held_handles}
use Rattle.world_rules.specs.Sound.{is_born}
use Rattle.world_rules.specs.Lives.{Setting}
use Rattle.node_state.specs.Seats.{Meaning, Seat, StandsAt, part_handles}
use Rattle.node_state.specs.Fits.{ShowMemory, IsLastOf}
use Rattle.node_laws.proofs.ReadyList.{true_is_not_false, nat_eq_same, nat_eq_other}
use Rattle.node_laws.proofs.Programs.{memory-shown}
use Rattle.node_mirror.specs.Slots.{Slot, Nobody, Home, Asleep, Giving, Away, Fated, Gone, SlotFits, IsLastAt, is_live_slot}
use Rattle.node_mirror.specs.Held.{Held, Mirrors}
use Rattle.node_mirror.specs.Steps.{replaced, gone, struck_at, over}
use Rattle.node_mirror.specs.Steps.{fated as fated_held, struck as struck_held}
use Rattle.node_mirror.proofs.Counts.{away_same}
use Rattle.node_mirror.proofs.One.{one_of_put}
use Rattle.node_mirror.proofs.Dying.{Dies, IsDead, Leaves, ended_mirrors, doomed_mirrors}

-- An end comes to a process from outside its turn.

-- STAGES

-- a process that can be struck at home
abbrev pub is_struck_home : Stage → Bool
is_struck_home Unborn = false
is_struck_home Ready = true
is_struck_home (Out worker) = false
is_struck_home (Waiting request) = true
is_struck_home (Doomed worker end) = false
is_struck_home (Ended end) = false

home_born : (stage : Stage) → is_struck_home stage ≡ true → is_born stage ≡ true
home_born Unborn h = true_is_not_false (sym h)
home_born Ready h = refl
home_born (Out worker) h = true_is_not_false (sym h)
home_born (Waiting request) h = refl
home_born (Doomed worker end) h = true_is_not_false (sym h)
home_born (Ended end) h = true_is_not_false (sym h)

home_unended : (stage : Stage) → is_struck_home stage ≡ true → is_ended stage ≡ false
home_unended Unborn h = refl
home_unended Ready h = refl
home_unended (Out worker) h = refl
home_unended (Waiting request) h = refl
home_unended (Doomed worker end) h = refl
home_unended (Ended end) h = true_is_not_false (sym h)

home_there : (stage : Stage) → is_struck_home stage ≡ true → is_away stage ≡ false
home_there Unborn h = refl
home_there Ready h = refl
home_there (Out worker) h = true_is_not_false (sym h)
home_there (Waiting request) h = refl
home_there (Doomed worker end) h = true_is_not_false (sym h)
home_there (Ended end) h = refl

home_struck : (stage : Stage) (w : World) (pid : ℕ) (end : End) → is_struck_home stage ≡ true → struck stage w pid end ≡ ended_from_outside w pid end
home_struck Unborn w pid end h = true_is_not_false (sym h)
home_struck Ready w pid end h = refl
home_struck (Out worker) w pid end h = true_is_not_false (sym h)
home_struck (Waiting request) w pid end h = refl
home_struck (Doomed worker earlier) w pid end h = true_is_not_false (sym h)
home_struck (Ended earlier) w pid end h = true_is_not_false (sym h)

-- AT HOME

-- the process as it is when it has ended so from outside its turn
abbrev gone_process : Process → End → Process
gone_process p end = stripped (reached p (Came.Doomed end)) end

-- what a node holds of a process that has ended
pub leaves_gone : {E : Type 0} (held : Held E) (pid : ℕ) (handles : List ℕ) → Leaves held (gone held pid handles) pid Gone
leaves_gone held pid handles = record {
  one = record { slots = refl; mails = refl; deadlines = refl };
  names = λ name. refl;
  numbers = refl;
  births = refl;
  sends = refl;
  over = refl;
}

outside_dies : (w : World) (pid : ℕ) (end : End) → Dies w (ended_from_outside w pid end) pid (gone_process (w.process pid) end)
outside_dies w pid end = record {
  there = record { at = rw (nat_eq_same pid) refl; others = λ q other. rw (nat_eq_other q pid other) refl };
  drawn = refl;
  spawns = refl;
  names = λ name. refl;
  links = λ a b. refl;
  over = refl;
}

home_dead : (p : Process) (end : End) → is_born p.stage ≡ true → IsDead p (gone_process p end)
home_dead p end born = record { was_born = born; start = refl; born = refl; dead = refl; empty = refl; untimed = refl; handles = tt }

closes_outside : (w : World) (pid : ℕ) (end : End) (part : Part) → part ≡ (w.process pid).part
    → (ended_from_outside w pid end).closed ≡ w.closed ++ (part_handles part ++ mail_handles (w.process pid).mail)
closes_outside w pid end part same =
    ap (λ (p : Process). w.closed ++ held_handles p) (ap (λ (b : Bool). cond b (reached (w.process pid) (Came.Doomed end)) (w.process pid)) (nat_eq_same pid))
    ∙ ap (λ (x : Part). w.closed ++ (part_handles x ++ mail_handles (w.process pid).mail)) (sym same)

struck_home : {E P : Type 0} (engines : Meaning E P) (setting : Setting P) (w : World) (held : Held E) (ends : List EndMemory) (pid : ℕ) (end : End) (seat : Seat E) (memory : EndMemory)
    → ShowMemory engines setting → Mirrors engines setting w held ends → is_struck_home (w.process pid).stage ≡ true
    → StandsAt engines setting.programs (w.process pid) seat.engine (w.process pid).calls (w.process pid).fuel → seat.part ≡ (w.process pid).part → IsLastOf engines pid seat.engine memory
    → Mirrors engines setting (ended_from_outside w pid end) (gone held pid (part_handles seat.part)) (ends ++ memory ∷ [])
struck_home engines setting w held ends pid end seat memory show m home stands part last =
    let stage : Stage = (w.process pid).stage in
    let v : World = ended_from_outside w pid end in
    let p : Process = gone_process (w.process pid) end in
    let born : is_born stage ≡ true = home_born stage home in
    let has = m.programs pid born in
    let d = outside_dies w pid end in
    ended_mirrors engines setting w v held (gone held pid (part_handles seat.part)) ends pid p end memory Gone m d (home_dead (w.process pid) end born) (leaves_gone held pid (part_handles seat.part))
    (record { ended = refl; left = refl }) (home_unended stage home) refl refl last.numbered
    (memory-shown engines setting p pid seat.engine memory has.0 has.1 show stands last)
    refl
    (away_same w.process v.process pid w.numbers_drawn (one_of_put w.process v.process pid p d.there) (ap (λ (x : Process). is_away x.stage) d.there.at ∙ sym (home_there stage home)) ∙ m.out)
    m.time m.sends m.streams
    (closes_outside w pid end seat.part part ∙ (λ i. m.closed i ++ (part_handles seat.part ++ mail_handles (m.mail pid i))))

-- OUT

leaves_fated : {E : Type 0} (held : Held E) (pid worker : ℕ) (end : End) → held.deadlines pid ≡ None → Leaves held (fated_held held pid worker end) pid (Fated worker end)
leaves_fated held pid worker end untimed = record {
  one = record { slots = refl; mails = refl; deadlines = ap (λ (d : Option ℕ). replaced held.deadlines pid d) untimed };
  names = λ name. refl;
  numbers = refl;
  births = refl;
  sends = refl;
  over = refl;
}

doomed_dies : (w : World) (pid worker : ℕ) (end : End) → Dies w (doomed w pid worker end) pid (fated (w.process pid) worker end)
doomed_dies w pid worker end = record {
  there = record { at = rw (nat_eq_same pid) refl; others = λ q other. rw (nat_eq_other q pid other) refl };
  drawn = refl;
  spawns = refl;
  names = λ name. refl;
  links = λ a b. refl;
  over = refl;
}

struck_out : {E P : Type 0} (engines : Meaning E P) (setting : Setting P) (w : World) (held : Held E) (ends : List EndMemory) (pid worker : ℕ) (end : End)
    → Mirrors engines setting w held ends → (w.process pid).stage ≡ Out worker → Mirrors engines setting (doomed w pid worker end) (fated_held held pid worker end) ends
struck_out engines setting w held ends pid worker end m out =
    let v : World = doomed w pid worker end in
    let p : Process = fated (w.process pid) worker end in
    let d = doomed_dies w pid worker end in
    let order = m.order.each pid in
    let untimed : (w.process pid).deadline ≡ None = order.deadline (ap is_waiting out) in
    let dead : IsDead (w.process pid) p = record { was_born = ap is_born out; start = refl; born = refl; dead = refl; empty = refl; untimed = untimed; handles = order.handles } in
    doomed_mirrors engines setting w v held (fated_held held pid worker end) ends pid p (Fated worker end) m d dead
    (leaves_fated held pid worker end (sym (m.deadlines pid) ∙ untimed)) refl (ap is_ended out) refl refl refl
    (away_same w.process v.process pid w.numbers_drawn (one_of_put w.process v.process pid p d.there) (ap (λ (x : Process). is_away x.stage) d.there.at ∙ sym (ap is_away out)) ∙ m.out)
    m.time m.sends m.streams
    (λ i. m.closed i ++ mail_handles (m.mail pid i))

-- WHATEVER THE PROCESS IS DOING

struck_dead_slot : {E P : Type 0} (engines : Meaning E P) (setting : Setting P) (w : World) (held : Held E) (ends more : List EndMemory) (pid : ℕ) (end : End) (stage : Stage)
    → Mirrors engines setting w held ends → more ≡ [] → struck stage w pid end ≡ w → Mirrors engines setting (struck stage w pid end) held (ends ++ more)
struck_dead_slot engines setting w held ends more pid end stage m none same =
    subst (λ (x : World). Mirrors engines setting x held (ends ++ more)) (sym same)
    (subst (λ (xs : List EndMemory). Mirrors engines setting w held xs) (sym (append-nil ends) ∙ ap (λ (xs : List EndMemory). ends ++ xs) (sym none)) m)

ended_struck : (stage : Stage) (w : World) (pid : ℕ) (end : End) → is_ended stage ≡ true → struck stage w pid end ≡ w
ended_struck Unborn w pid end h = refl
ended_struck Ready w pid end h = true_is_not_false (sym h)
ended_struck (Out worker) w pid end h = true_is_not_false (sym h)
ended_struck (Waiting request) w pid end h = true_is_not_false (sym h)
ended_struck (Doomed worker earlier) w pid end h = refl
ended_struck (Ended earlier) w pid end h = refl

struck_slot : {E P : Type 0} (engines : Meaning E P) (setting : Setting P) (w : World) (held : Held E) (ends more : List EndMemory) (pid : ℕ) (end : End) (slot : Slot E)
    → ShowMemory engines setting → Mirrors engines setting w held ends → SlotFits engines setting.programs (w.process pid) slot → IsLastAt engines pid slot more
    → Mirrors engines setting (struck (w.process pid).stage w pid end) (struck_at slot held pid end) (ends ++ more)
struck_slot engines setting w held ends more pid end Nobody show m fits last =
    struck_dead_slot engines setting w held ends more pid end (w.process pid).stage m last (ap (λ (p : Process). struck p.stage w pid end) fits)
struck_slot engines setting w held ends [] pid end (Home seat) show m fits last = absurd last
struck_slot engines setting w held ends (memory ∷ []) pid end (Home seat) show m fits last =
    let home : is_struck_home (w.process pid).stage ≡ true = ap is_struck_home fits.stage in
    subst (λ (x : World). Mirrors engines setting x (gone held pid (part_handles seat.part)) (ends ++ memory ∷ [])) (sym (home_struck (w.process pid).stage w pid end home))
    (struck_home engines setting w held ends pid end seat memory show m home fits.seated.stands fits.seated.part last)
struck_slot engines setting w held ends (memory ∷ other ∷ more) pid end (Home seat) show m fits last = absurd last
struck_slot engines setting w held ends [] pid end (Asleep seat ask) show m fits last = absurd last
struck_slot engines setting w held ends (memory ∷ []) pid end (Asleep seat ask) show m fits last =
    let home : is_struck_home (w.process pid).stage ≡ true = ap is_struck_home fits.stage in
    subst (λ (x : World). Mirrors engines setting x (gone held pid (part_handles seat.part)) (ends ++ memory ∷ [])) (sym (home_struck (w.process pid).stage w pid end home))
    (struck_home engines setting w held ends pid end seat memory show m home fits.seated.stands fits.seated.part last)
struck_slot engines setting w held ends (memory ∷ other ∷ more) pid end (Asleep seat ask) show m fits last = absurd last
struck_slot engines setting w held ends [] pid end (Giving seat ask) show m fits last = absurd last
struck_slot engines setting w held ends (memory ∷ []) pid end (Giving seat ask) show m fits last =
    let home : is_struck_home (w.process pid).stage ≡ true = ap is_struck_home fits.stage in
    subst (λ (x : World). Mirrors engines setting x (gone held pid (part_handles seat.part)) (ends ++ memory ∷ [])) (sym (home_struck (w.process pid).stage w pid end home))
    (struck_home engines setting w held ends pid end seat memory show m home fits.seated.stands fits.seated.part last)
struck_slot engines setting w held ends (memory ∷ other ∷ more) pid end (Giving seat ask) show m fits last = absurd last
struck_slot engines setting w held ends more pid end (Away worker) show m fits last =
    subst (λ (x : World). Mirrors engines setting x (fated_held held pid worker end) (ends ++ more)) (ap (λ (s : Stage). struck s w pid end) (sym fits))
    (subst (λ (xs : List EndMemory). Mirrors engines setting (doomed w pid worker end) (fated_held held pid worker end) xs)
    (sym (append-nil ends) ∙ ap (λ (xs : List EndMemory). ends ++ xs) (sym last))
    (struck_out engines setting w held ends pid worker end m fits))
struck_slot engines setting w held ends more pid end (Fated worker earlier) show m fits last =
    struck_dead_slot engines setting w held ends more pid end (w.process pid).stage m last (ap (λ (s : Stage). struck s w pid end) fits)
struck_slot engines setting w held ends more pid end Gone show m fits last =
    struck_dead_slot engines setting w held ends more pid end (w.process pid).stage m last (ended_struck (w.process pid).stage w pid end fits.ended)

-- STRIKE
pub struck_mirrors : {E P : Type 0} (engines : Meaning E P) (setting : Setting P) (w : World) (held : Held E) (ends more : List EndMemory) (pid : ℕ) (end : End)
    → ShowMemory engines setting → Mirrors engines setting w held ends → IsLastAt engines pid (held.slots pid) more
    → Mirrors engines setting (struck (w.process pid).stage w pid end) (struck_held held pid end) (ends ++ more)
struck_mirrors engines setting w held ends more pid end show m last = struck_slot engines setting w held ends more pid end (held.slots pid) show m (m.slots pid) last

-- OVER

ended_unlive : (stage : Stage) → is_ended stage ≡ true → is_live stage ≡ false
ended_unlive Unborn h = refl
ended_unlive Ready h = true_is_not_false (sym h)
ended_unlive (Out worker) h = true_is_not_false (sym h)
ended_unlive (Waiting request) h = true_is_not_false (sym h)
ended_unlive (Doomed worker end) h = refl
ended_unlive (Ended end) h = refl

-- at a slot that isn't live is a process that isn't
pub slot_unlive : {E P : Type 0} (engines : Meaning E P) (programs : List P) (p : Process) (slot : Slot E) → SlotFits engines programs p slot → is_live_slot slot ≡ false → is_live p.stage ≡ false
slot_unlive engines programs p Nobody fits dead = ap (λ (x : Process). is_live x.stage) fits
slot_unlive engines programs p (Home seat) fits dead = true_is_not_false dead
slot_unlive engines programs p (Asleep seat ask) fits dead = true_is_not_false dead
slot_unlive engines programs p (Giving seat ask) fits dead = true_is_not_false dead
slot_unlive engines programs p (Away worker) fits dead = true_is_not_false dead
slot_unlive engines programs p (Fated worker end) fits dead = ap is_live fits
slot_unlive engines programs p Gone fits dead = ended_unlive p.stage fits.ended

pub over_mirrors : {E P : Type 0} (engines : Meaning E P) (setting : Setting P) (w : World) (held : Held E) (ends : List EndMemory)
    → Mirrors engines setting w held ends → ((pid : ℕ) → is_live_slot (held.slots pid) ≡ false) → Mirrors engines setting (record w { over = true }) (over held) ends
over_mirrors engines setting w held ends m dead = record {
  order = record {
    undrawn = m.order.undrawn;
    drawn = m.order.drawn;
    each = m.order.each;
    over = λ o pid. slot_unlive engines setting.programs (w.process pid) (held.slots pid) (m.slots pid) (dead pid);
    names = m.order.names;
    links = m.order.links;
  };
  unmet = m.unmet;
  programs = m.programs;
  slots = m.slots;
  mail = m.mail;
  deadlines = m.deadlines;
  names = m.names;
  numbers = m.numbers;
  births = m.births;
  drawn = m.drawn;
  unended = m.unended;
  out = m.out;
  sends = m.sends;
  time = m.time;
  over = refl;
  streams = m.streams;
  closed = m.closed;
  ended = m.ended;
  memories = m.memories;
  room = m.room;
}
