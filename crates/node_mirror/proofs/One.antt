use Rattle.std.proofs.Common.{◌≡◌, ◌≢◌, ◌⊎◌, ℕ, ◌+◌, ◌<◌, ◌≤◌, List, [], ◌∷◌, length, Option, Bool, true, false, cond, nat_eq, refl, sym, ◌∙◌, ap, subst, inl, inr}
use Rattle.std.specs.Prelude.{◌&&◌, nat_lt, nat_le}
use Rattle.std.proofs.lemmas.Bool.Decides.{eqb_tells, leb_tells}
use Rattle.host_port.specs.declared.start.Start.{Start}
use Rattle.world_rules.specs.declared.life.Ended.{Ended as EndMemory}
use Rattle.world_rules.specs.Mail.{MailItem}
use Rattle.world_rules.specs.World.{World, Process, Exit, put, is_away, is_ended, is_live, unended_count}
use Rattle.world_rules.specs.Sound.{AreInOrder, IsInOrder, is_born, is_drawn}
use Rattle.world_rules.specs.Unmet.{NothingWanted}
use Rattle.world_rules.specs.Lives.{Setting, IsMemoryOf, EndsAreMemories}
use Rattle.world_rules.specs.laws.KeepingLaws.{false_is_true}
use Rattle.node_state.specs.Seats.{Meaning}
use Rattle.node_laws.proofs.ReadyList.{nat_eq_same, nat_eq_other}
use Rattle.node_laws.proofs.Goes.{Alters}
use Rattle.node_laws.proofs.Tallies.{Tally, tally_of}
use Rattle.node_laws.proofs.Worlds.{Becomes}
use Rattle.node_mirror.specs.Slots.{Slot, SlotFits}
use Rattle.node_mirror.specs.Held.{Held, Mirrors, HaveEnded, HasProgram, away_count}
use Rattle.node_mirror.specs.Steps.{replaced, with_one}
use Rattle.node_mirror.proofs.Counts.{OneOther, away_same, unended_same}

-- What a node holds mirrors the world after one process has changed, and its slot, its mailbox and its deadline with it.

-- ONE REPLACED

pub replaced_here : {X : Type 0} (f : ℕ → X) (pid : ℕ) (x : X) → replaced f pid x pid ≡ x
replaced_here f pid x = ap (λ (b : Bool). cond b x (f pid)) (nat_eq_same pid)

pub replaced_other : {X : Type 0} (f : ℕ → X) (pid : ℕ) (x : X) (q : ℕ) → q ≢ pid → replaced f pid x q ≡ f q
replaced_other f pid x q other = ap (λ (b : Bool). cond b x (f q)) (nat_eq_other q pid other)

replaced_by : {X : Type 0} (f : ℕ → X) (pid : ℕ) (x : X) (q : ℕ) → f pid ≡ x → ((nat_eq q pid ≡ true) × (q ≡ pid)) ⊎ ((nat_eq q pid ≡ false) × (q ≢ pid)) → replaced f pid x q ≡ f q
replaced_by f pid x q same (inl is) = ap (λ (b : Bool). cond b x (f q)) is.0 ∙ sym same ∙ ap f (sym is.1)
replaced_by f pid x q same (inr other) = replaced_other f pid x q other.1

-- one that is replaced by itself
pub replaced_same : {X : Type 0} (f : ℕ → X) (pid : ℕ) (x : X) → f pid ≡ x → replaced f pid x ≡ f
replaced_same f pid x same = λ i q. replaced_by f pid x q same (eqb_tells q pid) i

-- the process of one number is this one, and all others are as before
pub record IsPut (old new : ℕ → Process) (pid : ℕ) (p : Process) : Type 0 where
  pub at : new pid ≡ p
  pub others : (q : ℕ) → q ≢ pid → new q ≡ old q

pub is_put : (old new : ℕ → Process) (pid : ℕ) (p : Process) → ((q : ℕ) → new q ≡ put old pid p q) → IsPut old new pid p
is_put old new pid p process = record {
  at = process pid ∙ replaced_here old pid p;
  others = λ q other. process q ∙ replaced_other old pid p q other;
}

pub put_of_alters : (w v : World) (pid : ℕ) (p : Process) → Alters w v pid p → IsPut w.process v.process pid p
put_of_alters w v pid p alters = record { at = alters.at; others = alters.others }

pub one_of_put : (old new : ℕ → Process) (pid : ℕ) (p : Process) → IsPut old new pid p → OneOther old new pid
one_of_put old new pid p is = record { others = is.others }

-- what holds of the one and of all others holds of all
pub all_put : (old new : ℕ → Process) (pid : ℕ) (p : Process) (P : ℕ → Process → Type 0) → IsPut old new pid p → P pid p → ((q : ℕ) → q ≢ pid → P q (old q)) → (q : ℕ) → P q (new q)
all_put old new pid p P is here there q = by (eqb_tells q pid)
  where
    by : ((nat_eq q pid ≡ true) × (q ≡ pid)) ⊎ ((nat_eq q pid ≡ false) × (q ≢ pid)) → P q (new q)
    by (inl same) = subst (λ (k : ℕ). P k (new k)) (sym same.1) (subst (λ (x : Process). P pid x) (sym is.at) here)
    by (inr other) = subst (λ (x : Process). P q x) (sym (is.others q other.1)) (there q other.1)

-- so it does beside what a node holds, the one replaced there too
pub both_put : {X : Type 0} (old new : ℕ → Process) (pid : ℕ) (p : Process) (f g : ℕ → X) (x : X) (P : Process → X → Type 0) → IsPut old new pid p → g ≡ replaced f pid x
    → P p x → ((q : ℕ) → P (old q) (f q)) → (q : ℕ) → P (new q) (g q)
both_put {X} old new pid p f g x P is held here there =
    all_put old new pid p (λ q r. P r (g q)) is
    (subst (λ (h : ℕ → X). P p (h pid)) (sym held) (subst (λ (y : X). P p y) (sym (replaced_here f pid x)) here))
    (λ q other. subst (λ (h : ℕ → X). P (old q) (h q)) (sym held) (subst (λ (y : X). P (old q) y) (sym (replaced_other f pid x q other)) (there q)))

-- THE WORLD IS IN ORDER

drawn_by : (a b : Bool) → (a && b) ≡ true → (a ≡ true) × (b ≡ true)
drawn_by true b e = (refl, e)
drawn_by false b e = false_is_true e

at_most : (a b : ℕ) → nat_le a b ≡ true → a ≤ b
at_most a b e = by (leb_tells a b)
  where
    by : ((nat_le a b ≡ true) × (a ≤ b)) ⊎ ((nat_le a b ≡ false) × (b < a)) → a ≤ b
    by (inl h) = h.1
    by (inr h) = false_is_true (sym h.0 ∙ e)

-- the number of a process that was born is among those that were drawn
pub record WasDrawn (w : World) (pid : ℕ) : Type 0 where
  pub drawn : is_drawn w pid ≡ true
  pub low : 0 < pid
  pub high : pid ≤ w.numbers_drawn

drawn_at : (w : World) (pid : ℕ) → AreInOrder w → is_born (w.process pid).stage ≡ true → (b : Bool) → is_drawn w pid ≡ b → is_drawn w pid ≡ true
drawn_at w pid order born true e = e
drawn_at w pid order born false e = false_is_true (sym (ap (λ (p : Process). is_born p.stage) (order.undrawn pid e)) ∙ born)

pub was_drawn : (w : World) (pid : ℕ) → AreInOrder w → is_born (w.process pid).stage ≡ true → WasDrawn w pid
was_drawn w pid order born =
    let is : is_drawn w pid ≡ true = drawn_at w pid order born (is_drawn w pid) refl in
    let both = drawn_by (nat_lt 0 pid) (nat_le pid w.numbers_drawn) is in
    record { drawn = is; low = at_most 1 pid both.0; high = at_most pid w.numbers_drawn both.1 }

-- what isn't of processes stays: the names, the links, whether the run is over, and the numbers that were drawn
pub record RestStays (w v : World) : Type 0 where
  pub names : (name : List ℕ) → v.names name ≡ w.names name
  pub links : (a b : ℕ) → v.links a b ≡ w.links a b
  pub over : v.over ≡ w.over
  pub numbers : v.numbers_drawn ≡ w.numbers_drawn

-- a process that was born is replaced by one that was born and is in order, and is live where it was
pub order_put : (w v : World) (pid : ℕ) (p : Process) → AreInOrder w → IsPut w.process v.process pid p → RestStays w v → is_born (w.process pid).stage ≡ true → is_born p.stage ≡ true
    → is_live p.stage ≡ is_live (w.process pid).stage → IsInOrder pid p → AreInOrder v
order_put w v pid p order is rest was born lives here = record {
  undrawn = λ q none.
      let before = same_drawn q false none in
      is.others q (λ same. false_is_true (sym before ∙ ap (λ (k : ℕ). is_drawn w k) same ∙ (was_drawn w pid order was).drawn)) ∙ order.undrawn q before;
  drawn = λ q there. all_put w.process v.process pid p (λ k r. is_drawn w k ≡ true → is_born r.stage ≡ true) is (λ _. born) (λ k other. order.drawn k) q (same_drawn q true there);
  each = all_put w.process v.process pid p (λ k r. IsInOrder k r) is here (λ k other. order.each k);
  over = λ ends q. live q ∙ order.over (sym rest.over ∙ ends) q;
  names = λ name q e. live q ∙ order.names name q (sym (rest.names name) ∙ e);
  links = λ a b tag e. let both = order.links a b tag (sym (rest.links a b) ∙ e) in (live a ∙ both.0, live b ∙ both.1);
}
  where
    same_drawn : (q : ℕ) (b : Bool) → is_drawn v q ≡ b → is_drawn w q ≡ b
    same_drawn q b e = ap (λ (n : ℕ). nat_lt 0 q && nat_le q n) (sym rest.numbers) ∙ e

    live : (q : ℕ) → is_live (v.process q).stage ≡ is_live (w.process q).stage
    live = all_put w.process v.process pid p (λ k r. is_live r.stage ≡ is_live (w.process k).stage) is lives (λ k other. refl)

-- WHO HAS ENDED

-- who has ended isn't one that hadn't, and so stays
pub ended_others : (old new : ℕ → Process) (pid : ℕ) (p : Process) → IsPut old new pid p → is_ended (old pid).stage ≡ false → (q : ℕ) → is_ended (old q).stage ≡ true → new q ≡ old q
ended_others old new pid p is going q ended =
    is.others q (λ same. false_is_true (sym going ∙ ap (λ (k : ℕ). is_ended (old k).stage) (sym same) ∙ ended))

pub ended_stay : (old new : ℕ → Process) (exits : List Exit) → HaveEnded old exits → ((q : ℕ) → is_ended (old q).stage ≡ true → new q ≡ old q) → HaveEnded new exits
ended_stay old new [] ended same = tt
ended_stay old new (exit ∷ exits) ended same =
    (ap (λ (p : Process). is_ended p.stage) (same exit.pid ended.0) ∙ ended.0, ended_stay old new exits ended.1 same)

pub memories_stay : {P : Type 0} (setting : Setting P) (old new : ℕ → Process) (exits : List Exit) (memories : List EndMemory) → HaveEnded old exits
    → ((q : ℕ) → is_ended (old q).stage ≡ true → new q ≡ old q) → EndsAreMemories setting old exits memories → EndsAreMemories setting new exits memories
memories_stay setting old new [] [] ended same ends = tt
memories_stay setting old new [] (memory ∷ memories) ended same ends = absurd ends
memories_stay setting old new (exit ∷ exits) [] ended same ends = absurd ends
memories_stay setting old new (exit ∷ exits) (memory ∷ memories) ended same ends =
    (ends.0, subst (λ (p : Process). IsMemoryOf setting p memory) (sym (same exit.pid ended.0)) ends.1, memories_stay setting old new exits memories ended.1 same ends.2)

-- THE MIRROR

-- the one process has its program, nothing that it waits for, and the slot, the mailbox and the deadline that a node holds
pub record OneFits {E P : Type 0} (engines : Meaning E P) (programs : List P) (p : Process) (slot : Slot E) (mail : List MailItem) (deadline : Option ℕ) : Type 0 where
  pub program : is_born p.stage ≡ true → HasProgram programs p.start
  pub unmet : NothingWanted p.stage p.mail
  pub slot_fits : SlotFits engines programs p slot
  pub mail_is : p.mail ≡ mail
  pub deadline_is : p.deadline ≡ deadline

-- who was born keeps its program
pub program_stays : {E P : Type 0} {engines : Meaning E P} {setting : Setting P} {w : World} {held : Held E} {ends : List EndMemory} (pid : ℕ) (p : Process) → Mirrors engines setting w held ends
    → is_born (w.process pid).stage ≡ true → p.start ≡ (w.process pid).start → is_born p.stage ≡ true → HasProgram setting.programs p.start
program_stays {setting = setting} pid p m born same _ = subst (λ (start : Start). HasProgram setting.programs start) (sym same) (m.programs pid born)

-- in a node the slot, the mailbox and the deadline of one number are these; those of all others are as before
pub record HoldsOne {E : Type 0} (held is : Held E) (pid : ℕ) (slot : Slot E) (mail : List MailItem) (deadline : Option ℕ) : Type 0 where
  pub slots : is.slots ≡ replaced held.slots pid slot
  pub mails : is.mail ≡ replaced held.mail pid mail
  pub deadlines : is.deadlines ≡ replaced held.deadlines pid deadline

-- what a node holds besides is what this world says
pub record Beside {E P : Type 0} (setting : Setting P) (v : World) (is : Held E) (ends : List EndMemory) : Type 0 where
  pub names : (name : List ℕ) → v.names name ≡ is.names name
  pub numbers : v.numbers_drawn ≡ is.numbers
  pub births : v.spawns + 1 ≡ is.births
  pub drawn : v.numbers_drawn ≤ v.spawns + 1
  pub unended : unended_count v ≡ is.unended
  pub out : away_count v.process v.numbers_drawn ≡ is.out
  pub sends : v.sends ≡ is.sends
  pub time : v.time ≡ is.time
  pub over : v.over ≡ is.over
  pub streams : v.streams ≡ is.streams
  pub closed : v.closed ≡ is.closed
  pub ended : HaveEnded v.process v.exits
  pub memories : EndsAreMemories setting v.process v.exits ends
  pub room : length ends + is.unended ≡ is.numbers

-- WHERE ONE CHANGES, whatever else does.
pub mirrors_put : {E P : Type 0} {engines : Meaning E P} {setting : Setting P} (w v : World) (held is : Held E) (ends after : List EndMemory) (pid : ℕ) (p : Process) (slot : Slot E)
    (mail : List MailItem) (deadline : Option ℕ)
    → Mirrors engines setting w held ends → AreInOrder v → IsPut w.process v.process pid p → OneFits engines setting.programs p slot mail deadline → HoldsOne held is pid slot mail deadline
    → Beside setting v is after → Mirrors engines setting v is after
mirrors_put {engines = engines} {setting = setting} w v held is ends after pid p slot mail deadline m order there fits holds beside = record {
  order = order;
  unmet = all_put w.process v.process pid p (λ q r. NothingWanted r.stage r.mail) there fits.unmet (λ q other. m.unmet q);
  programs = all_put w.process v.process pid p (λ q r. is_born r.stage ≡ true → HasProgram setting.programs r.start) there fits.program (λ q other. m.programs q);
  slots = both_put w.process v.process pid p held.slots is.slots slot (λ r s. SlotFits engines setting.programs r s) there holds.slots fits.slot_fits m.slots;
  mail = both_put w.process v.process pid p held.mail is.mail mail (λ r items. r.mail ≡ items) there holds.mails fits.mail_is m.mail;
  deadlines = both_put w.process v.process pid p held.deadlines is.deadlines deadline (λ r d. r.deadline ≡ d) there holds.deadlines fits.deadline_is m.deadlines;
  names = beside.names;
  numbers = beside.numbers;
  births = beside.births;
  drawn = beside.drawn;
  unended = beside.unended;
  out = beside.out;
  sends = beside.sends;
  time = beside.time;
  over = beside.over;
  streams = beside.streams;
  closed = beside.closed;
  ended = beside.ended;
  memories = beside.memories;
  room = beside.room;
}

-- what is counted of a node
abbrev pub counted_of : {E : Type 0} → Held E → Tally
counted_of held = record { sends = held.sends; time = held.time; streams = held.streams; closed = held.closed }

pub counted_same : {E P : Type 0} {engines : Meaning E P} {setting : Setting P} (w : World) (held : Held E) (ends : List EndMemory) → Mirrors engines setting w held ends → tally_of w ≡ counted_of held
counted_same w held ends m = λ i. record { sends = m.sends i; time = m.time i; streams = m.streams i; closed = m.closed i }

-- a node with one changed so, in which so much is counted, and so many workers have a process
abbrev pub with_counted : {E : Type 0} → Held E → Tally → (out : ℕ) → Held E
with_counted held n out = record held { sends = n.sends; time = n.time; streams = n.streams; closed = n.closed; out = out }

-- WHERE ONE CHANGES AND GOES ON, and no name, number or end changes: it was born and hadn't ended, and it isn't ended now.
pub record GoesOn (w v : World) (pid : ℕ) (p : Process) : Type 0 where
  pub rest : RestStays w v
  pub was : is_born (w.process pid).stage ≡ true
  pub born : is_born p.stage ≡ true
  pub lives : is_live p.stage ≡ is_live (w.process pid).stage
  pub before : is_ended (w.process pid).stage ≡ false
  pub after : is_ended p.stage ≡ false
  pub order : IsInOrder pid p

pub mirrors_goes : {E P : Type 0} {engines : Meaning E P} {setting : Setting P} (w v : World) (held is : Held E) (ends : List EndMemory) (pid : ℕ) (p : Process) (slot : Slot E) (mail : List MailItem)
    (deadline : Option ℕ) (n : Tally)
    → Mirrors engines setting w held ends → Becomes w v pid p n → GoesOn w v pid p → OneFits engines setting.programs p slot mail deadline → HoldsOne held is pid slot mail deadline
    → n ≡ counted_of is → away_count v.process w.numbers_drawn ≡ is.out
    → is.names ≡ held.names → is.numbers ≡ held.numbers → is.births ≡ held.births → is.unended ≡ held.unended → is.over ≡ held.over
    → Mirrors engines setting v is ends
mirrors_goes {E} {P} {engines} {setting} w v held is ends pid p slot mail deadline n m b goes fits holds counted away names numbers births unended over =
    let there : IsPut w.process v.process pid p = put_of_alters w v pid p b.alters in
    let same_ended : is_ended (v.process pid).stage ≡ is_ended (w.process pid).stage = ap (λ (x : Process). is_ended x.stage) b.alters.at ∙ goes.after ∙ sym goes.before in
    let stays : (q : ℕ) → is_ended (w.process q).stage ≡ true → v.process q ≡ w.process q = ended_others w.process v.process pid p there goes.before in
    let c : tally_of v ≡ counted_of is = b.counted ∙ counted in
    mirrors_put w v held is ends ends pid p slot mail deadline m (order_put w v pid p m.order there goes.rest goes.was goes.born goes.lives goes.order) there fits holds (record {
      names = λ name. goes.rest.names name ∙ m.names name ∙ ap (λ (f : List ℕ → Option ℕ). f name) (sym names);
      numbers = b.alters.drawn ∙ m.numbers ∙ sym numbers;
      births = ap (λ (k : ℕ). k + 1) b.alters.spawns ∙ m.births ∙ sym births;
      drawn = rw (b.alters.drawn, b.alters.spawns) m.drawn;
      unended = unended_same w v pid (one_of_put w.process v.process pid p there) b.alters.drawn same_ended ∙ m.unended ∙ sym unended;
      out = ap (λ (k : ℕ). away_count v.process k) b.alters.drawn ∙ away;
      sends = ap (λ (t : Tally). t.sends) c;
      time = ap (λ (t : Tally). t.time) c;
      over = b.over ∙ m.over ∙ sym over;
      streams = ap (λ (t : Tally). t.streams) c;
      closed = ap (λ (t : Tally). t.closed) c;
      ended = subst (λ (exits : List Exit). HaveEnded v.process exits) (sym b.exits) (ended_stay w.process v.process w.exits m.ended stays);
      memories = subst (λ (exits : List Exit). EndsAreMemories setting v.process exits ends) (sym b.exits) (memories_stay setting w.process v.process w.exits ends m.ended stays m.memories);
      room = rw (unended, numbers) m.room;
    })

-- SO MUCH IS COUNTED. Where as many workers have a process as before.
pub mirrors_one : {E P : Type 0} {engines : Meaning E P} {setting : Setting P} (w v : World) (held : Held E) (ends : List EndMemory) (pid : ℕ) (p : Process) (slot : Slot E) (mail : List MailItem)
    (deadline : Option ℕ) (n m : Tally)
    → Mirrors engines setting w held ends → Becomes w v pid p n → n ≡ m → GoesOn w v pid p → is_away p.stage ≡ is_away (w.process pid).stage
    → OneFits engines setting.programs p slot mail deadline
    → Mirrors engines setting v (with_counted (with_one held pid slot mail deadline) m held.out) ends
mirrors_one w v held ends pid p slot mail deadline n m mirrors b counted goes away fits =
    let one : OneOther w.process v.process pid = record { others = b.alters.others } in
    mirrors_goes w v held (with_counted (with_one held pid slot mail deadline) m held.out) ends pid p slot mail deadline n mirrors b goes fits
    (record { slots = refl; mails = refl; deadlines = refl }) counted
    (away_same w.process v.process pid w.numbers_drawn one (ap (λ (x : Process). is_away x.stage) b.alters.at ∙ away) ∙ mirrors.out)
    refl refl refl refl refl
