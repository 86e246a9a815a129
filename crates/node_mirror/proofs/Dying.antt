use Rattle.std.proofs.Common.{◌≡◌, ◌≢◌, ◌⊎◌, ℕ, ◌+◌, ◌-◌, ◌≤◌, ◌||◌, ◌&&◌, List, [], ◌∷◌, ◌++◌, length, Option, Some, None, Bool, true, false, nat_eq, nat_lt, nat_le, if◌then◌else◌, length-append, sym, ◌∙◌, ap, subst, inl, inr, arith}
use Rattle.std.proofs.lemmas.Bool.Decides.{eqb_tells}
use Rattle.host_port.specs.declared.start.Start.{Start}
use Rattle.world_rules.specs.declared.halt.End.{End}
use Rattle.world_rules.specs.declared.life.Ended.{Ended as EndMemory}
use Rattle.world_rules.specs.Mail.{MailItem, message_count, most_messages}
use Rattle.world_rules.specs.World.{World, Process, Stage, Unborn, Ready, Out, Waiting, Doomed, Ended, Exit, is_live, is_ended, unended_count}
use Rattle.world_rules.specs.Ends.{unless_process}
use Rattle.world_rules.specs.Sound.{AreInOrder, IsInOrder, Rise, is_born, is_drawn}
use Rattle.world_rules.specs.Unmet.{NothingWanted}
use Rattle.world_rules.specs.Lives.{Setting, IsMemoryOf, EndsAreMemories}
use Rattle.world_rules.specs.laws.BirthLaws.{none_is_some, same_some}
use Rattle.node_state.specs.Seats.{Meaning}
use Rattle.node_laws.proofs.ReadyList.{true_is_not_false}
use Rattle.node_mirror.specs.Slots.{Slot, SlotFits}
use Rattle.node_mirror.specs.Held.{Held, HaveEnded, Mirrors, away_count}
use Rattle.node_mirror.proofs.Counts.{unended_fewer, unended_same}
use Rattle.node_mirror.proofs.One.{IsPut, HoldsOne, one_of_put, all_put, was_drawn, ended_others, ended_stay, memories_stay, program_stays, mirrors_put}
use Rattle.node_mirror.proofs.Endings.{ended_last, ends_last}

-- One process leaves the live ones: it ends, or it is doomed.

-- the process of this number is this one, which no name names and to which no link leads; all else that is asked of the
-- processes is as before
pub record Dies (w v : World) (pid : ℕ) (p : Process) : Type 0 where
  pub there : IsPut w.process v.process pid p
  pub drawn : v.numbers_drawn ≡ w.numbers_drawn
  pub spawns : v.spawns ≡ w.spawns
  pub names : (name : List ℕ) → v.names name ≡ unless_process pid (w.names name)
  pub links : (a b : ℕ) → v.links a b ≡ (if nat_eq a pid || nat_eq b pid then None else w.links a b)
  pub over : v.over ≡ w.over

-- it was born, and isn't live any more; nothing is in its mailbox, and it waits for nothing
pub record IsDead (old p : Process) : Type 0 where
  pub was_born : is_born old.stage ≡ true
  pub start : p.start ≡ old.start
  pub born : is_born p.stage ≡ true
  pub dead : is_live p.stage ≡ false
  pub empty : p.mail ≡ []
  pub untimed : p.deadline ≡ None
  pub handles : Rise p.part.handles

-- the node has this slot at its number, and nothing in its mailbox; no name names it; what it counts of births and of
-- sends stays, and whether the run is over
pub record Leaves {E : Type 0} (was is : Held E) (pid : ℕ) (slot : Slot E) : Type 0 where
  pub one : HoldsOne was is pid slot [] None
  pub names : (name : List ℕ) → is.names name ≡ unless_process pid (was.names name)
  pub numbers : is.numbers ≡ was.numbers
  pub births : is.births ≡ was.births
  pub sends : is.sends ≡ was.sends
  pub over : is.over ≡ was.over

-- IN ORDER

-- a number that names keep when a process is taken out of them isn't its number
named_other : (pid : ℕ) (named : Option ℕ) (q : ℕ) → unless_process pid named ≡ Some q → (named ≡ Some q) × (q ≢ pid)
named_other pid None q is = absurd (none_is_some is)
named_other pid (Some other) q is = by (eqb_tells other pid) is
  where
    by : ((nat_eq other pid ≡ true) × (other ≡ pid)) ⊎ ((nat_eq other pid ≡ false) × (other ≢ pid)) → unless_process pid (Some other) ≡ Some q → (Some other ≡ Some q) × (q ≢ pid)
    by (inl same) is = absurd (none_is_some (sym (ap (λ (b : Bool). if b then None else Some other) same.0) ∙ is))
    by (inr differs) is =
        let is' : Some other ≡ Some q = sym (ap (λ (b : Bool). if b then None else Some other) differs.0) ∙ is in
        (is', λ same. differs.1 (same_some other q is' ∙ same))

linked_other : (a b pid : ℕ) (links : Option ℕ) (tag : ℕ) → (if nat_eq a pid || nat_eq b pid then None else links) ≡ Some tag → (links ≡ Some tag) × ((a ≢ pid) × (b ≢ pid))
linked_other a b pid links tag is = by (eqb_tells a pid) (eqb_tells b pid)
  where
    by : ((nat_eq a pid ≡ true) × (a ≡ pid)) ⊎ ((nat_eq a pid ≡ false) × (a ≢ pid)) → ((nat_eq b pid ≡ true) × (b ≡ pid)) ⊎ ((nat_eq b pid ≡ false) × (b ≢ pid))
        → (links ≡ Some tag) × ((a ≢ pid) × (b ≢ pid))
    by (inl x) y = absurd (none_is_some (sym (ap (λ (t : Bool). if t || nat_eq b pid then None else links) x.0) ∙ is))
    by (inr x) (inl y) = absurd (none_is_some (sym (ap (λ (t : Bool). if t then None else links) (ap (λ (s : Bool). s || nat_eq b pid) x.0 ∙ y.0)) ∙ is))
    by (inr x) (inr y) = (sym (ap (λ (t : Bool). if t then None else links) (ap (λ (s : Bool). s || nat_eq b pid) x.0 ∙ y.0)) ∙ is, (x.1, y.1))

-- who was born has a number that was drawn
undrawn_other : (w : World) (pid q : ℕ) → AreInOrder w → is_born (w.process pid).stage ≡ true → is_drawn w q ≡ false → q ≢ pid
undrawn_other w pid q order there none = λ same.
    true_is_not_false (sym there ∙ ap (λ (k : ℕ). is_born (w.process k).stage) (sym same) ∙ ap (λ (p : Process). is_born p.stage) (order.undrawn q none))

drawn_is : (w v : World) (q : ℕ) → v.numbers_drawn ≡ w.numbers_drawn → is_drawn v q ≡ is_drawn w q
drawn_is w v q drawn = ap (λ (n : ℕ). nat_lt 0 q && nat_le q n) drawn

no_message : message_count [] ≤ most_messages
no_message = omega arith

dead_order : (pid : ℕ) (old p : Process) → IsInOrder pid old → IsDead old p → IsInOrder pid p
dead_order pid old p order d = record {
  own = λ _. ap (λ (s : Start). s.pid) d.start ∙ order.own d.was_born;
  deadline = λ _. d.untimed;
  mail = subst (λ (mail : List MailItem). message_count mail ≤ most_messages) (sym d.empty) no_message;
  handles = d.handles;
}

order_dies : (w v : World) (pid : ℕ) (p : Process) → AreInOrder w → Dies w v pid p → IsDead (w.process pid) p → AreInOrder v
order_dies w v pid p order d dead = record {
  undrawn = λ q none.
      let before : is_drawn w q ≡ false = sym (drawn_is w v q d.drawn) ∙ none in
      d.there.others q (undrawn_other w pid q order dead.was_born before) ∙ order.undrawn q before;
  drawn = λ q is.
      all_put w.process v.process pid p (λ k x. is_drawn w k ≡ true → is_born x.stage ≡ true) d.there (λ _. dead.born) (λ k other. order.drawn k) q (sym (drawn_is w v q d.drawn) ∙ is);
  each = all_put w.process v.process pid p (λ k x. IsInOrder k x) d.there (dead_order pid (w.process pid) p (order.each pid) dead) (λ k other. order.each k);
  over = λ o. all_put w.process v.process pid p (λ k x. is_live x.stage ≡ false) d.there dead.dead (λ k other. order.over (sym d.over ∙ o) k);
  names = λ name q is.
      let named = named_other pid (w.names name) q (sym (d.names name) ∙ is) in
      ap (λ (x : Process). is_live x.stage) (d.there.others q named.1) ∙ order.names name q named.0;
  links = λ a b tag is.
      let linked = linked_other a b pid (w.links a b) tag (sym (d.links a b) ∙ is) in
      let both = order.links a b tag linked.0 in
      (ap (λ (x : Process). is_live x.stage) (d.there.others a linked.1.0) ∙ both.0, ap (λ (x : Process). is_live x.stage) (d.there.others b linked.1.1) ∙ both.1);
}

-- who isn't live wants nothing
dead_wants : (stage : Stage) (mail : List MailItem) → is_live stage ≡ false → NothingWanted stage mail
dead_wants Unborn mail dead = tt
dead_wants Ready mail dead = tt
dead_wants (Out worker) mail dead = tt
dead_wants (Waiting request) mail dead = true_is_not_false dead
dead_wants (Doomed worker end) mail dead = tt
dead_wants (Ended end) mail dead = tt

-- THE MIRROR

-- what a node counts, after it
pub record Counted {P E : Type 0} (setting : Setting P) (v : World) (is : Held E) (ends : List EndMemory) : Type 0 where
  pub unended : unended_count v ≡ is.unended
  pub out : away_count v.process v.numbers_drawn ≡ is.out
  pub time : v.time ≡ is.time
  pub sends : v.sends ≡ is.sends
  pub streams : v.streams ≡ is.streams
  pub closed : v.closed ≡ is.closed
  pub ended : HaveEnded v.process v.exits
  pub memories : EndsAreMemories setting v.process v.exits ends
  pub room : length ends + is.unended ≡ is.numbers

dies_mirrors : {E P : Type 0} (engines : Meaning E P) (setting : Setting P) (w v : World) (was is : Held E) (ends after : List EndMemory) (pid : ℕ) (p : Process) (slot : Slot E)
    → Mirrors engines setting w was ends → Dies w v pid p → IsDead (w.process pid) p → Leaves was is pid slot → SlotFits engines setting.programs p slot → Counted setting v is after
    → Mirrors engines setting v is after
dies_mirrors engines setting w v was is ends after pid p slot m d dead leaves fits counted =
    mirrors_put w v was is ends after pid p slot [] None m (order_dies w v pid p m.order d dead) d.there
    (record {
      program = program_stays pid p m dead.was_born dead.start;
      unmet = dead_wants p.stage p.mail dead.dead;
      slot_fits = fits;
      mail_is = dead.empty;
      deadline_is = dead.untimed;
    })
    leaves.one
    (record {
      names = λ name. d.names name ∙ ap (λ (n : Option ℕ). unless_process pid n) (m.names name) ∙ sym (leaves.names name);
      numbers = d.drawn ∙ m.numbers ∙ sym leaves.numbers;
      births = ap (λ (n : ℕ). n + 1) d.spawns ∙ m.births ∙ sym leaves.births;
      drawn = subst (λ (n : ℕ). n ≤ v.spawns + 1) (sym d.drawn) (subst (λ (n : ℕ). w.numbers_drawn ≤ n + 1) (sym d.spawns) m.drawn);
      unended = counted.unended;
      out = counted.out;
      sends = counted.sends;
      time = counted.time;
      over = d.over ∙ m.over ∙ sym leaves.over;
      streams = counted.streams;
      closed = counted.closed;
      ended = counted.ended;
      memories = counted.memories;
      room = counted.room;
    })

pub one_less : (a b c : ℕ) → a ≡ b + 1 → a ≡ c → b ≡ c - 1
one_less a b c e f = omega arith

one_room : (l a b n : ℕ) → l + a ≡ n → b + 1 ≡ a → (l + 1) + (a - 1) ≡ n
one_room l a b n e f = omega arith

more_length : (ends : List EndMemory) (memory : EndMemory) → length (ends ++ memory ∷ []) ≡ length ends + 1
more_length ends memory = length-append ends (memory ∷ [])

-- IT HAS ENDED, with the memory of its end
pub ended_mirrors : {E P : Type 0} (engines : Meaning E P) (setting : Setting P) (w v : World) (was is : Held E) (ends : List EndMemory) (pid : ℕ) (p : Process) (end : End) (memory : EndMemory)
    (slot : Slot E)
    → Mirrors engines setting w was ends → Dies w v pid p → IsDead (w.process pid) p → Leaves was is pid slot → SlotFits engines setting.programs p slot
    → is_ended (w.process pid).stage ≡ false → is_ended p.stage ≡ true → v.exits ≡ w.exits ++ record { pid = pid; end = end } ∷ [] → memory.pid ≡ pid → IsMemoryOf setting p memory
    → is.unended ≡ was.unended - 1 → away_count v.process v.numbers_drawn ≡ is.out → v.time ≡ is.time → v.sends ≡ is.sends → v.streams ≡ is.streams → v.closed ≡ is.closed
    → Mirrors engines setting v is (ends ++ memory ∷ [])
ended_mirrors engines setting w v was is ends pid p end memory slot m d dead leaves fits unended ended exits numbered shows fewer out time sends streams closed =
    let exit : Exit = record { pid = pid; end = end } in
    let stay = ended_others w.process v.process pid p d.there unended in
    let drawn = was_drawn w pid m.order dead.was_born in
    let here : is_ended (v.process pid).stage ≡ true = ap (λ (x : Process). is_ended x.stage) d.there.at ∙ ended in
    let less : unended_count w ≡ unended_count v + 1 = unended_fewer w v pid (one_of_put w.process v.process pid p d.there) d.drawn unended here drawn.low drawn.high in
    dies_mirrors engines setting w v was is ends (ends ++ memory ∷ []) pid p slot m d dead leaves fits (record {
      unended = one_less (unended_count w) (unended_count v) was.unended less m.unended ∙ sym fewer;
      out = out;
      time = time;
      sends = sends;
      streams = streams;
      closed = closed;
      ended = subst (λ (xs : List Exit). HaveEnded v.process xs) (sym exits) (ended_last v.process w.exits exit (ended_stay w.process v.process w.exits m.ended stay) here);
      memories = subst (λ (xs : List Exit). EndsAreMemories setting v.process xs (ends ++ memory ∷ [])) (sym exits)
          (ends_last setting v.process w.exits exit ends memory (memories_stay setting w.process v.process w.exits ends m.ended stay m.memories) numbered
          (subst (λ (x : Process). IsMemoryOf setting x memory) (sym d.there.at) shows));
      room = (λ i. more_length ends memory i + fewer i)
          ∙ one_room (length ends) was.unended (unended_count v) was.numbers m.room (sym less ∙ m.unended) ∙ sym leaves.numbers;
    })

-- IT IS DOOMED, and hasn't ended yet
pub doomed_mirrors : {E P : Type 0} (engines : Meaning E P) (setting : Setting P) (w v : World) (was is : Held E) (ends : List EndMemory) (pid : ℕ) (p : Process) (slot : Slot E)
    → Mirrors engines setting w was ends → Dies w v pid p → IsDead (w.process pid) p → Leaves was is pid slot → SlotFits engines setting.programs p slot
    → is_ended (w.process pid).stage ≡ false → is_ended p.stage ≡ false → v.exits ≡ w.exits → is.unended ≡ was.unended
    → away_count v.process v.numbers_drawn ≡ is.out → v.time ≡ is.time → v.sends ≡ is.sends → v.streams ≡ is.streams → v.closed ≡ is.closed
    → Mirrors engines setting v is ends
doomed_mirrors engines setting w v was is ends pid p slot m d dead leaves fits before after exits same out time sends streams closed =
    let stay = ended_others w.process v.process pid p d.there before in
    dies_mirrors engines setting w v was is ends ends pid p slot m d dead leaves fits (record {
      unended = unended_same w v pid (one_of_put w.process v.process pid p d.there) d.drawn (ap (λ (x : Process). is_ended x.stage) d.there.at ∙ after ∙ sym before) ∙ m.unended ∙ sym same;
      out = out;
      time = time;
      sends = sends;
      streams = streams;
      closed = closed;
      ended = subst (λ (xs : List Exit). HaveEnded v.process xs) (sym exits) (ended_stay w.process v.process w.exits m.ended stay);
      memories = subst (λ (xs : List Exit). EndsAreMemories setting v.process xs ends) (sym exits) (memories_stay setting w.process v.process w.exits ends m.ended stay m.memories);
      room = (λ i. length ends + same i) ∙ m.room ∙ sym leaves.numbers;
    })
