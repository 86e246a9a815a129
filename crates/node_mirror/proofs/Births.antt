use Rattle.std.proofs.Common.{◌≡◌, ◌≢◌, ℕ, ◌+◌, ◌<◌, ◌≤◌, ◌&&◌, List, [], length, slice_get, Some, None, true, false, nat_lt, nat_le, refl, sym, ◌∙◌, ap, arith}
use Rattle.std.proofs.lemmas.Bool.Decides.{nat_tests}
use Rattle.host_port.specs.declared.start.Start.{Start}
use Rattle.host_port.specs.Standing.{Running}
use Rattle.world_rules.specs.declared.life.Ended.{Ended as EndMemory}
use Rattle.world_rules.specs.Mail.{message_count, most_messages}
use Rattle.world_rules.specs.Part.{no_part}
use Rattle.world_rules.specs.World.{World, Process, Ready, is_live, is_ended, is_away, fresh_process, with_process}
use Rattle.world_rules.specs.Sound.{AreInOrder, IsInOrder, is_born}
use Rattle.world_rules.specs.Spawn.{next_number, spawn_counted}
use Rattle.world_rules.specs.Touches.{nobody}
use Rattle.world_rules.specs.Lives.{Setting}
use Rattle.node_state.specs.Seats.{Meaning, Seat}
use Rattle.node_laws.proofs.ReadyList.{true_is_not_false}
use Rattle.node_mirror.specs.Slots.{Slot, Home, IsHome}
use Rattle.node_mirror.specs.Held.{Held, Mirrors, HasProgram}
use Rattle.node_mirror.specs.Steps.{born, one_birth_more}
use Rattle.node_mirror.proofs.Counts.{OneOther, unended_born, away_born}
use Rattle.node_mirror.proofs.One.{IsPut, replaced_other, is_put, one_of_put, all_put, ended_others, ended_stay, memories_stay, mirrors_put}

-- A spawn is performed: a birth more is told, and a child is born, or none is.

-- A BIRTH MORE IS TOLD

one_more : (a b : ℕ) → a ≤ b + 1 → a ≤ (b + 1) + 1
one_more a b h = omega arith

pub counted_mirrors : {E P : Type 0} (engines : Meaning E P) (setting : Setting P) (w : World) (held : Held E) (ends : List EndMemory)
    → Mirrors engines setting w held ends → Mirrors engines setting (spawn_counted w) (one_birth_more held) ends
counted_mirrors engines setting w held ends m = record {
  order = record { undrawn = m.order.undrawn; drawn = m.order.drawn; each = m.order.each; over = m.order.over; names = m.order.names; links = m.order.links };
  unmet = m.unmet;
  programs = m.programs;
  slots = m.slots;
  mail = m.mail;
  deadlines = m.deadlines;
  names = m.names;
  numbers = m.numbers;
  births = ap (λ (n : ℕ). n + 1) m.births;
  drawn = one_more w.numbers_drawn w.spawns m.drawn;
  unended = m.unended;
  out = m.out;
  sends = m.sends;
  time = m.time;
  over = m.over;
  streams = m.streams;
  closed = m.closed;
  ended = m.ended;
  memories = m.memories;
  room = m.room;
}

-- A CHILD

-- the child has the next number, and is ready
abbrev pub with_child : World → Start → World
with_child w start = record (with_process w (next_number w) (fresh_process start Ready)) { numbers_drawn = next_number w }

-- the child as a node has it
abbrev pub child_seat : {E : Type 0} → E → Start → Seat E
child_seat engine start = record { engine = engine; start = start; part = no_part; fuel = 0; owed = None }

pub child_put : (w : World) (start : Start) → IsPut w.process (with_child w start).process (next_number w) (fresh_process start Ready)
child_put w start = is_put w.process (with_child w start).process (next_number w) (fresh_process start Ready) (λ q. refl)

-- what holds of the child and of all others holds of all
all_with_child : (w : World) (start : Start) (P : ℕ → Process → Type 0) → P (next_number w) (fresh_process start Ready) → ((q : ℕ) → q ≢ next_number w → P q (w.process q)) → (q : ℕ)
    → P q ((with_child w start).process q)
all_with_child w start P = all_put w.process (with_child w start).process (next_number w) (fresh_process start Ready) P (child_put w start)

-- NUMBERS

not_drawn : (n : ℕ) → (nat_lt 0 (n + 1) && nat_le (n + 1) n) ≡ false
not_drawn n = grind (arith, nat_tests)

now_drawn : (n : ℕ) → (nat_lt 0 (n + 1) && nat_le (n + 1) (n + 1)) ≡ true
now_drawn n = grind (arith, nat_tests)

less_drawn : (n q : ℕ) → (nat_lt 0 q && nat_le q (n + 1)) ≡ false → (nat_lt 0 q && nat_le q n) ≡ false
less_drawn n q h = grind (arith, nat_tests)

other_drawn : (n q : ℕ) → (nat_lt 0 q && nat_le q (n + 1)) ≡ true → q ≢ n + 1 → (nat_lt 0 q && nat_le q n) ≡ true
other_drawn n q h other = grind (arith, nat_tests)

undrawn_next : (n q : ℕ) → (nat_lt 0 q && nat_le q (n + 1)) ≡ false → q ≢ n + 1
undrawn_next n q h = λ same. true_is_not_false (sym (now_drawn n) ∙ ap (λ (k : ℕ). nat_lt 0 k && nat_le k (n + 1)) (sym same) ∙ h)

no_message : message_count [] ≤ most_messages
no_message = omega arith

-- nobody had its number
nobody_before : (w : World) → AreInOrder w → w.process (next_number w) ≡ nobody
nobody_before w order = order.undrawn (next_number w) (not_drawn w.numbers_drawn)

-- IN ORDER

child_order : (w : World) (start : Start) → AreInOrder w → w.over ≡ false → start.pid ≡ next_number w → AreInOrder (with_child w start)
child_order w start order going number = record {
  undrawn = λ q none.
      replaced_other w.process (next_number w) (fresh_process start Ready) q (undrawn_next w.numbers_drawn q none) ∙ order.undrawn q (less_drawn w.numbers_drawn q none);
  drawn = λ q. all_with_child w start (λ k x. (nat_lt 0 k && nat_le k (w.numbers_drawn + 1)) ≡ true → is_born x.stage ≡ true) (λ _. refl)
      (λ k other is. order.drawn k (other_drawn w.numbers_drawn k is other)) q;
  each = all_with_child w start (λ k x. IsInOrder k x) (record { own = λ _. number; deadline = λ _. refl; mail = no_message; handles = tt }) (λ k other. order.each k);
  over = λ o. true_is_not_false (sym o ∙ going);
  names = λ name q is. still q (order.names name q is);
  links = λ a b tag is. let both = order.links a b tag is in (still a both.0, still b both.1);
}
  where
    still : (q : ℕ) → is_live (w.process q).stage ≡ true → is_live ((with_child w start).process q).stage ≡ true
    still = all_with_child w start (λ k x. is_live (w.process k).stage ≡ true → is_live x.stage ≡ true) (λ _. refl) (λ k other is. is)

-- THE MIRROR

room_for_one : (n s a b : ℕ) → n ≡ a → s + 1 ≡ b → a < b → n + 1 ≤ s + 1
room_for_one n s a b numbers births less = omega arith

one_more_place : (l u a n : ℕ) → l + u ≡ a → n ≡ a → l + (u + 1) ≡ n + 1
one_more_place l u a n room numbers = omega arith

pub child_mirrors : {E P : Type 0} (engines : Meaning E P) (setting : Setting P) (w : World) (held : Held E) (ends : List EndMemory) (start : Start) (engine : E)
    → Mirrors engines setting w held ends → held.numbers < held.births → w.over ≡ false → start.pid ≡ next_number w → HasProgram setting.programs start
    → ((program : P) → slice_get setting.programs start.«module» ≡ Some program → engines.stands engine program start [] 0) → engines.phase engine ≡ Running
    → Mirrors engines setting (with_child w start) (born held (next_number w) (child_seat engine start)) ends
child_mirrors {E = E} {P = P} engines setting w held ends start engine m less going number has stands running =
    let child : ℕ = next_number w in
    let v : World = with_child w start in
    let seat : Seat E = child_seat engine start in
    let is : Held E = born held child seat in
    let slot : Slot E = Home seat in
    let home : IsHome engines setting.programs (fresh_process start Ready) seat =
    record { stage = refl; seated = record { stands = stands; start = refl; part = refl; fuel = refl; owed = refl; phase = running }; tries = tt } in
    let put : IsPut w.process v.process child (fresh_process start Ready) = child_put w start in
    let one : OneOther w.process v.process child = one_of_put w.process v.process child (fresh_process start Ready) put in
    let stay = ended_others w.process v.process child (fresh_process start Ready) put (ap (λ (x : Process). is_ended x.stage) (nobody_before w m.order)) in
    mirrors_put w v held is ends ends child (fresh_process start Ready) slot [] None m (child_order w start m.order going number) put
    (record { program = λ _. has; unmet = tt; slot_fits = home; mail_is = refl; deadline_is = refl })
    (record { slots = refl; mails = refl; deadlines = refl })
    (record {
      names = m.names;
      numbers = refl;
      births = m.births;
      drawn = room_for_one w.numbers_drawn w.spawns held.numbers held.births m.numbers m.births less;
      unended = unended_born w v one refl (ap (λ (x : Process). is_ended x.stage) put.at) ∙ ap (λ (n : ℕ). n + 1) m.unended;
      out = away_born w.process v.process w.numbers_drawn one (ap (λ (x : Process). is_away x.stage) put.at) ∙ m.out;
      sends = m.sends;
      time = m.time;
      over = m.over;
      streams = m.streams;
      closed = m.closed;
      ended = ended_stay w.process v.process w.exits m.ended stay;
      memories = memories_stay setting w.process v.process w.exits ends m.ended stay m.memories;
      room = one_more_place (length ends) held.unended held.numbers w.numbers_drawn m.room m.numbers;
    })
