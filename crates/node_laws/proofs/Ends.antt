use Rattle.std.specs.Prelude.{IfSome}
use Rattle.std.proofs.Common.{◌≡◌, ℕ, ◌+◌, List, [], ◌∷◌, ◌++◌, length, slice_get, Option, Some, None, Bool, true, false, cond, ◌||◌, nat_eq, option_map, if◌then◌else◌, append-nil, append_assoc, refl, sym, ◌∙◌, ap, subst}
use Rattle.host_port.specs.declared.ask.Ask.{Ask}
use Rattle.host_port.specs.declared.call.Call.{Call}
use Rattle.host_port.specs.declared.start.Start.{Start}
use Rattle.host_port.specs.Areas.{request_of}
use Rattle.world_rules.specs.declared.entry.Entry.TheVariants.{Give}
use Rattle.world_rules.specs.declared.entry.Side.{Side}
use Rattle.world_rules.specs.declared.entry.Side.TheVariants.{Nothing}
use Rattle.world_rules.specs.declared.halt.Halt.TheVariants as HaltIs
use Rattle.world_rules.specs.declared.halt.End.{End}
use Rattle.world_rules.specs.declared.life.Birth.{Birth}
use Rattle.world_rules.specs.declared.life.Ended.{Ended as EndMemory}
use Rattle.world_rules.specs.Book.{Book}
use Rattle.world_rules.specs.Arrivals as Came
use Rattle.world_rules.specs.Mail.{mail_handles}
use Rattle.world_rules.specs.Views.{Given, Want, Ends, want_of, is_starved, is_opened}
use Rattle.world_rules.specs.World.{World, Process, Exit, Stage, Ready, Out, Doomed, Ended, is_away}
use Rattle.world_rules.specs.Changes.{reached, with_arrival}
use Rattle.world_rules.specs.Outside.{opened_and_shut}
use Rattle.world_rules.specs.Ends.{stripped, ended, ended_from_outside, closed_with_first, held_handles}
use Rattle.world_rules.specs.Handles.{closings_of}
use Rattle.world_rules.specs.Links.{ended_by_halt}
use Rattle.world_rules.specs.Rules.{turned, recorded, home, halted, given, opening_shut, is_pending_give, part_after_turn}
use Rattle.world_rules.specs.Told.{told}
use Rattle.world_rules.specs.Lives.{Setting, IsMemoryOf, terms_of}
use Rattle.node_state.specs.Seats.{Meaning, Seat, IsSeatOf, IsOwed, part_handles, phase_by}
use Rattle.node_state.specs.Slots.{Home, Away, Fated, Gone, IsHome}
use Rattle.node_state.specs.Held.{Held, StandsFor}
use Rattle.node_state.specs.Fits.{Brought, TurnFits, ShowMemory, IsLastOf, entry_of}
use Rattle.node_state.specs.Posts.{time_beside, drawn_beside, opened_number}
use Rattle.node_state.specs.Changes.{Records, GivesBack, Counts, Closes}
use Rattle.node_laws.proofs.Tallies.{Tally, tally_of, held_tally, tally-is}
use Rattle.node_laws.proofs.Goes.{Alters, first-is}
use Rattle.node_laws.proofs.Gives.{with-away, not_pending, give_as, bring, brings, records-as, slot-out, slot-doomed, own-goes, hands-brought, both-closed, keeps-give, settles-on, settles-end}
use Rattle.node_laws.proofs.Worlds.{Becomes, starved, come_home, closing, recording, becomes-change, becomes-recorded, becomes-home, given-out}
use Rattle.node_laws.proofs.Programs.{KeepsSound, first-program, memory-shown, run-told}
use Rattle.node_laws.proofs.Dooms.{Touching, doomed-emptied}
use Rattle.node_laws.proofs.Falls.{fallen-alone, closed-alone}

-- A process is given back and goes on, or ends.

-- nothing is owed
pub owes_nothing : (P : Ask → Type 0) (owed : Option Ask) → owed ≡ None → IfSome owed P
owes_nothing P owed none = rw none tt

-- a process that a bound of its turn has stopped goes behind the ready list
sliced : {E P : Type 0} {engines : Meaning E P} {setting : Setting P} (old new : Book) (was is : Held E) (pid worker : ℕ) (seat : Seat E) (calls : List Call) (shed : List ℕ)
    → StandsFor engines setting old (told old) was → was.over ≡ false → was.slots pid ≡ Away worker
    → TurnFits engines setting old.births (told old) worker pid (bring seat calls HaltIs.Slice Nothing shed)
    → GivesBack was is pid (Home seat) true (was.mail pid) (was.deadlines pid)
    → Counts was is was.sends was.time 0 → Closes was is was.streams shed
    → Records old new (Give worker pid calls seat.fuel HaltIs.Slice Nothing) []
    → StandsFor engines setting new (told new) is
sliced {engines = engines} {setting = setting} old new was is pid worker seat calls shed keeps going slot fits gives counts closes records =
    let w : World = told old in
    let m = keeps.mirrors in
    let give : Given = give_as worker pid calls seat.fuel HaltIs.Slice Nothing in
    let p : Process = come_home (w.process pid) give in
    let v : World = home (recorded w give) pid in
    let b = becomes-home w give in
    let out : (w.process pid).stage ≡ Out worker = slot-out old was pid worker keeps slot in
    let own : (w.process pid).owed ≡ None = own-goes (Some (terms_of setting)) old.births w (w.process pid) give (w.process pid).owed refl fits.allowed.turn in
    let none : seat.owed ≡ None = fits.phase.1 in
    let seated : IsSeatOf engines setting.programs p (phase_by seat.owed) seat = record {
      stands = fits.seated.stands;
      start = fits.seated.start;
      part = fits.seated.part;
      fuel = refl;
      owed = own ∙ ap (λ (o : Option Ask). option_map (request_of (engines.memory seat.engine)) o) (sym none);
      phase = fits.phase.0 ∙ ap phase_by (sym none);
    } in
    let at_home : IsHome engines setting.programs p seat = record { stage = refl; seated = seated; tries = owes_nothing (IsOwed (engines.memory seat.engine) seat.part) seat.owed none } in
    keeps-give old new was is pid worker calls seat.fuel HaltIs.Slice Nothing [] v p (Home seat) false keeps fits.allowed fits.turn
    (given-out (w.process pid).stage worker old.births w give out) b.alters refl refl
    (rw (← m.mail pid, ← m.deadlines pid) at gives) at_home
    (b.counted ∙ tally-is (recording w give) is (m.sends ∙ sym counts.sends_are) (m.time ∙ sym counts.time_is) (m.streams ∙ sym closes.streams_are)
    (both-closed w.closed was.closed _ shed m.closed (sym fits.seated.closed) ∙ sym closes.closed_are))
    (not_pending (w.process pid).stage Nothing refl) counts.row_is
    (settles-on old was is v pid worker p keeps going fits.allowed.away b.alters refl b.exits b.over counts.over) records

-- SLICE
pub keeps-slice : {E P : Type 0} {engines : Meaning E P} {setting : Setting P} (old new : Book) (was is : Held E) (pid worker : ℕ) (brought : Brought E)
    → StandsFor engines setting old (told old) was → was.over ≡ false → was.slots pid ≡ Away worker → brought.halt ≡ HaltIs.Slice → brought.side ≡ Nothing
    → TurnFits engines setting old.births (told old) worker pid brought
    → GivesBack was is pid (Home brought.seat) true (was.mail pid) (was.deadlines pid)
    → Counts was is was.sends was.time 0 → Closes was is was.streams brought.shed
    → Records old new (entry_of worker pid brought Nothing) []
    → StandsFor engines setting new (told new) is
keeps-slice old new was is pid worker brought keeps going slot halt side fits gives counts closes records =
    sliced old new was is pid worker brought.seat brought.calls brought.shed keeps going slot (brings old.births (told old) worker pid brought HaltIs.Slice Nothing halt side fits) gives counts closes
    (records-as old new worker pid brought HaltIs.Slice Nothing Nothing [] halt refl records)

-- what holds of a process, and of it with what arrived at it, holds after want of memory may have arrived
each_starved : (p : Process) (give : Given) (P : Process → Type 0) → P p → P (reached p (Came.Starved (length give.calls))) → P (starved p give)
each_starved p give P here there =
    one (is_starved give.halt)
  where
    one : (b : Bool) → P (cond b (reached p (Came.Starved (length give.calls))) p)
    one true = there
    one false = here

-- the world after the end of process 1
record EndsOne (w v : World) (pid : ℕ) (p : Process) (end : End) (n : Tally) : Type 0 where
  pub alters : Alters w v pid (stripped p end)
  pub counted : tally_of v ≡ n
  pub over : v.over ≡ true
  pub exits : v.exits ≡ w.exits ++ record { pid = pid; end = end } ∷ []

unlinked : (b : Bool) (tag : Option ℕ) → tag ≡ None → (if b then None else tag) ≡ None
unlinked true tag none = refl
unlinked false tag none = none

ended_one : (w v : World) (pid : ℕ) (p : Process) (end : End) (n : Tally) → Becomes w v pid p n → EndsOne w (record (ended v pid end) { over = true }) pid p end (closing n (held_handles p))
ended_one w v pid p end n b =
    let c = becomes-change w v pid p n (λ x. stripped x end) b in
    record {
      alters = record {
        at = c.alters.at;
        others = c.alters.others;
        drawn = c.alters.drawn;
        spawns = c.alters.spawns;
        unlinked = λ a d none. unlinked (nat_eq a pid || nat_eq d pid) (v.links a d) (b.alters.unlinked a d none);
      };
      counted = λ i. closing (b.counted i) (held_handles (b.alters.at i));
      over = refl;
      exits = ap (λ (xs : List Exit). xs ++ record { pid = pid; end = end } ∷ []) b.exits;
    }

-- where process 1 ends the run is over
over_one : (w v : World) (pid : ℕ) (p : Process) (end : End) (n : Tally) → Becomes w v pid p n → w.numbers_drawn ≡ 1 → pid ≡ 1
    → closed_with_first (ended v pid end) ≡ record (ended v pid end) { over = true }
over_one w v pid p end n b drawn one =
    let c = becomes-change w v pid p n (λ x. stripped x end) b in
    let here : ((ended v pid end).process 1).stage ≡ Ended end = subst (λ (k : ℕ). ((ended v pid end).process k).stage ≡ Ended end) one (ap (λ (x : Process). x.stage) c.alters.at) in
    closed-alone (ended v pid end) end (b.alters.drawn ∙ drawn) here

halted_one : (v : World) (pid : ℕ) (end : End) → v.numbers_drawn ≡ 1 → pid ≡ 1 → ended_by_halt v pid end ≡ closed_with_first (ended v pid end)
halted_one v pid end drawn one =
    subst (λ (k : ℕ). ended_by_halt v k end ≡ closed_with_first (ended v k end)) (sym one) (fallen-alone v (ended v 1 end) end drawn)

-- a process ends with its Give
keeps_ended : {E P : Type 0} {engines : Meaning E P} {setting : Setting P} (old new : Book) (was is : Held E) (pid worker : ℕ) (brought : Brought E)
    (end : End) (v : World) (p : Process) (n : Tally) (memory : EndMemory)
    → StandsFor engines setting old (told old) was
    → TurnFits engines setting old.births (told old) worker pid brought
    → Becomes (told old) v pid p n → p.start ≡ ((told old).process pid).start
    → given ((told old).process pid).stage old.births (told old) (give_as worker pid brought.calls brought.seat.fuel brought.halt brought.side) ≡ record (ended v pid end) { over = true }
    → memory.pid ≡ pid → IsMemoryOf setting (stripped p end) memory
    → GivesBack was is pid Gone false [] None → is.over ≡ true
    → closing n (held_handles p) ≡ held_tally is
    → is_pending_give ((told old).process pid).stage brought.side ≡ false → is.row ≡ 0
    → Records old new (entry_of worker pid brought brought.side) (memory ∷ [])
    → StandsFor engines setting new (told new) is
keeps_ended {engines = engines} {setting = setting} old new was is pid worker brought end v p n memory keeps fits b started becomes numbered shown gives over counted answered row records =
    let w : World = told old in
    let u : World = record (ended v pid end) { over = true } in
    let e = ended_one w v pid p end n b in
    keeps-give old new was is pid worker brought.calls brought.seat.fuel brought.halt brought.side (memory ∷ []) u (stripped p end) Gone false keeps fits.allowed fits.turn
    becomes e.alters started refl gives (record { ended = refl; left = refl })
    (e.counted ∙ counted) answered row
    (settles-end old was is u pid worker (stripped p end) end memory keeps fits.allowed.away e.alters refl e.exits e.over over numbered shown) records

-- the memory at the end of process 1 is its engine's
shown_last : {E P : Type 0} {engines : Meaning E P} {setting : Setting P} (k : KeepsSound) (old : Book) (was : Held E) (pid worker : ℕ) (brought : Brought E) (memory : EndMemory) (x : Process)
    → ShowMemory engines setting → StandsFor engines setting old (told old) was → TurnFits engines setting old.births (told old) worker pid brought → IsLastOf engines pid brought.seat.engine memory
    → x.start ≡ ((told old).process pid).start → x.calls ≡ ((told old).process pid).calls ++ brought.calls → x.fuel ≡ brought.seat.fuel → IsMemoryOf setting x memory
shown_last {engines = engines} {setting = setting} k old was pid worker brought memory x show keeps fits last start calls fuel =
    let w : World = told old in
    let one : pid ≡ 1 = first-is w pid is_away keeps.first refl (with-away (w.process pid).stage worker fits.allowed.away) in
    let has = first-program k setting old keeps.run in
    memory-shown engines setting x pid brought.seat.engine memory has.0
    (ap (λ (s : Start). slice_get setting.programs s.«module») (start ∙ ap (λ (n : ℕ). (w.process n).start) one) ∙ has.1) show
    (λ program found. rw (start, calls, fuel) (fits.seated.stands program (ap (λ (s : Start). slice_get setting.programs s.«module») (sym start) ∙ found))) last

-- END BY ITSELF. A process that ends by its halt leaves its home, with the memory of its end.
pub keeps-end : {E P : Type 0} {engines : Meaning E P} {setting : Setting P} (k : KeepsSound) (old new : Book) (was is : Held E) (pid worker : ℕ) (brought : Brought E) (end : End)
    (memory : EndMemory)
    → ShowMemory engines setting
    → StandsFor engines setting old (told old) was → was.over ≡ false → was.slots pid ≡ Away worker
    → want_of brought.halt ≡ Ends end → brought.side ≡ Nothing
    → TurnFits engines setting old.births (told old) worker pid brought
    → IsLastOf engines pid brought.seat.engine memory
    → GivesBack was is pid Gone false [] None → is.over ≡ true
    → is.sends ≡ was.sends → is.time ≡ was.time → is.row ≡ 0
    → Closes was is was.streams (brought.shed ++ part_handles brought.seat.part ++ mail_handles (was.mail pid))
    → Records old new (entry_of worker pid brought Nothing) (memory ∷ [])
    → StandsFor engines setting new (told new) is
keeps-end {engines = engines} {setting = setting} k old new was is pid worker brought end memory show keeps going slot ends side fits last gives over sends time row closes records =
    let w : World = told old in
    let m = keeps.mirrors in
    let give : Given = give_as worker pid brought.calls brought.seat.fuel brought.halt brought.side in
    let p : Process = come_home (w.process pid) give in
    let r : World = home (recorded w give) pid in
    let b = becomes-home w give in
    let n : Tally = recording w give in
    let one : pid ≡ 1 = first-is w pid is_away keeps.first refl (with-away (w.process pid).stage worker fits.allowed.away) in
    let drawn : r.numbers_drawn ≡ 1 = b.alters.drawn ∙ keeps.first.drawn in
    let out : (w.process pid).stage ≡ Out worker = slot-out old was pid worker keeps slot in
    let after : Process → Process = λ x. record (turned x give) { stage = Ready } in
    let lasts : Process → Type 0 = λ x. IsMemoryOf setting (stripped (after x) end) memory in
    let starving : Process = reached (w.process pid) (Came.Starved (length brought.calls)) in
    let here : lasts (w.process pid) = shown_last k old was pid worker brought memory (stripped (after (w.process pid)) end) show keeps fits last refl refl refl in
    let there : lasts starving = shown_last k old was pid worker brought memory (stripped (after starving) end) show keeps fits last refl refl refl in
    let hands : part_handles brought.seat.part ≡ part_handles (part_after_turn (w.process pid) give) = hands-brought (w.process pid) give brought.seat.part fits.seated.part in
    let left : List ℕ = part_handles brought.seat.part ++ mail_handles (was.mail pid) in
    let has : Process → Type 0 = λ x. held_handles (after x) ≡ left in
    let all : (part_handles (part_after_turn (w.process pid) give) ++ mail_handles (w.process pid).mail) ≡ left =
    λ i. sym hands i ++ mail_handles (m.mail pid i) in
    let has_here : has (w.process pid) = all in
    let held_is : held_handles p ≡ left = each_starved (w.process pid) give has has_here has_here in
    let shed_is : closings_of (w.process pid).start (w.process pid).part brought.calls ≡ brought.shed = sym fits.seated.closed in
    let closed_is : ((w.closed ++ closings_of (w.process pid).start (w.process pid).part brought.calls) ++ held_handles p) ≡ is.closed =
    (λ i. (m.closed i ++ shed_is i) ++ held_is i) ∙ append_assoc was.closed brought.shed left
    ∙ ap (λ (xs : List ℕ). was.closed ++ xs) (sym (append_assoc brought.shed (part_handles brought.seat.part) (mail_handles (was.mail pid)))) ∙ sym closes.closed_are in
    keeps_ended old new was is pid worker brought end r p n memory keeps fits b
    (each_starved (w.process pid) give (λ x. x.start ≡ (w.process pid).start) refl refl)
    (given-out (w.process pid).stage worker old.births w give out
    ∙ ap (λ (want : Want). halted want old.births r pid brought.side) ends
    ∙ halted_one r pid end drawn one ∙ over_one w r pid p end n b keeps.first.drawn one)
    last.numbered (each_starved (w.process pid) give lasts here there)
    gives over
    (tally-is (closing n (held_handles p)) is (m.sends ∙ sym sends) (ap (λ (s : Side). time_beside s w.time) side ∙ m.time ∙ sym time) (m.streams ∙ sym closes.streams_are) closed_is)
    (ap (λ (s : Side). is_pending_give (w.process pid).stage s) side ∙ not_pending (w.process pid).stage Nothing refl) row
    (subst (λ (s : Side). Records old new (entry_of worker pid brought s) (memory ∷ [])) (sym side) records)

-- A STREAM THAT WAS OPENED FOR A DOOMED PROCESS is closed

-- so much is counted then
shutting : Bool → Tally → Tally
shutting true n = record n { streams = n.streams + 1; closed = n.closed ++ n.streams ∷ [] }
shutting false n = n

becomes_shut : (b : Bool) (w v : World) (pid : ℕ) (p : Process) (n : Tally) → Becomes w v pid p n → Becomes w (if b then opened_and_shut v pid else v) pid p (shutting b n)
unfolding shutting
becomes_shut true w v pid p n b = record {
  alters = record { at = b.alters.at; others = b.alters.others; drawn = b.alters.drawn; spawns = b.alters.spawns; unlinked = b.alters.unlinked };
  counted = ap (shutting true) b.counted;
  over = b.over;
  exits = b.exits;
}
becomes_shut false w v pid p n b = b

-- what a node that has done so counts
shut_tally : {E : Type 0} (b : Bool) (n : Tally) (was is : Held E) (shed hands held : List ℕ)
    → n.sends ≡ is.sends → n.time ≡ is.time → n.streams ≡ was.streams → n.closed ≡ was.closed ++ shed → held ≡ hands
    → Closes was is (if b then was.streams + 1 else was.streams) (shed ++ (if b then was.streams ∷ [] else []) ++ hands) → closing (shutting b n) held ≡ held_tally is
unfolding shutting
shut_tally true n was is shed hands held sends time streams closed held_is closes =
    tally-is (closing (shutting true n) held) is sends time (ap (λ (k : ℕ). k + 1) streams ∙ sym closes.streams_are)
    ((λ i. (closed i ++ streams i ∷ []) ++ held_is i) ∙ ap (λ (xs : List ℕ). xs ++ hands) (append_assoc was.closed shed (was.streams ∷ []))
    ∙ append_assoc was.closed (shed ++ was.streams ∷ []) hands ∙ sym closes.closed_are)
shut_tally false n was is shed hands held sends time streams closed held_is closes =
    tally-is (closing (shutting false n) held) is sends time (streams ∙ sym closes.streams_are)
    ((λ i. closed i ++ held_is i) ∙ append_assoc was.closed shed hands ∙ ap (λ (xs : List ℕ). was.closed ++ (xs ++ hands)) (sym (append-nil shed)) ∙ sym closes.closed_are)

given_doomed : (stage : Stage) (worker : ℕ) (end : End) (births : List Birth) (w : World) (give : Given) → stage ≡ Doomed worker end
    → given stage births w give ≡ closed_with_first (ended_from_outside (opening_shut (recorded w give) give) give.pid end)
given_doomed stage worker end births w give is = rw is refl

doomed_answered : (stage : Stage) (worker : ℕ) (end : End) (side : Side) → stage ≡ Doomed worker end → is_pending_give stage side ≡ false
doomed_answered stage worker end side is = rw is refl

-- DOOM. A process that was doomed while it was out leaves its home, with the memory of its end.
pub keeps-doomed : {E P : Type 0} {engines : Meaning E P} {setting : Setting P} (k : KeepsSound) → Touching → (old new : Book) (was is : Held E) (pid worker : ℕ) (brought : Brought E) (end : End)
    (memory : EndMemory)
    → ShowMemory engines setting
    → StandsFor engines setting old (told old) was → was.slots pid ≡ Fated worker end
    → TurnFits engines setting old.births (told old) worker pid brought
    → IsLastOf engines pid brought.seat.engine memory
    → GivesBack was is pid Gone false [] None → is.over ≡ true
    → is.sends ≡ was.sends → is.time ≡ time_beside brought.side was.time → is.row ≡ 0
    → Closes was is (drawn_beside brought.side was.streams) (brought.shed ++ opened_number brought.side was.streams ++ part_handles brought.seat.part)
    → Records old new (entry_of worker pid brought brought.side) (memory ∷ [])
    → StandsFor engines setting new (told new) is
keeps-doomed {engines = engines} {setting = setting} k touching old new was is pid worker brought end memory show keeps slot fits last gives over sends time row closes records =
    let w : World = told old in
    let m = keeps.mirrors in
    let give : Given = give_as worker pid brought.calls brought.seat.fuel brought.halt brought.side in
    let n : Tally = recording w give in
    let doomed : (w.process pid).stage ≡ Doomed worker end = slot-doomed old was pid worker end keeps slot in
    let emptied : (w.process pid).mail ≡ [] = doomed-emptied k touching old (run-told setting old keeps.run) pid worker end doomed in
    let q : Process = turned (starved (w.process pid) give) give in
    let p : Process = reached q (Came.Doomed end) in
    let s : World = opening_shut (recorded w give) give in
    let r : World = with_arrival s pid (Came.Doomed end) in
    let opened : Bool = is_opened brought.side in
    let b = becomes-change w s pid q (shutting opened n) (λ x. reached x (Came.Doomed end)) (becomes_shut opened w (recorded w give) pid q n (becomes-recorded w give)) in
    let one : pid ≡ 1 = first-is w pid is_away keeps.first refl (with-away (w.process pid).stage worker fits.allowed.away) in
    let after : Process → Process = λ x. reached (turned x give) (Came.Doomed end) in
    let lasts : Process → Type 0 = λ x. IsMemoryOf setting (stripped (after x) end) memory in
    let starving : Process = reached (w.process pid) (Came.Starved (length brought.calls)) in
    let here : lasts (w.process pid) = shown_last k old was pid worker brought memory (stripped (after (w.process pid)) end) show keeps fits last refl refl refl in
    let there : lasts starving = shown_last k old was pid worker brought memory (stripped (after starving) end) show keeps fits last refl refl refl in
    let hands : part_handles brought.seat.part ≡ part_handles (part_after_turn (w.process pid) give) = hands-brought (w.process pid) give brought.seat.part fits.seated.part in
    let left : List ℕ = part_handles brought.seat.part in
    let has : Process → Type 0 = λ x. held_handles (after x) ≡ left in
    let all : (part_handles (part_after_turn (w.process pid) give) ++ mail_handles (w.process pid).mail) ≡ left =
    (λ i. sym hands i ++ mail_handles (emptied i)) ∙ append-nil left in
    let has_here : has (w.process pid) = all in
    let held_is : held_handles p ≡ left = each_starved (w.process pid) give has has_here has_here in
    keeps_ended old new was is pid worker brought end r p (shutting opened n) memory keeps fits b
    (each_starved (w.process pid) give (λ x. x.start ≡ (w.process pid).start) refl refl)
    (given_doomed (w.process pid).stage worker end old.births w give doomed ∙ over_one w r pid p end (shutting opened n) b keeps.first.drawn one)
    last.numbered (each_starved (w.process pid) give lasts here there)
    gives over
    (shut_tally opened n was is brought.shed left (held_handles p) (m.sends ∙ sym sends) (ap (λ (t : ℕ). time_beside brought.side t) m.time ∙ sym time) m.streams
    (both-closed w.closed was.closed _ brought.shed m.closed (sym fits.seated.closed)) held_is closes)
    (doomed_answered (w.process pid).stage worker end brought.side doomed) row records
