use Rattle.std.proofs.Common.{◌≡◌, ℕ, ◌+◌, ◌||◌, List, [], ◌∷◌, ◌++◌, length, Option, Some, None, Bool, true, false, cond, nat_eq, if◌then◌else◌, append-nil, append_assoc, refl, sym, ◌∙◌, ap, subst}
use Rattle.host_port.specs.declared.request.Request.{Request}
use Rattle.world_rules.specs.declared.entry.Side.{Side}
use Rattle.world_rules.specs.declared.entry.Side.TheVariants as SideIs
use Rattle.world_rules.specs.declared.halt.End.{End}
use Rattle.world_rules.specs.declared.life.Ended.{Ended as EndMemory}
use Rattle.world_rules.specs.Book.{Book}
use Rattle.world_rules.specs.Arrivals as Came
use Rattle.world_rules.specs.Handles.{closings_of}
use Rattle.world_rules.specs.Mail.{mail_handles}
use Rattle.world_rules.specs.Views.{Given, is_starved, is_opened, want_of, wanted_in}
use Rattle.world_rules.specs.World.{World, Process, Exit, Stage, Unborn, Ready, Out, Waiting, Doomed, Ended, is_away}
use Rattle.world_rules.specs.Changes.{reached, with_arrival}
use Rattle.world_rules.specs.Ends.{stripped, ended, ended_from_outside, held_handles, unless_process}
use Rattle.world_rules.specs.Outside.{opened_and_shut}
use Rattle.world_rules.specs.Time.{clocked}
use Rattle.world_rules.specs.Rules.{turned, starved_by, streamed_in, recorded, home, opening_shut, part_after_turn}
use Rattle.world_rules.specs.Sound.{is_born}
use Rattle.world_rules.specs.Told.{told}
use Rattle.world_rules.specs.Lives.{Setting, IsMemoryOf}
use Rattle.node_state.specs.Seats.{Meaning, part_handles}
use Rattle.node_state.specs.Fits.{Brought, ShowMemory, IsLastOf, give_of}
use Rattle.node_state.specs.Posts.{time_beside, drawn_beside, opened_number}
use Rattle.node_laws.proofs.ReadyList.{true_is_not_false}
use Rattle.node_laws.proofs.Tallies.{Tally}
use Rattle.node_laws.proofs.Gives.{away_unended, hands-brought}
use Rattle.node_laws.proofs.Worlds.{Becomes, starved, come_home, recording, becomes-change, becomes-recorded, becomes-home}
use Rattle.node_laws.proofs.Programs.{memory-shown}
use Rattle.node_mirror.specs.Slots.{Slot, Away, Fated, Gone, SlotFits}
use Rattle.node_mirror.specs.Held.{Held, Mirrors, StandsFor, away_count}
use Rattle.node_mirror.specs.Fits.{TurnFits}
use Rattle.node_mirror.specs.Steps.{replaced, back, gone}
use Rattle.node_mirror.proofs.Counts.{away_fewer}
use Rattle.node_mirror.proofs.One.{replaced_here, replaced_other, one_of_put, was_drawn}
use Rattle.node_mirror.proofs.Dying.{Dies, Leaves, one_less, ended_mirrors}

-- A process that comes back from its worker has ended.

-- NAMES AND LINKS

-- names and links are as before
pub record Aside (w v : World) : Type 0 where
  pub names : v.names ≡ w.names
  pub links : v.links ≡ w.links

aside_clocked : (w : World) (side : Side) → Aside w (clocked side w)
aside_clocked w SideIs.Nothing = record { names = refl; links = refl }
aside_clocked w (SideIs.Clock now) = record { names = refl; links = refl }
aside_clocked w SideIs.Pending = record { names = refl; links = refl }
aside_clocked w (SideIs.Answer reply) = record { names = refl; links = refl }
aside_clocked w SideIs.Opened = record { names = refl; links = refl }
aside_clocked w SideIs.NoMemory = record { names = refl; links = refl }

aside_streamed : (w v : World) (wanted : Option Request) (give : Given) → Aside w v → Aside w (streamed_in wanted give v)
aside_streamed w v None give a = a
aside_streamed w v (Some request) give a = record { names = a.names; links = a.links }

aside_either : (w v u : World) (b : Bool) → Aside w v → Aside w u → Aside w (cond b v u)
aside_either w v u true a c = a
aside_either w v u false a c = c

-- what is always recorded changes no name and no link
pub aside_recorded : (w : World) (give : Given) → Aside w (recorded w give)
aside_recorded w give =
    let wanted : Option Request = wanted_in (want_of give.halt) (w.process give.pid).owed in
    let v : World = streamed_in wanted give (clocked give.side w) in
    let a : Aside w v = aside_streamed w (clocked give.side w) wanted give (aside_clocked w give.side) in
    let s : Aside w (starved_by v give) =
    aside_either w (with_arrival v give.pid (Came.Starved (length give.calls))) v (is_starved give.halt) (record { names = a.names; links = a.links }) a in
    record { names = s.names; links = s.links }

-- STAGES

away_born : (stage : Stage) → is_away stage ≡ true → is_born stage ≡ true
away_born Unborn h = true_is_not_false (sym h)
away_born Ready h = true_is_not_false (sym h)
away_born (Out worker) h = refl
away_born (Waiting request) h = true_is_not_false (sym h)
away_born (Doomed worker end) h = refl
away_born (Ended end) h = true_is_not_false (sym h)

-- ITS END

ended_dies : (w r : World) (pid : ℕ) (p : Process) (end : End) (n : Tally) → Becomes w r pid p n → Aside w r → Dies w (ended r pid end) pid (stripped p end)
ended_dies w r pid p end n b a = record {
  there = record {
    at = replaced_here r.process pid (stripped (r.process pid) end) ∙ ap (λ (x : Process). stripped x end) b.alters.at;
    others = λ q other. replaced_other r.process pid (stripped (r.process pid) end) q other ∙ b.alters.others q other;
  };
  drawn = b.alters.drawn;
  spawns = b.alters.spawns;
  names = λ name. ap (λ (names : List ℕ → Option ℕ). unless_process pid (names name)) a.names;
  links = λ x y. ap (λ (links : ℕ → ℕ → Option ℕ). if nat_eq x pid || nat_eq y pid then None else links x y) a.links;
  over = b.over;
}

-- what a node holds that has taken it back, and then seen it end
abbrev pub gone_back : {E : Type 0} → Held E → ℕ → (time streams : ℕ) → (shed hands : List ℕ) → Held E
gone_back was pid time streams shed hands = record (gone (back was pid Gone time shed) pid hands) { streams = streams }

-- one that is replaced twice
replaced_twice : {X : Type 0} (f : ℕ → X) (pid : ℕ) (x y : X) → replaced (replaced f pid x) pid y ≡ replaced f pid y
replaced_twice f pid x y = λ i q. by q (nat_eq q pid) i
  where
    by : (q : ℕ) (b : Bool) → cond b y (cond b x (f q)) ≡ cond b y (f q)
    by q true = refl
    by q false = refl

leaves_back : {E : Type 0} (was : Held E) (pid time streams : ℕ) (shed hands : List ℕ) → Leaves was (gone_back was pid time streams shed hands) pid Gone
leaves_back was pid time streams shed hands = record {
  one = record { slots = replaced_twice was.slots pid Gone Gone; mails = refl; deadlines = refl };
  names = λ name. refl;
  numbers = refl;
  births = refl;
  sends = refl;
  over = refl;
}

back_ended : {E P : Type 0} (engines : Meaning E P) (setting : Setting P) (w r : World) (was : Held E) (ends : List EndMemory) (pid : ℕ) (q : Process) (n : Tally) (end : End) (memory : EndMemory)
    (time streams : ℕ) (shed hands : List ℕ)
    → Mirrors engines setting w was ends → is_away (w.process pid).stage ≡ true → Becomes w r pid q n → Aside w r → q.start ≡ (w.process pid).start
    → memory.pid ≡ pid → IsMemoryOf setting (stripped q end) memory
    → n.sends ≡ was.sends → n.time ≡ time → n.streams ≡ streams → n.closed ≡ was.closed ++ shed → held_handles q ≡ hands ++ mail_handles (was.mail pid)
    → Mirrors engines setting (ended r pid end) (gone_back was pid time streams shed hands) (ends ++ memory ∷ [])
back_ended engines setting w r was ends pid q n end memory time streams shed hands m away b a started numbered shows sends time_is streams_is closed held_is =
    let v : World = ended r pid end in
    let p : Process = stripped q end in
    let stage : Stage = (w.process pid).stage in
    let born : is_born stage ≡ true = away_born stage away in
    let d = ended_dies w r pid q end n b a in
    let drawn = was_drawn w pid m.order born in
    let less : away_count w.process w.numbers_drawn ≡ away_count v.process w.numbers_drawn + 1 =
    away_fewer w.process v.process pid w.numbers_drawn (one_of_put w.process v.process pid p d.there) away (ap (λ (x : Process). is_away x.stage) d.there.at) drawn.low drawn.high in
    ended_mirrors engines setting w v was (gone_back was pid time streams shed hands) ends pid p end memory Gone m d
    (record { was_born = born; start = started; born = refl; dead = refl; empty = refl; untimed = refl; handles = tt })
    (leaves_back was pid time streams shed hands) (record { ended = refl; left = refl })
    (away_unended stage away) refl (ap (λ (xs : List Exit). xs ++ record { pid = pid; end = end } ∷ []) b.exits) numbered shows
    refl
    (ap (λ (k : ℕ). away_count v.process k) d.drawn ∙ one_less (away_count w.process w.numbers_drawn) (away_count v.process w.numbers_drawn) was.out less m.out)
    (ap (λ (t : Tally). t.time) b.counted ∙ time_is) (ap (λ (t : Tally). t.sends) b.counted ∙ sends) (ap (λ (t : Tally). t.streams) b.counted ∙ streams_is)
    ((λ i. (b.counted i).closed ++ held_handles (b.alters.at i)) ∙ (λ i. closed i ++ held_is i))

-- WHAT CAME BACK

-- what holds of a process, and of it with what arrived at it, holds after want of memory may have arrived
each_starved : (p : Process) (give : Given) (P : Process → Type 0) → P p → P (reached p (Came.Starved (length give.calls))) → P (starved p give)
each_starved p give P here there = one (is_starved give.halt)
  where
    one : (b : Bool) → P (cond b (reached p (Came.Starved (length give.calls))) p)
    one true = there
    one false = here

-- the process after its turn is recorded, the one that it was before being so
abbrev after_turn : Given → Process → Process
after_turn give x = record (turned x give) { stage = Ready }

-- beside that of a process that was doomed before
abbrev after_doom : Given → End → Process → Process
after_doom give end x = reached (turned x give) (Came.Doomed end)

module _ {E P : Type 0} (engines : Meaning E P) (setting : Setting P) (old : Book) (was : Held E) (pid worker : ℕ) (brought : Brought E) (end : End) (memory : EndMemory)
    (show : ShowMemory engines setting) (m : Mirrors engines setting (told old) was old.ends)
    (fits : TurnFits engines setting old.births (told old) worker pid brought) (last : IsLastOf engines pid brought.seat.engine memory) where
  shown_back : is_born ((told old).process pid).stage ≡ true → (x : Process) → x.start ≡ ((told old).process pid).start → x.calls ≡ ((told old).process pid).calls ++ brought.calls
      → x.fuel ≡ brought.seat.fuel → IsMemoryOf setting x memory
  shown_back born x start calls fuel =
      let has = m.programs pid born in
      memory-shown engines setting x pid brought.seat.engine memory has.0 (rw start has.1) show
      (λ program found. rw (start, calls, fuel) (fits.seated.stands program (rw start at found))) last

  hands_back : part_handles (part_after_turn ((told old).process pid) (give_of worker pid brought)) ++ mail_handles ((told old).process pid).mail
      ≡ part_handles brought.seat.part ++ mail_handles (was.mail pid)
  hands_back = λ i. sym (hands-brought ((told old).process pid) (give_of worker pid brought) brought.seat.part fits.seated.part) i ++ mail_handles (m.mail pid i)

  closed_back : (told old).closed ++ closings_of ((told old).process pid).start ((told old).process pid).part brought.calls ≡ was.closed ++ brought.shed
  closed_back = λ i. m.closed i ++ sym fits.seated.closed i

  -- BY ITS OWN HALT
  own_end : ((told old).process pid).stage ≡ Out worker → brought.side ≡ SideIs.Nothing
      → Mirrors engines setting (ended (home (recorded (told old) (give_of worker pid brought)) pid) pid end)
      (gone_back was pid was.time was.streams brought.shed (part_handles brought.seat.part)) (old.ends ++ memory ∷ [])
  own_end out side =
      let w : World = told old in
      let give : Given = give_of worker pid brought in
      let q : Process = come_home (w.process pid) give in
      let r : World = home (recorded w give) pid in
      let n : Tally = recording w give in
      let away : is_away (w.process pid).stage ≡ true = ap is_away out in
      let born : is_born (w.process pid).stage ≡ true = ap is_born out in
      let aside : Aside w (recorded w give) = aside_recorded w give in
      let starving : Process = reached (w.process pid) (Came.Starved (length brought.calls)) in
      let shown : Process → Type 0 = λ x. IsMemoryOf setting (stripped (after_turn give x) end) memory in
      let holds : Process → Type 0 = λ x. held_handles (after_turn give x) ≡ part_handles brought.seat.part ++ mail_handles (was.mail pid) in
      back_ended engines setting w r was old.ends pid q n end memory was.time was.streams brought.shed (part_handles brought.seat.part) m away (becomes-home w give)
      (record { names = aside.names; links = aside.links }) (each_starved (w.process pid) give (λ x. x.start ≡ (w.process pid).start) refl refl)
      last.numbered
      (each_starved (w.process pid) give shown (shown_back born (stripped (after_turn give (w.process pid)) end) refl refl refl)
      (shown_back born (stripped (after_turn give starving) end) refl refl refl))
      m.sends (ap (λ (s : Side). time_beside s w.time) side ∙ m.time) m.streams closed_back
      (each_starved (w.process pid) give holds hands_back hands_back)

-- A STREAM THAT WAS OPENED FOR A DOOMED PROCESS is closed

-- so much is counted then
abbrev shutting : Bool → Tally → Tally
shutting true n = record n { streams = n.streams + 1; closed = n.closed ++ n.streams ∷ [] }
shutting false n = n

becomes_shut : (b : Bool) (w v : World) (pid : ℕ) (p : Process) (n : Tally) → Becomes w v pid p n → Becomes w (if b then opened_and_shut v pid else v) pid p (shutting b n)
becomes_shut true w v pid p n b = record {
  alters = record { at = b.alters.at; others = b.alters.others; drawn = b.alters.drawn; spawns = b.alters.spawns; unlinked = b.alters.unlinked };
  counted = ap (shutting true) b.counted;
  over = b.over;
  exits = b.exits;
}
becomes_shut false w v pid p n b = b

shut_sends : (b : Bool) (n : Tally) → (shutting b n).sends ≡ n.sends
shut_sends true n = refl
shut_sends false n = refl

shut_time : (b : Bool) (n : Tally) → (shutting b n).time ≡ n.time
shut_time true n = refl
shut_time false n = refl

shut_streams : (b : Bool) (n : Tally) (streams : ℕ) → n.streams ≡ streams → (shutting b n).streams ≡ (if b then streams + 1 else streams)
shut_streams true n streams same = ap (λ (k : ℕ). k + 1) same
shut_streams false n streams same = same

shut_closed : (b : Bool) (n : Tally) (streams : ℕ) (closed shed : List ℕ) → n.streams ≡ streams → n.closed ≡ closed ++ shed
    → (shutting b n).closed ≡ closed ++ (shed ++ (if b then streams ∷ [] else []))
shut_closed true n streams closed shed same is = (λ i. is i ++ same i ∷ []) ∙ append_assoc closed shed (streams ∷ [])
shut_closed false n streams closed shed same is = is ∙ ap (λ (xs : List ℕ). closed ++ xs) (sym (append-nil shed))

module _ {E P : Type 0} (engines : Meaning E P) (setting : Setting P) (old : Book) (was : Held E) (pid worker : ℕ) (brought : Brought E) (end : End) (memory : EndMemory)
    (show : ShowMemory engines setting) (m : Mirrors engines setting (told old) was old.ends)
    (fits : TurnFits engines setting old.births (told old) worker pid brought) (last : IsLastOf engines pid brought.seat.engine memory) where
  -- AS IT WAS DOOMED
  doomed_end : ((told old).process pid).stage ≡ Doomed worker end
      → Mirrors engines setting (ended_from_outside (opening_shut (recorded (told old) (give_of worker pid brought)) (give_of worker pid brought)) pid end)
      (gone_back was pid (time_beside brought.side was.time) (drawn_beside brought.side was.streams) (brought.shed ++ opened_number brought.side was.streams) (part_handles brought.seat.part))
      (old.ends ++ memory ∷ [])
  doomed_end doomed =
      let w : World = told old in
      let give : Given = give_of worker pid brought in
      let opened : Bool = is_opened brought.side in
      let p : Process = turned (starved (w.process pid) give) give in
      let q : Process = reached p (Came.Doomed end) in
      let s : World = opening_shut (recorded w give) give in
      let r : World = with_arrival s pid (Came.Doomed end) in
      let n : Tally = recording w give in
      let b = becomes-change w s pid p (shutting opened n) (λ x. reached x (Came.Doomed end)) (becomes_shut opened w (recorded w give) pid p n (becomes-recorded w give)) in
      let away : is_away (w.process pid).stage ≡ true = ap is_away doomed in
      let born : is_born (w.process pid).stage ≡ true = ap is_born doomed in
      let recording_aside : Aside w (recorded w give) = aside_recorded w give in
      let aside : Aside w s =
      aside_either w (opened_and_shut (recorded w give) pid) (recorded w give) opened (record { names = recording_aside.names; links = recording_aside.links }) recording_aside in
      let starving : Process = reached (w.process pid) (Came.Starved (length brought.calls)) in
      let shown : Process → Type 0 = λ x. IsMemoryOf setting (stripped (after_doom give end x) end) memory in
      let holds : Process → Type 0 = λ x. held_handles (after_doom give end x) ≡ part_handles brought.seat.part ++ mail_handles (was.mail pid) in
      let show_all = shown_back engines setting old was pid worker brought end memory show m fits last born in
      let hands = hands_back engines setting old was pid worker brought end memory show m fits last in
      back_ended engines setting w r was old.ends pid q (shutting opened n) end memory (time_beside brought.side was.time) (drawn_beside brought.side was.streams)
      (brought.shed ++ opened_number brought.side was.streams) (part_handles brought.seat.part) m away b
      (record { names = aside.names; links = aside.links }) (each_starved (w.process pid) give (λ x. x.start ≡ (w.process pid).start) refl refl)
      last.numbered
      (each_starved (w.process pid) give shown (show_all (stripped (after_doom give end (w.process pid)) end) refl refl refl) (show_all (stripped (after_doom give end starving) end) refl refl refl))
      (shut_sends opened n ∙ m.sends) (shut_time opened n ∙ ap (λ (t : ℕ). time_beside brought.side t) m.time) (shut_streams opened n was.streams m.streams)
      (shut_closed opened n was.streams was.closed brought.shed m.streams (closed_back engines setting old was pid worker brought end memory show m fits last))
      (each_starved (w.process pid) give holds hands hands)

-- THE LAWS

pub own_end_mirrors : {E P : Type 0} (engines : Meaning E P) (setting : Setting P) (old : Book) (was : Held E) (pid worker : ℕ) (brought : Brought E) (end : End) (memory : EndMemory)
    → ShowMemory engines setting → StandsFor engines setting old (told old) was → was.slots pid ≡ Away worker → brought.side ≡ SideIs.Nothing
    → TurnFits engines setting old.births (told old) worker pid brought → IsLastOf engines pid brought.seat.engine memory
    → Mirrors engines setting (ended (home (recorded (told old) (give_of worker pid brought)) pid) pid end)
    (gone (back was pid Gone was.time brought.shed) pid (part_handles brought.seat.part)) (old.ends ++ memory ∷ [])
own_end_mirrors {E = E} engines setting old was pid worker brought end memory show stands slot side fits last =
    own_end engines setting old was pid worker brought end memory show stands.mirrors fits last
    (subst (λ (s : Slot E). SlotFits engines setting.programs ((told old).process pid) s) slot (stands.mirrors.slots pid)) side

pub doomed_end_mirrors : {E P : Type 0} (engines : Meaning E P) (setting : Setting P) (old : Book) (was : Held E) (pid worker : ℕ) (brought : Brought E) (end : End) (memory : EndMemory)
    → ShowMemory engines setting → StandsFor engines setting old (told old) was → was.slots pid ≡ Fated worker end
    → TurnFits engines setting old.births (told old) worker pid brought → IsLastOf engines pid brought.seat.engine memory
    → Mirrors engines setting (ended_from_outside (opening_shut (recorded (told old) (give_of worker pid brought)) (give_of worker pid brought)) pid end)
    (record (gone (back was pid Gone (time_beside brought.side was.time) (brought.shed ++ opened_number brought.side was.streams)) pid (part_handles brought.seat.part)) {
      streams = drawn_beside brought.side was.streams;
    }) (old.ends ++ memory ∷ [])
doomed_end_mirrors {E = E} engines setting old was pid worker brought end memory show stands slot fits last =
    doomed_end engines setting old was pid worker brought end memory show stands.mirrors fits last
    (subst (λ (s : Slot E). SlotFits engines setting.programs ((told old).process pid) s) slot (stands.mirrors.slots pid))
