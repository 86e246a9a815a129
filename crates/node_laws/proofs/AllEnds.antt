use Rattle.std.proofs.Common.{◌≡◌, ◌≢◌, ℕ, ◌+◌, ◌≤◌, List, [], ◌∷◌, ◌++◌, slice_get, Option, Some, None, Bool, true, false, cond, nat_eq, ◌||◌, append-nil, refl, sym, ◌∙◌, ap, subst, arith, ◌⊎◌, inl, inr}
use Rattle.std.proofs.lemmas.Bool.Decides.{eqb_tells}
use Rattle.host_port.specs.declared.start.Start.{Start}
use Rattle.world_rules.specs.declared.entry.Entry.{Entry}
use Rattle.world_rules.specs.declared.entry.Entry.TheVariants.{Stall, Idle, Starve}
use Rattle.world_rules.specs.declared.halt.End.{End}
use Rattle.world_rules.specs.declared.halt.End.TheVariants as EndIs
use Rattle.world_rules.specs.declared.life.Ended.{Ended as EndMemory}
use Rattle.world_rules.specs.Arrivals as Came
use Rattle.world_rules.specs.Book.{Book}
use Rattle.world_rules.specs.Mail.{mail_handles}
use Rattle.world_rules.specs.Part.{Part}
use Rattle.world_rules.specs.Views.{deed_of}
use Rattle.world_rules.specs.World.{World, Process, Stage, Unborn, Ready, Out, Waiting, Doomed, Ended, is_live, is_ready, is_ended, is_away, is_waiting, live_processes}
use Rattle.world_rules.specs.Changes.{reached}
use Rattle.world_rules.specs.Ends.{stripped, fated, ended_from_outside, doomed, struck, all_end}
use Rattle.world_rules.specs.Rules.{next, queued, with_row, ready_among, all_but}
use Rattle.world_rules.specs.Allowed.{Allowed, IsStuck}
use Rattle.world_rules.specs.Told.{told}
use Rattle.world_rules.specs.Sound.{IsSound}
use Rattle.world_rules.specs.Lives.{Setting, TurnIsRun, EndsAreMemories, terms_of}
use Rattle.node_state.specs.Seats.{Meaning, Seat, StandsAt, part_handles}
use Rattle.node_state.specs.Slots.{Slot, Nobody, Home, Asleep, Away, Fated, Gone, SlotFits, closings_at}
use Rattle.node_state.specs.Slots.{struck as struck_slot}
use Rattle.node_state.specs.Held.{Held, StandsFor, ListsReady, IsFirstAlone, HaveEnded, away_count, kept_places}
use Rattle.node_state.specs.Fits.{ShowMemory, IsLastOf, IsLastAt}
use Rattle.node_state.specs.Changes.{Records, EndsAll}
use Rattle.node_laws.proofs.ReadyList.{true_is_not_false, nat_eq_other}
use Rattle.node_laws.proofs.Folds.{told-last, run-next}
use Rattle.node_laws.proofs.Goes.{Alters, all-one, slots-one, ended-stay, ends-stay, ended-last, ends-last, count-alone}
use Rattle.node_laws.proofs.Ticks.{untimed}
use Rattle.node_laws.proofs.Programs.{KeepsSound, first-program, memory-shown}

-- Everybody ends: a stall, an idle run, or want of memory.

none_ready : (v : World) (qs : List ℕ) → ((q : ℕ) → is_ready (v.process q).stage ≡ false) → ready_among v qs ≡ []
none_ready v [] none = refl
none_ready v (q ∷ qs) none = rw (none q) (none_ready v qs none)

lists_none : (w v u : World) → u.ready ≡ (queued w.ready [] v).ready → u.process ≡ v.process → ((q : ℕ) → is_ready (v.process q).stage ≡ false) → ListsReady u []
lists_none w v u ready same none = record {
  same = ready ∙ rw (none_ready v w.ready none, none_ready v (all_but v (w.ready ++ [])) none) refl;
  each = tt;
  all = rw same (λ q r. true_is_not_false (sym r ∙ none q));
}

live_unready : (stage : Stage) → is_live stage ≡ false → is_ready stage ≡ false
live_unready Unborn h = refl
live_unready Ready h = true_is_not_false h
live_unready (Out worker) h = refl
live_unready (Waiting request) h = refl
live_unready (Doomed worker end) h = refl
live_unready (Ended end) h = refl

ended_unlive : (stage : Stage) → is_ended stage ≡ true → is_live stage ≡ false
ended_unlive Unborn h = refl
ended_unlive Ready h = true_is_not_false (sym h)
ended_unlive (Out worker) h = true_is_not_false (sym h)
ended_unlive (Waiting request) h = true_is_not_false (sym h)
ended_unlive (Doomed worker end) h = refl
ended_unlive (Ended end) h = refl

pub live_unended : (stage : Stage) → is_live stage ≡ true → is_ended stage ≡ false
live_unended Unborn h = refl
live_unended Ready h = refl
live_unended (Out worker) h = refl
live_unended (Waiting request) h = refl
live_unended (Doomed worker end) h = refl
live_unended (Ended end) h = true_is_not_false (sym h)

-- what is known of the world before
record Before {E P : Type 0} (engines : Meaning E P) (setting : Setting P) (w : World) (ends : List EndMemory) : Type 0 where
  pub have : HaveEnded w.process w.exits
  pub are : EndsAreMemories setting w.process w.exits ends
  pub none : w.exits ≡ []
  pub untimed : is_waiting (w.process 1).stage ≡ false → (w.process 1).deadline ≡ None
  pub unended : is_ended (w.process 1).stage ≡ false
  pub program : P
  pub found : slice_get setting.programs (w.process 1).start.«module» ≡ Some program
  pub show : ShowMemory engines setting

-- the world in which the end has come to process 1
record Falls {E P : Type 0} (engines : Meaning E P) (setting : Setting P) (w v : World) (slot : Slot E) (ends more : List EndMemory) (p : Process) (more_closed : List ℕ) : Type 0 where
  pub alters : Alters w v 1 p
  pub started : p.start ≡ (w.process 1).start
  pub dead : is_live p.stage ≡ false
  pub empty : p.mail ≡ []
  pub untimed : p.deadline ≡ None
  pub fits : SlotFits engines setting.programs p slot
  pub away : is_away p.stage ≡ is_away (w.process 1).stage
  pub ended : HaveEnded v.process v.exits
  pub memories : EndsAreMemories setting v.process v.exits (ends ++ more)
  pub first_ends : is_ended p.stage ≡ false → v.exits ≡ []
  pub sends : v.sends ≡ w.sends
  pub time : v.time ≡ w.time
  pub streams : v.streams ≡ w.streams
  pub closed : v.closed ≡ w.closed ++ more_closed

none_either : (b : Bool) (x : Option ℕ) → x ≡ None → cond b None x ≡ None
none_either true x h = refl
none_either false x h = h

-- who is not the one whose stage is another
unended_stay : (w v : World) (p : Process) → Alters w v 1 p → is_ended (w.process 1).stage ≡ false → (q : ℕ) → is_ended (w.process q).stage ≡ true → v.process q ≡ w.process q
unended_stay w v p alters unended q e = alters.others q (λ same. true_is_not_false (sym e ∙ ap (λ (k : ℕ). is_ended (w.process k).stage) same ∙ unended))

-- the process as it is when it has ended so from outside its turn
abbrev gone : Process → End → Process
gone p end = stripped (reached p (Came.Doomed end)) end

-- the end has come to a process at home
falls_home : {E P : Type 0} (engines : Meaning E P) (setting : Setting P) (w : World) (end : End) (ends : List EndMemory) (seat : Seat E) (memory : EndMemory)
    → Before engines setting w ends → is_away (w.process 1).stage ≡ false
    → StandsAt engines setting.programs (w.process 1) seat.engine (w.process 1).calls (w.process 1).fuel → seat.part ≡ (w.process 1).part → IsLastOf engines 1 seat.engine memory
    → Falls engines setting w (ended_from_outside w 1 end) Gone ends (memory ∷ []) (gone (w.process 1) end) (part_handles seat.part ++ mail_handles (w.process 1).mail)
falls_home engines setting w end ends seat memory b home stands part last =
    let v : World = ended_from_outside w 1 end in
    let p : Process = gone (w.process 1) end in
    let alters : Alters w v 1 p = record {
      at = refl;
      others = λ q other. rw (nat_eq_other q 1 other) refl;
      drawn = refl;
      spawns = refl;
      unlinked = λ x y h. none_either (nat_eq x 1 || nat_eq y 1)
          (w.links x y) h;
    } in
    let stay = unended_stay w v p alters b.unended in
    record {
      alters = alters;
      started = refl;
      dead = refl;
      empty = refl;
      untimed = refl;
      fits = record { ended = refl; left = refl };
      away = sym home;
      ended = ended-last v.process w.exits (record { pid = 1; end = end }) (ended-stay w.process v.process w.exits b.have stay) refl;
      memories = ends-last setting v.process w.exits (record { pid = 1; end = end }) ends memory (ends-stay setting w.process v.process w.exits ends b.have stay b.are) last.numbered
          (memory-shown engines setting p 1 seat.engine memory b.program b.found b.show stands last);
      first_ends = λ e. true_is_not_false e;
      sends = refl;
      time = refl;
      streams = refl;
      closed = ap (λ (x : Part). w.closed ++ (part_handles x ++ mail_handles (w.process 1).mail)) (sym part);
    }

-- the end has come to a process that is out
falls_out : {E P : Type 0} (engines : Meaning E P) (setting : Setting P) (w : World) (worker : ℕ) (end : End) (ends more : List EndMemory)
    → Before engines setting w ends → (w.process 1).stage ≡ Out worker → more ≡ []
    → Falls engines setting w (doomed w 1 worker end) (Fated worker end) ends more (fated (w.process 1) worker end) (mail_handles (w.process 1).mail)
falls_out engines setting w worker end ends more b out none =
    let v : World = doomed w 1 worker end in
    let p : Process = fated (w.process 1) worker end in
    let alters : Alters w v 1 p = record {
      at = refl;
      others = λ q other. rw (nat_eq_other q 1 other) refl;
      drawn = refl;
      spawns = refl;
      unlinked = λ x y h. none_either (nat_eq x 1 || nat_eq y 1)
          (w.links x y) h;
    } in
    let stay = unended_stay w v p alters b.unended in
    record {
      alters = alters;
      started = refl;
      dead = refl;
      empty = refl;
      untimed = b.untimed (ap is_waiting out);
      fits = refl;
      away = sym (ap is_away out);
      ended = ended-stay w.process v.process w.exits b.have stay;
      memories = rw (none, append-nil ends) (ends-stay setting w.process v.process w.exits ends b.have stay b.are);
      first_ends = λ _. b.none;
      sends = refl;
      time = refl;
      streams = refl;
      closed = refl;
    }

struck_is : (stage to : Stage) (w : World) (end : End) → stage ≡ to → struck stage w 1 end ≡ struck to w 1 end
struck_is stage to w end is = ap (λ (s : Stage). struck s w 1 end) is

dead_slot : {X : Type 0} (stage to : Stage) → is_live stage ≡ true → stage ≡ to → is_live to ≡ false → X
dead_slot stage to live is dead = true_is_not_false (sym live ∙ ap is_live is ∙ dead)

-- the world after the end has come to process 1, whatever it was doing
falls : {E P : Type 0} (engines : Meaning E P) (setting : Setting P) (w : World) (slot : Slot E) (end : End) (ends more : List EndMemory)
    → Before engines setting w ends → is_live (w.process 1).stage ≡ true → SlotFits engines setting.programs (w.process 1) slot → IsLastAt engines 1 slot more
    → (v : World) × (p : Process) × (struck (w.process 1).stage w 1 end ≡ v) × Falls engines setting w v (struck_slot end slot) ends more p (closings_at slot (w.process 1).mail)
falls engines setting w Nobody end ends more b live fits last = dead_slot (w.process 1).stage Unborn live (ap (λ (x : Process). x.stage) fits) refl
falls engines setting w (Home seat) end ends [] b live fits last = absurd last
falls engines setting w (Home seat) end ends (memory ∷ []) b live fits last = (
  ended_from_outside w 1 end,
  gone (w.process 1) end,
  struck_is (w.process 1).stage Ready w end fits.stage,
  falls_home engines setting w end ends seat memory b
      (ap is_away fits.stage) fits.seated.stands fits.seated.part last,
)
falls engines setting w (Home seat) end ends (memory ∷ other ∷ more) b live fits last = absurd last
falls engines setting w (Asleep seat ask) end ends [] b live fits last = absurd last
falls engines setting w (Asleep seat ask) end ends (memory ∷ []) b live fits last = (
  ended_from_outside w 1 end,
  gone (w.process 1) end,
  struck_is (w.process 1).stage _ w end fits.stage,
  falls_home engines setting w end ends seat memory b
      (ap is_away fits.stage) fits.seated.stands fits.seated.part last,
)
falls engines setting w (Asleep seat ask) end ends (memory ∷ other ∷ more) b live fits last = absurd last
falls engines setting w (Away worker) end ends more b live fits last =
    (doomed w 1 worker end, fated (w.process 1) worker end, struck_is (w.process 1).stage (Out worker) w end fits, falls_out engines setting w worker end ends more b fits last)
falls engines setting w (Fated worker earlier) end ends more b live fits last = dead_slot (w.process 1).stage _ live fits refl
falls engines setting w Gone end ends more b live fits last = true_is_not_false (sym live ∙ ended_unlive (w.process 1).stage fits.ended)

-- the one live process is struck
live_is : (w : World) → w.numbers_drawn ≡ 1 → is_live (w.process 1).stage ≡ true → live_processes w ≡ 1 ∷ []
live_is w drawn live = rw (drawn, live) refl

-- the end comes to the one live process
all_end_is : (w : World) (end : End) (v : World) → w.numbers_drawn ≡ 1 → is_live (w.process 1).stage ≡ true → struck (w.process 1).stage w 1 end ≡ v → all_end w end ≡ record v { over = true }
all_end_is w end v drawn live is =
    let one : live_processes w ≡ 1 ∷ [] = live_is w drawn live in
    rw (one, is) refl

room_end : (m n a b : ℕ) (was is : Bool) → was ≡ false → is ≡ true → n ≡ m → b + 1 ≡ a → kept_places m was ≤ a → kept_places n is ≤ b
room_end m n a b true is w i out room most = true_is_not_false w
room_end m n a b false true w i out room most = omega arith
room_end m n a b false false w i out room most = true_is_not_false (sym i)

-- an entry that ends all keeps the node standing
keeps_all_end : {E P : Type 0} {engines : Meaning E P} {setting : Setting P} (old new : Book) (was is : Held E) (entry : Entry) (end : End) (more : List EndMemory)
    → KeepsSound → IsSound (told old) → ShowMemory engines setting
    → StandsFor engines setting old (told old) was → was.over ≡ false
    → Allowed (Some (terms_of setting)) old.births (told old) entry → TurnIsRun setting (told old) (deed_of entry)
    → next old.births (told old) entry ≡ with_row 0 (queued (told old).ready [] (all_end (told old) end))
    → EndsAll was is end → IsLastAt engines 1 (was.slots 1) more
    → Records old new entry more
    → StandsFor engines setting new (told new) is
keeps_all_end {engines = engines} {setting = setting} old new was is entry end more k sound show keeps going allowed turn becomes all last records =
    let w : World = told old in
    let m = keeps.mirrors in
    let live : is_live (w.process 1).stage ≡ true = keeps.first.going (m.over ∙ going) in
    let unended : is_ended (w.process 1).stage ≡ false = live_unended (w.process 1).stage live in
    let has = first-program k setting old keeps.run in
    let before : Before engines setting w old.ends = record {
      have = keeps.ended;
      are = keeps.run.ends;
      none = keeps.first.ends unended;
      untimed = (sound.processes.each 1).deadline;
      unended = unended;
      program = has.0;
      found = has.1;
      show = show;
    } in
    let f = falls engines setting w (was.slots 1) end old.ends more before live (m.slots 1) last in
    let v : World = record f.0 { over = true } in
    let u : World = with_row 0 (queued w.ready [] v) in
    let p : Process = f.1 in
    let b = f.3 in
    let ends_so : all_end w end ≡ v = all_end_is w end f.0 keeps.first.drawn live f.2 in
    let is_so : next old.births w entry ≡ u = becomes ∙ ap (λ (x : World). with_row 0 (queued w.ready [] x)) ends_so in
    let alters : Alters w u 1 p = record { at = b.alters.at; others = b.alters.others; drawn = b.alters.drawn; spawns = b.alters.spawns; unlinked = b.alters.unlinked } in
    let nobody : (q : ℕ) → is_live (u.process q).stage ≡ false = all-one w u 1 p (λ q x. is_live x.stage ≡ false) alters b.dead (λ q other. ap is_live (keeps.first.others q other)) in
    let same_out : away_count u.process u.numbers_drawn ≡ away_count w.process w.numbers_drawn =
    count-alone u (alters.drawn ∙ keeps.first.drawn) ∙ ap (λ (x : Bool). cond x 1 0) (ap (λ (x : Process). is_away x.stage) alters.at ∙ b.away) ∙ sym (count-alone w keeps.first.drawn) in
    rw (told-last old new entry records.births records.entries, is_so) (record {
      run = run-next setting old new entry more records keeps.run allowed turn (ap (λ (x : World). x.spawns) is_so ∙ b.alters.spawns)
          (subst (λ (x : World). EndsAreMemories setting x.process x.exits (old.ends ++ more)) (sym is_so) b.memories);
      mirrors = record {
        ready = rw all.ready (lists_none w v u refl refl (λ q. live_unready (v.process q).stage (nobody q)));
        slots = slots-one engines setting.programs w u 1 p was is (struck_slot end (was.slots 1)) [] None alters all.change b.fits m.slots;
        mail = all-one w u 1 p (λ q x. x.mail ≡ is.mail q) alters (b.empty ∙ sym all.change.mail_is) (λ q other. m.mail q ∙ sym (all.change.other_mail q other));
        deadlines = all-one w u 1 p (λ q x. x.deadline ≡ is.deadlines q) alters (b.untimed ∙ sym all.change.deadline_is) (λ q other. m.deadlines q ∙ sym (all.change.other_deadlines q other));
        sends = b.sends ∙ m.sends ∙ sym all.sends;
        time = b.time ∙ m.time ∙ sym all.time;
        row = sym all.row;
        over = sym all.over;
        out = same_out ∙ m.out ∙ sym all.out;
        streams = b.streams ∙ m.streams ∙ sym all.closes.streams_are;
        closed = b.closed ∙ (λ i. m.closed i ++ closings_at (was.slots 1) (m.mail 1 i)) ∙ sym all.closes.closed_are;
        unlinked = λ x y. b.alters.unlinked x y (m.unlinked x y);
      };
      quiet = λ _. nobody;
      room = room_end was.out is.out old.entry_room new.entry_room was.over is.over going all.over all.out records.entry_room keeps.room;
      row_bound = rw all.row (omega arith);
      ended = b.ended;
      first = record {
        numbered = ap (λ (x : Process). x.start.pid) alters.at ∙ ap (λ (s : Start). s.pid) b.started ∙ keeps.first.numbered;
        drawn = alters.drawn ∙ keeps.first.drawn;
        others = λ q other. ap (λ (x : Process). x.stage) (alters.others q other) ∙ keeps.first.others q other;
        ends = λ e. b.first_ends (ap (λ (x : Process). is_ended x.stage) (sym alters.at) ∙ e);
        going = λ o. true_is_not_false o;
      };
    })

away_none : (b : Bool) → cond {A = ℕ} b 1 0 ≡ 0 → b ≡ false
away_none true e = let h : ⊥ = grind arith in absurd h
away_none false e = refl

nobody_away : (w : World) → IsFirstAlone w → away_count w.process w.numbers_drawn ≡ 0 → (q : ℕ) → is_away (w.process q).stage ≡ false
nobody_away w first none q =
    one (eqb_tells q 1) (away_none (is_away (w.process 1).stage) (sym (count-alone w first.drawn) ∙ none))
  where
    one : ((nat_eq q 1 ≡ true) × (q ≡ 1)) ⊎ ((nat_eq q 1 ≡ false) × (q ≢ 1)) → is_away (w.process 1).stage ≡ false → is_away (w.process q).stage ≡ false
    one (inl same) h = subst (λ (k : ℕ). is_away (w.process k).stage ≡ false) (sym same.1) h
    one (inr other) h = ap is_away (first.others q other.1)

-- STALL. Where nothing is ready, no worker has a process and nobody waits with a deadline, the run is over by a stall.
pub keeps-stall : {E P : Type 0} {engines : Meaning E P} {setting : Setting P} (old new : Book) (was is : Held E) (worker : ℕ) (more : List EndMemory)
    → KeepsSound → IsSound (told old) → ShowMemory engines setting
    → StandsFor engines setting old (told old) was → was.over ≡ false → was.ready ≡ [] → was.out ≡ 0 → was.deadlines 1 ≡ None
    → EndsAll was is EndIs.Stalled → IsLastAt engines 1 (was.slots 1) more
    → Records old new (Stall worker) more
    → StandsFor engines setting new (told new) is
keeps-stall {setting = setting} old new was is worker more k sound show keeps going idle none timeless all last records =
    let w : World = told old in
    let m = keeps.mirrors in
    let stuck : IsStuck w = record { ready = m.ready.same ∙ idle; away = nobody_away w keeps.first (m.out ∙ none); timed = untimed old was keeps timeless } in
    keeps_all_end old new was is (Stall worker) EndIs.Stalled more k sound show keeps going (m.over ∙ going, stuck) tt refl all last records

-- IDLE. Where the row is at least as long as the idle limit, the run may be given up.
pub keeps-idle : {E P : Type 0} {engines : Meaning E P} {setting : Setting P} (old new : Book) (was is : Held E) (worker : ℕ) (more : List EndMemory)
    → KeepsSound → IsSound (told old) → ShowMemory engines setting
    → StandsFor engines setting old (told old) was → was.over ≡ false → setting.idle ≤ was.row
    → EndsAll was is EndIs.Idle → IsLastAt engines 1 (was.slots 1) more
    → Records old new (Idle worker) more
    → StandsFor engines setting new (told new) is
keeps-idle {setting = setting} old new was is worker more k sound show keeps going long all last records =
    let w : World = told old in
    keeps_all_end old new was is (Idle worker) EndIs.Idle more k sound show keeps going (keeps.mirrors.over ∙ going, rw keeps.mirrors.row long) tt refl all last records

-- STARVE. While the run goes on it may be given up for want of memory.
pub keeps-starve : {E P : Type 0} {engines : Meaning E P} {setting : Setting P} (old new : Book) (was is : Held E) (worker : ℕ) (more : List EndMemory)
    → KeepsSound → IsSound (told old) → ShowMemory engines setting
    → StandsFor engines setting old (told old) was → was.over ≡ false
    → EndsAll was is EndIs.NoMemory → IsLastAt engines 1 (was.slots 1) more
    → Records old new (Starve worker) more
    → StandsFor engines setting new (told new) is
keeps-starve {setting = setting} old new was is worker more k sound show keeps going all last records =
    keeps_all_end old new was is (Starve worker) EndIs.NoMemory more k sound show keeps going (keeps.mirrors.over ∙ going, tt) tt refl all last records
