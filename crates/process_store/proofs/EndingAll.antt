use Rattle.std.proofs.Common.{◌≡◌, ◌≢◌, ◌⊎◌, ◌≤◌, ◌<◌, ℕ, zero, suc, ◌+◌, List, [], ◌∷◌, ◌++◌, Option, Some, None, Bool, true, false, cond, length, map, nat_eq, nat_lt, nat_le, ◌&&◌, filter, append-nil, vec_capacity, refl, arith, sym, ◌∙◌, ap, subst, inl, inr}
use Rattle.std.proofs.lemmas.Bool.Decides.{eqb_tells, nat_tests}
use Rattle.host_port.specs.declared.call.Call.{Call}
use Rattle.host_port.specs.declared.start.Start.{Start}
use Rattle.host_port.specs.declared.start.StartRefusal.{StartRefusal}
use Rattle.host_port.specs.Standing.{Standing}
use Rattle.resource_table.specs.Handles.{Handle}
use Rattle.resource_table.specs.Steps.{Told}
use Rattle.world_rules.specs.declared.entry.Entry.{Entry}
use Rattle.world_rules.specs.declared.entry.Entry.TheVariants as EntryIs
use Rattle.world_rules.specs.declared.halt.End.{End}
use Rattle.world_rules.specs.declared.life.Birth.{Birth}
use Rattle.world_rules.specs.declared.life.Ended.{Ended as EndMemory}
use Rattle.world_rules.specs.Allowed.{Allowed}
use Rattle.world_rules.specs.Births.{Terms}
use Rattle.world_rules.specs.Book.{Book, AddsEntry}
use Rattle.world_rules.specs.Ends.{all_struck, all_end}
use Rattle.world_rules.specs.Lives.{Setting, TurnIsRun, terms_of}
use Rattle.world_rules.specs.Rules.{next, happened, giver_of, row_after}
use Rattle.world_rules.specs.Sound.{IsSound, AreInOrder, is_drawn}
use Rattle.world_rules.specs.Told.{told, IsTold}
use Rattle.world_rules.specs.Views.{Given, Giving, Deed, EndingAll, Cause, Stuck, Idling, Starving, deed_of, end_by}
use Rattle.world_rules.specs.World.{World, Process, Stage, Ready, Out, Waiting, is_away, is_live, up_to}
use Rattle.node_state.specs.Fits.{ShowMemory}
use Rattle.node_state.specs.Seats.{Meaning}
use Rattle.node_state.specs.Streaming.{Kept, StreamsStand}
use Rattle.node_laws.proofs.Programs.{run-told}
use Rattle.node_mirror.specs.Slots.{Slot, SlotFits, Nobody, Home, Asleep, Giving as GivingSlot, Away, Fated, Gone, is_home, is_live_slot, is_giving}
use Rattle.node_mirror.specs.Held.{Held, Mirrors, StandsFor, kept_places, away_count}
use Rattle.node_mirror.specs.Steps.{Requeued, homes_among, over}
use Rattle.node_mirror.specs.Fits.{Records}
use Rattle.node_mirror.proofs.Members.{both_true, within}
use Rattle.process_store.specs.declared.store.Store.{Store}
use Rattle.process_store.specs.Holds.{Becomes, held_of, kept_of, place_at, ready_of}
use Rattle.process_store.specs.Keeps.{StoreKeeps}
use Rattle.process_store.specs.NodeKeeps.{NodeKeeps}
use Rattle.process_store.specs.PassOn.{PassesOn}
use Rattle.process_store.specs.Seen.{seen}
use Rattle.process_store.specs.Takes.{MayEndAll, RecordsEntry}
use Rattle.process_store.specs.Telling.{StaysButEnds}
use Rattle.process_store.proofs.NodeStanding.{EntryLaw, keeps_after, mirrors_settled, setting_with}

-- Everybody ends.

-- THE LAWS

abbrev pub OthersLaw : {E P S : Type 0} → Meaning E P → Told S → Type 0
OthersLaw {E = E} {P = P} {S = S} engines tells =
    (setting : Setting P) (old new : Book) (held after : Held E) (was is : Kept S) (entry : Entry) (births : List Birth) (ends : List EndMemory) → StandsFor engines setting old (told old) held →
    ((give : Given) → deed_of entry ≢ Giving give) → Records old new entry births ends → StandsFor engines setting new (told new) after → StreamsStand tells (told old) was →
    PassesOn tells was is [] [] → StreamsStand tells (told new) is

abbrev pub OverLaw : {E P : Type 0} → Meaning E P → Type 0
OverLaw {E = E} {P = P} engines =
    (setting : Setting P) (w : World) (held : Held E) (ends : List EndMemory) → Mirrors engines setting w held ends → ((pid : ℕ) → is_live_slot (held.slots pid) ≡ false) →
    Mirrors engines setting (record w { over = true }) (over held) ends

abbrev pub SoundKept : Type 0
SoundKept = (terms : Option Terms) (births : List Birth) (w : World) (entry : Entry) → IsSound w → Allowed terms births w entry → IsSound (next births w entry)

abbrev pub StrikesLaw : Type 0
StrikesLaw = (w : World) (end : End) → all_end w end ≡ record (all_struck w (up_to w.numbers_drawn) end) { over = true }

-- NOBODY IS LIVE

live_dead : (stage other : Stage) → stage ≡ other → is_live other ≡ true → is_live stage ≡ false → ⊥
live_dead stage other is live dead = let h : true ≡ false = sym live ∙ ap is_live (sym is) ∙ dead in cc

pub dead_slot : {E P : Type 0} (engines : Meaning E P) (programs : List P) (p : Process) (slot : Slot E) → SlotFits engines programs p slot → is_live p.stage ≡ false → is_live_slot slot ≡ false
dead_slot engines programs p Nobody fits dead = refl
dead_slot engines programs p (Home seat) fits dead = absurd (live_dead p.stage Ready fits.stage refl dead)
dead_slot engines programs p (Asleep seat ask) fits dead = absurd (live_dead p.stage _ fits.stage refl dead)
dead_slot engines programs p (GivingSlot seat ask) fits dead = absurd (live_dead p.stage Ready fits.stage refl dead)
dead_slot engines programs p (Away worker) fits dead = absurd (live_dead p.stage (Out worker) fits refl dead)
dead_slot engines programs p (Fated worker end) fits dead = refl
dead_slot engines programs p Gone fits dead = refl

dead_giving : {E : Type 0} (slot : Slot E) → is_live_slot slot ≡ false → is_giving slot ≡ false
dead_giving Nobody dead = refl
dead_giving (Home seat) dead = refl
dead_giving (Asleep seat ask) dead = refl
dead_giving (GivingSlot seat ask) dead = sym (sym dead)
dead_giving (Away worker) dead = refl
dead_giving (Fated worker end) dead = refl
dead_giving Gone dead = refl

dead_home : {E : Type 0} (slot : Slot E) → is_live_slot slot ≡ false → is_home slot ≡ false
dead_home Nobody dead = refl
dead_home (Home seat) dead = sym (sym dead)
dead_home (Asleep seat ask) dead = refl
dead_home (GivingSlot seat ask) dead = refl
dead_home (Away worker) dead = refl
dead_home (Fated worker end) dead = refl
dead_home Gone dead = refl

none_live : SoundKept → StrikesLaw → (terms : Option Terms) (births : List Birth) (w : World) (entry : Entry) (cause : Cause) → deed_of entry ≡ EndingAll cause → IsSound w
    → Allowed terms births w entry → (pid : ℕ) → is_live ((all_struck w (up_to w.numbers_drawn) (end_by cause)).process pid).stage ≡ false
none_live kept strikes terms births w entry cause is sound allowed pid =
    ap (λ (v : World). is_live (v.process pid).stage) (sym (strikes w (end_by cause)))
    ∙ ap (λ (d : Deed). is_live ((happened births w d).process pid).stage) (sym is)
    ∙ (kept terms births w entry sound allowed).processes.over (ap (λ (d : Deed). (happened births w d).over) is) pid

-- WHY ALL END

counted_none : (ps : ℕ → Process) (n p : ℕ) → away_count ps n ≡ 0 → 0 < p → p ≤ n → is_away (ps p).stage ≡ false
counted_none ps zero p none low high = let h : ⊥ = omega (arith, low, high) in absurd h
counted_none ps (suc n) p none low high =
    by (λ less. counted_none ps n p (rest (away_count ps n) (cond (is_away (ps (suc n)).stage) 1 0) none) low less) (eqb_tells p (suc n))
  where
    rest : (a b : ℕ) → a + b ≡ 0 → a ≡ 0
    rest a b e = omega (arith, e)

    last : (a : ℕ) (b : Bool) → a + cond b 1 0 ≡ 0 → b ≡ false
    last a true e = let h : ⊥ = omega (arith, e) in absurd h
    last a false e = refl

    lower : p ≢ suc n → p ≤ n
    lower other = omega (arith, high, other)

    by : (p ≤ n → is_away (ps p).stage ≡ false) → ((nat_eq p (suc n) ≡ true) × (p ≡ suc n)) ⊎ ((nat_eq p (suc n) ≡ false) × (p ≢ suc n)) → is_away (ps p).stage ≡ false
    by before (inl same) = ap (λ (q : ℕ). is_away (ps q).stage) same.1 ∙ last (away_count ps n) (is_away (ps (suc n)).stage) none
    by before (inr other) = before (lower other.1)

none_away : (w : World) → AreInOrder w → away_count w.process w.numbers_drawn ≡ 0 → (pid : ℕ) → is_away (w.process pid).stage ≡ false
none_away w order none pid = by (is_drawn w pid) refl
  where
    low : nat_lt 0 pid ≡ true → 0 < pid
    low h = grind (arith, nat_tests, h)

    by : (b : Bool) → is_drawn w pid ≡ b → is_away (w.process pid).stage ≡ false
    by true is = let both = both_true (nat_lt 0 pid) (nat_le pid w.numbers_drawn) is in counted_none w.process w.numbers_drawn pid none (low both.0) (within pid w.numbers_drawn both.1)
    by false is = ap (λ (p : Process). is_away p.stage) (order.undrawn pid is)

-- the entry ends all with this end, for a cause that is allowed
record Due {P : Type 0} (setting : Setting P) (w : World) (entry : Entry) (end : End) : Type 0 where
  cause : Cause
  deed : deed_of entry ≡ EndingAll cause
  ends_so : end ≡ end_by cause
  allowed : (births : List Birth) → Allowed (Some (terms_of setting)) births w entry
  turn : TurnIsRun setting w (deed_of entry)

due_of : {P S : Type 0} (begin : P → Start → Option StartRefusal) (at : P → Start → List Call → ℕ → Option Standing) (programs : List P) (old : Book) (live idle spare : ℕ)
    (hs ms : List (List (Handle S))) (cs : List (Handle S)) (entry : Entry) (end : End) → AreInOrder (told old) → (told old).over ≡ false
    → MayEndAll (seen programs old live idle spare hs ms cs) entry end → Due (setting_with begin at programs old.births live idle) (told old) entry end
due_of begin at programs old live idle spare hs ms cs (EntryIs.Take worker pid) end order going due = absurd due
due_of begin at programs old live idle spare hs ms cs (EntryIs.Give worker pid calls fuel halt side) end order going due = absurd due
due_of begin at programs old live idle spare hs ms cs (EntryIs.Tick worker now) end order going due = absurd due
due_of begin at programs old live idle spare hs ms cs (EntryIs.Stall worker) end order going due = record {
  cause = Stuck;
  deed = refl;
  ends_so = due.0;
  allowed = λ births. (going, record { ready = due.1.none_ready; away = none_away (told old) order due.1.away; timed = due.1.untimed });
  turn = tt;
}
due_of begin at programs old live idle spare hs ms cs (EntryIs.Idle worker) end order going due = record {
  cause = Idling;
  deed = refl;
  ends_so = due.0;
  allowed = λ births. (going, due.1);
  turn = tt;
}
due_of begin at programs old live idle spare hs ms cs (EntryIs.Starve worker) end order going due = record {
  cause = Starving;
  deed = refl;
  ends_so = due;
  allowed = λ births. (going, tt);
  turn = tt;
}

no_give : (d : Deed) (cause : Cause) → d ≡ EndingAll cause → (give : Given) → d ≢ Giving give
no_give d cause is give other = cc

no_giver : (d : Deed) (cause : Cause) → d ≡ EndingAll cause → giver_of d ≡ []
no_giver d cause is = ap giver_of is

-- THE READY LIST

none_home : {E : Type 0} (held : Held E) (pids : List ℕ) → ((pid : ℕ) → is_home (held.slots pid) ≡ false) → homes_among held pids ≡ []
none_home held [] none = refl
none_home held (pid ∷ pids) none = rw (none pid) (none_home held pids none)

emptied_list : {E : Type 0} (held : Held E) (earlier giver : List ℕ) → held.ready ≡ [] → ((pid : ℕ) → is_home (held.slots pid) ≡ false) → Requeued earlier giver held
emptied_list held earlier giver empty none = record {
  came = [];
  rising = tt;
  ready = empty ∙ sym (λ i. none_home held earlier none i ++ [] ++ none_home held giver none i);
  fresh = λ pid is. let h : false ≡ true = is in let none : ⊥ = cc in absurd none;
  all = λ pid is. let h : false ≡ true = sym (none pid) ∙ is in let none : ⊥ = cc in absurd none;
}

-- THE STEPS

pub record EndSteps {E O P S L : Type 0} (engines : Meaning E P) (tells : Told S) (old added new : Book) (s0 s1 s2 s3 s4 : Store E O P S L) (entry : Entry) (end : End) : Type 0 where
  pub adds : AddsEntry old added entry
  pub mirrors : (setting : Setting P) (w : World) → ShowMemory engines setting → Mirrors engines setting w (held_of s0) added.ends
      → Mirrors engines setting (all_struck w (up_to w.numbers_drawn) end) (held_of s1) new.ends
  pub stays : StaysButEnds added new
  pub numbers : length s1.places.items ≡ length s0.places.items
  pub out : s1.out ≡ s0.out
  pub drawn : s1.streams ≡ s0.streams
  pub births : s1.births ≡ s0.births
  pub ends : (more : List EndMemory) × (new.ends ≡ added.ends ++ more)
  pub rooms : vec_capacity s1.closed ≡ vec_capacity s0.closed
  pub passes : PassesOn tells (kept_of s0) (kept_of s1) [] []
  pub overs : s2 ≡ record s1 { over = true }
  pub rows : s3 ≡ record s2 { row = 0 }
  pub settles : Becomes s4 (held_of s3)
  pub kept : kept_of s4 ≡ kept_of s3
  pub keeps : StoreKeeps s4
  pub came : s4.came.items ≡ []
  pub giver : s4.giver ≡ None
  pub same : s4 ≡ record s3 { queue = s4.queue; came = s4.came; giver = s4.giver }
  pub capacity : vec_capacity s4.closed ≡ vec_capacity s3.closed

-- the entry was recorded with the ends that it brought
pub ends_recorded : {E O P S L : Type 0} {engines : Meaning E P} {tells : Told S} (old added new : Book) (s0 s1 s2 s3 s4 : Store E O P S L) (entry : Entry) (end : End)
    → (steps : EndSteps engines tells old added new s0 s1 s2 s3 s4 entry end) → Records old new entry [] steps.ends.0
ends_recorded old added new s0 s1 s2 s3 s4 entry end steps = record {
  entries = steps.stays.entries ∙ steps.adds.entries;
  births_are = steps.stays.births ∙ steps.adds.births ∙ sym (append-nil old.births);
  ends_are = steps.ends.1 ∙ ap (λ (xs : List EndMemory). xs ++ steps.ends.0) steps.adds.ends;
  entry_room = ap (λ (n : ℕ). n + 1) steps.stays.entry_room ∙ steps.adds.entry_room;
}

pub end_keeps : {E O P S L : Type 0} {engines : Meaning E P} {may_ask : P → ℕ → Type 0} {tells : Told S} (begin : P → Start → Option StartRefusal)
    (at : P → Start → List Call → ℕ → Option Standing) (programs : List P) (old added new : Book) (live idle : ℕ) (s0 s1 s2 s3 s4 : Store E O P S L) (spare : ℕ)
    (hs ms : List (List (Handle S))) (cs : List (Handle S)) (entry : Entry) (end : End)
    → EntryLaw engines → OthersLaw engines tells → OverLaw engines → ((book : Book) → IsTold book → IsSound (told book)) → SoundKept → StrikesLaw
    → ShowMemory engines (setting_with begin at programs old.births live idle) → NodeKeeps engines may_ask tells (setting_with begin at programs old.births live idle) old s0 spare
    → (told old).over ≡ false → MayEndAll (seen programs old live idle spare hs ms cs) entry end → EndSteps engines tells old added new s0 s1 s2 s3 s4 entry end
    → NodeKeeps engines may_ask tells (setting_with begin at programs new.births live idle) new s4 spare
end_keeps {E} {O} {P} {S} {L} {engines = engines} {tells = tells} begin at programs old added new live idle s0 s1 s2 s3 s4 spare hs ms cs entry end law others over_law all_told sound_kept strikes show
    keeps going due steps =
    let setting : Setting P = setting_with begin at programs old.births live idle in
    let w : World = told old in
    let stands = keeps.stands in
    let sound : IsSound w = all_told old (run-told setting old stands.run) in
    let d : Due setting w entry end = due_of begin at programs old live idle spare hs ms cs entry end sound.processes going due in
    let struck : World = all_struck w (up_to w.numbers_drawn) end in
    let records : Records old new entry [] steps.ends.0 = ends_recorded old added new s0 s1 s2 s3 s4 entry end steps in
    let m1 : Mirrors engines setting struck (held_of s1) new.ends =
    steps.mirrors setting w show (subst (λ (ends : List EndMemory). Mirrors engines setting w (held_of s0) ends) (sym steps.adds.ends) stands.mirrors) in
    let dead1 : (pid : ℕ) → is_live_slot (place_at s1 pid) ≡ false = λ pid.
    dead_slot engines programs (struck.process pid) (place_at s1 pid) (m1.slots pid)
    (ap (λ (e : End). is_live ((all_struck w (up_to w.numbers_drawn) e).process pid).stage) d.ends_so
    ∙ none_live sound_kept strikes (Some (terms_of setting)) new.births w entry d.cause d.deed sound (d.allowed new.births) pid) in
    let becomes : Becomes s2 (over (held_of s1)) = subst (λ (s : Store E O P S L). Becomes s (over (held_of s1))) (sym steps.overs) refl in
    let m4 : Mirrors engines setting (record struck { over = true }) (held_of s4) new.ends =
    mirrors_settled engines setting (record struck { over = true }) s2 s3 s4 (over (held_of s1)) 0 new.ends becomes steps.rows steps.settles (over_law setting struck (held_of s1) new.ends m1 dead1) in
    let happens : happened new.births w (deed_of entry) ≡ record struck { over = true } =
    ap (λ (deed : Deed). happened new.births w deed) d.deed ∙ ap (λ (e : End). all_end w e) (sym d.ends_so) ∙ strikes w end in
    let whole : s4 ≡ record s1 { over = true; row = 0; queue = s4.queue; came = s4.came; giver = s4.giver } =
    steps.same ∙ ap (λ (s : Store E O P S L). record s { queue = s4.queue; came = s4.came; giver = s4.giver }) (steps.rows ∙ ap (λ (s : Store E O P S L). record s { row = 0 }) steps.overs) in
    let dead4 : (pid : ℕ) → is_live_slot (place_at s4 pid) ≡ false = λ pid.
    ap (λ (s : Store E O P S L). is_live_slot (place_at s pid)) whole ∙ dead1 pid in
    let home4 : (pid : ℕ) → is_home (place_at s4 pid) ≡ false = λ pid. dead_home (place_at s4 pid) (dead4 pid) in
    let births_is : new.births ≡ old.births = steps.stays.births ∙ steps.adds.births in
    let counted : s4.births ≡ length new.births =
    ap (λ (s : Store E O P S L). s.births) whole ∙ steps.births ∙ sym stands.mirrors.births ∙ sym stands.run.legal.births ∙ ap (λ (bs : List Birth). length bs) (sym births_is) in
    let out_is : s4.out ≡ s0.out = ap (λ (s : Store E O P S L). s.out) whole ∙ steps.out in
    let drawn_is : s4.streams ≡ s0.streams = ap (λ (s : Store E O P S L). s.streams) whole ∙ steps.drawn in
    let over_is : s4.over ≡ true = ap (λ (s : Store E O P S L). s.over) whole in
    let row_is : s4.row ≡ 0 = ap (λ (s : Store E O P S L). s.row) whole in
    let was_over : s0.over ≡ false = sym stands.mirrors.over ∙ going in
    let capacity : vec_capacity s4.closed ≡ vec_capacity s0.closed = ap (λ (s : Store E O P S L). vec_capacity s.closed) whole ∙ steps.rooms in
    let kept_is : kept_of s4 ≡ kept_of s1 =
    steps.kept ∙ ap (λ (s : Store E O P S L). kept_of s) (steps.rows ∙ ap (λ (s : Store E O P S L). record s { row = 0 }) steps.overs) in
    let room : spare + kept_places s4.out s4.over ≤ new.entry_room =
    room_by spare s0.out s4.out old.entry_room new.entry_room s0.over s4.over was_over over_is out_is records.entry_room keeps.spare_room in
    let after : StandsFor engines setting new (told new) (held_of s4) =
    law setting old new (held_of s0) (held_of s4) (record struck { over = true }) entry [] steps.ends.0 stands records (d.allowed new.births) d.turn happens m4 counted
    (emptied_list (held_of s4) (ready_of s0) (giver_of (deed_of entry)) (none_home (held_of s4) s4.queue.ready home4) home4)
    (row_is ∙ sym (ap (λ (deed : Deed). row_after w deed) d.deed))
    (λ pid. dead_giving (place_at s4 pid) (dead4 pid)) (less spare (kept_places s4.out s4.over) new.entry_room room) in
    keeps_after begin at programs old new live idle s0 s4 spare spare keeps births_is after
    (others setting old new (held_of s0) (held_of s4) (kept_of s0) (kept_of s4) entry [] steps.ends.0 stands (no_give (deed_of entry) d.cause d.deed) records after keeps.streams
    (subst (λ (k : Kept S). PassesOn tells (kept_of s0) k [] []) (sym kept_is) steps.passes))
    steps.keeps steps.came steps.giver (ap (λ (s : Store E O P S L). length s.places.items) whole ∙ steps.numbers) room keeps.spare_bound
    (λ two. turn_by s0.streams s0.out s4.streams s4.out (vec_capacity s0.closed) (vec_capacity s4.closed) drawn_is out_is capacity (keeps.turn_room two))
  where
    less : (a b c : ℕ) → a + b ≤ c → b ≤ c
    less a b c e = omega (arith, e)

    turn_by : (a b c d x y : ℕ) → c ≡ a → d ≡ b → y ≡ x → a + b + 1 ≤ x → c + d + 1 ≤ y
    turn_by a b c d x y e f g h = omega (arith, e, f, g, h)

    room_by : (spare out out' room room' : ℕ) (was is : Bool) → was ≡ false → is ≡ true → out' ≡ out → room' + 1 ≡ room → spare + kept_places out was ≤ room → spare + kept_places out' is ≤ room'
    room_by spare out out' room room' true is a b c e le = let h : ⊥ = cc in absurd h
    room_by spare out out' room room' false true a b c e le = omega (arith, c, e, le)
    room_by spare out out' room room' false false a b c e le = let h : ⊥ = cc in absurd h

-- as contracts show it
pub ends_steps : (old added new : Book) (entry : Entry) → AddsEntry old added entry → StaysButEnds added new → ((more : List EndMemory) × (new.ends ≡ added.ends ++ more)) → RecordsEntry old new entry
ends_steps old added new entry adds stays ends = (
  ends.0,
  record {
    entries = stays.entries ∙ adds.entries;
    births = stays.births ∙ adds.births;
    ends_are = ends.1 ∙ ap (λ (xs : List EndMemory). xs ++ ends.0) adds.ends;
    entry_room = ap (λ (n : ℕ). n + 1) stays.entry_room ∙ adds.entry_room;
  },
)

-- the entry has a place, which is kept while the run goes on
pub end_place : {E O P S L : Type 0} {engines : Meaning E P} {may_ask : P → ℕ → Type 0} {tells : Told S} {setting : Setting P} (book : Book) (store : Store E O P S L) (spare : ℕ)
    → NodeKeeps engines may_ask tells setting book store spare → (told book).over ≡ false → 0 < book.entry_room
end_place book store spare keeps going = by store.over (sym keeps.stands.mirrors.over ∙ going) keeps.spare_room
  where
    by : (b : Bool) → b ≡ false → spare + kept_places store.out b ≤ book.entry_room → 0 < book.entry_room
    by true is room = let h : ⊥ = cc in absurd h
    by false is room = omega (arith, room)
