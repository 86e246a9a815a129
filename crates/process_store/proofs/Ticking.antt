use Rattle.std.proofs.Common.{◌≡◌, ◌≢◌, ◌≤◌, ◌<◌, ℕ, ◌+◌, ◌-◌, List, [], ◌∷◌, ◌++◌, Option, Some, None, Bool, true, false, cond, not, length, nat_eq, length-append, vec_capacity, refl, arith, sym, ◌∙◌, ap, subst}
use Rattle.std.specs.Option.{option_to_list}
use Rattle.host_port.specs.declared.ask.Ask.{Ask}
use Rattle.host_port.specs.declared.call.Call.{Call}
use Rattle.host_port.specs.declared.start.Start.{Start}
use Rattle.host_port.specs.declared.start.StartRefusal.{StartRefusal}
use Rattle.host_port.specs.Areas.{request_of}
use Rattle.host_port.specs.Standing.{Standing}
use Rattle.host_port.specs.Steps.{IsAnswerable}
use Rattle.resource_table.specs.Steps.{Told}
use Rattle.world_rules.specs.declared.entry.Entry.{Entry}
use Rattle.world_rules.specs.declared.entry.Entry.TheVariants.{Tick}
use Rattle.world_rules.specs.declared.life.Ended.{Ended as EndMemory}
use Rattle.world_rules.specs.Book.{Book, AddsEntry}
use Rattle.world_rules.specs.Calls.{call_of}
use Rattle.world_rules.specs.Lives.{Setting}
use Rattle.world_rules.specs.Mail.{MailItem}
use Rattle.world_rules.specs.Receive.{delivery_reply}
use Rattle.world_rules.specs.Rules.{happened, row_after, row_with}
use Rattle.world_rules.specs.Time.{all_timed_out, at_time, due_processes, late_reply, ticked}
use Rattle.world_rules.specs.Told.{told}
use Rattle.world_rules.specs.Views.{Given, Giving as Gives, Timing, deed_of}
use Rattle.world_rules.specs.World.{World}
use Rattle.node_state.specs.Posts.{time_at}
use Rattle.node_state.specs.Seats.{Meaning, Seat}
use Rattle.node_state.specs.Streaming.{Kept}
use Rattle.node_mirror.specs.Slots.{Slot, SlotFits, IsAsleep, Nobody, Home, Asleep, Giving, Away, Fated, Gone, is_giving}
use Rattle.node_mirror.specs.Held.{Held, Mirrors, StandsFor, kept_places}
use Rattle.node_mirror.specs.Steps.{Requeued}
use Rattle.process_store.specs.declared.store.Store.{Store}
use Rattle.process_store.specs.Holds.{Becomes, held_of, kept_of, place_at, ready_of}
use Rattle.process_store.specs.Keeps.{StoreKeeps}
use Rattle.process_store.specs.NodeKeeps.{NodeKeeps}
use Rattle.process_store.specs.PassOn.{PassesOn}
use Rattle.process_store.specs.Performing.{GivesStay, MayBeWoken, StayGone, StaysBeside}
use Rattle.process_store.specs.Takes.{IsTimed}
use Rattle.process_store.proofs.EndingAll.{OthersLaw}
use Rattle.process_store.proofs.NodeStanding.{EntryLaw, keeps_after, mirrors_settled, records_one, setting_with}
use Rattle.process_store.proofs.QueuedAgain.{entry_requeued}

-- A Tick of a node.

-- WHO WAITS

-- what the law says of those that wait
abbrev pub LateLaw : {E P : Type 0} → Meaning E P → Type 0
LateLaw {E = E} {P = P} engines =
    (setting : Setting P) (w : World) (held : Held E) (ends : List EndMemory) (pid : ℕ) (seat : Seat E) (ask : Ask) → Mirrors engines setting w held ends → held.slots pid ≡ Asleep seat ask →
    IsAnswerable (engines.phase seat.engine) (engines.memory seat.engine) (late_reply (call_of (request_of (engines.memory seat.engine) ask)))

abbrev pub DeliveredLaw : {E P : Type 0} → Meaning E P → Type 0
DeliveredLaw {E = E} {P = P} engines =
    (setting : Setting P) (w : World) (held : Held E) (ends : List EndMemory) (pid : ℕ) (seat : Seat E) (ask : Ask) (item : MailItem) → Mirrors engines setting w held ends →
    held.slots pid ≡ Asleep seat ask → ask.call ≡ 9 → IsAnswerable (engines.phase seat.engine) (engines.memory seat.engine) (delivery_reply item)

-- who waits in a world that is mirrored may be told what it waits for
pub mirrors_wake : {E P : Type 0} (engines : Meaning E P) (setting : Setting P) (w : World) (held : Held E) (ends : List EndMemory) → LateLaw engines → DeliveredLaw engines → Mirrors engines setting w held ends
    → (pid : ℕ) → MayBeWoken engines.phase engines.memory (held.slots pid)
mirrors_wake {E = E} engines setting w held ends late delivered m pid = by (held.slots pid) refl
  where
    by : (slot : Slot E) → held.slots pid ≡ slot → MayBeWoken engines.phase engines.memory slot
    by Nobody is = tt
    by (Home seat) is = tt
    by (Asleep seat ask) is =
        let fits : IsAsleep engines setting.programs (w.process pid) seat ask = subst (λ (s : Slot E). SlotFits engines setting.programs (w.process pid) s) is (m.slots pid) in
        record {
          fitting = fits.fitting;
          late = late setting w held ends pid seat ask m is;
          delivered = λ item nine. delivered setting w held ends pid seat ask item m is nine;
          call = fits.call;
        }
    by (Giving seat ask) is = tt
    by (Away worker) is = tt
    by (Fated worker end) is = tt
    by Gone is = tt

-- THE STEPS

-- the time was set, the Tick recorded, the waits were ended that were due, the row was set, and who came home was queued
pub record TickSteps {E O P S L : Type 0} (engines : Meaning E P) (tells : Told S) (old new : Book) (s0 s1 s2 s3 s4 : Store E O P S L) (worker now : ℕ) (some : Bool) (row : ℕ) : Type 0 where
  pub times : s1 ≡ record s0 { time = time_at s0.time now }
  pub adds : AddsEntry old new (Tick worker now)
  pub mirrors : (setting : Setting P) (w : World) (ends : List EndMemory) → Mirrors engines setting w (held_of s1) ends
      → Mirrors engines setting (all_timed_out w (due_processes w)) (held_of s2) ends × (nat_eq (length (due_processes w)) 0 ≡ not some)
  pub gives_stay : GivesStay s1 s2
  pub stay_gone : StayGone s1 s2
  pub beside : StaysBeside s1 s2
  pub giver_stays : s2.giver ≡ s1.giver
  pub passes : PassesOn tells (kept_of s1) (kept_of s2) [] []
  pub rows : s3 ≡ record s2 { row = row }
  pub row_is : row ≡ row_with (not some) s0.row
  pub settles : Becomes s4 (held_of s3)
  pub kept : kept_of s4 ≡ kept_of s3
  pub keeps : StoreKeeps s4
  pub ready : Requeued s3.queue.ready (option_to_list s3.giver) (held_of s4)
  pub came : s4.came.items ≡ []
  pub giver : s4.giver ≡ None
  pub same : s4 ≡ record s3 { queue = s4.queue; came = s4.came; giver = s4.giver }
  pub capacity : vec_capacity s4.closed ≡ vec_capacity s3.closed

-- what the laws say of the time and of those that are late
abbrev pub TimeLaw : {E P : Type 0} → Meaning E P → Type 0
TimeLaw {E = E} {P = P} engines =
    (setting : Setting P) (w : World) (held : Held E) (ends : List EndMemory) (now : ℕ) → Mirrors engines setting w held ends →
    Mirrors engines setting (at_time now w) (record held { time = time_at held.time now }) ends

abbrev pub TickedLaw : Type 0
TickedLaw = (w : World) (now : ℕ) → ticked w now ≡ all_timed_out (at_time now w) (due_processes (at_time now w))

pub false_by : (b : Bool) → (b ≡ true → ⊥) → b ≡ false
false_by true never = absurd (never refl)
false_by false never = refl

no_giving : (worker now : ℕ) (give : Given) → deed_of (Tick worker now) ≢ Gives give
no_giving worker now give is = cc

pub tick_keeps : {E O P S L : Type 0} {engines : Meaning E P} {may_ask : P → ℕ → Type 0} {tells : Told S} (begin : P → Start → Option StartRefusal)
    (at : P → Start → List Call → ℕ → Option Standing) (programs : List P) (old new : Book) (live idle : ℕ) (s0 s1 s2 s3 s4 : Store E O P S L) (spare worker now : ℕ) (some : Bool) (row : ℕ)
    → EntryLaw engines → OthersLaw engines tells → TimeLaw engines → TickedLaw → NodeKeeps engines may_ask tells (setting_with begin at programs old.births live idle) old s0 spare
    → (told old).over ≡ false → IsTimed (told old) → 1 ≤ spare → TickSteps engines tells old new s0 s1 s2 s3 s4 worker now some row
    → NodeKeeps engines may_ask tells (setting_with begin at programs new.births live idle) new s4 (spare - 1)
tick_keeps {E} {O} {P} {S} {L} {engines = engines} {tells = tells} begin at programs old new live idle s0 s1 s2 s3 s4 spare worker now some row law others time_law ticked_law keeps going timed one steps =
    let setting : Setting P = setting_with begin at programs old.births live idle in
    let w : World = told old in
    let v : World = at_time now w in
    let entry : Entry = Tick worker now in
    let stands = keeps.stands in
    let m1 : Mirrors engines setting v (held_of s1) old.ends =
    subst (λ (s : Store E O P S L). Mirrors engines setting v (held_of s) old.ends) (sym steps.times) (time_law setting w (held_of s0) old.ends now stands.mirrors) in
    let m2 = steps.mirrors setting v old.ends m1 in
    let u : World = all_timed_out v (due_processes v) in
    let m4 : Mirrors engines setting u (held_of s4) new.ends =
    subst (λ (ends : List EndMemory). Mirrors engines setting u (held_of s4) ends) (sym steps.adds.ends)
    (mirrors_settled engines setting u s2 s3 s4 (held_of s2) row old.ends refl steps.rows steps.settles m2.0) in
    let middle : s2 ≡ record s1 { places = s2.places; mail = s2.mail; queue = s2.queue; came = s2.came; giver = s2.giver; sends = s2.sends; closed = s2.closed } = steps.beside.0 in
    let whole : s4 ≡ record s2 { row = row; queue = s4.queue; came = s4.came; giver = s4.giver } =
    steps.same ∙ ap (λ (s : Store E O P S L). record s { queue = s4.queue; came = s4.came; giver = s4.giver }) steps.rows in
    let out_is : s4.out ≡ s0.out = ap (λ (s : Store E O P S L). s.out) whole ∙ ap (λ (s : Store E O P S L). s.out) middle ∙ ap (λ (s : Store E O P S L). s.out) steps.times in
    let over_is : s4.over ≡ s0.over = ap (λ (s : Store E O P S L). s.over) whole ∙ ap (λ (s : Store E O P S L). s.over) middle ∙ ap (λ (s : Store E O P S L). s.over) steps.times in
    let drawn_is : s4.streams ≡ s0.streams =
    ap (λ (s : Store E O P S L). s.streams) whole ∙ ap (λ (s : Store E O P S L). s.streams) middle ∙ ap (λ (s : Store E O P S L). s.streams) steps.times in
    let births_is : s4.births ≡ s0.births = ap (λ (s : Store E O P S L). s.births) whole ∙ ap (λ (s : Store E O P S L). s.births) middle ∙ ap (λ (s : Store E O P S L). s.births) steps.times in
    let row4 : s4.row ≡ row = ap (λ (s : Store E O P S L). s.row) whole in
    let slots_is : (q : ℕ) → place_at s4 q ≡ place_at s2 q = λ q. ap (λ (s : Store E O P S L). place_at s q) whole in
    let slots_was : (q : ℕ) → place_at s1 q ≡ place_at s0 q = λ q. ap (λ (s : Store E O P S L). place_at s q) steps.times in
    let capacity : vec_capacity s4.closed ≡ vec_capacity s0.closed =
    ap (λ (s : Store E O P S L). vec_capacity s.closed) whole ∙ steps.beside.3 ∙ ap (λ (s : Store E O P S L). vec_capacity s.closed) steps.times in
    let idle_is : (q : ℕ) → is_giving (place_at s4 q) ≡ false = λ q. ap is_giving (slots_is q)
    ∙ false_by (is_giving (place_at s2 q)) (λ gives. false_true (is_giving (place_at s1 q)) (ap is_giving (slots_was q) ∙ stands.performed q) (steps.gives_stay q gives)) in
    let gone : (q : ℕ) → place_at s0 q ≡ Gone → place_at s4 q ≡ Gone = λ q is. slots_is q ∙ steps.stay_gone q (slots_was q ∙ is) in
    let queue_is : s3.queue.ready ≡ s0.queue.ready =
    ap (λ (s : Store E O P S L). s.queue.ready) steps.rows ∙ steps.beside.2 ∙ ap (λ (s : Store E O P S L). s.queue.ready) steps.times in
    let giver_is : s3.giver ≡ None = ap (λ (s : Store E O P S L). s.giver) steps.rows ∙ steps.giver_stays ∙ ap (λ (s : Store E O P S L). s.giver) steps.times ∙ keeps.giver in
    let queued : Requeued s0.queue.ready [] (held_of s4) =
    subst (λ (xs : List ℕ). Requeued xs [] (held_of s4)) queue_is (subst (λ (g : Option ℕ). Requeued s3.queue.ready (option_to_list g) (held_of s4)) giver_is steps.ready) in
    let counted : s4.births ≡ length new.births = births_is ∙ sym stands.mirrors.births ∙ sym stands.run.legal.births ∙ ap (λ bs. length bs) (sym steps.adds.births) in
    let row_now : s4.row ≡ row_after w (deed_of entry) =
    row4 ∙ steps.row_is ∙ ap (λ (b : Bool). row_with b s0.row) (sym m2.1) ∙ ap (λ (n : ℕ). row_with (nat_eq (length (due_processes v)) 0) n) (sym stands.row) in
    let room : spare - 1 + kept_places s4.out s4.over ≤ new.entry_room =
    room_by spare s0.out s4.out old.entry_room new.entry_room s0.over s4.over out_is over_is steps.adds.entry_room one keeps.spare_room in
    let records = records_one old new entry steps.adds in
    let after : StandsFor engines setting new (told new) (held_of s4) =
    law setting old new (held_of s0) (held_of s4) u entry [] [] stands records (going, timed) tt (ticked_law w now) m4 counted
    (entry_requeued s0 (held_of s4) keeps.keeps stands.performed gone queued) row_now idle_is (less (spare - 1) (kept_places s4.out s4.over) new.entry_room room) in
    let kept_is : kept_of s4 ≡ kept_of s2 = steps.kept ∙ ap (λ (s : Store E O P S L). kept_of s) steps.rows in
    let kept_was : kept_of s1 ≡ kept_of s0 = ap (λ (s : Store E O P S L). kept_of s) steps.times in
    let passes : PassesOn tells (kept_of s0) (kept_of s4) [] [] =
    subst (λ (k : Kept S). PassesOn tells (kept_of s0) k [] []) (sym kept_is) (subst (λ (k : Kept S). PassesOn tells k (kept_of s2) [] []) kept_was steps.passes) in
    keeps_after begin at programs old new live idle s0 s4 spare (spare - 1) keeps steps.adds.births after
    (others setting old new (held_of s0) (held_of s4) (kept_of s0) (kept_of s4) entry [] [] stands (no_giving worker now) records after keeps.streams passes)
    steps.keeps steps.came steps.giver
    (ap (λ (s : Store E O P S L). length s.places.items) whole ∙ steps.beside.1 ∙ ap (λ (s : Store E O P S L). length s.places.items) steps.times) room (fewer spare keeps.spare_bound)
    (λ two. turn_by s0.streams s0.out s4.streams s4.out (vec_capacity s0.closed) (vec_capacity s4.closed) drawn_is out_is capacity (keeps.turn_room (more spare two)))
  where
    false_true : (b : Bool) → b ≡ false → b ≡ true → ⊥
    false_true b no_it yes_it = let e : false ≡ true = sym no_it ∙ yes_it in let h : ⊥ = cc in h

    less : (a b c : ℕ) → a + b ≤ c → b ≤ c
    less a b c e = omega (arith, e)

    more : (n : ℕ) → 2 ≤ n - 1 → 2 ≤ n
    more n e = omega (arith, e)

    fewer : (n : ℕ) → n ≤ 3 → n - 1 ≤ 3
    fewer n e = omega (arith, e)

    turn_by : (a b c d x y : ℕ) → c ≡ a → d ≡ b → y ≡ x → a + b + 1 ≤ x → c + d + 1 ≤ y
    turn_by a b c d x y e f g h = omega (arith, e, f, g, h)

    room_at : (spare out out' room room' : ℕ) (b : Bool) → out' ≡ out → room' + 1 ≡ room → 1 ≤ spare → spare + kept_places out b ≤ room → spare - 1 + kept_places out' b ≤ room'
    room_at spare out out' room room' true a c s le = omega (arith, a, c, s, le)
    room_at spare out out' room room' false a c s le = omega (arith, a, c, s, le)

    room_by : (spare out out' room room' : ℕ) (was is : Bool) → out' ≡ out → is ≡ was → room' + 1 ≡ room → 1 ≤ spare → spare + kept_places out was ≤ room → spare - 1 + kept_places out' is ≤ room'
    room_by spare out out' room room' was is a b c s le = subst (λ (x : Bool). spare - 1 + kept_places out' x ≤ room') (sym b) (room_at spare out out' room room' was a c s le)

-- the row is shorter than the journal with one entry more
pub row_shorter : {E O P S L : Type 0} {engines : Meaning E P} {may_ask : P → ℕ → Type 0} {tells : Told S} {setting : Setting P} (old new : Book) (store : Store E O P S L) (spare : ℕ) (entry : Entry)
    → NodeKeeps engines may_ask tells setting old store spare → AddsEntry old new entry → store.row < length new.entries
row_shorter old new store spare entry keeps adds =
    let l = ap (λ (xs : List Entry). length xs) adds.entries ∙ length-append old.entries (entry ∷ []) in
    let b = keeps.stands.row_bound in
    omega (arith, l, b)

-- the row that a Tick leaves: none, where it ended a wait, else one longer
pub row_ended : (before : ℕ) (some : Bool) (row : ℕ) → some ≡ true → row ≡ 0 → row ≡ row_with (not some) before
row_ended before some row is none = none ∙ ap (λ (b : Bool). row_with (not b) before) (sym is)

pub row_early : (before : ℕ) (some : Bool) (row : ℕ) → some ≡ false → row ≡ before + 1 → row ≡ row_with (not some) before
row_early before some row is longer = longer ∙ ap (λ (b : Bool). row_with (not b) before) (sym is)

pub row_kept : {E O P S L : Type 0} (s0 s1 s2 : Store E O P S L) (now : ℕ) → s1 ≡ record s0 { time = time_at s0.time now } → StaysBeside s1 s2 → s2.row ≡ s0.row
row_kept {E} {O} {P} {S} {L} s0 s1 s2 now times beside = ap (λ (s : Store E O P S L). s.row) beside.0 ∙ ap (λ (s : Store E O P S L). s.row) times
