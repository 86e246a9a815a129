-- The front of the ready list leaves its home for a worker.
use Rattle.std.specs.Prelude.{◌≡◌, ◌≢◌, ◌⊎◌, ℕ, zero, suc, ◌+◌, ◌<◌, ◌≤◌, List, [], ◌∷◌, ◌++◌, length, filter, slice_get, Option, Some, cond, not, Bool, true, false, nat_eq, if◌then◌else◌, refl}
use Rattle.std.proofs.Common.{subst, sym, ◌∙◌, ap, inl, inr, arith, append-nil}
use Rattle.std.proofs.lemmas.Bool.Decides.{eqb_tells}
use Rattle.world_rules.specs.declared.entry.Entry.{Entry}
use Rattle.world_rules.specs.declared.entry.Entry.TheVariants.{Take}
use Rattle.world_rules.specs.declared.life.Birth.{Birth}
use Rattle.world_rules.specs.declared.life.Ended.{Ended as EndMemory}
use Rattle.world_rules.specs.Allowed.{Allowed}
use Rattle.world_rules.specs.Births.{Terms}
use Rattle.world_rules.specs.Book.{Book}
use Rattle.world_rules.specs.Lives.{Setting, IsMemoryOf, EndsAreMemories, terms_of}
use Rattle.world_rules.specs.Part.{is_among}
use Rattle.world_rules.specs.Rules.{next}
use Rattle.world_rules.specs.Rules.{taken as taken_away}
use Rattle.world_rules.specs.Sound.{AreInOrder, IsSound, IsReadyList, times, is_born}
use Rattle.world_rules.specs.Streams.{one_if}
use Rattle.world_rules.specs.Told.{IsTold, told}
use Rattle.world_rules.specs.Touches.{is_there}
use Rattle.world_rules.specs.Unmet.{NothingWanted}
use Rattle.world_rules.specs.World.{World, Process, Exit, Stage, Unborn, Ready, Out, Waiting, Doomed, Ended, is_away, is_ended, is_ready, up_to}
use Rattle.world_rules.specs.laws.KeepingLaws.{false_is_true}
use Rattle.world_rules.specs.laws.LifeLaws.{legal_tells}
use Rattle.node_state.specs.Seats.{Meaning}
use Rattle.node_laws.proofs.Goes.{Alters, alters-with, all-one}
use Rattle.node_mirror.specs.Fits.{Records}
use Rattle.node_mirror.specs.Held.{Held, Mirrors, StandsFor, HaveEnded, HasProgram, away_count}
use Rattle.node_mirror.specs.Slots.{Slot, Away, SlotFits, is_home, is_giving}
use Rattle.node_mirror.specs.Steps.{Requeued, taken}
use Rattle.node_mirror.proofs.Members.{equal, unequal, among_first, among_rest, among_left, times_some, among_of_times, there_drawn}
use Rattle.node_mirror.proofs.Queues.{home_ready}
use Rattle.node_mirror.proofs.Recorded.{stands-next}

-- WHO HAS ENDED

ends_stay : (ps after : ℕ → Process) (exits : List Exit) → HaveEnded ps exits → ((q : ℕ) → is_ended (ps q).stage ≡ true → after q ≡ ps q) → HaveEnded after exits
ends_stay ps after [] h same = tt
ends_stay ps after (exit ∷ exits) h same = (ap (λ (p : Process). is_ended p.stage) (same exit.pid h.0) ∙ h.0, ends_stay ps after exits h.1 same)

memories_stay : {P : Type 0} (setting : Setting P) (ps after : ℕ → Process) (exits : List Exit) (memories : List EndMemory) → HaveEnded ps exits
    → ((q : ℕ) → is_ended (ps q).stage ≡ true → after q ≡ ps q) → EndsAreMemories setting ps exits memories → EndsAreMemories setting after exits memories
memories_stay setting ps after [] [] h same ends = tt
memories_stay setting ps after [] (memory ∷ memories) h same ends = absurd ends
memories_stay setting ps after (exit ∷ exits) [] h same ends = absurd ends
memories_stay setting ps after (exit ∷ exits) (memory ∷ memories) h same ends =
    (ends.0, subst (λ (p : Process). IsMemoryOf setting p memory) (sym (same exit.pid h.0)) ends.1, memories_stay setting ps after exits memories h.1 same ends.2)

-- COUNTS

-- one more is away where one alone left
counted_more : (ps after : ℕ → Process) (pid : ℕ) → is_away (ps pid).stage ≡ false → is_away (after pid).stage ≡ true → ((q : ℕ) → q ≢ pid → after q ≡ ps q) → (n : ℕ)
    → (n < pid → away_count after n ≡ away_count ps n) × (0 < pid → pid ≤ n → away_count after n ≡ away_count ps n + 1)
counted_more ps after pid home away others zero = (λ less. refl, λ low high. absurd (none pid low high))
  where
    none : (n : ℕ) → 0 < n → n ≤ 0 → ⊥
    none n low high = omega (arith, low, high)
counted_more ps after pid home away others (suc n) = by (counted_more ps after pid home away others n) (eqb_tells (suc n) pid)
  where
    not_less : (m n : ℕ) → suc m ≡ n → suc m < n → ⊥
    not_less m n e less = omega (arith, e, less)

    below : (m n : ℕ) → suc m ≡ n → m < n
    below m n e = omega (arith, e)

    less_too : (m n : ℕ) → suc m < n → m < n
    less_too m n e = omega (arith, e)

    lower : (m n : ℕ) → n ≤ suc m → suc m ≢ n → n ≤ m
    lower m n e other = omega (arith, e, other)

    one : (a b x y : ℕ) → a ≡ b → x ≡ 1 → y ≡ 0 → a + x ≡ (b + y) + 1
    one a b x y e f g = omega (arith, e, f, g)

    both : (a b x y : ℕ) → a ≡ b → x ≡ y → a + x ≡ b + y
    both a b x y e f = omega (arith, e, f)

    later : (a b x y : ℕ) → a ≡ b + 1 → x ≡ y → a + x ≡ (b + y) + 1
    later a b x y e f = omega (arith, e, f)

    by : (n < pid → away_count after n ≡ away_count ps n) × (0 < pid → pid ≤ n → away_count after n ≡ away_count ps n + 1)
        → ((nat_eq (suc n) pid ≡ true) × (suc n ≡ pid)) ⊎ ((nat_eq (suc n) pid ≡ false) × (suc n ≢ pid))
        → (suc n < pid → away_count after (suc n) ≡ away_count ps (suc n)) × (0 < pid → pid ≤ suc n → away_count after (suc n) ≡ away_count ps (suc n) + 1)
    by rest (inl same) = (
      λ less. absurd (not_less n pid same.1 less),
      λ low high.
          one (away_count after n) (away_count ps n) (cond (is_away (after (suc n)).stage) 1 0) (cond (is_away (ps (suc n)).stage) 1 0) (rest.0 (below n pid same.1))
          (ap (λ (b : Bool). cond b 1 0) (ap (λ (k : ℕ). is_away (after k).stage) same.1 ∙ away))
          (ap (λ (b : Bool). cond b 1 0) (ap (λ (k : ℕ). is_away (ps k).stage) same.1 ∙ home)),
    )
    by rest (inr other) = (
      λ less.
          both (away_count after n) (away_count ps n) (cond (is_away (after (suc n)).stage) 1 0) (cond (is_away (ps (suc n)).stage) 1 0) (rest.0 (less_too n pid less))
          (ap (λ (p : Process). cond (is_away p.stage) 1 0) (others (suc n) other.1)),
      λ low high.
          later (away_count after n) (away_count ps n) (cond (is_away (after (suc n)).stage) 1 0) (cond (is_away (ps (suc n)).stage) 1 0) (rest.1 low (lower n pid high other.1))
          (ap (λ (p : Process). cond (is_away p.stage) 1 0) (others (suc n) other.1)),
    )

-- THE READY LIST

is_at_ready : (s : Stage) → is_ready s ≡ true → s ≡ Ready
is_at_ready Unborn e = false_is_true e
is_at_ready Ready e = refl
is_at_ready (Out worker) e = false_is_true e
is_at_ready (Waiting request) e = false_is_true e
is_at_ready (Doomed worker end) e = false_is_true e
is_at_ready (Ended end) e = false_is_true e

filter_all : (test : ℕ → Bool) (xs : List ℕ) → ((q : ℕ) → is_among xs q ≡ true → test q ≡ true) → filter test xs ≡ xs
filter_all test [] all = refl
filter_all test (x ∷ xs) all =
    ap (λ (b : Bool). cond b (x ∷ filter test xs) (filter test xs)) (all x (among_first x xs x refl))
    ∙ ap (λ (ys : List ℕ). x ∷ ys) (filter_all test xs (λ q there. all q (among_rest x xs q there)))

-- the front of the list is ready
front_ready : (w : World) (pid : ℕ) (rest : List ℕ) → IsReadyList w → w.ready ≡ pid ∷ rest → (w.process pid).stage ≡ Ready
front_ready w pid rest list front =
    is_at_ready (w.process pid).stage
    (some (is_ready (w.process pid).stage) (times pid rest)
    (sym (ap (λ (xs : List ℕ). times pid xs) front ∙ ap (λ (b : Bool). one_if b (times pid rest)) (equal pid pid refl)) ∙ list pid))
  where
    more : (n : ℕ) → n + 1 ≡ 0 → ⊥
    more n e = omega (arith, e)

    some : (b : Bool) (n : ℕ) → n + 1 ≡ one_if b 0 → b ≡ true
    some true n e = refl
    some false n e = absurd (more n e)

-- where a list holds each ready process once, its front isn't in the rest, and who is in the rest is ready
rest_ready : (w : World) (pid : ℕ) (rest : List ℕ) → IsReadyList w → w.ready ≡ pid ∷ rest → (q : ℕ) → is_among rest q ≡ true → (q ≢ pid) × (is_ready (w.process q).stage ≡ true)
rest_ready w pid rest list front q there = (
  λ same.
      twice (times q rest) (is_ready (w.process q).stage) (times_some q rest there)
      (sym (ap (λ (b : Bool). one_if b (times q rest)) (equal q pid same)) ∙ sym (ap (λ (xs : List ℕ). times q xs) front) ∙ list q),
  some (is_ready (w.process q).stage) (times q w.ready) (times_some q w.ready (ap (λ (xs : List ℕ). is_among xs q) front ∙ among_rest pid rest q there)) (list q),
)
  where
    over_one : (n : ℕ) → 0 < n → n + 1 ≡ 1 → ⊥
    over_one n more e = omega (arith, more, e)

    over_none : (n : ℕ) → 0 < n → n + 1 ≡ 0 → ⊥
    over_none n more e = omega (arith, more, e)

    twice : (n : ℕ) (b : Bool) → 0 < n → n + 1 ≡ one_if b 0 → ⊥
    twice n true more e = over_one n more e
    twice n false more e = over_none n more e

    nothing : (n : ℕ) → 0 < n → n ≡ 0 → ⊥
    nothing n more e = omega (arith, more, e)

    some : (b : Bool) (n : ℕ) → 0 < n → n ≡ one_if b 0 → b ≡ true
    some true n more e = refl
    some false n more e = absurd (nothing n more e)

-- who is ready is in the list
ready_listed : (w : World) → IsReadyList w → (q : ℕ) → is_ready (w.process q).stage ≡ true → is_among w.ready q ≡ true
ready_listed w list q ready = among_of_times q w.ready (some (times q w.ready) (list q ∙ ap (λ (b : Bool). one_if b 0) ready))
  where
    some : (n : ℕ) → n ≡ 0 + 1 → 0 < n
    some n e = omega (arith, e)

-- THE SLOTS

slot_at : {E : Type 0} (was : Held E) (pid worker : ℕ) → (taken was pid worker).slots pid ≡ Away worker
slot_at was pid worker = ap (λ (b : Bool). if b then Away worker else was.slots pid) (equal pid pid refl)

slot_other : {E : Type 0} (was : Held E) (pid worker q : ℕ) → q ≢ pid → (taken was pid worker).slots q ≡ was.slots q
slot_other was pid worker q other = ap (λ (b : Bool). if b then Away worker else was.slots q) (unequal q pid other)

-- what holds of the slot that left and of all others holds of all
each_slot : {E : Type 0} (was : Held E) (pid worker : ℕ) (P : ℕ → Slot E → Type 0) → P pid (Away worker) → ((q : ℕ) → q ≢ pid → P q (was.slots q)) → (q : ℕ) → P q ((taken was pid worker).slots q)
each_slot {E = E} was pid worker P here there q = by (eqb_tells q pid)
  where
    by : ((nat_eq q pid ≡ true) × (q ≡ pid)) ⊎ ((nat_eq q pid ≡ false) × (q ≢ pid)) → P q ((taken was pid worker).slots q)
    by (inl same) = subst (λ (k : ℕ). P k ((taken was pid worker).slots k)) (sym same.1) (subst (λ (s : Slot E). P pid s) (sym (slot_at was pid worker)) here)
    by (inr other) = subst (λ (s : Slot E). P q s) (sym (slot_other was pid worker q other.1)) (there q other.1)

-- the list without its front is the list that is made
take-queues : {E : Type 0} (w : World) (was : Held E) (pid worker : ℕ) (rest : List ℕ) → IsReadyList w → w.ready ≡ was.ready → was.ready ≡ pid ∷ rest
    → ((q : ℕ) → is_home (was.slots q) ≡ is_ready (w.process q).stage) → Requeued was.ready [] (record (taken was pid worker) { ready = rest })
take-queues w was pid worker rest list same front homes = record {
  came = [];
  rising = tt;
  ready = sym (append-nil (filter (λ q. is_home ((taken was pid worker).slots q)) was.ready ++ [])
      ∙ append-nil (filter (λ q. is_home ((taken was pid worker).slots q)) was.ready) ∙ queue_is);
  fresh = λ q there. false_is_true there;
  all = λ q home. among_left (was.ready ++ []) [] q (among_left was.ready [] q (listed q home));
}
  where
    gone : (q : ℕ) → q ≡ pid → is_home ((taken was pid worker).slots q) ≡ false
    gone q e = ap (λ (k : ℕ). is_home ((taken was pid worker).slots k)) e ∙ ap (λ s. is_home s) (slot_at was pid worker)

    stay : (q : ℕ) → is_among rest q ≡ true → is_home ((taken was pid worker).slots q) ≡ true
    stay q there =
        let other = rest_ready w pid rest list (same ∙ front) q there in
        ap (λ s. is_home s) (slot_other was pid worker q other.0) ∙ homes q ∙ other.1

    queue_is : filter (λ q. is_home ((taken was pid worker).slots q)) was.ready ≡ rest
    queue_is =
        ap (λ (xs : List ℕ). filter (λ q. is_home ((taken was pid worker).slots q)) xs) front
        ∙ ap (λ (b : Bool). cond b (pid ∷ filter (λ q. is_home ((taken was pid worker).slots q)) rest) (filter (λ q. is_home ((taken was pid worker).slots q)) rest)) (gone pid refl)
        ∙ filter_all (λ q. is_home ((taken was pid worker).slots q)) rest stay

    listed : (q : ℕ) → is_home ((taken was pid worker).slots q) ≡ true → is_among was.ready q ≡ true
    listed q home =
        let other : q ≢ pid = λ e. false_is_true (sym (gone q e) ∙ home) in
        ap (λ (xs : List ℕ). is_among xs q) (sym same)
        ∙ ready_listed w list q (sym (homes q) ∙ ap (λ s. is_home s) (sym (slot_other was pid worker q other)) ∙ home)

-- THE MIRROR

ready_not_away : (s : Stage) → s ≡ Ready → is_away s ≡ false
ready_not_away s is = ap (λ (t : Stage). is_away t) is

take-mirrors : {E P : Type 0} {engines : Meaning E P} {setting : Setting P} (births : List Birth) (w : World) (was : Held E) (ends : List EndMemory) (pid worker : ℕ) (rest : List ℕ)
    → Mirrors engines setting w was ends → (w.process pid).stage ≡ Ready → AreInOrder (next births w (Take worker pid))
    → Mirrors engines setting (taken_away w worker pid) (record (taken was pid worker) { ready = rest }) ends
take-mirrors {E = E} {engines = engines} {setting = setting} births w was ends pid worker rest m ready order = record {
  order = record { undrawn = order.undrawn; drawn = order.drawn; each = order.each; over = order.over; names = order.names; links = order.links };
  unmet = all-one w (taken_away w worker pid) pid (record (w.process pid) { stage = Out worker }) (λ q x. NothingWanted x.stage x.mail) alters tt (λ q other. m.unmet q);
  programs = all-one w (taken_away w worker pid) pid (record (w.process pid) { stage = Out worker }) (λ q x. is_born x.stage ≡ true → HasProgram setting.programs x.start) alters
      (λ born. m.programs pid (ap (λ (s : Stage). is_born s) ready)) (λ q other. m.programs q);
  slots = all-one w (taken_away w worker pid) pid (record (w.process pid) { stage = Out worker }) (λ q x. SlotFits engines setting.programs x ((taken was pid worker).slots q)) alters
      (subst (λ (s : Slot E). SlotFits engines setting.programs (record (w.process pid) { stage = Out worker }) s) (sym (slot_at was pid worker)) refl)
      (λ q other. subst (λ (s : Slot E). SlotFits engines setting.programs (w.process q) s) (sym (slot_other was pid worker q other)) (m.slots q));
  mail = all-one w (taken_away w worker pid) pid (record (w.process pid) { stage = Out worker }) (λ q x. x.mail ≡ was.mail q) alters (m.mail pid) (λ q other. m.mail q);
  deadlines = all-one w (taken_away w worker pid) pid (record (w.process pid) { stage = Out worker }) (λ q x. x.deadline ≡ was.deadlines q) alters (m.deadlines pid) (λ q other. m.deadlines q);
  names = m.names;
  numbers = m.numbers;
  births = m.births;
  drawn = m.drawn;
  unended = ap (λ (test : ℕ → Bool). length (filter (λ q. not (test q)) (up_to w.numbers_drawn))) (λ i q. still q i) ∙ m.unended;
  out = (counted_more w.process (taken_away w worker pid).process pid (ready_not_away (w.process pid).stage ready) (ap (λ (x : Process). is_away x.stage) alters.at) alters.others w.numbers_drawn).1
      drawn.0 drawn.1 ∙ ap (λ (n : ℕ). n + 1) m.out;
  sends = m.sends;
  time = m.time;
  over = m.over;
  streams = m.streams;
  closed = m.closed;
  ended = ends_stay w.process (taken_away w worker pid).process w.exits m.ended stay;
  memories = memories_stay setting w.process (taken_away w worker pid).process w.exits ends m.ended stay m.memories;
  room = m.room;
}
  where
    alters : Alters w (taken_away w worker pid) pid (record (w.process pid) { stage = Out worker })
    alters = alters-with w pid (record (w.process pid) { stage = Out worker })

    drawn : (0 < pid) × (pid ≤ w.numbers_drawn)
    drawn = there_drawn w pid m.order (ap (λ (s : Stage). is_there s) ready)

    still : (q : ℕ) → is_ended ((taken_away w worker pid).process q).stage ≡ is_ended (w.process q).stage
    still =
        all-one w (taken_away w worker pid) pid (record (w.process pid) { stage = Out worker }) (λ q x. is_ended x.stage ≡ is_ended (w.process q).stage) alters
        (ap (λ (s : Stage). is_ended s) (sym ready)) (λ q other. refl)

    stay : (q : ℕ) → is_ended (w.process q).stage ≡ true → (taken_away w worker pid).process q ≡ w.process q
    stay q e = alters.others q (λ same. false_is_true (sym (ap (λ (k : ℕ). is_ended (w.process k).stage) same ∙ ap (λ (s : Stage). is_ended s) ready) ∙ e))

-- TAKE. The node stands for the journal with the Take.
pub stands-take : {E P : Type 0} {engines : Meaning E P} {setting : Setting P} (old new : Book) (was : Held E) (rest : List ℕ) (pid worker : ℕ)
    → ((book : Book) → IsTold book → IsSound (told book))
    → ((terms : Option Terms) (births : List Birth) (w : World) (entry : Entry) → IsSound w → Allowed terms births w entry → IsSound (next births w entry))
    → StandsFor engines setting old (told old) was → was.over ≡ false → was.ready ≡ pid ∷ rest → Records old new (Take worker pid) [] [] → was.out + 3 ≤ old.entry_room
    → StandsFor engines setting new (told new) (record (taken was pid worker) { ready = rest })
stands-take {engines = engines} {setting = setting} old new was rest pid worker told_sound kept stands going front records room =
    let w : World = told old in
    let m = stands.mirrors in
    let is = record (taken was pid worker) { ready = rest } in
    let terms : Option Terms = Some (terms_of setting) in
    let sound : IsSound w = told_sound old (legal_tells (terms_of setting) old stands.run.begins.numbered stands.run.legal) in
    let first : slice_get w.ready 0 ≡ Some pid = ap (λ (xs : List ℕ). slice_get xs 0) (stands.ready ∙ front) in
    let allowed : Allowed terms new.births w (Take worker pid) = (m.over ∙ going, first) in
    let homes : (q : ℕ) → is_home (was.slots q) ≡ is_ready (w.process q).stage =
    λ q. home_ready engines setting.programs (w.process q) (was.slots q) (m.slots q) (stands.performed q) in
    let mirrors = take-mirrors new.births w was old.ends pid worker rest m (front_ready w pid rest sound.ready (stands.ready ∙ front))
    (kept terms new.births w (Take worker pid) sound allowed).processes in
    stands-next old new was is (taken_away w worker pid) (Take worker pid) [] [] stands records allowed tt refl
    (subst (λ (es : List EndMemory). Mirrors engines setting (taken_away w worker pid) is es) (sym (records.ends_are ∙ append-nil old.ends)) mirrors)
    (sym m.births ∙ sym stands.run.legal.births ∙ ap (λ (bs : List Birth). length bs) (sym (records.births_are ∙ append-nil old.births)))
    (take-queues w was pid worker rest sound.ready stands.ready front homes)
    (sym stands.row)
    (each_slot was pid worker (λ q s. is_giving s ≡ false) refl (λ q other. stands.performed q))
    (rw going (enough was.out old.entry_room new.entry_room room records.entry_room))
  where
    enough : (n a b : ℕ) → n + 3 ≤ a → b + 1 ≡ a → n + 1 + 1 ≤ b
    enough n a b most e = omega (arith, most, e)
