use Rattle.std.proofs.Common.{◌≡◌, ◌≢◌, ◌<◌, ◌≤◌, ℕ, zero, suc, ◌+◌, ◌-◌, ◌&&◌, List, [], ◌∷◌, ◌++◌, length, filter, cond, not, vec_capacity, Option, Some, None, Bool, true, false, nat_eq, nat_le}
use Rattle.std.proofs.Common.{IsSomeAnd, if◌then◌else◌, is_some, refl, arith, sym, ◌∙◌, ap, subst, ◌⊎◌, inl, inr}
use Rattle.std.proofs.Math.Path.{fun_ext}
use Rattle.std.proofs.lemmas.Bool.Decides.{eqb_tells, leb_tells, nat_tests}
use Rattle.std.proofs.lemmas.List.Elements.{filter-append}
use Rattle.std.specs.Cmp.{nat_cmp_total}
use Rattle.std.specs.FinMap.{FinMap, get, remove, len, contains_key, len-remove, get-empty, empty_of_len}
use Rattle.std.specs.Option.{option_map_or}
use Rattle.std.specs.Ordering.{nat_cmp}
use Rattle.resource_table.specs.Steps.{Told}
use Rattle.run_queue.specs.Schedule.{IsDue, IsLeastDue}
use Rattle.world_rules.specs.declared.life.Ended.{Ended as EndMemory}
use Rattle.world_rules.specs.Lives.{Setting}
use Rattle.world_rules.specs.Time.{all_timed_out, due_processes, is_due, timed_out}
use Rattle.world_rules.specs.World.{World, Process, is_waiting, up_to}
use Rattle.node_state.specs.Seats.{Meaning, Seat}
use Rattle.node_mirror.specs.Slots.{Slot, Home, Asleep, Gone, is_giving}
use Rattle.node_mirror.specs.Held.{Held, Mirrors}
use Rattle.node_mirror.specs.Steps.{home, replaced}
use Rattle.node_mirror.proofs.Clocks.{late_last}
use Rattle.node_mirror.proofs.Homes.{lateness_mirrors}
use Rattle.process_store.specs.declared.store.Store.{Store}
use Rattle.process_store.specs.Holds.{held_of, kept_of, place_at, slot_in}
use Rattle.process_store.specs.Keeps.{StoreKeeps}
use Rattle.process_store.specs.Late.{ComesLate}
use Rattle.process_store.specs.PassOn.{PassesOn}
use Rattle.process_store.specs.Performing.{GivesStay, MayBeWoken, StayGone, StaysBeside}
use Rattle.process_store.proofs.Emptying.{date_gone, date_other}
use Rattle.process_store.proofs.Passing.{passes_stay, passes_then_stays}
use Rattle.process_store.proofs.Sets.{is_within}
use Rattle.process_store.proofs.StrikingAll.{mirrors_becomes}

-- The waits whose deadline has come are over, one after another.

-- the deadline of this number has come
abbrev pub is_due_at : {E O P S L : Type 0} → Store E O P S L → ℕ → Bool
is_due_at store pid = option_map_or (λ (d : ℕ). nat_le d store.time) (get store.queue.deadlines pid) false

-- those up to this number whose deadline has come
abbrev pub due_up_to : {E O P S L : Type 0} → Store E O P S L → ℕ → List ℕ
due_up_to store n = filter (is_due_at store) (up_to n)

-- DUE OR NOT

due_true : (o : Option ℕ) (now : ℕ) → IsSomeAnd o (λ at. at ≤ now) → option_map_or (λ (d : ℕ). nat_le d now) o false ≡ true
due_true None now is = absurd is
due_true (Some d) now is = grind (arith, nat_tests, is)

due_false : (o : Option ℕ) (now : ℕ) → (IsSomeAnd o (λ at. at ≤ now) → ⊥) → option_map_or (λ (d : ℕ). nat_le d now) o false ≡ false
due_false None now isnt = refl
due_false (Some d) now isnt = by (leb_tells d now)
  where
    by : ((nat_le d now ≡ true) × (d ≤ now)) ⊎ ((nat_le d now ≡ false) × (now < d)) → nat_le d now ≡ false
    by (inl h) = absurd (isnt h.1)
    by (inr h) = h.0

-- LISTS

none_more : (test : ℕ → Bool) (low k : ℕ) → ((q : ℕ) → low < q → q ≤ low + k → test q ≡ false) → filter test (up_to (low + k)) ≡ filter test (up_to low)
none_more test low zero none = ap (λ (n : ℕ). filter test (up_to n)) (let e : low + 0 ≡ low = omega arith in e)
none_more test low (suc k) none =
    let next : low + suc k ≡ suc (low + k) = omega arith in
    ap (λ (n : ℕ). filter test (up_to n)) next
    ∙ filter-append test (up_to (low + k)) (suc (low + k) ∷ [])
    ∙ ap (λ (b : Bool). filter test (up_to (low + k)) ++ cond b (suc (low + k) ∷ []) []) (none (suc (low + k)) (omega arith) (omega arith))
    ∙ append-none (filter test (up_to (low + k)))
    ∙ none_more test low k (λ q above below. none q above (omega (arith, below)))
  where
    append-none : (xs : List ℕ) → xs ++ [] ≡ xs
    append-none [] = refl
    append-none (x ∷ xs) = ap (λ ys. x ∷ ys) (append-none xs)

-- none is there between two numbers
none_between : (test : ℕ → Bool) (low high : ℕ) → low ≤ high → ((q : ℕ) → low < q → q ≤ high → test q ≡ false) → filter test (up_to high) ≡ filter test (up_to low)
none_between test low high less none =
    let whole : low + (high - low) ≡ high = omega (arith, less) in
    sym (ap (λ (n : ℕ). filter test (up_to n)) whole) ∙ none_more test low (high - low) (λ q above below. none q above (omega (arith, below, whole)))

-- one is there above a number, and none between them
one_more : (test : ℕ → Bool) (low pid : ℕ) → low < pid → test pid ≡ true → ((q : ℕ) → low < q → q < pid → test q ≡ false) → filter test (up_to pid) ≡ filter test (up_to low) ++ pid ∷ []
one_more test low zero less is none = absurd (omega (arith, less))
one_more test low (suc n) less is none =
    filter-append test (up_to n) (suc n ∷ [])
    ∙ ap (λ (b : Bool). filter test (up_to n) ++ cond b (suc n ∷ []) []) is
    ∙ ap (λ xs. xs ++ suc n ∷ []) (none_between test low n (omega (arith, less)) (λ q above below. none q above (omega (arith, below))))

some_more : (xs : List ℕ) (x : ℕ) → nat_eq (length (xs ++ x ∷ [])) 0 ≡ false
some_more [] x = refl
some_more (y ∷ xs) x = by (eqb_tells (suc (length (xs ++ x ∷ []))) 0)
  where
    by : ((nat_eq (suc (length (xs ++ x ∷ []))) 0 ≡ true) × (suc (length (xs ++ x ∷ [])) ≡ 0)) ⊎ ((nat_eq (suc (length (xs ++ x ∷ []))) 0 ≡ false) × (suc (length (xs ++ x ∷ [])) ≢ 0))
        → nat_eq (suc (length (xs ++ x ∷ []))) 0 ≡ false
    by (inl same) = let e = same.1 in absurd (omega (arith, e))
    by (inr differs) = differs.0

-- a fact of all of which one was replaced
each_replaced : {X : Type 0} (F : ℕ → X → Type 0) (f : ℕ → X) (pid : ℕ) (x : X) → ((q : ℕ) → q ≢ pid → F q (f q)) → F pid x → (q : ℕ) → F q (replaced f pid x q)
each_replaced {X = X} F f pid x others here q = by (eqb_tells q pid)
  where
    by : ((nat_eq q pid ≡ true) × (q ≡ pid)) ⊎ ((nat_eq q pid ≡ false) × (q ≢ pid)) → F q (replaced f pid x q)
    by (inl same) = subst (λ (b : Bool). F q (if b then x else f q)) (sym same.0) (subst (λ (n : ℕ). F n x) (sym same.1) here)
    by (inr differs) = subst (λ (b : Bool). F q (if b then x else f q)) (sym differs.0) (others q differs.1)

-- there is one deadline less
pub fewer_dates : (dates less : FinMap nat_cmp ℕ) (now pid : ℕ) → less ≡ remove dates pid → IsDue dates now pid → len less < len dates
fewer_dates dates less now pid is due = by (contains_key dates pid) refl
  where
    some : (o : Option ℕ) → IsSomeAnd o (λ at. at ≤ now) → is_some o ≡ true
    some None is = absurd is
    some (Some d) is = refl

    there : is_some (get dates pid) ≡ true
    there = some (get dates pid) due

    not_none : len dates ≡ 0 → ⊥
    not_none none =
        let empty : is_some (get dates pid) ≡ false = ap is_some (ap (λ m. get m pid) (empty_of_len dates none) ∙ get-empty nat_cmp pid) in
        let full = there in
        let h : ⊥ = cc in
        h

    fewer : (n : ℕ) → len dates ≡ n → len less ≡ n - 1 → len less < len dates
    fewer zero e l = absurd (not_none e)
    fewer (suc n) e l = omega (arith, e, l)

    by : (b : Bool) → contains_key dates pid ≡ b → len less < len dates
    by true e = fewer (len dates) refl (ap len is ∙ len-remove nat_cmp_total dates pid ∙ ap (λ (b : Bool). cond b (len dates - 1) (len dates)) e)
    by false e =
        let full = there in
        let none : is_some (get dates pid) ≡ false = e in
        let h : ⊥ = cc in
        absurd h

-- Those up to a number have come home whose deadline had come.
pub record AreLate {E O P S L : Type 0} (engines : Meaning E P) (old new : Store E O P S L) (some : Bool) : Type 0 where
  pub last : ℕ
  pub most : last + 1 ≤ length old.places.items
  pub past : (q : ℕ) → q ≤ last → IsDue new.queue.deadlines old.time q → ⊥
  pub beyond : (q : ℕ) → last < q → get new.queue.deadlines q ≡ get old.queue.deadlines q
  pub mirrors : (setting : Setting P) (w : World) (ends : List EndMemory) → Mirrors engines setting w (held_of old) ends → Mirrors engines setting (all_timed_out w (due_up_to old last)) (held_of new) ends
  pub tells_some : nat_eq (length (due_up_to old last)) 0 ≡ not some

-- number 0 has no deadline that has come: nobody has it, in any world
abbrev pub IsZeroUndue : {E O P S L : Type 0} → Store E O P S L → Type 0
IsZeroUndue store = IsDue store.queue.deadlines store.time 0 → ⊥

-- WAKES DUE. They have come home one after another; all else is as this leaves it.
pub record WakesDue {E O P S L : Type 0} (engines : Meaning E P) (tells : Told S) (old new : Store E O P S L) (some : Bool) : Type 0 where
  pub keeps : StoreKeeps new
  pub waits : (pid : ℕ) → MayBeWoken engines.phase engines.memory (place_at new pid)
  pub late : IsZeroUndue old → AreLate engines old new some
  pub gives_stay : GivesStay old new
  pub stay_gone : StayGone old new
  pub beside : StaysBeside old new
  pub giver : new.giver ≡ old.giver
  pub streams : PassesOn tells (kept_of old) (kept_of new) [] []

pub due_begins : {E O P S L : Type 0} (engines : Meaning E P) (tells : Told S) (old : Store E O P S L) → StoreKeeps old → ((pid : ℕ) → MayBeWoken engines.phase engines.memory (place_at old pid))
    → WakesDue engines tells old old false
due_begins engines tells old k waits = record {
  keeps = k;
  waits = waits;
  late = λ zero_undue. record {
    last = 0;
    most = k.some;
    past = λ q less due. let none : q ≡ 0 = omega (arith, less) in zero_undue (subst (λ (n : ℕ). IsDue old.queue.deadlines old.time n) none due);
    beyond = λ q less. refl;
    mirrors = λ setting w ends m. m;
    tells_some = refl;
  };
  gives_stay = λ q giving. giving;
  stay_gone = λ q gone. gone;
  beside = (refl, refl, refl, refl);
  giver = refl;
  streams = passes_stay tells old old refl refl refl;
}

module _ {E O P S L : Type 0} (engines : Meaning E P) (tells : Told S) (old mid new : Store E O P S L) (some : Bool) (pid : ℕ) (before : WakesDue engines tells old mid some)
    (least : IsLeastDue mid.queue.deadlines mid.time pid) (late : ComesLate engines mid new pid) (dates : new.queue.deadlines ≡ remove mid.queue.deadlines pid) (beside : StaysBeside mid new) where
  same_time : mid.time ≡ old.time
  same_time = ap (λ s. s.time) before.beside.0

  due_now : IsDue mid.queue.deadlines old.time pid
  due_now = subst (λ (now : ℕ). IsDue mid.queue.deadlines now pid) same_time least.due

  abbrev after : Slot E
  after = Home (record late.seat { engine = late.engine })

  slots : (q : ℕ) → place_at new q ≡ replaced (place_at mid) pid after q
  slots q = ap (λ h. h.slots q) late.held

  each_slot : (F : ℕ → Slot E → Type 0) → ((q : ℕ) → q ≢ pid → F q (place_at mid q)) → F pid after → (q : ℕ) → F q (place_at new q)
  each_slot F others here q = subst (λ (s : Slot E). F q s) (sym (slots q)) (each_replaced F (place_at mid) pid after others here q)

  within : pid + 1 ≤ length old.places.items
  within =
      let there = is_within (λ o. slot_in o ≡ Asleep late.seat late.ask) mid.places.items pid late.waited (λ none. let h : ⊥ = cc in h) in
      let long = before.beside.1 in
      omega (arith, there, long)

  late_on : AreLate engines old mid some → AreLate engines old new true
  late_on a = record {
    last = pid;
    most = within;
    past = λ q less due. by_number q due (eqb_tells q pid) less;
    beyond = λ q less. ap (λ m. get m q) dates ∙ date_other mid.queue.deadlines pid q (apart q less) ∙ a.beyond q (omega (arith, above, less));
    mirrors = λ setting w ends m.
        let done = due_up_to old a.last in
        let v = timed_out ((all_timed_out w done).process pid).stage (all_timed_out w done) pid in
        let now : Mirrors engines setting v (held_of new) ends =
        mirrors_becomes engines setting v new (home (held_of mid) pid (record late.seat { engine = late.engine })) ends late.held
        (lateness_mirrors {engines = engines} {setting = setting} (all_timed_out w done) (held_of mid) ends pid late.seat late.ask late.engine (a.mirrors setting w ends m) late.waited late.told) in
        subst (λ (u : World). Mirrors engines setting u (held_of new) ends) (sym (ap (λ pids. all_timed_out w pids) list ∙ late_last w done pid)) now;
    tells_some = ap (λ (xs : List ℕ). nat_eq (length xs) 0) list ∙ some_more (due_up_to old a.last) pid;
  }
    where
      above : a.last < pid
      above = by (leb_tells pid a.last)
        where
          by : ((nat_le pid a.last ≡ true) × (pid ≤ a.last)) ⊎ ((nat_le pid a.last ≡ false) × (a.last < pid)) → a.last < pid
          by (inl h) = absurd (a.past pid h.1 due_now)
          by (inr h) = h.1

      apart : (q : ℕ) → pid < q → q ≢ pid
      apart q less same = let e : q ≡ pid = same in omega (arith, less, e)

      list : due_up_to old pid ≡ due_up_to old a.last ++ pid ∷ []
      list = one_more (is_due_at old) a.last pid above
          (due_true (get old.queue.deadlines pid) old.time (subst (λ (o : Option ℕ). IsSomeAnd o (λ at. at ≤ old.time)) (a.beyond pid above) due_now))
          (λ q over under. due_false (get old.queue.deadlines q) old.time (λ due.
          let mid_due : IsDue mid.queue.deadlines old.time q = subst (λ (o : Option ℕ). IsSomeAnd o (λ at. at ≤ old.time)) (sym (a.beyond q over)) due in
          let first : pid ≤ q = least.least q (subst (λ (now : ℕ). IsDue mid.queue.deadlines now q) (sym same_time) mid_due) in
          omega (arith, first, under)))

      by_number : (q : ℕ) → IsDue new.queue.deadlines old.time q → ((nat_eq q pid ≡ true) × (q ≡ pid)) ⊎ ((nat_eq q pid ≡ false) × (q ≢ pid)) → q ≤ pid → ⊥
      by_number q due (inl same) less =
          let gone : get new.queue.deadlines q ≡ None = ap (λ m. get m q) dates ∙ ap (λ (n : ℕ). get (remove mid.queue.deadlines pid) n) same.1 ∙ date_gone mid.queue.deadlines pid in
          subst (λ (o : Option ℕ). IsSomeAnd o (λ at. at ≤ old.time)) gone due
      by_number q due (inr other) less =
          let there : IsDue mid.queue.deadlines old.time q =
          subst (λ (o : Option ℕ). IsSomeAnd o (λ at. at ≤ old.time)) (ap (λ m. get m q) dates ∙ date_other mid.queue.deadlines pid q other.1) due in
          let first : pid ≤ q = least.least q (subst (λ (now : ℕ). IsDue mid.queue.deadlines now q) (sym same_time) there) in
          other.1 (omega (arith, first, less))

  pub due_goes_on : StoreKeeps new → new.giver ≡ mid.giver → PassesOn tells (kept_of mid) (kept_of new) [] [] → WakesDue engines tells old new true
  due_goes_on k giver streams = record {
    keeps = k;
    waits = each_slot (λ q s. MayBeWoken engines.phase engines.memory s) (λ q differs. before.waits q) tt;
    late = λ zero_undue. late_on (before.late zero_undue);
    gives_stay = λ q giving. before.gives_stay q (each_slot (λ n s. is_giving s ≡ true → is_giving (place_at mid n) ≡ true) (λ n differs e. e) (λ e. let h : ⊥ = cc in absurd h) q giving);
    stay_gone = λ q gone. each_slot (λ n s. place_at mid n ≡ Gone → s ≡ Gone) (λ n differs e. e) (λ e. let w = late.waited in let h : ⊥ = cc in absurd h) q (before.stay_gone q gone);
    beside = (
      beside.0 ∙ ap {A = Store E O P S L} {B = Store E O P S L} (λ s. record s {
        places = new.places;
        mail = new.mail;
        queue = new.queue;
        came = new.came;
        giver = new.giver;
        sends = new.sends;
        closed = new.closed;
      }) before.beside.0,
      beside.1 ∙ before.beside.1,
      beside.2 ∙ before.beside.2,
      beside.3 ∙ before.beside.3,
    );
    giver = giver ∙ before.giver;
    streams = passes_then_stays tells (kept_of old) (kept_of mid) (kept_of new) [] [] before.streams streams;
  }

-- AT THE END

dates_wait : (p : Process) (d : ℕ) → p.deadline ≡ Some d → (is_waiting p.stage ≡ false → p.deadline ≡ None) → is_waiting p.stage ≡ true
dates_wait p d some untimed = by (is_waiting p.stage) refl
  where
    by : (b : Bool) → is_waiting p.stage ≡ b → is_waiting p.stage ≡ true
    by true e = e
    by false e = let none = untimed e in let h : ⊥ = cc in absurd h

due_same : (p : Process) (t now : ℕ) (date : Option ℕ) → p.deadline ≡ date → t ≡ now → (is_waiting p.stage ≡ false → p.deadline ≡ None) → is_due t p ≡ option_map_or (λ (d : ℕ). nat_le d now) date false
due_same p t now date dated time untimed =
    ap (λ (n : ℕ). is_due n p) time ∙ by (is_waiting p.stage) refl ∙ ap (λ (o : Option ℕ). option_map_or (λ (d : ℕ). nat_le d now) o false) dated
  where
    by : (b : Bool) → is_waiting p.stage ≡ b → is_due now p ≡ option_map_or (λ (d : ℕ). nat_le d now) p.deadline false
    by true e = ap (λ (b : Bool). b && option_map_or (λ (d : ℕ). nat_le d now) p.deadline false) e
    by false e =
        ap (λ (b : Bool). b && option_map_or (λ (d : ℕ). nat_le d now) p.deadline false) e
        ∙ sym (ap (λ (o : Option ℕ). option_map_or (λ (d : ℕ). nat_le d now) o false) (untimed e))

undrawn_zero : {E O P S L : Type 0} (engines : Meaning E P) (setting : Setting P) (w : World) (old : Store E O P S L) (ends : List EndMemory) → Mirrors engines setting w (held_of old) ends → IsZeroUndue old
undrawn_zero engines setting w old ends m = by (get old.queue.deadlines 0) refl
  where
    by : (o : Option ℕ) → get old.queue.deadlines 0 ≡ o → IsSomeAnd o (λ at. at ≤ old.time) → ⊥
    by None e due = due
    by (Some d) e due =
        let waits = dates_wait (w.process 0) d (m.deadlines 0 ∙ e) (m.order.each 0).deadline in
        let nobody_there = m.order.undrawn 0 refl in
        let no : is_waiting (w.process 0).stage ≡ false = ap (λ p. is_waiting p.stage) nobody_there in
        let h : ⊥ = cc in
        h

pub due_ends : {E O P S L : Type 0} (engines : Meaning E P) (tells : Told S) (old mid new : Store E O P S L) (some : Bool) → WakesDue engines tells old mid some
    → ((pid : ℕ) → IsDue mid.queue.deadlines mid.time pid → ⊥) → new ≡ mid → (setting : Setting P) (w : World) (ends : List EndMemory) → Mirrors engines setting w (held_of old) ends
    → Mirrors engines setting (all_timed_out w (due_processes w)) (held_of new) ends × (nat_eq (length (due_processes w)) 0 ≡ not some)
due_ends {E = E} {O = O} {P = P} {S = S} {L = L} engines tells old mid new some before none same setting w ends m =
    let a = before.late (undrawn_zero engines setting w old ends m) in
    let drawn = m.numbers in
    let most = a.most in
    let same_time : mid.time ≡ old.time = ap (λ s. s.time) before.beside.0 in
    let low : a.last ≤ w.numbers_drawn = omega (arith, drawn, most) in
    let later : (q : ℕ) → a.last < q → q ≤ w.numbers_drawn → is_due_at old q ≡ false =
    λ q over under. due_false (get old.queue.deadlines q) old.time (λ due. none q
    (subst (λ (now : ℕ). IsDue mid.queue.deadlines now q) (sym same_time) (subst (λ (o : Option ℕ). IsSomeAnd o (λ at. at ≤ old.time)) (sym (a.beyond q over)) due))) in
    let list : due_processes w ≡ due_up_to old a.last =
    ap (λ (test : ℕ → Bool). filter test (up_to w.numbers_drawn))
    (fun_ext (λ q. due_same (w.process q) w.time old.time (get old.queue.deadlines q) (m.deadlines q) m.time (m.order.each q).deadline))
    ∙ none_between (is_due_at old) a.last w.numbers_drawn low later in (
      subst (λ (s : Store E O P S L). Mirrors engines setting (all_timed_out w (due_processes w)) (held_of s) ends) (sym same)
          (subst (λ (pids : List ℕ). Mirrors engines setting (all_timed_out w pids) (held_of mid) ends) (sym list) (a.mirrors setting w ends m)),
      ap (λ (xs : List ℕ). nat_eq (length xs) 0) list ∙ a.tells_some,
    )

-- whether there was one
pub was_some : (o : Option ℕ) (b : Bool) → b ≡ is_some o → b ≡ true → (pid : ℕ) × (o ≡ Some pid)
was_some None b e t = let h : ⊥ = cc in absurd h
was_some (Some pid) b e t = (pid, refl)

pub was_none : (o : Option ℕ) (b : Bool) → b ≡ is_some o → b ≡ false → o ≡ None
was_none None b e t = refl
was_none (Some pid) b e t = let h : ⊥ = cc in absurd h

-- what was true of a store is true of the same store
pub stays_giving : {E O P S L : Type 0} (old mid new : Store E O P S L) → new ≡ mid → GivesStay old mid → GivesStay old new
stays_giving {E = E} {O = O} {P = P} {S = S} {L = L} old mid new same stays = subst (λ (s : Store E O P S L). GivesStay old s) (sym same) stays

pub stays_gone : {E O P S L : Type 0} (old mid new : Store E O P S L) → new ≡ mid → StayGone old mid → StayGone old new
stays_gone {E = E} {O = O} {P = P} {S = S} {L = L} old mid new same stays = subst (λ (s : Store E O P S L). StayGone old s) (sym same) stays

pub stays_beside : {E O P S L : Type 0} (old mid new : Store E O P S L) → new ≡ mid → StaysBeside old mid → StaysBeside old new
stays_beside {E = E} {O = O} {P = P} {S = S} {L = L} old mid new same stays = subst (λ (s : Store E O P S L). StaysBeside old s) (sym same) stays
