use Rattle.std.proofs.Common.{◌≡◌, ◌<◌, ◌^◌, ◌≤◌, ◌*◌, ◌||◌, Bool, nat_eq, arith, ℕ, ◌+◌, List, [], ◌∷◌, ◌++◌, All, Contains, Option, Some, None, true, false, filter, nat_lt, slice_get, refl, sym, ◌∙◌, ap, subst, ◌⊎◌, inl, inr, append-nil}
use Rattle.std.proofs.lemmas.List.Elements.{Contains-append_left, Contains-append_right, Contains-append_cases, Contains-push, Contains-push_cases, All-append, All-cons, All-filter, All-weaker, All-contains, All-contains_itself}
use Rattle.resource_table.specs.Handles.{Handle, numbers_of, with_handle}
use Rattle.resource_table.specs.Steps.{Told}
use Rattle.resource_table.proofs.Numbers.{numbers_of-with_handle}
use Rattle.message_scratch.specs.Messages.{handles_in, slots_of}
use Rattle.host_port.specs.declared.ask.Ask.{Ask}
use Rattle.host_port.specs.Standing.{Phase}
use Rattle.host_port.specs.Steps.{IsAnswerable}
use Rattle.host_port.specs.declared.call.Call.{Call}
use Rattle.host_port.specs.declared.reply.Reply.{Reply}
use Rattle.world_rules.specs.declared.entry.Side.TheVariants as SideIs
use Rattle.world_rules.specs.declared.halt.Halt.{Halt}
use Rattle.world_rules.specs.Answers.{written_reply}
use Rattle.world_rules.specs.Book.{Book, AddsEntry}
use Rattle.world_rules.specs.Lives.{Setting}
use Rattle.std.proofs.lemmas.Bool.Decides.{nat_tests}
use Rattle.world_rules.specs.Part.{is_among}
use Rattle.process_table.proofs.Shutting.{contains-none}
use Rattle.world_rules.specs.Settled.{settled, StreamOpened}
use Rattle.world_rules.specs.Told.{told}
use Rattle.world_rules.specs.World.{Out}
use Rattle.node_state.specs.Seats.{Meaning, Seat}
use Rattle.node_state.specs.Slots.{Slot, Home, Away}
use Rattle.node_state.specs.Held.{Held, StandsFor}
use Rattle.node_state.specs.Fits.{Brought, TurnFits, IsAnswered, entry_of}
use Rattle.node_state.specs.Posts.{id_of}
use Rattle.node_state.specs.Changes.{Records, GivesBack, Counts, Closes}
use Rattle.host_calls.specs.declared.proc.Proc.{Proc}
use Rattle.host_calls.specs.Shown.{seat_of, hands_of, shown_part, brought_by, streams_by}
use Rattle.process_table.specs.declared.place.Place.TheVariants as PlaceIs
use Rattle.process_table.specs.Holds.{Fields, NodeKeeps, held_of, kept_of, streams_at}
use Rattle.process_table.proofs.Giving.{Comes, Fitting, StreamsLaw, ToldIsSound, is-given, gives-back, closes, hands-on, comes-keeps, records-alone}

-- A process is given back whose request the outside was asked.

abbrev pub PendingLaw : {E P : Type 0} → Meaning E P → Type 0
PendingLaw {E = E} {P = P} engines =
    (setting : Setting P) (old new : Book) (was is : Held E) (pid worker : ℕ) (brought : Brought E) →
    StandsFor engines setting old (told old) was → was.over ≡ false → was.slots pid ≡ Away worker → brought.side ≡ SideIs.Pending →
    TurnFits engines setting old.births (told old) worker pid brought →
    GivesBack was is pid (Home brought.seat) true (was.mail pid) (was.deadlines pid) →
    Counts was is was.sends was.time (was.row + 1) → Closes was is was.streams brought.shed →
    Records old new (entry_of worker pid brought SideIs.Pending) [] →
    StandsFor engines setting new (told new) is

abbrev pub AnswerLaw : {E P : Type 0} → Meaning E P → Type 0
AnswerLaw {E = E} {P = P} engines =
    (setting : Setting P) (old new : Book) (was is : Held E) (pid worker : ℕ) (brought : Brought E) (reply : Reply) (engine : E) →
    StandsFor engines setting old (told old) was → was.over ≡ false → was.slots pid ≡ Away worker → brought.side ≡ SideIs.Answer reply →
    TurnFits engines setting old.births (told old) worker pid brought →
    IsAnswered engines brought.seat.engine reply engine →
    GivesBack was is pid (Home (record brought.seat { engine = engine; owed = None })) true (was.mail pid) (was.deadlines pid) →
    Counts was is was.sends was.time 0 → Closes was is was.streams brought.shed →
    Records old new (entry_of worker pid brought (SideIs.Answer reply)) [] →
    StandsFor engines setting new (told new) is

abbrev pub OpeningLaw : {E P : Type 0} → Meaning E P → Type 0
OpeningLaw {E = E} {P = P} engines =
    (setting : Setting P) (old new : Book) (was is : Held E) (pid worker : ℕ) (brought : Brought E) (ask : Ask) (engine : E) →
    StandsFor engines setting old (told old) was → was.over ≡ false → was.slots pid ≡ Away worker → brought.side ≡ SideIs.Opened → brought.seat.owed ≡ Some ask →
    TurnFits engines setting old.births (told old) worker pid brought →
    IsAnswered engines brought.seat.engine (written_reply 0 (id_of ask) was.streams) engine →
    GivesBack was is pid (Home (record brought.seat { engine = engine; part = settled brought.seat.part (StreamOpened was.streams); owed = None })) true (was.mail pid) (was.deadlines pid) →
    Counts was is was.sends was.time 0 → Closes was is (was.streams + 1) brought.shed →
    Records old new (entry_of worker pid brought SideIs.Opened) [] →
    StandsFor engines setting new (told new) is

-- where nothing arrived, what stays in hand and in the mailbox is from the pool
pub hands-stay : {X : Type 0} (hands mail : List X) (x : X) → Contains (hands ++ mail) x → Contains (hands ++ mail ++ []) x
hands-stay hands mail x has = subst (λ ms. Contains ms x) (sym (append-nil (hands ++ mail))) has

module _ {E O P S L : Type 0} {engines : Meaning E P} {may_ask : P → ℕ → Type 0} {tells : Told S} {setting : Setting P} (streams_law : StreamsLaw engines tells) (sounds : ToldIsSound) where
  pub node-pending : PendingLaw engines → (old new : Book) (f g : Fields E O P S L) (worker : ℕ) (proc : Proc E O P S L) (shed : List (Handle S)) (calls : List Call) (halt : Halt)
      → NodeKeeps engines may_ask tells setting old f → ((told old).process proc.start.pid).stage ≡ Out worker
      → Fitting engines tells setting old worker proc.start.pid (brought_by proc calls halt SideIs.Pending) (streams_by proc None)
      → Comes f g proc.start.pid (PlaceIs.Home (record proc { shed = shed })) true ((held_of f).mail proc.start.pid) (streams_at (slice_get f.mail proc.start.pid)) ((held_of f).deadlines proc.start.pid) f.streams
      proc.shed
      → Counts (held_of f) (held_of g) f.sends f.time (f.row + 1)
      → AddsEntry old new (entry_of worker proc.start.pid (brought_by proc calls halt SideIs.Pending) SideIs.Pending)
      → NodeKeeps engines may_ask tells setting new g
  node-pending law old new f g worker proc shed calls halt keeps out fitting comes counts adds =
      let pid : ℕ = proc.start.pid in
      let brought : Brought E = brought_by proc calls halt SideIs.Pending in
      let given = is-given sounds old f pid worker keeps out in
      let records = records-alone old new (entry_of worker pid brought SideIs.Pending) adds in
      comes-keeps streams_law old new worker brought (streams_by proc None) SideIs.Pending [] keeps given.out comes fitting ∣ inl refl ∣₁ records
      (law setting old new (held_of f) (held_of g) pid worker brought keeps.stands given.going given.away refl fitting.fits (gives-back given.out comes) counts (closes comes) records)
      (hands-on tells (hands_of proc ++ streams_at (slice_get f.mail pid) ++ []) proc.shed given.out comes (hands-stay (hands_of proc) (streams_at (slice_get f.mail pid))) (λ handle has. ∣ inl has ∣₁))

  pub node-answered : AnswerLaw engines → (old new : Book) (f g : Fields E O P S L) (worker : ℕ) (proc : Proc E O P S L) (shed : List (Handle S)) (engine : E) (calls : List Call) (halt : Halt) (reply : Reply)
      → NodeKeeps engines may_ask tells setting old f → ((told old).process proc.start.pid).stage ≡ Out worker
      → Fitting engines tells setting old worker proc.start.pid (brought_by proc calls halt (SideIs.Answer reply)) (streams_by proc None)
      → IsAnswered engines proc.engine reply engine
      → Comes f g proc.start.pid (PlaceIs.Home (record proc { shed = shed; engine = engine; owed = None })) true ((held_of f).mail proc.start.pid) (streams_at (slice_get f.mail proc.start.pid))
      ((held_of f).deadlines proc.start.pid) f.streams proc.shed
      → Counts (held_of f) (held_of g) f.sends f.time 0
      → AddsEntry old new (entry_of worker proc.start.pid (brought_by proc calls halt (SideIs.Answer reply)) (SideIs.Answer reply))
      → NodeKeeps engines may_ask tells setting new g
  node-answered law old new f g worker proc shed engine calls halt reply keeps out fitting answered comes counts adds =
      let pid : ℕ = proc.start.pid in
      let brought : Brought E = brought_by proc calls halt (SideIs.Answer reply) in
      let given = is-given sounds old f pid worker keeps out in
      let records = records-alone old new (entry_of worker pid brought (SideIs.Answer reply)) adds in
      comes-keeps streams_law old new worker brought (streams_by proc None) (SideIs.Answer reply) [] keeps given.out comes fitting ∣ inl refl ∣₁ records
      (law setting old new (held_of f) (held_of g) pid worker brought reply engine keeps.stands given.going given.away refl fitting.fits answered (gives-back given.out comes) counts (closes comes)
      records)
      (hands-on tells (hands_of proc ++ streams_at (slice_get f.mail pid) ++ []) proc.shed given.out comes (hands-stay (hands_of proc) (streams_at (slice_get f.mail pid))) (λ handle has. ∣ inl has ∣₁))

  pub node-opened : OpeningLaw engines → (old new : Book) (f g : Fields E O P S L) (worker : ℕ) (proc : Proc E O P S L) (shed table : List (Handle S)) (engine : E) (calls : List Call) (halt : Halt) (ask : Ask)
      (stream : S)
      → NodeKeeps engines may_ask tells setting old f → ((told old).process proc.start.pid).stage ≡ Out worker
      → Fitting engines tells setting old worker proc.start.pid (brought_by proc calls halt SideIs.Opened) (streams_by proc (Some stream))
      → proc.owed ≡ Some ask → table ≡ with_handle (record { number = f.streams; stream = stream }) proc.table
      → IsAnswered engines proc.engine (written_reply 0 (id_of ask) f.streams) engine
      → Comes f g proc.start.pid (PlaceIs.Home (record proc { shed = shed; engine = engine; owed = None; table = table })) true ((held_of f).mail proc.start.pid)
      (streams_at (slice_get f.mail proc.start.pid)) ((held_of f).deadlines proc.start.pid) (f.streams + 1) proc.shed
      → Counts (held_of f) (held_of g) f.sends f.time 0
      → AddsEntry old new (entry_of worker proc.start.pid (brought_by proc calls halt SideIs.Opened) SideIs.Opened)
      → NodeKeeps engines may_ask tells setting new g
  node-opened law old new f g worker proc shed table engine calls halt ask stream keeps out fitting owed is answered comes counts adds =
      let pid : ℕ = proc.start.pid in
      let brought : Brought E = brought_by proc calls halt SideIs.Opened in
      let handle : Handle S = record { number = f.streams; stream = stream } in
      let given = is-given sounds old f pid worker keeps out in
      let records = records-alone old new (entry_of worker pid brought SideIs.Opened) adds in
      let numbers = ap (λ hs. numbers_of hs) is ∙ numbers_of-with_handle handle proc.table in
      let gives : GivesBack (held_of f) (held_of g) pid (Home (record (seat_of proc) { engine = engine; part = settled (shown_part proc) (StreamOpened f.streams); owed = None })) true
      ((held_of f).mail pid) ((held_of f).deadlines pid) =
      subst (λ ns. GivesBack (held_of f) (held_of g) pid (Home (record (seat_of proc) { engine = engine; part = record (shown_part proc) { handles = ns }; owed = None })) true ((held_of f).mail pid)
      ((held_of f).deadlines pid)) numbers (gives-back given.out comes) in
      let drawn : (told old).streams ≡ f.streams = keeps.stands.mirrors.streams in
      comes-keeps streams_law old new worker brought (streams_by proc (Some stream)) SideIs.Opened [] keeps given.out comes fitting ∣ inl refl ∣₁ records
      (law setting old new (held_of f) (held_of g) pid worker brought ask engine keeps.stands given.going given.away refl owed fitting.fits answered gives counts (closes comes) records)
      (hands-on tells (hands_of proc ++ streams_at (slice_get f.mail pid) ++ record { number = (told old).streams; stream = stream } ∷ []) proc.shed given.out comes
      (opened_from proc.table table (handles_in (slots_of proc.scratch)) (streams_at (slice_get f.mail pid)) handle (record { number = (told old).streams; stream = stream }) is
      (ap (λ n. record { number = n; stream = stream }) drawn))
      (λ handle has. ∣ inl has ∣₁))
    where
      opened_from : (old_table new_table in_scratch in_mail : List (Handle S)) (opened other : Handle S) → new_table ≡ with_handle opened old_table → other ≡ opened → (h : Handle S)
          → Contains ((new_table ++ in_scratch) ++ in_mail) h → Contains ((old_table ++ in_scratch) ++ in_mail ++ other ∷ []) h
      opened_from old_table new_table in_scratch in_mail opened other is same h has =
          let pool : List (Handle S) = (old_table ++ in_scratch) ++ in_mail ++ other ∷ [] in
          let in_hand : (x : Handle S) → Contains (old_table ++ in_scratch) x → Contains pool x =
          λ x c. Contains-append_left ((old_table ++ in_scratch) ++ in_mail) (other ∷ []) x (Contains-append_left (old_table ++ in_scratch) in_mail x c) in
          let of_table : All (Contains pool) old_table = All-weaker (Contains old_table) (Contains pool) (λ x c. in_hand x (Contains-append_left old_table in_scratch x c)) old_table (All-contains_itself old_table) in
          let of_scratch : All (Contains pool) in_scratch = All-weaker (Contains in_scratch) (Contains pool) (λ x c. in_hand x (Contains-append_right old_table in_scratch x c)) in_scratch (All-contains_itself in_scratch) in
          let of_mail : All (Contains pool) in_mail = All-weaker (Contains in_mail) (Contains pool)
          (λ x c. Contains-append_left ((old_table ++ in_scratch) ++ in_mail) (other ∷ []) x (Contains-append_right (old_table ++ in_scratch) in_mail x c)) in_mail (All-contains_itself in_mail) in
          let of_opened : Contains pool opened = subst (λ x. Contains pool x) same (Contains-push ((old_table ++ in_scratch) ++ in_mail) other) in
          let of_new : All (Contains pool) new_table = subst (λ xs. All (Contains pool) xs) (sym is)
          (All-append (Contains pool) (filter (λ k. nat_lt k.number opened.number) old_table) (opened ∷ filter (λ k. nat_lt opened.number k.number) old_table)
          (All-filter (λ k. nat_lt k.number opened.number) (Contains pool) old_table of_table)
          (All-cons (Contains pool) opened (filter (λ k. nat_lt opened.number k.number) old_table) of_opened (All-filter (λ k. nat_lt opened.number k.number) (Contains pool) old_table of_table))) in
          All-contains (Contains pool) ((new_table ++ in_scratch) ++ in_mail) h
          (All-append (Contains pool) (new_table ++ in_scratch) in_mail (All-append (Contains pool) new_table in_scratch of_new of_scratch) of_mail) has

-- THE NUMBER THAT IS DRAWN

or_left : (a b : Bool) → (a || b) ≡ false → a ≡ false
or_left true b e = e
or_left false b e = refl

or_right : (a b : Bool) → (a || b) ≡ false → b ≡ false
or_right true b e = let h : ⊥ = cc in absurd h
or_right false b e = e

differs : (n m : ℕ) → nat_eq n m ≡ false → m ≡ n → ⊥
differs n m e same = grind (arith, nat_tests, e, same)

pub not-among : (numbers : List ℕ) (n : ℕ) → is_among numbers n ≡ false → Contains numbers n → ⊥
not-among [] n e has = contains-none n has
not-among (m ∷ numbers) n e has = by (λ there. not-among numbers n (or_right (nat_eq n m) (is_among numbers n) e) there) (Contains-append_cases (m ∷ []) numbers n has)
  where
    first : Contains {X = ℕ} [] n ⊎ (m ≡ n) → ⊥
    first (inl none) = contains-none n none
    first (inr same) = differs n m (or_left (nat_eq n m) (is_among numbers n) e) same

    by : (Contains numbers n → ⊥) → Contains (m ∷ []) n ⊎ Contains numbers n → ⊥
    by later (inl here) = first (Contains-push_cases [] m n here)
    by later (inr there) = later there

-- the number is new in the table
pub table-new : (table scratch : List ℕ) (n drawn : ℕ) → n ≡ drawn → is_among (table ++ scratch) n ≡ false → Contains table drawn → ⊥
table-new table scratch n drawn same e has = not-among (table ++ scratch) n e (Contains-append_left table scratch n (subst (λ k. Contains table k) (sym same) has))

-- what the engine is told of an opened stream, by its ask
some_same : {X : Type 0} (o : Option X) (x y : X) → o ≡ Some x → o ≡ Some y → x ≡ y
some_same o x y a b = let e : Some x ≡ Some y = sym a ∙ b in cc

pub opened-answerable : (phase : Phase) (memory : List ℕ) (owed : Option Ask) (ask other : Ask) (number : ℕ) (reply : Reply) → owed ≡ Some ask → owed ≡ Some other
    → ((n : ℕ) → n < 2 ^ 64 → IsAnswerable phase memory (written_reply 0 (id_of ask) n)) → number < 2 ^ 64 → reply ≡ written_reply 0 (id_of other) number → IsAnswerable phase memory reply
opened-answerable phase memory owed ask other number reply a b answers small is =
    let same : ask ≡ other = some_same owed ask other a b in
    subst (λ r. IsAnswerable phase memory r) (sym is) (subst (λ k. IsAnswerable phase memory (written_reply 0 (id_of k) number)) same (answers number small))

pub cast-small : (owed : Option Ask) (ask other : Ask) (id pages memory : ℕ) → owed ≡ Some ask → owed ≡ Some other → id_of ask + 8 ≤ memory → id ≡ id_of other → memory ≡ 65536 * pages → pages ≤ 1024 → id < 4294967296
cast-small owed ask other id pages memory a b within is whole few =
    let same : ask ≡ other = some_same owed ask other a b in
    let here : id_of other + 8 ≤ memory = subst (λ k. id_of k + 8 ≤ memory) same within in
    small id (id_of other) is here
  where
    small : (n m : ℕ) → n ≡ m → m + 8 ≤ memory → n < 4294967296
    small n m same here = omega (arith, same, here, whole, few)
