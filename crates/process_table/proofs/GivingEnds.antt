use Rattle.std.proofs.Common.{◌≡◌, ℕ, ◌+◌, ◌≤◌, List, [], ◌∷◌, ◌++◌, length, Contains, Option, Some, None, Bool, true, false, cond, slice_get, get_or, is_some, refl, arith, append_assoc, sym, ◌∙◌, ap, subst, ◌⊎◌, inl, inr}
use Rattle.std.proofs.lemmas.List.{map-append}
use Rattle.std.proofs.lemmas.List.Elements.{Contains-append_left, Contains-append_right, Contains-append_cases}
use Rattle.std.specs.FinMap.{get}
use Rattle.tagged_mailbox.specs.Mail.{Mail}
use Rattle.resource_table.specs.Handles.{Handle, numbers_of}
use Rattle.resource_table.specs.Steps.{Told, AreShut}
use Rattle.resource_table.proofs.Closings.{AreShut-append}
use Rattle.host_port.specs.declared.call.Call.{Call}
use Rattle.world_rules.specs.declared.entry.Side.{Side}
use Rattle.world_rules.specs.declared.entry.Side.TheVariants as SideIs
use Rattle.world_rules.specs.declared.halt.End.{End}
use Rattle.world_rules.specs.declared.halt.Halt.{Halt}
use Rattle.world_rules.specs.declared.halt.Halt.TheVariants as HaltIs
use Rattle.world_rules.specs.declared.life.Ended.{Ended as EndMemory}
use Rattle.world_rules.specs.Allowed.{IsWith}
use Rattle.world_rules.specs.Book.{Book, AddsEntry, AddsEnd}
use Rattle.world_rules.specs.Lives.{Setting}
use Rattle.world_rules.specs.Mail.{mail_handles}
use Rattle.world_rules.specs.Told.{told}
use Rattle.world_rules.specs.Views.{Ends, want_of, is_opened}
use Rattle.world_rules.specs.World.{Stage, Out, Doomed}
use Rattle.node_state.specs.Seats.{Meaning, Seat, part_handles}
use Rattle.node_state.specs.Slots.{Slot, Home, Away, Fated, Gone}
use Rattle.node_state.specs.Held.{Held, StandsFor}
use Rattle.node_state.specs.Fits.{Brought, TurnFits, ShowMemory, IsLastOf, entry_of}
use Rattle.node_state.specs.Posts.{time_beside, drawn_beside, opened_number}
use Rattle.node_state.specs.Streaming.{arrived_as}
use Rattle.node_state.specs.Changes.{Records, GivesBack, Counts, Closes}
use Rattle.host_calls.specs.declared.proc.Proc.{Proc}
use Rattle.host_calls.specs.Shown.{seat_of, hands_of, shown_part, brought_by, streams_by}
use Rattle.process_table.specs.Letters.{Letter}
use Rattle.process_table.specs.declared.place.Place.TheVariants as PlaceIs
use Rattle.process_table.specs.Holds.{Fields, NodeKeeps, held_of, kept_of, streams_at, streams_of}
use Rattle.process_table.proofs.Holding.{streams-read}
use Rattle.process_table.proofs.Owning.{numbers-hands, numbers-mail-at}
use Rattle.process_table.proofs.Shutting.{contains-none, numbers-shut, closed-more}
use Rattle.process_table.proofs.Giving.{Comes, Fitting, StreamsLaw, ToldIsSound, is-given, is-doomed, gives-back, closes, hands-on, comes-keeps, records-alone, records-end}
use Rattle.process_table.proofs.GivingNetwork.{hands-stay}

-- A process is given back whose turn was stopped by a bound, or that ends.

abbrev pub SliceLaw : {E P : Type 0} → Meaning E P → Type 0
SliceLaw {E = E} {P = P} engines =
    (setting : Setting P) (old new : Book) (was is : Held E) (pid worker : ℕ) (brought : Brought E) →
    StandsFor engines setting old (told old) was → was.over ≡ false → was.slots pid ≡ Away worker → brought.halt ≡ HaltIs.Slice → brought.side ≡ SideIs.Nothing →
    TurnFits engines setting old.births (told old) worker pid brought →
    GivesBack was is pid (Home brought.seat) true (was.mail pid) (was.deadlines pid) →
    Counts was is was.sends was.time 0 → Closes was is was.streams brought.shed →
    Records old new (entry_of worker pid brought SideIs.Nothing) [] →
    StandsFor engines setting new (told new) is

abbrev pub EndLaw : {E P : Type 0} → Meaning E P → Type 0
EndLaw {E = E} {P = P} engines =
    (setting : Setting P) (old new : Book) (was is : Held E) (pid worker : ℕ) (brought : Brought E) (end : End) (memory : EndMemory) →
    ShowMemory engines setting →
    StandsFor engines setting old (told old) was → was.over ≡ false → was.slots pid ≡ Away worker → want_of brought.halt ≡ Ends end → brought.side ≡ SideIs.Nothing →
    TurnFits engines setting old.births (told old) worker pid brought →
    IsLastOf engines pid brought.seat.engine memory →
    GivesBack was is pid Gone false [] None → is.over ≡ true → is.sends ≡ was.sends → is.time ≡ was.time → is.row ≡ 0 →
    Closes was is was.streams (brought.shed ++ part_handles brought.seat.part ++ mail_handles (was.mail pid)) →
    Records old new (entry_of worker pid brought SideIs.Nothing) (memory ∷ []) →
    StandsFor engines setting new (told new) is

abbrev pub DoomedLaw : {E P : Type 0} → Meaning E P → Type 0
DoomedLaw {E = E} {P = P} engines =
    (setting : Setting P) (old new : Book) (was is : Held E) (pid worker : ℕ) (brought : Brought E) (end : End) (memory : EndMemory) →
    ShowMemory engines setting →
    StandsFor engines setting old (told old) was → was.slots pid ≡ Fated worker end →
    TurnFits engines setting old.births (told old) worker pid brought →
    IsLastOf engines pid brought.seat.engine memory →
    GivesBack was is pid Gone false [] None → is.over ≡ true → is.sends ≡ was.sends → is.time ≡ time_beside brought.side was.time → is.row ≡ 0 →
    Closes was is (drawn_beside brought.side was.streams) (brought.shed ++ opened_number brought.side was.streams ++ part_handles brought.seat.part) →
    Records old new (entry_of worker pid brought brought.side) (memory ∷ []) →
    StandsFor engines setting new (told new) is

-- the number of a stream that was opened, and the next

number_opened : {S : Type 0} (drawn : ℕ) (arrived : Option S) (side : Side) → is_some arrived ≡ is_opened side → numbers_of (arrived_as drawn arrived) ≡ opened_number side drawn
number_opened drawn None side e = ap (λ (b : Bool). cond b (drawn ∷ []) []) e
number_opened drawn (Some s) side e = ap (λ (b : Bool). cond b (drawn ∷ []) []) e

plus_none : (n : ℕ) → n + 0 ≡ n
plus_none n = omega arith

next_drawn : {S : Type 0} (drawn : ℕ) (arrived : Option S) (side : Side) → is_some arrived ≡ is_opened side → drawn + length (arrived_as drawn arrived) ≡ drawn_beside side drawn
next_drawn drawn None side e = plus_none drawn ∙ ap (λ (b : Bool). cond b (drawn + 1) drawn) e
next_drawn drawn (Some s) side e = ap (λ (b : Bool). cond b (drawn + 1) drawn) e

pub few-arrived : {S : Type 0} (drawn : ℕ) (arrived : Option S) → drawn + length (arrived_as drawn arrived) ≤ drawn + 1
few-arrived drawn None = omega arith
few-arrived drawn (Some s) = omega arith

none_numbered : {S : Type 0} (handles : List (Handle S)) → numbers_of handles ≡ [] → handles ≡ []
none_numbered [] e = refl
none_numbered (h ∷ hs) e = let f : ⊥ = cc in absurd f

with_worker : (stage : Stage) (other worker : ℕ) (end : End) → stage ≡ Doomed other end → IsWith stage worker → other ≡ worker
with_worker stage other worker end is with_it = rw is at with_it

turned_round : {X : Type 0} (hands mail opened : List X) (x : X) → Contains (opened ++ hands) x → Contains (hands ++ mail ++ opened) x
turned_round hands mail opened x has = by (Contains-append_cases opened hands x has)
  where
    by : Contains opened x ⊎ Contains hands x → Contains (hands ++ mail ++ opened) x
    by (inl here) = Contains-append_right (hands ++ mail) opened x here
    by (inr there) = Contains-append_left (hands ++ mail) opened x (Contains-append_left hands mail x there)

module _ {E O P S L : Type 0} {engines : Meaning E P} {may_ask : P → ℕ → Type 0} {tells : Told S} {setting : Setting P} (streams_law : StreamsLaw engines tells) (sounds : ToldIsSound) where
  pub node-slice : SliceLaw engines → (old new : Book) (f g : Fields E O P S L) (worker : ℕ) (proc : Proc E O P S L) (shed : List (Handle S)) (calls : List Call)
      → NodeKeeps engines may_ask tells setting old f → ((told old).process proc.start.pid).stage ≡ Out worker
      → Fitting engines tells setting old worker proc.start.pid (brought_by proc calls HaltIs.Slice SideIs.Nothing) (streams_by proc None)
      → Comes f g proc.start.pid (PlaceIs.Home (record proc { shed = shed })) true ((held_of f).mail proc.start.pid) (streams_at (slice_get f.mail proc.start.pid)) ((held_of f).deadlines proc.start.pid) f.streams
      proc.shed
      → Counts (held_of f) (held_of g) f.sends f.time 0
      → AddsEntry old new (entry_of worker proc.start.pid (brought_by proc calls HaltIs.Slice SideIs.Nothing) SideIs.Nothing)
      → NodeKeeps engines may_ask tells setting new g
  node-slice law old new f g worker proc shed calls keeps out fitting comes counts adds =
      let pid : ℕ = proc.start.pid in
      let brought : Brought E = brought_by proc calls HaltIs.Slice SideIs.Nothing in
      let given = is-given sounds old f pid worker keeps out in
      let records = records-alone old new (entry_of worker pid brought SideIs.Nothing) adds in
      comes-keeps streams_law old new worker brought (streams_by proc None) SideIs.Nothing [] keeps given.out comes fitting ∣ inl refl ∣₁ records
      (law setting old new (held_of f) (held_of g) pid worker brought keeps.stands given.going given.away refl refl fitting.fits (gives-back given.out comes) counts (closes comes) records)
      (hands-on tells (hands_of proc ++ streams_at (slice_get f.mail pid) ++ []) proc.shed given.out comes (hands-stay (hands_of proc) (streams_at (slice_get f.mail pid))) (λ handle has. ∣ inl has ∣₁))

  pub node-end : EndLaw engines → (old added new : Book) (f g : Fields E O P S L) (worker : ℕ) (proc : Proc E O P S L) (calls : List Call) (halt : Halt) (end : End) (memory : EndMemory)
      (box : Mail (Letter S)) (hands_shut mail_shut : List (Handle S))
      → ShowMemory engines setting
      → NodeKeeps engines may_ask tells setting old f → ((told old).process proc.start.pid).stage ≡ Out worker → want_of halt ≡ Ends end
      → Fitting engines tells setting old worker proc.start.pid (brought_by proc calls halt SideIs.Nothing) (streams_by proc None)
      → IsLastOf engines proc.start.pid proc.engine memory
      → box ≡ get_or f.mail proc.start.pid box → AreShut tells (hands_of proc) hands_shut → AreShut tells (streams_of box) mail_shut
      → (get f.queue.deadlines proc.start.pid ≡ None → Comes f g proc.start.pid PlaceIs.Gone false [] [] None f.streams (proc.shed ++ (hands_shut ++ mail_shut)))
      → g.over ≡ true → g.sends ≡ f.sends → g.time ≡ f.time → g.row ≡ 0
      → AddsEntry old added (entry_of worker proc.start.pid (brought_by proc calls halt SideIs.Nothing) SideIs.Nothing) → AddsEnd added new memory
      → NodeKeeps engines may_ask tells setting new g
  node-end law old added new f g worker proc calls halt end memory box hands_shut mail_shut show keeps out ends fitting last reads shut_hands shut_mail comes' over sends time row adds ended =
      let pid : ℕ = proc.start.pid in
      let brought : Brought E = brought_by proc calls halt SideIs.Nothing in
      let given = is-given sounds old f pid worker keeps out in
      let comes = comes' (given.untimed pid) in
      let records = records-end old added new (entry_of worker pid brought SideIs.Nothing) memory adds ended in
      let in_mail : List (Handle S) = streams_at (slice_get f.mail pid) in
      let shut_all : AreShut tells (hands_of proc ++ in_mail) (hands_shut ++ mail_shut) = AreShut-append tells (hands_of proc) in_mail hands_shut mail_shut shut_hands
      (subst (λ hs. AreShut tells hs mail_shut) (sym (streams-read f.mail pid box given.out.boxed reads)) shut_mail) in
      let numbers : numbers_of (proc.shed ++ (hands_shut ++ mail_shut)) ≡ numbers_of proc.shed ++ part_handles (shown_part proc) ++ mail_handles ((held_of f).mail pid) =
      map-append (λ h. h.number) proc.shed (hands_shut ++ mail_shut)
      ∙ ap (λ ns. numbers_of proc.shed ++ ns) (numbers-shut tells (hands_of proc ++ in_mail) (hands_shut ++ mail_shut) shut_all ∙ map-append (λ h. h.number) (hands_of proc) in_mail
      ∙ ap (λ ns. ns ++ numbers_of in_mail) (numbers-hands proc) ∙ ap (λ ns. part_handles (shown_part proc) ++ ns) (numbers-mail-at (slice_get f.mail pid)))
      ∙ sym (append_assoc (numbers_of proc.shed) (part_handles (shown_part proc)) (mail_handles ((held_of f).mail pid))) in
      let closing : Closes (held_of f) (held_of g) f.streams (numbers_of proc.shed ++ part_handles (shown_part proc) ++ mail_handles ((held_of f).mail pid)) =
      subst (λ ns. Closes (held_of f) (held_of g) f.streams ns) numbers (closes comes) in
      comes-keeps streams_law old new worker brought (streams_by proc None) SideIs.Nothing (memory ∷ []) keeps given.out comes fitting ∣ inl refl ∣₁ records
      (law setting old new (held_of f) (held_of g) pid worker brought end memory show keeps.stands given.going given.away ends refl fitting.fits last (gives-back given.out comes) over sends time row closing
      records)
      (hands-on tells (hands_of proc ++ in_mail ++ []) proc.shed given.out comes (λ handle has. absurd (contains-none handle has))
      (closed-more tells (hands_of proc ++ in_mail ++ []) proc.shed (hands_of proc ++ in_mail) (hands_shut ++ mail_shut) shut_all (hands-stay (hands_of proc) in_mail)))

  pub node-doomed : DoomedLaw engines → (old added new : Book) (f g : Fields E O P S L) (worker other : ℕ) (proc : Proc E O P S L) (calls : List Call) (halt : Halt) (side : Side) (arrived : Option S)
      (end : End) (memory : EndMemory) (arrived_shut hands_shut : List (Handle S))
      → ShowMemory engines setting → ((told old).process proc.start.pid).mail ≡ []
      → NodeKeeps engines may_ask tells setting old f → ((told old).process proc.start.pid).stage ≡ Doomed other end
      → Fitting engines tells setting old worker proc.start.pid (brought_by proc calls halt side) (streams_by proc arrived)
      → IsLastOf engines proc.start.pid proc.engine memory
      → AreShut tells (arrived_as f.streams arrived) arrived_shut → AreShut tells (hands_of proc) hands_shut
      → (get f.queue.deadlines proc.start.pid ≡ None → streams_at (slice_get f.mail proc.start.pid) ≡ [] → (held_of f).mail proc.start.pid ≡ []
      → Comes f g proc.start.pid PlaceIs.Gone false [] [] None (f.streams + length (arrived_as f.streams arrived)) (proc.shed ++ (arrived_shut ++ hands_shut)))
      → g.over ≡ f.over → g.sends ≡ f.sends → g.time ≡ time_beside side f.time → g.row ≡ 0
      → AddsEntry old added (entry_of worker proc.start.pid (brought_by proc calls halt side) side) → AddsEnd added new memory
      → NodeKeeps engines may_ask tells setting new g
  node-doomed law old added new f g worker other proc calls halt side arrived end memory arrived_shut hands_shut show emptied keeps doomed fitting last shut_arrived shut_hands comes' over sends time row adds
      ended =
      let pid : ℕ = proc.start.pid in
      let brought : Brought E = brought_by proc calls halt side in
      let d = is-doomed sounds old f pid other end keeps doomed in
      let same_worker : other ≡ worker = with_worker ((told old).process pid).stage other worker end doomed fitting.fits.allowed.away in
      let in_mail : List (Handle S) = streams_at (slice_get f.mail pid) in
      let no_mail : (held_of f).mail pid ≡ [] = sym (keeps.stands.mirrors.mail pid) ∙ emptied in
      let no_streams : in_mail ≡ [] = none_numbered in_mail (numbers-mail-at (slice_get f.mail pid) ∙ ap mail_handles no_mail) in
      let comes = comes' (d.untimed pid) no_streams no_mail in
      let records = records-end old added new (entry_of worker pid brought side) memory adds ended in
      let drawn : (told old).streams ≡ f.streams = keeps.stands.mirrors.streams in
      let opened : List (Handle S) = arrived_as f.streams arrived in
      let shut_all : AreShut tells (opened ++ hands_of proc) (arrived_shut ++ hands_shut) = AreShut-append tells opened (hands_of proc) arrived_shut hands_shut shut_arrived shut_hands in
      let is_opened_side : is_some arrived ≡ is_opened side = fitting.streams.arrived in
      let numbers : numbers_of (proc.shed ++ (arrived_shut ++ hands_shut)) ≡ numbers_of proc.shed ++ opened_number side f.streams ++ part_handles (shown_part proc) =
      map-append (λ h. h.number) proc.shed (arrived_shut ++ hands_shut)
      ∙ ap (λ ns. numbers_of proc.shed ++ ns) (numbers-shut tells (opened ++ hands_of proc) (arrived_shut ++ hands_shut) shut_all ∙ map-append (λ h. h.number) opened (hands_of proc)
      ∙ ap (λ ns. ns ++ numbers_of (hands_of proc)) (number_opened f.streams arrived side is_opened_side) ∙ ap (λ ns. opened_number side f.streams ++ ns) (numbers-hands proc))
      ∙ sym (append_assoc (numbers_of proc.shed) (opened_number side f.streams) (part_handles (shown_part proc))) in
      let closing : Closes (held_of f) (held_of g) (drawn_beside side f.streams) (numbers_of proc.shed ++ opened_number side f.streams ++ part_handles (shown_part proc)) =
      subst (λ n. Closes (held_of f) (held_of g) n (numbers_of proc.shed ++ opened_number side f.streams ++ part_handles (shown_part proc))) (next_drawn f.streams arrived side is_opened_side)
      (subst (λ ns. Closes (held_of f) (held_of g) (f.streams + length opened) ns) numbers (closes comes)) in
      let pool : List (Handle S) = hands_of proc ++ in_mail ++ arrived_as (told old).streams arrived in
      comes-keeps streams_law old new worker brought (streams_by proc arrived) side (memory ∷ []) keeps d.out comes fitting ∣ inl refl ∣₁ records
      (law setting old new (held_of f) (held_of g) pid worker brought d.end memory show keeps.stands (subst (λ w. (held_of f).slots pid ≡ Fated w d.end) same_worker d.fated) fitting.fits last (gives-back d.out comes) (over ∙ d.over) sends time row closing
      records)
      (hands-on tells pool proc.shed d.out comes (λ handle has. absurd (contains-none handle has))
      (closed-more tells pool proc.shed (opened ++ hands_of proc) (arrived_shut ++ hands_shut) shut_all
      (subst (λ n. (x : Handle S) → Contains (arrived_as n arrived ++ hands_of proc) x → Contains pool x) drawn (turned_round (hands_of proc) in_mail (arrived_as (told old).streams arrived)))))
