use Rattle.std.proofs.Common.{◌≡◌, ◌≢◌, ◌<◌, ◌≤◌, ℕ, ◌+◌, ◌-◌, List, [], length, Option, Some, None, Bool, true, false, cond, nat_eq, eqb, map, slice_get, slice_set, get_or, length-set, refl, arith}
use Rattle.std.proofs.Common.{sym, ◌∙◌, ap, subst, ◌⊎◌, inl, inr}
use Rattle.std.proofs.lemmas.List.{get_or-set_other, get_or-set_same}
use Rattle.std.proofs.lemmas.Option.{slice_get_read, slice_get_cases, slice_get_past}
use Rattle.std.proofs.lemmas.Bool.Decides.{nat_tests, eqb_tells}
use Rattle.std.specs.Ordering.{nat_cmp, eq_by_cmp}
use Rattle.std.specs.Cmp.{nat_cmp_total}
use Rattle.std.specs.FinMap.{FinMap, get, insert, remove, len, contains_key, get-insert, get-remove}
use Rattle.run_queue.proofs.Dues.{has_deadlines}
use Rattle.run_queue.specs.Schedule.{Schedule}
use Rattle.tagged_mailbox.specs.Mail.{Mail}
use Rattle.host_port.specs.declared.call.Call.{Call}
use Rattle.host_port.specs.declared.start.Start.{Start}
use Rattle.host_port.specs.declared.start.StartRefusal.{StartRefusal}
use Rattle.host_port.specs.Standing.{Standing}
use Rattle.world_rules.specs.declared.life.Birth.{Birth}
use Rattle.world_rules.specs.Book.{Book}
use Rattle.world_rules.specs.Mail.{MailItem}
use Rattle.world_rules.specs.World.{first_start}
use Rattle.world_rules.specs.Told.{told}
use Rattle.world_rules.specs.Lives.{Setting}
use Rattle.node_state.specs.Seats.{Meaning}
use Rattle.node_state.specs.Held.{Held, StandsFor, kept_places}
use Rattle.node_state.specs.Changes.{ChangesOne}
use Rattle.node_state.specs.Rows.{AllHaveRows}
use Rattle.process_table.specs.Letters.{Letter}
use Rattle.process_table.specs.declared.place.Place.{Place}
use Rattle.resource_table.specs.Handles.{Handle}
use Rattle.resource_table.specs.Steps.{Told}
use Rattle.node_state.specs.Streaming.{StreamsStand}
use Rattle.process_table.specs.Holds.{Fields, NodeKeeps, HasShedAll, held_of, kept_of, slot_of, slot_in, mail_in, letters_in, hands_at, hands_in, streams_of, streams_at}

-- Fields of a node, and what they hold.

pub get_set_same : {X : Type 0} (xs : List X) (i : ℕ) (x : X) → i < length xs → slice_get (slice_set xs i x) i ≡ Some x
get_set_same xs i x h = slice_get_read (slice_set xs i x) (length xs) i x (sym (length-set xs i x)) h (sym (get_or-set_same xs i x x h))

other : {X : Type 0} (xs : List X) (i j : ℕ) (x : X) → j ≢ i → ((y : X) × (j < length xs) × (slice_get xs j ≡ Some y) × (get_or xs j y ≡ y)) ⊎ ((length xs ≤ j) × (slice_get xs j ≡ None))
    → slice_get (slice_set xs i x) j ≡ slice_get xs j
other xs i j x h (inl found) = slice_get_read (slice_set xs i x) (length xs) j found.0 (sym (length-set xs i x)) found.1 (sym (get_or-set_other xs i j x found.0 h ∙ found.3)) ∙ sym found.2
other xs i j x h (inr past) = slice_get_past (slice_set xs i x) j (rw length-set past.0) ∙ sym past.1

pub get_set_other : {X : Type 0} (xs : List X) (i j : ℕ) (x : X) → j ≢ i → slice_get (slice_set xs i x) j ≡ slice_get xs j
get_set_other xs i j x h = other xs i j x h (slice_get_cases xs j).1

-- MAILBOXES: the mailbox of one number is this, with these streams, and those of all others stay

pub record MailIs {S : Type 0} (old new : List (Mail (Letter S))) (pid : ℕ) (mail : List MailItem) (streams : List (Handle S)) : Type 0 where
  pub here : mail_in (slice_get new pid) ≡ mail
  pub streams_here : streams_at (slice_get new pid) ≡ streams
  pub others : (q : ℕ) → q ≢ pid → mail_in (slice_get new q) ≡ mail_in (slice_get old q)
  pub other_streams : (q : ℕ) → q ≢ pid → streams_at (slice_get new q) ≡ streams_at (slice_get old q)

pub mail-same : {S : Type 0} (mail : List (Mail (Letter S))) (pid : ℕ) → MailIs mail mail pid (mail_in (slice_get mail pid)) (streams_at (slice_get mail pid))
mail-same mail pid = record { here = refl; streams_here = refl; others = λ q different. refl; other_streams = λ q different. refl }

pub mail-set : {S : Type 0} (old new : List (Mail (Letter S))) (pid : ℕ) (box : Mail (Letter S)) → pid < length old → new ≡ slice_set old pid box
    → MailIs old new pid (letters_in box) (streams_of box)
mail-set old new pid box within is = record {
  here = ap (λ xs. mail_in (slice_get xs pid)) is ∙ ap mail_in (get_set_same old pid box within);
  streams_here = ap (λ xs. streams_at (slice_get xs pid)) is ∙ ap streams_at (get_set_same old pid box within);
  others = λ q different. ap (λ xs. mail_in (slice_get xs q)) is ∙ ap mail_in (get_set_other old pid q box different);
  other_streams = λ q different. ap (λ xs. streams_at (slice_get xs q)) is ∙ ap streams_at (get_set_other old pid q box different);
}

-- the mailbox of a number
pub mail-read : {S : Type 0} (mail : List (Mail (Letter S))) (pid : ℕ) (box : Mail (Letter S)) → pid < length mail → box ≡ get_or mail pid box → mail_in (slice_get mail pid) ≡ letters_in box
mail-read mail pid box within is = ap mail_in (slice_get_read mail (length mail) pid box refl within is)

pub streams-read : {S : Type 0} (mail : List (Mail (Letter S))) (pid : ℕ) (box : Mail (Letter S)) → pid < length mail → box ≡ get_or mail pid box → streams_at (slice_get mail pid) ≡ streams_of box
streams-read mail pid box within is = ap streams_at (slice_get_read mail (length mail) pid box refl within is)

-- DEADLINES: the deadline of one number is this, and those of all others stay

pub record DeadlineIs (old new : FinMap nat_cmp ℕ) (pid : ℕ) (deadline : Option ℕ) : Type 0 where
  pub here : get new pid ≡ deadline
  pub others : (q : ℕ) → q ≢ pid → get new q ≡ get old q

pub deadline-same : (old new : FinMap nat_cmp ℕ) (pid : ℕ) (deadline : Option ℕ) → new ≡ old → get old pid ≡ deadline → DeadlineIs old new pid deadline
deadline-same old new pid deadline same is = record {
  here = ap (λ (m : FinMap nat_cmp ℕ). get m pid) same ∙ is;
  others = λ q different. ap (λ (m : FinMap nat_cmp ℕ). get m q) same;
}

eq_same : (pid : ℕ) → eq_by_cmp nat_cmp pid pid ≡ true
eq_same pid = grind (arith, nat_tests)

eq_other : (q pid : ℕ) → q ≢ pid → eq_by_cmp nat_cmp q pid ≡ false
eq_other q pid different = grind (arith, nat_tests, different)

pub deadline-set : (old new : FinMap nat_cmp ℕ) (pid deadline : ℕ) → new ≡ insert old pid deadline → DeadlineIs old new pid (Some deadline)
deadline-set old new pid deadline is = record {
  here = ap (λ (m : FinMap nat_cmp ℕ). get m pid) is ∙ get-insert nat_cmp_total old pid deadline pid ∙ ap (λ (b : Bool). cond b (Some deadline) (get old pid)) (eq_same pid);
  others = λ q different. ap (λ (m : FinMap nat_cmp ℕ). get m q) is ∙ get-insert nat_cmp_total old pid deadline q ∙ ap (λ (b : Bool). cond b (Some deadline) (get old q)) (eq_other q pid different);
}

pub deadline-removed : (old new : FinMap nat_cmp ℕ) (pid : ℕ) → new ≡ remove old pid → DeadlineIs old new pid None
deadline-removed old new pid is = record {
  here = ap (λ (m : FinMap nat_cmp ℕ). get m pid) is ∙ get-remove nat_cmp_total old pid pid ∙ ap (λ (b : Bool). cond b None (get old pid)) (eq_same pid);
  others = λ q different. ap (λ (m : FinMap nat_cmp ℕ). get m q) is ∙ get-remove nat_cmp_total old pid q ∙ ap (λ (b : Bool). cond b None (get old q)) (eq_other q pid different);
}

some_none : (n : ℕ) → Some n ≡ None → ⊥
some_none n e = cc

-- where nobody has a deadline there are none
pub no-deadlines : (deadlines : FinMap nat_cmp ℕ) → ((q : ℕ) → get deadlines q ≡ None) → len deadlines ≡ 0
no-deadlines deadlines none = by (nat_eq (len deadlines) 0) (λ t. grind (arith, nat_tests, t)) (λ z. grind (arith, nat_tests, z))
  where
    by : (b : Bool) → (b ≡ true → len deadlines ≡ 0) → (len deadlines ≡ 0 → b ≡ true) → len deadlines ≡ 0
    by true there back = there refl
    by false there back =
        let some = (has_deadlines deadlines false (there, back)).0 refl in
        let off = ap (λ (o : Option ℕ). o) (none some.0) in
        let h : ⊥ = cc in
        absurd h

-- WHAT IS HELD

pub changes : {E O P S L : Type 0} (f g : Fields E O P S L) (pid : ℕ) (place : Place E O P S L) (mail : List MailItem) (streams : List (Handle S)) (deadline : Option ℕ) → pid < length f.places
    → g.places ≡ slice_set f.places pid place
    → MailIs f.mail g.mail pid mail streams → DeadlineIs f.queue.deadlines g.queue.deadlines pid deadline → ChangesOne (held_of f) (held_of g) pid (slot_of place) mail deadline
changes f g pid place mail streams deadline within is mails deadlines = record {
  slot_is = ap (λ xs. slot_in (slice_get xs pid)) is ∙ ap slot_in (get_set_same f.places pid place within);
  mail_is = mails.here;
  deadline_is = deadlines.here;
  other_slots = λ q different. ap (λ xs. slot_in (slice_get xs q)) is ∙ ap slot_in (get_set_other f.places pid q place different);
  other_mail = mails.others;
  other_deadlines = deadlines.others;
}

-- the streams in hand at a number whose place is this, and at all others
pub hands-set : {E O P S L : Type 0} (old new : List (Place E O P S L)) (pid : ℕ) (place : Place E O P S L) → pid < length old → new ≡ slice_set old pid place → hands_in (slice_get new pid) ≡ hands_at place
hands-set old new pid place within is = ap (λ xs. hands_in (slice_get xs pid)) is ∙ ap hands_in (get_set_same old pid place within)

pub hands-other : {E O P S L : Type 0} (old new : List (Place E O P S L)) (pid : ℕ) (place : Place E O P S L) (q : ℕ) → q ≢ pid → new ≡ slice_set old pid place
    → hands_in (slice_get new q) ≡ hands_in (slice_get old q)
hands-other old new pid place q different is = ap (λ xs. hands_in (slice_get xs q)) is ∙ ap hands_in (get_set_other old pid q place different)

-- THE SETTING

-- what a run is over, its births being these
abbrev pub setting_with : {P : Type 0} → (P → Start → Option StartRefusal) → (P → Start → List Call → ℕ → Option Standing) → List P → List Birth → (live idle : ℕ) → Setting P
setting_with begin at programs births live idle = record { programs = programs; begin = begin; at = at; first = first_start births; live = live; idle = idle }

-- what a node keeps, its setting being that of other births that are the same
pub keeps-at : {E O P S L : Type 0} {engines : Meaning E P} {may_ask : P → ℕ → Type 0} {tells : Told S} (begin : P → Start → Option StartRefusal)
    (at : P → Start → List Call → ℕ → Option Standing) (programs : List P) (old new : List Birth) (live idle : ℕ) (book : Book) (f : Fields E O P S L) → new ≡ old
    → NodeKeeps engines may_ask tells (setting_with begin at programs old live idle) book f → NodeKeeps engines may_ask tells (setting_with begin at programs new live idle) book f
keeps-at {engines = engines} {may_ask = may_ask} {tells = tells} begin at programs old new live idle book f same keeps =
    subst (λ births. NodeKeeps engines may_ask tells (setting_with begin at programs births live idle) book f) (sym same) keeps
