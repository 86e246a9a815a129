use Rattle.std.proofs.Common.{◌≡◌, ◌≢◌, ℕ, ◌+◌, ◌<◌, ◌≤◌, [], ◌∷◌, length, List, Some, None, true, false, nat_eq, slice_get, refl, sym, ◌∙◌, ap, subst, arith, ◌⊎◌, inl, inr}
use Rattle.std.proofs.lemmas.Bool.Decides.{eqb_tells}
use Rattle.host_port.specs.declared.start.Start.{Start}
use Rattle.host_port.specs.Standing.{Running}
use Rattle.world_rules.specs.declared.life.Birth.{Birth}
use Rattle.world_rules.specs.declared.life.Birth.TheVariants.{Born}
use Rattle.world_rules.specs.Book.{Book}
use Rattle.world_rules.specs.Part.{no_part}
use Rattle.world_rules.specs.World.{World, Process, Unborn, Ready, first_world, fresh_process, no_start, is_ready}
use Rattle.world_rules.specs.Told.{told}
use Rattle.world_rules.specs.Lives.{Setting, Begins, EndsAreMemories, terms_of}
use Rattle.world_rules.specs.laws.ToldLaws.{told_none, entries_allowed_none}
use Rattle.world_rules.specs.laws.LifeLaws.{lives_none}
use Rattle.node_state.specs.Seats.{Meaning}
use Rattle.node_state.specs.Slots.{Slot, IsHome, SlotFits}
use Rattle.node_state.specs.Held.{Held, StandsFor, is_in}
use Rattle.node_state.specs.Changes.{HoldsFirst}
use Rattle.node_laws.proofs.ReadyList.{true_is_not_false, nat_eq_other}

-- The run begins.

-- the world of a run in which nothing has happened
told_first : (book : Book) (start : Start) → book.births ≡ Born start ∷ [] → book.entries ≡ [] → told book ≡ first_world (Born start ∷ [])
told_first book start births none = told_none book none ∙ ap first_world births

other_first : (start : Start) (q : ℕ) → q ≢ 1 → (first_world (Born start ∷ [])).process q ≡ fresh_process no_start Unborn
other_first start q other = rw (nat_eq_other q 1 other) refl

-- what holds of process 1 and of those that aren't born holds of all
each_first : (start : Start) (P : ℕ → Process → Type 0) → P 1 (fresh_process start Ready) → ((q : ℕ) → q ≢ 1 → P q (fresh_process no_start Unborn)) → (q : ℕ)
    → P q ((first_world (Born start ∷ [])).process q)
each_first start P here there q =
    one (eqb_tells q 1)
  where
    one : ((nat_eq q 1 ≡ true) × (q ≡ 1)) ⊎ ((nat_eq q 1 ≡ false) × (q ≢ 1)) → P q ((first_world (Born start ∷ [])).process q)
    one (inl same) = subst (λ (k : ℕ). P k ((first_world (Born start ∷ [])).process k)) (sym same.1) here
    one (inr other) = subst (λ (x : Process). P q x) (sym (other_first start q other.1)) (there q other.1)

-- only process 1 is ready
ready_first : (start : Start) (q : ℕ) → is_ready ((first_world (Born start ∷ [])).process q).stage ≡ true → is_in q (1 ∷ []) ≡ true
ready_first start = each_first start (λ q x. is_ready x.stage ≡ true → is_in q (1 ∷ []) ≡ true) (λ _. refl) (λ q other r. true_is_not_false (sym r))

some_room : (out room : ℕ) → out ≡ 0 → 0 < room → out + 1 ≤ room
some_room out room none some = omega arith

-- FIRST. A node that holds process 1 at its begin, and nothing else, stands for the journal of its birth.
pub keeps-first : {E P : Type 0} {engines : Meaning E P} {setting : Setting P} (book : Book) (held : Held E) (start : Start) (engine : E)
    → Begins setting → setting.first ≡ start
    → book.births ≡ Born start ∷ [] → book.entries ≡ [] → book.ends ≡ [] → 0 < book.entry_room
    → ((program : P) → slice_get setting.programs start.«module» ≡ Some program → engines.stands engine program start [] 0)
    → engines.phase engine ≡ Running
    → HoldsFirst held engine start
    → StandsFor engines setting book (told book) held
keeps-first {E = E} {engines = engines} {setting = setting} book held start engine begins first births none ends room stands running holds =
    let w : World = first_world (Born start ∷ []) in
    let is : told book ≡ w = told_first book start births none in
    let home : IsHome engines setting.programs (fresh_process start Ready) (record { engine = engine; start = start; part = no_part; fuel = 0; owed = None }) =
    record { stage = refl; seated = record { stands = stands; start = refl; part = refl; fuel = refl; owed = refl; phase = running }; tries = tt } in
    let ends_are : EndsAreMemories setting (told book).process (told book).exits book.ends = rw (is, ends) tt in
    let one : length book.births ≡ (told book).spawns + 1 = ap (λ (bs : List Birth). length bs) births ∙ ap (λ (x : World). x.spawns + 1) (sym is) in
    rw is (record {
      run = record {
        begins = begins;
        legal = record {
          first = ap (λ (bs : List Birth). slice_get bs 0) births ∙ ap (λ (s : Start). Some (Born s)) (sym first);
          births = one;
          entries = entries_allowed_none (Some (terms_of setting)) book none;
        };
        lives = lives_none setting book none;
        ends = ends_are;
      };
      mirrors = record {
        ready = record { same = sym holds.ready; each = rw holds.ready (refl, refl, tt); all = rw holds.ready (ready_first start) };
        slots = each_first start (λ q x. SlotFits engines setting.programs x (held.slots q))
            (subst (λ (s : Slot E). SlotFits engines setting.programs (fresh_process start Ready) s) (sym holds.slot) home)
            (λ q other. subst (λ (s : Slot E). SlotFits engines setting.programs (fresh_process no_start Unborn) s) (sym (holds.other_slots q other)) refl);
        mail = each_first start (λ q x. x.mail ≡ held.mail q) (sym (holds.mail 1)) (λ q other. sym (holds.mail q));
        deadlines = each_first start (λ q x. x.deadline ≡ held.deadlines q) (sym (holds.deadlines 1)) (λ q other. sym (holds.deadlines q));
        sends = sym holds.sends;
        time = sym holds.time;
        row = sym holds.row;
        over = sym holds.over;
        out = sym holds.out;
        streams = sym holds.streams;
        closed = sym holds.closed;
        unlinked = λ a b. refl;
      };
      quiet = λ o. true_is_not_false (sym o ∙ holds.over);
      room = rw holds.over (some_room held.out book.entry_room holds.out room);
      row_bound = rw holds.row (omega arith);
      ended = tt;
      first = record {
        numbered = ap (λ (s : Start). s.pid) (sym first) ∙ begins.numbered;
        drawn = refl;
        others = λ q other. ap (λ (x : Process). x.stage) (other_first start q other);
        ends = λ _. refl;
        going = λ _. refl;
      };
    })
