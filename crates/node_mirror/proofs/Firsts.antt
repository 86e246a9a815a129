use Rattle.std.proofs.Common.{◌≡◌, ℕ, ◌+◌, ◌<◌, ◌≤◌, ◌&&◌, List, [], ◌∷◌, length, slice_get, Option, Some, None, Bool, true, false, cond, nat_eq, nat_lt, nat_le, refl, sym, ◌∙◌, ap, subst, arith}
use Rattle.std.proofs.lemmas.Bool.Decides.{nat_tests}
use Rattle.std.specs.Option.{option_map_or, is_none}
use Rattle.host_port.specs.declared.start.Start.{Start}
use Rattle.host_port.specs.Standing.{Running}
use Rattle.world_rules.specs.declared.life.Birth.{Birth}
use Rattle.world_rules.specs.declared.life.Birth.TheVariants.{Born}
use Rattle.world_rules.specs.declared.life.Ended.{Ended as EndMemory}
use Rattle.world_rules.specs.Book.{Book}
use Rattle.world_rules.specs.Mail.{message_count, most_messages}
use Rattle.world_rules.specs.Streams.{nothing_streamed}
use Rattle.world_rules.specs.World.{World, first_world}
use Rattle.world_rules.specs.Touches.{nobody}
use Rattle.world_rules.specs.Told.{told}
use Rattle.world_rules.specs.Lives.{Setting, Begins, IsRun, EndsAreMemories, terms_of}
use Rattle.world_rules.specs.laws.BirthLaws.{none_is_some}
use Rattle.world_rules.specs.laws.ToldLaws.{told_none, entries_allowed_none}
use Rattle.world_rules.specs.laws.LifeLaws.{lives_none}
use Rattle.node_state.specs.Seats.{Meaning}
use Rattle.node_laws.proofs.ReadyList.{true_is_not_false}
use Rattle.node_mirror.specs.Slots.{Slot, Nobody, Home, is_giving}
use Rattle.node_mirror.specs.Held.{Held, Mirrors, StandsFor, HasProgram}
use Rattle.node_mirror.specs.Steps.{born}
use Rattle.node_mirror.proofs.Births.{child_mirrors, child_seat}

-- The run begins: process 1 is born into a world in which nobody is.

-- a world in which nobody is, and the node that holds nobody
abbrev empty_world : World
empty_world = record {
  ready = 1 ∷ [];
  process = λ pid. nobody;
  links = λ a b. None;
  names = λ name. None;
  numbers_drawn = 0;
  streams = 0;
  spawns = 0;
  sends = 0;
  time = 0;
  row = 0;
  over = false;
  streamed = λ handle. nothing_streamed;
  closed = [];
  exits = [];
  moves = [];
}

abbrev pub empty_node : (E : Type 0) → Held E
empty_node E = record {
  slots = λ pid. Nobody;
  mail = λ pid. [];
  deadlines = λ pid. None;
  names = λ name. None;
  ready = 1 ∷ [];
  numbers = 0;
  births = 1;
  unended = 0;
  out = 0;
  sends = 0;
  time = 0;
  row = 0;
  over = false;
  streams = 0;
  closed = [];
}

none_drawn : {X : Type 0} (q : ℕ) → (nat_lt 0 q && nat_le q 0) ≡ true → X
none_drawn q is = let h : ⊥ = grind (arith, nat_tests) in absurd h

no_message : message_count [] ≤ most_messages
no_message = omega arith

none_yet : 0 ≤ 1
none_yet = omega arith

empty_mirrors : {E P : Type 0} (engines : Meaning E P) (setting : Setting P) → Mirrors engines setting empty_world (empty_node E) []
empty_mirrors engines setting = record {
  order = record {
    undrawn = λ q _. refl;
    drawn = λ q is. none_drawn q is;
    each = λ q. record { own = λ is. true_is_not_false (sym is); deadline = λ _. refl; mail = no_message; handles = tt };
    over = λ o. true_is_not_false (sym o);
    names = λ name q is. absurd (none_is_some is);
    links = λ a b tag is. absurd (none_is_some is);
  };
  unmet = λ q. tt;
  programs = λ q is. true_is_not_false (sym is);
  slots = λ q. refl;
  mail = λ q. refl;
  deadlines = λ q. refl;
  names = λ name. refl;
  numbers = refl;
  births = refl;
  drawn = none_yet;
  unended = refl;
  out = refl;
  sends = refl;
  time = refl;
  over = refl;
  streams = refl;
  closed = refl;
  ended = tt;
  memories = tt;
  room = refl;
}

-- the program of the first start is there
there : {P : Type 0} (found : Option P) (test : P → Bool) → option_map_or test found false ≡ true → (program : P) × (found ≡ Some program)
there None test h = true_is_not_false (sym h)
there (Some program) test h = (program, refl)

first_program : {P : Type 0} (setting : Setting P) → Begins setting → HasProgram setting.programs setting.first
first_program {P = P} setting begins = there (slice_get setting.programs setting.first.«module») (λ (program : P). is_none (setting.begin program setting.first)) begins.begun

-- the world of a run in which nothing has happened
told_first : (book : Book) (start : Start) → book.births ≡ Born start ∷ [] → book.entries ≡ [] → told book ≡ first_world (Born start ∷ [])
told_first book start births none = told_none book none ∙ ap first_world births

none_giving : {E : Type 0} (home : Slot E) (b : Bool) → is_giving home ≡ false → is_giving (cond b home Nobody) ≡ false
none_giving home true is = is
none_giving home false is = refl

one_place : (room : ℕ) → 0 < room → 0 + 1 ≤ room
one_place room some = omega arith

no_row : (n : ℕ) → 0 ≤ n
no_row n = omega arith

-- FIRST. A node that holds process 1 at its begin, and nothing else, stands for the journal of its birth.
pub first_stands : {E P : Type 0} (engines : Meaning E P) (setting : Setting P) (book : Book) (held : Held E) (start : Start) (engine : E)
    → Begins setting → setting.first ≡ start → book.births ≡ Born start ∷ [] → book.entries ≡ [] → book.ends ≡ [] → 0 < book.entry_room
    → ((program : P) → slice_get setting.programs start.«module» ≡ Some program → engines.stands engine program start [] 0) → engines.phase engine ≡ Running
    → held ≡ born (empty_node E) 1 (child_seat engine start)
    → StandsFor engines setting book (told book) held
first_stands {E = E} engines setting book held start engine begins first births none ends room stands running is_held =
    let w : World = first_world (Born start ∷ []) in
    let is : told book ≡ w = told_first book start births none in
    let node : Held E = born (empty_node E) 1 (child_seat engine start) in
    let ends_are : EndsAreMemories setting (told book).process (told book).exits book.ends = rw (is, ends) tt in
    let one : length book.births ≡ (told book).spawns + 1 = ap (λ (bs : List Birth). length bs) births ∙ ap (λ (x : World). x.spawns + 1) (sym is) in
    let has : HasProgram setting.programs start = subst (λ (s : Start). HasProgram setting.programs s) first (first_program setting begins) in
    let number : start.pid ≡ 1 = ap (λ (s : Start). s.pid) (sym first) ∙ begins.numbered in
    let m : Mirrors engines setting w node [] =
    child_mirrors engines setting empty_world (empty_node E) [] start engine (empty_mirrors engines setting) (omega arith) refl number has stands running in
    let run : IsRun setting book = record {
      begins = begins;
      legal = record {
        first = ap (λ (bs : List Birth). slice_get bs 0) births ∙ ap (λ (s : Start). Some (Born s)) (sym first);
        births = one;
        entries = entries_allowed_none (Some (terms_of setting)) book none;
      };
      lives = lives_none setting book none;
      ends = ends_are;
    } in
    let holds : StandsFor engines setting book w node = record {
      run = run;
      mirrors = subst (λ (memories : List EndMemory). Mirrors engines setting w node memories) (sym ends) m;
      ready = refl;
      row = refl;
      performed = λ pid. none_giving (Home (child_seat engine start)) (nat_eq pid 1) refl;
      room = one_place book.entry_room room;
      row_bound = no_row (length book.entries);
    } in
    subst (λ (h : Held E). StandsFor engines setting book (told book) h) (sym is_held) (subst (λ (x : World). StandsFor engines setting book x node) (sym is) holds)
