-- What the reading of the clock leaves, and how many quiet Ticks a journal has.
use Rattle.std.proofs.Common.{◌≡◌, ◌<◌, ◌≤◌, ℕ, ◌+◌, ◌-◌, ◌^◌, List, [], ◌∷◌, ◌++◌, length, min, slice_get, Option, Some, None, Bool, true, false, cond, nat_eq, is_some, refl, sym, ◌∙◌}
use Rattle.std.proofs.Common.{ap, subst, arith}
use Rattle.std.proofs.Common.{inl, inr}
use Rattle.std.proofs.lemmas.Bool.{cases_lt}
use Rattle.std.proofs.lemmas.Bool.Decides.{nat_tests}
use Rattle.outside.specs.Causes.{RoseOrFull}
use Rattle.host_port.specs.declared.call.Call.{Call}
use Rattle.host_port.specs.declared.request.Request.{Request}
use Rattle.host_port.specs.declared.start.Start.{Start}
use Rattle.host_port.specs.declared.start.StartRefusal.{StartRefusal}
use Rattle.host_port.specs.Standing.{Standing}
use Rattle.world_rules.specs.declared.entry.Entry.{Entry}
use Rattle.world_rules.specs.declared.entry.Entry.TheVariants.{Tick, Stall, Idle, Starve}
use Rattle.world_rules.specs.declared.life.Birth.{Birth}
use Rattle.world_rules.specs.Book.{Book, KeepsAll}
use Rattle.world_rules.specs.Views.{deed_of}
use Rattle.world_rules.specs.World.{World, first_world, is_ready}
use Rattle.world_rules.specs.Rules.{next}
use Rattle.world_rules.specs.Told.{told, all_after}
use Rattle.node_laws.proofs.ReadyList.{true_is_not_false}
use Rattle.node_laws.proofs.Folds.{told-last}
use Rattle.process_table.specs.Seen.{Seen, world_of}
use Rattle.process_table.specs.Takes.{IsTimed, Ticks, TakesOver, RecordsEntry}
use Rattle.lunatic_cli.specs.Quiet.{is_quiet, quiet_entries, quiet_in, HasRested}
use Rattle.lunatic_cli.specs.Resting.{HasRead}
use Rattle.lunatic_cli.proofs.Rounds.{IsTickedTo, timed-waits, ticked-to}
use Rattle.lunatic_cli.proofs.Steps.{RestsAt}

-- QUIET TICKS

quiet-last : (births : List Birth) (w : World) (es : List Entry) (e : Entry) →
    quiet_entries births w (es ++ e ∷ []) ≡ quiet_entries births w es + cond (is_quiet (next births (all_after births w es) e) (deed_of e)) 1 0
quiet-last births w [] e = omega arith
quiet-last births w (x ∷ es) e = let more = quiet-last births (next births w x) es e in omega (arith, more)

pub quiet-kept : (old new : Book) → new.births ≡ old.births → new.entries ≡ old.entries → quiet_in new ≡ quiet_in old
quiet-kept old new births entries = λ i. quiet_entries (births i) (first_world (births i)) (entries i)

pub quiet-more : (old new : Book) (e : Entry) → new.births ≡ old.births → new.entries ≡ old.entries ++ e ∷ [] → quiet_in new ≡ quiet_in old + cond (is_quiet (told new) (deed_of e)) 1 0
unfolding told
quiet-more old new e births entries =
    let was : quiet_in new ≡ quiet_entries old.births (first_world old.births) (old.entries ++ e ∷ []) = (λ i. quiet_entries (births i) (first_world (births i)) (entries i)) in
    was ∙ quiet-last old.births (first_world old.births) old.entries e
    ∙ ap (λ (w : World). quiet_in old + cond (is_quiet w (deed_of e)) 1 0) (sym (told-last old new e births entries))

-- an entry that is no quiet Tick
pub quiet-other : (old new : Book) (e : Entry) → new.births ≡ old.births → new.entries ≡ old.entries ++ e ∷ [] → is_quiet (told new) (deed_of e) ≡ false → quiet_in new ≡ quiet_in old
quiet-other old new e births entries loud =
    let more = quiet-more old new e births entries in
    let none : cond {A = ℕ} (is_quiet (told new) (deed_of e)) 1 0 ≡ 0 = ap (λ (b : Bool). cond {A = ℕ} b 1 0) loud in
    omega (arith, more, none)

pub one-or-none : (b : Bool) → cond {A = ℕ} b 1 0 ≤ 1
one-or-none true = omega arith
one-or-none false = omega arith

some-ready : (n : ℕ) → 0 < n → cond {A = ℕ} (nat_eq n 0) 1 0 ≡ 0
some-ready n h = let b : nat_eq n 0 ≡ false = grind (arith, nat_tests, h) in ap (λ (x : Bool). cond x 1 0) b

-- READ THE CLOCK

early-row : (early : Bool) (w u : World) → IsTickedTo w u early → u.ready ≡ [] → u.row ≡ w.row + 1
early-row true w u to none = to.row
early-row false w u to none = let one : List ℕ = 1 ∷ [] in let x : one ≡ [] = sym to.ready ∙ none in absurd (cc)

owes-none : (o : Option Request) → o ≡ None → cond {A = ℕ} (is_some o) 1 0 ≡ 0
owes-none o none = ap (λ (x : Option Request). cond {A = ℕ} (is_some x) 1 0) none

owes-ticked : (early : Bool) (w u : World) → IsTickedTo w u early → cond {A = ℕ} (is_some (u.process 1).owed) 1 0 ≤ cond {A = ℕ} (is_some (w.process 1).owed) 1 0
owes-ticked true w u to = let same : cond {A = ℕ} (is_some (u.process 1).owed) 1 0 ≡ cond (is_some (w.process 1).owed) 1 0 = ap (λ (x : Option Request). cond {A = ℕ} (is_some x) 1 0) to.owed in
    omega (arith, same)
owes-ticked false w u to = let none = owes-none (u.process 1).owed to.owed in omega (arith, none)

owing-ticked : (early : Bool) (w u : World) → IsTickedTo w u early → is_some (u.process 1).owed ≡ true → w.row ≤ u.row
owing-ticked true w u to owes = let longer : u.row ≡ w.row + 1 = to.row in omega (arith, longer)
owing-ticked false w u to owes = true_is_not_false (sym owes ∙ ap is_some to.owed)

module _ {P S : Type 0} (begin : P → Start → Option StartRefusal) (at : P → Start → List Call → ℕ → Option Standing) where
  pub has-read : (old new : Seen P S) (clock : Option ℕ) → Ticks old new 0 clock → RestsAt begin at old → IsTimed (world_of old)
      → HasRead (world_of old) (world_of new) (quiet_in old.book) (quiet_in new.book)
  has-read old new clock ticks rest timed =
      let w : World = world_of old in
      let waits = timed-waits w rest.at_home.drawn timed in
      let none : w.ready ≡ [] = rest.at_home.ready ∙ ap (λ s. cond (is_ready s) (1 ∷ []) []) waits.1 in
      let to = ticked-to old.book.births w ticks.now waits.0 rest.at_home.drawn waits.1 none in
      let is : world_of new ≡ next old.book.births w (Tick 0 ticks.now) = told-last old.book new.book (Tick 0 ticks.now) ticks.recorded.births ticks.recorded.entries in
      let there : IsTickedTo w (world_of new) to.0 = subst (λ (u : World). IsTickedTo w u to.0) (sym is) to.1 in
      let more = quiet-more old.book new.book (Tick 0 ticks.now) ticks.recorded.births ticks.recorded.entries in
      let few = one-or-none (nat_eq (length (world_of new).ready) 0) in
      record {
        fuel = there.fuel;
        owes = owes-ticked to.0 w (world_of new) there;
        owing = owing-ticked to.0 w (world_of new) there;
        over = there.over;
        early = λ empty _. early-row to.0 w (world_of new) there empty;
        one_more = omega (arith, more, few);
        no_fewer = omega (arith, more);
        waking = λ some. let zero_more = some-ready (length (world_of new).ready) some in omega (arith, more, zero_more);
      }

  pub not-read : (node : Seen P S) → (IsTimed (world_of node) → ⊥) → HasRead (world_of node) (world_of node) (quiet_in node.book) (quiet_in node.book)
  not-read node untimed = record {
    fuel = refl;
    owes = omega arith;
    owing = λ _. omega arith;
    over = refl;
    early = λ _ timed. absurd (untimed timed);
    one_more = omega arith;
    no_fewer = omega arith;
    waking = λ _. refl;
  }

-- RESTS

-- the rests so far, and those of a round
pub rested-more : (before mid after quiet n : ℕ) → min (before + quiet) (2 ^ 64 - 1) ≤ mid → min (mid + n) (2 ^ 64 - 1) ≤ after → min (before + (quiet + n)) (2 ^ 64 - 1) ≤ after
rested-more before mid after quiet n one two = omega (arith, one, two)

pub rested-last : (before mid after quiet n : ℕ) → min (before + quiet) (2 ^ 64 - 1) ≤ mid → mid ≤ after → n ≤ 1 → HasRested before after (quiet + n)
rested-last before mid after quiet n one two few = omega (arith, one, two, few)

-- a rest after a quiet Tick
pub rested-one : (before mid after n : ℕ) → n ≤ 1 → before ≤ mid → RoseOrFull mid after → min (before + n) (2 ^ 64 - 1) ≤ after
rested-one before mid after n few later rose = omega (arith, few, later, rose)

pub rested-none : (before after n : ℕ) → n ≡ 0 → before ≤ after → min (before + n) (2 ^ 64 - 1) ≤ after
rested-none before after n none later = omega (arith, none, later)

-- at the begin nothing is quiet
pub rested-first : (book : Book) (rests : ℕ) → book.entries ≡ [] → min (rests + quiet_in book) (2 ^ 64 - 1) ≤ rests
rested-first book rests blank =
    let none : quiet_in book ≡ 0 = ap (quiet_entries book.births (first_world book.births)) blank in
    omega (arith, none)

-- the quiet Ticks of a round

module _ {P S : Type 0} where
  pub quiet-starved : (old kept new : Seen P S) (over : Bool) → (world_of kept).over ≡ over → KeepsAll old.book kept.book → ((world_of kept).over ≡ true → new.book ≡ kept.book) →
      ((world_of kept).over ≡ false → RecordsEntry kept.book new.book (Starve 0)) → quiet_in new.book ≡ quiet_in old.book
  quiet-starved old kept new true is keeps same recorded = ap quiet_in (same is) ∙ quiet-kept old.book kept.book keeps.births keeps.entries
  quiet-starved old kept new false is keeps same recorded =
      let records = (recorded is).1 in
      quiet-other kept.book new.book (Starve 0) records.births records.entries refl ∙ quiet-kept old.book kept.book keeps.births keeps.entries

  pub quiet-stuck : (old new : Seen P S) (over : Bool) → (world_of old).over ≡ over → TakesOver old new 0 → quiet_in new.book ≡ quiet_in old.book
  quiet-stuck old new true is takes = ap quiet_in (takes.was_over is)
  quiet-stuck old new false is takes =
      elim (cases_lt (world_of old).row old.idle) as (λ _. quiet_in new.book ≡ quiet_in old.book) [
        | inl busy ↦ (let records = (takes.stalls is busy).recorded.1 in quiet-other old.book new.book (Stall 0) records.births records.entries refl)
        | inr idle ↦ (let records = (takes.idles is idle).1 in quiet-other old.book new.book (Idle 0) records.births records.entries refl)
      ]

-- what a round adds, by what the reading added
pub more-quiet : (was kept read now : ℕ) → kept ≡ was → now ≡ read → kept ≤ read → read ≤ kept + 1 → (n : ℕ) × (now ≡ was + n) × (n ≤ 1)
more-quiet was kept read now same again more few = (read - was, omega (arith, same, again, more, few), omega (arith, same, more, few))

pub front-some : (ready : List ℕ) (pid : ℕ) → slice_get ready 0 ≡ Some pid → 0 < length ready
front-some [] pid is = absurd (let x : None ≡ Some pid = is in cc)
front-some (first ∷ rest) pid is = omega arith
