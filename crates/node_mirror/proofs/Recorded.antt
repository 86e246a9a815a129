-- One entry more in the journal, and the node that has made its steps.
use Rattle.std.specs.Prelude.{◌≡◌, ℕ, ◌+◌, ◌≤◌, List, [], ◌∷◌, ◌++◌, length, slice_get, Option, Some, Bool, true, false}
use Rattle.std.proofs.Common.{subst, sym, ◌∙◌, ap, arith, length-append}
use Rattle.world_rules.specs.declared.entry.Entry.{Entry}
use Rattle.world_rules.specs.declared.life.Birth.{Birth}
use Rattle.world_rules.specs.declared.life.Birth.TheVariants.{Born}
use Rattle.world_rules.specs.declared.life.Ended.{Ended as EndMemory}
use Rattle.world_rules.specs.Allowed.{Allowed}
use Rattle.world_rules.specs.Book.{Book, KeepsAll}
use Rattle.world_rules.specs.Births.{Terms}
use Rattle.world_rules.specs.Lives.{Setting, TurnIsRun, EndsAreMemories, terms_of}
use Rattle.world_rules.specs.Rules.{happened, giver_of, row_after, row_with, is_pending_give, is_early, queued, with_row}
use Rattle.world_rules.specs.Told.{told}
use Rattle.world_rules.specs.Views.{Deed, Taking, Giving, Timing, EndingAll, deed_of}
use Rattle.world_rules.specs.World.{World}
use Rattle.world_rules.specs.laws.BirthLaws.{none_is_some}
use Rattle.world_rules.specs.laws.ToldLaws.{told_last, entries_allowed_last}
use Rattle.world_rules.specs.laws.LifeLaws.{lives_last}
use Rattle.node_state.specs.Seats.{Meaning}
use Rattle.node_laws.proofs.Folds.{told-same, Legal-same, Lives-same}
use Rattle.node_mirror.specs.Fits.{Records}
use Rattle.node_mirror.specs.Held.{Held, Mirrors, StandsFor, kept_places}
use Rattle.node_mirror.specs.Slots.{is_giving}
use Rattle.node_mirror.specs.Steps.{Requeued}
use Rattle.node_mirror.proofs.Queues.{home_ready, requeued}

-- the ready list and the row are no part of what is mirrored
mirrors-queued : {E P : Type 0} {engines : Meaning E P} {setting : Setting P} (v : World) (held : Held E) (ends : List EndMemory) (earlier giver : List ℕ) (row : ℕ)
    → Mirrors engines setting v held ends → Mirrors engines setting (with_row row (queued earlier giver v)) held ends
mirrors-queued v held ends earlier giver row m = record {
  order = record { undrawn = m.order.undrawn; drawn = m.order.drawn; each = m.order.each; over = m.order.over; names = m.order.names; links = m.order.links };
  unmet = m.unmet;
  programs = m.programs;
  slots = m.slots;
  mail = m.mail;
  deadlines = m.deadlines;
  names = m.names;
  numbers = m.numbers;
  births = m.births;
  drawn = m.drawn;
  unended = m.unended;
  out = m.out;
  sends = m.sends;
  time = m.time;
  over = m.over;
  streams = m.streams;
  closed = m.closed;
  ended = m.ended;
  memories = m.memories;
  room = m.room;
}

-- a journal that has a first birth
begins_with : (births : List Birth) (birth : Birth) → slice_get births 0 ≡ Some birth → (rest : List Birth) × (births ≡ birth ∷ rest)
begins_with [] birth found = absurd (none_is_some found)
begins_with (b ∷ rest) birth found = (rest, cc)

-- the row grows by one at most
row_bound : (w : World) (deed : Deed) → row_after w deed ≤ w.row + 1
row_bound w (Taking worker pid) = more w.row
  where
    more : (n : ℕ) → n ≤ n + 1
    more n = omega arith
row_bound w (Giving give) = with_bound (is_pending_give (w.process give.pid).stage give.side) w.row
  where
    with_bound : (b : Bool) (n : ℕ) → row_with b n ≤ n + 1
    with_bound true n = omega arith
    with_bound false n = omega arith
row_bound w (Timing now) = with_bound (is_early w now) w.row
  where
    with_bound : (b : Bool) (n : ℕ) → row_with b n ≤ n + 1
    with_bound true n = omega arith
    with_bound false n = omega arith
row_bound w (EndingAll cause) = none w.row
  where
    none : (n : ℕ) → 0 ≤ n + 1
    none n = omega arith

bounded : (was is after n m : ℕ) → is ≡ after → after ≤ was + 1 → was ≤ n → m ≡ n + 1 → is ≤ m
bounded was is after n m e grown low more = omega (arith, e, grown, low, more)

-- STANDS. The world of the longer journal is what happened, queued; so the node stands for it.
pub stands-next : {E P : Type 0} {engines : Meaning E P} {setting : Setting P} (old new : Book) (was is : Held E) (v : World) (entry : Entry) (births : List Birth) (more : List EndMemory)
    → StandsFor engines setting old (told old) was → Records old new entry births more → Allowed (Some (terms_of setting)) new.births (told old) entry → TurnIsRun setting (told old) (deed_of entry)
    → happened new.births (told old) (deed_of entry) ≡ v → Mirrors engines setting v is new.ends → is.births ≡ length new.births → Requeued was.ready (giver_of (deed_of entry)) is
    → is.row ≡ row_after (told old) (deed_of entry) → ((pid : ℕ) → is_giving (is.slots pid) ≡ false) → kept_places is.out is.over ≤ new.entry_room → StandsFor engines setting new (told new) is
stands-next {engines = engines} {setting = setting} old new was is v entry births more stands records allowed turn happens m counted queue row idle room =
    let w : World = told old in
    let deed : Deed = deed_of entry in
    let terms : Option Terms = Some (terms_of setting) in
    let begun = begins_with old.births (Born setting.first) stands.run.legal.first in
    let longer : new.births ≡ Born setting.first ∷ begun.0 ++ births = records.births_are ∙ ap (λ (bs : List Birth). bs ++ births) begun.1 in
    let u : World = with_row (row_after w deed) (queued w.ready (giver_of deed) v) in
    let told_is : told new ≡ u =
    told_last terms old new entry (Born setting.first) begun.0 births begun.1 longer records.entries stands.run.legal.entries
    ∙ ap (λ (x : World). with_row (row_after w deed) (queued w.ready (giver_of deed) x)) happens in
    let mirrors : Mirrors engines setting u is new.ends = mirrors-queued v is new.ends w.ready (giver_of deed) (row_after w deed) m in
    let queue_is : u.ready ≡ is.ready = requeued v is w.ready (giver_of deed) m.order
    (λ q. home_ready engines setting.programs (v.process q) (is.slots q) (m.slots q) (idle q)) (subst (λ (xs : List ℕ). Requeued xs (giver_of deed) is) (sym stands.ready) queue) in
    record {
      run = record {
        begins = stands.run.begins;
        legal = record {
          first = ap (λ (bs : List Birth). slice_get bs 0) longer;
          births = sym counted ∙ sym m.births ∙ ap (λ (x : World). x.spawns + 1) (sym told_is);
          entries = entries_allowed_last terms old new entry (Born setting.first) begun.0 births begun.1 longer records.entries stands.run.legal.entries allowed;
        };
        lives = lives_last setting terms old new entry (Born setting.first) begun.0 births begun.1 longer records.entries stands.run.legal.entries stands.run.lives turn;
        ends = subst (λ (x : World). EndsAreMemories setting x.process x.exits new.ends) (sym told_is) mirrors.memories;
      };
      mirrors = subst (λ (x : World). Mirrors engines setting x is new.ends) (sym told_is) mirrors;
      ready = ap (λ (x : World). x.ready) told_is ∙ queue_is;
      row = ap (λ (x : World). x.row) told_is ∙ sym row;
      performed = idle;
      room = room;
      row_bound = bounded was.row is.row (row_after w deed) (length old.entries) (length new.entries) row
          (subst (λ (n : ℕ). row_after w deed ≤ n + 1) stands.row (row_bound w deed)) stands.row_bound
          (ap (λ (es : List Entry). length es) records.entries ∙ length-append old.entries (entry ∷ []));
    }

-- MORE ROOM. The same journal with more room.
pub stands-roomier : {E P : Type 0} {engines : Meaning E P} {setting : Setting P} (old new : Book) (held : Held E) → StandsFor engines setting old (told old) held → KeepsAll old new
    → StandsFor engines setting new (told new) held
stands-roomier {engines = engines} {setting = setting} old new held stands keeps =
    let same : told new ≡ told old = told-same old new keeps.births keeps.entries in
    record {
      run = record {
        begins = stands.run.begins;
        legal = Legal-same (terms_of setting) old new keeps.births keeps.entries stands.run.legal;
        lives = Lives-same setting old new keeps.births keeps.entries stands.run.lives;
        ends = rw (same, keeps.ends) stands.run.ends;
      };
      mirrors = rw (same, keeps.ends) stands.mirrors;
      ready = ap (λ (x : World). x.ready) same ∙ stands.ready;
      row = ap (λ (x : World). x.row) same ∙ stands.row;
      performed = stands.performed;
      room = enough (kept_places held.out held.over) old.entry_room new.entry_room stands.room keeps.entry_room;
      row_bound = subst (λ (es : List Entry). held.row ≤ length es) (sym keeps.entries) stands.row_bound;
    }
  where
    enough : (a b c : ℕ) → a ≤ b → b ≤ c → a ≤ c
    enough a b c x y = omega (arith, x, y)
