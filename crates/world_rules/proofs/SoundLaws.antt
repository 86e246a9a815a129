-- The first world is sound, each allowed entry keeps it so, and so each world that a journal tells is sound.
use Rattle.std.specs.Prelude.{◌≡◌, ◌≢◌, ◌⊎◌, ℕ, ◌+◌, ◌≤◌, List, [], ◌∷◌, Option, None, Bool, true, false, ◌&&◌, nat_eq, nat_lt, nat_le, if◌then◌else◌, refl}
use Rattle.std.proofs.Common.{subst, sym, ◌∙◌, ap, inl, inr, arith}
use Rattle.std.proofs.lemmas.Bool.Decides.{eqb_tells, nat_tests}
use Rattle.host_port.specs.declared.start.Start.{Start}
use Rattle.world_rules.specs.declared.entry.Entry.{Entry}
use Rattle.world_rules.specs.declared.life.Birth.{Birth}
use Rattle.world_rules.specs.declared.life.Birth.TheVariants.{Born, Refused}
use Rattle.world_rules.specs.Views.{Deed, deed_of}
use Rattle.world_rules.specs.Mail.{most_messages}
use Rattle.world_rules.specs.Streams.{one_if}
use Rattle.world_rules.specs.World.{World, Process, Ready, core_of, is_away, is_ready, first_world, first_start, fresh_process}
use Rattle.world_rules.specs.Spawn.{next_number}
use Rattle.world_rules.specs.Rules.{happened, next}
use Rattle.world_rules.specs.Births.{Terms}
use Rattle.world_rules.specs.Allowed.{Allowed, DeedFits}
use Rattle.world_rules.specs.Book.{Book}
use Rattle.world_rules.specs.Told.{told, all_after, AllAllowed, TellsStart, IsTold}
use Rattle.world_rules.specs.Touches.{Touched, counts_of, GoOn, nobody}
use Rattle.world_rules.specs.Sound.{is_born, IsInOrder, AreInOrder, IsSound}
use Rattle.world_rules.specs.laws.BirthLaws.{none_is_some}
use Rattle.world_rules.specs.laws.KeepingLaws.{false_is_true}
use Rattle.world_rules.specs.laws.CarryLaws.{IsFresh, IsItsGive, carry}
use Rattle.world_rules.specs.laws.ToldLaws.{told_all, entries_allowed_all}
use Rattle.world_rules.proofs.WholeWalk.{deed_walk}
use Rattle.world_rules.proofs.Keeping.{Kept, Keeps, whole_kept}
use Rattle.world_rules.proofs.ReadyList.{queued_ready, front_ready}

-- ENTRIES

pub happened_kept : (terms : Option Terms) (births : List Birth) (w : World) (deed : Deed) → IsSound w → DeedFits terms births w deed →
    Kept w (happened births w deed)
happened_kept terms births w deed is fits =
    deed_walk Keeps whole_kept terms births w deed fits (λ pid front. front_ready w pid is.ready front) is.processes

pub entry_touches : (terms : Option Terms) (births : List Birth) (w : World) (entry : Entry) (pid : ℕ) → IsSound w → Allowed terms births w entry →
    Touched pid (w.process pid) ((next births w entry).process pid)
entry_touches terms births w entry pid is allowed = (happened_kept terms births w (deed_of entry) is allowed).touched pid

pub entry_counts : (terms : Option Terms) (births : List Birth) (w : World) (entry : Entry) → IsSound w → Allowed terms births w entry →
    GoOn (counts_of w) (counts_of (next births w entry))
entry_counts terms births w entry is allowed = (happened_kept terms births w (deed_of entry) is allowed).counts

pub entry_sound : (terms : Option Terms) (births : List Birth) (w : World) (entry : Entry) → IsSound w → Allowed terms births w entry →
    IsSound (next births w entry)
entry_sound terms births w entry is allowed =
    let order : AreInOrder (happened births w (deed_of entry)) = (happened_kept terms births w (deed_of entry) is allowed).order in
    record {
      ready = queued_ready terms births w (happened births w (deed_of entry)) (deed_of entry) is.ready allowed order;
      processes = record {
        undrawn = order.undrawn;
        drawn = order.drawn;
        each = order.each;
        over = order.over;
        names = order.names;
        links = order.links;
      };
    }

-- THE FIRST WORLD

first_number : (births : List Birth) → TellsStart births → (first_start births).pid ≡ 1
first_number [] tells = absurd tells
first_number (Born start ∷ births) tells = tells
first_number (Refused reply ∷ births) tells = absurd tells

nobody_in_order : (pid : ℕ) → IsInOrder pid nobody
nobody_in_order pid = record { own = λ e. false_is_true e; deadline = λ e. refl; mail = few; handles = tt }
  where
    few : 0 ≤ most_messages
    few = omega arith

child_in_order : (pid : ℕ) (start : Start) → start.pid ≡ pid → IsInOrder pid (fresh_process start Ready)
child_in_order pid start same = record { own = λ e. same; deadline = λ e. refl; mail = few; handles = tt }
  where
    few : 0 ≤ most_messages
    few = omega arith

pub first_sound : (births : List Birth) → TellsStart births → IsSound (first_world births)
first_sound births tells = record {
  ready = λ pid. listed pid (nat_eq pid 1);
  processes = record {
    undrawn = λ pid none. absent pid none (eqb_tells pid 1);
    drawn = λ pid is. there pid is (eqb_tells pid 1);
    each = λ pid. ordered pid (eqb_tells pid 1);
    over = λ e. false_is_true e;
    names = λ name pid e. absurd (none_is_some e);
    links = λ a b tag e. absurd (none_is_some e);
  };
}
  where
    listed : (pid : ℕ) (b : Bool) → one_if b 0 ≡ one_if (is_ready (if b then fresh_process (first_start births) Ready else nobody).stage) 0
    listed pid true = refl
    listed pid false = refl

    absent : (pid : ℕ) → (nat_lt 0 pid && nat_le pid 1) ≡ false → ((nat_eq pid 1 ≡ true) × (pid ≡ 1)) ⊎ ((nat_eq pid 1 ≡ false) × (pid ≢ 1))
        → (if nat_eq pid 1 then fresh_process (first_start births) Ready else nobody) ≡ nobody
    absent pid none (inl same) = false_is_true (sym none ∙ ap (λ (n : ℕ). nat_lt 0 n && nat_le n 1) same.1)
    absent pid none (inr differs) = ap (λ (b : Bool). if b then fresh_process (first_start births) Ready else nobody) differs.0

    only_first : (pid : ℕ) → (nat_lt 0 pid && nat_le pid 1) ≡ true → pid ≢ 1 → ⊥
    only_first pid is other = at (nat_lt 0 pid) (nat_le pid 1) refl refl is
      where
        low : (n : ℕ) → nat_lt 0 n ≡ true → nat_le n 1 ≡ true → n ≡ 1
        low n x y = grind (arith, nat_tests)

        at : (a b : Bool) → nat_lt 0 pid ≡ a → nat_le pid 1 ≡ b → (a && b) ≡ true → ⊥
        at true true x y e = other (low pid x y)
        at true false x y e = false_is_true e
        at false b x y e = false_is_true e

    there : (pid : ℕ) → (nat_lt 0 pid && nat_le pid 1) ≡ true → ((nat_eq pid 1 ≡ true) × (pid ≡ 1)) ⊎ ((nat_eq pid 1 ≡ false) × (pid ≢ 1))
        → is_born (if nat_eq pid 1 then fresh_process (first_start births) Ready else nobody).stage ≡ true
    there pid is (inl same) = ap (λ (b : Bool). is_born (if b then fresh_process (first_start births) Ready else nobody).stage) same.0
    there pid is (inr differs) = absurd (only_first pid is differs.1)

    ordered : (pid : ℕ) → ((nat_eq pid 1 ≡ true) × (pid ≡ 1)) ⊎ ((nat_eq pid 1 ≡ false) × (pid ≢ 1))
        → IsInOrder pid (if nat_eq pid 1 then fresh_process (first_start births) Ready else nobody)
    ordered pid (inl same) =
        subst (λ (b : Bool). IsInOrder pid (if b then fresh_process (first_start births) Ready else nobody)) (sym same.0)
        (child_in_order pid (first_start births) (first_number births tells ∙ sym same.1))
    ordered pid (inr differs) =
        subst (λ (b : Bool). IsInOrder pid (if b then fresh_process (first_start births) Ready else nobody)) (sym differs.0) (nobody_in_order pid)

-- WHAT IS TOLD

all_sound : (terms : Option Terms) (births : List Birth) (w : World) (entries : List Entry) → IsSound w → AllAllowed terms births w entries →
    IsSound (all_after births w entries)
all_sound terms births w [] is allowed = is
all_sound terms births w (entry ∷ entries) is allowed =
    all_sound terms births (next births w entry) entries (entry_sound terms births w entry is allowed.0) allowed.1

pub told_sound : (book : Book) → IsTold book → IsSound (told book)
told_sound book is =
    subst (λ (w : World). IsSound w) (sym (told_all book))
    (all_sound None book.births (first_world book.births) book.entries (first_sound book.births is.start) (entries_allowed_all None book is.entries))

-- the next number of a sound world is nobody's
pub sound_fresh : (w : World) → IsSound w → IsFresh w
sound_fresh w is = ap (λ (p : Process). is_away p.stage) (is.processes.undrawn (next_number w) (not_drawn w.numbers_drawn))
  where
    not_le : (n : ℕ) → nat_le (n + 1) n ≡ false
    not_le n = grind (arith, nat_tests)

    no_right : (a b : Bool) → b ≡ false → (a && b) ≡ false
    no_right true b e = e
    no_right false b e = refl

    not_drawn : (n : ℕ) → (nat_lt 0 (n + 1) && nat_le (n + 1) n) ≡ false
    not_drawn n = no_right (nat_lt 0 (n + 1)) (nat_le (n + 1) n) (not_le n)

pub told_carry : (book : Book) (births : List Birth) (entry : Entry) (pid : ℕ) → IsTold book → (IsItsGive pid (deed_of entry) → ⊥)
    → is_away ((told book).process pid).stage ≡ true
    → (core_of ((next births (told book) entry).process pid) ≡ core_of ((told book).process pid)) × (is_away ((next births (told book) entry).process pid).stage ≡ true)
told_carry book births entry pid is other away =
    carry births (told book) entry pid (sound_fresh (told book) (told_sound book is)) other away
