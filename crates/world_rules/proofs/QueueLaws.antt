-- The ready list is a queue: who became ready earlier is taken earlier.
use Rattle.std.specs.Prelude.{◌≡◌, ◌≢◌, ◌⊎◌, ℕ, ◌+◌, ◌<◌, List, [], ◌∷◌, ◌++◌, filter, cond, slice_get, Option, Some, Bool, true, false, nat_eq, if◌then◌else◌, refl}
use Rattle.std.proofs.Common.{subst, sym, ◌∙◌, ap, inl, inr, arith}
use Rattle.std.proofs.lemmas.Bool.Decides.{eqb_tells}
use Rattle.world_rules.specs.declared.entry.Entry.{Entry}
use Rattle.world_rules.specs.declared.life.Birth.{Birth}
use Rattle.world_rules.specs.Views.{Deed, deed_of}
use Rattle.world_rules.specs.Part.{is_among}
use Rattle.world_rules.specs.Streams.{one_if}
use Rattle.world_rules.specs.World.{World, Stage, is_ready}
use Rattle.world_rules.specs.Rules.{giver_of, ready_among, all_but, happened, next}
use Rattle.world_rules.specs.Births.{Terms}
use Rattle.world_rules.specs.Allowed.{Allowed, DeedFits}
use Rattle.world_rules.specs.Told.{AllAllowed}
use Rattle.world_rules.specs.Sound.{times, IsReadyList, IsSound}
use Rattle.world_rules.specs.Queue.{goes_before, IsAhead, StaysReady, NoneTakes}
use Rattle.world_rules.specs.laws.BirthLaws.{none_is_some, same_some}
use Rattle.world_rules.specs.laws.KeepingLaws.{false_is_true}
use Rattle.world_rules.proofs.ReadyList.{front_ready}
use Rattle.world_rules.proofs.SoundLaws.{entry_sound}
use Rattle.world_rules.proofs.Closing.{equal, decided, among_cases, among_append, among_left, among_right, among_filter, filter_among}
use Rattle.world_rules.proofs.Listing.{times_some, among_of_times}

-- ONE BEFORE ANOTHER

goes_across : (p q : ℕ) (xs ys : List ℕ) → is_among xs p ≡ true → is_among ys q ≡ true → goes_before p q (xs ++ ys) ≡ true
goes_across p q [] ys first second = false_is_true first
goes_across p q (x ∷ xs) ys first second = by (λ there. goes_across p q xs ys there second) (eqb_tells x p) (among_cases x xs p first)
  where
    by : (is_among xs p ≡ true → goes_before p q (xs ++ ys) ≡ true) → ((nat_eq x p ≡ true) × (x ≡ p)) ⊎ ((nat_eq x p ≡ false) × (x ≢ p))
        → (p ≡ x) ⊎ (is_among xs p ≡ true) → goes_before p q (x ∷ xs ++ ys) ≡ true
    by rest (inl same) there =
        ap (λ (b : Bool). if b then is_among (xs ++ ys) q else goes_before p q (xs ++ ys)) same.0 ∙ among_right xs ys q second
    by rest (inr other) (inl same) = absurd (other.1 (sym same))
    by rest (inr other) (inr there) =
        ap (λ (b : Bool). if b then is_among (xs ++ ys) q else goes_before p q (xs ++ ys)) other.0 ∙ rest there

goes_left : (p q : ℕ) (xs ys : List ℕ) → goes_before p q xs ≡ true → goes_before p q (xs ++ ys) ≡ true
goes_left p q [] ys is = false_is_true is
goes_left p q (x ∷ xs) ys is = by (λ there. goes_left p q xs ys there) (nat_eq x p) is
  where
    by : (goes_before p q xs ≡ true → goes_before p q (xs ++ ys) ≡ true) → (b : Bool) → (if b then is_among xs q else goes_before p q xs) ≡ true
        → (if b then is_among (xs ++ ys) q else goes_before p q (xs ++ ys)) ≡ true
    by rest true is = among_left xs ys q is
    by rest false is = rest is

goes_filter : (test : ℕ → Bool) (p q : ℕ) (xs : List ℕ) → test p ≡ true → test q ≡ true → goes_before p q xs ≡ true → goes_before p q (filter test xs) ≡ true
goes_filter test p q [] first second is = false_is_true is
goes_filter test p q (x ∷ xs) first second is = by (λ there. goes_filter test p q xs first second there) (test x) refl (eqb_tells x p)
  where
    kept : (goes_before p q xs ≡ true → goes_before p q (filter test xs) ≡ true) → (b : Bool) → (if b then is_among xs q else goes_before p q xs) ≡ true
        → (if b then is_among (filter test xs) q else goes_before p q (filter test xs)) ≡ true
    kept rest true is = filter_among test xs q is second
    kept rest false is = rest is

    by : (goes_before p q xs ≡ true → goes_before p q (filter test xs) ≡ true) → (b : Bool) → test x ≡ b
        → ((nat_eq x p ≡ true) × (x ≡ p)) ⊎ ((nat_eq x p ≡ false) × (x ≢ p))
        → goes_before p q (cond b (x ∷ filter test xs) (filter test xs)) ≡ true
    by rest true e which = kept rest (nat_eq x p) is
    by rest false e (inl same) = false_is_true (sym e ∙ ap (λ (n : ℕ). test n) same.1 ∙ first)
    by rest false e (inr other) = rest (sym (ap (λ (b : Bool). if b then is_among xs q else goes_before p q xs) other.0) ∙ is)

goes_among : (p q : ℕ) (xs : List ℕ) → goes_before p q xs ≡ true → is_among xs q ≡ true
goes_among p q [] is = false_is_true is
goes_among p q (x ∷ xs) is = behind (by (λ there. goes_among p q xs there) (nat_eq x p) is)
  where
    by : (goes_before p q xs ≡ true → is_among xs q ≡ true) → (b : Bool) → (if b then is_among xs q else goes_before p q xs) ≡ true → is_among xs q ≡ true
    by rest true is = is
    by rest false is = rest is

    behind : is_among xs q ≡ true → is_among (x ∷ xs) q ≡ true
    behind there = among_right (x ∷ []) xs q there

-- THE READY LIST

listed : (w : World) (pid : ℕ) → IsReadyList w → is_ready (w.process pid).stage ≡ true → is_among w.ready pid ≡ true
listed w pid ready is = among_of_times pid w.ready (some (times pid w.ready) (ready pid ∙ ap (λ (b : Bool). one_if b 0) is))
  where
    some : (n : ℕ) → n ≡ 0 + 1 → 0 < n
    some n e = omega (arith, e)

listed_ready : (w : World) (pid : ℕ) → IsReadyList w → is_among w.ready pid ≡ true → is_ready (w.process pid).stage ≡ true
listed_ready w pid ready there = by (decided (is_ready (w.process pid).stage))
  where
    no : (n : ℕ) → 0 < n → n ≡ 0 → ⊥
    no n some none = omega (arith, some, none)

    by : (is_ready (w.process pid).stage ≡ true) ⊎ (is_ready (w.process pid).stage ≡ false) → is_ready (w.process pid).stage ≡ true
    by (inl is) = is
    by (inr isnt) = absurd (no (times pid w.ready) (times_some pid w.ready there) (ready pid ∙ ap (λ (b : Bool). one_if b 0) isnt))

-- ONE ENTRY

-- those who stay keep their order, and others come behind them
queued_before : (test : ℕ → Bool) (p q : ℕ) (earlier come give : List ℕ) → test p ≡ true → test q ≡ true → is_among earlier p ≡ true
    → (is_among earlier q ≡ true → goes_before p q earlier ≡ true) → is_among (filter test earlier ++ come ++ give) q ≡ true
    → goes_before p q (filter test earlier ++ come ++ give) ≡ true
queued_before test p q earlier come give first second there ahead is = by (among_append (filter test earlier ++ come) give q is)
  where
    here : is_among (filter test earlier) p ≡ true
    here = filter_among test earlier p there first

    front : (is_among (filter test earlier) q ≡ true) ⊎ (is_among come q ≡ true) → goes_before p q (filter test earlier ++ come) ≡ true
    front (inl stays) =
        goes_left p q (filter test earlier) come (goes_filter test p q earlier first second (ahead (among_filter test earlier q stays).0))
    front (inr comes) = goes_across p q (filter test earlier) come here comes

    by : (is_among (filter test earlier ++ come) q ≡ true) ⊎ (is_among give q ≡ true) → goes_before p q (filter test earlier ++ come ++ give) ≡ true
    by (inl before) = goes_left p q (filter test earlier ++ come) give (front (among_append (filter test earlier) come q before))
    by (inr gives) = goes_across p q (filter test earlier ++ come) give (among_left (filter test earlier) come p here) gives

pub ahead_kept : (terms : Option Terms) (births : List Birth) (w : World) (entry : Entry) (p q : ℕ) → IsSound w → IsAhead w p q → Allowed terms births w entry
    → is_ready ((next births w entry).process p).stage ≡ true → IsAhead (next births w entry) p q
ahead_kept terms births w entry p q sound ahead allowed ready =
    let after : World = happened births w (deed_of entry) in
    let giver : List ℕ = giver_of (deed_of entry) in
    record {
      ready = ready;
      before = λ is.
          queued_before (λ pid. is_ready (after.process pid).stage) p q w.ready (ready_among after (all_but after (w.ready ++ giver))) (ready_among after giver) ready is
          (listed w p sound.ready ahead.ready) (λ there. ahead.before (listed_ready w q sound.ready there))
          (listed (next births w entry) q (entry_sound terms births w entry sound allowed).ready is);
    }

-- MANY ENTRIES

-- who is behind another isn't at the front
not_first : (w : World) (p q : ℕ) → IsReadyList w → IsAhead w p q → slice_get w.ready 0 ≡ Some q → ⊥
not_first w p q ready ahead front =
    let is : is_ready (w.process q).stage ≡ true = ap (λ (s : Stage). is_ready s) (front_ready w q ready front) in
    by w.ready front (ahead.before is) (ready q ∙ ap (λ (b : Bool). one_if b 0) is)
  where
    no : (n : ℕ) → 0 < n → n + 1 ≡ 0 + 1 → ⊥
    no n some e = omega (arith, some, e)

    either : (b : Bool) (x : ℕ) (xs : List ℕ) → (if b then is_among xs q else goes_before p q xs) ≡ true → is_among xs q ≡ true
    either true x xs is = is
    either false x xs is = goes_among p q xs is

    by : (xs : List ℕ) → slice_get xs 0 ≡ Some q → goes_before p q xs ≡ true → times q xs ≡ 0 + 1 → ⊥
    by [] front is once = absurd (none_is_some front)
    by (x ∷ xs) front is once =
        let here : q ≡ x = sym (same_some x q front) in
        no (times q xs) (times_some q xs (either (nat_eq x p) x xs is)) (sym (ap (λ (b : Bool). one_if b (times q xs)) (equal q x here)) ∙ once)

pub none_taken : (terms : Option Terms) (births : List Birth) (w : World) (entries : List Entry) (p q : ℕ) → IsSound w → IsAhead w p q → AllAllowed terms births w entries
    → StaysReady births w p entries → NoneTakes q entries
none_taken terms births w [] p q sound ahead allowed stays = tt
none_taken terms births w (entry ∷ entries) p q sound ahead allowed stays = (
  (λ worker is. not_first w p q sound.ready ahead (subst (λ (deed : Deed). DeedFits terms births w deed) is allowed.0).1),
  none_taken terms births (next births w entry) entries p q (entry_sound terms births w entry sound allowed.0)
      (ahead_kept terms births w entry p q sound ahead allowed.0 stays.0) allowed.1 stays.1,
)
