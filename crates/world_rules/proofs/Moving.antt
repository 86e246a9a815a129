-- Each primitive change of what a process holds, with the moves that go with it.
use Rattle.std.specs.Prelude.{◌≡◌, ◌≢◌, ◌⊎◌, ℕ, ◌+◌, ◌<◌, ◌≤◌, List, [], ◌∷◌, ◌++◌, length, Option, Some, option_map, Bool, true, false, ◌&&◌, nat_eq, nat_lt, if◌then◌else◌, refl}
use Rattle.std.proofs.Common.{subst, sym, ◌∙◌, ap, inl, inr, arith, append-nil}
use Rattle.world_rules.specs.Part.{is_among, with_number, without_number, handles_in, handle_at, emptied, slots_of, Message}
use Rattle.world_rules.specs.Mail.{Letter, Signal, mail_handles}
use Rattle.world_rules.specs.Moves.{Place, Table, Scratch, Mail, Closed, Move, Pushed, Taken, Received, Shut, ShutScratch, after_move, Handled, after_one, closing}
use Rattle.world_rules.specs.Streams.{one_if}
use Rattle.world_rules.specs.World.{Process, put}
use Rattle.world_rules.specs.Sound.{times, Rise}
use Rattle.world_rules.specs.Placed.{letter_numbers}
use Rattle.world_rules.specs.laws.BirthLaws.{none_is_some, put_here}
use Rattle.world_rules.specs.laws.KeepingLaws.{false_is_true}
use Rattle.world_rules.proofs.Closing.{equal, unequal, among_cases, among_append, among_without}
use Rattle.world_rules.proofs.Rising.{with_rise, without_rise}
use Rattle.world_rules.proofs.Listing.{times_append, without_times, with_times, among_with, among_slot, emptied_at, emptied_times, pushed_at, pushed_handles, Lies, lies_number, posted_lies, signal_lies, posted_numbers, signal_numbers, posted_times, rise_last}
use Rattle.world_rules.proofs.Standing.{Holds, Standing, closes_none, closes_scratch, closes_one}
use Rattle.world_rules.proofs.Shifting.{hold_of, held_times, is_of, Shift, map_none, map_at, same_table, holds_now}

pub nothing_more : (xs ys : List ℕ) → ys ≡ [] → xs ++ ys ≡ xs ++ []
nothing_more xs ys e = ap (λ (zs : List ℕ). xs ++ zs) e

pub same_le : (n : ℕ) → n ≤ n
same_le n = omega arith

pub one_more : (b : Bool) (n : ℕ) → one_if b n ≡ n + one_if b 0
one_more true n = more n
  where
    more : (n : ℕ) → n + 1 ≡ n + (0 + 1)
    more n = omega arith
one_more false n = more n
  where
    more : (n : ℕ) → n ≡ n + 0
    more n = omega arith

module _ (h : Handled) (process : ℕ → Process) (numbers : ℕ) (closed : List ℕ) (streams sends : ℕ) (flight : List ℕ) (pid : ℕ) (old : Process)
    (stands : Standing h (put process pid old) numbers closed streams sends flight) where
  now : Holds h.owner sends pid old
  now = holds_now h process numbers closed streams sends flight pid old stands

  -- each place but those that the function moves stays
  pub kept_by : (f : ℕ → Place → Place) (k : ℕ) (place : Place) → h.owner k ≡ Some place → f k place ≡ place → option_map (f k) (h.owner k) ≡ Some place
  kept_by f k place at same = map_at (f k) (h.owner k) place at ∙ ap (λ (p : Place). Some p) same

  still_flying : (f : ℕ → Place → Place) → ((k q n slot : ℕ) → f k (Mail q n slot) ≡ Mail q n slot) → (k : ℕ) → is_among flight k ≡ true
      → (q : ℕ) × (n : ℕ) × (slot : ℕ) × (option_map (f k) (h.owner k) ≡ Some (Mail q n slot))
  still_flying f same k there =
      let found = stands.flying k there in
      (found.0, found.1, found.2, kept_by f k (Mail found.0 found.1 found.2) found.3 (same k found.0 found.1 found.2))

  -- A NEW SCRATCH MESSAGE. The streams of the old one are shut.

  scratch_other : (k : ℕ) (place : Place) → is_of pid place ≡ false → after_move (ShutScratch pid) k place ≡ place
  scratch_other k (Table q) apart = refl
  scratch_other k (Scratch q slot) apart = ap (λ (b : Bool). if b then Closed else Scratch q slot) apart
  scratch_other k (Mail q n slot) apart = refl
  scratch_other k Closed apart = refl

  pub shift_scratch : Shift h (after_one h (ShutScratch pid)) pid (hold_of old) (record (hold_of old) { slots = [] }) (handles_in (slots_of old.part.scratch))
      streams streams sends sends flight flight
  shift_scratch = record {
    holds = record {
      table = λ k there. map_at (after_move (ShutScratch pid) k) (h.owner k) (Table pid) (now.table k there);
      scratch = λ slot k there. absurd (none_is_some there);
      mail = λ k n slot there. map_at (after_move (ShutScratch pid) k) (h.owner k) (Mail pid n slot) (now.mail k n slot there);
      rise = now.rise;
      letters = now.letters;
      sent = now.sent;
    };
    others = λ k place at apart. kept_by (after_move (ShutScratch pid)) k place at (scratch_other k place apart);
    shut = λ k there.
        let found = among_slot (slots_of old.part.scratch) k there in
        map_at (after_move (ShutScratch pid) k) (h.owner k) (Scratch pid found.0) (now.scratch found.0 k found.1)
        ∙ ap (λ (b : Bool). Some (if b then Closed else Scratch pid found.0)) (equal pid pid refl);
    flying = still_flying (after_move (ShutScratch pid)) (λ k q n slot. refl);
    none = λ k e. stands.none k (map_none (after_move (ShutScratch pid) k) (h.owner k) e);
    some = λ k more. ap (λ (o : Option Place). option_map (after_move (ShutScratch pid) k) o) (stands.some k more);
    drawn = stands.drawn;
    order = ap (λ (xs : List ℕ). h.closed ++ xs)
        (closes_scratch h (put process pid old) numbers closed streams sends flight stands pid
        ∙ ap (λ (p : Process). handles_in (slots_of p.part.scratch)) (put_here process pid old));
    more = same_le sends;
    count = λ k.
        ap (λ (n : ℕ). n + times k (handles_in (slots_of old.part.scratch)) + times k flight + one_if (nat_lt k streams) 0)
        (held_times k (record (hold_of old) { slots = [] }))
        ∙ around (times k old.part.handles) (times k (handles_in (slots_of old.part.scratch))) (times k (mail_handles old.mail)) (times k flight)
        (one_if (nat_lt k streams) 0)
        ∙ ap (λ (n : ℕ). n + times k flight + one_if (nat_lt k streams) 0) (sym (held_times k (hold_of old)));
  }
    where
      around : (a b c d e : ℕ) → a + 0 + c + b + d + e ≡ a + b + c + d + e
      around a b c d e = omega arith

  -- PUSHED. A stream of the table comes behind the slots.

  pub shift_pushed : (handle : ℕ) → is_among old.part.handles handle ≡ true →
      Shift h (after_one h (Pushed handle pid (length (slots_of old.part.scratch)))) pid (hold_of old)
      (record { handles = without_number handle old.part.handles; slots = slots_of old.part.scratch ++ Some handle ∷ []; box = old.mail }) [] streams streams sends sends
      flight flight
  shift_pushed handle there = record {
    holds = record {
      table = λ k here. let both = among_without handle old.part.handles k here in stays k (Table pid) (now.table k both.0) both.1;
      scratch = λ s k here. by s k (pushed_at (slots_of old.part.scratch) handle s k here);
      mail = λ k n s here. stays k (Mail pid n s) (now.mail k n s here) (λ same. absurd (no_mail k n s same (now.mail k n s here)));
      rise = without_rise handle old.part.handles now.rise;
      letters = now.letters;
      sent = now.sent;
    };
    others = λ k place at apart. stays k place at (λ same. absurd (elsewhere k place same at apart));
    shut = λ k here. false_is_true here;
    flying = λ k here.
        let found = stands.flying k here in
        (found.0, found.1, found.2, stays k (Mail found.0 found.1 found.2) found.3 (λ same. absurd (no_mail_of k found.0 found.1 found.2 same found.3)));
    none = λ k e. stands.none k (map_none (after_move move k) (h.owner k) e);
    some = λ k more. ap (λ (o : Option Place). option_map (after_move move k) o) (stands.some k more);
    drawn = stands.drawn;
    order = nothing_more h.closed (closing h move) (closes_none h move (λ k place. refl));
    more = same_le sends;
    count = λ k.
        ap (λ (n : ℕ). n + 0 + times k flight + one_if (nat_lt k streams) 0)
        (held_times k (record { handles = without_number handle old.part.handles; slots = slots_of old.part.scratch ++ Some handle ∷ []; box = old.mail })
        ∙ ap (λ (n : ℕ). times k (without_number handle old.part.handles) + n + times k (mail_handles old.mail))
        (ap (λ (xs : List ℕ). times k xs) (pushed_handles (slots_of old.part.scratch) handle) ∙ times_append k (handles_in (slots_of old.part.scratch)) (handle ∷ [])))
        ∙ around (times k (without_number handle old.part.handles)) (times k old.part.handles) (one_if (nat_eq k handle) 0) (times k (handles_in (slots_of old.part.scratch)))
        (times k (mail_handles old.mail)) (times k flight) (one_if (nat_lt k streams) 0)
        (without_times handle k old.part.handles now.rise there ∙ one_more (nat_eq k handle) (times k (without_number handle old.part.handles)))
        ∙ ap (λ (n : ℕ). n + times k flight + one_if (nat_lt k streams) 0) (sym (held_times k (hold_of old)));
  }
    where
      move : Move
      move = Pushed handle pid (length (slots_of old.part.scratch))

      around : (w t one s m f o : ℕ) → t ≡ w + one → w + (s + one) + m + 0 + f + o ≡ t + s + m + f + o
      around w t one s m f o e = omega (arith, e)

      stays : (k : ℕ) (place : Place) → h.owner k ≡ Some place → k ≢ handle
          → option_map (λ (p : Place). if nat_eq k handle then Scratch pid (length (slots_of old.part.scratch)) else p) (h.owner k) ≡ Some place
      stays k place at other =
          map_at (λ (p : Place). if nat_eq k handle then Scratch pid (length (slots_of old.part.scratch)) else p) (h.owner k) place at
          ∙ ap (λ (b : Bool). Some (if b then Scratch pid (length (slots_of old.part.scratch)) else place)) (unequal k handle other)

      here_table : (k : ℕ) → k ≡ handle → h.owner k ≡ Some (Table pid)
      here_table k same = ap (λ (n : ℕ). h.owner n) same ∙ now.table handle there

      elsewhere : (k : ℕ) (place : Place) → k ≡ handle → h.owner k ≡ Some place → is_of pid place ≡ false → ⊥
      elsewhere k place same at apart = false_is_true (sym apart ∙ same_table (h.owner k) pid place (here_table k same) at)

      no_mail_of : (k q n s : ℕ) → k ≡ handle → h.owner k ≡ Some (Mail q n s) → ⊥
      no_mail_of k q n s same at = let first = here_table k same in cc

      no_mail : (k n s : ℕ) → k ≡ handle → h.owner k ≡ Some (Mail pid n s) → ⊥
      no_mail k n s same at = no_mail_of k pid n s same at

      no_scratch : (k s : ℕ) → k ≡ handle → h.owner k ≡ Some (Scratch pid s) → ⊥
      no_scratch k s same at = let first = here_table k same in cc

      by : (s k : ℕ) → (handle_at (slots_of old.part.scratch) s ≡ Some k) ⊎ ((s ≡ length (slots_of old.part.scratch)) × (k ≡ handle))
          → option_map (λ (p : Place). if nat_eq k handle then Scratch pid (length (slots_of old.part.scratch)) else p) (h.owner k) ≡ Some (Scratch pid s)
      by s k (inl before) =
          stays k (Scratch pid s) (now.scratch s k before) (λ same. absurd (no_scratch k s same (now.scratch s k before)))
      by s k (inr last) =
          map_at (λ (p : Place). if nat_eq k handle then Scratch pid (length (slots_of old.part.scratch)) else p) (h.owner k) (Table pid) (here_table k last.1)
          ∙ ap (λ (b : Bool). Some (if b then Scratch pid (length (slots_of old.part.scratch)) else Table pid)) (equal k handle last.1)
          ∙ ap (λ (n : ℕ). Some (Scratch pid n)) (sym last.0)

  -- TAKEN. The stream of a slot joins the table.

  pub shift_taken : (slot handle : ℕ) → handle_at (slots_of old.part.scratch) slot ≡ Some handle →
      Shift h (after_one h (Taken pid slot)) pid (hold_of old)
      (record { handles = with_number handle old.part.handles; slots = emptied (slots_of old.part.scratch) slot; box = old.mail }) [] streams streams sends sends
      flight flight
  shift_taken slot handle there = record {
    holds = record {
      table = λ k here. by k (among_with handle old.part.handles k here);
      scratch = λ s k here.
          let both = emptied_at (slots_of old.part.scratch) slot handle s k there here in
          map_at (after_move (Taken pid slot) k) (h.owner k) (Scratch pid s) (now.scratch s k both.1)
          ∙ ap (λ (b : Bool). Some (if b then Table pid else Scratch pid s)) (not_here (nat_eq pid pid) (nat_eq s slot) (unequal s slot both.0));
      mail = λ k n s here. map_at (after_move (Taken pid slot) k) (h.owner k) (Mail pid n s) (now.mail k n s here);
      rise = with_rise handle old.part.handles now.rise;
      letters = now.letters;
      sent = now.sent;
    };
    others = λ k place at apart. kept_by (after_move (Taken pid slot)) k place at (other k place apart);
    shut = λ k here. false_is_true here;
    flying = still_flying (after_move (Taken pid slot)) (λ k q n s. refl);
    none = λ k e. stands.none k (map_none (after_move (Taken pid slot) k) (h.owner k) e);
    some = λ k more. ap (λ (o : Option Place). option_map (after_move (Taken pid slot) k) o) (stands.some k more);
    drawn = stands.drawn;
    order = nothing_more h.closed (closing h (Taken pid slot)) (closes_none h (Taken pid slot) (λ k place. refl));
    more = same_le sends;
    count = λ k.
        ap (λ (n : ℕ). n + 0 + times k flight + one_if (nat_lt k streams) 0)
        (held_times k (record { handles = with_number handle old.part.handles; slots = emptied (slots_of old.part.scratch) slot; box = old.mail }))
        ∙ around (times k (with_number handle old.part.handles)) (times k old.part.handles) (one_if (nat_eq k handle) 0)
        (times k (handles_in (emptied (slots_of old.part.scratch) slot))) (times k (handles_in (slots_of old.part.scratch)))
        (times k (mail_handles old.mail)) (times k flight) (one_if (nat_lt k streams) 0)
        (with_times handle k old.part.handles (absent (is_among old.part.handles handle) refl) ∙ one_more (nat_eq k handle) (times k old.part.handles))
        (emptied_times k (slots_of old.part.scratch) slot handle there ∙ one_more (nat_eq k handle) (times k (handles_in (emptied (slots_of old.part.scratch) slot))))
        ∙ ap (λ (n : ℕ). n + times k flight + one_if (nat_lt k streams) 0) (sym (held_times k (hold_of old)));
  }
    where
      around : (w t one e s m f o : ℕ) → w ≡ t + one → s ≡ e + one → w + e + m + 0 + f + o ≡ t + s + m + f + o
      around w t one e s m f o x y = omega (arith, x, y)

      here_scratch : h.owner handle ≡ Some (Scratch pid slot)
      here_scratch = now.scratch slot handle there

      two_places : h.owner handle ≡ Some (Table pid) → ⊥
      two_places at = let first = here_scratch in cc

      absent : (b : Bool) → is_among old.part.handles handle ≡ b → is_among old.part.handles handle ≡ false
      absent true e = absurd (two_places (now.table handle e))
      absent false e = e

      not_here : (a b : Bool) → b ≡ false → (a && b) ≡ false
      not_here true b e = e
      not_here false b e = refl

      is_here : (a b : Bool) → a ≡ true → b ≡ true → (a && b) ≡ true
      is_here true b x y = y
      is_here false b x y = false_is_true x

      not_of : (a b : Bool) → a ≡ false → (a && b) ≡ false
      not_of true b e = false_is_true (sym e)
      not_of false b e = refl

      other : (k : ℕ) (place : Place) → is_of pid place ≡ false → after_move (Taken pid slot) k place ≡ place
      other k (Table q) apart = refl
      other k (Scratch q s) apart = ap (λ (b : Bool). if b then Table pid else Scratch q s) (not_of (nat_eq q pid) (nat_eq s slot) apart)
      other k (Mail q n s) apart = refl
      other k Closed apart = refl

      by : (k : ℕ) → (k ≡ handle) ⊎ (is_among old.part.handles k ≡ true) → option_map (after_move (Taken pid slot) k) (h.owner k) ≡ Some (Table pid)
      by k (inl same) =
          map_at (after_move (Taken pid slot) k) (h.owner k) (Scratch pid slot) (ap (λ (n : ℕ). h.owner n) same ∙ here_scratch)
          ∙ ap (λ (b : Bool). Some (if b then Table pid else Scratch pid slot))
          (is_here (nat_eq pid pid) (nat_eq slot slot) (equal pid pid refl) (equal slot slot refl))
      by k (inr before) = map_at (after_move (Taken pid slot) k) (h.owner k) (Table pid) (now.table k before)

  -- DROPPED. A stream of the table is shut.

  pub shift_dropped : (handle : ℕ) → is_among old.part.handles handle ≡ true →
      Shift h (after_one h (Shut handle)) pid (hold_of old) (record (hold_of old) { handles = without_number handle old.part.handles }) (handle ∷ [])
      streams streams sends sends flight flight
  shift_dropped handle there = record {
    holds = record {
      table = λ k here. let both = among_without handle old.part.handles k here in stays k (Table pid) (now.table k both.0) both.1;
      scratch = λ s k here. stays k (Scratch pid s) (now.scratch s k here) (λ same. absurd (no_scratch k s same (now.scratch s k here)));
      mail = λ k n s here. stays k (Mail pid n s) (now.mail k n s here) (λ same. absurd (no_mail k pid n s same (now.mail k n s here)));
      rise = without_rise handle old.part.handles now.rise;
      letters = now.letters;
      sent = now.sent;
    };
    others = λ k place at apart. stays k place at (λ same. absurd (elsewhere k place same at apart));
    shut = λ k here. gone k (among_cases handle [] k here);
    flying = λ k here.
        let found = stands.flying k here in
        (found.0, found.1, found.2, stays k (Mail found.0 found.1 found.2) found.3 (λ same. absurd (no_mail k found.0 found.1 found.2 same found.3)));
    none = λ k e. stands.none k (map_none (after_move (Shut handle) k) (h.owner k) e);
    some = λ k more. ap (λ (o : Option Place). option_map (after_move (Shut handle) k) o) (stands.some k more);
    drawn = stands.drawn;
    order = ap (λ (xs : List ℕ). h.closed ++ xs)
        (closes_one h (put process pid old) numbers closed streams sends flight stands pid handle
        (ap (λ (p : Process). is_among p.part.handles handle) (put_here process pid old) ∙ there));
    more = same_le sends;
    count = λ k.
        ap (λ (n : ℕ). n + times k (handle ∷ []) + times k flight + one_if (nat_lt k streams) 0)
        (held_times k (record (hold_of old) { handles = without_number handle old.part.handles }))
        ∙ around (times k (without_number handle old.part.handles)) (times k old.part.handles) (one_if (nat_eq k handle) 0)
        (times k (handles_in (slots_of old.part.scratch))) (times k (mail_handles old.mail)) (times k flight) (one_if (nat_lt k streams) 0)
        (without_times handle k old.part.handles now.rise there ∙ one_more (nat_eq k handle) (times k (without_number handle old.part.handles)))
        ∙ ap (λ (n : ℕ). n + times k flight + one_if (nat_lt k streams) 0) (sym (held_times k (hold_of old)));
  }
    where
      around : (w t one s m f o : ℕ) → t ≡ w + one → w + s + m + one + f + o ≡ t + s + m + f + o
      around w t one s m f o e = omega (arith, e)

      stays : (k : ℕ) (place : Place) → h.owner k ≡ Some place → k ≢ handle
          → option_map (λ (p : Place). if nat_eq k handle then Closed else p) (h.owner k) ≡ Some place
      stays k place at other =
          map_at (λ (p : Place). if nat_eq k handle then Closed else p) (h.owner k) place at
          ∙ ap (λ (b : Bool). Some (if b then Closed else place)) (unequal k handle other)

      here_table : (k : ℕ) → k ≡ handle → h.owner k ≡ Some (Table pid)
      here_table k same = ap (λ (n : ℕ). h.owner n) same ∙ now.table handle there

      elsewhere : (k : ℕ) (place : Place) → k ≡ handle → h.owner k ≡ Some place → is_of pid place ≡ false → ⊥
      elsewhere k place same at apart = false_is_true (sym apart ∙ same_table (h.owner k) pid place (here_table k same) at)

      no_mail : (k q n s : ℕ) → k ≡ handle → h.owner k ≡ Some (Mail q n s) → ⊥
      no_mail k q n s same at = let first = here_table k same in cc

      no_scratch : (k s : ℕ) → k ≡ handle → h.owner k ≡ Some (Scratch pid s) → ⊥
      no_scratch k s same at = let first = here_table k same in cc

      gone : (k : ℕ) → (k ≡ handle) ⊎ (is_among [] k ≡ true) → option_map (λ (p : Place). if nat_eq k handle then Closed else p) (h.owner k) ≡ Some Closed
      gone k (inl same) =
          map_at (λ (p : Place). if nat_eq k handle then Closed else p) (h.owner k) (Table pid) (here_table k same)
          ∙ ap (λ (b : Bool). Some (if b then Closed else Table pid)) (equal k handle same)
      gone k (inr none) = false_is_true none

  -- RECEIVED. The streams of a message that was on its way come into an empty scratch area.

  pub shift_received : (number : ℕ) (message : Message) → slots_of old.part.scratch ≡ [] → flight ≡ handles_in message.slots
      → ((slot k : ℕ) → handle_at message.slots slot ≡ Some k → h.owner k ≡ Some (Mail pid number slot))
      → ((n : ℕ) → is_among (letter_numbers old.mail) n ≡ true → n ≢ number)
      → Shift h (after_one h (Received pid number)) pid (hold_of old) (record (hold_of old) { slots = message.slots }) [] streams streams sends sends flight []
  shift_received number message empty comes flies distinct = record {
    holds = record {
      table = λ k here. map_at (after_move (Received pid number) k) (h.owner k) (Table pid) (now.table k here);
      scratch = λ s k here.
          map_at (after_move (Received pid number) k) (h.owner k) (Mail pid number s) (flies s k here)
          ∙ ap (λ (b : Bool). Some (if b then Scratch pid s else Mail pid number s))
          (is_here (nat_eq pid pid) (nat_eq number number) (equal pid pid refl) (equal number number refl));
      mail = λ k n s here.
          map_at (after_move (Received pid number) k) (h.owner k) (Mail pid n s) (now.mail k n s here)
          ∙ ap (λ (b : Bool). Some (if b then Scratch pid s else Mail pid n s))
          (not_here (nat_eq pid pid) (nat_eq n number) (unequal n number (distinct n (lies_number old.mail k n s here))));
      rise = now.rise;
      letters = now.letters;
      sent = now.sent;
    };
    others = λ k place at apart. kept_by (after_move (Received pid number)) k place at (other k place apart);
    shut = λ k here. false_is_true here;
    flying = λ k here. false_is_true here;
    none = λ k e. stands.none k (map_none (after_move (Received pid number) k) (h.owner k) e);
    some = λ k more. ap (λ (o : Option Place). option_map (after_move (Received pid number) k) o) (stands.some k more);
    drawn = stands.drawn;
    order = nothing_more h.closed (closing h (Received pid number)) (closes_none h (Received pid number) (λ k place. refl));
    more = same_le sends;
    count = λ k.
        ap (λ (n : ℕ). n + 0 + 0 + one_if (nat_lt k streams) 0) (held_times k (record (hold_of old) { slots = message.slots }))
        ∙ around (times k old.part.handles) (times k (handles_in message.slots)) (times k (mail_handles old.mail)) (times k flight) (one_if (nat_lt k streams) 0)
        (times k (handles_in (slots_of old.part.scratch))) (ap (λ (xs : List ℕ). times k xs) comes) (ap (λ (xs : List (Option ℕ)). times k (handles_in xs)) empty)
        ∙ ap (λ (n : ℕ). n + times k flight + one_if (nat_lt k streams) 0) (sym (held_times k (hold_of old)));
  }
    where
      around : (a s m f o t : ℕ) → f ≡ s → t ≡ 0 → a + s + m + 0 + 0 + o ≡ a + t + m + f + o
      around a s m f o t x y = omega (arith, x, y)

      not_here : (a b : Bool) → b ≡ false → (a && b) ≡ false
      not_here true b e = e
      not_here false b e = refl

      is_here : (a b : Bool) → a ≡ true → b ≡ true → (a && b) ≡ true
      is_here true b x y = y
      is_here false b x y = false_is_true x

      not_of : (a b : Bool) → a ≡ false → (a && b) ≡ false
      not_of true b e = false_is_true (sym e)
      not_of false b e = refl

      other : (k : ℕ) (place : Place) → is_of pid place ≡ false → after_move (Received pid number) k place ≡ place
      other k (Table q) apart = refl
      other k (Scratch q s) apart = refl
      other k (Mail q n s) apart = ap (λ (b : Bool). if b then Scratch pid s else Mail q n s) (not_of (nat_eq q pid) (nat_eq n number) apart)
      other k Closed apart = refl

  -- POSTED. A message that was on its way lies last in the mailbox.

  pub shift_posted : (number : ℕ) (message : Message) → flight ≡ handles_in message.slots
      → ((slot k : ℕ) → handle_at message.slots slot ≡ Some k → h.owner k ≡ Some (Mail pid number slot))
      → ((n : ℕ) → is_among (letter_numbers old.mail) n ≡ true → n < number) → number < sends
      → Shift h h pid (hold_of old) (record (hold_of old) { box = old.mail ++ Letter number message ∷ [] }) [] streams streams sends sends flight []
  shift_posted number message comes flies below within = record {
    holds = record {
      table = now.table;
      scratch = now.scratch;
      mail = λ k n s here. by k n s (posted_lies old.mail number message k n s here);
      rise = now.rise;
      letters = subst (λ (xs : List ℕ). Rise xs) (sym (posted_numbers old.mail number message)) (rise_last number (letter_numbers old.mail) now.letters below);
      sent = λ n here.
          last n (among_append (letter_numbers old.mail) (number ∷ []) n (sym (ap (λ (xs : List ℕ). is_among xs n) (posted_numbers old.mail number message)) ∙ here));
    };
    others = λ k place at apart. at;
    shut = λ k here. false_is_true here;
    flying = λ k here. false_is_true here;
    none = stands.none;
    some = stands.some;
    drawn = stands.drawn;
    order = sym (append-nil h.closed);
    more = same_le sends;
    count = λ k.
        ap (λ (n : ℕ). n + 0 + 0 + one_if (nat_lt k streams) 0)
        (held_times k (record (hold_of old) { box = old.mail ++ Letter number message ∷ [] })
        ∙ ap (λ (n : ℕ). times k old.part.handles + times k (handles_in (slots_of old.part.scratch)) + n) (posted_times k old.mail (Letter number message)))
        ∙ around (times k old.part.handles) (times k (handles_in (slots_of old.part.scratch))) (times k (mail_handles old.mail)) (times k (handles_in message.slots))
        (times k flight) (one_if (nat_lt k streams) 0) (ap (λ (xs : List ℕ). times k xs) comes)
        ∙ ap (λ (n : ℕ). n + times k flight + one_if (nat_lt k streams) 0) (sym (held_times k (hold_of old)));
  }
    where
      around : (a s m l f o : ℕ) → f ≡ l → a + s + (m + l) + 0 + 0 + o ≡ a + s + m + f + o
      around a s m l f o x = omega (arith, x)

      by : (k n s : ℕ) → Lies old.mail k n s ⊎ ((number ≡ n) × (handle_at message.slots s ≡ Some k)) → h.owner k ≡ Some (Mail pid n s)
      by k n s (inl before) = now.mail k n s before
      by k n s (inr new) = flies s k new.1 ∙ ap (λ (m : ℕ). Some (Mail pid m s)) new.0

      final : (n : ℕ) → (n ≡ number) ⊎ (is_among [] n ≡ true) → n < sends
      final n (inl same) = subst (λ (m : ℕ). m < sends) (sym same) within
      final n (inr none) = false_is_true none

      last : (n : ℕ) → (is_among (letter_numbers old.mail) n ≡ true) ⊎ (is_among (number ∷ []) n ≡ true) → n < sends
      last n (inl before) = now.sent n before
      last n (inr new) = final n (among_cases number [] n new)

  -- a signal brings no stream
  pub shift_signal : (tag : ℕ) → Shift h h pid (hold_of old) (record (hold_of old) { box = old.mail ++ Signal tag ∷ [] }) [] streams streams sends sends flight flight
  shift_signal tag = record {
    holds = record {
      table = now.table;
      scratch = now.scratch;
      mail = λ k n s here. now.mail k n s (signal_lies old.mail tag k n s here);
      rise = now.rise;
      letters = subst (λ (xs : List ℕ). Rise xs) (sym (signal_numbers old.mail tag)) now.letters;
      sent = λ n here. now.sent n (sym (ap (λ (xs : List ℕ). is_among xs n) (signal_numbers old.mail tag)) ∙ here);
    };
    others = λ k place at apart. at;
    shut = λ k here. false_is_true here;
    flying = stands.flying;
    none = stands.none;
    some = stands.some;
    drawn = stands.drawn;
    order = sym (append-nil h.closed);
    more = same_le sends;
    count = λ k.
        ap (λ (n : ℕ). n + 0 + times k flight + one_if (nat_lt k streams) 0)
        (held_times k (record (hold_of old) { box = old.mail ++ Signal tag ∷ [] })
        ∙ ap (λ (n : ℕ). times k old.part.handles + times k (handles_in (slots_of old.part.scratch)) + n) (posted_times k old.mail (Signal tag)))
        ∙ around (times k old.part.handles) (times k (handles_in (slots_of old.part.scratch))) (times k (mail_handles old.mail)) (times k flight) (one_if (nat_lt k streams) 0)
        ∙ ap (λ (n : ℕ). n + times k flight + one_if (nat_lt k streams) 0) (sym (held_times k (hold_of old)));
  }
    where
      around : (a s m f o : ℕ) → a + s + (m + 0) + 0 + f + o ≡ a + s + m + f + o
      around a s m f o = omega arith
