-- The changes that begin where no stream is on its way: a send, a pick, an opened stream, an end, a doom and a birth.
use Rattle.std.specs.Prelude.{◌≡◌, ◌≢◌, ◌⊎◌, ℕ, ◌+◌, ◌<◌, ◌≤◌, List, [], ◌∷◌, ◌++◌, Option, Some, None, option_map, Bool, true, false, ◌||◌, nat_eq, nat_lt, nat_le, if◌then◌else◌, refl}
use Rattle.std.proofs.Common.{subst, sym, ◌∙◌, ap, inl, inr, arith, append-nil}
use Rattle.std.proofs.Math.Numerals.{add-one}
use Rattle.std.proofs.lemmas.Bool.Decides.{eqb_tells, leb_tells}
use Rattle.host_port.specs.declared.start.Start.{Start}
use Rattle.world_rules.specs.Part.{is_among, with_number, handles_in, handle_at, slots_of, scratch_handles}
use Rattle.world_rules.specs.Mail.{MailItem, Letter, Signal, pick, unpicked, item_handles, mail_handles}
use Rattle.world_rules.specs.Moves.{Place, Table, Scratch, Mail, Closed, Move, Opened, Sent, Shut, ShutMail, ShutAll, after_move, is_shut_by, Handled, after_one, closing}
use Rattle.world_rules.specs.Streams.{one_if}
use Rattle.world_rules.specs.World.{Process, Ready, put, fresh_process}
use Rattle.world_rules.specs.Ends.{held_handles}
use Rattle.world_rules.specs.Sound.{times}
use Rattle.world_rules.specs.laws.BirthLaws.{none_is_some, put_here}
use Rattle.world_rules.specs.laws.KeepingLaws.{false_is_true}
use Rattle.world_rules.proofs.Closing.{equal, unequal, same_of, among_cases, among_first, among_append, in_order_is}
use Rattle.world_rules.proofs.Rising.{with_rise}
use Rattle.world_rules.proofs.Listing.{lt_true, lt_false, times_append, with_times, among_with, among_slot, mail_lies, unpicked_numbers, unpicked_rise, unpicked_lies, picked_times, picked_lies}
use Rattle.world_rules.proofs.Standing.{Holds, total, InFlight, Standing, closes_none, closes_mail, closes_all, stands_drawn, shut_place, shut_at}
use Rattle.world_rules.proofs.Shifting.{hold_of, held_times, is_of, Shift, map_none, map_at, total_above, holds_now}
use Rattle.world_rules.proofs.Moving.{nothing_more, same_le, one_more, kept_by}

-- what is drawn next, or was before
one_below : (k s : ℕ) → one_if (nat_lt k (s + 1)) 0 ≡ one_if (nat_lt k s) 0 + one_if (nat_eq k s) 0
one_below k s = by (leb_tells k s) (eqb_tells k s)
  where
    less : (k s : ℕ) → k ≤ s → k ≢ s → k < s
    less k s x y = omega (arith, x, y)

    next : (k s : ℕ) → k ≤ s → k < s + 1
    next k s x = omega (arith, x)

    back : (k s : ℕ) → k ≡ s → s ≤ k
    back k s x = omega (arith, x)

    past : (k s : ℕ) → s < k → s + 1 ≤ k
    past k s x = omega (arith, x)

    over : (k s : ℕ) → s < k → s ≤ k
    over k s x = omega (arith, x)

    not_past : (k s : ℕ) → s < k → k ≡ s → ⊥
    not_past k s x y = omega (arith, x, y)

    at : (a b c : Bool) → nat_lt k (s + 1) ≡ a → nat_lt k s ≡ b → nat_eq k s ≡ c → one_if a 0 ≡ one_if b 0 + one_if c 0 →
        one_if (nat_lt k (s + 1)) 0 ≡ one_if (nat_lt k s) 0 + one_if (nat_eq k s) 0
    at a b c x y z e =
        ap (λ (t : Bool). one_if t 0) x ∙ e ∙ ap (λ (t : Bool). one_if t 0 + one_if c 0) (sym y)
        ∙ ap (λ (t : Bool). one_if (nat_lt k s) 0 + one_if t 0) (sym z)

    by : ((nat_le k s ≡ true) × (k ≤ s)) ⊎ ((nat_le k s ≡ false) × (s < k)) → ((nat_eq k s ≡ true) × (k ≡ s)) ⊎ ((nat_eq k s ≡ false) × (k ≢ s))
        → one_if (nat_lt k (s + 1)) 0 ≡ one_if (nat_lt k s) 0 + one_if (nat_eq k s) 0
    by (inl low) (inl same) = at true false true (lt_true k (s + 1) (next k s low.1)) (lt_false k s (back k s same.1)) same.0 refl
    by (inl low) (inr other) = at true true false (lt_true k (s + 1) (next k s low.1)) (lt_true k s (less k s low.1 other.1)) other.0 refl
    by (inr high) (inl same) = absurd (not_past k s high.1 same.1)
    by (inr high) (inr other) = at false false false (lt_false k (s + 1) (past k s high.1)) (lt_false k s (over k s high.1)) other.0 refl

module _ (h : Handled) (process : ℕ → Process) (numbers : ℕ) (closed : List ℕ) (streams sends : ℕ) (pid : ℕ) (old : Process)
    (stands : Standing h (put process pid old) numbers closed streams sends []) where
  now : Holds h.owner sends pid old
  now = holds_now h process numbers closed streams sends [] pid old stands

  -- SENT. The streams of the scratch message are on their way to the mailbox of `to`, in the message of the next number.

  pub sent_to : (to slot k : ℕ) → handle_at (slots_of old.part.scratch) slot ≡ Some k → (after_one h (Sent pid to sends)).owner k ≡ Some (Mail to sends slot)
  sent_to to slot k there =
      map_at (after_move (Sent pid to sends) k) (h.owner k) (Scratch pid slot) (now.scratch slot k there)
      ∙ ap (λ (b : Bool). Some (if b then Mail to sends slot else Scratch pid slot)) (equal pid pid refl)

  pub shift_sent : (to : ℕ) → Shift h (after_one h (Sent pid to sends)) pid (hold_of old) (record (hold_of old) { slots = [] }) [] streams streams sends (sends + 1)
      [] (handles_in (slots_of old.part.scratch))
  shift_sent to = record {
    holds = record {
      table = λ k there. map_at (after_move move k) (h.owner k) (Table pid) (now.table k there);
      scratch = λ slot k there. absurd (none_is_some there);
      mail = λ k n slot there. map_at (after_move move k) (h.owner k) (Mail pid n slot) (now.mail k n slot there);
      rise = now.rise;
      letters = now.letters;
      sent = λ n there. later n (now.sent n there);
    };
    others = λ k place at apart.
        kept_by h process numbers closed streams sends [] pid old stands (after_move move) k place at (other k place apart);
    shut = λ k there. false_is_true there;
    flying = λ k there. let found = among_slot (slots_of old.part.scratch) k there in (to, sends, found.0, sent_to to found.0 k found.1);
    none = λ k e. stands.none k (map_none (after_move move k) (h.owner k) e);
    some = λ k more. ap (λ (o : Option Place). option_map (after_move move k) o) (stands.some k more);
    drawn = stands.drawn;
    order = nothing_more h.closed (closing h move) (closes_none h move (λ k place. refl));
    more = up sends;
    count = λ k.
        ap (λ (n : ℕ). n + 0 + times k (handles_in (slots_of old.part.scratch)) + one_if (nat_lt k streams) 0) (held_times k (record (hold_of old) { slots = [] }))
        ∙ around (times k old.part.handles) (times k (handles_in (slots_of old.part.scratch))) (times k (mail_handles old.mail)) (one_if (nat_lt k streams) 0)
        ∙ ap (λ (n : ℕ). n + 0 + one_if (nat_lt k streams) 0) (sym (held_times k (hold_of old)));
  }
    where
      move : Move
      move = Sent pid to sends

      up : (n : ℕ) → n ≤ n + 1
      up n = omega arith

      later : (n : ℕ) → n < sends → n < sends + 1
      later n less = omega (arith, less)

      around : (a s m o : ℕ) → a + 0 + m + 0 + s + o ≡ a + s + m + 0 + o
      around a s m o = omega arith

      other : (k : ℕ) (place : Place) → is_of pid place ≡ false → after_move (Sent pid to sends) k place ≡ place
      other k (Table q) apart = refl
      other k (Scratch q slot) apart = ap (λ (b : Bool). if b then Mail to sends slot else Scratch q slot) apart
      other k (Mail q n slot) apart = refl
      other k Closed apart = refl

  -- PICKED. The streams of an item of the mailbox are on their way out of it.

  picked_flight : (tags : List ℕ) (item : MailItem) → pick tags old.mail ≡ Some item → (k : ℕ) → is_among (item_handles item) k ≡ true → InFlight h.owner k
  picked_flight tags (Letter number message) found k there =
      let at = among_slot message.slots k there in
      (pid, number, at.0, now.mail k number at.0 (picked_lies tags old.mail number message at.0 k found at.1))
  picked_flight tags (Signal tag) found k there = false_is_true there

  pub shift_picked : (tags : List ℕ) (item : MailItem) → pick tags old.mail ≡ Some item
      → Shift h h pid (hold_of old) (record (hold_of old) { box = unpicked tags old.mail }) [] streams streams sends sends [] (item_handles item)
  shift_picked tags item found = record {
    holds = record {
      table = now.table;
      scratch = now.scratch;
      mail = λ k n s there. now.mail k n s (unpicked_lies tags old.mail k n s there);
      rise = now.rise;
      letters = unpicked_rise tags old.mail now.letters;
      sent = λ n there. now.sent n (unpicked_numbers tags old.mail n there);
    };
    others = λ k place at apart. at;
    shut = λ k there. false_is_true there;
    flying = λ k there. picked_flight tags item found k there;
    none = stands.none;
    some = stands.some;
    drawn = stands.drawn;
    order = sym (append-nil h.closed);
    more = same_le sends;
    count = λ k.
        ap (λ (n : ℕ). n + 0 + times k (item_handles item) + one_if (nat_lt k streams) 0) (held_times k (record (hold_of old) { box = unpicked tags old.mail }))
        ∙ around (times k old.part.handles) (times k (handles_in (slots_of old.part.scratch))) (times k (mail_handles (unpicked tags old.mail))) (times k (mail_handles old.mail))
        (times k (item_handles item)) (one_if (nat_lt k streams) 0) (picked_times k tags old.mail item found)
        ∙ ap (λ (n : ℕ). n + 0 + one_if (nat_lt k streams) 0) (sym (held_times k (hold_of old)));
  }
    where
      around : (a s u m i o : ℕ) → m ≡ u + i → a + s + u + 0 + i + o ≡ a + s + m + 0 + o
      around a s u m i o x = omega (arith, x)

  -- OPENED. The next number joins the table.

  undrawn : (k : ℕ) (place : Place) → h.owner k ≡ Some place → k ≢ streams
  undrawn k place at same = no (stands_drawn h (put process pid old) numbers closed streams sends [] stands k place at) same
    where
      no : k < streams → k ≡ streams → ⊥
      no less same = omega (arith, less, same)

  opened_stays : (k : ℕ) (place : Place) → h.owner k ≡ Some place → (if nat_eq k streams then Some (Table pid) else h.owner k) ≡ Some place
  opened_stays k place at = ap (λ (b : Bool). if b then Some (Table pid) else h.owner k) (unequal k streams (undrawn k place at)) ∙ at

  opened_none : (k : ℕ) → (if nat_eq k streams then Some (Table pid) else h.owner k) ≡ None → streams + 1 ≤ k
  opened_none k e = by (eqb_tells k streams)
    where
      next : streams ≤ k → k ≢ streams → streams + 1 ≤ k
      next low other = omega (arith, low, other)

      by : ((nat_eq k streams ≡ true) × (k ≡ streams)) ⊎ ((nat_eq k streams ≡ false) × (k ≢ streams)) → streams + 1 ≤ k
      by (inl same) = absurd (none_is_some (sym (sym (ap (λ (b : Bool). if b then Some (Table pid) else h.owner k) same.0) ∙ e)))
      by (inr other) = next (stands.none k (sym (ap (λ (b : Bool). if b then Some (Table pid) else h.owner k) other.0) ∙ e)) other.1

  opened_some : (k : ℕ) → streams + 1 ≤ k → (if nat_eq k streams then Some (Table pid) else h.owner k) ≡ None
  opened_some k more = ap (λ (b : Bool). if b then Some (Table pid) else h.owner k) (unequal k streams apart) ∙ stands.some k low
    where
      apart : k ≢ streams
      apart = omega (arith, more)

      low : streams ≤ k
      low = omega (arith, more)

  pub shift_opened : Shift h (after_one h (Opened streams pid)) pid (hold_of old) (record (hold_of old) { handles = with_number streams old.part.handles }) []
      streams (streams + 1) sends sends [] []
  shift_opened = record {
    holds = record {
      table = λ k there. by k (among_with streams old.part.handles k there);
      scratch = λ s k there. opened_stays k (Scratch pid s) (now.scratch s k there);
      mail = λ k n s there. opened_stays k (Mail pid n s) (now.mail k n s there);
      rise = with_rise streams old.part.handles now.rise;
      letters = now.letters;
      sent = now.sent;
    };
    others = λ k place at apart. opened_stays k place at;
    shut = λ k there. false_is_true there;
    flying = λ k there. false_is_true there;
    none = opened_none;
    some = opened_some;
    drawn = ap (λ (n : ℕ). n + 1) stands.drawn;
    order = nothing_more h.closed (closing h (Opened streams pid)) (closes_none h (Opened streams pid) (λ k place. refl));
    more = same_le sends;
    count = λ k.
        ap (λ (n : ℕ). n + 0 + 0 + one_if (nat_lt k streams) 0) (held_times k (record (hold_of old) { handles = with_number streams old.part.handles }))
        ∙ around (times k (with_number streams old.part.handles)) (times k old.part.handles) (one_if (nat_eq k streams) 0)
        (times k (handles_in (slots_of old.part.scratch))) (times k (mail_handles old.mail)) (one_if (nat_lt k streams) 0) (one_if (nat_lt k (streams + 1)) 0)
        (with_times streams k old.part.handles (absent (is_among old.part.handles streams) refl) ∙ one_more (nat_eq k streams) (times k old.part.handles))
        (one_below k streams)
        ∙ ap (λ (n : ℕ). n + 0 + one_if (nat_lt k (streams + 1)) 0) (sym (held_times k (hold_of old)));
  }
    where
      around : (w t one s m o p : ℕ) → w ≡ t + one → p ≡ o + one → w + s + m + 0 + 0 + o ≡ t + s + m + 0 + p
      around w t one s m o p x y = omega (arith, x, y)

      absent : (b : Bool) → is_among old.part.handles streams ≡ b → is_among old.part.handles streams ≡ false
      absent true e = absurd (undrawn streams (Table pid) (now.table streams e) refl)
      absent false e = e

      by : (k : ℕ) → (k ≡ streams) ⊎ (is_among old.part.handles k ≡ true) → (if nat_eq k streams then Some (Table pid) else h.owner k) ≡ Some (Table pid)
      by k (inl same) = ap (λ (b : Bool). if b then Some (Table pid) else h.owner k) (equal k streams same)
      by k (inr before) = opened_stays k (Table pid) (now.table k before)

  -- ENDED. Everything that the process holds is shut.

  pub shift_ended : Shift h (after_one h (ShutAll pid)) pid (hold_of old) (record { handles = []; slots = []; box = [] }) (held_handles old)
      streams streams sends sends [] []
  shift_ended = record {
    holds = record {
      table = λ k there. false_is_true there;
      scratch = λ slot k there. absurd (none_is_some there);
      mail = λ k n slot there. false_is_true there;
      rise = tt;
      letters = tt;
      sent = λ n there. false_is_true there;
    };
    others = λ k place at apart.
        kept_by h process numbers closed streams sends [] pid old stands (after_move (ShutAll pid)) k place at (other k place apart);
    shut = λ k there. by k (among_append (old.part.handles ++ scratch_handles old.part) (mail_handles old.mail) k there);
    flying = λ k there. false_is_true there;
    none = λ k e. stands.none k (map_none (after_move (ShutAll pid) k) (h.owner k) e);
    some = λ k more. ap (λ (o : Option Place). option_map (after_move (ShutAll pid) k) o) (stands.some k more);
    drawn = stands.drawn;
    order = ap (λ (xs : List ℕ). h.closed ++ xs)
        (closes_all h (put process pid old) numbers closed streams sends stands pid ∙ ap (λ (p : Process). held_handles p) (put_here process pid old));
    more = same_le sends;
    count = λ k. around (times k (held_handles old)) (one_if (nat_lt k streams) 0);
  }
    where
      around : (a o : ℕ) → 0 + a + 0 + o ≡ a + 0 + o
      around a o = omega arith

      or_none : (a : Bool) → a ≡ false → (a || false || false) ≡ false
      or_none true e = false_is_true (sym e)
      or_none false e = refl

      other : (k : ℕ) (place : Place) → is_of pid place ≡ false → after_move (ShutAll pid) k place ≡ place
      other k (Table q) apart = ap (λ (b : Bool). if (b || false || false) then Closed else Table q) apart
      other k (Scratch q s) apart = ap (λ (b : Bool). if (b || false) then Closed else Scratch q s) apart
      other k (Mail q n s) apart = ap (λ (b : Bool). if b then Closed else Mail q n s) apart
      other k Closed apart = refl

      before : (k : ℕ) → (is_among old.part.handles k ≡ true) ⊎ (is_among (scratch_handles old.part) k ≡ true)
          → option_map (after_move (ShutAll pid) k) (h.owner k) ≡ Some Closed
      before k (inl there) =
          map_at (after_move (ShutAll pid) k) (h.owner k) (Table pid) (now.table k there)
          ∙ ap (λ (b : Bool). Some (if (b || false || false) then Closed else Table pid)) (equal pid pid refl)
      before k (inr there) =
          let found = among_slot (slots_of old.part.scratch) k there in
          map_at (after_move (ShutAll pid) k) (h.owner k) (Scratch pid found.0) (now.scratch found.0 k found.1)
          ∙ ap (λ (b : Bool). Some (if (b || false) then Closed else Scratch pid found.0)) (equal pid pid refl)

      by : (k : ℕ) → (is_among (old.part.handles ++ scratch_handles old.part) k ≡ true) ⊎ (is_among (mail_handles old.mail) k ≡ true)
          → option_map (after_move (ShutAll pid) k) (h.owner k) ≡ Some Closed
      by k (inl there) = before k (among_append old.part.handles (scratch_handles old.part) k there)
      by k (inr there) =
          let found = mail_lies old.mail k there in
          map_at (after_move (ShutAll pid) k) (h.owner k) (Mail pid found.0 found.1) (now.mail k found.0 found.1 found.2)
          ∙ ap (λ (b : Bool). Some (if b then Closed else Mail pid found.0 found.1)) (equal pid pid refl)

  -- DOOMED. The mailbox is shut.

  pub shift_doomed : Shift h (after_one h (ShutMail pid)) pid (hold_of old) (record (hold_of old) { box = [] }) (mail_handles old.mail) streams streams sends sends [] []
  shift_doomed = record {
    holds = record {
      table = λ k there. map_at (after_move (ShutMail pid) k) (h.owner k) (Table pid) (now.table k there);
      scratch = λ slot k there. map_at (after_move (ShutMail pid) k) (h.owner k) (Scratch pid slot) (now.scratch slot k there);
      mail = λ k n slot there. false_is_true there;
      rise = now.rise;
      letters = tt;
      sent = λ n there. false_is_true there;
    };
    others = λ k place at apart.
        kept_by h process numbers closed streams sends [] pid old stands (after_move (ShutMail pid)) k place at (other k place apart);
    shut = λ k there.
        let found = mail_lies old.mail k there in
        map_at (after_move (ShutMail pid) k) (h.owner k) (Mail pid found.0 found.1) (now.mail k found.0 found.1 found.2)
        ∙ ap (λ (b : Bool). Some (if b then Closed else Mail pid found.0 found.1)) (equal pid pid refl);
    flying = λ k there. false_is_true there;
    none = λ k e. stands.none k (map_none (after_move (ShutMail pid) k) (h.owner k) e);
    some = λ k more. ap (λ (o : Option Place). option_map (after_move (ShutMail pid) k) o) (stands.some k more);
    drawn = stands.drawn;
    order = ap (λ (xs : List ℕ). h.closed ++ xs)
        (closes_mail h (put process pid old) numbers closed streams sends stands pid ∙ ap (λ (p : Process). mail_handles p.mail) (put_here process pid old));
    more = same_le sends;
    count = λ k.
        ap (λ (n : ℕ). n + times k (mail_handles old.mail) + 0 + one_if (nat_lt k streams) 0) (held_times k (record (hold_of old) { box = [] }))
        ∙ around (times k old.part.handles) (times k (handles_in (slots_of old.part.scratch))) (times k (mail_handles old.mail)) (one_if (nat_lt k streams) 0)
        ∙ ap (λ (n : ℕ). n + 0 + one_if (nat_lt k streams) 0) (sym (held_times k (hold_of old)));
  }
    where
      around : (a s m o : ℕ) → a + s + 0 + m + 0 + o ≡ a + s + m + 0 + o
      around a s m o = omega arith

      other : (k : ℕ) (place : Place) → is_of pid place ≡ false → after_move (ShutMail pid) k place ≡ place
      other k (Table q) apart = refl
      other k (Scratch q s) apart = refl
      other k (Mail q n s) apart = ap (λ (b : Bool). if b then Closed else Mail q n s) apart
      other k Closed apart = refl

-- OPENED AND SHUT. The next number is drawn and shut.

module _ (h : Handled) (process : ℕ → Process) (numbers : ℕ) (closed : List ℕ) (streams sends : ℕ)
    (stands : Standing h process numbers closed streams sends []) where
  abbrev both_moves : ℕ → Handled
  both_moves pid = after_one (after_one h (Opened streams pid)) (Shut streams)

  pub opened_shut : (pid : ℕ) → Standing (both_moves pid) process numbers (closed ++ streams ∷ []) (streams + 1) sends []
  opened_shut pid = record {
    each = λ q.
        let held : Holds h.owner sends q (process q) = stands.each q in
        record {
          table = λ k there. stays k (Table q) (held.table k there);
          scratch = λ s k there. stays k (Scratch q s) (held.scratch s k there);
          mail = λ k n s there. stays k (Mail q n s) (held.mail k n s there);
          rise = held.rise;
          letters = held.letters;
          sent = held.sent;
        };
    shut = λ k there. by k (among_append closed (streams ∷ []) k there);
    flying = λ k there. false_is_true there;
    none = λ k e. none k (eqb_tells k streams) (map_none (after_move (Shut streams) k) (opened k) e);
    some = λ k more.
        ap (λ (o : Option Place). option_map (after_move (Shut streams) k) o)
        (ap (λ (b : Bool). if b then Some (Table pid) else h.owner k) (unequal k streams (apart_of k more)) ∙ stands.some k (low_of k more));
    drawn = ap (λ (n : ℕ). n + 1) stands.drawn;
    order =
        ap (λ (xs : List ℕ). xs ++ closing (after_one h (Opened streams pid)) (Shut streams))
        (nothing_more h.closed (closing h (Opened streams pid)) (closes_none h (Opened streams pid) (λ k place. refl)) ∙ append-nil h.closed ∙ stands.order)
        ∙ ap (λ (xs : List ℕ). closed ++ xs) closes_it;
    once = λ k.
        ap (λ (n : ℕ). total k process numbers + n + 0) (times_append k closed (streams ∷ []))
        ∙ around (total k process numbers) (times k closed) (one_if (nat_eq k streams) 0) (one_if (nat_lt k streams) 0) (one_if (nat_lt k (streams + 1)) 0)
        (stands.once k) (one_below k streams);
  }
    where
      around : (t c one o p : ℕ) → t + c + 0 ≡ o → p ≡ o + one → t + (c + one) + 0 ≡ p
      around t c one o p x y = omega (arith, x, y)

      apart_of : (k : ℕ) → streams + 1 ≤ k → k ≢ streams
      apart_of k more = omega (arith, more)

      low_of : (k : ℕ) → streams + 1 ≤ k → streams ≤ k
      low_of k more = omega (arith, more)

      opened : ℕ → Option Place
      opened k = if nat_eq k streams then Some (Table pid) else h.owner k

      undrawn_of : (k : ℕ) (place : Place) → h.owner k ≡ Some place → k ≢ streams
      undrawn_of k place at same = no (stands_drawn h process numbers closed streams sends [] stands k place at) same
        where
          no : k < streams → k ≡ streams → ⊥
          no less same = omega (arith, less, same)

      stays : (k : ℕ) (place : Place) → h.owner k ≡ Some place
          → option_map (λ (p : Place). if nat_eq k streams then Closed else p) (if nat_eq k streams then Some (Table pid) else h.owner k) ≡ Some place
      stays k place at =
          let apart : nat_eq k streams ≡ false = unequal k streams (undrawn_of k place at) in
          map_at (λ (p : Place). if nat_eq k streams then Closed else p) (if nat_eq k streams then Some (Table pid) else h.owner k) place
          (ap (λ (b : Bool). if b then Some (Table pid) else h.owner k) apart ∙ at)
          ∙ ap (λ (b : Bool). Some (if b then Closed else place)) apart

      gone : (k : ℕ) → k ≡ streams
          → option_map (λ (p : Place). if nat_eq k streams then Closed else p) (if nat_eq k streams then Some (Table pid) else h.owner k) ≡ Some Closed
      gone k same =
          map_at (λ (p : Place). if nat_eq k streams then Closed else p) (if nat_eq k streams then Some (Table pid) else h.owner k) (Table pid)
          (ap (λ (b : Bool). if b then Some (Table pid) else h.owner k) (equal k streams same))
          ∙ ap (λ (b : Bool). Some (if b then Closed else Table pid)) (equal k streams same)

      new : (k : ℕ) → (k ≡ streams) ⊎ (is_among [] k ≡ true)
          → option_map (λ (p : Place). if nat_eq k streams then Closed else p) (if nat_eq k streams then Some (Table pid) else h.owner k) ≡ Some Closed
      new k (inl same) = gone k same
      new k (inr none) = false_is_true none

      by : (k : ℕ) → (is_among closed k ≡ true) ⊎ (is_among (streams ∷ []) k ≡ true)
          → option_map (λ (p : Place). if nat_eq k streams then Closed else p) (if nat_eq k streams then Some (Table pid) else h.owner k) ≡ Some Closed
      by k (inl before) = stays k Closed (stands.shut k before)
      by k (inr last) = new k (among_cases streams [] k last)

      none : (k : ℕ) → ((nat_eq k streams ≡ true) × (k ≡ streams)) ⊎ ((nat_eq k streams ≡ false) × (k ≢ streams))
          → (if nat_eq k streams then Some (Table pid) else h.owner k) ≡ None → streams + 1 ≤ k
      none k (inl same) e = absurd (none_is_some (sym (sym (ap (λ (b : Bool). if b then Some (Table pid) else h.owner k) same.0) ∙ e)))
      none k (inr other) e = next (stands.none k (sym (ap (λ (b : Bool). if b then Some (Table pid) else h.owner k) other.0) ∙ e)) other.1
        where
          next : streams ≤ k → k ≢ streams → streams + 1 ≤ k
          next low other = omega (arith, low, other)

      closes_it : closing (after_one h (Opened streams pid)) (Shut streams) ≡ streams ∷ []
      closes_it =
          in_order_is (after_one h (Opened streams pid)).owner (h.drawn + 1) (is_shut_by (after_one h (Opened streams pid)).owner (Shut streams)) (streams ∷ []) (tt, tt)
          (λ k there. within k (among_cases streams [] k there))
          (λ k less is. among_first streams [] k (same_of k streams (shut_place (after_one h (Opened streams pid)).owner (Shut streams) k is).2))
        where
          below : (k d s : ℕ) → k ≡ s → d ≡ s → k < d + 1
          below k d s x y = omega (arith, x, y)

          within : (k : ℕ) → (k ≡ streams) ⊎ (is_among [] k ≡ true) → (k < h.drawn + 1) × (is_shut_by (after_one h (Opened streams pid)).owner (Shut streams) k ≡ true)
          within k (inl same) = (
            below k h.drawn streams same stands.drawn,
            shut_at (after_one h (Opened streams pid)).owner (Shut streams) k (Table pid) (ap (λ (b : Bool). if b then Some (Table pid) else h.owner k) (equal k streams same))
                ∙ equal k streams same,
          )
          within k (inr none) = false_is_true none

  -- BORN. A new process holds nothing.

  pub begun : (start : Start) → Standing h (put process (numbers + 1) (fresh_process start Ready)) (numbers + 1) closed streams sends []
  begun start = record {
    each = λ q. each q (eqb_tells q (numbers + 1));
    shut = stands.shut;
    flying = stands.flying;
    none = stands.none;
    some = stands.some;
    drawn = stands.drawn;
    order = stands.order;
    once = λ k. ap (λ (t : ℕ). t + times k closed + 0) (same k) ∙ stands.once k;
  }
    where
      child : Process
      child = fresh_process start Ready

      each : (q : ℕ) → ((nat_eq q (numbers + 1) ≡ true) × (q ≡ numbers + 1)) ⊎ ((nat_eq q (numbers + 1) ≡ false) × (q ≢ numbers + 1))
          → Holds h.owner sends q (put process (numbers + 1) (fresh_process start Ready) q)
      each q (inl same) =
          subst (λ (b : Bool). Holds h.owner sends q (if b then fresh_process start Ready else process q)) (sym same.0) (record {
            table = λ k there. false_is_true there;
            scratch = λ slot k there. absurd (none_is_some there);
            mail = λ k n slot there. false_is_true there;
            rise = tt;
            letters = tt;
            sent = λ n there. false_is_true there;
          })
      each q (inr other) =
          subst (λ (b : Bool). Holds h.owner sends q (if b then fresh_process start Ready else process q)) (sym other.0) (stands.each q)

      last : (n : ℕ) → n < n + 1
      last n = omega arith

      none : (n : ℕ) → n + 0 ≡ n
      none n = omega arith

      at_next : (k : ℕ) (p : ℕ → Process) (n : ℕ) → total k p (n + 1) ≡ total k p n + times k (held_handles (p (n + 1)))
      at_next k p n =
          ap (λ (m : ℕ). total k p m) (add-one n) ∙ ap (λ (m : ℕ). total k p n + times k (held_handles (p m))) (sym (add-one n))

      same : (k : ℕ) → total k (put process (numbers + 1) (fresh_process start Ready)) (numbers + 1) ≡ total k process numbers
      same k =
          at_next k (put process (numbers + 1) (fresh_process start Ready)) numbers
          ∙ ap (λ (p : Process). total k (put process (numbers + 1) (fresh_process start Ready)) numbers + times k (held_handles p))
          (put_here process (numbers + 1) (fresh_process start Ready))
          ∙ none (total k (put process (numbers + 1) (fresh_process start Ready)) numbers)
          ∙ total_above k process (numbers + 1) (fresh_process start Ready) numbers (last numbers)
