-- Where the containers have the streams, against where the moves have them: what holds in each world, and what follows of what a move
-- closes.
use Rattle.std.specs.Prelude.{◌≡◌, ◌≢◌, ◌⊎◌, ℕ, zero, suc, ◌+◌, ◌<◌, ◌≤◌, List, [], ◌∷◌, ◌++◌, Option, Some, None, Bool, true, false, ◌||◌, ◌&&◌, nat_eq, nat_lt, nat_le, refl}
use Rattle.std.specs.Option.{option_map_or}
use Rattle.std.proofs.Common.{subst, sym, ◌∙◌, ap, inl, inr, arith}
use Rattle.std.proofs.lemmas.Bool.Decides.{leb_tells}
use Rattle.world_rules.specs.Part.{is_among, handles_in, handle_at, slots_of, scratch_handles}
use Rattle.world_rules.specs.Mail.{MailItem, Letter, Signal, mail_handles}
use Rattle.world_rules.specs.Moves.{Place, Table, Scratch, Mail, Closed, Owners, Move, Shut, ShutScratch, ShutMail, ShutAll, is_before, shuts, is_shut_by, Handled, closing}
use Rattle.world_rules.specs.Streams.{one_if}
use Rattle.world_rules.specs.World.{Process}
use Rattle.world_rules.specs.Ends.{held_handles}
use Rattle.world_rules.specs.Sound.{times, Rise}
use Rattle.world_rules.specs.Placed.{letter_numbers}
use Rattle.world_rules.specs.laws.BirthLaws.{none_is_some}
use Rattle.world_rules.specs.laws.KeepingLaws.{false_is_true}
use Rattle.world_rules.proofs.Closing.{equal, unequal, same_of, decided, among_first, among_rest, among_append, among_left, among_right, Precedes, Ordered, before_of, after_all, ordered_append, in_order_is}
use Rattle.world_rules.proofs.Listing.{lt_true, lt_false, times_none, slot_among, among_slot, Lies, mail_lies, lies_among, lies_first, lies_rest, lies_number, above_numbers}

-- WHAT HOLDS

-- what a process holds stands where the moves have it
pub record Holding (owners : Owners) (sends pid : ℕ) (handles : List ℕ) (slots : List (Option ℕ)) (box : List MailItem) : Type 0 where
  pub table : (k : ℕ) → is_among handles k ≡ true → owners k ≡ Some (Table pid)
  pub scratch : (slot k : ℕ) → handle_at slots slot ≡ Some k → owners k ≡ Some (Scratch pid slot)
  pub mail : (k n slot : ℕ) → Lies box k n slot → owners k ≡ Some (Mail pid n slot)
  pub rise : Rise handles
  pub letters : Rise (letter_numbers box)
  pub sent : (n : ℕ) → is_among (letter_numbers box) n ≡ true → n < sends

abbrev pub Holds : Owners → ℕ → ℕ → Process → Type 0
Holds owners sends pid p = Holding owners sends pid p.part.handles (slots_of p.part.scratch) p.mail

-- how often a stream is held by the processes up to a number
abbrev pub total : ℕ → (ℕ → Process) → ℕ → ℕ
total k process zero = 0
total k process (suc n) = total k process n + times k (held_handles (process (suc n)))

-- a stream on its way stands in a message of some mailbox
abbrev pub InFlight : Owners → ℕ → Type 0
InFlight owners k = (q : ℕ) × (n : ℕ) × (slot : ℕ) × (owners k ≡ Some (Mail q n slot))

-- the containers, with the streams that are on their way to a mailbox or out of one, are as the moves have them
pub record Standing (h : Handled) (process : ℕ → Process) (numbers : ℕ) (closed : List ℕ) (streams sends : ℕ) (flight : List ℕ) : Type 0 where
  pub each : (pid : ℕ) → Holds h.owner sends pid (process pid)
  pub shut : (k : ℕ) → is_among closed k ≡ true → h.owner k ≡ Some Closed
  pub flying : (k : ℕ) → is_among flight k ≡ true → InFlight h.owner k
  pub none : (k : ℕ) → h.owner k ≡ None → streams ≤ k
  pub some : (k : ℕ) → streams ≤ k → h.owner k ≡ None
  pub drawn : h.drawn ≡ streams
  pub order : h.closed ≡ closed
  pub once : (k : ℕ) → total k process numbers + times k closed + times k flight ≡ one_if (nat_lt k streams) 0

-- WHERE A STREAM IS

pub data Where (process : ℕ → Process) (closed flight : List ℕ) (k : ℕ) : Type 0 where
  in_table : (q : ℕ) → is_among (process q).part.handles k ≡ true → Where process closed flight k
  in_scratch : (q slot : ℕ) → handle_at (slots_of (process q).part.scratch) slot ≡ Some k → Where process closed flight k
  in_mail : (q n slot : ℕ) → Lies (process q).mail k n slot → Where process closed flight k
  in_closed : is_among closed k ≡ true → Where process closed flight k
  in_flight : is_among flight k ≡ true → Where process closed flight k

total_some : (k : ℕ) (process : ℕ → Process) (n : ℕ) → 0 < total k process n → (q : ℕ) × (is_among (held_handles (process q)) k ≡ true)
total_some k process zero some = absurd (no some)
  where
    no : 0 < 0 → ⊥
    no some = omega (arith, some)
total_some k process (suc n) some = by (λ more. total_some k process n more) (decided (is_among (held_handles (process (suc n))) k))
  where
    lower : (a b : ℕ) → 0 < a + b → b ≡ 0 → 0 < a
    lower a b x y = omega (arith, x, y)

    by : (0 < total k process n → (q : ℕ) × (is_among (held_handles (process q)) k ≡ true))
        → (is_among (held_handles (process (suc n))) k ≡ true) ⊎ (is_among (held_handles (process (suc n))) k ≡ false)
        → (q : ℕ) × (is_among (held_handles (process q)) k ≡ true)
    by rest (inl is) = (suc n, is)
    by rest (inr isnt) =
        rest (lower (total k process n) (times k (held_handles (process (suc n)))) some (times_none k (held_handles (process (suc n))) isnt))

held_where : (process : ℕ → Process) (closed flight : List ℕ) (k q : ℕ) → is_among (held_handles (process q)) k ≡ true → Where process closed flight k
held_where process closed flight k q is =
    by (among_append ((process q).part.handles ++ scratch_handles (process q).part) (mail_handles (process q).mail) k is)
  where
    before : (is_among (process q).part.handles k ≡ true) ⊎ (is_among (scratch_handles (process q).part) k ≡ true) → Where process closed flight k
    before (inl there) = in_table q there
    before (inr there) = let found = among_slot (slots_of (process q).part.scratch) k there in in_scratch q found.0 found.1

    by : (is_among ((process q).part.handles ++ scratch_handles (process q).part) k ≡ true) ⊎ (is_among (mail_handles (process q).mail) k ≡ true)
        → Where process closed flight k
    by (inl there) = before (among_append (process q).part.handles (scratch_handles (process q).part) k there)
    by (inr there) = let found = mail_lies (process q).mail k there in in_mail q found.0 found.1 found.2

module _ (h : Handled) (process : ℕ → Process) (numbers : ℕ) (closed : List ℕ) (streams sends : ℕ) (flight : List ℕ)
    (stands : Standing h process numbers closed streams sends flight) where
  pub is_somewhere : (k : ℕ) → k < streams → Where process closed flight k
  is_somewhere k less = by (decided (is_among closed k)) (decided (is_among flight k))
    where
      lower : (a b c : ℕ) → a + b + c ≡ 1 → b ≡ 0 → c ≡ 0 → 0 < a
      lower a b c x y z = omega (arith, x, y, z)

      by : (is_among closed k ≡ true) ⊎ (is_among closed k ≡ false) → (is_among flight k ≡ true) ⊎ (is_among flight k ≡ false) → Where process closed flight k
      by (inl is) other = in_closed is
      by (inr isnt) (inl is) = in_flight is
      by (inr isnt) (inr none) =
          let found =
          total_some k process numbers
          (lower (total k process numbers) (times k closed) (times k flight) (stands.once k ∙ ap (λ (b : Bool). one_if b 0) (lt_true k streams less))
          (times_none k closed isnt) (times_none k flight none)) in
          held_where process closed flight k found.0 found.1

  -- what stands somewhere was drawn
  pub stands_drawn : (k : ℕ) (place : Place) → h.owner k ≡ Some place → k < streams
  stands_drawn k place is = by (leb_tells streams k)
    where
      by : ((nat_le streams k ≡ true) × (streams ≤ k)) ⊎ ((nat_le streams k ≡ false) × (k < streams)) → k < streams
      by (inl more) = absurd (none_is_some (sym (stands.some k more.1) ∙ is))
      by (inr less) = less.1

-- ORDER

table_ordered : (owners : Owners) (pid : ℕ) (handles : List ℕ) → ((k : ℕ) → is_among handles k ≡ true → owners k ≡ Some (Table pid)) → Rise handles
    → Ordered owners handles
table_ordered owners pid [] stand rise = tt
table_ordered owners pid (x ∷ xs) stand rise = (
  after_all owners x xs (λ y there. (
    before_of owners y x (Table pid) (Table pid) (stand y (among_rest x xs y there)) (stand x (among_first x xs x refl)),
    inr (above_numbers x xs y rise.0 there),
  )),
  table_ordered owners pid xs (λ k there. stand k (among_rest x xs k there)) rise.1,
)

lt_suc : (i j : ℕ) → nat_lt (suc i) (suc j) ≡ nat_lt i j
lt_suc i j = by (leb_tells (suc i) j)
  where
    up : (a b : ℕ) → suc a ≤ b → suc a < suc b
    up a b x = omega (arith, x)

    down : (a b : ℕ) → b < suc a → suc b ≤ suc a
    down a b x = omega (arith, x)

    same : (a b : ℕ) → b < suc a → b ≤ a
    same a b x = omega (arith, x)

    by : ((nat_le (suc i) j ≡ true) × (suc i ≤ j)) ⊎ ((nat_le (suc i) j ≡ false) × (j < suc i)) → nat_lt (suc i) (suc j) ≡ nat_lt i j
    by (inl less) = let x = less.1 in lt_true (suc i) (suc j) (up i j x) ∙ sym (lt_true i j (low i j x))
      where
        low : (a b : ℕ) → suc a ≤ b → a < b
        low a b x = omega (arith, x)
    by (inr more) = let x = more.1 in lt_false (suc i) (suc j) (down i j x) ∙ sym (lt_false i j (same i j x))

slots_ordered : (owners : Owners) (at : ℕ → Place) (slots : List (Option ℕ)) → ((slot k : ℕ) → handle_at slots slot ≡ Some k → owners k ≡ Some (at slot))
    → ((i j : ℕ) → is_before (at i) (at j) ≡ nat_lt i j) → Ordered owners (handles_in slots)
slots_ordered owners at [] stand before = tt
slots_ordered owners at (None ∷ slots) stand before =
    slots_ordered owners (λ i. at (suc i)) slots (λ slot k e. stand (suc slot) k e) (λ i j. before (suc i) (suc j) ∙ lt_suc i j)
slots_ordered owners at (Some x ∷ slots) stand before = (
  after_all owners x (handles_in slots) later,
  slots_ordered owners (λ i. at (suc i)) slots (λ slot k e. stand (suc slot) k e) (λ i j. before (suc i) (suc j) ∙ lt_suc i j),
)
  where
    more : (n : ℕ) → 0 < suc n
    more n = omega arith

    least : (n : ℕ) → 0 ≤ n
    least n = omega arith

    later : (y : ℕ) → is_among (handles_in slots) y ≡ true → Precedes owners x y
    later y there =
        let found = among_slot slots y there in
        let here : owners x ≡ Some (at 0) = stand 0 x refl in
        let behind : owners y ≡ Some (at (suc found.0)) = stand (suc found.0) y found.1 in (
          before_of owners y x (at (suc found.0)) (at 0) behind here ∙ before (suc found.0) 0 ∙ lt_false (suc found.0) 0 (least (suc found.0)),
          inl (before_of owners x y (at 0) (at (suc found.0)) here behind ∙ before 0 (suc found.0) ∙ lt_true 0 (suc found.0) (more found.0)),
        )

mail_before : (pid n i j : ℕ) → is_before (Mail pid n i) (Mail pid n j) ≡ nat_lt i j
mail_before pid n i j =
    ap (λ (b : Bool). b || (nat_eq n n && nat_lt i j)) (lt_false n n (le n)) ∙ ap (λ (b : Bool). b && nat_lt i j) (equal n n refl)
  where
    le : (a : ℕ) → a ≤ a
    le a = omega arith

mail_ordered : (owners : Owners) (pid : ℕ) (box : List MailItem) → ((k n slot : ℕ) → Lies box k n slot → owners k ≡ Some (Mail pid n slot))
    → Rise (letter_numbers box) → Ordered owners (mail_handles box)
mail_ordered owners pid [] stand rise = tt
mail_ordered owners pid (Signal tag ∷ box) stand rise = mail_ordered owners pid box (λ k n slot is. stand k n slot is) rise
mail_ordered owners pid (Letter number message ∷ box) stand rise =
    ordered_append owners (handles_in message.slots) (mail_handles box)
    (slots_ordered owners (λ slot. Mail pid number slot) message.slots (λ slot k e. stand k number slot (lies_first number message box slot k e)) (mail_before pid number))
    (mail_ordered owners pid box (λ k n slot is. stand k n slot (lies_rest (Letter number message) box k n slot is)) rise.1)
    across
  where
    apart : (a b : ℕ) → a < b → b ≢ a
    apart a b less = omega (arith, less)

    le : (a b : ℕ) → a < b → a ≤ b
    le a b less = omega (arith, less)

    across : (x y : ℕ) → is_among (handles_in message.slots) x ≡ true → is_among (mail_handles box) y ≡ true → Precedes owners x y
    across x y there here =
        let first = among_slot message.slots x there in
        let second = mail_lies box y here in
        let n : ℕ = second.0 in
        let less : number < n = above_numbers number (letter_numbers box) n rise.0 (lies_number box y n second.1 second.2) in
        let a : owners x ≡ Some (Mail pid number first.0) = stand x number first.0 (lies_first number message box first.0 x first.1) in
        let b : owners y ≡ Some (Mail pid n second.1) = stand y n second.1 (lies_rest (Letter number message) box y n second.1 second.2) in (
          before_of owners y x (Mail pid n second.1) (Mail pid number first.0) b a
              ∙ ap (λ (c : Bool). c || (nat_eq n number && nat_lt second.1 first.0)) (lt_false n number (le number n less))
              ∙ ap (λ (c : Bool). c && nat_lt second.1 first.0) (unequal n number (apart number n less)),
          inl (before_of owners x y (Mail pid number first.0) (Mail pid n second.1) a b
              ∙ ap (λ (c : Bool). c || (nat_eq number n && nat_lt first.0 second.1)) (lt_true number n less)),
        )

scratch_before : (pid i j : ℕ) → is_before (Scratch pid i) (Scratch pid j) ≡ nat_lt i j
scratch_before pid i j = refl

module _ (owners : Owners) (sends pid : ℕ) (handles : List ℕ) (slots : List (Option ℕ)) (box : List MailItem)
    (holding : Holding owners sends pid handles slots box) where
  pub scratch_ordered : Ordered owners (handles_in slots)
  scratch_ordered = slots_ordered owners (λ slot. Scratch pid slot) slots holding.scratch (scratch_before pid)

  pub box_ordered : Ordered owners (mail_handles box)
  box_ordered = mail_ordered owners pid box holding.mail holding.letters

  pub held_ordered : Ordered owners (handles ++ handles_in slots ++ mail_handles box)
  held_ordered =
      ordered_append owners (handles ++ handles_in slots) (mail_handles box)
      (ordered_append owners handles (handles_in slots) (table_ordered owners pid handles holding.table holding.rise) scratch_ordered first) box_ordered
      (λ x y there here. by x y (among_append handles (handles_in slots) x there) here)
    where
      first : (x y : ℕ) → is_among handles x ≡ true → is_among (handles_in slots) y ≡ true → Precedes owners x y
      first x y there here =
          let b = among_slot slots y here in
          let at : owners x ≡ Some (Table pid) = holding.table x there in
          let to : owners y ≡ Some (Scratch pid b.0) = holding.scratch b.0 y b.1 in
          (before_of owners y x (Scratch pid b.0) (Table pid) to at, inl (before_of owners x y (Table pid) (Scratch pid b.0) at to))

      by : (x y : ℕ) → (is_among handles x ≡ true) ⊎ (is_among (handles_in slots) x ≡ true) → is_among (mail_handles box) y ≡ true → Precedes owners x y
      by x y (inl there) here =
          let b = mail_lies box y here in
          let at : owners x ≡ Some (Table pid) = holding.table x there in
          let to : owners y ≡ Some (Mail pid b.0 b.1) = holding.mail y b.0 b.1 b.2 in
          (before_of owners y x (Mail pid b.0 b.1) (Table pid) to at, inl (before_of owners x y (Table pid) (Mail pid b.0 b.1) at to))
      by x y (inr there) here =
          let a = among_slot slots x there in
          let b = mail_lies box y here in
          let at : owners x ≡ Some (Scratch pid a.0) = holding.scratch a.0 x a.1 in
          let to : owners y ≡ Some (Mail pid b.0 b.1) = holding.mail y b.0 b.1 b.2 in
          (before_of owners y x (Mail pid b.0 b.1) (Scratch pid a.0) to at, inl (before_of owners x y (Scratch pid a.0) (Mail pid b.0 b.1) at to))

-- WHAT A MOVE CLOSES

-- what a move shuts stands at a place that it shuts
pub shut_place : (owners : Owners) (move : Move) (k : ℕ) → is_shut_by owners move k ≡ true → (place : Place) × (owners k ≡ Some place) × (shuts move k place ≡ true)
shut_place owners move k is = by (owners k) refl is
  where
    by : (o : Option Place) → owners k ≡ o → option_map_or (shuts move k) o false ≡ true → (place : Place) × (owners k ≡ Some place) × (shuts move k place ≡ true)
    by None e is = false_is_true is
    by (Some place) e is = (place, e, is)

pub shut_at : (owners : Owners) (move : Move) (k : ℕ) (place : Place) → owners k ≡ Some place → is_shut_by owners move k ≡ shuts move k place
shut_at owners move k place at = ap (λ (o : Option Place). option_map_or (shuts move k) o false) at

pub closes_none : (h : Handled) (move : Move) → ((k : ℕ) (place : Place) → shuts move k place ≡ false) → closing h move ≡ []
closes_none h move never =
    in_order_is h.owner h.drawn (is_shut_by h.owner move) [] tt (λ y there. false_is_true there)
    (λ y less is. let found = shut_place h.owner move y is in false_is_true (sym (never y found.0) ∙ found.2))

module _ (h : Handled) (process : ℕ → Process) (numbers : ℕ) (closed : List ℕ) (streams sends : ℕ) (flight : List ℕ)
    (stands : Standing h process numbers closed streams sends flight) where
  -- a list in order of handles that stand where the move shuts, which has all of those, is what the move closes
  pub closes : (move : Move) (xs : List ℕ) → Ordered h.owner xs
      → ((k : ℕ) → is_among xs k ≡ true → (place : Place) × (h.owner k ≡ Some place) × (shuts move k place ≡ true))
      → ((k : ℕ) → Where process closed flight k → is_shut_by h.owner move k ≡ true → is_among xs k ≡ true) → closing h move ≡ xs
  closes move xs ordered within all =
      in_order_is h.owner h.drawn (is_shut_by h.owner move) xs ordered
      (λ k there.
      let found = within k there in (
        subst (λ (n : ℕ). k < n) (sym stands.drawn) (stands_drawn h process numbers closed streams sends flight stands k found.0 found.1),
        shut_at h.owner move k found.0 found.1 ∙ found.2,
      ))
      (λ k less is. all k (is_somewhere h process numbers closed streams sends flight stands k (subst (λ (n : ℕ). k < n) stands.drawn less)) is)

  pub closes_scratch : (pid : ℕ) → closing h (ShutScratch pid) ≡ scratch_handles (process pid).part
  closes_scratch pid =
      closes (ShutScratch pid) (scratch_handles (process pid).part)
      (scratch_ordered h.owner sends pid (process pid).part.handles (slots_of (process pid).part.scratch) (process pid).mail (stands.each pid))
      (λ k there.
      let found = among_slot (slots_of (process pid).part.scratch) k there in
      (Scratch pid found.0, (stands.each pid).scratch found.0 k found.1, equal pid pid refl))
      by
    where
      by : (k : ℕ) → Where process closed flight k → is_shut_by h.owner (ShutScratch pid) k ≡ true → is_among (scratch_handles (process pid).part) k ≡ true
      by k (in_table q there) is =
          false_is_true (sym (shut_at h.owner (ShutScratch pid) k (Table q) ((stands.each q).table k there)) ∙ is)
      by k (in_scratch q slot there) is =
          let same : q ≡ pid = same_of q pid (sym (shut_at h.owner (ShutScratch pid) k (Scratch q slot) ((stands.each q).scratch slot k there)) ∙ is) in
          subst (λ (n : ℕ). is_among (scratch_handles (process n).part) k ≡ true) same (slot_among (slots_of (process q).part.scratch) slot k there)
      by k (in_mail q n slot there) is =
          false_is_true (sym (shut_at h.owner (ShutScratch pid) k (Mail q n slot) ((stands.each q).mail k n slot there)) ∙ is)
      by k (in_closed there) is = false_is_true (sym (shut_at h.owner (ShutScratch pid) k Closed (stands.shut k there)) ∙ is)
      by k (in_flight there) is =
          let found = stands.flying k there in
          false_is_true (sym (shut_at h.owner (ShutScratch pid) k (Mail found.0 found.1 found.2) found.3) ∙ is)

  pub closes_one : (pid handle : ℕ) → is_among (process pid).part.handles handle ≡ true → closing h (Shut handle) ≡ handle ∷ []
  closes_one pid handle here =
      closes (Shut handle) (handle ∷ []) (tt, tt) (λ k there. by k (among_first_of k there)) (λ k at is. among_first handle [] k (same k is))
    where
      among_first_of : (k : ℕ) → is_among (handle ∷ []) k ≡ true → k ≡ handle
      among_first_of k there = same_of k handle (last (nat_eq k handle) there)
        where
          last : (b : Bool) → (b || false) ≡ true → b ≡ true
          last true e = refl
          last false e = e

      by : (k : ℕ) → k ≡ handle → (place : Place) × (h.owner k ≡ Some place) × (nat_eq k handle ≡ true)
      by k same =
          (Table pid, ap (λ (n : ℕ). h.owner n) same ∙ (stands.each pid).table handle here, equal k handle same)

      same : (k : ℕ) → is_shut_by h.owner (Shut handle) k ≡ true → k ≡ handle
      same k is = same_of k handle (shut_place h.owner (Shut handle) k is).2

abbrev Shuts : Handled → ℕ → ℕ → Type 0
Shuts h pid k = (place : Place) × (h.owner k ≡ Some place) × (shuts (ShutAll pid) k place ≡ true)

module _ (h : Handled) (process : ℕ → Process) (numbers : ℕ) (closed : List ℕ) (streams sends : ℕ)
    (stands : Standing h process numbers closed streams sends []) where
  pub closes_mail : (pid : ℕ) → closing h (ShutMail pid) ≡ mail_handles (process pid).mail
  closes_mail pid =
      closes h process numbers closed streams sends [] stands (ShutMail pid) (mail_handles (process pid).mail)
      (box_ordered h.owner sends pid (process pid).part.handles (slots_of (process pid).part.scratch) (process pid).mail (stands.each pid))
      (λ k there.
      let found = mail_lies (process pid).mail k there in
      (Mail pid found.0 found.1, (stands.each pid).mail k found.0 found.1 found.2, equal pid pid refl))
      by
    where
      by : (k : ℕ) → Where process closed [] k → is_shut_by h.owner (ShutMail pid) k ≡ true → is_among (mail_handles (process pid).mail) k ≡ true
      by k (in_table q there) is = false_is_true (sym (shut_at h.owner (ShutMail pid) k (Table q) ((stands.each q).table k there)) ∙ is)
      by k (in_scratch q slot there) is =
          false_is_true (sym (shut_at h.owner (ShutMail pid) k (Scratch q slot) ((stands.each q).scratch slot k there)) ∙ is)
      by k (in_mail q n slot there) is =
          let same : q ≡ pid = same_of q pid (sym (shut_at h.owner (ShutMail pid) k (Mail q n slot) ((stands.each q).mail k n slot there)) ∙ is) in
          subst (λ (m : ℕ). is_among (mail_handles (process m).mail) k ≡ true) same (lies_among (process q).mail k n slot there)
      by k (in_closed there) is = false_is_true (sym (shut_at h.owner (ShutMail pid) k Closed (stands.shut k there)) ∙ is)
      by k (in_flight there) is = false_is_true there

  or_false : (b : Bool) → (b || false || false) ≡ true → b ≡ true
  or_false true e = refl
  or_false false e = e

  pub closes_all : (pid : ℕ) → closing h (ShutAll pid) ≡ held_handles (process pid)
  closes_all pid =
      closes h process numbers closed streams sends [] stands (ShutAll pid) (held_handles (process pid))
      (held_ordered h.owner sends pid (process pid).part.handles (slots_of (process pid).part.scratch) (process pid).mail (stands.each pid))
      (λ k there. at k (among_append ((process pid).part.handles ++ scratch_handles (process pid).part) (mail_handles (process pid).mail) k there))
      by
    where
      before : (k : ℕ) → (is_among (process pid).part.handles k ≡ true) ⊎ (is_among (scratch_handles (process pid).part) k ≡ true) → Shuts h pid k
      before k (inl there) =
          (Table pid, (stands.each pid).table k there, ap (λ (b : Bool). b || false || false) (equal pid pid refl))
      before k (inr there) =
          let found = among_slot (slots_of (process pid).part.scratch) k there in
          (Scratch pid found.0, (stands.each pid).scratch found.0 k found.1, ap (λ (b : Bool). b || false) (equal pid pid refl))

      at : (k : ℕ) → (is_among ((process pid).part.handles ++ scratch_handles (process pid).part) k ≡ true) ⊎ (is_among (mail_handles (process pid).mail) k ≡ true)
          → Shuts h pid k
      at k (inl there) = before k (among_append (process pid).part.handles (scratch_handles (process pid).part) k there)
      at k (inr there) =
          let found = mail_lies (process pid).mail k there in
          (Mail pid found.0 found.1, (stands.each pid).mail k found.0 found.1 found.2, equal pid pid refl)

      last : (b : Bool) → (b || false) ≡ true → b ≡ true
      last true e = refl
      last false e = e

      by : (k : ℕ) → Where process closed [] k → is_shut_by h.owner (ShutAll pid) k ≡ true → is_among (held_handles (process pid)) k ≡ true
      by k (in_table q there) is =
          let same : q ≡ pid = same_of q pid (or_false (nat_eq q pid) (sym (shut_at h.owner (ShutAll pid) k (Table q) ((stands.each q).table k there)) ∙ is)) in
          subst (λ (m : ℕ). is_among (held_handles (process m)) k ≡ true) same
          (among_left ((process q).part.handles ++ scratch_handles (process q).part) (mail_handles (process q).mail) k
          (among_left (process q).part.handles (scratch_handles (process q).part) k there))
      by k (in_scratch q slot there) is =
          let same : q ≡ pid = same_of q pid (last (nat_eq q pid) (sym (shut_at h.owner (ShutAll pid) k (Scratch q slot) ((stands.each q).scratch slot k there)) ∙ is)) in
          subst (λ (m : ℕ). is_among (held_handles (process m)) k ≡ true) same
          (among_left ((process q).part.handles ++ scratch_handles (process q).part) (mail_handles (process q).mail) k
          (among_right (process q).part.handles (scratch_handles (process q).part) k (slot_among (slots_of (process q).part.scratch) slot k there)))
      by k (in_mail q n slot there) is =
          let same : q ≡ pid = same_of q pid (sym (shut_at h.owner (ShutAll pid) k (Mail q n slot) ((stands.each q).mail k n slot there)) ∙ is) in
          subst (λ (m : ℕ). is_among (held_handles (process m)) k ≡ true) same
          (among_right ((process q).part.handles ++ scratch_handles (process q).part) (mail_handles (process q).mail) k (lies_among (process q).mail k n slot there))
      by k (in_closed there) is = false_is_true (sym (shut_at h.owner (ShutAll pid) k Closed (stands.shut k there)) ∙ is)
      by k (in_flight there) is = false_is_true there
