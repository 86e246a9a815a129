-- One process is changed, with the moves that go with it, and the containers stay as the moves have them.
use Rattle.std.specs.Prelude.{◌≡◌, ◌≢◌, ◌⊎◌, ℕ, zero, suc, ◌+◌, ◌<◌, ◌≤◌, List, [], ◌∷◌, ◌++◌, Option, Some, None, option_map, Bool, true, false, nat_eq, nat_lt, if◌then◌else◌, refl}
use Rattle.std.proofs.Common.{subst, sym, ◌∙◌, ap, inl, inr, arith}
use Rattle.std.proofs.lemmas.Bool.Decides.{eqb_tells}
use Rattle.world_rules.specs.Part.{is_among, handles_in, slots_of}
use Rattle.world_rules.specs.Mail.{MailItem, mail_handles}
use Rattle.world_rules.specs.Moves.{Place, Table, Scratch, Mail, Closed, Owners, Handled}
use Rattle.world_rules.specs.Streams.{one_if}
use Rattle.world_rules.specs.World.{Process, put}
use Rattle.world_rules.specs.Ends.{held_handles}
use Rattle.world_rules.specs.Sound.{times}
use Rattle.world_rules.specs.laws.BirthLaws.{none_is_some, same_some, put_here}
use Rattle.world_rules.specs.laws.KeepingLaws.{false_is_true}
use Rattle.world_rules.proofs.Closing.{equal, unequal, among_append}
use Rattle.world_rules.proofs.Listing.{times_append}
use Rattle.world_rules.proofs.Standing.{Holding, Holds, total, InFlight, Standing}

-- WHAT A PROCESS HOLDS

pub record Hold : Type 0 where
  pub handles : List ℕ
  pub slots : List (Option ℕ)
  pub box : List MailItem

abbrev pub hold_of : Process → Hold
hold_of p = record { handles = p.part.handles; slots = slots_of p.part.scratch; box = p.mail }

abbrev pub held : Hold → List ℕ
held x = x.handles ++ handles_in x.slots ++ mail_handles x.box

abbrev pub Stays : Owners → ℕ → ℕ → Hold → Type 0
Stays owners sends pid x = Holding owners sends pid x.handles x.slots x.box

-- how often a stream is in the table, in the scratch message and in the mailbox
pub held_times : (k : ℕ) (x : Hold) → times k (held x) ≡ times k x.handles + times k (handles_in x.slots) + times k (mail_handles x.box)
held_times k x =
    times_append k (x.handles ++ handles_in x.slots) (mail_handles x.box)
    ∙ ap (λ (n : ℕ). n + times k (mail_handles x.box)) (times_append k x.handles (handles_in x.slots))

-- the place is of this process
abbrev pub is_of : ℕ → Place → Bool
is_of pid (Table q) = nat_eq q pid
is_of pid (Scratch q slot) = nat_eq q pid
is_of pid (Mail q n slot) = nat_eq q pid
is_of pid Closed = false

-- what a process holds changes so, and the moves go so with it; these streams are closed besides, and these were or are on their way
pub record Shift (h after : Handled) (pid : ℕ) (old new : Hold) (extra : List ℕ) (streams streams' sends sends' : ℕ) (flight flight' : List ℕ) : Type 0 where
  pub holds : Stays after.owner sends' pid new
  pub others : (k : ℕ) (place : Place) → h.owner k ≡ Some place → is_of pid place ≡ false → after.owner k ≡ Some place
  pub shut : (k : ℕ) → is_among extra k ≡ true → after.owner k ≡ Some Closed
  pub flying : (k : ℕ) → is_among flight' k ≡ true → InFlight after.owner k
  pub none : (k : ℕ) → after.owner k ≡ None → streams' ≤ k
  pub some : (k : ℕ) → streams' ≤ k → after.owner k ≡ None
  pub drawn : after.drawn ≡ streams'
  pub order : after.closed ≡ h.closed ++ extra
  pub more : sends ≤ sends'
  pub count : (k : ℕ) → times k (held new) + times k extra + times k flight' + one_if (nat_lt k streams) 0
      ≡ times k (held old) + times k flight + one_if (nat_lt k streams') 0

-- ONE PROCESS REPLACED

put_else : (process : ℕ → Process) (pid : ℕ) (p : Process) (q : ℕ) → q ≢ pid → put process pid p q ≡ process q
put_else process pid p q other = ap (λ (b : Bool). if b then p else process q) (unequal q pid other)

total_same : (k : ℕ) (process other : ℕ → Process) (n : ℕ) → ((q : ℕ) → q ≤ n → process q ≡ other q) → total k process n ≡ total k other n
total_same k process other zero same = refl
total_same k process other (suc n) same =
    ap (λ (t : ℕ). t + times k (held_handles (process (suc n)))) (total_same k process other n (λ q less. same q (more q n less)))
    ∙ ap (λ (p : Process). total k other n + times k (held_handles p)) (same (suc n) (least n))
  where
    more : (q n : ℕ) → q ≤ n → q ≤ suc n
    more q n less = omega (arith, less)

    least : (n : ℕ) → suc n ≤ suc n
    least n = omega arith

pub total_above : (k : ℕ) (process : ℕ → Process) (pid : ℕ) (p : Process) (n : ℕ) → n < pid → total k (put process pid p) n ≡ total k process n
total_above k process pid p n less =
    total_same k (put process pid p) process n (λ q low. put_else process pid p q (apart q low))
  where
    apart : (q : ℕ) → q ≤ n → q ≢ pid
    apart q low = omega (arith, low, less)

put_total : (k : ℕ) (process : ℕ → Process) (pid : ℕ) (p q : Process) (n : ℕ) → 0 < pid → pid ≤ n
    → total k (put process pid p) n + times k (held_handles q) ≡ total k (put process pid q) n + times k (held_handles p)
put_total k process pid p q zero low high = absurd (no low high)
  where
    no : 0 < pid → pid ≤ 0 → ⊥
    no low high = omega (arith, low, high)
put_total k process pid p q (suc n) low high = by (λ less. put_total k process pid p q n low less) (eqb_tells (suc n) pid)
  where
    lower : pid ≤ suc n → suc n ≢ pid → pid ≤ n
    lower high other = omega (arith, high, other)

    above : suc n ≡ pid → n < pid
    above same = omega (arith, same)

    swap : (t a b : ℕ) → t + a + b ≡ t + b + a
    swap t a b = omega arith

    here : (r : Process) → suc n ≡ pid → nat_eq (suc n) pid ≡ true →
        total k (put process pid r) (suc n) ≡ total k process n + times k (held_handles r)
    here r same is =
        ap (λ (t : ℕ). t + times k (held_handles (put process pid r (suc n)))) (total_above k process pid r n (above same))
        ∙ ap (λ (b : Bool). total k process n + times k (held_handles (if b then r else process (suc n)))) is

    there : (r : Process) → nat_eq (suc n) pid ≡ false →
        total k (put process pid r) (suc n) ≡ total k (put process pid r) n + times k (held_handles (process (suc n)))
    there r isnt = ap (λ (b : Bool). total k (put process pid r) n + times k (held_handles (if b then r else process (suc n)))) isnt

    around : (a b c d e : ℕ) → a + d ≡ b + e → a + c + d ≡ b + c + e
    around a b c d e x = omega (arith, x)

    by : (pid ≤ n → total k (put process pid p) n + times k (held_handles q) ≡ total k (put process pid q) n + times k (held_handles p))
        → ((nat_eq (suc n) pid ≡ true) × (suc n ≡ pid)) ⊎ ((nat_eq (suc n) pid ≡ false) × (suc n ≢ pid))
        → total k (put process pid p) (suc n) + times k (held_handles q) ≡ total k (put process pid q) (suc n) + times k (held_handles p)
    by rest (inl same) =
        ap (λ (t : ℕ). t + times k (held_handles q)) (here p same.1 same.0)
        ∙ swap (total k process n) (times k (held_handles p)) (times k (held_handles q))
        ∙ ap (λ (t : ℕ). t + times k (held_handles p)) (sym (here q same.1 same.0))
    by rest (inr other) =
        ap (λ (t : ℕ). t + times k (held_handles q)) (there p other.0)
        ∙ around (total k (put process pid p) n) (total k (put process pid q) n) (times k (held_handles (process (suc n)))) (times k (held_handles q))
        (times k (held_handles p)) (rest (lower high other.1))
        ∙ ap (λ (t : ℕ). t + times k (held_handles p)) (sym (there q other.0))

-- what holds of the changed process and of the others holds after the change
pub shifted : (h after : Handled) (process : ℕ → Process) (numbers : ℕ) (closed : List ℕ) (streams streams' sends sends' : ℕ) (flight flight' : List ℕ)
    (pid : ℕ) (old new : Process) (extra : List ℕ) → 0 < pid → pid ≤ numbers
    → Standing h (put process pid old) numbers closed streams sends flight
    → Shift h after pid (hold_of old) (hold_of new) extra streams streams' sends sends' flight flight'
    → Standing after (put process pid new) numbers (closed ++ extra) streams' sends' flight'
shifted h after process numbers closed streams streams' sends sends' flight flight' pid old new extra low high stands shift = record {
  each = λ q. each q (eqb_tells q pid);
  shut = λ k there. by k (among_append closed extra k there);
  flying = shift.flying;
  none = shift.none;
  some = shift.some;
  drawn = shift.drawn;
  order = shift.order ∙ ap (λ (xs : List ℕ). xs ++ extra) stands.order;
  once = λ k.
      ap (λ (n : ℕ). total k (put process pid new) numbers + n + times k flight') (times_append k closed extra)
      ∙ summed (total k (put process pid new) numbers) (total k (put process pid old) numbers) (times k closed) (times k extra) (times k flight) (times k flight')
      (times k (held_handles new)) (times k (held_handles old)) (one_if (nat_lt k streams) 0) (one_if (nat_lt k streams') 0)
      (stands.once k) (put_total k process pid new old numbers low high) (shift.count k);
}
  where
    summed : (tn to c e f f' hn ho o o' : ℕ) → to + c + f ≡ o → tn + ho ≡ to + hn → hn + e + f' + o ≡ ho + f + o' → tn + (c + e) + f' ≡ o'
    summed tn to c e f f' hn ho o o' x y z = omega (arith, x, y, z)

    by : (k : ℕ) → (is_among closed k ≡ true) ⊎ (is_among extra k ≡ true) → after.owner k ≡ Some Closed
    by k (inl there) = shift.others k Closed (stands.shut k there) refl
    by k (inr there) = shift.shut k there

    later : (n : ℕ) → n < sends → sends ≤ sends' → n < sends'
    later n x y = omega (arith, x, y)

    each : (q : ℕ) → ((nat_eq q pid ≡ true) × (q ≡ pid)) ⊎ ((nat_eq q pid ≡ false) × (q ≢ pid)) → Holds after.owner sends' q (put process pid new q)
    each q (inl same) =
        subst (λ (b : Bool). Holds after.owner sends' q (if b then new else process q)) (sym same.0)
        (subst (λ (n : ℕ). Holds after.owner sends' n new) (sym same.1) shift.holds)
    each q (inr other) =
        let before : Holds h.owner sends q (process q) =
        subst (λ (b : Bool). Holds h.owner sends q (if b then old else process q)) other.0 (stands.each q) in
        subst (λ (b : Bool). Holds after.owner sends' q (if b then new else process q)) (sym other.0) (record {
          table = λ k there. shift.others k (Table q) (before.table k there) other.0;
          scratch = λ slot k there. shift.others k (Scratch q slot) (before.scratch slot k there) other.0;
          mail = λ k n slot there. shift.others k (Mail q n slot) (before.mail k n slot there) other.0;
          rise = before.rise;
          letters = before.letters;
          sent = λ n there. later n (before.sent n there) shift.more;
        })

-- MOVES THAT DRAW NO NUMBER

pub map_none : (f : Place → Place) (o : Option Place) → option_map f o ≡ None → o ≡ None
map_none f None e = refl
map_none f (Some place) e = absurd (none_is_some (sym e))

pub map_at : (f : Place → Place) (o : Option Place) (place : Place) → o ≡ Some place → option_map f o ≡ Some (f place)
map_at f o place e = ap (λ (p : Option Place). option_map f p) e

-- two places that aren't one
table_scratch : (o : Option Place) (p q slot : ℕ) → o ≡ Some (Table p) → o ≡ Some (Scratch q slot) → ⊥
table_scratch o p q slot x y = cc

table_mail : (o : Option Place) (p q n slot : ℕ) → o ≡ Some (Table p) → o ≡ Some (Mail q n slot) → ⊥
table_mail o p q n slot x y = cc

pub same_table : (o : Option Place) (p : ℕ) (place : Place) → o ≡ Some (Table p) → o ≡ Some place → is_of p place ≡ true
same_table o p place x y =
    ap (λ (a : Place). is_of p a) (same_some place (Table p) (sym y ∙ x)) ∙ equal p p refl

module _ (h : Handled) (process : ℕ → Process) (numbers : ℕ) (closed : List ℕ) (streams sends : ℕ) (flight : List ℕ) (pid : ℕ) (old : Process)
    (stands : Standing h (put process pid old) numbers closed streams sends flight) where
  -- what is held before
  pub holds_now : Holds h.owner sends pid old
  holds_now = subst (λ (p : Process). Holds h.owner sends pid p) (put_here process pid old) (stands.each pid)

  same_sends : sends ≤ sends
  same_sends = omega arith

  -- nothing moves
  pub shift_same : Shift h h pid (hold_of old) (hold_of old) [] streams streams sends sends flight flight
  shift_same = record {
    holds = holds_now;
    others = λ k place at apart. at;
    shut = λ k there. false_is_true there;
    flying = stands.flying;
    none = stands.none;
    some = stands.some;
    drawn = stands.drawn;
    order = nothing h.closed;
    more = same_sends;
    count = λ k. around (times k (held (hold_of old))) (times k flight) (one_if (nat_lt k streams) 0);
  }
    where
      nothing : (xs : List ℕ) → xs ≡ xs ++ []
      nothing [] = refl
      nothing (x ∷ xs) = ap (λ (ys : List ℕ). x ∷ ys) (nothing xs)

      around : (a b c : ℕ) → a + 0 + b + c ≡ a + b + c
      around a b c = omega arith
