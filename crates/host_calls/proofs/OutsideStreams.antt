-- What a call of the outside leaves of the streams of its process.
use Rattle.std.proofs.Common.{◌≡◌, ◌≢◌, ℕ, zero, suc, ◌+◌, ◌-◌, ◌<◌, ◌≤◌, ◌^◌, ◌&&◌, ◌++◌, min, Bool, true, false, cond, nat_eq, length, List, [], ◌∷◌, take, get_or, slice_index, Option, Some, None, IfSome, arith, refl, sym, ap, subst, ◌∙◌, ◌⊎◌, inl, inr, append-nil}
use Rattle.std.specs.List.{All, Contains}
use Rattle.std.specs.Io.KnownBytes.{append_known}
use Rattle.std.proofs.lemmas.List.{length-take}
use Rattle.std.proofs.lemmas.List.Elements.{All-weaker, All-contains, All-contains_itself, Contains-append_cases, Contains-append_left, Contains-append_right}
use Rattle.outside.specs.declared.stream.IoStep.TheVariants as Io
use Rattle.outside.specs.Streams.{StreamEmpty}
use Rattle.outside.specs.Causes.{RoseOrFull}
use Rattle.message_scratch.specs.Messages as Kept
use Rattle.message_scratch.specs.Messages.{slot_numbers, slots_of, handles_in}
use Rattle.resource_table.specs.Handles.{Handle, numbers_of}
use Rattle.resource_table.specs.Steps.{Told, Reads, Writes}
use Rattle.host_port.specs.declared.reply.Reply.{Reply}
use Rattle.host_port.specs.declared.request.Request.{Request}
use Rattle.world_rules.specs.declared.entry.Side.{Side}
use Rattle.world_rules.specs.declared.entry.Side.TheVariants as SideIs
use Rattle.world_rules.specs.Answers.{number_reply}
use Rattle.world_rules.specs.Calls.{HostCall, call_of, arg}
use Rattle.world_rules.specs.Calls as CallIs
use Rattle.world_rules.specs.Part as Rules
use Rattle.world_rules.specs.Sound.{times}
use Rattle.world_rules.specs.Streams.{Streamed, one_if, has_result, is_empty_answer, after_side, streamed_by}
use Rattle.node_state.specs.Streaming.{BearsOut, IsOpen, streamed_beside}
use Rattle.host_calls.specs.Shown.{shown_scratch}
use Rattle.host_calls.specs.OutsideSteps.{moved_reply, count_reply}
use Rattle.host_calls.proofs.OutsideForms.{same_number, differs, not_same, is_same}

-- NUMBERS

one_if_zero : (b : Bool) (n : ℕ) → one_if b n ≡ 0 → (b ≡ false) × (n ≡ 0)
one_if_zero true n e = absurd (omega arith)
one_if_zero false n e = (refl, e)

times_append : (k : ℕ) (xs ys : List ℕ) → times k (xs ++ ys) ≡ times k xs + times k ys
times_append k [] ys = none (times k ys)
  where
    none : (n : ℕ) → n ≡ 0 + n
    none n = omega arith
times_append k (x ∷ xs) ys = by (times_append k xs ys) (nat_eq k x)
  where
    more : (a b c : ℕ) → a ≡ b + c → a + 1 ≡ b + 1 + c
    more a b c e = omega (arith, e)

    by : times k (xs ++ ys) ≡ times k xs + times k ys → (b : Bool) → one_if b (times k (xs ++ ys)) ≡ one_if b (times k xs) + times k ys
    by rest true = more (times k (xs ++ ys)) (times k xs) (times k ys) rest
    by rest false = rest

-- LISTS

cons_cases : {X : Type 0} (a : X) (xs : List X) (x : X) (k : ℕ) → k < length (a ∷ xs) → get_or (a ∷ xs) k x ≡ x → (a ≡ x) ⊎ Contains xs x
cons_cases a xs x zero lt is = inl is
cons_cases a xs x (suc k) lt is = inr (k, omega arith, is)

cons_more : {X : Type 0} (a : X) (xs : List X) (x : X) → Contains xs x → Contains (a ∷ xs) x
cons_more a xs x there = let lt = there.1 in (suc there.0, omega arith, there.2)

module _ {S : Type 0} where
  pub numbers_append : (xs ys : List (Handle S)) → numbers_of (xs ++ ys) ≡ numbers_of xs ++ numbers_of ys
  numbers_append [] ys = refl
  numbers_append (x ∷ xs) ys = ap (λ ns. x.number ∷ ns) (numbers_append xs ys)

  -- a number that isn't among those of the handles is no handle's
  absent_at : (h : ℕ) (xs : List (Handle S)) (x : Handle S) (k : ℕ) → times h (numbers_of xs) ≡ 0 → k < length xs → get_or xs k x ≡ x → x.number ≡ h → ⊥
  absent_at h [] x k none lt is same = omega arith
  absent_at h (y ∷ xs) x zero none lt is same =
      not_same h y.number (one_if_zero (nat_eq h y.number) (times h (numbers_of xs)) none).0 (sym same ∙ ap (λ (z : Handle S). z.number) (sym is))
  absent_at h (y ∷ xs) x (suc k) none lt is same =
      absent_at h xs x k (one_if_zero (nat_eq h y.number) (times h (numbers_of xs)) none).1 (omega arith) is same

  absent : (h : ℕ) (xs : List (Handle S)) (x : Handle S) → times h (numbers_of xs) ≡ 0 → Contains xs x → x.number ≢ h
  absent h xs x none there same = absent_at h xs x there.0 none there.1 there.2 same

  -- the numbers of a scratch area's streams
  slots_shown : (slots : List (Option (Handle S))) → Rules.handles_in (slot_numbers slots) ≡ numbers_of (handles_in slots)
  slots_shown [] = refl
  slots_shown (None ∷ slots) = slots_shown slots
  slots_shown (Some h ∷ slots) = ap (λ ns. h.number ∷ ns) (slots_shown slots)

  pub scratch_shown : (scratch : Option (Kept.Scratch S)) → Rules.handles_in (Rules.slots_of (shown_scratch scratch)) ≡ numbers_of (handles_in (slots_of scratch))
  scratch_shown None = refl
  scratch_shown (Some scratch) = slots_shown scratch.message.slots

  -- ONE CHANGED. The stream of one number is changed, and it is there once.
  abbrev pub at_place : List (Handle S) → List (Handle S) → List (Handle S) → ℕ → S → List (Handle S)
  at_place lower higher slots h s = (lower ++ record { number = h; stream = s } ∷ higher) ++ slots

  pub record IsAlone (h : ℕ) (lower higher slots : List (Handle S)) : Type 0 where
    pub in_lower : times h (numbers_of lower) ≡ 0
    pub in_higher : times h (numbers_of higher) ≡ 0
    pub in_slots : times h (numbers_of slots) ≡ 0

  pub alone : (h : ℕ) (s : S) (lower higher slots : List (Handle S)) → times h (numbers_of (lower ++ record { number = h; stream = s } ∷ higher) ++ numbers_of slots) ≤ 1 →
      IsAlone h lower higher slots
  alone h s lower higher slots few =
      let a : times h (numbers_of (lower ++ record { number = h; stream = s } ∷ higher) ++ numbers_of slots)
      ≡ times h (numbers_of (lower ++ record { number = h; stream = s } ∷ higher)) + times h (numbers_of slots) = times_append h _ _ in
      let b : times h (numbers_of (lower ++ record { number = h; stream = s } ∷ higher)) ≡ times h (numbers_of lower ++ h ∷ numbers_of higher) =
      ap (times h) (numbers_append lower (record { number = h; stream = s } ∷ higher)) in
      let d : times h (numbers_of lower ++ h ∷ numbers_of higher) ≡ times h (numbers_of lower) + times h (h ∷ numbers_of higher) = times_append h _ _ in
      let e : times h (h ∷ numbers_of higher) ≡ times h (numbers_of higher) + 1 = ap (λ (t : Bool). one_if t (times h (numbers_of higher))) (same_number h) in
      record { in_lower = omega arith; in_higher = omega arith; in_slots = omega arith }

  -- what is there is the changed one, or was there before and has another number
  abbrev pub Before : (h : ℕ) (lower higher slots : List (Handle S)) (before : S) → Handle S → Type 0
  Before h lower higher slots before x = Contains (at_place lower higher slots h before) x × (x.number ≢ h)

  pub found : (h : ℕ) (lower higher slots : List (Handle S)) (before now : S) → IsAlone h lower higher slots → (x : Handle S) → Contains (at_place lower higher slots h now) x →
      (record { number = h; stream = now } ≡ x) ⊎ Before h lower higher slots before x
  found h lower higher slots before now one x there =
      elim (Contains-append_cases (lower ++ record { number = h; stream = now } ∷ higher) slots x there)
      as (λ _. (record { number = h; stream = now } ≡ x) ⊎ Before h lower higher slots before x) [
        | inl table ↦ elim (Contains-append_cases lower (record { number = h; stream = now } ∷ higher) x table)
            as (λ _. (record { number = h; stream = now } ≡ x) ⊎ Before h lower higher slots before x) [
              | inl low ↦ inr (
                Contains-append_left (lower ++ record { number = h; stream = before } ∷ higher) slots x
                    (Contains-append_left lower (record { number = h; stream = before } ∷ higher) x low),
                absent h lower x one.in_lower low,
              )
              | inr rest ↦ elim (cons_cases (record { number = h; stream = now }) higher x rest.0 rest.1 rest.2)
                  as (λ _. (record { number = h; stream = now } ≡ x) ⊎ Before h lower higher slots before x) [
                    | inl same ↦ inl same
                    | inr high ↦ inr (
                      Contains-append_left (lower ++ record { number = h; stream = before } ∷ higher) slots x
                          (Contains-append_right lower (record { number = h; stream = before } ∷ higher) x (cons_more _ higher x high)),
                      absent h higher x one.in_higher high,
                    )
                  ]
            ]
        | inr slot ↦ inr (Contains-append_right (lower ++ record { number = h; stream = before } ∷ higher) slots x slot, absent h slots x one.in_slots slot)
      ]

-- STREAMED

streamed_there : (request : Request) (side : Side) (name : HostCall) → call_of request ≡ Some name → (streamed : ℕ → Streamed) (handle : ℕ) → nat_eq handle (arg request 0) ≡ true →
    streamed_beside (Some request) side streamed handle ≡ after_side name request side (streamed handle)
streamed_there request side name named streamed handle test =
    subst (λ (call : Option HostCall). streamed_by call request side streamed handle ≡ after_side name request side (streamed handle)) (sym named)
    (ap (λ (b : Bool). cond b (after_side name request side (streamed handle)) (streamed handle)) test)

streamed_elsewhere : (request : Request) (side : Side) (name : HostCall) → call_of request ≡ Some name → (streamed : ℕ → Streamed) (handle : ℕ) → nat_eq handle (arg request 0) ≡ false →
    streamed_beside (Some request) side streamed handle ≡ streamed handle
streamed_elsewhere request side name named streamed handle test =
    subst (λ (call : Option HostCall). streamed_by call request side streamed handle ≡ streamed handle) (sym named)
    (ap (λ (b : Bool). cond b (after_side name request side (streamed handle)) (streamed handle)) test)

abbrev pub StaysSo : HostCall → Request → Side → Type 0
StaysSo name request side = (s : Streamed) → after_side name request side s ≡ s

if_same : (b : Bool) (t s : Streamed) → t ≡ s → cond b t s ≡ s
if_same true t s same = same
if_same false t s same = refl

streamed_nowhere : (request : Request) (side : Side) (name : HostCall) → call_of request ≡ Some name → StaysSo name request side → (streamed : ℕ → Streamed) (handle : ℕ) →
    streamed_beside (Some request) side streamed handle ≡ streamed handle
streamed_nowhere request side name named stays streamed handle =
    subst (λ (call : Option HostCall). streamed_by call request side streamed handle ≡ streamed handle) (sym named)
    (if_same (nat_eq handle (arg request 0)) (after_side name request side (streamed handle)) (streamed handle) (stays (streamed handle)))

module _ {S : Type 0} (tells : Told S) where
  open_at : (streamed now : ℕ → Streamed) (x : Handle S) → now x.number ≡ streamed x.number → IsOpen tells streamed x → IsOpen tells now x
  open_at streamed now x same is =
      record { bears_out = subst (λ (s : Streamed). BearsOut tells s x.stream) (sym same) is.bears_out; up = is.up }

  -- where nothing is streamed, all stay open
  pub still_open : (request : Request) (side : Side) (name : HostCall) → call_of request ≡ Some name → StaysSo name request side → (streamed : ℕ → Streamed) (hands : List (Handle S)) →
      All (IsOpen tells streamed) hands → All (IsOpen tells (streamed_beside (Some request) side streamed)) hands
  still_open request side name named stays streamed hands open_all =
      All-weaker (IsOpen tells streamed) (IsOpen tells (streamed_beside (Some request) side streamed))
      (λ x is. open_at streamed (streamed_beside (Some request) side streamed) x (streamed_nowhere request side name named stays streamed x.number) is) hands open_all

  -- what one stream bears out after a call on it
  abbrev pub BearsMore : HostCall → Request → Side → S → S → Type 0
  BearsMore name request side before now = (s : Streamed) → BearsOut tells s before → BearsOut tells (after_side name request side s) now

  pub one_open : (request : Request) (side : Side) (name : HostCall) → call_of request ≡ Some name → (lower higher slots : List (Handle S)) (before now : S) →
      IsAlone (arg request 0) lower higher slots → BearsMore name request side before now → tells.down now ≡ tells.down before → (streamed : ℕ → Streamed) →
      All (IsOpen tells streamed) (at_place lower higher slots (arg request 0) before) →
      All (IsOpen tells (streamed_beside (Some request) side streamed)) (at_place lower higher slots (arg request 0) now)
  one_open request side name named lower higher slots before now one bears down streamed open_all =
      let h = arg request 0 in
      let after : ℕ → Streamed = streamed_beside (Some request) side streamed in
      let old : Handle S = record { number = h; stream = before } in
      let was : IsOpen tells streamed old =
      All-contains (IsOpen tells streamed) (at_place lower higher slots h before) old open_all
      (Contains-append_left (lower ++ old ∷ higher) slots old (Contains-append_right lower (old ∷ higher) old (0, omega arith, refl))) in
      let changed : IsOpen tells after (record { number = h; stream = now }) = record {
        bears_out = subst (λ (s : Streamed). BearsOut tells s now) (sym (streamed_there request side name named streamed h (same_number h))) (bears (streamed h) was.bears_out);
        up = down ∙ was.up;
      } in
      All-weaker (Contains (at_place lower higher slots h now)) (IsOpen tells after)
      (λ x there. elim (found h lower higher slots before now one x there) as (λ _. IsOpen tells after x) [
        | inl same ↦ subst (IsOpen tells after) same changed
        | inr other ↦ open_at streamed after x (streamed_elsewhere request side name named streamed x.number (differs x.number h other.1))
            (All-contains (IsOpen tells streamed) (at_place lower higher slots h before) x open_all other.0)
      ])
      (at_place lower higher slots h now) (All-contains_itself (at_place lower higher slots h now))

  -- BEARING OUT

  known_more : (known now : Option (List ℕ)) (xs more : List ℕ) → now ≡ append_known known more → IfSome known (λ bytes. bytes ≡ xs) → IfSome now (λ bytes. bytes ≡ xs ++ more)
  known_more None now xs more is so = rw is tt
  known_more (Some bytes) now xs more is so = rw is (ap (λ (b : List ℕ). b ++ more) so)

  known_still : (known now : Option (List ℕ)) (xs : List ℕ) → now ≡ known → IfSome known (λ bytes. bytes ≡ xs) → IfSome now (λ bytes. bytes ≡ xs)
  known_still known now xs is so = rw is so

  known_none : (known now : Option (List ℕ)) (xs : List ℕ) → now ≡ known → IfSome known (λ bytes. bytes ≡ xs) → IfSome now (λ bytes. bytes ≡ xs ++ [])
  known_none known now xs is so = rw append-nil (known_still known now xs is so)

  empties_more : (e : Bool) (before now size n empties : ℕ) → (e ≡ true → n ≡ 0) → 0 < size → StreamEmpty before now size (Io.Done n) → min empties (2 ^ 64 - 1) ≤ before →
      min (one_if e empties) (2 ^ 64 - 1) ≤ now
  empties_more true before now size n empties none some empty bound =
      let rose : RoseOrFull before now = empty.emptied (ap Io.Done (none refl)) some in
      omega arith
  empties_more false before now size n empties none some empty bound = let later = empty.later in omega arith

  -- a test that nothing was moved though there was room
  empty_answer : (request : Request) (reply : Reply) (n m : ℕ) → is_empty_answer request reply ≡ true → has_result 0 reply ≡ true → m ≡ n → nat_eq m 0 ≡ true → n ≡ 0
  empty_answer request reply n m is result same none = sym same ∙ is_same m 0 none

  both_first : (a b : Bool) → (a && b) ≡ true → a ≡ true
  both_first true b e = refl
  both_first false b e = absurd (cc)

  module _ (request : Request) (before now : S) where
    pub read_moved : (size n addr count_addr : ℕ) (buffer bytes : List ℕ) → Reads tells size buffer (Io.Done n) before now → bytes ≡ take n buffer → 0 < size →
        BearsMore CallIs.ReadStream request (SideIs.Answer (moved_reply addr bytes count_addr)) before now
    read_moved size n addr count_addr buffer bytes read are some s was =
        let within = read.taken.within in
        let many : length bytes ≡ n = ap length are ∙ (let l = length-take n buffer in omega (arith, l)) in
        let faults = read.causes.faults.later in
        let waits = read.causes.waits.later in
        let was_faults = was.faults in
        let was_waits = was.waits in
        record {
          taken = known_more (tells.taken before) (tells.taken now) s.taken bytes (read.taken.appended ∙ ap (append_known (tells.taken before)) (sym are)) was.taken;
          put = known_still (tells.put before) (tells.put now) s.put read.put was.put;
          faults = omega arith;
          waits = omega arith;
          empties = empties_more (is_empty_answer request (moved_reply addr bytes count_addr)) (tells.empties before) (tells.empties now) size n s.empties
              (λ e. sym many ∙ is_same (length bytes) 0 (both_first (nat_eq (length bytes) 0) _ e)) some read.causes.empties was.empties;
        }

    pub read_waits : (size : ℕ) (buffer : List ℕ) → Reads tells size buffer Io.NotReady before now → BearsMore CallIs.ReadStream request SideIs.Pending before now
    read_waits size buffer read s was =
        let faults = read.causes.faults.later in
        let rose = read.causes.waits.waited refl in
        let empties = read.causes.empties.later in
        let was_faults = was.faults in
        let was_waits = was.waits in
        let was_empties = was.empties in
        record {
          taken = known_still (tells.taken before) (tells.taken now) s.taken read.taken was.taken;
          put = known_still (tells.put before) (tells.put now) s.put read.put was.put;
          faults = omega arith;
          waits = omega arith;
          empties = omega arith;
        }

    pub read_fails : (size : ℕ) (buffer : List ℕ) → Reads tells size buffer Io.Failed before now →
        BearsMore CallIs.ReadStream request (SideIs.Answer (number_reply 1)) before now
    read_fails size buffer read s was =
        let rose = read.causes.faults.failed refl in
        let waits = read.causes.waits.later in
        let empties = read.causes.empties.later in
        let was_faults = was.faults in
        let was_waits = was.waits in
        let was_empties = was.empties in
        record {
          taken = known_none (tells.taken before) (tells.taken now) s.taken read.taken was.taken;
          put = known_still (tells.put before) (tells.put now) s.put read.put was.put;
          faults = omega arith;
          waits = omega arith;
          empties = omega arith;
        }

    pub write_moved : (size n count_addr : ℕ) (piece : List ℕ) → Writes tells size piece (Io.Done n) before now → take n piece ≡ take n request.first → 0 < size →
        BearsMore CallIs.WriteStream request (SideIs.Answer (count_reply n count_addr)) before now
    write_moved size n count_addr piece written are some s was =
        let faults = written.causes.faults.later in
        let waits = written.causes.waits.later in
        let was_faults = was.faults in
        let was_waits = was.waits in
        record {
          taken = known_still (tells.taken before) (tells.taken now) s.taken written.taken was.taken;
          put = known_more (tells.put before) (tells.put now) s.put (take n request.first) (written.put.appended ∙ ap (append_known (tells.put before)) are) was.put;
          faults = omega arith;
          waits = omega arith;
          empties = empties_more (is_empty_answer request (count_reply n count_addr)) (tells.empties before) (tells.empties now) size n s.empties
              (λ e. is_same n 0 (both_first (nat_eq n 0) _ e)) some written.causes.empties was.empties;
        }

    pub write_waits : (size : ℕ) (piece : List ℕ) → Writes tells size piece Io.NotReady before now → BearsMore CallIs.WriteStream request SideIs.Pending before now
    write_waits size piece written s was =
        let faults = written.causes.faults.later in
        let rose = written.causes.waits.waited refl in
        let empties = written.causes.empties.later in
        let was_faults = was.faults in
        let was_waits = was.waits in
        let was_empties = was.empties in
        record {
          taken = known_still (tells.taken before) (tells.taken now) s.taken written.taken was.taken;
          put = known_still (tells.put before) (tells.put now) s.put written.put was.put;
          faults = omega arith;
          waits = omega arith;
          empties = omega arith;
        }

    pub write_fails : (size : ℕ) (piece : List ℕ) → Writes tells size piece Io.Failed before now →
        BearsMore CallIs.WriteStream request (SideIs.Answer (number_reply 1)) before now
    write_fails size piece written s was =
        let rose = written.causes.faults.failed refl in
        let waits = written.causes.waits.later in
        let empties = written.causes.empties.later in
        let was_faults = was.faults in
        let was_waits = was.waits in
        let was_empties = was.empties in
        record {
          taken = known_still (tells.taken before) (tells.taken now) s.taken written.taken was.taken;
          put = known_none (tells.put before) (tells.put now) s.put written.put was.put;
          faults = omega arith;
          waits = omega arith;
          empties = omega arith;
        }

-- a read or a write of no bytes streams nothing
pub no_read : (request : Request) (addr count_addr : ℕ) → slice_index request.ask.args 2 ≡ 0 → StaysSo CallIs.ReadStream request (SideIs.Answer (moved_reply addr [] count_addr))
no_read request addr count_addr none s = rw (none, append-nil) refl

pub no_write : (request : Request) (count_addr : ℕ) → slice_index request.ask.args 2 ≡ 0 → StaysSo CallIs.WriteStream request (SideIs.Answer (count_reply 0 count_addr))
no_write request count_addr none s = rw (none, append-nil) refl
