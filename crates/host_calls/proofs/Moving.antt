-- A stream that goes out of a table or into one, and into a slot or out of one.
use Rattle.std.proofs.Common.{◌≡◌, ℕ, zero, suc, ◌+◌, ◌<◌, ◌≤◌, Bool, true, false, ◌||◌, cond, not, List, [], ◌∷◌, ◌++◌, length, length-append, take, drop, get_or, Option, Some, None, option_map, refl, ap, sym, subst, ◌∙◌, inl, inr, arith, eqb, ltb, add-one}
use Rattle.std.specs.Prelude.{◌⊎◌}
use Rattle.std.specs.List.{All, Contains, filter, slice_get, filter_map}
use Rattle.std.specs.Option.{option_flatten}
use Rattle.std.proofs.lemmas.Bool.{lt-ltb, le-ltb}
use Rattle.std.proofs.lemmas.Bool.Decides.{nat_tests, eqb_tells}
use Rattle.std.proofs.lemmas.List.Elements.{All-append, All-head, All-tail, filter_map-append}
use Rattle.resource_table.specs.Handles.{Handle, IsRising, numbers_of, handle_of, with_handle, without_handle}
use Rattle.resource_table.proofs.Filters.{filter-all, filter-none, split_at}
use Rattle.resource_table.proofs.Rising.{IsAround, around}
use Rattle.resource_table.proofs.Tables.{Lacks, lacks_from_none, none_from_lacks, without_handle-found, with_handle-place}
use Rattle.message_scratch.specs.Messages.{Slots, handles_in, handle_at}
use Rattle.message_scratch.specs.Changes.{emptied}
use Rattle.world_rules.specs.Part.{is_among}
use Rattle.host_calls.proofs.Numbering.{unequal_tests}

module _ {S : Type 0} where
  -- OUT OF A TABLE

  -- the handle of a number, and those around it
  pub record IsIn (n : ℕ) (hs : List (Handle S)) (h : Handle S) : Type 0 where
    pub lower : List (Handle S)
    pub higher : List (Handle S)
    pub is : hs ≡ lower ++ h ∷ higher
    pub number : h.number ≡ n

  pub found_in : (n : ℕ) (hs : List (Handle S)) (h : Handle S) → handle_of n hs ≡ Some h → IsIn n hs h
  found_in n [] h e = absurd cc
  found_in n (x ∷ hs) h e = by (λ rest. found_in n hs h rest) (eqb_tells x.number n)
    where
      first : x ≡ h → x.number ≡ n → IsIn n (x ∷ hs) h
      first one same = record { lower = []; higher = hs; is = ap (λ (z : Handle S). z ∷ hs) one; number = ap (λ (z : Handle S). z.number) (sym one) ∙ same }

      later : IsIn n hs h → IsIn n (x ∷ hs) h
      later rest = record { lower = x ∷ rest.lower; higher = rest.higher; is = ap (λ (zs : List (Handle S)). x ∷ zs) rest.is; number = rest.number }

      by : (handle_of n hs ≡ Some h → IsIn n hs h) → ((eqb x.number n ≡ true) × (x.number ≡ n)) ⊎ ((eqb x.number n ≡ false) × (x.number ≡ n → ⊥)) → IsIn n (x ∷ hs) h
      by before (inl same) =
          let some : Some x ≡ Some h = ap (λ (b : Bool). cond b (Some x) (handle_of n hs)) (sym same.0) ∙ e in
          let one : x ≡ h = cc in first one same.1
      by before (inr other) = later (before (ap (λ (b : Bool). cond b (Some x) (handle_of n hs)) (sym other.0) ∙ e))

  -- it is found where its number is among them
  pub is_found : (n : ℕ) (hs : List (Handle S)) → is_among (numbers_of hs) n ≡ true → handle_of n hs ≡ None → ⊥
  is_found n [] is none = absurd cc
  is_found n (x ∷ hs) is none = by (λ rest other. is_found n hs rest other) (eqb_tells x.number n)
    where
      by : (is_among (numbers_of hs) n ≡ true → handle_of n hs ≡ None → ⊥) → ((eqb x.number n ≡ true) × (x.number ≡ n)) ⊎ ((eqb x.number n ≡ false) × (x.number ≡ n → ⊥)) → ⊥
      by before (inl same) =
          let some : Some x ≡ None = ap (λ (b : Bool). cond b (Some x) (handle_of n hs)) (sym same.0) ∙ none in absurd cc
      by before (inr other) =
          let apart : eqb n x.number ≡ false = unequal_tests n x.number (λ e. other.1 (sym e)) in
          before (ap (λ (b : Bool). b || is_among (numbers_of hs) n) (sym apart) ∙ is)
          (ap (λ (b : Bool). cond b (Some x) (handle_of n hs)) (sym other.0) ∙ none)

  around_in : (n : ℕ) (hs : List (Handle S)) (h : Handle S) → IsRising hs → (at : IsIn n hs h) → IsAround at.lower h at.higher
  around_in n hs h rises at = around at.lower h at.higher (subst (λ (zs : List (Handle S)). IsRising zs) at.is rises)

  -- without it the others are left
  pub taken_out : (n : ℕ) (hs : List (Handle S)) (h : Handle S) → IsRising hs → (at : IsIn n hs h) →
      without_handle n hs ≡ at.lower ++ at.higher
  taken_out n hs h rises at =
      ap (without_handle n) at.is ∙ without_handle-found at.lower h at.higher n (around_in n hs h rises at) at.number

  -- put in again it is the same table
  pub put_back : (n : ℕ) (hs : List (Handle S)) (h : Handle S) → IsRising hs → handle_of n hs ≡ Some h →
      with_handle h (without_handle n hs) ≡ hs
  put_back n hs h rises found =
      let at = found_in n hs h found in
      ap (with_handle h) (taken_out n hs h rises at) ∙ with_handle-place at.lower h at.higher (around_in n hs h rises at) ∙ sym at.is

  -- its number is in it no more
  pub is_out : (n : ℕ) (hs : List (Handle S)) (h : Handle S) → IsRising hs → handle_of n hs ≡ Some h →
      Contains (numbers_of (without_handle n hs)) h.number → ⊥
  is_out n hs h rises found c =
      let at = found_in n hs h found in
      let is = around_in n hs h rises at in
      none_from_lacks h.number (at.lower ++ at.higher)
      (All-append (λ (k : Handle S). k.number ≡ h.number → ⊥) at.lower at.higher
      (λ k d lt. let under = is.below k d lt in λ e. omega (arith, under, e))
      (λ k d lt. let over = is.above k d lt in λ e. omega (arith, over, e)))
      (subst (λ (zs : List (Handle S)). Contains (numbers_of zs) h.number) (taken_out n hs h rises at) c)

  -- and there is one less
  pub one_less : (n : ℕ) (hs : List (Handle S)) (h : Handle S) → IsRising hs → handle_of n hs ≡ Some h →
      length (without_handle n hs) < length hs
  one_less n hs h rises found =
      let at = found_in n hs h found in
      let left = ap length (taken_out n hs h rises at) ∙ length-append at.lower at.higher in
      let whole = ap length at.is ∙ length-append at.lower (h ∷ at.higher) in
      omega (arith, left, whole)

  -- the same by other names
  pub out_as : (n : ℕ) (hs left : List (Handle S)) (moved back : Handle S) → IsRising hs → handle_of n hs ≡ Some moved →
      left ≡ without_handle n hs → back ≡ moved → Contains (numbers_of left) back.number → ⊥
  out_as n hs left moved back rises found is same c =
      is_out n hs moved rises found
      (subst (λ (zs : List (Handle S)). Contains (numbers_of zs) moved.number) is
      (subst (λ (x : Handle S). Contains (numbers_of left) x.number) same c))

  pub room_as : (n most : ℕ) (hs left : List (Handle S)) (moved : Handle S) → IsRising hs → handle_of n hs ≡ Some moved →
      left ≡ without_handle n hs → length hs ≤ most → length left < most
  room_as n most hs left moved rises found is bounded =
      let less = one_less n hs moved rises found in
      let same = ap length is in
      omega (arith, less, same, bounded)

  pub back_as : (n : ℕ) (hs left now : List (Handle S)) (moved back : Handle S) → IsRising hs → handle_of n hs ≡ Some moved →
      left ≡ without_handle n hs → back ≡ moved → now ≡ with_handle back left → now ≡ hs
  back_as n hs left now moved back rises found is same put =
      put ∙ ap (λ (x : Handle S). with_handle x left) same ∙ ap (λ (zs : List (Handle S)). with_handle moved zs) is
      ∙ put_back n hs moved rises found

  -- INTO A TABLE

  -- a table is parted by a number that it lacks
  pub parted : (n : ℕ) (hs : List (Handle S)) → IsRising hs → Lacks n hs →
      hs ≡ filter (λ (h : Handle S). ltb h.number n) hs ++ filter (λ (h : Handle S). ltb n h.number) hs
  parted n [] rises lacks = refl
  parted n (x ∷ hs) rises lacks =
      by (parted n hs rises.1 (All-tail (λ (k : Handle S). k.number ≡ n → ⊥) x hs lacks)) (ltb x.number n) refl
    where
      by : hs ≡ filter (λ (h : Handle S). ltb h.number n) hs ++ filter (λ (h : Handle S). ltb n h.number) hs → (b : Bool) → ltb x.number n ≡ b →
          x ∷ hs ≡ filter (λ (h : Handle S). ltb h.number n) (x ∷ hs) ++ filter (λ (h : Handle S). ltb n h.number) (x ∷ hs)
      by rest true is =
          let not_over : ltb n x.number ≡ false = grind (arith, nat_tests) in
          rw (is, not_over) (ap (λ (zs : List (Handle S)). x ∷ zs) rest)
      by rest false is =
          let other : x.number ≡ n → ⊥ = All-head (λ (k : Handle S). k.number ≡ n → ⊥) x hs lacks in
          let above : n < x.number = grind (arith, nat_tests) in
          let is_over : ltb n x.number ≡ true = lt-ltb n x.number above in
          let none : filter (λ (h : Handle S). ltb h.number n) hs ≡ [] =
          filter-none (λ (h : Handle S). ltb h.number n) hs (λ k d lt. let more = rises.0 k d lt in le-ltb _ _ (omega (arith, more, above))) in
          let all : filter (λ (h : Handle S). ltb n h.number) hs ≡ hs =
          filter-all (λ (h : Handle S). ltb n h.number) hs (λ k d lt. let more = rises.0 k d lt in lt-ltb _ _ (omega (arith, more, above))) in
          rw (is, is_over, none, all) refl

  -- INTO A SLOT

  pub handles_in-push : (slots : Slots S) (h : Handle S) → handles_in (slots ++ Some h ∷ []) ≡ handles_in slots ++ h ∷ []
  handles_in-push slots h = filter_map-append (λ (slot : Option (Handle S)). slot) slots (Some h ∷ [])

  -- OUT OF A SLOT

  flattened : (o : Option (Option (Handle S))) (h : Handle S) → option_flatten o ≡ Some h → o ≡ Some (Some h)
  flattened None h e = absurd cc
  flattened (Some None) h e = absurd cc
  flattened (Some (Some x)) h e = ap Some e

  pub handles_in-parts : (xs ys : Slots S) (h : Handle S) → handles_in (xs ++ Some h ∷ ys) ≡ handles_in xs ++ h ∷ handles_in ys
  handles_in-parts xs ys h = filter_map-append (λ (slot : Option (Handle S)). slot) xs (Some h ∷ ys)

  pub handles_in-taken : (slots : Slots S) (place : ℕ) (h : Handle S) → handle_at slots place ≡ Some h →
      handles_in slots ≡ handles_in (take place slots) ++ h ∷ handles_in (drop (suc place) slots)
  handles_in-taken slots place h at =
      let split = split_at slots place (Some h) (flattened (slice_get slots place) h at) in
      ap (λ (zs : Slots S). handles_in zs) split.0 ∙ handles_in-parts (take place slots) (drop (suc place) slots) h

  pub handles_in-left : (slots : Slots S) (place : ℕ) →
      handles_in (emptied slots place) ≡ handles_in (take place slots) ++ handles_in (drop (suc place) slots)
  handles_in-left slots place =
      rw add-one (filter_map-append (λ (slot : Option (Handle S)). slot) (take place slots) (None ∷ drop (suc place) slots))
