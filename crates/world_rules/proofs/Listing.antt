-- Streams in lists, slots and mailboxes: what is there, and how often.
use Rattle.std.specs.Prelude.{◌≡◌, ◌≢◌, ◌⊎◌, ℕ, zero, suc, ◌+◌, ◌<◌, ◌≤◌, List, [], ◌∷◌, ◌++◌, length, take, drop, filter, cond, not, Option, Some, None, Bool, true, false, ◌||◌, ◌&&◌, nat_eq, nat_lt, nat_le, if◌then◌else◌, refl}
use Rattle.std.specs.Option.{option_map_or}
use Rattle.std.specs.List.{list_any}
use Rattle.std.proofs.Common.{subst, sym, ◌∙◌, ap, inl, inr, arith}
use Rattle.std.proofs.lemmas.Bool.Decides.{eqb_tells, leb_tells, nat_tests}
use Rattle.world_rules.specs.Part.{is_among, with_number, without_number, handles_in, handle_at, emptied, Message}
use Rattle.world_rules.specs.Mail.{MailItem, Letter, Signal, is_wanted, tag_of, pick, unpicked, item_handles, mail_handles}
use Rattle.world_rules.specs.Streams.{one_if}
use Rattle.world_rules.specs.Sound.{times, AllAbove, Rise}
use Rattle.world_rules.specs.Placed.{slot_holds, item_holds, letter_numbers}
use Rattle.world_rules.specs.laws.BirthLaws.{none_is_some, same_some}
use Rattle.world_rules.specs.laws.KeepingLaws.{false_is_true}
use Rattle.world_rules.proofs.Closing.{equal, unequal, same_of, among_cases, among_first, among_rest, among_append, among_left, among_right}

-- HOW OFTEN

pub lt_true : (a b : ℕ) → a < b → nat_lt a b ≡ true
lt_true a b less = grind (arith, nat_tests)

pub lt_false : (a b : ℕ) → b ≤ a → nat_lt a b ≡ false
lt_false a b more = grind (arith, nat_tests)

pub times_append : (k : ℕ) (xs ys : List ℕ) → times k (xs ++ ys) ≡ times k xs + times k ys
times_append k [] ys = none (times k ys)
  where
    none : (n : ℕ) → n ≡ 0 + n
    none n = omega arith
times_append k (x ∷ xs) ys = by (times_append k xs ys) (nat_eq k x)
  where
    more : (a b c : ℕ) → a ≡ b + c → a + 1 ≡ b + 1 + c
    more a b c e = omega (arith, e)

    by : times k (xs ++ ys) ≡ times k xs + times k ys → (b : Bool) → one_if b (times k (xs ++ ys)) ≡ one_if b (times k xs) + times k ys
    by rest true = more (times k (xs ++ ys)) (times k xs) (times k ys) rest
    by rest false = rest

pub times_filter : (test : ℕ → Bool) (k : ℕ) (xs : List ℕ) → times k (filter test xs) ≡ (if test k then times k xs else 0)
times_filter test k [] = by (test k)
  where
    by : (b : Bool) → ◌≡◌ {A = ℕ} 0 (if b then 0 else 0)
    by true = refl
    by false = refl
times_filter test k (x ∷ xs) = by (times_filter test k xs) (eqb_tells k x) (test x) refl
  where
    kept : k ≡ x → nat_eq k x ≡ true → test x ≡ true → times k (filter test xs) ≡ (if test k then times k xs else 0)
        → one_if (nat_eq k x) (times k (filter test xs)) ≡ (if test k then one_if (nat_eq k x) (times k xs) else 0)
    kept same is passes rest =
        let here : test k ≡ true = ap (λ (n : ℕ). test n) same ∙ passes in
        ap (λ (n : ℕ). one_if (nat_eq k x) n) (rest ∙ ap (λ (b : Bool). if b then times k xs else 0) here)
        ∙ ap (λ (b : Bool). if b then one_if (nat_eq k x) (times k xs) else 0) (sym here)

    lost : k ≡ x → test x ≡ false → times k (filter test xs) ≡ (if test k then times k xs else 0)
        → times k (filter test xs) ≡ (if test k then one_if (nat_eq k x) (times k xs) else 0)
    lost same fails rest =
        let here : test k ≡ false = ap (λ (n : ℕ). test n) same ∙ fails in
        rest ∙ ap (λ (b : Bool). if b then times k xs else 0) here ∙ ap (λ (b : Bool). if b then one_if (nat_eq k x) (times k xs) else 0) (sym here)

    other : nat_eq k x ≡ false → times k (filter test xs) ≡ (if test k then times k xs else 0) → (b : Bool)
        → times k (cond b (x ∷ filter test xs) (filter test xs)) ≡ (if test k then one_if (nat_eq k x) (times k xs) else 0)
    other isnt rest true =
        ap (λ (b : Bool). one_if b (times k (filter test xs))) isnt ∙ rest ∙ ap (λ (b : Bool). if test k then one_if b (times k xs) else 0) (sym isnt)
    other isnt rest false = rest ∙ ap (λ (b : Bool). if test k then one_if b (times k xs) else 0) (sym isnt)

    by : times k (filter test xs) ≡ (if test k then times k xs else 0) → ((nat_eq k x ≡ true) × (k ≡ x)) ⊎ ((nat_eq k x ≡ false) × (k ≢ x)) → (b : Bool) → test x ≡ b
        → times k (cond b (x ∷ filter test xs) (filter test xs)) ≡ (if test k then one_if (nat_eq k x) (times k xs) else 0)
    by rest (inl same) true e = kept same.1 same.0 e rest
    by rest (inl same) false e = lost same.1 e rest
    by rest (inr differs) b e = other differs.0 rest b

pub times_none : (k : ℕ) (xs : List ℕ) → is_among xs k ≡ false → times k xs ≡ 0
times_none k [] none = refl
times_none k (x ∷ xs) none = by (λ rest. times_none k xs rest) (nat_eq k x) none
  where
    by : (is_among xs k ≡ false → times k xs ≡ 0) → (b : Bool) → (b || is_among xs k) ≡ false → one_if b (times k xs) ≡ 0
    by rest true none = false_is_true (sym none)
    by rest false none = rest none

pub times_some : (k : ℕ) (xs : List ℕ) → is_among xs k ≡ true → 0 < times k xs
times_some k [] is = false_is_true is
times_some k (x ∷ xs) is = by (λ rest. times_some k xs rest) (nat_eq k x) is
  where
    more : (n : ℕ) → 0 < n + 1
    more n = omega arith

    by : (is_among xs k ≡ true → 0 < times k xs) → (b : Bool) → (b || is_among xs k) ≡ true → 0 < one_if b (times k xs)
    by rest true is = more (times k xs)
    by rest false is = rest is

pub among_of_times : (k : ℕ) (xs : List ℕ) → 0 < times k xs → is_among xs k ≡ true
among_of_times k xs some = by (is_among xs k) refl
  where
    no : (n : ℕ) → 0 < n → n ≡ 0 → ⊥
    no n some none = omega (arith, some, none)

    by : (b : Bool) → is_among xs k ≡ b → is_among xs k ≡ true
    by true e = e
    by false e = absurd (no (times k xs) some (times_none k xs e))

-- RISING NUMBERS

above_times : (low k : ℕ) (xs : List ℕ) → AllAbove low xs → k ≤ low → times k xs ≡ 0
above_times low k [] above less = refl
above_times low k (x ∷ xs) above less =
    ap (λ (b : Bool). one_if b (times k xs)) (unequal k x (apart k low x less above.0)) ∙ above_times low k xs above.1 less
  where
    apart : (a b c : ℕ) → a ≤ b → b < c → a ≢ c
    apart a b c x y = omega (arith, x, y)

pub rise_once : (k : ℕ) (xs : List ℕ) → Rise xs → is_among xs k ≡ true → times k xs ≡ 1
rise_once k [] rise is = false_is_true is
rise_once k (x ∷ xs) rise is = by (λ rest. rise_once k xs rise.1 rest) (eqb_tells k x)
  where
    same_le : (a b : ℕ) → a ≡ b → a ≤ b
    same_le a b e = omega (arith, e)

    by : (is_among xs k ≡ true → times k xs ≡ 1) → ((nat_eq k x ≡ true) × (k ≡ x)) ⊎ ((nat_eq k x ≡ false) × (k ≢ x)) → one_if (nat_eq k x) (times k xs) ≡ 1
    by rest (inl same) =
        ap (λ (b : Bool). one_if b (times k xs)) same.0 ∙ ap (λ (n : ℕ). n + 1) (above_times x k xs rise.0 (same_le k x same.1))
    by rest (inr other) =
        ap (λ (b : Bool). one_if b (times k xs)) other.0 ∙ rest (ap (λ (b : Bool). b || is_among xs k) (sym other.0) ∙ is)

pub without_times : (n k : ℕ) (xs : List ℕ) → Rise xs → is_among xs n ≡ true → times k xs ≡ one_if (nat_eq k n) (times k (without_number n xs))
without_times n k xs rise is = by (eqb_tells k n)
  where
    by : ((nat_eq k n ≡ true) × (k ≡ n)) ⊎ ((nat_eq k n ≡ false) × (k ≢ n)) → times k xs ≡ one_if (nat_eq k n) (times k (without_number n xs))
    by (inl same) =
        rise_once k xs rise (ap (λ (m : ℕ). is_among xs m) same.1 ∙ is)
        ∙ ap (λ (m : ℕ). m + 1) (sym (times_filter (λ m. not (nat_eq m n)) k xs ∙ ap (λ (b : Bool). if not b then times k xs else 0) same.0))
        ∙ ap (λ (b : Bool). one_if b (times k (without_number n xs))) (sym same.0)
    by (inr other) =
        sym (times_filter (λ m. not (nat_eq m n)) k xs ∙ ap (λ (b : Bool). if not b then times k xs else 0) other.0)
        ∙ ap (λ (b : Bool). one_if b (times k (without_number n xs))) (sym other.0)

pub with_times : (n k : ℕ) (xs : List ℕ) → is_among xs n ≡ false → times k (with_number n xs) ≡ one_if (nat_eq k n) (times k xs)
with_times n k xs none =
    times_append k (filter (λ m. nat_lt m n) xs) (n ∷ filter (λ m. nat_lt n m) xs)
    ∙ ap (λ (a : ℕ). a + one_if (nat_eq k n) (times k (filter (λ m. nat_lt n m) xs))) (times_filter (λ m. nat_lt m n) k xs)
    ∙ ap (λ (a : ℕ). (if nat_lt k n then times k xs else 0) + one_if (nat_eq k n) a) (times_filter (λ m. nat_lt n m) k xs)
    ∙ by (eqb_tells k n)
  where
    at : (a b : Bool) → nat_lt k n ≡ a → nat_lt n k ≡ b → (e : Bool) → nat_eq k n ≡ e →
        (if a then times k xs else 0) + one_if e (if b then times k xs else 0) ≡ one_if e (times k xs) →
        (if nat_lt k n then times k xs else 0) + one_if (nat_eq k n) (if nat_lt n k then times k xs else 0) ≡ one_if (nat_eq k n) (times k xs)
    at a b low high e is goal =
        ap (λ (c : Bool). (if c then times k xs else 0) + one_if (nat_eq k n) (if nat_lt n k then times k xs else 0)) low
        ∙ ap (λ (c : Bool). (if a then times k xs else 0) + one_if (nat_eq k n) (if c then times k xs else 0)) high
        ∙ ap (λ (c : Bool). (if a then times k xs else 0) + one_if c (if b then times k xs else 0)) is
        ∙ goal ∙ ap (λ (c : Bool). one_if c (times k xs)) (sym is)

    le : (a b : ℕ) → a ≡ b → b ≤ a
    le a b e = omega (arith, e)

    ge : (a b : ℕ) → a ≡ b → a ≤ b
    ge a b e = omega (arith, e)

    low_le : (a b : ℕ) → a < b → a ≤ b
    low_le a b e = omega (arith, e)

    first : (t : ℕ) → t ≡ 0 → 0 + (0 + 1) ≡ t + 1
    first t e = omega (arith, e)

    left : (t : ℕ) → t + 0 ≡ t
    left t = omega arith

    right : (t : ℕ) → 0 + t ≡ t
    right t = omega arith

    apart : (a b : ℕ) → a ≢ b → (a < b) ⊎ (b < a)
    apart a b other = side (leb_tells a b)
      where
        less : (a b : ℕ) → a ≤ b → a ≢ b → a < b
        less a b x y = omega (arith, x, y)

        side : ((nat_le a b ≡ true) × (a ≤ b)) ⊎ ((nat_le a b ≡ false) × (b < a)) → (a < b) ⊎ (b < a)
        side (inl h) = inl (less a b h.1 other)
        side (inr h) = inr h.1

    by : ((nat_eq k n ≡ true) × (k ≡ n)) ⊎ ((nat_eq k n ≡ false) × (k ≢ n)) →
        (if nat_lt k n then times k xs else 0) + one_if (nat_eq k n) (if nat_lt n k then times k xs else 0) ≡ one_if (nat_eq k n) (times k xs)
    by (inl same) =
        at false false (lt_false k n (le k n same.1)) (lt_false n k (ge k n same.1)) true same.0
        (first (times k xs) (times_none k xs (ap (λ (m : ℕ). is_among xs m) same.1 ∙ none)))
    by (inr other) = elsewhere (apart k n other.1)
      where
        elsewhere : (k < n) ⊎ (n < k) →
            (if nat_lt k n then times k xs else 0) + one_if (nat_eq k n) (if nat_lt n k then times k xs else 0) ≡ one_if (nat_eq k n) (times k xs)
        elsewhere (inl less) = at true false (lt_true k n less) (lt_false n k (low_le k n less)) false other.0 (left (times k xs))
        elsewhere (inr more) = at false true (lt_false k n (low_le n k more)) (lt_true n k more) false other.0 (right (times k xs))

-- a number that was put among others
pub among_with : (n : ℕ) (xs : List ℕ) (k : ℕ) → is_among (with_number n xs) k ≡ true → (k ≡ n) ⊎ (is_among xs k ≡ true)
among_with n xs k is = by (among_append (filter (λ m. nat_lt m n) xs) (n ∷ filter (λ m. nat_lt n m) xs) k is)
  where
    kept : (test : ℕ → Bool) → is_among (filter test xs) k ≡ true → is_among xs k ≡ true
    kept test there = at (test k) refl
      where
        no : (t : ℕ) → 0 < t → t ≡ 0 → ⊥
        no t x y = omega (arith, x, y)

        more : 0 < times k (filter test xs)
        more = times_some k (filter test xs) there

        at : (b : Bool) → test k ≡ b → is_among xs k ≡ true
        at true e =
            among_of_times k xs
            (subst (λ (t : ℕ). 0 < t) (times_filter test k xs ∙ ap (λ (b : Bool). if b then times k xs else 0) e) more)
        at false e =
            absurd (no (times k (filter test xs)) more (times_filter test k xs ∙ ap (λ (b : Bool). if b then times k xs else 0) e))

    behind : (k ≡ n) ⊎ (is_among (filter (λ m. nat_lt n m) xs) k ≡ true) → (k ≡ n) ⊎ (is_among xs k ≡ true)
    behind (inl same) = inl same
    behind (inr there) = inr (kept (λ m. nat_lt n m) there)

    by : (is_among (filter (λ m. nat_lt m n) xs) k ≡ true) ⊎ (is_among (n ∷ filter (λ m. nat_lt n m) xs) k ≡ true) → (k ≡ n) ⊎ (is_among xs k ≡ true)
    by (inl there) = inr (kept (λ m. nat_lt m n) there)
    by (inr there) = behind (among_cases n (filter (λ m. nat_lt n m) xs) k there)

-- SLOTS

pub slot_among : (slots : List (Option ℕ)) (slot handle : ℕ) → handle_at slots slot ≡ Some handle → is_among (handles_in slots) handle ≡ true
slot_among [] slot handle e = absurd (none_is_some e)
slot_among (None ∷ slots) zero handle e = absurd (none_is_some e)
slot_among (None ∷ slots) (suc slot) handle e = slot_among slots slot handle e
slot_among (Some x ∷ slots) zero handle e = among_first x (handles_in slots) handle (sym (same_some x handle e))
slot_among (Some x ∷ slots) (suc slot) handle e = among_rest x (handles_in slots) handle (slot_among slots slot handle e)

pub among_slot : (slots : List (Option ℕ)) (handle : ℕ) → is_among (handles_in slots) handle ≡ true → (slot : ℕ) × (handle_at slots slot ≡ Some handle)
among_slot [] handle is = false_is_true is
among_slot (None ∷ slots) handle is = let found = among_slot slots handle is in (suc found.0, found.1)
among_slot (Some x ∷ slots) handle is = by (λ there. among_slot slots handle there) (among_cases x (handles_in slots) handle is)
  where
    by : (is_among (handles_in slots) handle ≡ true → (slot : ℕ) × (handle_at slots slot ≡ Some handle)) → (handle ≡ x) ⊎ (is_among (handles_in slots) handle ≡ true)
        → (slot : ℕ) × (handle_at (Some x ∷ slots) slot ≡ Some handle)
    by rest (inl same) = (zero, ap (λ (n : ℕ). Some n) (sym same))
    by rest (inr there) = (suc (rest there).0, (rest there).1)

emptied_more : (s : Option ℕ) (slots : List (Option ℕ)) (slot : ℕ) → emptied (s ∷ slots) (suc slot) ≡ s ∷ emptied slots slot
emptied_more s slots slot = ap (λ (n : ℕ). s ∷ take slot slots ++ None ∷ drop n (s ∷ slots)) (e slot)
  where
    e : (n : ℕ) → suc n + 1 ≡ suc (n + 1)
    e n = omega arith

pub emptied_at : (slots : List (Option ℕ)) (slot handle s k : ℕ) → handle_at slots slot ≡ Some handle → handle_at (emptied slots slot) s ≡ Some k
    → (s ≢ slot) × (handle_at slots s ≡ Some k)
emptied_at [] slot handle s k there e = absurd (none_is_some there)
emptied_at (x ∷ slots) zero handle zero k there e = absurd (none_is_some e)
emptied_at (x ∷ slots) zero handle (suc s) k there e = (apart s, e)
  where
    apart : (n : ℕ) → suc n ≢ 0
    apart n = omega arith
emptied_at (x ∷ slots) (suc slot) handle zero k there e =
    (apart slot, sym (ap (λ (xs : List (Option ℕ)). handle_at xs 0) (emptied_more x slots slot)) ∙ e)
  where
    apart : (n : ℕ) → 0 ≢ suc n
    apart n = omega arith
emptied_at (x ∷ slots) (suc slot) handle (suc s) k there e =
    let rest = emptied_at slots slot handle s k there (sym (ap (λ (xs : List (Option ℕ)). handle_at xs (suc s)) (emptied_more x slots slot)) ∙ e) in
    (apart s slot rest.0, rest.1)
  where
    apart : (a b : ℕ) → a ≢ b → suc a ≢ suc b
    apart a b other = omega (arith, other)

one_twice : (a b : Bool) (n : ℕ) → one_if a (one_if b n) ≡ one_if b (one_if a n)
one_twice true true n = refl
one_twice true false n = refl
one_twice false b n = refl

pub emptied_times : (k : ℕ) (slots : List (Option ℕ)) (slot handle : ℕ) → handle_at slots slot ≡ Some handle
    → times k (handles_in slots) ≡ one_if (nat_eq k handle) (times k (handles_in (emptied slots slot)))
emptied_times k [] slot handle there = absurd (none_is_some there)
emptied_times k (x ∷ slots) zero handle there = ap (λ (o : Option ℕ). times k (handles_in (o ∷ slots))) there
emptied_times k (None ∷ slots) (suc slot) handle there =
    emptied_times k slots slot handle there
    ∙ sym (ap (λ (xs : List (Option ℕ)). one_if (nat_eq k handle) (times k (handles_in xs))) (emptied_more None slots slot))
emptied_times k (Some x ∷ slots) (suc slot) handle there =
    ap (λ (n : ℕ). one_if (nat_eq k x) n) (emptied_times k slots slot handle there)
    ∙ one_twice (nat_eq k x) (nat_eq k handle) (times k (handles_in (emptied slots slot)))
    ∙ sym (ap (λ (xs : List (Option ℕ)). one_if (nat_eq k handle) (times k (handles_in xs))) (emptied_more (Some x) slots slot))

pub pushed_at : (slots : List (Option ℕ)) (handle s k : ℕ) → handle_at (slots ++ Some handle ∷ []) s ≡ Some k
    → (handle_at slots s ≡ Some k) ⊎ ((s ≡ length slots) × (k ≡ handle))
pushed_at [] handle zero k e = inr (refl, sym (same_some handle k e))
pushed_at [] handle (suc s) k e = absurd (none_is_some e)
pushed_at (x ∷ slots) handle zero k e = inl e
pushed_at (x ∷ slots) handle (suc s) k e = by (pushed_at slots handle s k e)
  where
    by : (handle_at slots s ≡ Some k) ⊎ ((s ≡ length slots) × (k ≡ handle)) → (handle_at slots s ≡ Some k) ⊎ ((suc s ≡ suc (length slots)) × (k ≡ handle))
    by (inl there) = inl there
    by (inr last) = inr (ap (λ (n : ℕ). suc n) last.0, last.1)

pub pushed_handles : (slots : List (Option ℕ)) (handle : ℕ) → handles_in (slots ++ Some handle ∷ []) ≡ handles_in slots ++ handle ∷ []
pushed_handles [] handle = refl
pushed_handles (None ∷ slots) handle = pushed_handles slots handle
pushed_handles (Some x ∷ slots) handle = ap (λ (xs : List ℕ). x ∷ xs) (pushed_handles slots handle)

pub holds_of : (slots : List (Option ℕ)) (slot handle : ℕ) → handle_at slots slot ≡ Some handle → slot_holds handle slots slot ≡ true
holds_of slots slot handle e = ap (λ (o : Option ℕ). option_map_or (nat_eq handle) o false) e ∙ equal handle handle refl

pub of_holds : (slots : List (Option ℕ)) (slot handle : ℕ) → slot_holds handle slots slot ≡ true → handle_at slots slot ≡ Some handle
of_holds slots slot handle is = by (handle_at slots slot) is
  where
    by : (o : Option ℕ) → option_map_or (nat_eq handle) o false ≡ true → o ≡ Some handle
    by None is = false_is_true is
    by (Some x) is = ap (λ (n : ℕ). Some n) (sym (same_of handle x is))

-- MAILBOXES

and_both : (a b : Bool) → (a && b) ≡ true → (a ≡ true) × (b ≡ true)
and_both true b e = (refl, e)
and_both false b e = false_is_true e

both_and : (a b : Bool) → a ≡ true → b ≡ true → (a && b) ≡ true
both_and true b x y = y
both_and false b x y = false_is_true x

or_cases : (a b : Bool) → (a || b) ≡ true → (a ≡ true) ⊎ (b ≡ true)
or_cases true b e = inl refl
or_cases false b e = inr e

or_left : (a b : Bool) → a ≡ true → (a || b) ≡ true
or_left true b e = refl
or_left false b e = false_is_true e

or_right : (a b : Bool) → b ≡ true → (a || b) ≡ true
or_right true b e = refl
or_right false b e = e

abbrev pub Lies : List MailItem → ℕ → ℕ → ℕ → Type 0
Lies mail handle number slot = list_any (item_holds handle number slot) mail ≡ true

pub lies_first : (number : ℕ) (message : Message) (mail : List MailItem) (slot handle : ℕ) → handle_at message.slots slot ≡ Some handle
    → Lies (Letter number message ∷ mail) handle number slot
lies_first number message mail slot handle e =
    or_left (nat_eq number number && slot_holds handle message.slots slot) (list_any (item_holds handle number slot) mail)
    (both_and (nat_eq number number) (slot_holds handle message.slots slot) (equal number number refl) (holds_of message.slots slot handle e))

pub lies_rest : (item : MailItem) (mail : List MailItem) (handle number slot : ℕ) → Lies mail handle number slot → Lies (item ∷ mail) handle number slot
lies_rest item mail handle number slot is = or_right (item_holds handle number slot item) (list_any (item_holds handle number slot) mail) is

-- a stream of a mailbox lies in a slot of a message of it
pub mail_lies : (mail : List MailItem) (handle : ℕ) → is_among (mail_handles mail) handle ≡ true → (number : ℕ) × (slot : ℕ) × Lies mail handle number slot
mail_lies [] handle is = false_is_true is
mail_lies (Signal tag ∷ mail) handle is = mail_lies mail handle is
mail_lies (Letter number message ∷ mail) handle is =
    by (λ there. mail_lies mail handle there) (among_append (handles_in message.slots) (mail_handles mail) handle is)
  where
    by : (is_among (mail_handles mail) handle ≡ true → (n : ℕ) × (slot : ℕ) × Lies mail handle n slot)
        → (is_among (handles_in message.slots) handle ≡ true) ⊎ (is_among (mail_handles mail) handle ≡ true)
        → (n : ℕ) × (slot : ℕ) × Lies (Letter number message ∷ mail) handle n slot
    by rest (inl there) =
        let found = among_slot message.slots handle there in (number, found.0, lies_first number message mail found.0 handle found.1)
    by rest (inr there) =
        let found = rest there in (found.0, found.1, lies_rest (Letter number message) mail handle found.0 found.1 found.2)

-- what lies in the slot of a message: of the first, or of another
lies_cases : (number : ℕ) (message : Message) (mail : List MailItem) (handle n slot : ℕ) → Lies (Letter number message ∷ mail) handle n slot
    → ((number ≡ n) × (handle_at message.slots slot ≡ Some handle)) ⊎ Lies mail handle n slot
lies_cases number message mail handle n slot is =
    by (or_cases (nat_eq number n && slot_holds handle message.slots slot) (list_any (item_holds handle n slot) mail) is)
  where
    by : ((nat_eq number n && slot_holds handle message.slots slot) ≡ true) ⊎ Lies mail handle n slot
        → ((number ≡ n) × (handle_at message.slots slot ≡ Some handle)) ⊎ Lies mail handle n slot
    by (inl here) =
        let both = and_both (nat_eq number n) (slot_holds handle message.slots slot) here in
        inl (same_of number n both.0, of_holds message.slots slot handle both.1)
    by (inr there) = inr there

pub lies_among : (mail : List MailItem) (handle number slot : ℕ) → Lies mail handle number slot → is_among (mail_handles mail) handle ≡ true
lies_among [] handle number slot is = false_is_true is
lies_among (Signal tag ∷ mail) handle number slot is = lies_among mail handle number slot is
lies_among (Letter other message ∷ mail) handle number slot is =
    by (λ there. lies_among mail handle number slot there) (lies_cases other message mail handle number slot is)
  where
    by : (Lies mail handle number slot → is_among (mail_handles mail) handle ≡ true)
        → ((other ≡ number) × (handle_at message.slots slot ≡ Some handle)) ⊎ Lies mail handle number slot
        → is_among (handles_in message.slots ++ mail_handles mail) handle ≡ true
    by rest (inl here) = among_left (handles_in message.slots) (mail_handles mail) handle (slot_among message.slots slot handle here.1)
    by rest (inr there) = among_right (handles_in message.slots) (mail_handles mail) handle (rest there)

pub lies_number : (mail : List MailItem) (handle number slot : ℕ) → Lies mail handle number slot → is_among (letter_numbers mail) number ≡ true
lies_number [] handle number slot is = false_is_true is
lies_number (Signal tag ∷ mail) handle number slot is = lies_number mail handle number slot is
lies_number (Letter other message ∷ mail) handle number slot is =
    by (λ there. lies_number mail handle number slot there) (lies_cases other message mail handle number slot is)
  where
    by : (Lies mail handle number slot → is_among (letter_numbers mail) number ≡ true)
        → ((other ≡ number) × (handle_at message.slots slot ≡ Some handle)) ⊎ Lies mail handle number slot
        → is_among (other ∷ letter_numbers mail) number ≡ true
    by rest (inl here) = among_first other (letter_numbers mail) number (sym here.0)
    by rest (inr there) = among_rest other (letter_numbers mail) number (rest there)

-- POSTED

pub posted_lies : (mail : List MailItem) (number : ℕ) (message : Message) (handle n slot : ℕ) → Lies (mail ++ Letter number message ∷ []) handle n slot
    → Lies mail handle n slot ⊎ ((number ≡ n) × (handle_at message.slots slot ≡ Some handle))
posted_lies [] number message handle n slot is = by (lies_cases number message [] handle n slot is)
  where
    by : ((number ≡ n) × (handle_at message.slots slot ≡ Some handle)) ⊎ Lies [] handle n slot → Lies [] handle n slot ⊎ ((number ≡ n) × (handle_at message.slots slot ≡ Some handle))
    by (inl here) = inr here
    by (inr there) = inl there
posted_lies (item ∷ mail) number message handle n slot is =
    by (λ there. posted_lies mail number message handle n slot there)
    (or_cases (item_holds handle n slot item) (list_any (item_holds handle n slot) (mail ++ Letter number message ∷ [])) is)
  where
    behind : Lies mail handle n slot ⊎ ((number ≡ n) × (handle_at message.slots slot ≡ Some handle))
        → Lies (item ∷ mail) handle n slot ⊎ ((number ≡ n) × (handle_at message.slots slot ≡ Some handle))
    behind (inl there) = inl (lies_rest item mail handle n slot there)
    behind (inr last) = inr last

    by : (Lies (mail ++ Letter number message ∷ []) handle n slot → Lies mail handle n slot ⊎ ((number ≡ n) × (handle_at message.slots slot ≡ Some handle)))
        → (item_holds handle n slot item ≡ true) ⊎ Lies (mail ++ Letter number message ∷ []) handle n slot
        → Lies (item ∷ mail) handle n slot ⊎ ((number ≡ n) × (handle_at message.slots slot ≡ Some handle))
    by rest (inl here) = inl (or_left (item_holds handle n slot item) (list_any (item_holds handle n slot) mail) here)
    by rest (inr there) = behind (rest there)

pub signal_lies : (mail : List MailItem) (tag handle n slot : ℕ) → Lies (mail ++ Signal tag ∷ []) handle n slot → Lies mail handle n slot
signal_lies [] tag handle n slot is = false_is_true is
signal_lies (item ∷ mail) tag handle n slot is =
    by (λ there. signal_lies mail tag handle n slot there)
    (or_cases (item_holds handle n slot item) (list_any (item_holds handle n slot) (mail ++ Signal tag ∷ [])) is)
  where
    by : (Lies (mail ++ Signal tag ∷ []) handle n slot → Lies mail handle n slot)
        → (item_holds handle n slot item ≡ true) ⊎ Lies (mail ++ Signal tag ∷ []) handle n slot → Lies (item ∷ mail) handle n slot
    by rest (inl here) = or_left (item_holds handle n slot item) (list_any (item_holds handle n slot) mail) here
    by rest (inr there) = lies_rest item mail handle n slot (rest there)

pub posted_numbers : (mail : List MailItem) (number : ℕ) (message : Message) → letter_numbers (mail ++ Letter number message ∷ []) ≡ letter_numbers mail ++ number ∷ []
posted_numbers [] number message = refl
posted_numbers (Letter n m ∷ mail) number message = ap (λ (xs : List ℕ). n ∷ xs) (posted_numbers mail number message)
posted_numbers (Signal tag ∷ mail) number message = posted_numbers mail number message

pub signal_numbers : (mail : List MailItem) (tag : ℕ) → letter_numbers (mail ++ Signal tag ∷ []) ≡ letter_numbers mail
signal_numbers [] tag = refl
signal_numbers (Letter n m ∷ mail) tag = ap (λ (xs : List ℕ). n ∷ xs) (signal_numbers mail tag)
signal_numbers (Signal other ∷ mail) tag = signal_numbers mail tag

pub posted_times : (k : ℕ) (mail : List MailItem) (item : MailItem) → times k (mail_handles (mail ++ item ∷ [])) ≡ times k (mail_handles mail) + times k (item_handles item)
posted_times k [] item = times_append k (item_handles item) [] ∙ swap (times k (item_handles item))
  where
    swap : (n : ℕ) → n + 0 ≡ 0 + n
    swap n = omega arith
posted_times k (first ∷ mail) item =
    times_append k (item_handles first) (mail_handles (mail ++ item ∷ []))
    ∙ ap (λ (n : ℕ). times k (item_handles first) + n) (posted_times k mail item)
    ∙ regroup (times k (item_handles first)) (times k (mail_handles mail)) (times k (item_handles item))
    ∙ ap (λ (n : ℕ). n + times k (item_handles item)) (sym (times_append k (item_handles first) (mail_handles mail)))
  where
    regroup : (a b c : ℕ) → a + (b + c) ≡ a + b + c
    regroup a b c = omega arith

above_last : (low n : ℕ) (xs : List ℕ) → AllAbove low xs → low < n → AllAbove low (xs ++ n ∷ [])
above_last low n [] above less = (less, tt)
above_last low n (x ∷ xs) above less = (above.0, above_last low n xs above.1 less)

pub rise_last : (n : ℕ) (xs : List ℕ) → Rise xs → ((m : ℕ) → is_among xs m ≡ true → m < n) → Rise (xs ++ n ∷ [])
rise_last n [] rise below = (tt, tt)
rise_last n (x ∷ xs) rise below =
    (above_last x n xs rise.0 (below x (among_first x xs x refl)), rise_last n xs rise.1 (λ m there. below m (among_rest x xs m there)))

-- PICKED

-- the number of an item, before the numbers of others
abbrev numbers_with : MailItem → List ℕ → List ℕ
numbers_with (Letter number message) numbers = number ∷ numbers
numbers_with (Signal tag) numbers = numbers

numbers_cons : (item : MailItem) (mail : List MailItem) → letter_numbers (item ∷ mail) ≡ numbers_with item (letter_numbers mail)
numbers_cons (Letter number message) mail = refl
numbers_cons (Signal tag) mail = refl

with_among : (item : MailItem) (xs ys : List ℕ) (n : ℕ) → (is_among xs n ≡ true → is_among ys n ≡ true) → is_among (numbers_with item xs) n ≡ true
    → is_among (numbers_with item ys) n ≡ true
with_among (Letter number message) xs ys n more is = by (among_cases number xs n is)
  where
    by : (n ≡ number) ⊎ (is_among xs n ≡ true) → is_among (number ∷ ys) n ≡ true
    by (inl same) = among_first number ys n same
    by (inr there) = among_rest number ys n (more there)
with_among (Signal tag) xs ys n more is = more is

behind_among : (item : MailItem) (xs : List ℕ) (n : ℕ) → is_among xs n ≡ true → is_among (numbers_with item xs) n ≡ true
behind_among (Letter number message) xs n is = among_rest number xs n is
behind_among (Signal tag) xs n is = is

pub unpicked_numbers : (tags : List ℕ) (mail : List MailItem) (n : ℕ) → is_among (letter_numbers (unpicked tags mail)) n ≡ true
    → is_among (letter_numbers mail) n ≡ true
unpicked_numbers tags [] n is = false_is_true is
unpicked_numbers tags (item ∷ mail) n is = by (λ there. unpicked_numbers tags mail n there) (is_wanted tags (tag_of item)) is
  where
    by : (is_among (letter_numbers (unpicked tags mail)) n ≡ true → is_among (letter_numbers mail) n ≡ true) → (b : Bool)
        → is_among (letter_numbers (if b then mail else (item ∷ unpicked tags mail))) n ≡ true → is_among (letter_numbers (item ∷ mail)) n ≡ true
    by rest true is = ap (λ (xs : List ℕ). is_among xs n) (numbers_cons item mail) ∙ behind_among item (letter_numbers mail) n is
    by rest false is =
        ap (λ (xs : List ℕ). is_among xs n) (numbers_cons item mail)
        ∙ with_among item (letter_numbers (unpicked tags mail)) (letter_numbers mail) n rest
        (sym (ap (λ (xs : List ℕ). is_among xs n) (numbers_cons item (unpicked tags mail))) ∙ is)

above_among : (low : ℕ) (xs : List ℕ) (n : ℕ) → AllAbove low xs → is_among xs n ≡ true → low < n
above_among low [] n above is = false_is_true is
above_among low (x ∷ xs) n above is = by (λ there. above_among low xs n above.1 there) (among_cases x xs n is)
  where
    by : (is_among xs n ≡ true → low < n) → (n ≡ x) ⊎ (is_among xs n ≡ true) → low < n
    by rest (inl same) = subst (λ (m : ℕ). low < m) (sym same) above.0
    by rest (inr there) = rest there

pub above_numbers : (low : ℕ) (xs : List ℕ) (n : ℕ) → AllAbove low xs → is_among xs n ≡ true → low < n
above_numbers low xs n above is = above_among low xs n above is

above_all : (low : ℕ) (xs : List ℕ) → ((n : ℕ) → is_among xs n ≡ true → low < n) → AllAbove low xs
above_all low [] each = tt
above_all low (x ∷ xs) each = (each x (among_first x xs x refl), above_all low xs (λ n there. each n (among_rest x xs n there)))

rise_with : (item : MailItem) (xs ys : List ℕ) → Rise (numbers_with item ys) → ((n : ℕ) → is_among xs n ≡ true → is_among ys n ≡ true) → Rise xs
    → Rise (numbers_with item xs)
rise_with (Letter number message) xs ys rise more rest = (above_all number xs (λ n there. above_among number ys n rise.0 (more n there)), rest)
rise_with (Signal tag) xs ys rise more rest = rest

rise_tail : (item : MailItem) (xs : List ℕ) → Rise (numbers_with item xs) → Rise xs
rise_tail (Letter number message) xs rise = rise.1
rise_tail (Signal tag) xs rise = rise

pub unpicked_rise : (tags : List ℕ) (mail : List MailItem) → Rise (letter_numbers mail) → Rise (letter_numbers (unpicked tags mail))
unpicked_rise tags [] rise = tt
unpicked_rise tags (item ∷ mail) rise = by (unpicked_rise tags mail (rise_tail item (letter_numbers mail) here)) (is_wanted tags (tag_of item))
  where
    here : Rise (numbers_with item (letter_numbers mail))
    here = subst (λ (xs : List ℕ). Rise xs) (numbers_cons item mail) rise

    by : Rise (letter_numbers (unpicked tags mail)) → (b : Bool) → Rise (letter_numbers (if b then mail else (item ∷ unpicked tags mail)))
    by rest true = rise_tail item (letter_numbers mail) here
    by rest false =
        subst (λ (xs : List ℕ). Rise xs) (sym (numbers_cons item (unpicked tags mail)))
        (rise_with item (letter_numbers (unpicked tags mail)) (letter_numbers mail) here (λ n there. unpicked_numbers tags mail n there) rest)

pub unpicked_lies : (tags : List ℕ) (mail : List MailItem) (handle n slot : ℕ) → Lies (unpicked tags mail) handle n slot → Lies mail handle n slot
unpicked_lies tags [] handle n slot is = false_is_true is
unpicked_lies tags (item ∷ mail) handle n slot is = by (λ there. unpicked_lies tags mail handle n slot there) (is_wanted tags (tag_of item)) is
  where
    behind : (Lies (unpicked tags mail) handle n slot → Lies mail handle n slot) → (item_holds handle n slot item ≡ true) ⊎ Lies (unpicked tags mail) handle n slot
        → Lies (item ∷ mail) handle n slot
    behind rest (inl here) = or_left (item_holds handle n slot item) (list_any (item_holds handle n slot) mail) here
    behind rest (inr there) = lies_rest item mail handle n slot (rest there)

    by : (Lies (unpicked tags mail) handle n slot → Lies mail handle n slot) → (b : Bool) → Lies (if b then mail else (item ∷ unpicked tags mail)) handle n slot
        → Lies (item ∷ mail) handle n slot
    by rest true is = lies_rest item mail handle n slot is
    by rest false is = behind rest (or_cases (item_holds handle n slot item) (list_any (item_holds handle n slot) (unpicked tags mail)) is)

pub picked_times : (k : ℕ) (tags : List ℕ) (mail : List MailItem) (item : MailItem) → pick tags mail ≡ Some item
    → times k (mail_handles mail) ≡ times k (mail_handles (unpicked tags mail)) + times k (item_handles item)
picked_times k tags [] item found = absurd (none_is_some found)
picked_times k tags (first ∷ mail) item found = by (λ rest. picked_times k tags mail item rest) (is_wanted tags (tag_of first)) found
  where
    swap : (a b : ℕ) → a + b ≡ b + a
    swap a b = omega arith

    regroup : (a b c : ℕ) → a + (b + c) ≡ a + b + c
    regroup a b c = omega arith

    by : (pick tags mail ≡ Some item → times k (mail_handles mail) ≡ times k (mail_handles (unpicked tags mail)) + times k (item_handles item)) → (b : Bool)
        → (if b then Some first else pick tags mail) ≡ Some item
        → times k (mail_handles (first ∷ mail)) ≡ times k (mail_handles (if b then mail else (first ∷ unpicked tags mail))) + times k (item_handles item)
    by rest true found =
        times_append k (item_handles first) (mail_handles mail)
        ∙ swap (times k (item_handles first)) (times k (mail_handles mail))
        ∙ ap (λ (it : MailItem). times k (mail_handles mail) + times k (item_handles it)) (same_item first item found)
      where
        same_item : (a b : MailItem) → Some a ≡ Some b → a ≡ b
        same_item a b e = same_some a b e
    by rest false found =
        times_append k (item_handles first) (mail_handles mail)
        ∙ ap (λ (n : ℕ). times k (item_handles first) + n) (rest found)
        ∙ regroup (times k (item_handles first)) (times k (mail_handles (unpicked tags mail))) (times k (item_handles item))
        ∙ ap (λ (n : ℕ). n + times k (item_handles item)) (sym (times_append k (item_handles first) (mail_handles (unpicked tags mail))))

pub picked_lies : (tags : List ℕ) (mail : List MailItem) (number : ℕ) (message : Message) (slot handle : ℕ) → pick tags mail ≡ Some (Letter number message)
    → handle_at message.slots slot ≡ Some handle → Lies mail handle number slot
picked_lies tags [] number message slot handle found e = absurd (none_is_some found)
picked_lies tags (first ∷ mail) number message slot handle found e =
    by (λ rest. picked_lies tags mail number message slot handle rest e) (is_wanted tags (tag_of first)) found
  where
    by : (pick tags mail ≡ Some (Letter number message) → Lies mail handle number slot) → (b : Bool)
        → (if b then Some first else pick tags mail) ≡ Some (Letter number message) → Lies (first ∷ mail) handle number slot
    by rest true found =
        subst (λ (it : MailItem). Lies (it ∷ mail) handle number slot) (sym (same_some first (Letter number message) found))
        (lies_first number message mail slot handle e)
    by rest false found = lies_rest first mail handle number slot (rest found)

-- no other message of the mailbox has the number of the one that was picked
pub picked_number : (tags : List ℕ) (mail : List MailItem) (number : ℕ) (message : Message) → pick tags mail ≡ Some (Letter number message)
    → is_among (letter_numbers mail) number ≡ true
picked_number tags [] number message found = absurd (none_is_some found)
picked_number tags (first ∷ mail) number message found =
    by (λ rest. picked_number tags mail number message rest) (is_wanted tags (tag_of first)) found
  where
    by : (pick tags mail ≡ Some (Letter number message) → is_among (letter_numbers mail) number ≡ true) → (b : Bool)
        → (if b then Some first else pick tags mail) ≡ Some (Letter number message) → is_among (letter_numbers (first ∷ mail)) number ≡ true
    by rest true found =
        subst (λ (it : MailItem). is_among (letter_numbers (it ∷ mail)) number ≡ true) (sym (same_some first (Letter number message) found))
        (among_first number (letter_numbers mail) number refl)
    by rest false found =
        ap (λ (xs : List ℕ). is_among xs number) (numbers_cons first mail) ∙ behind_among first (letter_numbers mail) number (rest found)

pub picked_other : (tags : List ℕ) (mail : List MailItem) (number : ℕ) (message : Message) (n : ℕ) → pick tags mail ≡ Some (Letter number message)
    → Rise (letter_numbers mail) → is_among (letter_numbers (unpicked tags mail)) n ≡ true → n ≢ number
picked_other tags [] number message n found rise is = absurd (none_is_some found)
picked_other tags (first ∷ mail) number message n found rise is =
    by (λ found is. picked_other tags mail number message n found (rise_tail first (letter_numbers mail) here) is) (is_wanted tags (tag_of first)) found is
  where
    here : Rise (numbers_with first (letter_numbers mail))
    here = subst (λ (xs : List ℕ). Rise xs) (numbers_cons first mail) rise

    apart : (a b : ℕ) → a < b → b ≢ a
    apart a b less = omega (arith, less)

    below : (a b : ℕ) → a < b → a ≢ b
    below a b less = omega (arith, less)

    later : (it : MailItem) → Rise (numbers_with it (letter_numbers mail)) → (is_among (letter_numbers (unpicked tags mail)) n ≡ true → n ≢ number)
        → is_among (letter_numbers mail) number ≡ true → is_among (numbers_with it (letter_numbers (unpicked tags mail))) n ≡ true → n ≢ number
    later (Letter other m) rise rest found is = at (among_cases other (letter_numbers (unpicked tags mail)) n is)
      where
        at : (n ≡ other) ⊎ (is_among (letter_numbers (unpicked tags mail)) n ≡ true) → n ≢ number
        at (inl same) = subst (λ (m : ℕ). m ≢ number) (sym same) (below other number (above_among other (letter_numbers mail) number rise.0 found))
        at (inr there) = rest there
    later (Signal tag) rise rest found is = rest is

    by : (pick tags mail ≡ Some (Letter number message) → is_among (letter_numbers (unpicked tags mail)) n ≡ true → n ≢ number) → (b : Bool)
        → (if b then Some first else pick tags mail) ≡ Some (Letter number message)
        → is_among (letter_numbers (if b then mail else (first ∷ unpicked tags mail))) n ≡ true → n ≢ number
    by rest true found is =
        apart number n (above_among number (letter_numbers mail) n
        (subst (λ (it : MailItem). Rise (numbers_with it (letter_numbers mail))) (same_some first (Letter number message) found) here).0 is)
    by rest false found is =
        later first here (λ there. rest found there) (picked_number tags mail number message found)
        (sym (ap (λ (xs : List ℕ). is_among xs n) (numbers_cons first (unpicked tags mail))) ∙ is)
