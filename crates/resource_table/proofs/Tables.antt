-- What a put, a look-up and a taking out make of rising handles, by the place of the number.
use Rattle.std.proofs.Common.{◌≡◌, ℕ, zero, suc, ◌<◌, ◌≤◌, Bool, true, cond, not, List, [], ◌∷◌, ◌++◌, length, take, drop, get_or, set, Option, Some, None, eqb, ltb, refl, ap, sym, ◌∙◌, append-nil, take-append-drop, subst, is_some, arith}
use Rattle.std.specs.List.{All, Contains, filter, insert, remove, slice_get}
use Rattle.std.specs.Option.{MatchOption}
use Rattle.std.proofs.lemmas.Bool.{lt-ltb, le-ltb, eq-eqb, ne_eqb}
use Rattle.std.proofs.lemmas.List.Elements.{All-nil, All-cons, All-head, All-tail, All-append, filter-append}
use Rattle.resource_table.specs.Handles.{Handle, IsRising, numbers_of, handle_of, with_handle, without_handle, Changes}
use Rattle.resource_table.specs.Places.{IsPlace, StandsAt, ChangesAt}
use Rattle.resource_table.proofs.Filters.{filter-all, filter-none, split_at, past_end, get_read, set_at, All-parts}
use Rattle.resource_table.proofs.Rising.{IsAround, around, put_between, changed_rises}

-- a look-up tells whether the number is there
pub has_answer : (o : Option ℕ) (b : Bool) (P : Type 0) (Q : ℕ → Type 0) → b ≡ is_some o → MatchOption o (P → ⊥) Q
    → ((n : ℕ) → Q n → P) → (b ≡ true → P) × (P → b ≡ true)
has_answer None b P Q is match holds = (λ e. absurd cc, λ p. absurd (match p))
has_answer (Some n) b P Q is match holds = (λ e. holds n match, λ p. is)

module _ {S : Type 0} where
  -- NUMBERS

  abbrev pub Rises : List (Handle S) → Type 0
  Rises handles = IsRising handles

  -- no handle of this list has the number
  abbrev pub Lacks : ℕ → List (Handle S) → Type 0
  Lacks number handles = All (λ k. k.number ≡ number → ⊥) handles

  pub lacks_from_none : (number : ℕ) (xs : List (Handle S)) → (Contains (numbers_of xs) number → ⊥) → Lacks number xs
  lacks_from_none number [] none = All-nil (λ k. k.number ≡ number → ⊥)
  lacks_from_none number (x ∷ xs) none =
      All-cons (λ k. k.number ≡ number → ⊥) x xs (λ e. none (0, omega arith, e))
      (lacks_from_none number xs (λ c. let lt = c.1 in none (suc c.0, omega arith, c.2)))

  lacks_index : (number : ℕ) (xs : List (Handle S)) → Lacks number xs → (i : ℕ) → i < length (numbers_of xs)
      → get_or (numbers_of xs) i number ≡ number → ⊥
  lacks_index number [] lacks i lt e = omega arith
  lacks_index number (x ∷ xs) lacks zero lt e = All-head (λ k. k.number ≡ number → ⊥) x xs lacks e
  lacks_index number (x ∷ xs) lacks (suc i) lt e =
      lacks_index number xs (All-tail (λ k. k.number ≡ number → ⊥) x xs lacks) i (omega arith) e

  pub none_from_lacks : (number : ℕ) (xs : List (Handle S)) → Lacks number xs → Contains (numbers_of xs) number → ⊥
  none_from_lacks number xs lacks c = lacks_index number xs lacks c.0 c.1 c.2

  pub there : (lower : List (Handle S)) (h : Handle S) (higher : List (Handle S)) (number : ℕ) → h.number ≡ number
      → Contains (numbers_of (lower ++ h ∷ higher)) number
  there [] h higher number e = (0, omega arith, e)
  there (k ∷ lower) h higher number e =
      let c = there lower h higher number e in let lt = c.1 in (suc c.0, omega arith, c.2)

  -- LOOK-UPS

  pub handle_of-found : (lower : List (Handle S)) (h : Handle S) (higher : List (Handle S)) (number : ℕ)
      → IsAround lower h higher → h.number ≡ number → handle_of number (lower ++ h ∷ higher) ≡ Some h
  handle_of-found lower h higher number is same = go lower is.below
    where
      go : (front : List (Handle S)) → All (λ k. k.number < h.number) front
          → handle_of number (front ++ h ∷ higher) ≡ Some h
      go [] below = ap (λ b. cond b (Some h) (handle_of number higher)) (eq-eqb h.number number same)
      go (k ∷ front) below =
          let under = All-head (λ l. l.number < h.number) k front below in
          ap (λ b. cond b (Some k) (handle_of number (front ++ h ∷ higher)))
          (ne_eqb k.number number (λ e. omega (arith, under, e, same)))
          ∙ go front (All-tail (λ l. l.number < h.number) k front below)

  pub handle_of-lacks : (number : ℕ) (xs : List (Handle S)) → Lacks number xs → handle_of number xs ≡ None
  handle_of-lacks number [] lacks = refl
  handle_of-lacks number (x ∷ xs) lacks =
      ap (λ b. cond b (Some x) (handle_of number xs))
      (ne_eqb x.number number (All-head (λ k. k.number ≡ number → ⊥) x xs lacks))
      ∙ handle_of-lacks number xs (All-tail (λ k. k.number ≡ number → ⊥) x xs lacks)

  -- TAKING OUT

  pub without_handle-lacks : (number : ℕ) (xs : List (Handle S)) → Lacks number xs → without_handle number xs ≡ xs
  without_handle-lacks number xs lacks =
      filter-all (λ k. not (eqb k.number number)) xs
      (λ k d lt. ap not (ne_eqb (get_or xs k d).number number (lacks k d lt)))

  pub without_handle-found : (lower : List (Handle S)) (h : Handle S) (higher : List (Handle S)) (number : ℕ)
      → IsAround lower h higher → h.number ≡ number → without_handle number (lower ++ h ∷ higher) ≡ lower ++ higher
  without_handle-found lower h higher number is same =
      let p = λ (k : Handle S). not (eqb k.number number) in
      let low = without_handle-lacks number lower (λ k d lt. let under = is.below k d lt in λ e. omega (arith, under, e, same)) in
      let high = without_handle-lacks number higher (λ k d lt. let over = is.above k d lt in λ e. omega (arith, over, e, same)) in
      let here : filter p (h ∷ higher) ≡ filter p higher =
      ap (λ b. cond (not b) (h ∷ filter p higher) (filter p higher)) (eq-eqb h.number number same) in
      filter-append p lower (h ∷ higher) ∙ ap (λ xs. xs ++ filter p (h ∷ higher)) low
      ∙ ap (λ ys. lower ++ ys) (here ∙ high)

  pub remove-found : (lower : List (Handle S)) (h : Handle S) (higher : List (Handle S))
      → remove (lower ++ h ∷ higher) (length lower) ≡ lower ++ higher
  remove-found [] h higher = refl
  remove-found (k ∷ lower) h higher = ap (λ zs. k ∷ zs) (remove-found lower h higher)

  pub read-found : (lower : List (Handle S)) (h : Handle S) (higher : List (Handle S)) (d : Handle S)
      → get_or (lower ++ h ∷ higher) (length lower) d ≡ h
  read-found [] h higher d = refl
  read-found (k ∷ lower) h higher d = read-found lower h higher d

  -- PUTTING

  pub with_handle-place : (lower : List (Handle S)) (h : Handle S) (higher : List (Handle S)) → IsAround lower h higher
      → with_handle h (lower ++ higher) ≡ lower ++ h ∷ higher
  with_handle-place lower h higher is =
      let p = λ (k : Handle S). ltb k.number h.number in
      let q = λ (k : Handle S). ltb h.number k.number in
      let low : filter p (lower ++ higher) ≡ lower =
      filter-append p lower higher
      ∙ ap (λ xs. xs ++ filter p higher) (filter-all p lower (λ k d lt. lt-ltb _ _ (is.below k d lt)))
      ∙ ap (λ ys. lower ++ ys) (filter-none p higher (λ k d lt. let over = is.above k d lt in le-ltb _ _ (omega (arith, over))))
      ∙ append-nil lower in
      let high : filter q (lower ++ higher) ≡ higher =
      filter-append q lower higher
      ∙ ap (λ xs. xs ++ filter q higher) (filter-none q lower (λ k d lt. let under = is.below k d lt in le-ltb _ _ (omega (arith, under))))
      ∙ filter-all q higher (λ k d lt. lt-ltb _ _ (is.above k d lt)) in
      ap (λ xs. xs ++ h ∷ filter q (lower ++ higher)) low ∙ ap (λ ys. lower ++ h ∷ ys) high

  -- PLACES

  -- what stands around the place of a number that no handle has
  pub place_around : (h : Handle S) (xs : List (Handle S)) (place : ℕ) → IsRising xs → IsPlace h.number xs place
      → Lacks h.number xs → IsAround (take place xs) h (drop place xs)
  place_around h xs place rises is lacks =
      let whole = sym (take-append-drop place xs) in
      let parts = All-parts (λ k. k.number ≡ h.number → ⊥) (take place xs) (drop place xs)
      (subst (Lacks h.number) whole lacks) in
      record {
        below = is.lower;
        above = λ k d lt.
            let over = is.higher k d lt in let other = parts.1 k d lt in
            let apart : (get_or (drop place xs) k d).number ≡ h.number → ⊥ = other in omega (arith, over, apart);
        others = subst Rises whole rises;
      }

  -- the number is not there where the list ends before its place
  pub lacks_at_end : (number : ℕ) (xs : List (Handle S)) (place : ℕ) → IsPlace number xs place → slice_get xs place ≡ None
      → Lacks number xs
  lacks_at_end number xs place is none =
      let P : List (Handle S) → Type 0 = λ zs. All (λ k. k.number < number) zs in
      let below : All (λ k. k.number < number) xs = subst P (past_end xs place none) is.lower in
      λ k d lt. let under = below k d lt in λ e. omega (arith, under, e)

  -- nor where another stands at its place
  pub lacks_at_other : (number : ℕ) (xs : List (Handle S)) (place : ℕ) (h : Handle S) → IsRising xs
      → IsPlace number xs place → slice_get xs place ≡ Some h → (h.number ≡ number → ⊥) → Lacks number xs
  lacks_at_other number xs place h rises is at apart =
      let split = (split_at xs place h at).0 in
      let lower = take place xs in
      let higher = drop (suc place) xs in
      let is_around = around lower h higher (subst Rises split rises) in
      let here : number ≤ h.number = at_place in
      subst (Lacks number) (sym split)
      (All-append (λ k. k.number ≡ number → ⊥) lower (h ∷ higher)
      (λ k d lt. let under = is.lower k d lt in λ e. omega (arith, under, e))
      (All-cons (λ k. k.number ≡ number → ⊥) h higher apart
      (λ k d lt. let over = is_around.above k d lt in λ e. omega (arith, over, e, here))))
    where
      rest : {X : Type 0} (ys : List X) (i : ℕ) (x : X) → slice_get ys i ≡ Some x → (0 < length (drop i ys)) × (get_or (drop i ys) 0 x ≡ x)
      rest [] i x e = absurd cc
      rest (y ∷ ys) zero x e = (omega arith, cc)
      rest (y ∷ ys) (suc i) x e = rest ys i x e

      at_place : number ≤ h.number
      at_place =
          let r = rest xs place h at in
          let e : (get_or (drop place xs) 0 h).number ≡ h.number = ap (λ k. k.number) r.1 in
          let over : number ≤ (get_or (drop place xs) 0 h).number = is.higher 0 h r.0 in
          omega (arith, e, over)

  -- the number stands at its place where the handle there has it
  pub stands : (number : ℕ) (xs : List (Handle S)) (place : ℕ) (h : Handle S) → slice_get xs place ≡ Some h
      → h.number ≡ number → StandsAt number xs place
  stands number xs place h at same =
      let split = split_at xs place h at in
      record {
        lower = take place xs;
        found = h;
        higher = drop (suc place) xs;
        place_is = split.1;
        handles_is = split.0;
        number_is = same;
      }

  -- a handle was written at a place
  pub changes : (xs : List (Handle S)) (place : ℕ) (before now : Handle S) (change : S → S → Type 0)
      → place < length xs → before ≡ get_or xs place before → now.number ≡ before.number
      → change before.stream now.stream → ChangesAt place change xs (set xs place now)
  changes xs place before now change lt read same changed =
      let split = split_at xs place before (get_read xs place before lt read) in
      record {
        lower = take place xs;
        before = before;
        now = now;
        higher = drop (suc place) xs;
        place_is = split.1;
        was = split.0;
        is = set_at xs place now lt;
        number_is = same;
        changed = changed;
      }

  -- A CALL'S ANSWERS

  -- the handle of a number in a rising list, at its place
  pub record IsFound (number : ℕ) (xs : List (Handle S)) (place : ℕ) : Type 0 where
    pub lower : List (Handle S)
    pub found : Handle S
    pub higher : List (Handle S)
    pub place_is : place ≡ length lower
    pub handles_is : xs ≡ lower ++ found ∷ higher
    pub number_is : found.number ≡ number
    pub is_around : IsAround lower found higher

  pub found_in : (number place : ℕ) (ys xs : List (Handle S)) → ys ≡ xs → IsRising xs → StandsAt number ys place
      → IsFound number xs place
  found_in number place ys xs same rises at =
      let whole : xs ≡ at.lower ++ at.found ∷ at.higher = sym same ∙ at.handles_is in
      record {
        lower = at.lower;
        found = at.found;
        higher = at.higher;
        place_is = at.place_is;
        handles_is = whole;
        number_is = at.number_is;
        is_around = around at.lower at.found at.higher (subst Rises whole rises);
      }

  pub found_contains : (number place : ℕ) (xs : List (Handle S)) → IsFound number xs place → Contains (numbers_of xs) number
  found_contains number place xs is =
      let P : List (Handle S) → Type 0 = λ zs. Contains (numbers_of zs) number in
      subst P (sym is.handles_is) (there is.lower is.found is.higher number is.number_is)

  pub stands_contains : (number place : ℕ) (xs : List (Handle S)) → StandsAt number xs place → Contains (numbers_of xs) number
  stands_contains number place xs at =
      let P : List (Handle S) → Type 0 = λ zs. Contains (numbers_of zs) number in
      subst P (sym at.handles_is) (there at.lower at.found at.higher number at.number_is)

  -- what is read there
  pub found_read : (number place : ℕ) (xs : List (Handle S)) (d : Handle S) → (is : IsFound number xs place)
      → get_or xs place d ≡ is.found
  found_read number place xs d is =
      ap (λ zs. get_or zs place d) is.handles_is
      ∙ ap (λ i. get_or (is.lower ++ is.found ∷ is.higher) i d) is.place_is
      ∙ read-found is.lower is.found is.higher d

  -- what is left without it
  found_removed : (number place : ℕ) (xs : List (Handle S)) → (is : IsFound number xs place)
      → remove xs place ≡ is.lower ++ is.higher
  found_removed number place xs is =
      ap (λ zs. remove zs place) is.handles_is
      ∙ ap (λ i. remove (is.lower ++ is.found ∷ is.higher) i) is.place_is
      ∙ remove-found is.lower is.found is.higher

  pub found_given : (number place : ℕ) (xs : List (Handle S)) (r : Handle S) → IsFound number xs place
      → r ≡ get_or xs place r → Some r ≡ handle_of number xs
  found_given number place xs r is read =
      ap Some (read ∙ found_read number place xs r is)
      ∙ sym (handle_of-found is.lower is.found is.higher number is.is_around is.number_is)
      ∙ ap (handle_of number) (sym is.handles_is)

  pub found_left : (number place : ℕ) (xs : List (Handle S)) → IsFound number xs place
      → remove xs place ≡ without_handle number xs
  found_left number place xs is =
      found_removed number place xs is
      ∙ sym (without_handle-found is.lower is.found is.higher number is.is_around is.number_is)
      ∙ ap (without_handle number) (sym is.handles_is)

  pub found_rises : (number place : ℕ) (xs : List (Handle S)) → IsFound number xs place → IsRising (remove xs place)
  found_rises number place xs is = subst Rises (sym (found_removed number place xs is)) is.is_around.others

  -- the handle there has another stream now
  at_number : (h : Handle S) (number : ℕ) → h.number ≡ number → h ≡ record { number = number; stream = h.stream }
  at_number h number e = ap (λ n. record { number = n; stream = h.stream }) e

  changed_number : (number place : ℕ) (xs new : List (Handle S)) (change : S → S → Type 0) → IsFound number xs place
      → (at : ChangesAt place change xs new) → at.before.number ≡ number
  changed_number number place xs new change is at =
      let read : get_or xs place at.before ≡ at.before =
      ap (λ zs. get_or zs place at.before) at.was
      ∙ ap (λ i. get_or (at.lower ++ at.before ∷ at.higher) i at.before) at.place_is
      ∙ read-found at.lower at.before at.higher at.before in
      ap (λ h. h.number) (sym read ∙ found_read number place xs at.before is) ∙ is.number_is

  pub found_changes : (number place : ℕ) (xs new : List (Handle S)) (change : S → S → Type 0) → IsFound number xs place
      → ChangesAt place change xs new → Changes number change xs new
  found_changes number place xs new change is at =
      let same = changed_number number place xs new change is at in
      record {
        lower = at.lower;
        higher = at.higher;
        before = at.before.stream;
        now = at.now.stream;
        was = at.was ∙ ap (λ h. at.lower ++ h ∷ at.higher) (at_number at.before number same);
        is = at.is ∙ ap (λ h. at.lower ++ h ∷ at.higher) (at_number at.now number (at.number_is ∙ same));
        changed = at.changed;
      }

  pub changed_at_rises : (place : ℕ) (xs new : List (Handle S)) (change : S → S → Type 0) → IsRising xs
      → ChangesAt place change xs new → IsRising new
  changed_at_rises place xs new change rises at =
      subst Rises (sym at.is)
      (changed_rises at.lower at.before at.now at.higher at.number_is (subst Rises at.was rises))

  -- a handle put at the place of its number
  pub placed : (h : Handle S) (number place : ℕ) (ys xs : List (Handle S)) → ys ≡ xs → number ≡ h.number → IsRising xs
      → IsPlace number ys place → (Contains (numbers_of xs) h.number → ⊥)
      → (insert xs place h ≡ with_handle h xs) × IsRising (insert xs place h)
  placed h number place ys xs same is_number rises is none =
      let P : List (Handle S) → Type 0 = λ zs. IsPlace number zs place in
      let Q : ℕ → Type 0 = λ n. IsPlace n xs place in
      let at = subst Q is_number (subst P same is) in
      let is_around = place_around h xs place rises at (lacks_from_none h.number xs none) in
      let whole = take-append-drop place xs in (
        sym (with_handle-place (take place xs) h (drop place xs) is_around) ∙ ap (with_handle h) whole,
        put_between (take place xs) h (drop place xs) is_around,
      )

  -- a table by another name
  pub changes_from : (number : ℕ) (old same new : List (Handle S)) (change : S → S → Type 0) → old ≡ same
      → Changes number change old new → Changes number change same new
  changes_from number old same new change is changes =
      record {
        lower = changes.lower;
        higher = changes.higher;
        before = changes.before;
        now = changes.now;
        was = sym is ∙ changes.was;
        is = changes.is;
        changed = changes.changed;
      }
