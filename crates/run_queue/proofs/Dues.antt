-- The numbers whose deadline is at most a time: in a list of entries, and in the map of the list.
use Rattle.std.proofs.Common.{◌≡◌, ℕ, suc, ◌+◌, ◌<◌, ◌≤◌, min, Bool, true, false, cond, not, IsTrue, ◌↔◌, eqb, leb}
use Rattle.std.proofs.Common.{List, [], ◌∷◌, ◌++◌, length, get_or, set, take, map, Option, Some, None, MatchOption, refl}
use Rattle.std.proofs.Common.{ap, sym, ◌∙◌, subst, arith}
use Rattle.std.specs.Option.{is_some, IsSome, IsSomeAnd}
use Rattle.std.specs.List.{filter, All, Contains}
use Rattle.std.specs.Ordering.{nat_cmp}
use Rattle.std.specs.Cmp.{nat_cmp_total}
use Rattle.std.specs.FinMap.{FinMap, empty, insert, len-empty, len-insert, entries, find, get, len, len-entries}
use Rattle.std.specs.FinMap.{get-entries, get-empty, empty_of_len}
use Rattle.std.proofs.lemmas.List.Elements.{All-nil, All-cons, All-filter, All-map, All-contains, All-push, All-set, All-same}
use Rattle.std.proofs.lemmas.List.Elements.{Contains-push, Contains-append_left, filter_more, filter_passes}
use Rattle.std.proofs.lemmas.List.{append-nil, map-append}
use Rattle.std.proofs.lemmas.Bool.Decides.{nat_tests}
use Rattle.run_queue.specs.Schedule.{IsDue, IsLeastDue, IsLeastOf, NoneBefore, due_numbers, lesser_of}
use Rattle.run_queue.proofs.Entries.{map_of, get-map_of, Once, once_head, ties}

-- an entry is what the look-up of its number finds
abbrev pub IsFound : List (ℕ × ℕ) → ℕ × ℕ → Type 0
IsFound es e = find nat_cmp e.0 es ≡ Some e.1

head_found : (e : ℕ × ℕ) (es : List (ℕ × ℕ)) → IsFound (e ∷ es) e
head_found e es =
    let tie : eqb e.0 e.0 ≡ true = grind (arith, nat_tests) in
    ap (λ b. cond b (Some e.1) (find nat_cmp e.0 es)) (ties e.0 e.0 ∙ tie)

-- a later number is another one, since the head's is not found among the rest
still_found : (e : ℕ × ℕ) (es : List (ℕ × ℕ)) (other : ℕ × ℕ) → is_some (find nat_cmp e.0 es) ≡ false
    → IsFound es other → IsFound (e ∷ es) other
still_found e es other none found =
    elim (eqb other.0 e.0) as (λ b. eqb other.0 e.0 ≡ b → IsFound (e ∷ es) other) [
      | true ↦ λ t.
          let same : other.0 ≡ e.0 = grind (arith, nat_tests) in
          let some : is_some (find nat_cmp e.0 es) ≡ true = ap (λ n. is_some (find nat_cmp n es)) (sym same)
          ∙ ap is_some found in
          absurd cc
      | false ↦ λ t. ap (λ b. cond b (Some e.1) (find nat_cmp other.0 es)) (ties other.0 e.0 ∙ t) ∙ found
    ] refl

pub each_found : (es : List (ℕ × ℕ)) → Once es → All (IsFound es) es
each_found [] once = All-nil _
each_found (e ∷ es) once =
    let head = once_head e es once in
    All-cons (IsFound (e ∷ es)) e es (head_found e es)
    (λ k d lt. still_found e es (get_or es k d) head.0 (each_found es head.1 k d lt))

due_at : (es : List (ℕ × ℕ)) (now : ℕ) (e : ℕ × ℕ) → IsFound es e → leb e.1 now ≡ true → IsDue (map_of es) now e.0
due_at es now e found low =
    let le : e.1 ≤ now = grind (arith, nat_tests) in
    subst (λ (o : Option ℕ). IsSomeAnd o (λ at. at ≤ now)) (sym (get-map_of es e.0 ∙ found)) le

-- each number of the list is due by the map
pub each_due : (es : List (ℕ × ℕ)) (now : ℕ) → Once es → All (IsDue (map_of es) now) (due_numbers now es)
each_due es now once =
    let found = All-filter (λ (e : ℕ × ℕ). leb e.1 now) (IsFound es) es (each_found es once) in
    let low = filter_passes (λ (e : ℕ × ℕ). leb e.1 now) es in
    All-map (IsDue (map_of es) now) (λ (e : ℕ × ℕ). e.0) (filter (λ e. leb e.1 now) es)
    (λ k d lt. due_at es now (get_or (filter (λ (e : ℕ × ℕ). leb e.1 now) es) k d) (found k d lt) (low k d lt))

contains_head : (x : ℕ) (xs : List ℕ) → Contains (x ∷ xs) x
contains_head x xs = (0, omega arith, refl)

contains_later : (x : ℕ) (xs : List ℕ) (y : ℕ) → Contains xs y → Contains (x ∷ xs) y
contains_later x xs y h = (suc h.0, omega (arith, h.1), h.2)

contained : (es : List (ℕ × ℕ)) (now p at : ℕ) → find nat_cmp p es ≡ Some at → at ≤ now
    → Contains (due_numbers now es) p
contained [] now p at found le = absurd cc
contained (e ∷ es) now p at found le =
    let rest = due_numbers now es in
    elim (eqb p e.0) as (λ b. eqb p e.0 ≡ b → Contains (due_numbers now (e ∷ es)) p) [
      | true ↦ λ t.
          let same : p ≡ e.0 = grind (arith, nat_tests) in
          let here : Some e.1 ≡ Some at = sym (ap (λ b. cond b (Some e.1) (find nat_cmp p es)) (ties p e.0 ∙ t))
          ∙ found in
          let value : e.1 ≡ at = cc in
          let low : leb e.1 now ≡ true = grind (arith, nat_tests) in
          let kept : due_numbers now (e ∷ es) ≡ e.0 ∷ rest =
          ap (λ b. map (λ (x : ℕ × ℕ). x.0) (cond b (e ∷ filter (λ (x : ℕ × ℕ). leb x.1 now) es)
          (filter (λ (x : ℕ × ℕ). leb x.1 now) es))) low in
          subst (λ xs. Contains xs p) (sym kept) (subst (λ q. Contains (e.0 ∷ rest) q) (sym same)
          (contains_head e.0 rest))
      | false ↦ λ t.
          let there : find nat_cmp p es ≡ Some at =
          sym (ap (λ b. cond b (Some e.1) (find nat_cmp p es)) (ties p e.0 ∙ t)) ∙ found in
          let later = contained es now p at there le in
          elim (leb e.1 now) as (λ b. Contains (map (λ (x : ℕ × ℕ). x.0)
          (cond b (e ∷ filter (λ (x : ℕ × ℕ). leb x.1 now) es) (filter (λ (x : ℕ × ℕ). leb x.1 now) es))) p) [
            | true ↦ contains_later e.0 rest p later
            | false ↦ later
          ]
    ] refl

-- and each number that is due by the map stands in the list
pub due_contained : (es : List (ℕ × ℕ)) (now p : ℕ) → IsDue (map_of es) now p → Contains (due_numbers now es) p
due_contained es now p due =
    let found = subst (λ (o : Option ℕ). IsSomeAnd o (λ at. at ≤ now)) (get-map_of es p) due in
    elim (find nat_cmp p es) as (λ o. find nat_cmp p es ≡ o → IsSomeAnd o (λ at. at ≤ now)
    → Contains (due_numbers now es) p) [
      | None ↦ λ e h. absurd h
      | Some at ↦ λ e h. contained es now p at e h
    ] refl found

none_due : (es : List (ℕ × ℕ)) (now : ℕ) → due_numbers now es ≡ [] → (p : ℕ) → IsDue (map_of es) now p → ⊥
none_due es now none p due =
    let at = subst (λ xs. Contains xs p) none (due_contained es now p due) in
    absurd (omega (arith, at.1))

-- no number is due before a time that no deadline is before
early_numbers : (es : List (ℕ × ℕ)) (earliest now : ℕ) → now < earliest → NoneBefore earliest es
    → due_numbers now es ≡ []
early_numbers [] earliest now early before = refl
early_numbers (e ∷ es) earliest now early before =
    let head : earliest ≤ e.1 = before 0 (0, 0) (omega arith) in
    let late : leb e.1 now ≡ false = grind (arith, nat_tests) in
    ap (λ b. map (λ (x : ℕ × ℕ). x.0) (cond b (e ∷ filter (λ (x : ℕ × ℕ). leb x.1 now) es)
    (filter (λ (x : ℕ × ℕ). leb x.1 now) es))) late
    ∙ early_numbers es earliest now early (λ k d lt. before (suc k) d (omega (arith, lt)))

pub none_early : (es : List (ℕ × ℕ)) (earliest now : ℕ) → now < earliest → NoneBefore earliest es
    → (p : ℕ) → IsDue (map_of es) now p → ⊥
none_early es earliest now early before = none_due es now (early_numbers es earliest now early before)

-- the same of no entries, and after a write over an entry, a push, and without some entries
pub before_none : (es : List (ℕ × ℕ)) (earliest : ℕ) → es ≡ [] → NoneBefore earliest es
before_none es earliest none = All-same (λ (e : ℕ × ℕ). earliest ≤ e.1) es [] none (All-nil _)

earlier : (es : List (ℕ × ℕ)) (earliest at least : ℕ) → least ≡ min earliest at → NoneBefore earliest es
    → NoneBefore least es
earlier es earliest at least is before k d lt = let le = before k d lt in omega (arith, is, le)

pub before_set : (es : List (ℕ × ℕ)) (earliest i pid at least : ℕ) → least ≡ min earliest at → NoneBefore earliest es
    → NoneBefore least (set es i (pid, at))
before_set es earliest i pid at least is before =
    All-set (λ (e : ℕ × ℕ). least ≤ e.1) es i (pid, at) (omega (arith, is)) (earlier es earliest at least is before)

pub before_push : (es more : List (ℕ × ℕ)) (earliest pid at least : ℕ) → least ≡ min earliest at
    → more ≡ es ++ (pid, at) ∷ [] → NoneBefore earliest es → NoneBefore least more
before_push es more earliest pid at least is grown before =
    All-same (λ (e : ℕ × ℕ). least ≤ e.1) more (es ++ (pid, at) ∷ []) grown
    (All-push (λ (e : ℕ × ℕ). least ≤ e.1) es (pid, at) (earlier es earliest at least is before) (omega (arith, is)))

pub before_filter : (es fewer : List (ℕ × ℕ)) (keep : ℕ × ℕ → Bool) (earliest : ℕ) → fewer ≡ filter keep es
    → NoneBefore earliest es → NoneBefore earliest fewer
before_filter es fewer keep earliest is before =
    All-same (λ (e : ℕ × ℕ). earliest ≤ e.1) fewer (filter keep es) is
    (All-filter keep (λ (e : ℕ × ℕ). earliest ≤ e.1) es before)

least_due : (es : List (ℕ × ℕ)) (now pid : ℕ) → Once es → Contains (due_numbers now es) pid
    → All (λ other. pid ≤ other) (due_numbers now es) → IsLeastDue (map_of es) now pid
least_due es now pid once there all = record {
  due = All-contains (IsDue (map_of es) now) (due_numbers now es) pid (each_due es now once) there;
  least = λ other d. All-contains (λ o. pid ≤ o) (due_numbers now es) other all (due_contained es now other d);
}

-- the least number of the list is the least that is due by the map
pub due_from_least : (es : List (ℕ × ℕ)) (now : ℕ) (least : Option ℕ) → Once es → IsLeastOf least (due_numbers now es)
    → MatchOption least ((pid : ℕ) → IsDue (map_of es) now pid → ⊥) (IsLeastDue (map_of es) now)
due_from_least es now None once is = none_due es now is
due_from_least es now (Some pid) once is = least_due es now pid once is.0 is.1

-- by the list as it was seen, and the map as it is called
pub due_seen : (m : FinMap nat_cmp ℕ) (es seen : List (ℕ × ℕ)) (now : ℕ) (least : Option ℕ) → map_of es ≡ m → seen ≡ es
    → Once es → IsLeastOf least (due_numbers now seen)
    → MatchOption least ((pid : ℕ) → IsDue m now pid → ⊥) (IsLeastDue m now)
due_seen m es seen now least named same once is =
    subst (λ (n : FinMap nat_cmp ℕ). MatchOption least ((pid : ℕ) → IsDue n now pid → ⊥) (IsLeastDue n now)) named
    (due_from_least es now least once (subst (λ (xs : List (ℕ × ℕ)). IsLeastOf least (due_numbers now xs)) same is))

-- one entry more
due_numbers_more : (es : List (ℕ × ℕ)) (now i : ℕ) (d : ℕ × ℕ) → i < length es
    → due_numbers now (take (i + 1) es)
    ≡ due_numbers now (take i es) ++ cond (leb (get_or es i d).1 now) ((get_or es i d).0 ∷ []) []
due_numbers_more es now i d lt =
    ap (map (λ (e : ℕ × ℕ). e.0)) (filter_more (λ (e : ℕ × ℕ). leb e.1 now) es i d lt)
    ∙ map-append (λ (e : ℕ × ℕ). e.0) (filter (λ (e : ℕ × ℕ). leb e.1 now) (take i es))
    (cond (leb (get_or es i d).1 now) (get_or es i d ∷ []) [])
    ∙ ap (λ xs. due_numbers now (take i es) ++ xs)
    (elim (leb (get_or es i d).1 now)
    as (λ b. map (λ (e : ℕ × ℕ). e.0) (cond b (get_or es i d ∷ []) []) ≡ cond b ((get_or es i d).0 ∷ []) [])
    [ true ↦ refl | false ↦ refl ])

least_push : (least : Option ℕ) (xs : List ℕ) (p : ℕ) → IsLeastOf least xs
    → IsLeastOf (Some (lesser_of least p)) (xs ++ p ∷ [])
least_push None xs p is = (
  Contains-push xs p,
  subst (λ ys. All (λ o. p ≤ o) (ys ++ p ∷ [])) (sym is)
      (All-push (λ o. p ≤ o) [] p (All-nil (λ o. p ≤ o)) (omega arith)),
)
least_push (Some q) xs p is =
    elim (leb q p) as (λ b. leb q p ≡ b → IsLeastOf (Some (min q p)) (xs ++ p ∷ [])) [
      | true ↦ λ t.
          let le : q ≤ p = grind (arith, nat_tests) in
          let same : min q p ≡ q = omega arith in
          subst (λ n. Contains (xs ++ p ∷ []) n × All (λ o. n ≤ o) (xs ++ p ∷ [])) (sym same)
          (Contains-append_left xs (p ∷ []) q is.0, All-push (λ o. q ≤ o) xs p is.1 le)
      | false ↦ λ t.
          let le : p ≤ q = grind (arith, nat_tests) in
          let same : min q p ≡ p = omega arith in
          subst (λ n. Contains (xs ++ p ∷ []) n × All (λ o. n ≤ o) (xs ++ p ∷ [])) (sym same)
          (Contains-push xs p, All-push (λ o. p ≤ o) xs p (λ k d lt. let h = is.1 k d lt in omega arith) (omega arith))
    ] refl

pub least_more : (es : List (ℕ × ℕ)) (now i : ℕ) (d : ℕ × ℕ) (least : Option ℕ) → i < length es
    → (get_or es i d).1 ≤ now
    → IsLeastOf least (due_numbers now (take i es))
    → IsLeastOf (Some (lesser_of least (get_or es i d).0)) (due_numbers now (take (i + 1) es))
least_more es now i d least lt le is =
    let low : leb (get_or es i d).1 now ≡ true = grind (arith, nat_tests) in
    let more = due_numbers_more es now i d lt
    ∙ ap (λ b. due_numbers now (take i es) ++ cond b ((get_or es i d).0 ∷ []) []) low in
    subst (IsLeastOf (Some (lesser_of least (get_or es i d).0))) (sym more)
    (least_push least (due_numbers now (take i es)) (get_or es i d).0 is)

pub least_same : (es : List (ℕ × ℕ)) (now i : ℕ) (d : ℕ × ℕ) (least : Option ℕ) → i < length es
    → now < (get_or es i d).1
    → IsLeastOf least (due_numbers now (take i es)) → IsLeastOf least (due_numbers now (take (i + 1) es))
least_same es now i d least lt late is =
    let high : leb (get_or es i d).1 now ≡ false = grind (arith, nat_tests) in
    let more = due_numbers_more es now i d lt
    ∙ ap (λ b. due_numbers now (take i es) ++ cond b ((get_or es i d).0 ∷ []) []) high in
    subst (IsLeastOf least) (sym (more ∙ append-nil (due_numbers now (take i es)))) is

-- a map that is not empty has a number, and one that has a number is not empty
number_in : (m : FinMap nat_cmp ℕ) (es : List (ℕ × ℕ)) → entries m ≡ es → (len m ≡ 0 → ⊥)
    → (pid : ℕ) × IsSome (get m pid)
number_in m [] is some = absurd (some (len-entries m ∙ ap length is))
number_in m (e ∷ es) is some = (
  e.0,
  subst (λ (o : Option ℕ). IsSome o) (sym (get-entries m e.0 ∙ ap (find nat_cmp e.0) is ∙ head_found e es))
      refl,
)

not_empty : (m : FinMap nat_cmp ℕ) (pid : ℕ) → IsSome (get m pid) → len m ≡ 0 → ⊥
not_empty m pid some none =
    let is : is_some (get m pid) ≡ false = ap is_some (ap (λ n. get n pid) (empty_of_len m none)
    ∙ get-empty nat_cmp pid) in
    cc

pub has_deadlines : (m : FinMap nat_cmp ℕ) (b : Bool) → (IsTrue b ↔ (len m ≡ 0))
    → IsTrue (not b) ↔ ((pid : ℕ) × IsSome (get m pid))
has_deadlines m true h = (λ f. absurd cc, λ s. absurd (not_empty m s.0 s.1 (h.0 refl)))
has_deadlines m false h = (λ _. number_in m (entries m) refl (λ z. let f : false ≡ true = h.1 z in cc), λ _. refl)

-- how many deadlines there are: none at first, and at most one more after each insert
pub no_deadlines : (m : FinMap nat_cmp ℕ) → m ≡ empty → len m ≡ 0
no_deadlines m none = ap len none ∙ len-empty nat_cmp ℕ

pub insert_le : (m n : FinMap nat_cmp ℕ) (pid at : ℕ) → n ≡ insert m pid at → len n ≤ len m + 1
insert_le m n pid at is =
    let grows = ap len is ∙ len-insert nat_cmp_total m pid at in
    elim (is_some (get m pid)) as (λ b. len n ≡ cond b (len m) (len m + 1) → len n ≤ len m + 1)
    [ true ↦ λ e. omega arith | false ↦ λ e. omega arith ] grows
