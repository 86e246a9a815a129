-- How the amounts of one worker grow with what a pass has seen.
use Rattle.std.proofs.Common.{◌≡◌, ◌≢◌, ℕ, ◌+◌, ◌<◌, ◌≤◌, ◌==◌, Bool, true, false, cond, List, [], ◌∷◌, ◌++◌, length}
use Rattle.std.proofs.Common.{take, get_or, map, sym, refl, ap, ◌∙◌, subst, arith, eq-eqb, ne_eqb}
use Rattle.std.proofs.lemmas.List.{append-nil, append_assoc, map-append, take_more}
use Rattle.std.proofs.lemmas.List.Elements.{All-head, All-tail, Contains-append_left, Contains-append_right}
use Rattle.std.proofs.lemmas.List.Elements.{Contains-get_or, filter-append}
use Rattle.std.specs.List.{All, Contains, filter}
use native.Mathlib.Decide.{ℕ_discrete}
use Rattle.tally_log.specs.declared.tally.Entry.{Entry}
use Rattle.log_lock.specs.declared.knowledge.Knowledge.{Knowledge}
use Rattle.log_lock.specs.Knowledge.{ExtendsByOthers, first_knowledge, joined, with_seen}
use Rattle.tally_log.specs.Tally.{Adds, AddsAll, HasWorked, amounts_of}

pub amounts_append : (k : ℕ) (xs ys : List Entry) → amounts_of k (xs ++ ys) ≡ amounts_of k xs ++ amounts_of k ys
amounts_append k xs ys = ap (map (λ (e : Entry). e.amount)) (filter-append (λ (e : Entry). e.by == k) xs ys)
    ∙ map-append (λ (e : Entry). e.amount) (filter (λ e. e.by == k) xs) (filter (λ e. e.by == k) ys)

-- entries of others add nothing
pub amounts_none : (k : ℕ) (ns : List ℕ) (es : List Entry) → Contains ns k → All (λ e. ¬ Contains ns e.by) es
    → amounts_of k es ≡ []
amounts_none k ns [] has h = refl
amounts_none k ns (e ∷ es) has h =
    let other : e.by ≢ k = λ is. All-head (λ y. ¬ Contains ns y.by) e es h (subst (Contains ns) (sym is) has) in
    ap (λ d. map (λ (x : Entry). x.amount) (cond d (e ∷ filter (λ x. x.by == k) es) (filter (λ x. x.by == k) es)))
    (ne_eqb e.by k other) ∙ amounts_none k ns es has (All-tail (λ y. ¬ Contains ns y.by) e es h)

amounts_one : (k x : ℕ) → amounts_of k (record { by = k; amount = x } ∷ []) ≡ x ∷ []
amounts_one k x = let e : Entry = record { by = k; amount = x } in
    ap (λ d. map (λ (z : Entry). z.amount) (cond d (e ∷ []) [])) (eq-eqb k k refl)

pub amounts_extended : {B : Type 0} (k : ℕ) (v : Knowledge Entry B) (log : List Entry) → Contains v.numbers k
    → ExtendsByOthers (λ e. e.by) v log → amounts_of k log ≡ amounts_of k v.seen
amounts_extended k v log has h =
    ap (amounts_of k) h.1 ∙ (amounts_append k v.seen h.0
    ∙ (ap (λ l. amounts_of k v.seen ++ l) (amounts_none k v.numbers h.0 has h.2)
    ∙ append-nil (amounts_of k v.seen)))

pub contains_own : (k : ℕ) → Contains (k ∷ []) k
contains_own k = Contains-get_or (k ∷ []) 0 k (omega arith)

-- what one addition does to the adder's own amounts
pub own_added : {B : Type 0} (k x : ℕ) (v w : Knowledge Entry B) → v.numbers ≡ k ∷ [] → v.number ≡ k → Adds true x v w
    → amounts_of k w.seen ≡ amounts_of k v.seen ++ x ∷ []
own_added {B} k x v w numbers number h =
    let none = amounts_none k (k ∷ []) h.0 (contains_own k)
    (subst (λ (ns : List ℕ). All (λ e. ¬ Contains ns e.by) h.0) numbers h.2) in
    let entry : ℕ → Entry = λ j. record { by = j; amount = x } in
    let seen : w.seen ≡ (v.seen ++ h.0) ++ entry k ∷ [] = ap (λ (z : Knowledge Entry B). z.seen) h.1
    ∙ ap (λ (j : ℕ). (v.seen ++ h.0) ++ entry j ∷ []) number in
    ap (amounts_of k) seen ∙ (amounts_append k (v.seen ++ h.0) (entry k ∷ [])
    ∙ (ap (λ l. l ++ amounts_of k (entry k ∷ [])) (amounts_append k v.seen h.0
    ∙ (ap (λ l. amounts_of k v.seen ++ l) none ∙ append-nil (amounts_of k v.seen)))
    ∙ ap (λ l. amounts_of k v.seen ++ l) (amounts_one k x)))

pub own_kept : {B : Type 0} (k x : ℕ) (v w : Knowledge Entry B) → v.numbers ≡ k ∷ [] → Adds false x v w
    → amounts_of k w.seen ≡ amounts_of k v.seen
own_kept {B} k x v w numbers h =
    amounts_extended k v w.seen (subst (λ (ns : List ℕ). Contains ns k) (sym numbers) (contains_own k))
    (h.0, ap (λ (z : Knowledge Entry B). z.seen) h.1, h.2)

-- an addition changes what was seen, and nothing else
pub adds_keeps : {B : Type 0} (added : Bool) (x : ℕ) (v w : Knowledge Entry B) → Adds added x v w
    → w ≡ with_seen w.seen v
adds_keeps {B} false x v w h = h.1 ∙ ap (λ (z : Knowledge Entry B). with_seen z.seen v) (sym h.1)
adds_keeps {B} true x v w h = h.1 ∙ ap (λ (z : Knowledge Entry B). with_seen z.seen v) (sym h.1)

pub contains_cons : (ns ms : List ℕ) (m k : ℕ) → ns ≡ m ∷ [] → m ≤ k → (m + 1 ≤ k → Contains ms k)
    → Contains (ns ++ ms) k
contains_cons ns ms m k is le after = go (ℕ_discrete k m)
  where
    go : Dec (k ≡ m) → Contains (ns ++ ms) k
    go (yes e) = Contains-append_left ns ms k
        (subst (λ (z : List ℕ × ℕ). Contains z.0 z.1) (λ i. (sym is i, sym e i)) (contains_own m))
    go (no other) = Contains-append_right ns ms k (after (omega (arith, le, other)))

-- one more of the amounts was added, or the last one wasn't
pub next_added : {B : Type 0} (added : Bool) (k : ℕ) (xs : List ℕ) (i d : ℕ) (first v w : Knowledge Entry B)
    → added ≡ true → i < length xs → v.numbers ≡ k ∷ [] → v.number ≡ k
    → amounts_of k v.seen ≡ amounts_of k first.seen ++ take i xs → Adds added (get_or xs i d) v w
    → amounts_of k w.seen ≡ amounts_of k first.seen ++ take (i + 1) xs
next_added false k xs i d first v w is lt numbers number before h = cc
next_added true k xs i d first v w is lt numbers number before h =
    own_added k (get_or xs i d) v w numbers number h
    ∙ (ap (λ l. l ++ get_or xs i d ∷ []) before
    ∙ (append_assoc (amounts_of k first.seen) (take i xs) (get_or xs i d ∷ [])
    ∙ ap (λ l. amounts_of k first.seen ++ l) (sym (take_more xs i d lt))))

pub none_added : {B : Type 0} (added : Bool) (k x : ℕ) (v w : Knowledge Entry B) → added ≡ false → v.numbers ≡ k ∷ []
    → Adds added x v w → amounts_of k w.seen ≡ amounts_of k v.seen
none_added false k x v w is numbers h = own_kept k x v w numbers h
none_added true k x v w is numbers h = cc

-- what a new pass knows after one addition
pub new_keeps : {B : Type 0} (added : Bool) (b : B) (n k x : ℕ) (v w : Knowledge Entry B) → v ≡ first_knowledge b n k
    → Adds added x v w → (w.numbers ≡ k ∷ []) × (w.count ≡ n)
new_keeps {B} added b n k x v w new h =
    let kept = adds_keeps added x v w h in (
      ap (λ (z : Knowledge Entry B). z.numbers) kept
          ∙ ap (λ (z : Knowledge Entry B). z.numbers) new,
      ap (λ (z : Knowledge Entry B). z.count) kept
          ∙ ap (λ (z : Knowledge Entry B). z.count) new,
    )

pub first_added : {B : Type 0} (added : Bool) (b : B) (n k x : ℕ) (v w : Knowledge Entry B) → added ≡ true
    → v ≡ first_knowledge b n k → Adds added x v w
    → (w.numbers ≡ k ∷ []) × (w.count ≡ n) × (amounts_of k w.seen ≡ x ∷ [])
first_added {B} added b n k x v w is new h =
    let keeps = new_keeps added b n k x v w new h in
    let grown = next_added added k (x ∷ []) 0 0 v v w is (omega arith) (ap (λ (z : Knowledge Entry B). z.numbers) new)
    (ap (λ (z : Knowledge Entry B). z.number) new) (sym (append-nil (amounts_of k v.seen))) h in
    (keeps.0, keeps.1, grown ∙ ap (λ (z : Knowledge Entry B). amounts_of k z.seen ++ x ∷ []) new)

pub both_contained : (ns ms : List ℕ) (n : ℕ) → ns ≡ 0 ∷ [] → ms ≡ 1 ∷ [] → n ≡ 2 → (k : ℕ) → k < n
    → Contains (ns ++ ms) k
both_contained ns ms n a b c k lt = contains_cons ns ms 0 k a (omega arith)
    (λ more. let e : k ≡ 1 = omega (arith, more, lt, c) in
    subst (λ (z : List ℕ × ℕ). Contains z.0 z.1) (λ i. (sym b i, sym e i)) (contains_own 1))

all_added : (amounts : List ℕ) (added : Bool) (v w : Knowledge Entry ℕ) → added ≡ true → AddsAll added amounts v w
    → amounts_of v.number w.seen ≡ amounts_of v.number v.seen ++ amounts
all_added amounts true v w is h = h
all_added amounts false v w is h = cc

-- the work of one worker
pub one_worked : (b n k : ℕ) (amounts : List ℕ) (added : Bool) (v w : Knowledge Entry ℕ) → v ≡ first_knowledge b n k
    → w ≡ with_seen w.seen v → AddsAll added amounts v w → HasWorked b n amounts k (k + 1) added w
one_worked b n k amounts added v w new kept adds =
    let numbers : w.numbers ≡ k ∷ [] = ap (λ (z : Knowledge Entry ℕ). z.numbers) kept
    ∙ ap (λ (z : Knowledge Entry ℕ). z.numbers) new in
    let same : (x : ℕ) → k ≤ x → x < k + 1 → k ≡ x = λ x low high. omega (arith, low, high) in (
      ap (λ (z : Knowledge Entry ℕ). z.base) kept ∙ ap (λ (z : Knowledge Entry ℕ). z.base) new,
      ap (λ (z : Knowledge Entry ℕ). z.count) kept ∙ ap (λ (z : Knowledge Entry ℕ). z.count) new,
      λ x low high. subst (λ (z : List ℕ × ℕ). Contains z.0 z.1) (λ i. (sym numbers i, same x low high i))
          (contains_own k),
      λ done x low high. subst (λ j. amounts_of j w.seen ≡ amounts) (same x low high)
          (subst (λ (z : Knowledge Entry ℕ). amounts_of z.number w.seen ≡ amounts_of z.number z.seen ++ amounts) new
          (all_added amounts added v w done adds)),
    )

-- the work of one worker and that of those after it, once their passes are joined
pub both_worked : (start count : ℕ) (amounts : List ℕ) (from to : ℕ) (a b r : Bool) (v w u : Knowledge Entry ℕ)
    → HasWorked start count amounts from (from + 1) a v → HasWorked start count amounts (from + 1) to b w
    → u ≡ joined v w
    → ExtendsByOthers (λ e. e.by) v u.seen → ExtendsByOthers (λ e. e.by) w u.seen
    → (r ≡ true → (a ≡ true) × (b ≡ true)) → HasWorked start count amounts from to r u
both_worked start count amounts from to a b r v w u one others is more_one more_others both = (
  ap (λ (z : Knowledge Entry ℕ). z.base) is ∙ one.0,
  ap (λ (z : Knowledge Entry ℕ). z.count) is ∙ one.1,
  λ x low high. subst (λ (ns : List ℕ). Contains ns x) (sym (ap (λ (z : Knowledge Entry ℕ). z.numbers) is))
      (stands x low high (ℕ_discrete x from)),
  λ done x low high. entered (both done) x low high (ℕ_discrete x from),
)
  where
    stands : (x : ℕ) → from ≤ x → x < to → Dec (x ≡ from) → Contains (v.numbers ++ w.numbers) x
    stands x low high (yes e) = Contains-append_left v.numbers w.numbers x (one.2 x low (omega (arith, e)))
    stands x low high (no other) = Contains-append_right v.numbers w.numbers x
        (others.2 x (omega (arith, low, other)) high)

    entered : (a ≡ true) × (b ≡ true) → (x : ℕ) → from ≤ x → x < to → Dec (x ≡ from) → amounts_of x u.seen ≡ amounts
    entered done x low high (yes e) = amounts_extended x v u.seen (one.2 x low (omega (arith, e))) more_one
        ∙ one.3 done.0 x low (omega (arith, e))
    entered done x low high (no other) = amounts_extended x w u.seen (others.2 x (omega (arith, low, other)) high)
        more_others ∙ others.3 done.1 x (omega (arith, low, other)) high

pub contains_next : (ns ms : List ℕ) (m k : ℕ) → ms ≡ m ∷ [] → k < m + 1 → (k < m → Contains ns k)
    → Contains (ns ++ ms) k
contains_next ns ms m k is lt before = go (ℕ_discrete k m)
  where
    go : Dec (k ≡ m) → Contains (ns ++ ms) k
    go (yes e) = Contains-append_right ns ms k
        (subst (λ (z : List ℕ × ℕ). Contains z.0 z.1) (λ i. (sym is i, sym e i)) (contains_own m))
    go (no other) = Contains-append_left ns ms k (before (omega (arith, lt, other)))
