-- The signal of one link, and the numbers of an ordered map in their order.
use Rattle.std.proofs.Common.{◌≡◌, ℕ, zero, suc, ◌+◌, ◌<◌, ◌++◌, length, get_or, drop, slice_get, flat_map, arith, Bool, true, false, cond, ◌&&◌, T, List, [], ◌∷◌, map, Option, Some, None, option_map, refl, ap, sym, ◌∙◌, subst}
use Rattle.std.specs.declared.cmp.Ordering.TheVariants.{Less}
use Rattle.std.specs.Ordering.{nat_cmp, is_lt}
use Rattle.std.specs.Cmp.{nat_cmp_total}
use Rattle.std.specs.List.{AllByRecursion}
use Rattle.std.specs.List.Sorted.{IsStrictlySortedBy}
use Rattle.std.specs.Map.{keys_of}
use Rattle.std.proofs.lemmas.List.{drop_more}
use Rattle.std.specs.FinMap.Entries.{is_sorted, below_all}
use Rattle.std.specs.FinMap.{entries, keys, get, from_entries, from_sorted, entries-from_sorted, get-from_entries, get-from_sorted, same_map, nat_cmp-IsAntisymmetric}
use Rattle.link_signals.specs.declared.signal.Signal.{Signal}
use Rattle.link_signals.specs.Links.{Processes, Tags, ends}
use Rattle.link_signals.specs.Fall.{is_among, signal_to, signals_from, signals_left}

pub signal_is : (tags : Tags) (members : List ℕ) (member pid : ℕ) (tag : Option ℕ) → is_among members pid ≡ false → get tags (ends member pid) ≡ tag
    → signal_to tags members member pid ≡ option_map (λ t. record { to = pid; tag = t }) tag
signal_is tags members member pid tag outside is =
    ap (λ b. cond b None (option_map (λ (t : ℕ). let s : Signal = record { to = pid; tag = t } in s) (get tags (ends member pid)))) outside
    ∙ ap (option_map (λ (t : ℕ). let s : Signal = record { to = pid; tag = t } in s)) is

both : (a b : Bool) → T a → T b → T (a && b)
both true b p q = q
both false b p q = p

below : {X : Type 0} (x : ℕ) (es : List (ℕ × X)) → AllByRecursion (λ y. nat_cmp x y ≡ Less) (keys_of es) → T (below_all nat_cmp x es)
below x [] h = tt
below x (e ∷ es) h = both _ _ (subst (λ r. T (is_lt r)) (sym h.0) tt) (below x es h.1)

sorted : {X : Type 0} (es : List (ℕ × X)) → IsStrictlySortedBy nat_cmp (keys_of es) → T (is_sorted nat_cmp es)
unfolding IsStrictlySortedBy
sorted [] h = tt
sorted (e ∷ es) h = both _ _ (below e.0 es h.0) (sorted es h.1)

-- the numbers of an ordered map stand in their order
pub keys_in_order : {X : Type 0} (es : List (ℕ × X)) → IsStrictlySortedBy nat_cmp (keys_of es) → keys (from_entries {R = nat_cmp} es) ≡ map (λ e. e.0) es
keys_in_order es h =
    let same = same_map nat_cmp_total nat_cmp-IsAntisymmetric (from_entries es) (from_sorted es)
    (λ q. get-from_entries nat_cmp_total es q ∙ sym (get-from_sorted nat_cmp es q (sorted es h))) in
    ap (map (λ e. e.0)) (ap entries same ∙ entries-from_sorted nat_cmp es (sorted es h))

place : (members : List ℕ) (n member : ℕ) → slice_get members n ≡ Some member → (n < length members) × (get_or members n 0 ≡ member)
place [] n member is = absurd cc
place (x ∷ xs) zero member is = (omega arith, cc)
place (x ∷ xs) (suc n) member is = let rest = place xs n member is in (omega (arith, rest.0), rest.1)

past : (members : List ℕ) (n : ℕ) → slice_get members n ≡ None → drop n members ≡ []
past [] zero is = refl
past [] (suc n) is = refl
past (x ∷ xs) zero is = absurd cc
past (x ∷ xs) (suc n) is = past xs n is

-- the member at a place, and where there is none
pub left_more : (processes : Processes) (tags : Tags) (members : List ℕ) (n member : ℕ) → slice_get members n ≡ Some member
    → (n < length members) × (signals_left processes tags members n ≡ signals_from processes tags members member ++ signals_left processes tags members (n + 1))
left_more processes tags members n member is =
    let at = place members n member is in
    (at.0, ap (flat_map (signals_from processes tags members)) (drop_more members n 0 at.0 ∙ ap (λ m. m ∷ drop (n + 1) members) at.1))

pub left_none : (processes : Processes) (tags : Tags) (members : List ℕ) (n : ℕ) → slice_get members n ≡ None → signals_left processes tags members n ≡ []
left_none processes tags members n is = ap (flat_map (signals_from processes tags members)) (past members n is)

pub no_signals : (xs : List Signal) → length xs ≡ 0 → xs ≡ []
no_signals [] e = refl
no_signals (x ∷ xs) e = absurd (omega arith)
