-- Where a local stands in its runs.
use Rattle.std.proofs.Common.{◌≡◌, ℕ, zero, suc, ◌+◌, ◌-◌, ◌<◌, ◌≤◌, List, [], ◌∷◌, ◌++◌, length, take, drop, get_or, Some, None, Bool, true, false, eqb, ◌≢◌, refl, sym, ap, subst, ◌∙◌, arith, length-append, drop-cons}
use Rattle.std.specs.Prelude.{slice_get, replicate}
use Rattle.std.proofs.lemmas.Option.{slice_get_past, slice_get-get_or}
use Rattle.std.proofs.lemmas.List.{length-replicate, get_or-replicate, take-append-drop, get_or_append_left}
use Rattle.std.proofs.Math.Seq.{get_or-append_seam}
use Rattle.wasm_form.specs.declared.value_type.ValType.TheVariants.{I32}
use Rattle.std.proofs.lemmas.Bool.{eqb-true, eqb-false}
use Rattle.std.proofs.lemmas.List.Sums.{sum_by-cons, sum_by_more, sum_by_more_le}
use Rattle.std.proofs.lemmas.Grind.{flat_map-append}
use Rattle.wasm_form.specs.declared.value_type.ValType.{ValType}
use Rattle.wasm_form.specs.declared.body.LocalRun.{LocalRun}
use Rattle.body_validator.specs.Locals.{spread, count_of, IsEnds}

-- the same with these before
get_right : {A : Type 0} (xs ys : List A) (i j : ℕ) → i ≡ length xs + j → slice_get (xs ++ ys) i ≡ slice_get ys j
get_right [] ys i j e = let f : i ≡ j = omega arith in ap (λ k. slice_get ys k) f
get_right (x ∷ xs) ys zero j e = absurd (omega arith)
get_right (x ∷ xs) ys (suc i) j e = get_right xs ys i j (omega arith)

get_left : {A : Type 0} (xs ys : List A) (i : ℕ) → i < length xs → slice_get (xs ++ ys) i ≡ slice_get xs i
get_left [] ys i h = absurd (omega arith)
get_left (x ∷ xs) ys zero h = refl
get_left (x ∷ xs) ys (suc i) h = get_left xs ys i (omega arith)

get_replicate : {A : Type 0} (n i : ℕ) (x : A) → i < n → slice_get (replicate n x) i ≡ Some x
get_replicate n i x h =
    slice_get-get_or (replicate n x) i x (omega (arith, length-replicate n x)) ∙ ap (λ y. Some y) (get_or-replicate n i x x h)

-- as many as are counted
length_spread : (runs : List LocalRun) → length (spread runs) ≡ count_of runs
length_spread [] = refl
length_spread (run ∷ runs) =
    let count : LocalRun → ℕ = λ r. r.count in
    omega (arith, length-append (replicate run.count run.ty) (spread runs), length-replicate run.count run.ty, length_spread runs, sum_by-cons count run runs)

-- the sum up to a run and with it
pub one_run_more : (runs : List LocalRun) (r : ℕ) (d : LocalRun) → r < length runs → count_of (take (r + 1) runs) ≡ count_of (take r runs) + (get_or runs r d).count
one_run_more runs r d h = let count : LocalRun → ℕ = λ r. r.count in sum_by_more count runs r d h

pub run_within : (runs : List LocalRun) (r : ℕ) (d : LocalRun) → r < length runs → count_of (take r runs) + (get_or runs r d).count ≤ count_of runs
run_within runs r d h = let count : LocalRun → ℕ = λ r. r.count in sum_by_more_le count runs r d h

-- how many stand before the run at r
before : (runs : List LocalRun) (ends : List ℕ) (r n : ℕ) → IsEnds runs ends → r ≤ length runs → (0 < r → get_or ends (r - 1) 0 ≤ n) → count_of (take r runs) ≤ n
before runs ends zero n is h below = omega arith
before runs ends (suc r) n is h below =
    let f : get_or ends (suc r - 1) 0 ≤ n = below (omega arith) in
    let g : suc r - 1 ≡ r = omega arith in
    let k : get_or ends r 0 ≤ n = subst (λ i. get_or ends i 0 ≤ n) g f in
    let e : get_or ends r 0 ≡ count_of (take (r + 1) runs) = is.each r (omega arith) in
    let s : r + 1 ≡ suc r = omega arith in
    subst (λ i. count_of (take i runs) ≤ n) s (subst (λ i. i ≤ n) e k)

-- the local n of the run at r
in_run : (runs : List LocalRun) (r n : ℕ) (d : LocalRun) → r < length runs → count_of (take r runs) ≤ n → n < count_of (take r runs) + (get_or runs r d).count → slice_get (spread runs) n ≡ Some (get_or runs r d).ty
in_run runs r n d h low high =
    let local : LocalRun → List ValType = λ run. replicate run.count run.ty in
    let run : LocalRun = get_or runs r d in
    let m : ℕ = n - count_of (take r runs) in
    let split : spread runs ≡ spread (take r runs) ++ (replicate run.count run.ty ++ spread (drop (suc r) runs)) =
    ap (λ l. spread l) (sym (take-append-drop r runs)) ∙ flat_map-append local (take r runs) (drop r runs)
    ∙ ap (λ l. spread (take r runs) ++ spread l) (drop-cons runs r d h)
    in
    ap (λ l. slice_get l n) split
    ∙ get_right (spread (take r runs)) (replicate run.count run.ty ++ spread (drop (suc r) runs)) n m (omega (arith, length_spread (take r runs)))
    ∙ get_left (replicate run.count run.ty) (spread (drop (suc r) runs)) m (omega (arith, length-replicate run.count run.ty))
    ∙ get_replicate run.count m run.ty (omega arith)

pub at_run : (params : List ValType) (runs : List LocalRun) (ends : List ℕ) (place r : ℕ) (d : LocalRun) → IsEnds runs ends → length params ≤ place → r < length runs
    → (0 < r → get_or ends (r - 1) 0 ≤ place - length params) → (r < length ends → place - length params < get_or ends r 0)
    → slice_get (params ++ spread runs) place ≡ Some (get_or runs r d).ty
at_run params runs ends place r d is past h below above =
    let n : ℕ = place - length params in
    let low : count_of (take r runs) ≤ n = before runs ends r n is (omega arith) below in
    let top : n < get_or ends r 0 = above (omega (arith, is.length_is)) in
    let high : n < count_of (take r runs) + (get_or runs r d).count = omega (arith, top, is.each r h, one_run_more runs r d h) in
    get_right params (spread runs) place n (omega arith) ∙ in_run runs r n d h low high

pub past_runs : (params : List ValType) (runs : List LocalRun) (ends : List ℕ) (place r : ℕ) → IsEnds runs ends → length params ≤ place → length runs ≤ r → r ≤ length ends
    → (0 < r → get_or ends (r - 1) 0 ≤ place - length params) → slice_get (params ++ spread runs) place ≡ None
past_runs params runs ends place r is past h bound below =
    let n : ℕ = place - length params in
    let low : count_of (take r runs) ≤ n = before runs ends r n is (omega (arith, is.length_is)) below in
    let all : take r runs ≡ runs = take_all runs r h in
    let low' : count_of runs ≤ n = subst (λ l. count_of l ≤ n) all low in
    slice_get_past (params ++ spread runs) place (omega (arith, length-append params (spread runs), length_spread runs))
  where
    take_all : (xs : List LocalRun) (k : ℕ) → length xs ≤ k → take k xs ≡ xs
    take_all [] zero h = refl
    take_all [] (suc k) h = refl
    take_all (x ∷ xs) zero h = absurd (omega arith)
    take_all (x ∷ xs) (suc k) h = ap (λ l. x ∷ l) (take_all xs k (omega arith))

-- a run to stand for a missing one
abbrev pub no_run : LocalRun
no_run = record { count = 0; ty = I32 }

-- what the search in the ends finds
pub found_local : (all params : List ValType) (runs : List LocalRun) (ends xs : List ℕ) (place r : ℕ) → all ≡ params ++ spread runs → xs ≡ ends → IsEnds runs ends → length params ≤ place → r < length runs
    → (0 < r → get_or xs (r - 1) 0 ≤ place - length params) → (r < length xs → place - length params < get_or xs r 0) → Some (get_or runs r no_run).ty ≡ slice_get all place
found_local all params runs ends xs place r v e is past h below above =
    sym (ap (λ l. slice_get l place) v
    ∙ at_run params runs ends place r no_run is past h (λ z. subst (λ l. get_or l (r - 1) 0 ≤ place - length params) e (below z))
    (λ z. subst (λ l. place - length params < get_or l r 0) e (above (subst (λ (l : List ℕ). r < length l) (sym e) z))))

pub no_local : (all params : List ValType) (runs : List LocalRun) (ends xs : List ℕ) (place r : ℕ) → all ≡ params ++ spread runs → xs ≡ ends → IsEnds runs ends → length params ≤ place → length runs ≤ r → r ≤ length xs
    → (0 < r → get_or xs (r - 1) 0 ≤ place - length params) → None ≡ slice_get all place
no_local all params runs ends xs place r v e is past h bound below =
    sym (ap (λ l. slice_get l place) v
    ∙ past_runs params runs ends place r is past h (subst (λ (l : List ℕ). r ≤ length l) e bound) (λ z. subst (λ l. get_or l (r - 1) 0 ≤ place - length params) e (below z)))

-- one more end
pub one_end_more : (runs : List LocalRun) (ends : List ℕ) (r end : ℕ) → end ≡ count_of (take (r + 1) runs) → length ends ≡ r
    → ((k : ℕ) → k < r → get_or ends k 0 ≡ count_of (take (k + 1) runs)) → (k : ℕ) → k < r + 1 → get_or (ends ++ end ∷ []) k 0 ≡ count_of (take (k + 1) runs)
one_end_more runs ends r end e len each k h = at (eqb k r) refl
  where
    here : k ≡ r → get_or (ends ++ end ∷ []) k 0 ≡ count_of (take (k + 1) runs)
    here q =
        let seam : k ≡ length ends = omega arith in
        ap (λ i. get_or (ends ++ end ∷ []) i 0) seam ∙ get_or-append_seam ends end [] 0 ∙ e ∙ ap (λ i. count_of (take (i + 1) runs)) (sym q)

    at : (b : Bool) → eqb k r ≡ b → get_or (ends ++ end ∷ []) k 0 ≡ count_of (take (k + 1) runs)
    at true q = here (eqb-true k r q)
    at false q =
        let f : k ≢ r = eqb-false k r q in
        get_or_append_left ends (end ∷ []) 0 k (omega arith) ∙ each k (omega arith)
