-- The parts of a kind among the imports, and a list mapped, one item after another.
use Rattle.std.proofs.Common.{◌≡◌, ℕ, zero, suc, ◌+◌, ◌<◌, ◌≤◌, List, [], ◌∷◌, ◌++◌, length, take, drop, length-append, get_or, map, Option, Some, None, Bool, true, false, not, refl, sym, ap, ◌∙◌, arith, append-nil, append_assoc, add-one}
use Rattle.wasm_form.specs.declared.types.Bounds.{Bounds}
use Rattle.wasm_form.specs.declared.types.GlobalType.{GlobalType}
use Rattle.wasm_form.specs.declared.parts.Imported.{Imported}
use Rattle.wasm_form.specs.declared.parts.Imported.TheVariants as imported
use Rattle.wasm_form.specs.Context.{function_of, table_of, memory_of, global_of}
use Rattle.std.specs.Prelude.{filter_map, option_to_list, ◌==◌}
use Rattle.std.specs.List.{cons_option}
use Rattle.std.proofs.lemmas.List.{map-append, take_all, take-append-drop}
use Rattle.std.proofs.lemmas.List.Elements.{filter_map-append}
use Rattle.std.proofs.Math.Seq.{take-suc}
use Rattle.std.proofs.Math.Dec.{eqb-suc-zero}

module _ {A B : Type 0} (f : A → Option B) (xs : List A) where
  one_more : (i : ℕ) (x : A) → i < length xs → x ≡ get_or xs i x → filter_map f (take (i + 1) xs) ≡ filter_map f (take i xs) ++ filter_map f (x ∷ [])
  one_more i x h e =
      ap (λ k. filter_map f (take k xs)) (add-one i) ∙ ap (filter_map f) (take-suc xs i x h) ∙ filter_map-append f (take i xs) (get_or xs i x ∷ [])
      ∙ ap (λ y. filter_map f (take i xs) ++ filter_map f (y ∷ [])) (sym e)

  one_of : (x : A) (o : Option B) → f x ≡ o → filter_map f (x ∷ []) ≡ option_to_list o
  one_of x None e = ap (λ p. cons_option p []) e
  one_of x (Some y) e = ap (λ p. cons_option p []) e

  -- the item is of the kind, or isn't
  pub found_more : (i : ℕ) (x : A) (y : B) (so_far new : List B) → i < length xs → x ≡ get_or xs i x → f x ≡ Some y → so_far ≡ filter_map f (take i xs) → new ≡ so_far ++ y ∷ []
      → new ≡ filter_map f (take (i + 1) xs)
  found_more i x y so_far new h e k s n = n ∙ ap (λ l. l ++ y ∷ []) s ∙ ap (λ l. filter_map f (take i xs) ++ l) (sym (one_of x (Some y) k)) ∙ sym (one_more i x h e)

  pub other_more : (i : ℕ) (x : A) (so_far : List B) → i < length xs → x ≡ get_or xs i x → f x ≡ None → so_far ≡ filter_map f (take i xs) → so_far ≡ filter_map f (take (i + 1) xs)
  other_more i x so_far h e k s = s ∙ sym (append-nil (filter_map f (take i xs))) ∙ ap (λ l. filter_map f (take i xs) ++ l) (sym (one_of x None k)) ∙ sym (one_more i x h e)

  pub all_found : (i : ℕ) (so_far : List B) → length xs ≤ i → so_far ≡ filter_map f (take i xs) → so_far ≡ filter_map f xs
  all_found i so_far h s = s ∙ ap (filter_map f) (take_all i xs h)

  -- one is there
  pub some_there : (i : ℕ) (x : A) (y : B) → i < length xs → x ≡ get_or xs i x → f x ≡ Some y → 0 < length (filter_map f xs)
  some_there i x y h e k =
      let here : filter_map f (take (i + 1) xs) ≡ filter_map f (take i xs) ++ y ∷ [] = one_more i x h e ∙ ap (λ l. filter_map f (take i xs) ++ l) (one_of x (Some y) k) in
      let whole : filter_map f xs ≡ filter_map f (take (i + 1) xs) ++ filter_map f (drop (i + 1) xs) =
      ap (filter_map f) (sym (take-append-drop (i + 1) xs)) ∙ filter_map-append f (take (i + 1) xs) (drop (i + 1) xs)
      in
      omega (arith, ap length whole, length-append (filter_map f (take (i + 1) xs)) (filter_map f (drop (i + 1) xs)), ap length here, length-append (filter_map f (take i xs)) (y ∷ []))

-- what is imported is of the kind, or isn't
pub not_function : (w : Imported) → ((n : ℕ) → w ≡ imported.Function n → ⊥) → function_of w ≡ None
not_function (imported.Function n) never = absurd (never n refl)
not_function (imported.Table b) never = refl
not_function (imported.Memory b) never = refl
not_function (imported.Global g) never = refl

pub not_table : (w : Imported) → ((b : Bounds) → w ≡ imported.Table b → ⊥) → table_of w ≡ None
not_table (imported.Function n) never = refl
not_table (imported.Table b) never = absurd (never b refl)
not_table (imported.Memory b) never = refl
not_table (imported.Global g) never = refl

pub not_memory : (w : Imported) → ((b : Bounds) → w ≡ imported.Memory b → ⊥) → memory_of w ≡ None
not_memory (imported.Function n) never = refl
not_memory (imported.Table b) never = refl
not_memory (imported.Memory b) never = absurd (never b refl)
not_memory (imported.Global g) never = refl

pub not_global : (w : Imported) → ((g : GlobalType) → w ≡ imported.Global g → ⊥) → global_of w ≡ None
not_global (imported.Function n) never = refl
not_global (imported.Table b) never = refl
not_global (imported.Memory b) never = refl
not_global (imported.Global g) never = absurd (never g refl)

-- nothing was found among all
pub none_there : {B : Type 0} (xs : List B) → [] ≡ xs → 0 < length xs → ⊥
none_there xs e h = let f : length xs ≡ 0 = ap length (sym e) in omega (arith, f, h)

module _ {A B : Type 0} (f : A → B) (xs : List A) (front : List B) where
  pub map_more : (i : ℕ) (x : A) (so_far new : List B) → i < length xs → x ≡ get_or xs i x → so_far ≡ front ++ map f (take i xs) → new ≡ so_far ++ f x ∷ [] → new ≡ front ++ map f (take (i + 1) xs)
  map_more i x so_far new h e s n =
      let more : map f (take (i + 1) xs) ≡ map f (take i xs) ++ f x ∷ [] =
      ap (λ k. map f (take k xs)) (add-one i) ∙ ap (map f) (take-suc xs i x h) ∙ map-append f (take i xs) (get_or xs i x ∷ []) ∙ ap (λ y. map f (take i xs) ++ f y ∷ []) (sym e)
      in
      n ∙ ap (λ l. l ++ f x ∷ []) s ∙ append_assoc front (map f (take i xs)) (f x ∷ []) ∙ ap (λ l. front ++ l) (sym more)

  pub map_all : (i : ℕ) (so_far : List B) → length xs ≤ i → so_far ≡ front ++ map f (take i xs) → so_far ≡ front ++ map f xs
  map_all i so_far h s = s ∙ ap (λ l. front ++ map f l) (take_all i xs h)

-- one among either
pub either_there : {B : Type 0} (xs ys : List B) → 0 < length xs → 0 < length (xs ++ ys)
either_there xs ys h = omega (arith, length-append xs ys)

pub second_there : {B : Type 0} (xs ys : List B) → 0 < length ys → 0 < length (xs ++ ys)
second_there xs ys h = omega (arith, length-append xs ys)

pub neither_there : {B : Type 0} (xs ys : List B) → (0 < length xs → ⊥) → 0 < length (xs ++ ys) → 0 < length ys
neither_there xs ys never h = at (length xs) refl
  where
    at : (n : ℕ) → length xs ≡ n → 0 < length ys
    at zero e = omega (arith, length-append xs ys, e, h)
    at (suc n) e = absurd (never (omega (arith, e)))

-- what the test for emptiness says
pub none_or_some : {B : Type 0} (xs : List B) (b : Bool) → b ≡ (length xs == 0) → not b ≡ true → 0 < length xs
none_or_some [] b e n = let f : not b ≡ false = ap not e in let g : true ≡ false = sym n ∙ f in absurd (cc g)
none_or_some (x ∷ xs) b e n = omega arith

pub some_or_none : {B : Type 0} (xs : List B) (b : Bool) → b ≡ (length xs == 0) → 0 < length xs → not b ≡ true
some_or_none [] b e h = absurd (omega arith)
some_or_none (x ∷ xs) b e h = ap not (e ∙ eqb-suc-zero (length xs))
