-- What is found in a list stays where the list has more at its end.
use Rattle.std.proofs.Common.{◌≡◌, ℕ, zero, suc, ◌+◌, List, [], ◌∷◌, ◌++◌, length, map, drop, Option, Some, refl, sym, ap, ◌∙◌, arith, append_assoc, length-append}
use Rattle.std.specs.Prelude.{slice_get, option_map, option_to_list, unwrap_or}
use Rattle.std.proofs.lemmas.Option.{slice_get-map}
use Rattle.code_map.specs.declared.target.Target.{Target}
use Rattle.code_map.specs.declared.body_map.BodyMap.{BodyMap}
use Rattle.code_map.specs.Targets.{HasTarget, HasTable}
use Rattle.code_map.specs.Marks.{Marks, MarksTable, nowhere, target_at}
use Rattle.code_map.specs.Left.{Extends}

pub seam : {A : Type 0} (xs : List A) (y : A) (ys : List A) → slice_get (xs ++ y ∷ ys) (length xs) ≡ Some y
seam [] y ys = refl
seam (x ∷ xs) y ys = seam xs y ys

pub kept : {A : Type 0} (xs ys : List A) (k : ℕ) (v : A) → slice_get xs k ≡ Some v → slice_get (xs ++ ys) k ≡ Some v
kept [] ys k v h = absurd (cc h)
kept (x ∷ xs) ys zero v h = h
kept (x ∷ xs) ys (suc k) v h = kept xs ys k v h

pub behind : {A : Type 0} (xs ys : List A) (k : ℕ) → slice_get (xs ++ ys) (length xs + k) ≡ slice_get ys k
behind [] ys k = let e : 0 + k ≡ k = omega arith in ap (λ n. slice_get ys n) e
behind (x ∷ xs) ys k =
    let e : suc (length xs) + k ≡ suc (length xs + k) = omega arith in
    ap (λ n. slice_get (x ∷ (xs ++ ys)) n) e ∙ behind xs ys k

pub drops : {A : Type 0} (k : ℕ) (xs : List A) (y : A) (ys : List A) → drop k xs ≡ y ∷ ys → (slice_get xs k ≡ Some y) × (drop (k + 1) xs ≡ ys)
drops zero [] y ys h = absurd (cc h)
drops zero (x ∷ xs) y ys h = let e : x ≡ y = cc in let f : xs ≡ ys = cc in (ap (λ v. Some v) e, f)
drops (suc k) [] y ys h = absurd (cc h)
drops (suc k) (x ∷ xs) y ys h =
    let r = drops k xs y ys h in
    let e : suc k + 1 ≡ suc (k + 1) = omega arith in
    (r.0, ap (λ n. drop n (x ∷ xs)) e ∙ r.1)

pub goes_on : (a b c : BodyMap) → Extends a b → Extends b c → Extends a c
goes_on a b c e f = record {
  slots = (e.slots.0 ++ f.slots.0, f.slots.1 ∙ ap (λ x. x ++ f.slots.0) e.slots.1 ∙ append_assoc a.slots e.slots.0 f.slots.0);
  targets = (e.targets.0 ++ f.targets.0, f.targets.1 ∙ ap (λ x. x ++ f.targets.0) e.targets.1 ∙ append_assoc a.targets e.targets.0 f.targets.0);
  tables = (e.tables.0 ++ f.tables.0, f.tables.1 ∙ ap (λ x. x ++ f.tables.0) e.tables.1 ∙ append_assoc a.tables e.tables.0 f.tables.0);
}

pub same_map : (a : BodyMap) → Extends a a
same_map a = record { slots = ([], sym (nil a.slots)); targets = ([], sym (nil a.targets)); tables = ([], sym (nil a.tables)) }
  where
    nil : {A : Type 0} (xs : List A) → xs ++ [] ≡ xs
    nil [] = refl
    nil (x ∷ xs) = ap (λ l. x ∷ l) (nil xs)

module _ (t : Option Target) (a b : BodyMap) (h : Marks t a b) where
  pub marked_slots : length b.slots ≡ length a.slots + 1
  marked_slots = omega (arith, ap length h.slots, length-append a.slots (length a.targets ∷ []))

  pub marked_extends : Extends a b
  marked_extends = record {
    slots = (length a.targets ∷ [], h.slots);
    targets = (option_to_list t, h.targets);
    tables = ([], h.tables ∙ sym (nil a.tables));
  }
    where
      nil : {A : Type 0} (xs : List A) → xs ++ [] ≡ xs
      nil [] = refl
      nil (x ∷ xs) = ap (λ l. x ∷ l) (nil xs)

-- the target of an instruction stays in the map
pub has_target : (t : Target) (a b c : BodyMap) → Marks (Some t) a b → Extends b c → HasTarget c (length a.slots) t
has_target t a b c h e = (
  length a.targets,
  ap (λ l. slice_get l (length a.slots)) (e.slots.1 ∙ ap (λ l. l ++ e.slots.0) h.slots) ∙ kept (a.slots ++ length a.targets ∷ []) e.slots.0 (length a.slots) (length a.targets)
      (seam a.slots (length a.targets) []),
  ap (λ l. slice_get l (length a.targets)) (e.targets.1 ∙ ap (λ l. l ++ e.targets.0) h.targets) ∙ kept (a.targets ++ t ∷ []) e.targets.0 (length a.targets) t (seam a.targets t []),
)

module _ (ts : List Target) (ls : List ℕ) (a b : BodyMap) (h : MarksTable ts ls a b) where
  pub table_slots : length b.slots ≡ length a.slots + 1
  table_slots = omega (arith, ap length h.slots, length-append a.slots (length a.tables ∷ []))

  pub table_extends : Extends a b
  table_extends = record {
    slots = (length a.tables ∷ [], h.slots);
    targets = ([], h.targets ∙ sym (nil a.targets));
    tables = (map (target_at ts) ls, h.tables);
  }
    where
      nil : {A : Type 0} (xs : List A) → xs ++ [] ≡ xs
      nil [] = refl
      nil (x ∷ xs) = ap (λ l. x ∷ l) (nil xs)

  -- the targets of a br_table stay in the map
  pub has_table : (c : BodyMap) → Extends b c → HasTable c (length a.slots) ts ls
  has_table c e = (
    length a.tables,
    ap (λ l. slice_get l (length a.slots)) (e.slots.1 ∙ ap (λ l. l ++ e.slots.0) h.slots) ∙ kept (a.slots ++ length a.tables ∷ []) e.slots.0 (length a.slots) (length a.tables)
        (seam a.slots (length a.tables) []),
    λ k label t there is.
        let here : slice_get (map (target_at ts) ls) k ≡ Some t =
        slice_get-map (target_at ts) ls k ∙ ap (λ o. option_map (target_at ts) o) there ∙ ap (λ o. Some (unwrap_or o nowhere)) is
        in
        ap (λ l. slice_get l (length a.tables + k)) (e.tables.1 ∙ ap (λ l. l ++ e.tables.0) h.tables)
        ∙ kept (a.tables ++ map (target_at ts) ls) e.tables.0 (length a.tables + k) t (behind a.tables (map (target_at ts) ls) k ∙ here),
  )
