-- Limits as tables' and memories' types, and back.
use Rattle.std.proofs.Common.{◌≡◌, ℕ, suc, List, [], ◌∷◌, length, map, Some, refl, ap, subst, ◌∙◌}
use Rattle.wasm_form.specs.Values.{SpellsU32, SpellsItems, SpellsVector}
use Rattle.wasm_form.specs.Types.{SpellsLimits, SpellsTableType}
use Rattle.wasm_form.specs.Sections.{SpellsStart}
use Rattle.module_reader.specs.Limits.{SpellsTable, SpellsMemory}
use Rattle.body_reader.proofs.Pieces.{Seen}

pub table_seen : Seen SpellsTableType SpellsTable (λ b. record { bounds = b })
table_seen = record { put = λ s b h. h; back = λ u w h. (w.bounds, h, refl) }

pub memory_seen : Seen SpellsLimits SpellsMemory (λ b. record { bounds = b })
memory_seen = record { put = λ s b h. h; back = λ u w h. (w.bounds, h, refl) }

pub start_seen : Seen SpellsU32 SpellsStart (λ n. Some n)
start_seen = record { put = λ s n h. (n, h, refl); back = λ u w h. (h.0, h.1, h.2) }

-- lists of boxed values are lists of the values
module _ {A B : Type 0} (S : List ℕ → A → Type 0) (T : List ℕ → B → Type 0) (f : A → B) (g : B → A)
    (put : (s : List ℕ) (a : A) → S s a → T s (f a)) (back : (s : List ℕ) (b : B) → T s b → S s (g b)) (same : (b : B) → b ≡ f (g b)) where
  items_put : (xs : List A) (s : List ℕ) → SpellsItems S s xs → SpellsItems T s (map f xs)
  items_put [] s h = h
  items_put (x ∷ xs) s h = (h.0, h.1, put h.0 x h.2, items_put xs h.1 h.3, h.4)

  items_back : (ys : List B) (s : List ℕ) → SpellsItems T s ys → SpellsItems S s (map g ys)
  items_back [] s h = h
  items_back (y ∷ ys) s h = (h.0, h.1, back h.0 y h.2, items_back ys h.1 h.3, h.4)

  mapped_length : {X Y : Type 0} (k : X → Y) (xs : List X) → length xs ≡ length (map k xs)
  mapped_length k [] = refl
  mapped_length k (x ∷ xs) = ap suc (mapped_length k xs)

  mapped_back : (ys : List B) → ys ≡ map f (map g ys)
  mapped_back [] = refl
  mapped_back (y ∷ ys) = ap (λ (z : B). z ∷ ys) (same y) ∙ ap (λ (z : List B). f (g y) ∷ z) (mapped_back ys)

  boxed : Seen (SpellsVector S) (SpellsVector T) (map f)
  boxed =
      record {
        put = λ s xs h. (h.0, h.1, subst (λ (n : ℕ). SpellsU32 h.0 n) (mapped_length f xs) h.2, items_put xs h.1 h.3, h.4);
        back = λ u ys h. (map g ys, (h.0, h.1, subst (λ (n : ℕ). SpellsU32 h.0 n) (mapped_length g ys) h.2, items_back ys h.1 h.3, h.4), mapped_back ys);
      }

pub tables_seen : Seen (SpellsVector SpellsTable) (SpellsVector SpellsTableType) (map (λ t. t.bounds))
tables_seen = boxed SpellsTable SpellsTableType (λ t. t.bounds) (λ b. record { bounds = b }) (λ s t h. h) (λ s b h. h) (λ b. refl)

pub memories_seen : Seen (SpellsVector SpellsMemory) (SpellsVector SpellsLimits) (map (λ t. t.bounds))
memories_seen = boxed SpellsMemory SpellsLimits (λ t. t.bounds) (λ b. record { bounds = b }) (λ s t h. h) (λ s b h. h) (λ b. refl)
