-- The numbers in the slots after a push and after a take.
use Rattle.std.proofs.Common.{◌≡◌, ℕ, zero, suc, ◌+◌, [], ◌∷◌, ◌++◌, take, drop, Some, None, refl, ap, option_map, add-one}
use Rattle.std.specs.List.{filter_map, slice_get}
use Rattle.std.specs.Option.{option_flatten}
use Rattle.resource_table.specs.Handles.{numbers_of}
use Rattle.message_scratch.specs.Messages.{Slots, handles_in, handle_at, slot_numbers}
use Rattle.message_scratch.specs.Changes.{emptied}

module _ {S : Type 0} where
  -- the numbers of the handles in slots are the numbers in the slots
  pub numbers_of-handles_in : (slots : Slots S) → numbers_of (handles_in slots) ≡ filter_map (λ slot. slot) (slot_numbers slots)
  numbers_of-handles_in [] = refl
  numbers_of-handles_in (None ∷ slots) = numbers_of-handles_in slots
  numbers_of-handles_in (Some h ∷ slots) = ap (λ ns. h.number ∷ ns) (numbers_of-handles_in slots)

  -- and so at one place
  pub number_at : (slots : Slots S) (place : ℕ)
      → option_map (λ h. h.number) (handle_at slots place) ≡ option_flatten (slice_get (slot_numbers slots) place)
  number_at [] place = refl
  number_at (None ∷ slots) zero = refl
  number_at (Some h ∷ slots) zero = refl
  number_at (slot ∷ slots) (suc place) = number_at slots place

  pub slot_numbers-append : (xs ys : Slots S) → slot_numbers (xs ++ ys) ≡ slot_numbers xs ++ slot_numbers ys
  slot_numbers-append [] ys = refl
  slot_numbers-append (x ∷ xs) ys = ap (λ ns. option_map (λ h. h.number) x ∷ ns) (slot_numbers-append xs ys)

  -- the numbers with one slot empty
  numbers_around : (slots : Slots S) (place : ℕ)
      → slot_numbers (take place slots ++ None ∷ drop (suc place) slots)
      ≡ take place (slot_numbers slots) ++ None ∷ drop (suc place) (slot_numbers slots)
  numbers_around [] zero = refl
  numbers_around [] (suc place) = refl
  numbers_around (slot ∷ slots) zero = refl
  numbers_around (slot ∷ slots) (suc place) =
      ap (λ ns. option_map (λ h. h.number) slot ∷ ns) (numbers_around slots place)

  pub slot_numbers-emptied : (slots : Slots S) (place : ℕ)
      → slot_numbers (emptied slots place)
      ≡ take place (slot_numbers slots) ++ None ∷ drop (place + 1) (slot_numbers slots)
  slot_numbers-emptied slots place = rw add-one (numbers_around slots place)
