-- What is shown of a process whose streams have moved.
use Rattle.std.proofs.Common.{◌≡◌, ℕ, ◌+◌, ◌≤◌, Bool, true, false, cond, not, List, [], ◌∷◌, ◌++◌, map, length, take, drop, Option, Some, None, option_map, refl, ap, ap₂, sym, subst, ◌∙◌, arith, eqb, nat_le}
use Rattle.std.specs.Option.{option_map_or}
use Rattle.std.specs.List.{Contains, filter}
use Rattle.host_port.specs.declared.start.Start.{Start}
use Rattle.host_port.specs.declared.request.Request.{Request}
use Rattle.message_scratch.specs.Messages as Kept
use Rattle.message_scratch.specs.Changes.{fitting, with_bytes, after_read, after_seek, after_push, after_take}
use Rattle.message_scratch.proofs.Numbers.{numbers_of-handles_in, number_at, slot_numbers-append, slot_numbers-emptied}
use Rattle.resource_table.specs.Handles.{Handle, numbers_of, with_handle, without_handle}
use Rattle.resource_table.proofs.Numbers.{numbers_of-with_handle, numbers_of-without_handle}
use Rattle.world_rules.specs.declared.halt.HostFault.{HostFault}
use Rattle.world_rules.specs.declared.halt.HostFault.TheVariants as FaultIs
use Rattle.world_rules.specs.Calls.{HostCall, arg}
use Rattle.world_rules.specs.Calls as CallIs
use Rattle.world_rules.specs.Judge.{own_fault, needs_message, needs_size, unless}
use Rattle.world_rules.specs.Local.{local_part}
use Rattle.world_rules.specs.Local as Local
use Rattle.world_rules.specs.Part.{Part, Message, Scratch, no_part, slots_of, handles_in, handle_at, emptied, with_number, without_number}
use Rattle.host_calls.specs.Listening.{Listening, listener_numbers, without_listener}
use Rattle.host_calls.specs.Shown.{shown_scratch, part_with}
use Rattle.host_calls.proofs.Faults.{none_both, unless_true}
use Rattle.host_calls.proofs.Listened.{numbers-without}

-- a part of these
abbrev part_of_these : Option Scratch → List ℕ → List ℕ → ℕ → ℕ → Part
part_of_these scratch handles listeners next traffic = record no_part {
  scratch = scratch;
  handles = handles;
  listeners = listeners;
  next_listener = next;
  traffic = traffic;
}

-- the scratch area with the slots of its message changed
abbrev slots_changed : (List (Option ℕ) → List (Option ℕ)) → Option Scratch → Option Scratch
slots_changed change scratch = option_map (λ (s : Scratch). record s { message = record s.message { slots = change s.message.slots } }) scratch

module _ {S : Type 0} where
  -- THE SCRATCH AREA

  pub shown_at : (scratch : Option (Kept.Scratch S)) (place : ℕ) →
      handle_at (slots_of (shown_scratch scratch)) place
      ≡ option_map (λ (h : Handle S). h.number) (Kept.handle_at (Kept.slots_of scratch) place)
  shown_at None place = refl
  shown_at (Some s) place = sym (number_at s.message.slots place)

  pub shown_handles : (scratch : Option (Kept.Scratch S)) →
      numbers_of (Kept.handles_in (Kept.slots_of scratch)) ≡ handles_in (slots_of (shown_scratch scratch))
  shown_handles None = refl
  shown_handles (Some s) = numbers_of-handles_in s.message.slots

  shown_push : (scratch : Option (Kept.Scratch S)) (moved : Handle S) (handle : ℕ) → moved.number ≡ handle →
      shown_scratch (option_map (after_push moved) scratch)
      ≡ slots_changed (λ (slots : List (Option ℕ)). slots ++ Some handle ∷ []) (shown_scratch scratch)
  shown_push None moved handle same = refl
  shown_push (Some s) moved handle same =
      let build : List (Option ℕ) → Option Scratch = λ slots.
      Some (record { message = record { tag = s.message.tag; bytes = s.message.bytes; slots = slots }; read_place = s.read_place }) in
      ap build (slot_numbers-append s.message.slots (Some moved ∷ [])
      ∙ ap (λ (n : ℕ). Kept.slot_numbers s.message.slots ++ Some n ∷ []) same)

  shown_take : (scratch : Option (Kept.Scratch S)) (place : ℕ) →
      shown_scratch (option_map (after_take place) scratch)
      ≡ slots_changed (λ (slots : List (Option ℕ)). emptied slots place) (shown_scratch scratch)
  shown_take None place = refl
  shown_take (Some s) place =
      let build : List (Option ℕ) → Option Scratch = λ slots.
      Some (record { message = record { tag = s.message.tag; bytes = s.message.bytes; slots = slots }; read_place = s.read_place }) in
      ap build (slot_numbers-emptied s.message.slots place)

module _ {S L : Type 0} where
  -- THE PART AFTER A CALL

  pub part_written : (scratch : Option (Kept.Scratch S)) (table : List (Handle S)) (listening : Listening L) (traffic : ℕ) (start : Start) (request : Request) →
      part_with (option_map (λ (s : Kept.Scratch S). with_bytes (fitting request.first s) s) scratch) table listening traffic
      ≡ local_part CallIs.WriteData start (part_with scratch table listening traffic) request
  part_written None table listening traffic start request = refl
  part_written (Some s) table listening traffic start request = refl

  pub part_read : (scratch : Option (Kept.Scratch S)) (table : List (Handle S)) (listening : Listening L) (traffic : ℕ) (start : Start) (request : Request) →
      part_with (option_map (after_read (arg request 1)) scratch) table listening traffic
      ≡ local_part CallIs.ReadData start (part_with scratch table listening traffic) request
  part_read None table listening traffic start request = refl
  part_read (Some s) table listening traffic start request = refl

  pub part_sought : (scratch : Option (Kept.Scratch S)) (table : List (Handle S)) (listening : Listening L) (spent traffic : ℕ) (start : Start) (request : Request) →
      own_fault CallIs.SeekData (part_with scratch table listening spent) request ≡ None →
      part_with (option_map (after_seek (arg request 0)) scratch) table listening traffic
      ≡ local_part CallIs.SeekData start (part_with scratch table listening traffic) request
  part_sought None table listening spent traffic start request fit = refl
  part_sought (Some s) table listening spent traffic start request fit =
      let inside : nat_le (arg request 0) (length s.message.bytes) ≡ true =
      unless_true (nat_le (arg request 0) (length s.message.bytes)) FaultIs.BadSeek fit in
      ap (λ (b : Bool). part_with (Some (cond b (record s { read_place = arg request 0 }) s)) table listening traffic) inside

  pub part_pushed : (scratch : Option (Kept.Scratch S)) (table : List (Handle S)) (listening : Listening L) (traffic : ℕ) (start : Start) (request : Request)
      (moved : Handle S) → moved.number ≡ arg request 0 →
      part_with (option_map (after_push moved) scratch) (without_handle (arg request 0) table) listening traffic
      ≡ local_part CallIs.PushStream start (part_with scratch table listening traffic) request
  part_pushed scratch table listening traffic start request moved same =
      ap₂ (λ (s : Option Scratch) (ns : List ℕ). part_of_these s ns (listener_numbers listening) listening.next traffic)
      (shown_push scratch moved (arg request 0) same) (numbers_of-without_handle (arg request 0) table)

  pub part_taken : (scratch : Option (Kept.Scratch S)) (table : List (Handle S)) (listening : Listening L) (traffic : ℕ) (start : Start) (request : Request)
      (moved : Handle S) → Kept.handle_at (Kept.slots_of scratch) (arg request 0) ≡ Some moved →
      part_with (option_map (after_take (arg request 0)) scratch) (with_handle moved table) listening traffic
      ≡ local_part CallIs.TakeStream start (part_with scratch table listening traffic) request
  part_taken scratch table listening traffic start request moved found =
      let at : handle_at (slots_of (shown_scratch scratch)) (arg request 0) ≡ Some moved.number =
      shown_at scratch (arg request 0) ∙ ap (option_map (λ (h : Handle S). h.number)) found in
      ap₂ (λ (s : Option Scratch) (ns : List ℕ). part_of_these s ns (listener_numbers listening) listening.next traffic)
      (shown_take scratch (arg request 0)) (numbers_of-with_handle moved table)
      ∙ sym (ap (λ (o : Option ℕ). option_map_or (Local.after_take (arg request 0) (part_with scratch table listening traffic)) o
      (part_with scratch table listening traffic)) at)

  pub part_dropped : (scratch : Option (Kept.Scratch S)) (table : List (Handle S)) (listening : Listening L) (traffic : ℕ) (start : Start) (request : Request) →
      part_with scratch (without_handle (arg request 0) table) listening traffic
      ≡ local_part CallIs.DropStream start (part_with scratch table listening traffic) request
  part_dropped scratch table listening traffic start request =
      ap (λ (ns : List ℕ). part_of_these (shown_scratch scratch) ns (listener_numbers listening) listening.next traffic)
      (numbers_of-without_handle (arg request 0) table)

  pub part_unbound : (scratch : Option (Kept.Scratch S)) (table : List (Handle S)) (listening : Listening L) (traffic : ℕ) (start : Start) (request : Request) →
      part_with scratch table (without_listener (arg request 0) listening) traffic
      ≡ local_part CallIs.DropListener start (part_with scratch table listening traffic) request
  part_unbound scratch table listening traffic start request =
      ap (λ (ns : List ℕ). part_of_these (shown_scratch scratch) (numbers_of table) ns listening.next traffic)
      (numbers-without (arg request 0) listening.bound)
