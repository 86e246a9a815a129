use Rattle.std.proofs.Common.{◌≡◌, ℕ, ◌+◌, List, [], ◌∷◌, ◌++◌, length, length-append, Contains, append-nil, option_map, Option, Some, None, refl, arith, sym, ◌∙◌, ap, subst}
use Rattle.std.proofs.lemmas.List.Elements.{Contains-append_left, Contains-append_right}
use Rattle.message_scratch.specs.Messages as Kept
use Rattle.resource_table.specs.Handles.{Handle}
use Rattle.world_rules.specs.Part.{Scratch}
use Rattle.world_rules.specs.Settled.{settled, SentOff}
use Rattle.node_state.specs.Seats.{Seat}
use Rattle.host_calls.specs.declared.proc.Proc.{Proc}
use Rattle.host_calls.specs.Shown.{seat_of, shown_part, shown_message, shown_scratch}

-- A process whose scratch message was sent.

module _ {S : Type 0} (table : List (Handle S)) (message : Kept.Message S) where
  pub sent_few : (scratch left : Option (Kept.Scratch S)) → left ≡ None → Some message ≡ option_map (λ (s : Kept.Scratch S). s.message) scratch
      → length (table ++ Kept.handles_in (Kept.slots_of left)) + length (Kept.handles_in message.slots) ≡ length (table ++ Kept.handles_in (Kept.slots_of scratch))
  sent_few None left none is = let h : ⊥ = cc in absurd h
  sent_few (Some scratch) left none is =
      let same : scratch.message ≡ message = cc in
      let a = ap (λ (l : Option (Kept.Scratch S)). length (table ++ Kept.handles_in (Kept.slots_of l))) none in
      let b = ap length (append-nil table) in
      let d = length-append table (Kept.handles_in scratch.message.slots) in
      let e = ap (λ (m : Kept.Message S). length (Kept.handles_in m.slots)) same in
      omega (arith, a, b, d, e)

  pub sent_from : (scratch : Option (Kept.Scratch S)) → Some message ≡ option_map (λ (s : Kept.Scratch S). s.message) scratch → (handle : Handle S)
      → Contains (Kept.handles_in message.slots) handle → Contains (table ++ Kept.handles_in (Kept.slots_of scratch)) handle
  sent_from None is handle has = let h : ⊥ = cc in absurd h
  sent_from (Some scratch) is handle has =
      let same : message ≡ scratch.message = cc in
      Contains-append_right table (Kept.handles_in scratch.message.slots) handle (subst (λ (m : Kept.Message S). Contains (Kept.handles_in m.slots) handle) same has)

  pub sent_kept : (scratch left : Option (Kept.Scratch S)) → left ≡ None → (handle : Handle S) → Contains (table ++ Kept.handles_in (Kept.slots_of left)) handle
      → Contains (table ++ Kept.handles_in (Kept.slots_of scratch)) handle
  sent_kept scratch left none handle has =
      Contains-append_left table (Kept.handles_in (Kept.slots_of scratch)) handle
      (subst (λ (hs : List (Handle S)). Contains hs handle) (append-nil table)
      (subst (λ (l : Option (Kept.Scratch S)). Contains (table ++ Kept.handles_in (Kept.slots_of l)) handle) none has))

-- its part is settled
pub sent_seat : {E O P S L : Type 0} (proc : Proc E O P S L) (engine : E) (left : Option (Kept.Scratch S)) → left ≡ None
    → seat_of (record proc { engine = engine; scratch = left }) ≡ record (seat_of proc) { engine = engine; part = settled (shown_part proc) SentOff }
sent_seat proc engine left none = rw none refl

-- it had a message
pub sent_message : {S : Type 0} (scratch : Option (Kept.Scratch S)) (message : Kept.Message S) → Some message ≡ option_map (λ (s : Kept.Scratch S). s.message) scratch
    → (shown : Scratch) × (shown_scratch scratch ≡ Some shown) × (shown_message message ≡ shown.message)
sent_message None message is = let h : ⊥ = cc in absurd h
sent_message (Some scratch) message is =
    let same : message ≡ scratch.message = cc in
    (record { message = shown_message scratch.message; read_place = scratch.read_place }, refl, ap shown_message same)

pub has_message : {S : Type 0} (scratch : Option (Kept.Scratch S)) → None ≡ option_map (λ (s : Kept.Scratch S). s.message) scratch → shown_scratch scratch ≡ None
has_message None is = refl
has_message (Some scratch) is = let h : ⊥ = cc in absurd h
