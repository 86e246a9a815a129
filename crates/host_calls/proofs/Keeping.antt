-- The streams of a process through the steps of its turn.
use Rattle.std.proofs.Common.{◌≡◌, ◌⊎◌, ℕ, ◌+◌, ◌≤◌, List, [], ◌∷◌, ◌++◌, length, Contains, Option, Some, None, IfSome, refl, sym, ◌∙◌, ap, subst, arith, append_assoc, append-nil, inl, inr}
use Rattle.std.proofs.Math.Logic.{∥∥₁_map}
use Rattle.std.proofs.lemmas.List.{length-append}
use Rattle.std.proofs.lemmas.List.Elements.{Contains-append_cases}
use Rattle.message_scratch.specs.Messages.{Scratch, slots_of, handles_in}
use Rattle.message_scratch.specs.Changes.{HasBounds}
use Rattle.host_port.specs.declared.request.Request.{Request}
use Rattle.host_port.specs.declared.reply.Reply.{Reply}
use Rattle.resource_table.specs.Handles.{Handle, numbers_of}
use Rattle.resource_table.specs.Steps.{Told, IsShut}
use Rattle.world_rules.specs.Calls.{call_of}
use Rattle.world_rules.specs.Handles.{local_closings}
use Rattle.world_rules.specs.Local.{local}
use Rattle.world_rules.specs.Sound.{times}
use Rattle.host_calls.proofs.Times.{times_append}
use Rattle.node_state.specs.Seats.{IsOnce, part_handles}
use Rattle.host_calls.specs.declared.proc.Proc.{Proc}
use Rattle.host_calls.specs.Shown.{shown_part, hands_of}
use Rattle.host_calls.specs.Steps.{AreInOrder, HandsOver}
use Rattle.host_calls.specs.Turning.{KeepsStreams}
use Rattle.host_calls.proofs.Apart.{local_lessens}

none_there : {A : Type 0} (x : A) → Contains [] x → ⊥
none_there x there = let less = there.1 in omega (arith, less)

pub hands_same : {S : Type 0} (tells : Told S) (hands shed : List (Handle S)) → HandsOver tells hands shed hands shed
hands_same tells hands shed = record {
  in_hand = λ handle there. there;
  more = [];
  behind = sym (append-nil shed);
  shut = λ handle there. absurd (none_there handle there);
}

module _ {S : Type 0} (tells : Told S) (hands shed hands_mid shed_mid hands_after shed_after : List (Handle S))
    (first : HandsOver tells hands shed hands_mid shed_mid) (then : HandsOver tells hands_mid shed_mid hands_after shed_after) where
  abbrev WasShut : List (Handle S) → Handle S → Type 0
  WasShut from handle = ∥ ((before : Handle S) × Contains from before × IsShut tells before handle) ∥₁

  earlier : (handle : Handle S) → WasShut hands_mid handle → WasShut hands handle
  earlier handle was = ∥∥₁_map was (λ w. (w.0, first.in_hand w.0 w.1, w.2))

  either : (handle : Handle S) → Contains first.more handle ⊎ Contains then.more handle → WasShut hands handle
  either handle (inl there) = first.shut handle there
  either handle (inr there) = earlier handle (then.shut handle there)

  pub hands_both : HandsOver tells hands shed hands_after shed_after
  hands_both = record {
    in_hand = λ handle there. first.in_hand handle (then.in_hand handle there);
    more = first.more ++ then.more;
    behind = then.behind ∙ ap (λ (s : List (Handle S)). s ++ then.more) first.behind ∙ append_assoc shed first.more then.more;
    shut = λ handle there. either handle (Contains-append_cases first.more then.more handle there);
  }

module _ {E O P S L : Type 0} (tells : Told S) where
  -- nothing has changed that bears on the streams
  pub keeps_fields : (old new : Proc E O P S L) → AreInOrder old → new.shed ≡ old.shed → hands_of new ≡ hands_of old → part_handles (shown_part new) ≡ part_handles (shown_part old) →
      KeepsStreams tells old new
  keeps_fields old new order shed hands numbers = record {
    order = record {
      once = record { once = λ handle. subst (λ (hs : List ℕ). times handle hs ≤ 1) (sym numbers) (order.once.once handle) };
      room = rw (shed, hands) order.room;
    };
    handed = rw (shed, hands) (hands_same tells (hands_of old) old.shed);
    apart = λ handle.
        around (times handle (numbers_of new.shed)) (times handle (numbers_of old.shed)) (times handle (part_handles (shown_part new))) (times handle (part_handles (shown_part old)))
        (ap (λ (s : List (Handle S)). times handle (numbers_of s)) shed) (ap (times handle) numbers);
  }
    where
      around : (a b c d : ℕ) → a ≡ b → c ≡ d → a + c ≤ b + d
      around a b c d x y = omega (arith, x, y)

  pub keeps_none : (p : Proc E O P S L) → AreInOrder p → KeepsStreams tells p p
  keeps_none p order = keeps_fields p p order refl refl refl

  pub keeps_both : (old mid new : Proc E O P S L) → KeepsStreams tells old mid → KeepsStreams tells mid new → KeepsStreams tells old new
  keeps_both old mid new first then = record {
    order = then.order;
    handed = hands_both tells (hands_of old) old.shed (hands_of mid) mid.shed (hands_of new) new.shed first.handed then.handed;
    apart = λ handle. let a = first.apart handle in let b = then.apart handle in omega (arith, a, b);
  }

  -- a local call
  pub keeps_call : (old new : Proc E O P S L) (request : Request) (reply : Reply) → AreInOrder new → HandsOver tells (hands_of old) old.shed (hands_of new) new.shed →
      local old.start (shown_part old) request ≡ Some (reply, shown_part new) →
      numbers_of new.shed ≡ numbers_of old.shed ++ local_closings (call_of request) (shown_part old) request → KeepsStreams tells old new
  keeps_call old new request reply order handed answered closed = record {
    order = order;
    handed = handed;
    apart = λ handle.
        around (times handle (numbers_of new.shed)) (times handle (numbers_of old.shed)) (times handle (local_closings (call_of request) (shown_part old) request))
        (times handle (part_handles (shown_part new))) (times handle (part_handles (shown_part old)))
        (ap (times handle) closed ∙ times_append handle (numbers_of old.shed) (local_closings (call_of request) (shown_part old) request))
        (local_lessens old.start (shown_part old) request reply (shown_part new) answered handle);
  }
    where
      around : (a b c d e : ℕ) → a ≡ b + c → c + d ≤ e → a + d ≤ b + e
      around a b c d e x y = omega (arith, x, y)

  -- the cost of a request is added
  pub keeps_charge : (old new : Proc E O P S L) → AreInOrder old → new.shed ≡ old.shed → new.table ≡ old.table → new.scratch ≡ old.scratch → new.listeners ≡ old.listeners →
      KeepsStreams tells old new
  keeps_charge old new order shed table scratch listeners =
      keeps_fields old new order shed (rw (table, scratch) refl) (rw (table, scratch) refl)

-- FEW

handles_few : {S : Type 0} (slots : List (Option (Handle S))) → length (handles_in slots) ≤ length slots
handles_few [] = omega arith
handles_few (None ∷ slots) = let rest = handles_few slots in omega (arith, rest)
handles_few (Some h ∷ slots) = let rest = handles_few slots in omega (arith, rest)

slots_few : {S : Type 0} (scratch : Option (Scratch S)) → IfSome scratch HasBounds → length (slots_of scratch) ≤ 64
slots_few None bounds = omega arith
slots_few (Some s) bounds = bounds.slots

-- a table holds 256 streams, and a message 64
pub hands_few : {S : Type 0} (table : List (Handle S)) (scratch : Option (Scratch S)) → length table ≤ 256 → IfSome scratch HasBounds → length (table ++ handles_in (slots_of scratch)) ≤ 320
hands_few table scratch few bounds =
    around (length table) (length (slots_of scratch)) (length (handles_in (slots_of scratch))) (length (table ++ handles_in (slots_of scratch))) few (slots_few scratch bounds)
    (handles_few (slots_of scratch)) (length-append table (handles_in (slots_of scratch)))
  where
    around : (t s h n : ℕ) → t ≤ 256 → s ≤ 64 → h ≤ s → n ≡ t + h → n ≤ 320
    around t s h n x y z u = omega (arith, x, y, z, u)

-- at the begin of a turn the streams are in order
pub begins_in_order : {E O P S L : Type 0} (p : Proc E O P S L) → IsOnce (shown_part p) → p.shed ≡ [] → length (hands_of p) ≤ 320 → AreInOrder p
begins_in_order p once blank few = record { once = once; room = let none = ap length blank in omega (arith, none, few) }
