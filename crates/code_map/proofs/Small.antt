-- The numbers of a pass after one instruction more.
use Rattle.std.proofs.Common.{◌≡◌, ℕ, ◌+◌, ◌^◌, ◌≤◌, List, [], ◌∷◌, length, Bool, true, false, Option, Some, None, sym, ap, subst, arith, length-append}
use Rattle.std.specs.Prelude.{option_to_list, slice_get}
use Rattle.wasm_form.specs.declared.instr.Instr.{Instr}
use Rattle.wasm_form.specs.declared.expr.Match.{Match}
use Rattle.wasm_form.specs.declared.parts.Parts.{Parts}
use Rattle.code_map.specs.declared.target.Target.{Target}
use Rattle.code_map.specs.declared.opens.Open.{Open}
use Rattle.code_map.specs.declared.pass.Pass.{Pass}
use Rattle.code_map.specs.declared.signatures.Signatures.{Signatures}
use Rattle.code_map.specs.Counts.{AreSignatures}
use Rattle.code_map.specs.Targets.{count_if}
use Rattle.code_map.specs.Left.{labels_in, after_end}
use Rattle.code_map.specs.Marks.{Marks, MarksTable}
use Rattle.code_map.specs.Steps.{Advances, AreLow, HasRoom, Steps}
use Rattle.code_map.proofs.Growing.{marked_slots, marked_extends, table_slots, table_extends}

pub low_more : (a b : ℕ) (opens : List Open) → a ≤ b → AreLow a opens → AreLow b opens
low_more a b [] h l = tt
low_more a b (o ∷ os) h l = (omega (arith, l.0), low_more a b os h l.1)

few : (t : Option Target) → length (option_to_list t) ≤ 1
few None = omega arith
few (Some t) = omega arith

pub count_few : (b : Bool) → count_if b ≤ 1
count_few true = omega arith
count_few false = omega arith

-- an instruction with a target or none
module _ (s : Signatures) (pool : List ℕ) (matches : List Match) (i : Instr) (t : Option Target) (old new : Pass) (room : HasRoom old) (marks : Marks t old.map new.map)
    (advances : (m : Parts) → AreSignatures m s → Advances m pool matches i old new) where
  pub marked : length new.opens ≤ length old.opens + 1 → new.matched ≤ old.matched + 1 → new.height ≤ 2 ^ 32 + length old.map.slots + 1 → AreLow (2 ^ 32 + length old.map.slots + 1) new.opens
      → Steps s pool matches i old new
  marked opens matched height low =
      let slots = marked_slots t old.map new.map marks in
      let same : 2 ^ 32 + length old.map.slots + 1 ≡ 2 ^ 32 + length new.map.slots = omega (arith, slots) in
      record {
        advances = advances;
        extends = marked_extends t old.map new.map marks;
        slots = slots;
        small = record {
          targets = omega (arith, ap length marks.targets, length-append old.map.targets (option_to_list t), few t, slots, room.small.targets);
          opens = omega (arith, slots, room.small.opens, opens);
          matched = omega (arith, slots, room.small.matched, matched);
          height = omega (arith, slots, height);
          low = subst (λ k. AreLow k new.opens) same low;
        };
      }

  -- where the lists that have begun stay
  pub stays : new.opens ≡ old.opens → new.matched ≡ old.matched → new.height ≤ old.height + 1 → Steps s pool matches i old new
  stays opens matched height =
      marked (omega (arith, ap length opens)) (omega (arith, matched)) (omega (arith, height, room.small.height))
      (subst (λ k. AreLow (2 ^ 32 + length old.map.slots + 1) k) (sym opens) (low_more (2 ^ 32 + length old.map.slots) (2 ^ 32 + length old.map.slots + 1) old.opens (omega arith) room.small.low))

  -- where one begins
  pub begins_small : (o : Open) → new.opens ≡ o ∷ old.opens → new.matched ≡ old.matched + 1 → new.height ≡ o.label.height → o.label.height ≤ old.height → Steps s pool matches i old new
  begins_small o opens matched height low =
      marked (omega (arith, ap length opens)) (omega (arith, matched)) (omega (arith, height, low, room.small.height))
      (subst (λ k. AreLow (2 ^ 32 + length old.map.slots + 1) k) (sym opens)
      (omega (arith, low, room.small.height), low_more (2 ^ 32 + length old.map.slots) (2 ^ 32 + length old.map.slots + 1) old.opens (omega arith) room.small.low))

  -- where one ends
  pub ends_small : (o : Open) → old.opens ≡ o ∷ new.opens → new.matched ≡ old.matched → new.height ≡ after_end o → Steps s pool matches i old new
  ends_small o opens matched height =
      let low : AreLow (2 ^ 32 + length old.map.slots) (o ∷ new.opens) = subst (λ k. AreLow (2 ^ 32 + length old.map.slots) k) opens room.small.low in
      marked (omega (arith, ap length opens)) (omega (arith, matched)) (omega (arith, height, low.0, count_few o.gives))
      (low_more (2 ^ 32 + length old.map.slots) (2 ^ 32 + length old.map.slots + 1) new.opens (omega arith) low.1)

-- the label of an innermost list is low
pub label_low : (most : ℕ) (opens : List Open) (t : Target) → AreLow most opens → slice_get (labels_in opens) 0 ≡ Some t → t.height ≤ most
label_low most [] t l h = absurd (cc h)
label_low most (o ∷ os) t l h = let e : o.label ≡ t = cc in subst (λ (k : Target). k.height ≤ most) e l.0

-- a br_table
pub tabled : (s : Signatures) (pool : List ℕ) (matches : List Match) (i : Instr) (ts : List Target) (ls : List ℕ) (old new : Pass) → HasRoom old → MarksTable ts ls old.map new.map
    → ((m : Parts) → AreSignatures m s → Advances m pool matches i old new) → new.opens ≡ old.opens → new.matched ≡ old.matched → new.height ≡ old.height → Steps s pool matches i old new
tabled s pool matches i ts ls old new room marks advances opens matched height =
    let slots = table_slots ts ls old.map new.map marks in
    record {
      advances = advances;
      extends = table_extends ts ls old.map new.map marks;
      slots = slots;
      small = record {
        targets = omega (arith, ap length marks.targets, slots, room.small.targets);
        opens = omega (arith, slots, room.small.opens, ap length opens);
        matched = omega (arith, slots, room.small.matched, matched);
        height = omega (arith, slots, height, room.small.height);
        low = subst (λ k. AreLow (2 ^ 32 + length new.map.slots) k) (sym opens)
            (low_more (2 ^ 32 + length old.map.slots) (2 ^ 32 + length new.map.slots) old.opens (omega (arith, slots)) room.small.low);
      };
    }
