-- What an instruction does to the operands of the innermost list it does to all values, whatever lies below.
use Rattle.std.specs.Prelude.{⊤}
use Rattle.std.proofs.Common.{◌≡◌, ◌≢◌, ◌≤◌, ◌<◌, ℕ, zero, suc, ◌+◌, ◌-◌, Bool, true, false, cond, nat_le, List, [], ◌∷◌, ◌++◌, length, reverse, slice_get, slice_set, slice_range, Option, Some, None, Result, Ok, Err, arith, refl, sym, ◌∙◌, ap, append_assoc}
use Rattle.std.proofs.lemmas.List.{reverse-append, reverse-reverse, length-reverse, set-append_left, set-append_right}
use Rattle.wasm_ops.specs.declared.trap.Trap.{Trap}
use Rattle.wasm_ops.specs.declared.trap.Trap.TheVariants as traps
use Rattle.wasm_ops.specs.Table.{width_of}
use Rattle.wasm_ops.specs.Operations.{unary_value, binary_value}
use Rattle.linear_memory.specs.Contents.{Contents}
use Rattle.tree_machine.specs.Config.{Config, Frame}
use Rattle.tree_machine.specs.Outcomes.{Effect, Gives, Fails, Undefined, Stuck, to_operands}
use Rattle.tree_machine.specs.Numeric.{unary_on, unary, binary_on, binary}
use Rattle.tree_machine.specs.Parametric.{drop_one, select}
use Rattle.tree_machine.specs.Variables.{push_value}
use Rattle.tree_machine.specs.MemoryAccess.{load, load_from, extended}
use Rattle.tree_machine.specs.MemorySize.{size_of}
use Rattle.flat_machine.specs.Straight.{local_value, with_local}

-- the effect on operands, with these values below
abbrev pub over : (low : List ℕ) → Effect (List ℕ) → Effect (List ℕ)
over low (Gives operands) = Gives (operands ++ low)
over low (Fails trap) = Fails trap
over low Undefined = Undefined

-- a rule applies
abbrev pub IsDefined : Effect (List ℕ) → Type 0
IsDefined (Gives operands) = ⊤
IsDefined (Fails trap) = ⊤
IsDefined Undefined = ⊥

pub defined_by : (c : Config) (f : Frame) (below : List Frame) (e : Effect (List ℕ)) → to_operands c f below e ≢ Stuck → IsDefined e
defined_by c f below (Gives operands) h = tt
defined_by c f below (Fails trap) h = tt
defined_by c f below Undefined h = h refl

module _ (low : List ℕ) where
  pub drop_lies : (operands : List ℕ) → IsDefined (drop_one operands) → drop_one (operands ++ low) ≡ over low (drop_one operands)
  drop_lies [] h = absurd h
  drop_lies (a ∷ operands) h = refl

  pub select_lies : (operands : List ℕ) → IsDefined (select operands) → select (operands ++ low) ≡ over low (select operands)
  select_lies [] h = absurd h
  select_lies (n ∷ []) h = absurd h
  select_lies (n ∷ b ∷ []) h = absurd h
  select_lies (n ∷ b ∷ a ∷ operands) h = refl

  unary_on_lies : (o : Option ℕ) (operands : List ℕ) → unary_on o (operands ++ low) ≡ over low (unary_on o operands)
  unary_on_lies None operands = refl
  unary_on_lies (Some value) operands = refl

  pub unary_lies : (code : ℕ) (operands : List ℕ) → IsDefined (unary code operands) → unary code (operands ++ low) ≡ over low (unary code operands)
  unary_lies code [] h = absurd h
  unary_lies code (a ∷ operands) h = unary_on_lies (unary_value code a) operands

  binary_on_lies : (o : Option (Result ℕ Trap)) (operands : List ℕ) → binary_on o (operands ++ low) ≡ over low (binary_on o operands)
  binary_on_lies None operands = refl
  binary_on_lies (Some (Ok value)) operands = refl
  binary_on_lies (Some (Err trap)) operands = refl

  pub binary_lies : (code : ℕ) (operands : List ℕ) → IsDefined (binary code operands) → binary code (operands ++ low) ≡ over low (binary code operands)
  binary_lies code [] h = absurd h
  binary_lies code (b ∷ []) h = absurd h
  binary_lies code (b ∷ a ∷ operands) h = binary_on_lies (binary_value code a b) operands

  pub push_lies : (o : Option ℕ) (operands : List ℕ) → push_value o (operands ++ low) ≡ over low (push_value o operands)
  push_lies None operands = refl
  push_lies (Some value) operands = refl

  loaded_lies : (fits : Bool) (value : ℕ) (operands : List ℕ) →
      cond fits (Gives (value ∷ (operands ++ low))) (Fails traps.Bounds) ≡ over low (cond fits (Gives (value ∷ operands)) (Fails traps.Bounds))
  loaded_lies true value operands = refl
  loaded_lies false value operands = refl

  load_lies : (code offset : ℕ) (bytes operands : List ℕ) → IsDefined (load code offset bytes operands) →
      load code offset bytes (operands ++ low) ≡ over low (load code offset bytes operands)
  load_lies code offset bytes [] h = absurd h
  load_lies code offset bytes (address ∷ operands) h =
      loaded_lies (nat_le (address + offset + width_of code) (length bytes))
      (extended code (slice_range bytes (address + offset) (address + offset + width_of code))) operands

  pub load_from_lies : (code offset : ℕ) (o : Option Contents) (operands : List ℕ) → IsDefined (load_from code offset o operands) →
      load_from code offset o (operands ++ low) ≡ over low (load_from code offset o operands)
  load_from_lies code offset None operands h = absurd h
  load_from_lies code offset (Some memory) operands h = load_lies code offset memory.bytes operands h

  pub size_lies : (o : Option Contents) (operands : List ℕ) → size_of o (operands ++ low) ≡ over low (size_of o operands)
  size_lies None operands = refl
  size_lies (Some memory) operands = refl

-- locals

behind : (before list : List ℕ) (n x : ℕ) → n ≡ length before + x → slice_get (before ++ list) n ≡ slice_get list x
behind [] list n x e = ap (λ (k : ℕ). slice_get list k) (let same : n ≡ x = omega arith in same)
behind (b ∷ before) list zero x e = absurd (omega arith)
behind (b ∷ before) list (suc n) x e = behind before list n x (omega arith)

front : (list more : List ℕ) (x v : ℕ) → slice_get list x ≡ Some v → slice_get (list ++ more) x ≡ Some v
front [] more x v e = absurd (cc)
front (a ∷ list) more zero v e = e
front (a ∷ list) more (suc x) v e = front list more x v e

-- the values, the first place first
turned : (pre locals low : List ℕ) → reverse (pre ++ (reverse locals ++ low)) ≡ reverse low ++ (locals ++ reverse pre)
turned pre locals low =
    reverse-append pre (reverse locals ++ low)
    ∙ ap (λ (l : List ℕ). l ++ reverse pre) (reverse-append (reverse locals) low ∙ ap (λ (l : List ℕ). reverse low ++ l) (reverse-reverse locals))
    ∙ append_assoc (reverse low) locals (reverse pre)

-- the value of a local is that at its place above the base
pub local_lies : (base x v : ℕ) (pre locals low : List ℕ) → base ≡ length low → slice_get locals x ≡ Some v →
    local_value base x (pre ++ (reverse locals ++ low)) ≡ Some v
local_lies base x v pre locals low e there =
    let count : length (reverse low) ≡ length low = length-reverse low in
    ap (λ (l : List ℕ). slice_get l (base + x)) (turned pre locals low)
    ∙ behind (reverse low) (locals ++ reverse pre) (base + x) x (omega arith)
    ∙ front locals (reverse pre) x v there

-- a write there changes the local
pub set_lies : (base x v : ℕ) (pre locals low : List ℕ) → base ≡ length low → x < length locals →
    with_local base x v (pre ++ (reverse locals ++ low)) ≡ pre ++ (reverse (slice_set locals x v) ++ low)
set_lies base x v pre locals low e within =
    let count : length (reverse low) ≡ base = length-reverse low ∙ sym e in
    let above : base ≤ base + x = omega arith in
    let place : base + x - base ≡ x = omega arith in
    let written : slice_set (reverse low ++ (locals ++ reverse pre)) (base + x) v ≡ reverse low ++ (slice_set locals x v ++ reverse pre) =
    set-append_right (reverse low) (locals ++ reverse pre) base (base + x) v count above
    ∙ ap (λ (n : ℕ). reverse low ++ slice_set (locals ++ reverse pre) n v) place
    ∙ ap (λ (l : List ℕ). reverse low ++ l) (set-append_left locals (reverse pre) x v within) in
    let back : reverse (reverse low ++ (slice_set locals x v ++ reverse pre)) ≡ pre ++ (reverse (slice_set locals x v) ++ low) =
    reverse-append (reverse low) (slice_set locals x v ++ reverse pre)
    ∙ ap (λ (l : List ℕ). l ++ reverse (reverse low)) (reverse-append (slice_set locals x v) (reverse pre))
    ∙ ap (λ (l : List ℕ). (reverse (reverse pre) ++ reverse (slice_set locals x v)) ++ l) (reverse-reverse low)
    ∙ ap (λ (l : List ℕ). (l ++ reverse (slice_set locals x v)) ++ low) (reverse-reverse pre)
    ∙ append_assoc pre (reverse (slice_set locals x v)) low in
    ap (λ (l : List ℕ). reverse (slice_set l (base + x) v)) (turned pre locals low) ∙ ap reverse written ∙ back
