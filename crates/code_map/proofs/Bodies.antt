-- From the first instruction of a body to its last.
use Rattle.std.proofs.Common.{◌≡◌, ℕ, ◌+◌, ◌^◌, ◌<◌, List, [], ◌∷◌, length, drop, Bool, None, sym, ap, subst, ◌∙◌, arith, append-nil, length-append}
use Rattle.wasm_form.specs.declared.instr.Instr.{Instr}
use Rattle.wasm_form.specs.declared.expr.Expr.{Expr}
use Rattle.wasm_form.specs.declared.expr.Match.{Match}
use Rattle.wasm_form.specs.declared.parts.Parts.{Parts}
use Rattle.wasm_form.specs.Trees.{Code, IsFlat, flat, size, labels_of, matches_of, end_instr}
use Rattle.wasm_form.specs.Matching.{HasPlain}
use Rattle.body_validator.specs.Levels.{Level, level, Stands}
use Rattle.body_validator.proofs.Seen.{nothing_left}
use Rattle.code_map.specs.declared.body_map.BodyMap.{BodyMap}
use Rattle.code_map.specs.declared.pass.Pass.{Pass}
use Rattle.code_map.specs.declared.signatures.Signatures.{Signatures}
use Rattle.code_map.specs.Targets.{target}
use Rattle.code_map.specs.Mapped.{Mapped}
use Rattle.code_map.specs.Maps.{body_label}
use Rattle.code_map.specs.Counts.{AreSignatures}
use Rattle.code_map.specs.Left.{LeftMapped, left_matches, Extends}
use Rattle.code_map.specs.Steps.{IsLeft, IsBegun, IsSmall, HasRoom, Steps, opening, AreLow}
use Rattle.code_map.proofs.Growing.{goes_on, same_map}
use Rattle.code_map.proofs.Sizes.{flat_size}

-- what the pass has still before it are these lists, and with them the whole body is mapped
abbrev pub Whole : Parts → (locals : ℕ) → (gives : Bool) → Expr → Code → (left : List Instr) → Pass → Type 0
Whole m locals gives e tree left pass =
    (levels : List Level) × IsLeft e.labels e.matches left levels pass
    × ((map : BodyMap) → Extends pass.map map → LeftMapped m map levels pass.opens (length pass.map.slots) pass.height
    → Mapped m map (body_label (size tree) locals gives ∷ []) 0 locals tree)

-- before the first instruction
pub begins : (m : Parts) (locals : ℕ) (gives : Bool) (e : Expr) (tree : Code) (left : List Instr) (pass : Pass) → HasPlain tree → IsFlat e tree → left ≡ e.code
    → length e.code + length e.labels < 2 ^ 32 → IsBegun locals gives (length e.code) pass → Whole m locals gives e tree left pass
begins m locals gives e tree left pass plain f l short b =
    let none : length pass.map.slots ≡ 0 = ap length b.slots in
    let levels : List Level = level tree None ∷ [] in
    let count : length e.code ≡ size tree + 1 = omega (arith, ap length f.code, length-append (flat 0 tree) (end_instr ∷ []), flat_size 0 tree) in
    let opens : pass.opens ≡ opening (body_label (size tree) locals gives) gives ∷ [] = b.opens ∙ ap (λ k. opening (target k locals 0 gives) gives ∷ []) count in (
      levels,
      record {
        stands = record { before = []; labels = f.labels ∙ sym (append-nil (labels_of tree)); code = l ∙ f.code; plain = (plain, tt, tt) };
        matched = ap (λ k. drop k e.matches) b.matched ∙ f.matches ∙ sym (append-nil (matches_of 0 tree)) ∙ ap (λ k. left_matches levels k) (sym none);
        room = omega (arith, ap length b.tables, none, ap length (f.labels ∙ sym (append-nil (labels_of tree))));
        short = omega (arith, none, ap length l, short);
      },
      λ map x to.
          (subst (λ k. LeftMapped m map levels (opening (body_label (size tree) locals gives) gives ∷ []) 0 k) b.height
          (subst (λ k. LeftMapped m map levels (opening (body_label (size tree) locals gives) gives ∷ []) k pass.height) none
          (subst (λ k. LeftMapped m map levels k (length pass.map.slots) pass.height) opens to))).0,
    )

-- one instruction more
pub one_step : (m : Parts) (s : Signatures) (locals : ℕ) (gives : Bool) (e : Expr) (tree : Code) (left rest : List Instr) (i : Instr) (old new : Pass) (pool : List ℕ) (matches : List Match)
    → AreSignatures m s → pool ≡ e.labels → matches ≡ e.matches → left ≡ i ∷ rest → Steps s pool matches i old new
    → Whole m locals gives e tree left old → Whole m locals gives e tree rest new
one_step m s locals gives e tree left rest i old new pool matches are p q l step h =
    let here : IsLeft pool matches (i ∷ rest) h.0 old =
    subst (λ k. IsLeft pool matches k h.0 old) l (subst (λ k. IsLeft pool k left h.0 old) (sym q) (subst (λ k. IsLeft k e.matches left h.0 old) (sym p) h.1))
    in
    let n = step.advances m are rest h.0 here in (
      n.0,
      subst (λ k. IsLeft e.labels k rest n.0 new) q (subst (λ k. IsLeft k matches rest n.0 new) p n.1),
      λ map x to. h.2 map (goes_on old.map new.map map step.extends x) (n.2 map x to),
    )

-- no instruction is left
pub finished : (m : Parts) (locals : ℕ) (gives : Bool) (e : Expr) (tree : Code) (left : List Instr) (pass : Pass) → left ≡ [] → Whole m locals gives e tree left pass
    → Mapped m pass.map (body_label (size tree) locals gives ∷ []) 0 locals tree
finished m locals gives e tree left pass l h =
    let none : h.0 ≡ [] = nothing_left e.labels h.0 (subst (λ k. Stands e.labels k h.0) l h.1.stands) in
    h.2 pass.map (same_map pass.map) (subst (λ k. LeftMapped m pass.map k pass.opens (length pass.map.slots) pass.height) (sym none) tt)

-- there is room for the next instruction
pub has_room : (m : Parts) (locals : ℕ) (gives : Bool) (e : Expr) (tree : Code) (left rest : List Instr) (i : Instr) (pass : Pass) → length e.code + length e.labels < 2 ^ 32
    → length pass.map.slots + length left ≡ length e.code → left ≡ i ∷ rest → IsSmall pass → Whole m locals gives e tree left pass → HasRoom pass
has_room m locals gives e tree left rest i pass short whole l small h =
    let more : length left ≡ length (i ∷ rest) = ap length l in
    record { small = small; slots = omega (arith, short, whole, more); tables = omega (arith, h.1.room, short, whole, more) }

pub begun_small : (locals : ℕ) (gives : Bool) (count : ℕ) (pass : Pass) → locals < 2 ^ 32 → IsBegun locals gives count pass → IsSmall pass
begun_small locals gives count pass few b =
    let none : length pass.map.slots ≡ 0 = ap length b.slots in
    let low : AreLow (2 ^ 32 + length pass.map.slots) (opening (target count locals 0 gives) gives ∷ []) = (omega arith, tt) in
    record {
      targets = omega (arith, ap length b.targets);
      opens = omega (arith, ap length b.opens);
      matched = omega (arith, b.matched);
      height = omega (arith, b.height, few);
      low = subst (λ k. AreLow (2 ^ 32 + length pass.map.slots) k) (sym b.opens) low;
    }
