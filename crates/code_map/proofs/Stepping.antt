-- Steps of a pass, by their kind.
use Rattle.std.specs.Prelude.{Result, Ok, Err, OnOk}
use Rattle.std.proofs.Common.{◌≡◌, ◌≢◌, ℕ, ◌+◌, ◌-◌, ◌^◌, ◌<◌, ◌≤◌, ◌⊎◌, inl, inr, List, [], ◌∷◌, ◌++◌, length, take, drop, Bool, Option, Some, None, refl, sym, ap, ◌∙◌, arith}
use Rattle.std.specs.Prelude.{slice_get}
use Rattle.wasm_form.specs.declared.value_type.ValType.{ValType}
use Rattle.wasm_form.specs.declared.instr.Instr.{Instr}
use Rattle.wasm_form.specs.declared.instr.Imm.TheVariants as imm
use Rattle.wasm_form.specs.declared.expr.Match.{Match}
use Rattle.wasm_form.specs.declared.parts.Parts.{Parts}
use Rattle.wasm_form.specs.declared.sort.Sort.TheVariants as sort
use Rattle.wasm_form.specs.Matching.{sort_of}
use Rattle.body_validator.specs.Levels.{Level}
use Rattle.code_map.specs.declared.target.Target.{Target}
use Rattle.code_map.specs.declared.body_map.BodyMap.{BodyMap}
use Rattle.code_map.specs.declared.opens.Open.{Open}
use Rattle.code_map.specs.declared.pass.Pass.{Pass}
use Rattle.code_map.specs.declared.signatures.Signatures.{Signatures}
use Rattle.code_map.specs.Flows.{MayBranch, GoesOn}
use Rattle.code_map.specs.Targets.{gives_value}
use Rattle.code_map.specs.Mapped.{block_label, loop_label, skipped}
use Rattle.code_map.specs.Counts.{AreSignatures}
use Rattle.code_map.specs.Left.{labels_in, after_end}
use Rattle.code_map.specs.Marks.{Marks, MarksTable}
use Rattle.code_map.specs.Steps.{IsLeft, HasRoom, Begins, opening, skips_to, Steps}
use Rattle.code_map.proofs.Advancing.{plain_advances, table_advances, block_advances, if_advances, else_advances, end_advances, end_nothing}
use Rattle.code_map.proofs.Small.{marked, stays, begins_small, ends_small, label_low, tabled, low_more}

-- what follows where a call succeeds
pub on_ok : {T E : Type 0} (r : Result T E) (P Q : Type 0) → OnOk r P → (P → Q) → OnOk r Q
on_ok (Ok x) P Q h f = f h
on_ok (Err e) P Q h f = h

-- the pass at another map
abbrev pub at_map : Pass → BodyMap → Pass
at_map pass map = record pass { map = map }

-- an instruction that stands nowhere
pub nothing_steps : (s : Signatures) (pool : List ℕ) (matches : List Match) (i : Instr) (old : Pass) (map : BodyMap) → HasRoom old → Marks None old.map map
    → ((left : List Instr) (levels : List Level) → IsLeft pool matches (i ∷ left) levels old → ⊥) → Steps s pool matches i old (at_map old map)
nothing_steps s pool matches i old map room marks never =
    stays s pool matches i None old (at_map old map) room marks (λ m are left levels is. absurd (never left levels is)) refl refl (omega arith)

pub plain_steps : (s : Signatures) (pool : List ℕ) (matches : List Match) (i : Instr) (t : Option Target) (old : Pass) (map : BodyMap) (height : ℕ) → HasRoom old
    → sort_of i ≡ Some sort.Plain → Marks t old.map map
    → ((label : ℕ) (x : Target) → MayBranch (length (labels_in old.opens)) i label → slice_get (labels_in old.opens) label ≡ Some x → t ≡ Some x)
    → ((m : Parts) (after : ℕ) → AreSignatures m s → GoesOn m i old.height after → height ≡ after) → height ≤ old.height + 1
    → Steps s pool matches i old (record { map = map; opens = old.opens; height = height; matched = old.matched })
plain_steps s pool matches i t old map height room q marks branch goes low =
    let new : Pass = record { map = map; opens = old.opens; height = height; matched = old.matched } in
    stays s pool matches i t old new room marks (λ m are. plain_advances m pool matches i t old new q marks refl refl branch (λ after g. goes m after are g)) refl refl low

pub table_steps : (s : Signatures) (pool : List ℕ) (matches : List Match) (i : Instr) (first count from many final : ℕ) (found : List ℕ) (old : Pass) (map : BodyMap) → HasRoom old
    → sort_of i ≡ Some (sort.Table first count) → i.imm ≡ imm.Table from many final → found ≡ take count (drop first pool)
    → MarksTable (labels_in old.opens) (found ++ final ∷ []) old.map map → Steps s pool matches i old (at_map old map)
table_steps s pool matches i first count from many final found old map room q im fo marks =
    tabled s pool matches i (labels_in old.opens) (found ++ final ∷ []) old (at_map old map) room marks
    (λ m are. table_advances m pool matches i first count from many final found old (at_map old map) q im fo marks refl refl) refl refl refl

pub block_steps : (s : Signatures) (pool : List ℕ) (matches : List Match) (i : Instr) (found : Match) (g : Option ValType) (label : Target) (gives : Bool) (old new : Pass) → HasRoom old
    → sort_of i ≡ Some sort.Block → slice_get matches old.matched ≡ Some found → i.imm ≡ imm.Block g → gives ≡ gives_value g
    → ((i.code ≡ 0x03) × (label ≡ loop_label (labels_in old.opens) (length old.map.slots) old.height))
    ⊎ ((i.code ≢ 0x03) × (label.height ≡ old.height) × (found.end + 1 < 2 ^ 32 → label ≡ block_label (labels_in old.opens) found.end old.height g))
    → Begins (opening label gives) None old new → Steps s pool matches i old new
block_steps s pool matches i found g label gives old new room q there im gv (inl (c, l)) b =
    begins_small s pool matches i None old new room b.map
    (λ m are. block_advances m pool matches i found g (opening label gives) old new there im q b
    (λ z. ap (λ k. opening k gives) l ∙ ap (λ k. opening (loop_label (labels_in old.opens) (length old.map.slots) old.height) k) gv) (λ z. absurd (z c)))
    (opening label gives) b.opens b.matched b.height (omega (arith, ap (λ (k : Target). k.height) l))
block_steps s pool matches i found g label gives old new room q there im gv (inr (c, h, l)) b =
    begins_small s pool matches i None old new room b.map
    (λ m are. block_advances m pool matches i found g (opening label gives) old new there im q b
    (λ z. absurd (c z)) (λ z f. ap (λ k. opening k gives) (l f) ∙ ap (λ k. opening (block_label (labels_in old.opens) found.end old.height g) k) gv))
    (opening label gives) b.opens b.matched b.height (omega (arith, h))

pub if_steps : (s : Signatures) (pool : List ℕ) (matches : List Match) (i : Instr) (found : Match) (g : Option ValType) (label t : Target) (gives : Bool) (old new : Pass) → HasRoom old
    → sort_of i ≡ Some sort.If → slice_get matches old.matched ≡ Some found → i.imm ≡ imm.Block g → gives ≡ gives_value g → label.height ≡ old.height - 1
    → (found.end + 1 < 2 ^ 32 → label ≡ block_label (labels_in old.opens) found.end (old.height - 1) g)
    → (skips_to found < 2 ^ 32 → t ≡ skipped (labels_in old.opens) (skips_to found) (old.height - 1))
    → Begins (opening label gives) (Some t) old new → Steps s pool matches i old new
if_steps s pool matches i found g label t gives old new room q there im gv h l skips b =
    begins_small s pool matches i (Some t) old new room b.map
    (λ m are. if_advances m pool matches i found g (opening label gives) old new there im t q b
    (λ f. ap (λ k. opening k gives) (l f) ∙ ap (λ k. opening (block_label (labels_in old.opens) found.end (old.height - 1) g) k) gv) skips)
    (opening label gives) b.opens b.matched b.height (omega (arith, h))

pub else_steps : (s : Signatures) (pool : List ℕ) (matches : List Match) (i : Instr) (t : Target) (old : Pass) (map : BodyMap) → HasRoom old
    → sort_of i ≡ Some sort.Else → Marks (Some t) old.map map → Some t ≡ slice_get (labels_in old.opens) 0
    → Steps s pool matches i old (record { map = map; opens = old.opens; height = t.height; matched = old.matched })
else_steps s pool matches i t old map room q marks found =
    let new : Pass = record { map = map; opens = old.opens; height = t.height; matched = old.matched } in
    let low : t.height ≤ 2 ^ 32 + length old.map.slots = label_low (2 ^ 32 + length old.map.slots) old.opens t room.small.low (sym found) in
    marked s pool matches i (Some t) old new room marks
    (λ m are. else_advances m pool matches i (Some t) old new q marks refl refl found (λ x e. let f : t ≡ x = cc in ap (λ (k : Target). k.height) f))
    (omega arith) (omega arith) (omega (arith, low))
    (low_more (2 ^ 32 + length old.map.slots) (2 ^ 32 + length old.map.slots + 1) old.opens (omega arith) room.small.low)

pub else_nowhere : (s : Signatures) (pool : List ℕ) (matches : List Match) (i : Instr) (old : Pass) (map : BodyMap) → HasRoom old
    → sort_of i ≡ Some sort.Else → Marks None old.map map → None ≡ slice_get (labels_in old.opens) 0 → Steps s pool matches i old (at_map old map)
else_nowhere s pool matches i old map room q marks found =
    stays s pool matches i None old (at_map old map) room marks
    (λ m are. else_advances m pool matches i None old (at_map old map) q marks refl refl found (λ x e. absurd (cc e))) refl refl (omega arith)

pub end_steps : (s : Signatures) (pool : List ℕ) (matches : List Match) (i : Instr) (o : Open) (old new : Pass) → HasRoom old
    → sort_of i ≡ Some sort.End → Marks None old.map new.map → old.opens ≡ o ∷ new.opens → new.matched ≡ old.matched → new.height ≡ after_end o → Steps s pool matches i old new
end_steps s pool matches i o old new room q marks opens matched height =
    ends_small s pool matches i None old new room marks (λ m are. end_advances m pool matches i o old new q marks opens matched height) o opens matched height

pub end_nowhere : (s : Signatures) (pool : List ℕ) (matches : List Match) (i : Instr) (old new : Pass) → HasRoom old
    → sort_of i ≡ Some sort.End → Marks None old.map new.map → old.opens ≡ [] → new.opens ≡ [] → new.matched ≡ old.matched → new.height ≡ old.height → Steps s pool matches i old new
end_nowhere s pool matches i old new room q marks none still matched height =
    stays s pool matches i None old new room marks (λ m are. end_nothing m pool matches i old new q marks none matched) (still ∙ sym none) matched (omega (arith, height))
