-- Which list begins, by its first instruction, in a typed configuration.
use Rattle.std.proofs.Common.{◌≡◌, ◌⊎◌, inl, inr, List, [], ◌∷◌, Option, Some, arith, refl, sym, ◌∙◌, ap, subst}
use Rattle.wasm_form.specs.declared.value_type.ValType.{ValType}
use Rattle.wasm_form.specs.declared.instr.Instr.{Instr}
use Rattle.wasm_form.specs.declared.instr.Imm.TheVariants as imm
use Rattle.wasm_form.specs.declared.parts.Parts.{Parts}
use Rattle.wasm_form.specs.declared.sort.Sort.TheVariants as sort
use Rattle.wasm_form.specs.Instructions.{immediates_of}
use Rattle.wasm_form.specs.Matching.{sort_of}
use Rattle.wasm_form.specs.Context.{Context, context_of}
use Rattle.wasm_form.specs.Trees.{Code, Empty, Then, TableOf, BlockOf, LoopOf, IfOf, IfElseOf, else_instr, end_instr, block_instr, loop_instr, if_instr}
use Rattle.tree_machine.specs.Config.{Cont, Frame, Config}
use Rattle.tree_machine.specs.Typed.{HasInstrs, ContsTyped, FramesTyped, IsTyped}
use Rattle.flat_machine.proofs.Standing.{BeginsWith}

conts_instrs : (context : Context) (labels : List (List ValType)) (k : Cont) (ks : List Cont) (stack : List ValType) →
    ContsTyped context labels (k ∷ ks) stack → HasInstrs k.rest
conts_instrs context [] k ks stack h = absurd h
conts_instrs context (carried ∷ around) k ks stack h = h.2.instrs

-- the innermost list of a typed configuration holds plain instructions
pub typed_instrs : (m : Parts) (c : Config) (f : Frame) (below : List Frame) (k : Cont) (ks : List Cont) → IsTyped m [] c → c.frames ≡ f ∷ below →
    f.conts ≡ k ∷ ks → HasInstrs k.rest
typed_instrs m c f below k ks is e conts =
    let frames : FramesTyped m [] (f ∷ below) = subst (λ (frames : List Frame). FramesTyped m [] frames) e is.frames in
    let frame = frames.1 in
    let context : Context = context_of m frames.0 frame.runs in
    conts_instrs context frame.labels k ks frame.stack (subst (λ (x : List Cont). ContsTyped context frame.labels x frame.stack) conts frame.conts)

codes : (i j : Instr) → i ≡ j → i.code ≡ j.code
codes i j e = ap (λ (x : Instr). x.code) e

block_sort : (result : Option ValType) → sort_of (block_instr result) ≡ Some sort.Block
unfolding sort_of immediates_of
block_sort result = refl

loop_sort : (result : Option ValType) → sort_of (loop_instr result) ≡ Some sort.Block
unfolding sort_of immediates_of
loop_sort result = refl

if_sort : (result : Option ValType) → sort_of (if_instr result) ≡ Some sort.If
unfolding sort_of immediates_of
if_sort result = refl

end_sort : sort_of end_instr ≡ Some sort.End
unfolding sort_of immediates_of
end_sort = refl

else_sort : sort_of else_instr ≡ Some sort.Else
unfolding sort_of immediates_of
else_sort = refl

results_same_imm : (r s : Option ValType) → imm.Block r ≡ imm.Block s → r ≡ s
results_same_imm r s e = cc

results_are : (i j : Instr) (r s : Option ValType) → i ≡ j → i.imm ≡ imm.Block r → j.imm ≡ imm.Block s → r ≡ s
results_are i j r s e a b = results_same_imm r s (sym a ∙ ap (λ (x : Instr). x.imm) e ∙ b)

-- a block
pub block_comes : (result : Option ValType) (code : Code) → HasInstrs code → BeginsWith (block_instr result) code →
    (inside : Code) × (rest : Code) × (code ≡ BlockOf result inside rest)
block_comes result Empty h (inl e) = let c : 0x02 ≡ 0x0B = codes (block_instr result) end_instr e in absurd (omega (arith, c))
block_comes result Empty h (inr e) = let c : 0x02 ≡ 0x05 = codes (block_instr result) else_instr e in absurd (omega (arith, c))
block_comes result (Then j rest) h e =
    let a : Some sort.Block ≡ Some sort.Plain = sym (block_sort result) ∙ ap sort_of e ∙ h.0 in absurd (cc)
block_comes result (TableOf labels last rest) h (first, e) =
    let c : 0x02 ≡ 0x0E = ap (λ (x : Instr). x.code) e in absurd (omega (arith, c))
block_comes result (BlockOf r inside rest) h e =
    (inside, rest, ap (λ (x : Option ValType). BlockOf x inside rest) (sym (results_are (block_instr result) (block_instr r) result r e refl refl)))
block_comes result (LoopOf r inside rest) h e = let c : 0x02 ≡ 0x03 = codes (block_instr result) (loop_instr r) e in absurd (omega (arith, c))
block_comes result (IfOf r inside rest) h e = let c : 0x02 ≡ 0x04 = codes (block_instr result) (if_instr r) e in absurd (omega (arith, c))
block_comes result (IfElseOf r inside other rest) h e = let c : 0x02 ≡ 0x04 = codes (block_instr result) (if_instr r) e in absurd (omega (arith, c))

-- a loop
pub loop_comes : (result : Option ValType) (code : Code) → HasInstrs code → BeginsWith (loop_instr result) code →
    (inside : Code) × (rest : Code) × (code ≡ LoopOf result inside rest)
loop_comes result Empty h (inl e) = let c : 0x03 ≡ 0x0B = codes (loop_instr result) end_instr e in absurd (omega (arith, c))
loop_comes result Empty h (inr e) = let c : 0x03 ≡ 0x05 = codes (loop_instr result) else_instr e in absurd (omega (arith, c))
loop_comes result (Then j rest) h e =
    let a : Some sort.Block ≡ Some sort.Plain = sym (loop_sort result) ∙ ap sort_of e ∙ h.0 in absurd (cc)
loop_comes result (TableOf labels last rest) h (first, e) =
    let c : 0x03 ≡ 0x0E = ap (λ (x : Instr). x.code) e in absurd (omega (arith, c))
loop_comes result (BlockOf r inside rest) h e = let c : 0x03 ≡ 0x02 = codes (loop_instr result) (block_instr r) e in absurd (omega (arith, c))
loop_comes result (LoopOf r inside rest) h e =
    (inside, rest, ap (λ (x : Option ValType). LoopOf x inside rest) (sym (results_are (loop_instr result) (loop_instr r) result r e refl refl)))
loop_comes result (IfOf r inside rest) h e = let c : 0x03 ≡ 0x04 = codes (loop_instr result) (if_instr r) e in absurd (omega (arith, c))
loop_comes result (IfElseOf r inside other rest) h e = let c : 0x03 ≡ 0x04 = codes (loop_instr result) (if_instr r) e in absurd (omega (arith, c))

-- an if, with an else or without
abbrev pub IsIf : Option ValType → Code → Type 0
IsIf result code =
    ((inside : Code) × (rest : Code) × (code ≡ IfOf result inside rest))
    ⊎ ((inside : Code) × (other : Code) × (rest : Code) × (code ≡ IfElseOf result inside other rest))

pub if_comes : (result : Option ValType) (code : Code) → HasInstrs code → BeginsWith (if_instr result) code → IsIf result code
if_comes result Empty h (inl e) = let c : 0x04 ≡ 0x0B = codes (if_instr result) end_instr e in absurd (omega (arith, c))
if_comes result Empty h (inr e) = let c : 0x04 ≡ 0x05 = codes (if_instr result) else_instr e in absurd (omega (arith, c))
if_comes result (Then j rest) h e =
    let a : Some sort.If ≡ Some sort.Plain = sym (if_sort result) ∙ ap sort_of e ∙ h.0 in absurd (cc)
if_comes result (TableOf labels last rest) h (first, e) =
    let c : 0x04 ≡ 0x0E = ap (λ (x : Instr). x.code) e in absurd (omega (arith, c))
if_comes result (BlockOf r inside rest) h e = let c : 0x04 ≡ 0x02 = codes (if_instr result) (block_instr r) e in absurd (omega (arith, c))
if_comes result (LoopOf r inside rest) h e = let c : 0x04 ≡ 0x03 = codes (if_instr result) (loop_instr r) e in absurd (omega (arith, c))
if_comes result (IfOf r inside rest) h e =
    inl (inside, rest, ap (λ (x : Option ValType). IfOf x inside rest) (sym (results_are (if_instr result) (if_instr r) result r e refl refl)))
if_comes result (IfElseOf r inside other rest) h e =
    inr (inside, other, rest, ap (λ (x : Option ValType). IfElseOf x inside other rest) (sym (results_are (if_instr result) (if_instr r) result r e refl refl)))

-- an end or an else: the innermost list is over
pub end_comes : (code : Code) → HasInstrs code → BeginsWith end_instr code → code ≡ Empty
end_comes Empty h e = refl
end_comes (Then j rest) h e = let a : Some sort.End ≡ Some sort.Plain = sym end_sort ∙ ap sort_of e ∙ h.0 in absurd (cc)
end_comes (TableOf labels last rest) h (first, e) = let c : 0x0B ≡ 0x0E = ap (λ (x : Instr). x.code) e in absurd (omega (arith, c))
end_comes (BlockOf r inside rest) h e = let c : 0x0B ≡ 0x02 = codes end_instr (block_instr r) e in absurd (omega (arith, c))
end_comes (LoopOf r inside rest) h e = let c : 0x0B ≡ 0x03 = codes end_instr (loop_instr r) e in absurd (omega (arith, c))
end_comes (IfOf r inside rest) h e = let c : 0x0B ≡ 0x04 = codes end_instr (if_instr r) e in absurd (omega (arith, c))
end_comes (IfElseOf r inside other rest) h e = let c : 0x0B ≡ 0x04 = codes end_instr (if_instr r) e in absurd (omega (arith, c))

pub else_comes : (code : Code) → HasInstrs code → BeginsWith else_instr code → code ≡ Empty
else_comes Empty h e = refl
else_comes (Then j rest) h e = let a : Some sort.Else ≡ Some sort.Plain = sym else_sort ∙ ap sort_of e ∙ h.0 in absurd (cc)
else_comes (TableOf labels last rest) h (first, e) = let c : 0x05 ≡ 0x0E = ap (λ (x : Instr). x.code) e in absurd (omega (arith, c))
else_comes (BlockOf r inside rest) h e = let c : 0x05 ≡ 0x02 = codes else_instr (block_instr r) e in absurd (omega (arith, c))
else_comes (LoopOf r inside rest) h e = let c : 0x05 ≡ 0x03 = codes else_instr (loop_instr r) e in absurd (omega (arith, c))
else_comes (IfOf r inside rest) h e = let c : 0x05 ≡ 0x04 = codes else_instr (if_instr r) e in absurd (omega (arith, c))
else_comes (IfElseOf r inside other rest) h e = let c : 0x05 ≡ 0x04 = codes else_instr (if_instr r) e in absurd (omega (arith, c))
