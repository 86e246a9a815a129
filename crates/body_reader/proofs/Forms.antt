-- The pieces of runs and of immediates.
use Rattle.std.proofs.Common.{◌≡◌, ℕ, List, [], ◌∷◌, ◌++◌, refl, ap}
use Rattle.wasm_form.specs.Values.{SpellsU32}
use Rattle.wasm_form.specs.Types.{SpellsValType}
use Rattle.wasm_form.specs.Sections.{SpellsRun}
use Rattle.wasm_form.specs.Instructions.{SpellsImmediates}
use Rattle.wasm_form.specs.declared.immediates.Immediates.TheVariants as kind
use Rattle.wasm_form.specs.declared.instr.Imm.TheVariants as imm
use Rattle.body_reader.proofs.Pieces.{Parts, Seen}

-- this very byte
abbrev pub ByteIs : ℕ → List ℕ → Unit {0} → Type 0
ByteIs b s u = s ≡ b ∷ []

pub run : (n : ℕ) → Parts SpellsU32 SpellsValType SpellsRun (λ count ty. record { count = count; ty = ty }) n
run n = record { put = λ s t ty h k. (s, t, h, k, refl); split = λ u w h. (h.0, h.1, w.count, w.ty, h.2, h.4, λ _. h.3, refl) }

pub memory : (n : ℕ) → Parts SpellsU32 SpellsU32 (SpellsImmediates kind.Memory) (λ align offset. imm.Mem align offset) n
memory n = record { put = λ s t b h k. (s, t, n, b, h, k, refl, refl); split = λ u w h. (h.0, h.1, h.2, h.3, h.4, h.6, λ _. h.5, h.7) }

pub type_and_zero : (n : ℕ) → Parts SpellsU32 (ByteIs 0x00) (SpellsImmediates kind.TypeAndZero) (λ index _. imm.Index index) n
type_and_zero n =
    record { put = λ s t b h k. (s, n, h, ap (λ (l : List ℕ). s ++ l) k, refl); split = λ u w h. (h.0, 0x00 ∷ [], h.1, tt, h.2, h.3, λ _. refl, h.4) }

pub zero_byte : Seen (ByteIs 0x00) (SpellsImmediates kind.Zero) (λ _. imm.None)
zero_byte = record { put = λ s a h. (h, refl); back = λ u w h. (tt, h.0, h.1) }
