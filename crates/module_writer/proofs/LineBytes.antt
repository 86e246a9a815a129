-- One instruction of a flat list.
use Rattle.std.proofs.Common.{◌≡◌, ℕ, List, [], ◌∷◌, ◌++◌, length, length-append, append_assoc, Option, Some, None, arith, refl, ap, subst, sym, ◌∙◌}
use Rattle.std.proofs.Common.{◌^◌, ◌<◌}
use Rattle.std.specs.Int.{to_le_bytes, w32, w64}
use Rattle.std.proofs.lemmas.Nat.{from_le_bytes-to_le_bytes_4, from_le_bytes-to_le_bytes_8}
use Rattle.wasm_form.specs.declared.instr.Imm.{Imm}
use Rattle.wasm_form.specs.declared.instr.Imm.TheVariants as imm
use Rattle.wasm_form.specs.Instructions.{immediates_of}
use Rattle.wasm_form.specs.Least.{zero_byte}
use Rattle.wasm_form.specs.declared.instr.Instr.{Instr}
use Rattle.wasm_form.specs.declared.immediates.Immediates.{Immediates}
use Rattle.wasm_form.specs.declared.immediates.Immediates.TheVariants as kind
use Rattle.module_writer.specs.Writing.{HasSpelling, Appends}
use Rattle.module_writer.specs.Lines.{SpellsTableOf, SpellsNumbers, SpellsLine, zero_of, least_numbers, least_line}

pub line_numbers : (labels : List ℕ) (i : Instr) → HasSpelling (SpellsLine labels) i → HasSpelling (SpellsNumbers labels) i.imm
line_numbers labels i h = record { bytes = h.spells.0; spells = h.spells.1 }

zero_long : (o : Option Immediates) → length (zero_of o) ≡ zero_byte o
zero_long None = refl
zero_long (Some kind.Bare) = refl
zero_long (Some kind.Index) = refl
zero_long (Some kind.TypeAndZero) = refl
zero_long (Some kind.Zero) = refl
zero_long (Some kind.Memory) = refl
zero_long (Some kind.S32) = refl
zero_long (Some kind.S64) = refl
zero_long (Some kind.F32) = refl
zero_long (Some kind.F64) = refl

pub appends_line : (labels : List ℕ) (i : Instr) (old one two new : List ℕ) → one ≡ old ++ i.code ∷ [] → Appends (SpellsNumbers labels) (least_numbers labels) i.imm one two
    → new ≡ two ++ zero_of (immediates_of i.code) → Appends (SpellsLine labels) (least_line labels) i old new
appends_line labels i old one two new byte a zero =
    let z : List ℕ = zero_of (immediates_of i.code) in
    record {
      bytes = i.code ∷ (a.bytes ++ z);
      spells = (a.bytes, a.spells, refl);
      long = omega (arith, a.long, length-append a.bytes z, zero_long (immediates_of i.code));
      added = zero ∙ ap (λ (l : List ℕ). l ++ z) a.added ∙ ap (λ (l : List ℕ). (l ++ a.bytes) ++ z) byte ∙ regroup old i.code a.bytes z;
    }
  where
    regroup : (o : List ℕ) (b : ℕ) (s t : List ℕ) → ((o ++ b ∷ []) ++ s) ++ t ≡ o ++ (b ∷ (s ++ t))
    regroup o b s t = simp append_assoc

pub table_numbers : (labels : List ℕ) (i : Imm) (first count last : ℕ) → i ≡ imm.Table first count last → HasSpelling (SpellsNumbers labels) i → HasSpelling (SpellsTableOf labels first count) last
table_numbers labels i first count last e h =
    record { bytes = h.bytes; spells = subst (λ (j : Imm). SpellsNumbers labels h.bytes j) e h.spells }

-- floats by their bits
pub f32_numbers : (labels : List ℕ) (i : Imm) (bits : ℕ) (l old new : List ℕ) → i ≡ imm.F32 bits → bits < 2 ^ 32 → l ≡ to_le_bytes w32 bits → new ≡ old ++ l → Appends (SpellsNumbers labels) (least_numbers labels) i old new
f32_numbers labels i bits l old new e low is added =
    let written : Appends (SpellsNumbers labels) (least_numbers labels) (imm.F32 bits) old new =
    record { bytes = to_le_bytes w32 bits; spells = (refl, sym (from_le_bytes-to_le_bytes_4 bits low)); long = refl; added = added ∙ ap (λ (s : List ℕ). old ++ s) is } in
    subst (λ (j : Imm). Appends (SpellsNumbers labels) (least_numbers labels) j old new) (sym e) written

pub f64_numbers : (labels : List ℕ) (i : Imm) (bits : ℕ) (l old new : List ℕ) → i ≡ imm.F64 bits → bits < 2 ^ 64 → l ≡ to_le_bytes w64 bits → new ≡ old ++ l → Appends (SpellsNumbers labels) (least_numbers labels) i old new
f64_numbers labels i bits l old new e low is added =
    let written : Appends (SpellsNumbers labels) (least_numbers labels) (imm.F64 bits) old new =
    record { bytes = to_le_bytes w64 bits; spells = (refl, sym (from_le_bytes-to_le_bytes_8 bits low)); long = refl; added = added ∙ ap (λ (s : List ℕ). old ++ s) is } in
    subst (λ (j : Imm). Appends (SpellsNumbers labels) (least_numbers labels) j old new) (sym e) written
