-- Which instructions are on floats, by their kinds.
use Rattle.std.proofs.Common.{◌≡◌, ℕ, Bool, true, false, cond, refl, sym, ◌∙◌}
use Rattle.std.specs.Int.{is_in_range}
use Rattle.wasm_ops.specs.declared.instruction.Kind.{Kind}
use Rattle.wasm_ops.specs.declared.instruction.Kind.TheVariants.{Control, Plain, Load, Store, Float}
use Rattle.wasm_ops.specs.Table.{is_float, kind_of}

none_is_float : (load store plain : Bool) → cond load Load (cond store Store (cond plain Plain Control)) ≡ Float → ⊥
none_is_float true store plain e = cc
none_is_float false true plain e = cc
none_is_float false false true e = cc
none_is_float false false false e = cc

module _ (k : Kind) (load store plain : Bool) where
  float_of : (float : Bool) → k ≡ cond float Float (cond load Load (cond store Store (cond plain Plain Control))) → k ≡ Float → float ≡ true
  float_of true e is = refl
  float_of false e is = absurd (none_is_float load store plain (sym e ∙ is))

  other_of : (float : Bool) → k ≡ cond float Float (cond load Load (cond store Store (cond plain Plain Control))) → (k ≡ Float → ⊥) → float ≡ false
  other_of true e is = absurd (is e)
  other_of false e is = refl

-- the kind says whether an instruction is on floats
pub float_kind : (c : ℕ) (k : Kind) → k ≡ kind_of c → k ≡ Float → true ≡ is_float c
float_kind c k e is = sym (float_of k (is_in_range 0x28 0x35 c) (is_in_range 0x36 0x3e c) (is_in_range 0x45 0xbf c) (is_float c) e is)

pub other_kind : (c : ℕ) (k : Kind) → k ≡ kind_of c → (k ≡ Float → ⊥) → false ≡ is_float c
other_kind c k e is = sym (other_of k (is_in_range 0x28 0x35 c) (is_in_range 0x36 0x3e c) (is_in_range 0x45 0xbf c) (is_float c) e is)
