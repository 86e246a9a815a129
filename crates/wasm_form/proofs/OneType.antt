-- Each type and each name has spellings of its own.
use Rattle.std.proofs.Common.{◌≡◌, ℕ, List, [], ◌∷◌, ◌++◌, Bool, true, false, Option, Some, None, arith, refl, ap, sym, ◌∙◌}
use Rattle.wasm_form.specs.Values.{SpellsU32, SpellsVector}
use Rattle.wasm_form.specs.Types.{SpellsValType, SpellsBlockType, SpellsFuncType, SpellsMinMax, SpellsLimits, SpellsTableType, SpellsMutability, SpellsGlobalType}
use Rattle.wasm_form.specs.declared.value_type.ValType.{ValType}
use Rattle.wasm_form.specs.declared.value_type.ValType.TheVariants.{I32, I64, F32, F64}
use Rattle.wasm_form.specs.declared.types.Bounds.{Bounds}
use Rattle.wasm_form.proofs.Fronts.{OneFront, Both, Led, one_both, one_led, one_by, one_vector, heads, tails}

-- the byte of a value type
abbrev pub byte_of : ValType → ℕ
byte_of I32 = 0x7F
byte_of I64 = 0x7E
byte_of F32 = 0x7D
byte_of F64 = 0x7C

pub is_byte : (s : List ℕ) (v : ValType) → SpellsValType s v → s ≡ byte_of v ∷ []
is_byte s I32 h = h
is_byte s I64 h = h
is_byte s F32 h = h
is_byte s F64 h = h

same_type : (v w : ValType) → byte_of v ≡ byte_of w → v ≡ w
same_type I32 I32 e = refl
same_type I64 I64 e = refl
same_type F32 F32 e = refl
same_type F64 F64 e = refl
same_type v w e = absurd (omega (arith, e))

pub one_val_type : OneFront SpellsValType
one_val_type =
    record {
      one = λ s t x y v w h k e.
          let same : byte_of v ≡ byte_of w = heads (byte_of v) (byte_of w) s t [] [] x y (is_byte s v h) (is_byte t w k) e in
          (is_byte s v h ∙ ap (λ (b : ℕ). b ∷ []) same ∙ sym (is_byte t w k), same_type v w same);
    }

not_empty : (v : ValType) → byte_of v ≡ 0x40 → ⊥
not_empty I32 e = omega (arith, e)
not_empty I64 e = omega (arith, e)
not_empty F32 e = omega (arith, e)
not_empty F64 e = omega (arith, e)

block_type : (s t x y : List ℕ) (v w : Option ValType) → SpellsBlockType s v → SpellsBlockType t w → s ++ x ≡ t ++ y → (s ≡ t) × (v ≡ w)
block_type s t x y None None h k e = (h ∙ sym k, refl)
block_type s t x y None (Some w) h k e =
    absurd (not_empty w (sym (heads 0x40 (byte_of w) s t [] [] x y h (is_byte t w k) e)))
block_type s t x y (Some v) None h k e =
    absurd (not_empty v (heads (byte_of v) 0x40 s t [] [] x y (is_byte s v h) k e))
block_type s t x y (Some v) (Some w) h k e =
    let r : (s ≡ t) × (v ≡ w) = one_val_type.one s t x y v w h k e in
    (r.0, ap (λ (u : ValType). Some u) r.1)

pub one_block_type : OneFront SpellsBlockType
one_block_type = record { one = block_type }

mutability : (s t x y : List ℕ) (v w : Bool) → SpellsMutability s v → SpellsMutability t w → s ++ x ≡ t ++ y → (s ≡ t) × (v ≡ w)
mutability s t x y false false h k e = (h ∙ sym k, refl)
mutability s t x y false true h k e = absurd (omega (arith, heads 0x00 0x01 s t [] [] x y h k e))
mutability s t x y true false h k e = absurd (omega (arith, heads 0x01 0x00 s t [] [] x y h k e))
mutability s t x y true true h k e = (h ∙ sym k, refl)

pub one_mutability : OneFront SpellsMutability
one_mutability = record { one = mutability }

pub one_global_type : OneFront SpellsGlobalType
one_global_type =
    one_by SpellsGlobalType (Both SpellsValType SpellsMutability) (λ v. (v.ty, v.mutable)) (λ p. record { ty = p.0; mutable = p.1 }) (λ v. refl)
    (λ s v h. h) (one_both SpellsValType SpellsMutability one_val_type one_mutability)

module _ (numbers : OneFront SpellsU32) where
  pub one_func_type : OneFront SpellsFuncType
  one_func_type =
      let types : OneFront (SpellsVector SpellsValType) = one_vector SpellsValType numbers one_val_type in
      one_by SpellsFuncType (Led 0x60 (Both (SpellsVector SpellsValType) (SpellsVector SpellsValType)))
      (λ v. (v.params, v.results)) (λ p. record { params = p.0; results = p.1 }) (λ v. refl)
      (λ s v h. (h.0 ++ h.1, (h.0, h.1, h.2, h.3, refl), h.4))
      (one_led 0x60 (Both (SpellsVector SpellsValType) (SpellsVector SpellsValType)) (one_both (SpellsVector SpellsValType) (SpellsVector SpellsValType) types types))

  min_max : (s t x y : List ℕ) (a b : ℕ) (v w : Option ℕ) → SpellsMinMax s a v → SpellsMinMax t b w → s ++ x ≡ t ++ y → (s ≡ t) × (a ≡ b) × (v ≡ w)
  min_max s t x y a b None None h k e =
      let r : (h.0 ≡ k.0) × (a ≡ b) = numbers.one h.0 k.0 x y a b h.1 k.1 (tails 0x00 0x00 s t h.0 k.0 x y h.2 k.2 e) in
      (h.2 ∙ ap (λ (l : List ℕ). 0x00 ∷ l) r.0 ∙ sym k.2, r.1, refl)
  min_max s t x y a b None (Some w) h k e = absurd (omega (arith, heads 0x00 0x01 s t h.0 (k.0 ++ k.1) x y h.2 k.4 e))
  min_max s t x y a b (Some v) None h k e = absurd (omega (arith, heads 0x01 0x00 s t (h.0 ++ h.1) k.0 x y h.4 k.2 e))
  min_max s t x y a b (Some v) (Some w) h k e =
      let r : (h.0 ++ h.1 ≡ k.0 ++ k.1) × ((a, v) ≡ (b, w)) =
      (one_both SpellsU32 SpellsU32 numbers numbers).one (h.0 ++ h.1) (k.0 ++ k.1) x y (a, v) (b, w) (h.0, h.1, h.2, h.3, refl) (k.0, k.1, k.2, k.3, refl)
      (tails 0x01 0x01 s t (h.0 ++ h.1) (k.0 ++ k.1) x y h.4 k.4 e)
      in
      (h.4 ∙ ap (λ (l : List ℕ). 0x01 ∷ l) r.0 ∙ sym k.4, ap (λ (p : ℕ × ℕ). p.0) r.1, ap (λ (p : ℕ × ℕ). Some p.1) r.1)

  pub one_limits : OneFront SpellsLimits
  one_limits =
      record {
        one = λ s t x y v w h k e.
            let r : (s ≡ t) × (v.min ≡ w.min) × (v.max ≡ w.max) = min_max s t x y v.min w.min v.max w.max h k e in
            let low : Bounds → Bounds = λ u. u in
            (r.0, ap (λ (m : ℕ). low (record { min = m; max = v.max })) r.1 ∙ ap (λ (m : Option ℕ). low (record { min = w.min; max = m })) r.2);
      }

  pub one_table_type : OneFront SpellsTableType
  one_table_type =
      one_by SpellsTableType (Led 0x70 SpellsLimits) (λ v. v) (λ v. v) (λ v. refl) (λ s v h. h) (one_led 0x70 SpellsLimits one_limits)
