-- Codes without a row in the table of the instructions.
use Rattle.std.proofs.Common.{◌≡◌, ℕ, ◌≤◌, Bool, true, false, cond, ◌||◌, ◌&&◌, leb-true, le-leb, refl, ap, ◌∙◌, arith}
use Rattle.std.specs.Prelude.{nat_le}
use Rattle.std.specs.Int.{is_in_range}
use Rattle.wasm_ops.specs.declared.instruction.Kind.TheVariants as kinds
use Rattle.wasm_ops.specs.Table.{is_instruction, is_float, kind_of}

or_false : (a b : Bool) → a ≡ false → b ≡ false → (a || b) ≡ false
or_false a b p q = ap (λ x. x || b) p ∙ q

or_true : (a b : Bool) → b ≡ true → (a || b) ≡ true
or_true true b q = refl
or_true false b q = q

and_left : (a b : Bool) → (a && b) ≡ true → a ≡ true
and_left true b q = refl
and_left false b q = absurd (cc q)

and_right : (a b : Bool) → (a && b) ≡ true → b ≡ true
and_right true b q = q
and_right false b q = absurd (cc q)

and_true : (a b : Bool) → a ≡ true → b ≡ true → (a && b) ≡ true
and_true a b p q = ap (λ x. x && b) p ∙ q

-- no range within the last one of the table has a code that the table has not
outside : (c lo hi : ℕ) → (is_in_range 0x28 0xbf c ≡ true → ⊥) → 0x28 ≤ lo → hi ≤ 0xbf → is_in_range lo hi c ≡ false
outside c lo hi never low high = at (is_in_range lo hi c) refl
  where
    inside : is_in_range lo hi c ≡ true → is_in_range 0x28 0xbf c ≡ true
    inside e =
        let a : lo ≤ c = leb-true lo c (and_left (nat_le lo c) (nat_le c hi) e) in
        let b : c ≤ hi = leb-true c hi (and_right (nat_le lo c) (nat_le c hi) e) in
        and_true (nat_le 0x28 c) (nat_le c 0xbf) (le-leb 0x28 c (omega arith)) (le-leb c 0xbf (omega arith))

    at : (b : Bool) → is_in_range lo hi c ≡ b → is_in_range lo hi c ≡ false
    at true e = absurd (never (inside e))
    at false e = e

pub no_row : (c : ℕ) → (is_instruction c ≡ true → ⊥) → kind_of c ≡ kinds.Control
no_row c never =
    let last : is_in_range 0x28 0xbf c ≡ true → ⊥ = λ e. never (or_true (is_in_range 0x00 0x05 c || is_in_range 0x0b 0x11 c || is_in_range 0x1a 0x1b c || is_in_range 0x20 0x24 c) (is_in_range 0x28 0xbf c) e) in
    let a1 = outside c 0x2a 0x2b last (omega arith) (omega arith) in
    let a2 = outside c 0x38 0x39 last (omega arith) (omega arith) in
    let a3 = outside c 0x43 0x44 last (omega arith) (omega arith) in
    let a4 = outside c 0x5b 0x66 last (omega arith) (omega arith) in
    let a5 = outside c 0x8b 0xa6 last (omega arith) (omega arith) in
    let a6 = outside c 0xa8 0xab last (omega arith) (omega arith) in
    let a7 = outside c 0xae 0xbf last (omega arith) (omega arith) in
    let float : is_float c ≡ false = or_false _ _ (or_false _ _ (or_false _ _ (or_false _ _ (or_false _ _ (or_false _ _ a1 a2) a3) a4) a5) a6) a7 in
    let load : is_in_range 0x28 0x35 c ≡ false = outside c 0x28 0x35 last (omega arith) (omega arith) in
    let store : is_in_range 0x36 0x3e c ≡ false = outside c 0x36 0x3e last (omega arith) (omega arith) in
    let plain : is_in_range 0x45 0xbf c ≡ false = outside c 0x45 0xbf last (omega arith) (omega arith) in
    other (is_float c) (is_in_range 0x28 0x35 c) (is_in_range 0x36 0x3e c) (is_in_range 0x45 0xbf c) float load store plain
  where
    other : (f l s p : Bool) → f ≡ false → l ≡ false → s ≡ false → p ≡ false → cond f kinds.Float (cond l kinds.Load (cond s kinds.Store (cond p kinds.Plain kinds.Control))) ≡ kinds.Control
    other f l s p a b d e =
        ap (λ x. cond x kinds.Float (cond l kinds.Load (cond s kinds.Store (cond p kinds.Plain kinds.Control)))) a
        ∙ ap (λ x. cond x kinds.Load (cond s kinds.Store (cond p kinds.Plain kinds.Control))) b
        ∙ ap (λ x. cond x kinds.Store (cond p kinds.Plain kinds.Control)) d
        ∙ ap (λ x. cond x kinds.Plain kinds.Control) e
