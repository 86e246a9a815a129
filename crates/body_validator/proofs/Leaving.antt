-- unreachable, br, return and br_table.
use Rattle.std.proofs.Common.{◌≡◌, ℕ, inl, inr, ◌<◌, List, [], ◌∷◌, ◌++◌, length, Option, Some, None, refl, sym, ap, subst, ◌∙◌, arith, reverse, get_or}
use Rattle.std.proofs.lemmas.List.{reverse-append, get_or_default}
use Rattle.std.specs.Prelude.{slice_get, All, option_to_list, map}
use Rattle.wasm_form.specs.declared.value_type.ValType.{ValType}
use Rattle.wasm_form.specs.declared.value_type.ValType.TheVariants.{I32}
use Rattle.wasm_form.specs.declared.instr.Instr.{Instr}
use Rattle.wasm_form.specs.declared.instr.Imm.TheVariants as imm
use Rattle.wasm_form.specs.Context.{Context}
use Rattle.wasm_form.specs.Typing.{Leads, Leaves, TableLeaves, EndsIn}
use Rattle.body_validator.specs.declared.rule.Rule.TheVariants as rules
use Rattle.body_validator.specs.Rules.{rule_of}
use Rattle.body_validator.specs.Covering.{Known, IsImage, IsStuck, Takes, TableLeads}
use Rattle.body_validator.proofs.Rules.{has}
use Rattle.body_validator.proofs.Covering.{same_image, both}
use Rattle.body_validator.proofs.Types.{same_index, same_found, not_found, label_is, found_same}
use Rattle.body_validator.specs.declared.frame.Frame.{Frame}
use Rattle.body_validator.specs.Frames.{carried_by, labels_of}

-- these are what the instruction needs, and it needs nothing else
pub record NeedsOnly (context : Context) (i : Instr) (needs : List ValType) : Type 0 where
  pub has : Leaves context i needs
  pub one : (other : List ValType) → Leaves context i other → other ≡ needs

module _ (context : Context) (i : Instr) (r : rule_of i.code ≡ rules.Leaves) where
  leads : (x y : List ValType) → Leads context i x y → (needs : List ValType) × Leaves context i needs × EndsIn needs x
  leads x y (inl (ty, h, a)) = absurd (has context i ty rules.Leaves r h)
  leads x y (inr l) = l

  pub leaves_image : (needs : List ValType) (old new : Known) → NeedsOnly context i needs → IsImage (λ x y. EndsIn needs x) old new → IsImage (Leads context i) old new
  leaves_image needs old new n p =
      same_image (λ x y. EndsIn needs x) (Leads context i) old new
      (λ x y h. inr (needs, n.has, h))
      (λ x y l. let k = leads x y l in subst (λ z. EndsIn z x) (n.one k.0 k.1) k.2) p

  pub leaves_stuck : (needs : List ValType) (old : Known) → NeedsOnly context i needs → IsStuck (λ x y. EndsIn needs x) old → IsStuck (Leads context i) old
  leaves_stuck needs old n p x y h l = let k = leads x y l in p x y h (subst (λ z. EndsIn z x) (n.one k.0 k.1) k.2)

  pub leaves_never : (old : Known) → ((needs : List ValType) → ¬ Leaves context i needs) → IsStuck (Leads context i) old
  leaves_never old never x y h l = let k = leads x y l in never k.0 k.1

  pub unreachable_needs : i.code ≡ 0x00 → NeedsOnly context i []
  unreachable_needs c = record { has = inl (c, refl); one = one }
    where
      one : (other : List ValType) → Leaves context i other → other ≡ []
      one other (inl p) = p.1
      one other (inr (inl p)) = absurd (omega (arith, c, p.1))
      one other (inr (inr p)) = absurd (omega (arith, c, p.0))

  pub return_needs : i.code ≡ 0x0F → NeedsOnly context i context.results
  return_needs c = record { has = inr (inr (c, refl)); one = one }
    where
      one : (other : List ValType) → Leaves context i other → other ≡ context.results
      one other (inl p) = absurd (omega (arith, c, p.0))
      one other (inr (inl p)) = absurd (omega (arith, c, p.1))
      one other (inr (inr p)) = p.1

  pub branch_needs : (x : ℕ) (carried : List ValType) → i.code ≡ 0x0C → i.imm ≡ imm.Index x → slice_get context.labels x ≡ Some carried → NeedsOnly context i carried
  branch_needs x carried c a b = record { has = inr (inl (x, c, a, b)); one = one }
    where
      one : (other : List ValType) → Leaves context i other → other ≡ carried
      one other (inl p) = absurd (omega (arith, c, p.0))
      one other (inr (inl p)) = same_found context.labels x p.0 carried other b p.3 (same_index i x p.0 a p.2)
      one other (inr (inr p)) = absurd (omega (arith, c, p.0))

  pub branch_missing : (x : ℕ) → i.code ≡ 0x0C → i.imm ≡ imm.Index x → slice_get context.labels x ≡ None → (needs : List ValType) → ¬ Leaves context i needs
  branch_missing x c a b other (inl p) = omega (arith, c, p.0)
  branch_missing x c a b other (inr (inl p)) = not_found context.labels x p.0 other b p.3 (same_index i x p.0 a p.2)
  branch_missing x c a b other (inr (inr p)) = omega (arith, c, p.0)

  -- no unreachable, no br to an index, no return
  pub leaves_other : (i.code ≡ 0x00 → ⊥) → ((x : ℕ) → i.code ≡ 0x0C → i.imm ≡ imm.Index x → ⊥) → (i.code ≡ 0x0F → ⊥) → (needs : List ValType) → ¬ Leaves context i needs
  leaves_other a b d other (inl p) = a p.0
  leaves_other a b d other (inr (inl p)) = b p.0 p.1 p.2
  leaves_other a b d other (inr (inr p)) = d p.0

-- needs under an i32
i32_above : (needs : List ValType) (s : List ValType) → reverse (needs ++ I32 ∷ []) ++ s ≡ I32 ∷ (reverse needs ++ s)
i32_above needs s = ap (λ l. l ++ s) (reverse-append needs (I32 ∷ []))

module _ (context : Context) (labels : List ℕ) (last : ℕ) where
  pub no_default : (old : Known) → slice_get context.labels last ≡ None → IsStuck (TableLeads context labels last) old
  no_default old e x y h t = let f : Some t.1.0 ≡ None = sym t.1.1 ∙ e in absurd (cc f)

  module _ (carried : List ValType) (default : slice_get context.labels last ≡ Some carried) where
    needs_is : (needs : List ValType) → TableLeaves context labels last needs → needs ≡ carried ++ I32 ∷ []
    needs_is needs t = t.3 ∙ ap (λ l. l ++ I32 ∷ []) (same_found context.labels last last carried t.0 default t.1 refl)

    pub no_number : (old : Known) → IsStuck (Takes I32) old → IsStuck (TableLeads context labels last) old
    no_number old s x y h t =
        s x (reverse carried ++ t.2.0) h (t.2.1 ∙ ap (λ n. reverse n ++ t.2.0) (needs_is t.0 t.1) ∙ i32_above carried t.2.0)

    pub no_carried : (old mid : Known) → IsImage (Takes I32) old mid → IsStuck (λ x y. EndsIn carried x) mid → IsStuck (TableLeads context labels last) old
    no_carried old mid p s x y h t =
        s (reverse carried ++ t.2.0) y
        ((p (reverse carried ++ t.2.0)).1 (x, h, t.2.1 ∙ ap (λ n. reverse n ++ t.2.0) (needs_is t.0 t.1) ∙ i32_above carried t.2.0)) (t.2.0, refl)

    pub table_image : (old mid new : Known) → All (λ label. slice_get context.labels label ≡ Some carried) labels → IsImage (Takes I32) old mid → IsImage (λ x y. EndsIn carried x) mid new
        → IsImage (TableLeads context labels last) old new
    table_image old mid new each p q =
        same_image (λ x z. (y : List ValType) × Takes I32 x y × EndsIn carried y) (TableLeads context labels last) old new
        (λ x z h. (carried ++ I32 ∷ [], (carried, default, each, refl), (h.2.0, h.1 ∙ ap (λ l. I32 ∷ l) h.2.1 ∙ sym (i32_above carried h.2.0))))
        (λ x z t. (reverse carried ++ t.2.0, t.2.1 ∙ ap (λ n. reverse n ++ t.2.0) (needs_is t.0 t.1) ∙ i32_above carried t.2.0, (t.2.0, refl)))
        (both (Takes I32) (λ x y. EndsIn carried x) old mid new p q)

-- the labels found so far carry the same
pub all_same : (context : Context) (labels : List ℕ) (frames : List Frame) (carried : Option ValType) → context.labels ≡ labels_of frames
    → ((k : ℕ) → k < length labels → slice_get (map carried_by frames) (get_or labels k 0) ≡ Some carried)
    → All (λ label. slice_get context.labels label ≡ Some (option_to_list carried)) labels
all_same context labels frames carried e h k d within =
    let same : get_or labels k d ≡ get_or labels k 0 = get_or_default labels k d 0 within in
    subst (λ (label : ℕ). slice_get context.labels label ≡ Some (option_to_list carried)) (sym same)
    (label_is frames context.labels (get_or labels k 0) (slice_get (map carried_by frames) (get_or labels k 0)) carried e refl (h k within))

-- one of the labels carries something else
pub labels_differ : (context : Context) (labels : List ℕ) (last : ℕ) (frames : List Frame) (carried : Option ValType) (k : ℕ) (o : Option (Option ValType)) (old : Known) → context.labels ≡ labels_of frames
    → slice_get context.labels last ≡ Some (option_to_list carried) → k < length labels → o ≡ slice_get (map carried_by frames) (get_or labels k 0) → (o ≡ Some carried → ⊥)
    → IsStuck (TableLeads context labels last) old
labels_differ context labels last frames carried k o old e default within f never x y h t =
    let is : t.1.0 ≡ option_to_list carried = same_found context.labels last last (option_to_list carried) t.1.0 default t.1.1 refl in
    let each : slice_get context.labels (get_or labels k 0) ≡ Some t.1.0 = t.1.2 k 0 within in
    never (found_same frames context.labels (get_or labels k 0) o carried e f (each ∙ ap Some is))
