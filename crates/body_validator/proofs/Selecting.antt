-- drop and select.
use Rattle.std.proofs.Common.{◌≡◌, inl, inr, List, [], ◌∷◌, Option, Some, None, refl, sym, ap, subst, ◌∙◌, arith}
use Rattle.wasm_form.specs.declared.value_type.ValType.{ValType}
use Rattle.wasm_form.specs.declared.value_type.ValType.TheVariants.{I32}
use Rattle.wasm_form.specs.declared.types.FuncType.{FuncType}
use Rattle.wasm_form.specs.declared.instr.Instr.{Instr}
use Rattle.wasm_form.specs.Context.{Context}
use Rattle.wasm_form.specs.Typing.{arrow, Applies, IsParametric, Leads, Parametric}
use Rattle.body_validator.specs.declared.rule.Rule.TheVariants as rules
use Rattle.body_validator.specs.Rules.{rule_of}
use Rattle.body_validator.specs.Covering.{Known, known, MayBe, Covers, IsImage, IsStuck, Takes, TakesAny, IsTop, IsEither, Selects}
use Rattle.body_validator.proofs.Rules.{has, leaves, HasNone}
use Rattle.body_validator.proofs.Covering.{same_image}
use Rattle.body_validator.proofs.Types.{none_by}

module _ (context : Context) (i : Instr) (r : rule_of i.code ≡ rules.Parametric) where
  -- where such an instruction leads
  leads : (x y : List ValType) → Leads context i x y → (ty : FuncType) × IsParametric i ty × Applies ty x y
  leads x y (inl (ty, h, a)) = (ty, has context i ty rules.Parametric r h, a)
  leads x y (inr (needs, l, e)) = let f : rules.Parametric ≡ rules.Leaves = sym r ∙ leaves context i needs l in absurd (cc f)

  drop_leads : i.code ≡ 0x1A → (x y : List ValType) → Leads context i x y → TakesAny x y
  drop_leads c x y l = at (leads x y l)
    where
      at : (ty : FuncType) × IsParametric i ty × Applies ty x y → TakesAny x y
      at (ty, inl p, a) = (p.0, let b = subst (λ t. Applies t x y) p.2 a in b.1 ∙ ap (λ s. p.0 ∷ s) (sym b.2))
      at (ty, inr p, a) = absurd (omega (arith, c, p.1))

  select_leads : i.code ≡ 0x1B → (x y : List ValType) → Leads context i x y → Selects x y
  select_leads c x y l = at (leads x y l)
    where
      at : (ty : FuncType) × IsParametric i ty × Applies ty x y → Selects x y
      at (ty, inl p, a) = absurd (omega (arith, c, p.1))
      at (ty, inr p, a) = (p.0, subst (λ t. Applies t x y) p.2 a)

  pub drop_image : (old new : Known) → i.code ≡ 0x1A → IsImage TakesAny old new → IsImage (Leads context i) old new
  drop_image old new c p =
      same_image TakesAny (Leads context i) old new
      (λ x y h. inl (arrow (h.0 ∷ []) [], Parametric (inl (h.0, c, refl)), (y, h.1, refl)))
      (drop_leads c) p

  pub drop_stuck : (old : Known) → i.code ≡ 0x1A → IsStuck TakesAny old → IsStuck (Leads context i) old
  drop_stuck old c p x y h l = p x y h (drop_leads c x y l)

  pub select_image : (old new : Known) → i.code ≡ 0x1B → IsImage Selects old new → IsImage (Leads context i) old new
  select_image old new c p =
      same_image Selects (Leads context i) old new
      (λ x y h. inl (arrow (h.0 ∷ h.0 ∷ I32 ∷ []) (h.0 ∷ []), Parametric (inr (h.0, c, refl)), h.1))
      (select_leads c) p

  pub select_stuck : (old : Known) → i.code ≡ 0x1B → IsStuck Selects old → IsStuck (Leads context i) old
  select_stuck old c p x y h l = p x y h (select_leads c x y l)

  pub parametric_none : (i.code ≡ 0x1A → ⊥) → (i.code ≡ 0x1B → ⊥) → HasNone context i
  parametric_none a b = none_by context i rules.Parametric r (λ e. cc) never
    where
      never : (t : FuncType) → ¬ IsParametric i t
      never t (inl p) = a p.1
      never t (inr p) = b p.1

-- no i32 is on top
pub no_condition : (old : Known) → IsStuck (Takes I32) old → IsStuck Selects old
no_condition old s x y h (t, (below, a, b)) = s x (t ∷ t ∷ below) h a

-- an i32 on top, and two operands below it
module _ (old mid : Known) (above : IsImage (Takes I32) old mid) where
  inside : (t : ValType) (below : List ValType) → Covers old (I32 ∷ t ∷ t ∷ below) → Covers mid (t ∷ t ∷ below)
  inside t below h = (above (t ∷ t ∷ below)).1 (I32 ∷ t ∷ t ∷ below, h, refl)

  pub no_second : IsStuck TakesAny mid → IsStuck Selects old
  no_second s x y h (t, (below, a, b)) = s (t ∷ t ∷ below) (t ∷ below) (inside t below (subst (λ z. Covers old z) a h)) (t, refl)

  module _ (second : Option ValType) (low : Known) (top : IsTop second mid low) where
    pub no_first : IsStuck TakesAny low → IsStuck Selects old
    no_first s x y h (t, (below, a, b)) =
        s (t ∷ below) below ((top t (t ∷ below)).0 (inside t below (subst (λ z. Covers old z) a h))).1 (t, refl)

    module _ (first : Option ValType) (lower : Known) (next : IsTop first low lower) where
      pub no_either : (chosen : Option (Option ValType)) → IsEither first second chosen → chosen ≡ None → IsStuck Selects old
      no_either chosen e n x y h (t, (below, a, b)) =
          let u = (top t (t ∷ below)).0 (inside t below (subst (λ z. Covers old z) a h)) in
          let v = (next t below).0 u.1 in
          subst (λ o. IsEither first second o) n e t v.0 u.0

      pub selected : (chosen : Option (Option ValType)) (place : Option ValType) (new : Known) → IsEither first second chosen → chosen ≡ Some place → new ≡ known (place ∷ lower.places) lower.any → IsImage Selects old new
      selected chosen place new e s n after = (to after, from after)
        where
          is : (t : ValType) → (MayBe place t → MayBe first t × MayBe second t) × (MayBe first t × MayBe second t → MayBe place t)
          is = subst (λ o. IsEither first second o) s e

          to : (after : List ValType) → Covers new after → (before : List ValType) × Covers old before × Selects before after
          to [] h = absurd (subst (λ k. Covers k []) n h)
          to (t ∷ below) h =
              let k = subst (λ k. Covers k (t ∷ below)) n h in
              let m = (is t).0 k.0 in
              let u : Covers mid (t ∷ t ∷ below) = (top t (t ∷ below)).1 (m.1, (next t below).1 (m.0, k.1)) in
              let v = (above (t ∷ t ∷ below)).0 u in
              (v.0, v.1, (t, (below, v.2, refl)))

          from : (after : List ValType) → (before : List ValType) × Covers old before × Selects before after → Covers new after
          from after (x, h, (t, (below, a, b))) =
              let u = (top t (t ∷ below)).0 (inside t below (subst (λ z. Covers old z) a h)) in
              let v = (next t below).0 u.1 in
              let w : Covers (known (place ∷ lower.places) lower.any) (t ∷ below) = ((is t).1 (v.0, u.0), v.1) in
              subst (λ k. Covers k after) (sym n) (subst (λ z. Covers (known (place ∷ lower.places) lower.any) z) (sym b) w)
