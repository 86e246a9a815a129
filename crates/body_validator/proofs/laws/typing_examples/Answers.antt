use Rattle.std.proofs.Common.{refl, inl, inr, [], ◌∷◌}
use Rattle.wasm_form.specs.declared.value_type.ValType.TheVariants.{I32}
use Rattle.wasm_form.specs.Typing.{arrow, Numeric, Parametric}
use Rattle.body_validator.proofs.laws.typing_examples.Goals as goal

pub returns-clause-typed : goal.returns-clause-typed
returns-clause-typed c context carried = (
  I32 ∷ I32 ∷ [],
  inr ([], inr (inl (0, refl, refl, carried)), ([], refl)),
  (
    I32 ∷ [],
    inl (arrow (I32 ∷ I32 ∷ []) (I32 ∷ []), Numeric (inr (refl, refl)), ([], refl, refl)),
    ([], inl (arrow (I32 ∷ []) [], Parametric (inl (I32, refl, refl)), ([], refl, refl)), refl),
  ),
)
