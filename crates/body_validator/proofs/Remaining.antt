-- What each step leaves typed.
use Rattle.std.specs.Prelude.{◌↔◌, option_to_list}
use Rattle.std.proofs.Common.{◌≡◌, ℕ, List, [], ◌∷◌, ◌++◌, reverse, false, Option, Some, None, refl, sym, ap, subst, ◌∙◌}
use Rattle.wasm_form.specs.declared.value_type.ValType.{ValType}
use Rattle.wasm_form.specs.declared.value_type.ValType.TheVariants.{I32}
use Rattle.wasm_form.specs.declared.instr.Instr.{Instr}
use Rattle.wasm_form.specs.Trees.{Code, Empty, Then, TableOf, BlockOf, LoopOf, IfOf, IfElseOf}
use Rattle.wasm_form.specs.Context.{Context, with_label}
use Rattle.wasm_form.specs.Typing.{Types, Leads}
use Rattle.body_validator.specs.declared.frame.Closing.TheVariants as closing
use Rattle.body_validator.specs.declared.frame.Frame.{Frame}
use Rattle.body_validator.specs.Covering.{Known, known, Covers, IsImage, IsStuck, Takes, GivesAll, TableLeads}
use Rattle.body_validator.specs.Levels.{Level, level, inside_of, GivesOnto, Remains, frame_of}

-- one step of the innermost list
step_there : (R : List ValType → List ValType → Type 0) (T : List ValType → Type 0) (old new : Known) → IsImage R old new
    → ((x : List ValType) × Covers old x × ((y : List ValType) × R x y × T y)) → (y : List ValType) × Covers new y × T y
step_there R T old new p h = (h.2.0, (p h.2.0).1 (h.0, h.1, h.2.1), h.2.2)

step_back : (R : List ValType → List ValType → Type 0) (T : List ValType → Type 0) (old new : Known) → IsImage R old new
    → ((y : List ValType) × Covers new y × T y) → (x : List ValType) × Covers old x × ((y : List ValType) × R x y × T y)
step_back R T old new p h = let b = (p h.0).0 h.1 in (b.0, b.1, (h.0, b.2, h.2))

module _ (context : Context) (rest : Code) (other : Option Code) (levels : List Level) where
  -- an instruction that opens and closes nothing
  pub plain_step : (i : Instr) (frames : List Frame) (old new : Known) → IsImage (Leads (inside_of context frames) i) old new
      → Remains context (level (Then i rest) other ∷ levels) frames (Covers old) ↔ Remains context (level rest other ∷ levels) frames (Covers new)
  plain_step i [] old new p = (λ h. h, λ h. h)
  plain_step i (f ∷ fs) old new p =
      let here : Context = inside_of context (f ∷ fs) in
      let T : List ValType → Type 0 = λ y. Types here rest y (option_to_list f.gives) in
      (λ h. (step_there (Leads here i) T old new p h.0, h.1, h.2), λ h. (step_back (Leads here i) T old new p h.0, h.1, h.2))

  pub plain_stuck : (i : Instr) (frames : List Frame) (old : Known) → IsStuck (Leads (inside_of context frames) i) old
      → ¬ Remains context (level (Then i rest) other ∷ levels) frames (Covers old)
  plain_stuck i [] old p h = h
  plain_stuck i (f ∷ fs) old p h = p h.0.0 h.0.2.0 h.0.1 h.0.2.1

  -- br_table
  table_there : (labels : List ℕ) (last : ℕ) (here : Context) (ends : List ValType) (old : Known) → ((x : List ValType) × Covers old x × Types here (TableOf labels last rest) x ends)
      → (x : List ValType) × Covers old x × ((y : List ValType) × TableLeads here labels last x y × Types here rest y ends)
  table_there labels last here ends old h = (h.0, h.1, (h.2.0, (h.2.1, h.2.2, h.2.3), h.2.4))

  table_back : (labels : List ℕ) (last : ℕ) (here : Context) (ends : List ValType) (old : Known) → ((x : List ValType) × Covers old x × ((y : List ValType) × TableLeads here labels last x y × Types here rest y ends))
      → (x : List ValType) × Covers old x × Types here (TableOf labels last rest) x ends
  table_back labels last here ends old h = (h.0, h.1, (h.2.0, h.2.1.0, h.2.1.1, h.2.1.2, h.2.2))

  pub table_step : (labels : List ℕ) (last : ℕ) (frames : List Frame) (old new : Known) → IsImage (TableLeads (inside_of context frames) labels last) old new
      → Remains context (level (TableOf labels last rest) other ∷ levels) frames (Covers old) ↔ Remains context (level rest other ∷ levels) frames (Covers new)
  table_step labels last [] old new p = (λ h. h, λ h. h)
  table_step labels last (f ∷ fs) old new p =
      let here : Context = inside_of context (f ∷ fs) in
      let ends : List ValType = option_to_list f.gives in
      let T : List ValType → Type 0 = λ y. Types here rest y ends in (
        λ h. (step_there (TableLeads here labels last) T old new p (table_there labels last here ends old h.0), h.1, h.2),
        λ h. (table_back labels last here ends old (step_back (TableLeads here labels last) T old new p h.0), h.1, h.2),
      )

  pub table_stuck : (labels : List ℕ) (last : ℕ) (frames : List Frame) (old : Known) → IsStuck (TableLeads (inside_of context frames) labels last) old
      → ¬ Remains context (level (TableOf labels last rest) other ∷ levels) frames (Covers old)
  table_stuck labels last [] old p h = h
  table_stuck labels last (f ∷ fs) old p h = p h.0.0 h.0.2.0 h.0.1 (h.0.2.1, h.0.2.2, h.0.2.3)

  -- a list that begins over these operands, of a block or a loop
  pub block_step : (r : Option ValType) (inside : Code) (frames : List Frame) (old : Known)
      → Remains context (level (BlockOf r inside rest) other ∷ levels) frames (Covers old)
      ↔ Remains context (level inside None ∷ level rest other ∷ levels) (frame_of closing.End r r old ∷ frames) (Covers (known [] false))
  block_step r inside [] old = (λ h. absurd h, λ h. absurd h.2)
  block_step r inside (f ∷ fs) old = (
    λ h. (([], refl, h.0.2.0), λ e. cc, ((option_to_list r ++ h.0.0, (h.0.0, h.0.1, refl), h.0.2.1), h.1, h.2)),
    λ h.
        let here : Context = inside_of context (f ∷ fs) in
        let ends : List ValType = option_to_list f.gives in
        let b = h.2.0 in
        ((b.1.0, b.1.1, (subst (λ x. Types (inside_of context (frame_of closing.End r r old ∷ f ∷ fs)) inside x (option_to_list r)) h.0.1 h.0.2, subst (λ x. Types here rest x ends) b.1.2 b.2)), h.2.1, h.2.2),
  )

  pub loop_step : (r : Option ValType) (inside : Code) (frames : List Frame) (old : Known)
      → Remains context (level (LoopOf r inside rest) other ∷ levels) frames (Covers old)
      ↔ Remains context (level inside None ∷ level rest other ∷ levels) (frame_of closing.End None r old ∷ frames) (Covers (known [] false))
  loop_step r inside [] old = (λ h. absurd h, λ h. absurd h.2)
  loop_step r inside (f ∷ fs) old = (
    λ h. (([], refl, h.0.2.0), λ e. cc, ((option_to_list r ++ h.0.0, (h.0.0, h.0.1, refl), h.0.2.1), h.1, h.2)),
    λ h.
        let here : Context = inside_of context (f ∷ fs) in
        let ends : List ValType = option_to_list f.gives in
        let b = h.2.0 in
        ((b.1.0, b.1.1, (subst (λ x. Types (inside_of context (frame_of closing.End None r old ∷ f ∷ fs)) inside x (option_to_list r)) h.0.1 h.0.2, subst (λ x. Types here rest x ends) b.1.2 b.2)), h.2.1, h.2.2),
  )

  -- the first list of an if
  pub if_step : (r : Option ValType) (inside : Code) (frames : List Frame) (old mid : Known) → IsImage (Takes I32) old mid
      → Remains context (level (IfOf r inside rest) other ∷ levels) frames (Covers old)
      ↔ Remains context (level inside None ∷ level rest other ∷ levels) (frame_of closing.ElseOrEnd r r mid ∷ frames) (Covers (known [] false))
  if_step r inside [] old mid p = (λ h. absurd h, λ h. absurd h.2)
  if_step r inside (f ∷ fs) old mid p =
      let here : Context = inside_of context (f ∷ fs) in
      let ends : List ValType = option_to_list f.gives in
      let In : Option ValType → List ValType → Type 0 = λ q x. Types (with_label (option_to_list q) here) inside x (option_to_list q) in (
        λ h.
            let t = h.0.2 in
            let under : Covers mid t.0 = (p t.0).1 (h.0.0, h.0.1, t.1) in (
              ([], refl, subst (λ q. In q []) (sym t.2) t.3),
              λ e. t.2,
              ((t.0, (t.0, under, ap (λ q. option_to_list q ++ t.0) (sym t.2)), t.4), h.1, h.2),
            ),
        λ h.
            let none : r ≡ None = h.1 refl in
            let b = h.2.0 in
            let low : b.0 ≡ b.1.0 = b.1.2 ∙ ap (λ q. option_to_list q ++ b.1.0) none in
            let top = (p b.1.0).0 b.1.1 in
            let body : In r [] = subst (λ x. In r x) h.0.1 h.0.2 in
            ((top.0, top.1, (b.1.0, top.2, none, subst (λ q. In q []) none body, subst (λ x. Types here rest x ends) low b.2)), h.2.1, h.2.2),
      )

  pub if_stuck : (r : Option ValType) (inside : Code) (frames : List Frame) (old : Known) → IsStuck (Takes I32) old
      → ¬ Remains context (level (IfOf r inside rest) other ∷ levels) frames (Covers old)
  if_stuck r inside [] old p h = h
  if_stuck r inside (f ∷ fs) old p h = p h.0.0 h.0.2.0 h.0.1 h.0.2.1

  pub if_else_step : (r : Option ValType) (inside second : Code) (frames : List Frame) (old mid : Known) → IsImage (Takes I32) old mid
      → Remains context (level (IfElseOf r inside second rest) other ∷ levels) frames (Covers old)
      ↔ Remains context (level inside (Some second) ∷ level rest other ∷ levels) (frame_of closing.ElseOrEnd r r mid ∷ frames) (Covers (known [] false))
  if_else_step r inside second [] old mid p = (λ h. absurd h, λ h. absurd h.2)
  if_else_step r inside second (f ∷ fs) old mid p =
      let here : Context = inside_of context (f ∷ fs) in
      let ends : List ValType = option_to_list f.gives in (
        λ h.
            let t = h.0.2 in
            let under : Covers mid t.0 = (p t.0).1 (h.0.0, h.0.1, t.1) in
            (([], refl, t.2), t.3, ((option_to_list r ++ t.0, (t.0, under, refl), t.4), h.1, h.2)),
        λ h.
            let b = h.2.0 in
            let top = (p b.1.0).0 b.1.1 in
            let body = subst (λ x. Types (with_label (option_to_list r) here) inside x (option_to_list r)) h.0.1 h.0.2 in
            ((top.0, top.1, (b.1.0, top.2, body, h.1, subst (λ x. Types here rest x ends) b.1.2 b.2)), h.2.1, h.2.2),
      )

  pub if_else_stuck : (r : Option ValType) (inside second : Code) (frames : List Frame) (old : Known) → IsStuck (Takes I32) old
      → ¬ Remains context (level (IfElseOf r inside second rest) other ∷ levels) frames (Covers old)
  if_else_stuck r inside second [] old p h = h
  if_else_stuck r inside second (f ∷ fs) old p h = p h.0.0 h.0.2.0 h.0.1 h.0.2.1

-- from the same stacks the same remains
same_remains : (context : Context) (levels : List Level) (frames : List Frame) (S U : List ValType → Type 0) → ((x : List ValType) → S x → U x) → Remains context levels frames S → Remains context levels frames U
same_remains context [] frames S U k h = tt
same_remains context (l ∷ levels) [] S U k h = h
same_remains context (l ∷ levels) (f ∷ fs) S U k h = ((h.0.0, k h.0.0 h.0.1, h.0.2), h.1, h.2)

-- one value type or none, turned round
pub one_turned : (r : Option ValType) → reverse (option_to_list r) ≡ option_to_list r
one_turned None = refl
one_turned (Some t) = refl

-- a list is closed
pub end_step : (context : Context) (levels : List Level) (f : Frame) (frames : List Frame) (old new : Known) → Covers old (option_to_list f.gives) → (f.closing ≡ closing.ElseOrEnd → f.gives ≡ None)
    → IsImage (GivesAll (option_to_list f.gives)) f.below new
    → Remains context (level Empty None ∷ levels) (f ∷ frames) (Covers old) ↔ Remains context levels frames (Covers new)
end_step context levels f frames old new c none p = (
  λ h. same_remains context levels frames (GivesOnto f) (Covers new) to h.2,
  λ h. ((option_to_list f.gives, c, refl), none, same_remains context levels frames (Covers new) (GivesOnto f) from h),
)
  where
    ends : List ValType
    ends = option_to_list f.gives

    to : (x : List ValType) → GivesOnto f x → Covers new x
    to x g = (p x).1 (g.0, g.1, g.2 ∙ ap (λ l. l ++ g.0) (sym (one_turned f.gives)))

    from : (x : List ValType) → Covers new x → GivesOnto f x
    from x h = let b = (p x).0 h in (b.0, b.1, b.2 ∙ ap (λ l. l ++ b.0) (one_turned f.gives))

-- the operands can't be just what the list gives
pub end_stuck : (context : Context) (levels : List Level) (other : Option Code) (f : Frame) (frames : List Frame) (old : Known) → (Covers old (option_to_list f.gives) → ⊥) → ¬ Remains context (level Empty other ∷ levels) (f ∷ frames) (Covers old)
end_stuck context levels other f frames old never h = never (subst (λ x. Covers old x) (sym h.0.2) h.0.1)

-- an if without else gives something
pub end_if_stuck : (context : Context) (levels : List Level) (f : Frame) (frames : List Frame) (old : Known) → ((f.closing ≡ closing.ElseOrEnd → f.gives ≡ None) → ⊥) → ¬ Remains context (level Empty None ∷ levels) (f ∷ frames) (Covers old)
end_if_stuck context levels f frames old never h = never h.1

-- the second list of an if begins
pub else_step : (context : Context) (levels : List Level) (second : Code) (f : Frame) (frames : List Frame) (old : Known) → Covers old (option_to_list f.gives)
    → Remains context (level Empty (Some second) ∷ levels) (f ∷ frames) (Covers old)
    ↔ Remains context (level second None ∷ levels) (frame_of closing.End f.carries f.gives f.below ∷ frames) (Covers (known [] false))
else_step context levels second f frames old c = (
  λ h. (([], refl, h.1), λ e. cc, h.2),
  λ h. ((option_to_list f.gives, c, refl), subst (λ x. Types (inside_of context (f ∷ frames)) second x (option_to_list f.gives)) h.0.1 h.0.2, h.2),
)

pub no_frames : (context : Context) (l : Level) (levels : List Level) (old : Known) → ¬ Remains context (l ∷ levels) [] (Covers old)
no_frames context l levels old h = h
