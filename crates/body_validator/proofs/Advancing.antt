-- What a step makes of the lists that are left.
use Rattle.std.specs.Prelude.{◌↔◌, option_to_list}
use Rattle.std.proofs.Common.{◌≡◌, ℕ, ◌+◌, ◌<◌, ◌≤◌, ◌⊎◌, inl, inr, List, [], ◌∷◌, length, take, drop, false, Option, Some, None, refl, sym, ap, subst, ◌∙◌, arith}
use Rattle.wasm_form.specs.declared.value_type.ValType.{ValType}
use Rattle.wasm_form.specs.declared.value_type.ValType.TheVariants.{I32}
use Rattle.wasm_form.specs.declared.instr.Instr.{Instr}
use Rattle.wasm_form.specs.declared.instr.Imm.TheVariants as imm
use Rattle.wasm_form.specs.declared.sort.Sort.{Sort}
use Rattle.wasm_form.specs.declared.sort.Sort.TheVariants as sort
use Rattle.wasm_form.specs.Trees.{Code, Empty, Then, TableOf, BlockOf, LoopOf, IfOf, IfElseOf, block_instr, loop_instr, if_instr}
use Rattle.wasm_form.specs.Matching.{sort_of}
use Rattle.wasm_form.specs.Context.{Context}
use Rattle.wasm_form.specs.Typing.{Leads}
use Rattle.body_validator.specs.declared.frame.Closing.TheVariants as closing
use Rattle.body_validator.specs.declared.frame.Frame.{Frame}
use Rattle.body_validator.specs.declared.function.Function.{Function}
use Rattle.body_validator.specs.declared.checker.Checker.{Checker}
use Rattle.body_validator.specs.Covering.{Known, known, Covers, IsImage, IsStuck, Takes, GivesAll, TableLeads}
use Rattle.body_validator.specs.Frames.{labels_of as labels_in}
use Rattle.body_validator.specs.Functions.{IsContext}
use Rattle.body_validator.specs.Levels.{Level, level, Stands, inside_of, Remains, frame_of, IsLeftTyped, Advances, Refuses}
use Rattle.body_validator.proofs.Seen.{Seen, SeesPlain, SeesTable, SeesBlock, SeesLoop, SeesIf, SeesIfElse, SeesElse, SeesEnd, seen, sort_end, sort_else, sort_block, sort_loop, sort_if, sort_table}
use Rattle.body_validator.proofs.Remaining.{plain_step, plain_stuck, table_step, table_stuck, block_step, loop_step, if_step, if_stuck, if_else_step, if_else_stuck, end_step, end_stuck, end_if_stuck, else_step, no_frames}

-- an instruction has one sort
apart : {A : Type 0} (i : Instr) (s t : Sort) → (s ≡ t → ⊥) → sort_of i ≡ Some s → sort_of i ≡ Some t → A
apart i s t never p q = let e : Some s ≡ Some t = sym p ∙ q in let f : s ≡ t = cc in absurd (never f)

-- by its sort, what the next instruction says

pub plain_seen : (pool : List ℕ) (i : Instr) (left : List Instr) (levels : List Level) → sort_of i ≡ Some sort.Plain → Stands pool (i ∷ left) levels
    → (rest : Code) × (other : Option Code) × (ls : List Level) × (levels ≡ level (Then i rest) other ∷ ls) × Stands pool left (level rest other ∷ ls)
plain_seen pool i left levels q s = at (seen pool i left levels s)
  where
    at : Seen pool i left levels → (rest : Code) × (other : Option Code) × (ls : List Level) × (levels ≡ level (Then i rest) other ∷ ls) × Stands pool left (level rest other ∷ ls)
    at (SeesPlain rest other ls e p st) = (rest, other, ls, e, st)
    at (SeesTable labels last rest other ls first e h w t st) = apart i sort.Plain (sort.Table first (length labels)) (λ z. cc) q (ap sort_of h ∙ sort_table first (length labels) last)
    at (SeesBlock r a b other ls e h st) = apart i sort.Plain sort.Block (λ z. cc) q (ap sort_of h ∙ sort_block r)
    at (SeesLoop r a b other ls e h st) = apart i sort.Plain sort.Block (λ z. cc) q (ap sort_of h ∙ sort_loop r)
    at (SeesIf r a b other ls e h st) = apart i sort.Plain sort.If (λ z. cc) q (ap sort_of h ∙ sort_if r)
    at (SeesIfElse r a d b other ls e h st) = apart i sort.Plain sort.If (λ z. cc) q (ap sort_of h ∙ sort_if r)
    at (SeesElse d ls e h st) = apart i sort.Plain sort.Else (λ z. cc) q (ap sort_of h ∙ sort_else)
    at (SeesEnd ls e h st) = apart i sort.Plain sort.End (λ z. cc) q (ap sort_of h ∙ sort_end)

pub table_seen : (pool : List ℕ) (i : Instr) (left : List Instr) (levels : List Level) (first count : ℕ) → sort_of i ≡ Some (sort.Table first count) → Stands pool (i ∷ left) levels
    → (labels : List ℕ) × (last : ℕ) × (rest : Code) × (other : Option Code) × (ls : List Level) × (levels ≡ level (TableOf labels last rest) other ∷ ls) × (i.imm ≡ imm.Table first count last)
    × (first + count ≤ length pool) × (take count (drop first pool) ≡ labels) × Stands pool left (level rest other ∷ ls)
table_seen pool i left levels first count q s = at (seen pool i left levels s)
  where
    at : Seen pool i left levels → (labels : List ℕ) × (last : ℕ) × (rest : Code) × (other : Option Code) × (ls : List Level) × (levels ≡ level (TableOf labels last rest) other ∷ ls) × (i.imm ≡ imm.Table first count last)
        × (first + count ≤ length pool) × (take count (drop first pool) ≡ labels) × Stands pool left (level rest other ∷ ls)
    at (SeesPlain rest other ls e p st) = apart i (sort.Table first count) sort.Plain (λ z. cc) q p
    at (SeesTable labels last rest other ls from e h w t st) =
        let f : Some (sort.Table first count) ≡ Some (sort.Table from (length labels)) = sym q ∙ ap sort_of h ∙ sort_table from (length labels) last in
        let g : from ≡ first = cc in
        let m : length labels ≡ count = cc in (
          labels,
          last,
          rest,
          other,
          ls,
          e,
          ap (λ (j : Instr). j.imm) h ∙ ap (λ k. imm.Table k (length labels) last) g ∙ ap (λ k. imm.Table first k last) m,
          subst (λ k. first + k ≤ length pool) m (subst (λ k. k + length labels ≤ length pool) g w),
          subst (λ k. take k (drop first pool) ≡ labels) m (subst (λ k. take (length labels) (drop k pool) ≡ labels) g t),
          st,
        )
    at (SeesBlock r a b other ls e h st) = apart i (sort.Table first count) sort.Block (λ z. cc) q (ap sort_of h ∙ sort_block r)
    at (SeesLoop r a b other ls e h st) = apart i (sort.Table first count) sort.Block (λ z. cc) q (ap sort_of h ∙ sort_loop r)
    at (SeesIf r a b other ls e h st) = apart i (sort.Table first count) sort.If (λ z. cc) q (ap sort_of h ∙ sort_if r)
    at (SeesIfElse r a d b other ls e h st) = apart i (sort.Table first count) sort.If (λ z. cc) q (ap sort_of h ∙ sort_if r)
    at (SeesElse d ls e h st) = apart i (sort.Table first count) sort.Else (λ z. cc) q (ap sort_of h ∙ sort_else)
    at (SeesEnd ls e h st) = apart i (sort.Table first count) sort.End (λ z. cc) q (ap sort_of h ∙ sort_end)

pub block_seen : (pool : List ℕ) (i : Instr) (left : List Instr) (levels : List Level) → sort_of i ≡ Some sort.Block → Stands pool (i ∷ left) levels
    → ((r : Option ValType) × (a : Code) × (b : Code) × (other : Option Code) × (ls : List Level) × (levels ≡ level (BlockOf r a b) other ∷ ls) × (i ≡ block_instr r) × Stands pool left (level a None ∷ level b other ∷ ls))
    ⊎ ((r : Option ValType) × (a : Code) × (b : Code) × (other : Option Code) × (ls : List Level) × (levels ≡ level (LoopOf r a b) other ∷ ls) × (i ≡ loop_instr r) × Stands pool left (level a None ∷ level b other ∷ ls))
block_seen pool i left levels q s = at (seen pool i left levels s)
  where
    at : Seen pool i left levels → ((r : Option ValType) × (a : Code) × (b : Code) × (other : Option Code) × (ls : List Level) × (levels ≡ level (BlockOf r a b) other ∷ ls) × (i ≡ block_instr r) × Stands pool left (level a None ∷ level b other ∷ ls))
        ⊎ ((r : Option ValType) × (a : Code) × (b : Code) × (other : Option Code) × (ls : List Level) × (levels ≡ level (LoopOf r a b) other ∷ ls) × (i ≡ loop_instr r) × Stands pool left (level a None ∷ level b other ∷ ls))
    at (SeesPlain rest other ls e p st) = apart i sort.Block sort.Plain (λ z. cc) q p
    at (SeesTable labels last rest other ls first e h w t st) = apart i sort.Block (sort.Table first (length labels)) (λ z. cc) q (ap sort_of h ∙ sort_table first (length labels) last)
    at (SeesBlock r a b other ls e h st) = inl (r, a, b, other, ls, e, h, st)
    at (SeesLoop r a b other ls e h st) = inr (r, a, b, other, ls, e, h, st)
    at (SeesIf r a b other ls e h st) = apart i sort.Block sort.If (λ z. cc) q (ap sort_of h ∙ sort_if r)
    at (SeesIfElse r a d b other ls e h st) = apart i sort.Block sort.If (λ z. cc) q (ap sort_of h ∙ sort_if r)
    at (SeesElse d ls e h st) = apart i sort.Block sort.Else (λ z. cc) q (ap sort_of h ∙ sort_else)
    at (SeesEnd ls e h st) = apart i sort.Block sort.End (λ z. cc) q (ap sort_of h ∙ sort_end)

pub if_seen : (pool : List ℕ) (i : Instr) (left : List Instr) (levels : List Level) → sort_of i ≡ Some sort.If → Stands pool (i ∷ left) levels
    → ((r : Option ValType) × (a : Code) × (b : Code) × (other : Option Code) × (ls : List Level) × (levels ≡ level (IfOf r a b) other ∷ ls) × (i ≡ if_instr r) × Stands pool left (level a None ∷ level b other ∷ ls))
    ⊎ ((r : Option ValType) × (a : Code) × (d : Code) × (b : Code) × (other : Option Code) × (ls : List Level) × (levels ≡ level (IfElseOf r a d b) other ∷ ls) × (i ≡ if_instr r) × Stands pool left (level a (Some d) ∷ level b other ∷ ls))
if_seen pool i left levels q s = at (seen pool i left levels s)
  where
    at : Seen pool i left levels → ((r : Option ValType) × (a : Code) × (b : Code) × (other : Option Code) × (ls : List Level) × (levels ≡ level (IfOf r a b) other ∷ ls) × (i ≡ if_instr r) × Stands pool left (level a None ∷ level b other ∷ ls))
        ⊎ ((r : Option ValType) × (a : Code) × (d : Code) × (b : Code) × (other : Option Code) × (ls : List Level) × (levels ≡ level (IfElseOf r a d b) other ∷ ls) × (i ≡ if_instr r) × Stands pool left (level a (Some d) ∷ level b other ∷ ls))
    at (SeesPlain rest other ls e p st) = apart i sort.If sort.Plain (λ z. cc) q p
    at (SeesTable labels last rest other ls first e h w t st) = apart i sort.If (sort.Table first (length labels)) (λ z. cc) q (ap sort_of h ∙ sort_table first (length labels) last)
    at (SeesBlock r a b other ls e h st) = apart i sort.If sort.Block (λ z. cc) q (ap sort_of h ∙ sort_block r)
    at (SeesLoop r a b other ls e h st) = apart i sort.If sort.Block (λ z. cc) q (ap sort_of h ∙ sort_loop r)
    at (SeesIf r a b other ls e h st) = inl (r, a, b, other, ls, e, h, st)
    at (SeesIfElse r a d b other ls e h st) = inr (r, a, d, b, other, ls, e, h, st)
    at (SeesElse d ls e h st) = apart i sort.If sort.Else (λ z. cc) q (ap sort_of h ∙ sort_else)
    at (SeesEnd ls e h st) = apart i sort.If sort.End (λ z. cc) q (ap sort_of h ∙ sort_end)

pub else_seen : (pool : List ℕ) (i : Instr) (left : List Instr) (levels : List Level) → sort_of i ≡ Some sort.Else → Stands pool (i ∷ left) levels
    → (d : Code) × (ls : List Level) × (levels ≡ level Empty (Some d) ∷ ls) × Stands pool left (level d None ∷ ls)
else_seen pool i left levels q s = at (seen pool i left levels s)
  where
    at : Seen pool i left levels → (d : Code) × (ls : List Level) × (levels ≡ level Empty (Some d) ∷ ls) × Stands pool left (level d None ∷ ls)
    at (SeesPlain rest other ls e p st) = apart i sort.Else sort.Plain (λ z. cc) q p
    at (SeesTable labels last rest other ls first e h w t st) = apart i sort.Else (sort.Table first (length labels)) (λ z. cc) q (ap sort_of h ∙ sort_table first (length labels) last)
    at (SeesBlock r a b other ls e h st) = apart i sort.Else sort.Block (λ z. cc) q (ap sort_of h ∙ sort_block r)
    at (SeesLoop r a b other ls e h st) = apart i sort.Else sort.Block (λ z. cc) q (ap sort_of h ∙ sort_loop r)
    at (SeesIf r a b other ls e h st) = apart i sort.Else sort.If (λ z. cc) q (ap sort_of h ∙ sort_if r)
    at (SeesIfElse r a d b other ls e h st) = apart i sort.Else sort.If (λ z. cc) q (ap sort_of h ∙ sort_if r)
    at (SeesElse d ls e h st) = (d, ls, e, st)
    at (SeesEnd ls e h st) = apart i sort.Else sort.End (λ z. cc) q (ap sort_of h ∙ sort_end)

pub end_seen : (pool : List ℕ) (i : Instr) (left : List Instr) (levels : List Level) → sort_of i ≡ Some sort.End → Stands pool (i ∷ left) levels
    → (ls : List Level) × (levels ≡ level Empty None ∷ ls) × Stands pool left ls
end_seen pool i left levels q s = at (seen pool i left levels s)
  where
    at : Seen pool i left levels → (ls : List Level) × (levels ≡ level Empty None ∷ ls) × Stands pool left ls
    at (SeesPlain rest other ls e p st) = apart i sort.End sort.Plain (λ z. cc) q p
    at (SeesTable labels last rest other ls first e h w t st) = apart i sort.End (sort.Table first (length labels)) (λ z. cc) q (ap sort_of h ∙ sort_table first (length labels) last)
    at (SeesBlock r a b other ls e h st) = apart i sort.End sort.Block (λ z. cc) q (ap sort_of h ∙ sort_block r)
    at (SeesLoop r a b other ls e h st) = apart i sort.End sort.Block (λ z. cc) q (ap sort_of h ∙ sort_loop r)
    at (SeesIf r a b other ls e h st) = apart i sort.End sort.If (λ z. cc) q (ap sort_of h ∙ sort_if r)
    at (SeesIfElse r a d b other ls e h st) = apart i sort.End sort.If (λ z. cc) q (ap sort_of h ∙ sort_if r)
    at (SeesElse d ls e h st) = apart i sort.End sort.Else (λ z. cc) q (ap sort_of h ∙ sort_else)
    at (SeesEnd ls e h st) = (ls, e, st)

none_seen : (pool : List ℕ) (i : Instr) (left : List Instr) (levels : List Level) → sort_of i ≡ None → Stands pool (i ∷ left) levels → ⊥
none_seen pool i left levels q s = at (seen pool i left levels s)
  where
    some : (t : Sort) → sort_of i ≡ Some t → ⊥
    some t p = let e : None ≡ Some t = sym q ∙ p in absurd (cc e)

    at : Seen pool i left levels → ⊥
    at (SeesPlain rest other ls e p st) = some sort.Plain p
    at (SeesTable labels last rest other ls first e h w t st) = some (sort.Table first (length labels)) (ap sort_of h ∙ sort_table first (length labels) last)
    at (SeesBlock r a b other ls e h st) = some sort.Block (ap sort_of h ∙ sort_block r)
    at (SeesLoop r a b other ls e h st) = some sort.Block (ap sort_of h ∙ sort_loop r)
    at (SeesIf r a b other ls e h st) = some sort.If (ap sort_of h ∙ sort_if r)
    at (SeesIfElse r a d b other ls e h st) = some sort.If (ap sort_of h ∙ sort_if r)
    at (SeesElse d ls e h st) = some sort.Else (ap sort_of h ∙ sort_else)
    at (SeesEnd ls e h st) = some sort.End (ap sort_of h ∙ sort_end)

-- the same about equal places
moved : (context : Context) (ls ls' ns : List Level) (fs fs' gs gs' : List Frame) (K J J' : Known) → ls ≡ ls' → fs ≡ fs' → gs ≡ gs' → J ≡ J'
    → Remains context ls' fs' (Covers K) ↔ Remains context ns gs' (Covers J') → Remains context ls fs (Covers K) ↔ Remains context ns gs (Covers J)
moved context ls ls' ns fs fs' gs gs' K J J' a b c d h = (
  λ x. subst (λ k. Remains context ns gs (Covers k)) (sym d) (subst (λ k. Remains context ns k (Covers J')) (sym c) (h.0 (subst (λ k. Remains context ls' k (Covers K)) b (subst (λ k. Remains context k fs (Covers K)) a x)))),
  λ x. subst (λ k. Remains context k fs (Covers K)) (sym a) (subst (λ k. Remains context ls' k (Covers K)) (sym b) (h.1 (subst (λ k. Remains context ns k (Covers J')) c (subst (λ k. Remains context ns gs (Covers k)) d x)))),
)

not_moved : (context : Context) (ls ls' : List Level) (fs fs' : List Frame) (K : Known) → ls ≡ ls' → fs ≡ fs' → ¬ Remains context ls' fs' (Covers K) → ¬ Remains context ls fs (Covers K)
not_moved context ls ls' fs fs' K a b h x = h (subst (λ k. Remains context ls' k (Covers K)) b (subst (λ k. Remains context k fs (Covers K)) a x))

-- inside the lists that have begun the context is the function's
pub inside_context : (function : Function) (context : Context) (frames : List Frame) → IsContext function context → IsContext function (inside_of context frames)
inside_context function context frames is =
    record { types = is.types; functions = is.functions; table = is.table; memory = is.memory; globals = is.globals; locals = is.locals; results = is.results }

module _ (function : Function) (pool : List ℕ) (old new : Checker) where
  pub plain_advances : (i : Instr) → sort_of i ≡ Some sort.Plain → old.frames ≡ new.frames
      → ((context : Context) → IsContext function context → context.labels ≡ labels_in old.frames → IsImage (Leads context i) old.operands new.operands) → Advances function pool i old new
  plain_advances i q same p context left levels is s =
      let w = plain_seen pool i left levels q s in (
        level w.0 w.1 ∷ w.2,
        w.4,
        moved context levels (level (Then i w.0) w.1 ∷ w.2) (level w.0 w.1 ∷ w.2) old.frames old.frames new.frames old.frames old.operands new.operands new.operands w.3 refl (sym same) refl
            (plain_step context w.0 w.1 w.2 i old.frames old.operands new.operands (p (inside_of context old.frames) (inside_context function context old.frames is) refl)),
      )

  pub plain_refuses : (i : Instr) → sort_of i ≡ Some sort.Plain
      → ((context : Context) → IsContext function context → context.labels ≡ labels_in old.frames → IsStuck (Leads context i) old.operands) → Refuses function pool i old
  plain_refuses i q p context left levels is s =
      let w = plain_seen pool i left levels q s in
      not_moved context levels (level (Then i w.0) w.1 ∷ w.2) old.frames old.frames old.operands w.3 refl
      (plain_stuck context w.0 w.1 w.2 i old.frames old.operands (p (inside_of context old.frames) (inside_context function context old.frames is) refl))

  same_last : (i : Instr) (first count a b : ℕ) → i.imm ≡ imm.Table first count a → i.imm ≡ imm.Table first count b → b ≡ a
  same_last i first count a b e f = let g : imm.Table first count a ≡ imm.Table first count b = sym e ∙ f in cc

  pub table_advances : (i : Instr) (first count last from many : ℕ) (labels : List ℕ) → sort_of i ≡ Some (sort.Table first count) → i.imm ≡ imm.Table from many last → labels ≡ take count (drop first pool) → old.frames ≡ new.frames
      → ((context : Context) → context.labels ≡ labels_in old.frames → IsImage (TableLeads context labels last) old.operands new.operands) → Advances function pool i old new
  table_advances i first count last from many labels q m t same p context left levels is s =
      let w = table_seen pool i left levels first count q s in
      let f : imm.Table from many last ≡ imm.Table first count w.1 = sym m ∙ w.6 in
      let a : last ≡ w.1 = cc in
      let l : labels ≡ w.0 = t ∙ w.8 in (
        level w.2 w.3 ∷ w.4,
        w.9,
        moved context levels (level (TableOf w.0 w.1 w.2) w.3 ∷ w.4) (level w.2 w.3 ∷ w.4) old.frames old.frames new.frames old.frames old.operands new.operands new.operands w.5 refl (sym same) refl
            (table_step context w.2 w.3 w.4 w.0 w.1 old.frames old.operands new.operands
            (subst (λ k. IsImage (TableLeads (inside_of context old.frames) w.0 k) old.operands new.operands) a (subst (λ k. IsImage (TableLeads (inside_of context old.frames) k last) old.operands new.operands) l (p (inside_of context old.frames) refl)))),
      )

  pub table_refuses : (i : Instr) (first count last from many : ℕ) (labels : List ℕ) → sort_of i ≡ Some (sort.Table first count) → i.imm ≡ imm.Table from many last → labels ≡ take count (drop first pool)
      → ((context : Context) → context.labels ≡ labels_in old.frames → IsStuck (TableLeads context labels last) old.operands) → Refuses function pool i old
  table_refuses i first count last from many labels q m t p context left levels is s =
      let w = table_seen pool i left levels first count q s in
      let f : imm.Table from many last ≡ imm.Table first count w.1 = sym m ∙ w.6 in
      let a : last ≡ w.1 = cc in
      let l : labels ≡ w.0 = t ∙ w.8 in
      not_moved context levels (level (TableOf w.0 w.1 w.2) w.3 ∷ w.4) old.frames old.frames old.operands w.5 refl
      (table_stuck context w.2 w.3 w.4 w.0 w.1 old.frames old.operands
      (subst (λ k. IsStuck (TableLeads (inside_of context old.frames) w.0 k) old.operands) a (subst (λ k. IsStuck (TableLeads (inside_of context old.frames) k last) old.operands) l (p (inside_of context old.frames) refl))))

  -- no such table
  pub table_never : (i : Instr) (first count : ℕ) → sort_of i ≡ Some (sort.Table first count) → ((from many last : ℕ) → i.imm ≡ imm.Table from many last → ⊥) → Refuses function pool i old
  table_never i first count q never context left levels is s = let w = table_seen pool i left levels first count q s in absurd (never first count w.1 w.6)

  pub table_past : (i : Instr) (first count : ℕ) → sort_of i ≡ Some (sort.Table first count) → length pool < first + count → Refuses function pool i old
  table_past i first count q past context left levels is s = let w = table_seen pool i left levels first count q s in absurd (let k = w.7 in omega (arith, k, past))

  pub end_advances : (i : Instr) → sort_of i ≡ Some sort.End → (f : Frame) (frames : List Frame) → old.frames ≡ f ∷ frames → Covers old.operands (option_to_list f.gives) → (f.closing ≡ closing.ElseOrEnd → f.gives ≡ None)
      → new.frames ≡ frames → IsImage (GivesAll (option_to_list f.gives)) f.below new.operands → Advances function pool i old new
  end_advances i q f frames e c none same p context left levels is s =
      let w = end_seen pool i left levels q s in (
        w.0,
        w.2,
        moved context levels (level Empty None ∷ w.0) w.0 old.frames (f ∷ frames) new.frames frames old.operands new.operands new.operands w.1 e same refl
            (end_step context w.0 f frames old.operands new.operands c none p),
      )

  pub end_refuses : (i : Instr) → sort_of i ≡ Some sort.End → (f : Frame) (frames : List Frame) → old.frames ≡ f ∷ frames → (Covers old.operands (option_to_list f.gives) → ⊥) → Refuses function pool i old
  end_refuses i q f frames e never context left levels is s =
      let w = end_seen pool i left levels q s in
      not_moved context levels (level Empty None ∷ w.0) old.frames (f ∷ frames) old.operands w.1 e (end_stuck context w.0 None f frames old.operands never)

  pub if_end_refuses : (i : Instr) → sort_of i ≡ Some sort.End → (f : Frame) (frames : List Frame) → old.frames ≡ f ∷ frames → ((f.closing ≡ closing.ElseOrEnd → f.gives ≡ None) → ⊥) → Refuses function pool i old
  if_end_refuses i q f frames e never context left levels is s =
      let w = end_seen pool i left levels q s in
      not_moved context levels (level Empty None ∷ w.0) old.frames (f ∷ frames) old.operands w.1 e (end_if_stuck context w.0 f frames old.operands never)

  pub end_no_frames : (i : Instr) → sort_of i ≡ Some sort.End → old.frames ≡ [] → Refuses function pool i old
  end_no_frames i q e context left levels is s =
      let w = end_seen pool i left levels q s in
      not_moved context levels (level Empty None ∷ w.0) old.frames [] old.operands w.1 e (no_frames context (level Empty None) w.0 old.operands)

  pub else_advances : (i : Instr) → sort_of i ≡ Some sort.Else → (f : Frame) (frames : List Frame) → old.frames ≡ f ∷ frames → Covers old.operands (option_to_list f.gives)
      → new.frames ≡ frame_of closing.End f.carries f.gives f.below ∷ frames → new.operands ≡ known [] false → Advances function pool i old new
  else_advances i q f frames e c same empty context left levels is s =
      let w = else_seen pool i left levels q s in (
        level w.0 None ∷ w.1,
        w.3,
        moved context levels (level Empty (Some w.0) ∷ w.1) (level w.0 None ∷ w.1) old.frames (f ∷ frames) new.frames (frame_of closing.End f.carries f.gives f.below ∷ frames) old.operands new.operands (known [] false) w.2 e same empty
            (else_step context w.1 w.0 f frames old.operands c),
      )

  pub else_refuses : (i : Instr) → sort_of i ≡ Some sort.Else → (f : Frame) (frames : List Frame) → old.frames ≡ f ∷ frames → (Covers old.operands (option_to_list f.gives) → ⊥) → Refuses function pool i old
  else_refuses i q f frames e never context left levels is s =
      let w = else_seen pool i left levels q s in
      not_moved context levels (level Empty (Some w.0) ∷ w.1) old.frames (f ∷ frames) old.operands w.2 e (end_stuck context w.1 (Some w.0) f frames old.operands never)

  pub else_no_frames : (i : Instr) → sort_of i ≡ Some sort.Else → old.frames ≡ [] → Refuses function pool i old
  else_no_frames i q e context left levels is s =
      let w = else_seen pool i left levels q s in
      not_moved context levels (level Empty (Some w.0) ∷ w.1) old.frames [] old.operands w.2 e (no_frames context (level Empty (Some w.0)) w.1 old.operands)

  -- block and loop, by the code
  pub block_advances : (i : Instr) (r carries : Option ValType) → sort_of i ≡ Some sort.Block → i.imm ≡ imm.Block r → (i.code ≡ 0x03 → carries ≡ None) → ((i.code ≡ 0x03 → ⊥) → carries ≡ r)
      → new.frames ≡ frame_of closing.End carries r old.operands ∷ old.frames → new.operands ≡ known [] false → Advances function pool i old new
  block_advances i r carries q m loop block same empty context left levels is s = at (block_seen pool i left levels q s)
    where
      at : ((r : Option ValType) × (a : Code) × (b : Code) × (other : Option Code) × (ls : List Level) × (levels ≡ level (BlockOf r a b) other ∷ ls) × (i ≡ block_instr r) × Stands pool left (level a None ∷ level b other ∷ ls))
          ⊎ ((r : Option ValType) × (a : Code) × (b : Code) × (other : Option Code) × (ls : List Level) × (levels ≡ level (LoopOf r a b) other ∷ ls) × (i ≡ loop_instr r) × Stands pool left (level a None ∷ level b other ∷ ls))
          → (next : List Level) × Stands pool left next × (IsLeftTyped context levels old ↔ IsLeftTyped context next new)
      at (inl (u, a, b, other, ls, e, h, st)) =
          let f : imm.Block r ≡ imm.Block u = sym m ∙ ap (λ (j : Instr). j.imm) h in
          let g : r ≡ u = cc in
          let code : i.code ≡ 0x02 = ap (λ (j : Instr). j.code) h in
          let k : carries ≡ u = block (λ z. omega (arith, z, code)) ∙ g in
          let fr : new.frames ≡ frame_of closing.End u u old.operands ∷ old.frames =
          same ∙ ap (λ x. frame_of closing.End x r old.operands ∷ old.frames) k ∙ ap (λ x. frame_of closing.End u x old.operands ∷ old.frames) g
          in (
            level a None ∷ level b other ∷ ls,
            st,
            moved context levels (level (BlockOf u a b) other ∷ ls) (level a None ∷ level b other ∷ ls) old.frames old.frames new.frames (frame_of closing.End u u old.operands ∷ old.frames) old.operands new.operands (known [] false) e refl fr empty
                (block_step context b other ls u a old.frames old.operands),
          )
      at (inr (u, a, b, other, ls, e, h, st)) =
          let f : imm.Block r ≡ imm.Block u = sym m ∙ ap (λ (j : Instr). j.imm) h in
          let g : r ≡ u = cc in
          let code : i.code ≡ 0x03 = ap (λ (j : Instr). j.code) h in
          let fr : new.frames ≡ frame_of closing.End None u old.operands ∷ old.frames =
          same ∙ ap (λ x. frame_of closing.End x r old.operands ∷ old.frames) (loop code) ∙ ap (λ x. frame_of closing.End None x old.operands ∷ old.frames) g
          in (
            level a None ∷ level b other ∷ ls,
            st,
            moved context levels (level (LoopOf u a b) other ∷ ls) (level a None ∷ level b other ∷ ls) old.frames old.frames new.frames (frame_of closing.End None u old.operands ∷ old.frames) old.operands new.operands (known [] false) e refl fr empty
                (loop_step context b other ls u a old.frames old.operands),
          )

  pub block_never : (i : Instr) → sort_of i ≡ Some sort.Block → ((r : Option ValType) → i.imm ≡ imm.Block r → ⊥) → Refuses function pool i old
  block_never i q never context left levels is s = at (block_seen pool i left levels q s)
    where
      at : ((r : Option ValType) × (a : Code) × (b : Code) × (other : Option Code) × (ls : List Level) × (levels ≡ level (BlockOf r a b) other ∷ ls) × (i ≡ block_instr r) × Stands pool left (level a None ∷ level b other ∷ ls))
          ⊎ ((r : Option ValType) × (a : Code) × (b : Code) × (other : Option Code) × (ls : List Level) × (levels ≡ level (LoopOf r a b) other ∷ ls) × (i ≡ loop_instr r) × Stands pool left (level a None ∷ level b other ∷ ls))
          → ¬ IsLeftTyped context levels old
      at (inl (u, a, b, other, ls, e, h, st)) = absurd (never u (ap (λ (j : Instr). j.imm) h))
      at (inr (u, a, b, other, ls, e, h, st)) = absurd (never u (ap (λ (j : Instr). j.imm) h))

  pub if_advances : (i : Instr) (r : Option ValType) (mid : Known) → sort_of i ≡ Some sort.If → i.imm ≡ imm.Block r → IsImage (Takes I32) old.operands mid
      → new.frames ≡ frame_of closing.ElseOrEnd r r mid ∷ old.frames → new.operands ≡ known [] false → Advances function pool i old new
  if_advances i r mid q m p same empty context left levels is s = at (if_seen pool i left levels q s)
    where
      at : ((r : Option ValType) × (a : Code) × (b : Code) × (other : Option Code) × (ls : List Level) × (levels ≡ level (IfOf r a b) other ∷ ls) × (i ≡ if_instr r) × Stands pool left (level a None ∷ level b other ∷ ls))
          ⊎ ((r : Option ValType) × (a : Code) × (d : Code) × (b : Code) × (other : Option Code) × (ls : List Level) × (levels ≡ level (IfElseOf r a d b) other ∷ ls) × (i ≡ if_instr r) × Stands pool left (level a (Some d) ∷ level b other ∷ ls))
          → (next : List Level) × Stands pool left next × (IsLeftTyped context levels old ↔ IsLeftTyped context next new)
      at (inl (u, a, b, other, ls, e, h, st)) =
          let f : imm.Block r ≡ imm.Block u = sym m ∙ ap (λ (j : Instr). j.imm) h in
          let g : r ≡ u = cc in
          let fr : new.frames ≡ frame_of closing.ElseOrEnd u u mid ∷ old.frames = same ∙ ap (λ x. frame_of closing.ElseOrEnd x x mid ∷ old.frames) g in (
            level a None ∷ level b other ∷ ls,
            st,
            moved context levels (level (IfOf u a b) other ∷ ls) (level a None ∷ level b other ∷ ls) old.frames old.frames new.frames (frame_of closing.ElseOrEnd u u mid ∷ old.frames) old.operands new.operands (known [] false) e refl fr empty
                (if_step context b other ls u a old.frames old.operands mid p),
          )
      at (inr (u, a, d, b, other, ls, e, h, st)) =
          let f : imm.Block r ≡ imm.Block u = sym m ∙ ap (λ (j : Instr). j.imm) h in
          let g : r ≡ u = cc in
          let fr : new.frames ≡ frame_of closing.ElseOrEnd u u mid ∷ old.frames = same ∙ ap (λ x. frame_of closing.ElseOrEnd x x mid ∷ old.frames) g in (
            level a (Some d) ∷ level b other ∷ ls,
            st,
            moved context levels (level (IfElseOf u a d b) other ∷ ls) (level a (Some d) ∷ level b other ∷ ls) old.frames old.frames new.frames (frame_of closing.ElseOrEnd u u mid ∷ old.frames) old.operands new.operands (known [] false) e refl fr empty
                (if_else_step context b other ls u a d old.frames old.operands mid p),
          )

  pub if_refuses : (i : Instr) → sort_of i ≡ Some sort.If → IsStuck (Takes I32) old.operands → Refuses function pool i old
  if_refuses i q p context left levels is s = at (if_seen pool i left levels q s)
    where
      at : ((r : Option ValType) × (a : Code) × (b : Code) × (other : Option Code) × (ls : List Level) × (levels ≡ level (IfOf r a b) other ∷ ls) × (i ≡ if_instr r) × Stands pool left (level a None ∷ level b other ∷ ls))
          ⊎ ((r : Option ValType) × (a : Code) × (d : Code) × (b : Code) × (other : Option Code) × (ls : List Level) × (levels ≡ level (IfElseOf r a d b) other ∷ ls) × (i ≡ if_instr r) × Stands pool left (level a (Some d) ∷ level b other ∷ ls))
          → ¬ IsLeftTyped context levels old
      at (inl (u, a, b, other, ls, e, h, st)) = not_moved context levels (level (IfOf u a b) other ∷ ls) old.frames old.frames old.operands e refl (if_stuck context b other ls u a old.frames old.operands p)
      at (inr (u, a, d, b, other, ls, e, h, st)) = not_moved context levels (level (IfElseOf u a d b) other ∷ ls) old.frames old.frames old.operands e refl (if_else_stuck context b other ls u a d old.frames old.operands p)

  pub if_never : (i : Instr) → sort_of i ≡ Some sort.If → ((r : Option ValType) → i.imm ≡ imm.Block r → ⊥) → Refuses function pool i old
  if_never i q never context left levels is s = at (if_seen pool i left levels q s)
    where
      at : ((r : Option ValType) × (a : Code) × (b : Code) × (other : Option Code) × (ls : List Level) × (levels ≡ level (IfOf r a b) other ∷ ls) × (i ≡ if_instr r) × Stands pool left (level a None ∷ level b other ∷ ls))
          ⊎ ((r : Option ValType) × (a : Code) × (d : Code) × (b : Code) × (other : Option Code) × (ls : List Level) × (levels ≡ level (IfElseOf r a d b) other ∷ ls) × (i ≡ if_instr r) × Stands pool left (level a (Some d) ∷ level b other ∷ ls))
          → ¬ IsLeftTyped context levels old
      at (inl (u, a, b, other, ls, e, h, st)) = absurd (never u (ap (λ (j : Instr). j.imm) h))
      at (inr (u, a, d, b, other, ls, e, h, st)) = absurd (never u (ap (λ (j : Instr). j.imm) h))

  -- what is no instruction stands nowhere
  pub nothing_sorted : (i : Instr) → sort_of i ≡ None → Refuses function pool i old
  nothing_sorted i q context left levels is s = absurd (none_seen pool i left levels q s)
