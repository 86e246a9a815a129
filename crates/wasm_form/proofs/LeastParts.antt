-- No spelling is shorter than the least length.
use Rattle.std.proofs.Common.{◌≡◌, ℕ, suc, ◌+◌, ◌≤◌, List, [], ◌∷◌, ◌++◌, length, length-append, sum_by, Bool, true, false, Option, Some, None, arith, refl, ap, subst, sym}
use Rattle.std.proofs.lemmas.List.Sums.{sum_by-cons, sum_by-append}
use Rattle.wasm_form.specs.Values.{SpellsU32, SpellsItems, SpellsVector, SpellsBytes, SpellsName, SpellsSized}
use Rattle.wasm_form.specs.Types.{SpellsValType, SpellsBlockType, SpellsFuncType, SpellsMinMax, SpellsLimits, SpellsTableType, SpellsMutability, SpellsGlobalType}
use Rattle.wasm_form.specs.Instructions.{immediates_of, SpellsImmediates, SpellsPlain}
use Rattle.wasm_form.specs.Trees.{Code, Empty, Then, TableOf, BlockOf, LoopOf, IfOf, IfElseOf, SpellsTable, SpellsCode, SpellsExpr, flat, labels_of, end_instr, else_instr, block_instr, loop_instr, if_instr, table_instr}
use Rattle.wasm_form.specs.Sections.{SpellsImported, SpellsImport, SpellsGlobal, SpellsExportKind, SpellsExport, SpellsElement, SpellsRun, SpellsFunction, SpellsBody, SpellsSegment}
use Rattle.wasm_form.specs.Least.{least_unsigned, least_vector, least_bytes, least_sized, least_val_type, least_func_type, least_max, least_limits, least_table_type, least_imm, zero_byte, least_instr, least_expr, least_imported, least_import, least_global, least_export, least_element, least_run, least_function, least_body, least_segment}
use Rattle.wasm_form.specs.declared.value_type.ValType.{ValType}
use Rattle.wasm_form.specs.declared.instr.Instr.{Instr}
use Rattle.wasm_form.specs.declared.instr.Imm.{Imm}
use Rattle.wasm_form.specs.declared.immediates.Immediates.{Immediates}
use Rattle.wasm_form.specs.declared.immediates.Immediates.TheVariants as kind
use Rattle.wasm_form.specs.declared.parts.Imported.{Imported}
use Rattle.wasm_form.specs.declared.parts.Imported.TheVariants as imported
use Rattle.wasm_form.specs.declared.parts.ExportKind.{ExportKind}
use Rattle.wasm_form.specs.declared.parts.ExportKind.TheVariants as exports
use Rattle.wasm_form.proofs.OneType.{is_byte}
use Rattle.wasm_form.proofs.LeastNumbers.{at_least_unsigned, at_least_below, at_least_s32, at_least_s64}

-- no bytes that spell x are fewer than f x
pub record AtLeast {A : Type 0} (S : List ℕ → A → Type 0) (f : A → ℕ) : Type 0 where
  pub at : (x : A) (s : List ℕ) → S s x → f x ≤ length s

pub number : AtLeast SpellsU32 least_unsigned
number = record { at = at_least_unsigned }

at_least_items : {A : Type 0} (S : List ℕ → A → Type 0) (f : A → ℕ) → AtLeast S f → (xs : List A) (s : List ℕ) → SpellsItems S s xs → sum_by f xs ≤ length s
at_least_items S f law [] s h = omega arith
at_least_items S f law (x ∷ xs) s h =
    omega (arith, sum_by-cons f x xs, law.at x h.0 h.2, at_least_items S f law xs h.1 h.3, ap length h.4, length-append h.0 h.1)

pub vector : {A : Type 0} (S : List ℕ → A → Type 0) (f : A → ℕ) → AtLeast S f → AtLeast (SpellsVector S) (least_vector f)
vector S f law = record { at = λ xs s h. omega (arith, at_least_unsigned (length xs) h.0 h.2, at_least_items S f law xs h.1 h.3, ap length h.4, length-append h.0 h.1) }

pub bytes : AtLeast SpellsBytes least_bytes
bytes = record { at = λ content s h. omega (arith, at_least_unsigned (length content) h.0 h.1, ap length h.2, length-append h.0 content) }

pub name : AtLeast SpellsName least_bytes
name = record { at = λ content s h. bytes.at content s h.0 }

pub sized : {A : Type 0} (S : List ℕ → A → Type 0) (f : A → ℕ) → AtLeast S f → AtLeast (SpellsSized S) (λ x. least_sized (f x))
sized S f law =
    record {
      at = λ x s h.
          let few : f x ≤ length h.1 = law.at x h.1 h.3 in
          let size : least_unsigned (f x) ≤ length h.0 = at_least_below (f x) (length h.1) h.0 h.2 few in
          omega (arith, few, size, ap length h.4, length-append h.0 h.1);
    }

pub val_type : AtLeast SpellsValType least_val_type
val_type = record { at = λ ty s h. omega (arith, ap length (is_byte s ty h)) }

block_type : (result : Option ValType) (s : List ℕ) → SpellsBlockType s result → 1 ≤ length s
block_type None s h = omega (arith, ap length h)
block_type (Some ty) s h = val_type.at ty s h

pub func_type : AtLeast SpellsFuncType least_func_type
func_type =
    record {
      at = λ ty s h.
          omega (arith, (vector SpellsValType least_val_type val_type).at ty.params h.0 h.2, (vector SpellsValType least_val_type val_type).at ty.results h.1 h.3, ap length h.4, length-append h.0 h.1);
    }

min_max : (min : ℕ) (max : Option ℕ) (s : List ℕ) → SpellsMinMax s min max → 1 + (least_unsigned min + least_max max) ≤ length s
min_max min None s h = omega (arith, at_least_unsigned min h.0 h.1, ap length h.2)
min_max min (Some max) s h = omega (arith, at_least_unsigned min h.0 h.2, at_least_unsigned max h.1 h.3, ap length h.4, length-append h.0 h.1)

pub limits : AtLeast SpellsLimits least_limits
limits = record { at = λ bounds s h. min_max bounds.min bounds.max s h }

pub table_type : AtLeast SpellsTableType least_table_type
table_type = record { at = λ bounds s h. omega (arith, limits.at bounds h.0 h.1, ap length h.2) }

mutability : (b : Bool) (s : List ℕ) → SpellsMutability s b → 1 ≤ length s
mutability false s h = omega (arith, ap length h)
mutability true s h = omega (arith, ap length h)

global_type : AtLeast SpellsGlobalType (λ ty. 2)
global_type = record { at = λ ty s h. omega (arith, val_type.at ty.ty h.0 h.2, mutability ty.mutable h.1 h.3, ap length h.4, length-append h.0 h.1) }

-- instructions
immediates : (k : Immediates) (i : Imm) (s : List ℕ) → SpellsImmediates k s i → least_imm i + zero_byte (Some k) ≤ length s
immediates kind.Bare i s h = omega (arith, ap least_imm h.1)
immediates kind.Index i s h = omega (arith, at_least_unsigned h.0 s h.1, ap least_imm h.2)
immediates kind.TypeAndZero i s h = omega (arith, at_least_unsigned h.1 h.0 h.2, ap least_imm h.4, ap length h.3, length-append h.0 (0x00 ∷ []))
immediates kind.Zero i s h = omega (arith, ap least_imm h.1, ap length h.0)
immediates kind.Memory i s h =
    omega (arith, at_least_unsigned h.2 h.0 h.4, at_least_unsigned h.3 h.1 h.5, ap least_imm h.7, ap length h.6, length-append h.0 h.1)
immediates kind.S32 i s h = subst (λ (j : Imm). least_imm j + 0 ≤ length s) (sym h.2) (omega (arith, at_least_s32 _ h.0 s h.1 refl))
immediates kind.S64 i s h = subst (λ (j : Imm). least_imm j + 0 ≤ length s) (sym h.2) (omega (arith, at_least_s64 _ h.0 s h.1 refl))
immediates kind.F32 i s h = omega (arith, ap least_imm h.1, h.0)
immediates kind.F64 i s h = omega (arith, ap least_imm h.1, h.0)

plain : (i : Instr) (s : List ℕ) → SpellsPlain s i → least_instr i ≤ length s
plain i s h =
    let zero : zero_byte (immediates_of i.code) ≡ zero_byte (Some h.0) = ap zero_byte h.2 in
    omega (arith, zero, immediates h.0 i.imm h.1 h.3, ap length h.4)

-- the instructions with forms of their own
pub table_bytes : (first count last : ℕ) → least_instr (table_instr first count last) ≡ 1 + (least_unsigned count + least_unsigned last)
unfolding immediates_of
table_bytes first count last = omega arith

pub block_bytes : (r : Option ValType) → least_instr (block_instr r) ≡ 2
unfolding immediates_of
block_bytes r = refl

pub loop_bytes : (r : Option ValType) → least_instr (loop_instr r) ≡ 2
unfolding immediates_of
loop_bytes r = refl

pub if_bytes : (r : Option ValType) → least_instr (if_instr r) ≡ 2
unfolding immediates_of
if_bytes r = refl

pub else_byte : least_instr else_instr ≡ 1
unfolding immediates_of
else_byte = refl

pub end_byte : least_instr end_instr ≡ 1
unfolding immediates_of
end_byte = refl

table : (labels : List ℕ) (last : ℕ) (s : List ℕ) → SpellsTable s labels last → 1 + least_vector least_unsigned labels + least_unsigned last ≤ length s
table labels last s h =
    omega (arith, (vector SpellsU32 least_unsigned number).at labels h.0 h.2, at_least_unsigned last h.1 h.3, ap length h.4, length-append h.0 h.1)

-- of the instructions of a tree and its labels, where f labels are pooled before them
abbrev pub least_code : (f : ℕ) → Code → ℕ
least_code f c = sum_by least_instr (flat f c) + sum_by least_unsigned (labels_of c)

-- a list, its end and what follows
pub closed : (i e : Instr) (a b : List Instr) → sum_by least_instr (i ∷ (a ++ e ∷ b)) ≡ least_instr i + (sum_by least_instr a + (least_instr e + sum_by least_instr b))
closed i e a b =
    omega (arith, sum_by-cons least_instr i (a ++ e ∷ b), sum_by-append least_instr a (e ∷ b), sum_by-cons least_instr e b)

block : (i : Instr) (r : Option ValType) (s ty inner more : List ℕ) (a b : List Instr) (ls ks : List ℕ) → least_instr i ≡ 2 → SpellsBlockType ty r
    → sum_by least_instr a + sum_by least_unsigned ls ≤ length inner → sum_by least_instr b + sum_by least_unsigned ks ≤ length more
    → length s ≡ suc (length (ty ++ (inner ++ 0x0B ∷ more)))
    → sum_by least_instr (i ∷ (a ++ end_instr ∷ b)) + sum_by least_unsigned (ls ++ ks) ≤ length s
block i r s ty inner more a b ls ks two bt ha hb e =
    omega (arith, two, end_byte, ha, hb, e, block_type r ty bt, closed i end_instr a b, sum_by-append least_unsigned ls ks, length-append ty (inner ++ 0x0B ∷ more), length-append inner (0x0B ∷ more))

pub code : (c : Code) (f : ℕ) (s : List ℕ) → SpellsCode s c → sum_by least_instr (flat f c) + sum_by least_unsigned (labels_of c) ≤ length s
code Empty f s h = omega arith
code (Then i rest) f s h =
    omega (arith, sum_by-cons least_instr i (flat f rest), plain i h.0 h.2, code rest f h.1 h.3, ap length h.4, length-append h.0 h.1)
code (TableOf labels last rest) f s h =
    omega (
      arith,
      sum_by-cons least_instr (table_instr f (length labels) last) (flat (f + length labels) rest),
      sum_by-append least_unsigned labels (labels_of rest),
      table_bytes f (length labels) last,
      table labels last h.0 h.2,
      code rest (f + length labels) h.1 h.3,
      ap length h.4,
      length-append h.0 h.1,
    )
code (BlockOf r a b) f s h =
    block (block_instr r) r s h.0 h.1 h.2 (flat f a) (flat (f + length (labels_of a)) b) (labels_of a) (labels_of b) (block_bytes r) h.3 (code a f h.1 h.4) (code b (f + length (labels_of a)) h.2 h.5) (ap length h.6)
code (LoopOf r a b) f s h =
    block (loop_instr r) r s h.0 h.1 h.2 (flat f a) (flat (f + length (labels_of a)) b) (labels_of a) (labels_of b) (loop_bytes r) h.3 (code a f h.1 h.4) (code b (f + length (labels_of a)) h.2 h.5) (ap length h.6)
code (IfOf r a b) f s h =
    block (if_instr r) r s h.0 h.1 h.2 (flat f a) (flat (f + length (labels_of a)) b) (labels_of a) (labels_of b) (if_bytes r) h.3 (code a f h.1 h.4) (code b (f + length (labels_of a)) h.2 h.5) (ap length h.6)
code (IfElseOf r a d b) f s h =
    let fa : ℕ = f + length (labels_of a) in
    let fd : ℕ = f + length (labels_of a) + length (labels_of d) in
    let ha : sum_by least_instr (flat f a) + sum_by least_unsigned (labels_of a) ≤ length h.1 = code a f h.1 h.5 in
    let hd : sum_by least_instr (flat fa d) + sum_by least_unsigned (labels_of d) ≤ length h.2 = code d fa h.2 h.6 in
    let hb : sum_by least_instr (flat fd b) + sum_by least_unsigned (labels_of b) ≤ length h.3 = code b fd h.3 h.7 in
    let text = closed (if_instr r) else_instr (flat f a) (flat fa d ++ end_instr ∷ flat fd b) in
    let second = sum_by-append least_instr (flat fa d) (end_instr ∷ flat fd b) in
    let last = sum_by-cons least_instr end_instr (flat fd b) in
    let names = sum_by-append least_unsigned (labels_of a) (labels_of d ++ labels_of b) in
    let more = sum_by-append least_unsigned (labels_of d) (labels_of b) in
    omega (
      arith,
      ha,
      hd,
      hb,
      text,
      second,
      last,
      names,
      more,
      if_bytes r,
      else_byte,
      end_byte,
      block_type r h.0 h.4,
      ap length h.8,
      length-append h.0 (h.1 ++ 0x05 ∷ (h.2 ++ 0x0B ∷ h.3)),
      length-append h.1 (0x05 ∷ (h.2 ++ 0x0B ∷ h.3)),
      length-append h.2 (0x0B ∷ h.3),
    )

pub expr : AtLeast SpellsExpr least_expr
expr =
    record {
      at = λ e s h.
          let text : sum_by least_instr e.code ≡ sum_by least_instr (flat 0 h.0 ++ end_instr ∷ []) = ap (λ (l : List Instr). sum_by least_instr l) h.4.code in
          let names : sum_by least_unsigned e.labels ≡ sum_by least_unsigned (labels_of h.0) = ap (λ (l : List ℕ). sum_by least_unsigned l) h.4.labels in
          let last : sum_by least_instr (end_instr ∷ []) ≡ 1 = omega (arith, sum_by-cons least_instr end_instr [], end_byte) in
          omega (arith, text, names, last, sum_by-append least_instr (flat 0 h.0) (end_instr ∷ []), code h.0 0 h.1 h.2, ap length h.3, length-append h.1 (0x0B ∷ []));
    }

-- what stands in the sections
imported_what : (what : Imported) (s : List ℕ) → SpellsImported s what → least_imported what ≤ length s
imported_what (imported.Function ty) s h = omega (arith, at_least_unsigned ty h.0 h.1, ap length h.2)
imported_what (imported.Table bounds) s h = omega (arith, table_type.at bounds h.0 h.1, ap length h.2)
imported_what (imported.Memory bounds) s h = omega (arith, limits.at bounds h.0 h.1, ap length h.2)
imported_what (imported.Global ty) s h = omega (arith, global_type.at ty h.0 h.1, ap length h.2)

pub import : AtLeast SpellsImport least_import
import =
    record {
      at = λ i s h.
          omega (arith, name.at i.«module» h.0 h.3, name.at i.name h.1 h.4, imported_what i.what h.2 h.5, ap length h.6, length-append h.0 (h.1 ++ h.2), length-append h.1 h.2);
    }

pub global : AtLeast SpellsGlobal least_global
global = record { at = λ g s h. omega (arith, global_type.at g.ty h.0 h.2, expr.at g.init h.1 h.3, ap length h.4, length-append h.0 h.1) }

export_kind : (k : ExportKind) (s : List ℕ) → SpellsExportKind s k → 1 ≤ length s
export_kind exports.Function s h = omega (arith, ap length h)
export_kind exports.Table s h = omega (arith, ap length h)
export_kind exports.Memory s h = omega (arith, ap length h)
export_kind exports.Global s h = omega (arith, ap length h)

pub export : AtLeast SpellsExport least_export
export =
    record {
      at = λ e s h.
          omega (arith, name.at e.name h.0 h.3, export_kind e.kind h.1 h.4, at_least_unsigned e.index h.2 h.5, ap length h.6, length-append h.0 (h.1 ++ h.2), length-append h.1 h.2);
    }

pub element : AtLeast SpellsElement least_element
element =
    record {
      at = λ e s h.
          omega (
            arith,
            at_least_unsigned e.table h.0 h.3,
            expr.at e.offset h.1 h.4,
            (vector SpellsU32 least_unsigned number).at e.functions h.2 h.5,
            ap length h.6,
            length-append h.0 (h.1 ++ h.2),
            length-append h.1 h.2,
          );
    }

run : AtLeast SpellsRun least_run
run = record { at = λ r s h. omega (arith, at_least_unsigned r.count h.0 h.2, val_type.at r.ty h.1 h.3, ap length h.4, length-append h.0 h.1) }

pub function : AtLeast SpellsFunction least_function
function =
    record {
      at = λ b s h. omega (arith, (vector SpellsRun least_run run).at b.locals h.0 h.2, expr.at b.expr h.1 h.3, ap length h.5, length-append h.0 h.1);
    }

pub body : AtLeast SpellsBody least_body
body = sized SpellsFunction least_function function

pub segment : AtLeast SpellsSegment least_segment
segment =
    record {
      at = λ d s h.
          omega (arith, at_least_unsigned d.memory h.0 h.3, expr.at d.offset h.1 h.4, bytes.at d.bytes h.2 h.5, ap length h.6, length-append h.0 (h.1 ++ h.2), length-append h.1 h.2);
    }
