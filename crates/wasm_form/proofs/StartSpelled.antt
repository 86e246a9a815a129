-- The module whose one function does nothing, and bytes that spell it.
use Rattle.std.proofs.Common.{◌≡◌, ℕ, ◌<◌, ◌^◌, List, [], ◌∷◌, ◌++◌, length, codes, inr, append-nil, arith, refl, sym}
use Rattle.wasm_form.specs.Values.{SpellsU32, SpellsVector}
use Rattle.wasm_form.specs.Types.{SpellsValType, SpellsFuncType}
use Rattle.wasm_form.specs.Instructions.{SpellsPlain, immediates_of}
use Rattle.wasm_form.specs.Trees.{Empty, Then, end_instr}
use Rattle.wasm_form.specs.Sections.{SpellsRun, SpellsFunction, SpellsBody, SpellsExport}
use Rattle.wasm_form.specs.Modules.{Section, SpellsSection, preamble, Spells, IsSpelled}
use Rattle.wasm_form.specs.Start.{body_with, start_parts}
use Rattle.wasm_form.specs.declared.instr.Instr.{Instr}
use Rattle.wasm_form.specs.declared.instr.Imm.TheVariants as imm
use Rattle.wasm_form.specs.declared.immediates.Immediates.TheVariants as kind
use Rattle.wasm_form.specs.declared.parts.ExportKind.TheVariants as exports
use Rattle.wasm_form.proofs.Octets.{octets_by}

abbrev pub nop_instr : Instr
nop_instr = record { code = 0x01; imm = imm.None }

-- the contents of the four sections: the type, the function, its export and its body
abbrev pub types : List ℕ
types = 0x01 ∷ 0x60 ∷ 0x00 ∷ 0x00 ∷ []

abbrev pub functions : List ℕ
functions = 0x01 ∷ 0x00 ∷ []

abbrev pub exported : List ℕ
exported = 0x01 ∷ 0x06 ∷ (codes "_start" ++ 0x00 ∷ 0x00 ∷ [])

abbrev pub bodies : List ℕ
bodies = 0x01 ∷ 0x03 ∷ 0x00 ∷ 0x01 ∷ 0x0B ∷ []

-- the sections from the last on, and all of them
abbrev pub code_section : List ℕ
code_section = 0x0A ∷ 0x05 ∷ bodies

abbrev pub from_exports : List ℕ
from_exports = (0x07 ∷ 0x0A ∷ exported) ++ code_section

abbrev pub from_functions : List ℕ
from_functions = (0x03 ∷ 0x02 ∷ functions) ++ from_exports

abbrev pub from_types : List ℕ
from_types = (0x01 ∷ 0x04 ∷ types) ++ from_functions

-- a number below 128 is one byte
one_byte : (n : ℕ) → n < 2 ^ 7 → SpellsU32 (n ∷ []) n
one_byte n h = (h, omega arith, refl)

none_spelled : {A : Type 0} (S : List ℕ → A → Type 0) → SpellsVector S (0x00 ∷ []) []
none_spelled S = (0x00 ∷ [], [], one_byte 0 (omega arith), refl, refl)

one_spelled : {A : Type 0} (S : List ℕ → A → Type 0) (bytes : List ℕ) (x : A) → S bytes x → SpellsVector S (0x01 ∷ bytes) (x ∷ [])
one_spelled S bytes x h = (0x01 ∷ [], bytes, one_byte 1 (omega arith), (bytes, [], h, refl, sym (append-nil bytes)), refl)

section_spelled : (id : ℕ) (contents : List ℕ) (size : ℕ) → size ≡ length contents → size < 2 ^ 7
    → SpellsSection (id ∷ size ∷ contents) (record { id = id; contents = contents })
section_spelled id contents size e h = (size ∷ [], (h, omega arith, sym e), refl)

type_spelled : SpellsFuncType (0x60 ∷ 0x00 ∷ 0x00 ∷ []) (record { params = []; results = [] })
type_spelled = (0x00 ∷ [], 0x00 ∷ [], none_spelled SpellsValType, none_spelled SpellsValType, refl)

export_spelled : SpellsExport (0x06 ∷ (codes "_start" ++ 0x00 ∷ 0x00 ∷ [])) (record { name = codes "_start"; kind = exports.Function; index = 0 })
unfolding lib.Utf8.encode
export_spelled = (
  0x06 ∷ codes "_start",
  0x00 ∷ [],
  0x00 ∷ [],
  ((0x06 ∷ [], one_byte 6 (omega arith), refl), (codes "_start", (refl, refl))),
  refl,
  one_byte 0 (omega arith),
  refl,
)

instr_spelled : SpellsPlain (0x01 ∷ []) nop_instr
unfolding immediates_of
instr_spelled = (kind.Bare, [], refl, (refl, refl), refl)

function_spelled : SpellsFunction (0x00 ∷ 0x01 ∷ 0x0B ∷ []) (body_with (nop_instr ∷ end_instr ∷ []))
function_spelled = (
  0x00 ∷ [],
  0x01 ∷ 0x0B ∷ [],
  none_spelled SpellsRun,
  (
    Then nop_instr Empty,
    0x01 ∷ [],
    (0x01 ∷ [], [], instr_spelled, refl, refl),
    refl,
    record { code = refl; labels = refl; matches = refl },
  ),
  omega arith,
  refl,
)

body_spelled : SpellsBody (0x03 ∷ 0x00 ∷ 0x01 ∷ 0x0B ∷ []) (body_with (nop_instr ∷ end_instr ∷ []))
body_spelled = (0x03 ∷ [], 0x00 ∷ 0x01 ∷ 0x0B ∷ [], one_byte 3 (omega arith), function_spelled, refl)

nop_spelled : Spells (preamble ++ from_types) (start_parts (nop_instr ∷ end_instr ∷ []))
nop_spelled = record {
  sections = record { id = 1; contents = types } ∷ record { id = 3; contents = functions } ∷ record { id = 7; contents = exported } ∷ record { id = 10; contents = bodies } ∷ [];
  after = from_types;
  whole = refl;
  spelled = (
    0x01 ∷ 0x04 ∷ types,
    from_functions,
    section_spelled 1 types 4 refl (omega arith),
    (
      0x03 ∷ 0x02 ∷ functions,
      from_exports,
      section_spelled 3 functions 2 refl (omega arith),
      (
        0x07 ∷ 0x0A ∷ exported,
        code_section,
        section_spelled 7 exported 10 refl (omega arith),
        (code_section, [], section_spelled 10 bodies 5 refl (omega arith), refl, sym (append-nil code_section)),
        refl,
      ),
      refl,
    ),
    refl,
  );
  in_order = inr (omega arith, omega arith, inr (omega arith, omega arith, inr (omega arith, omega arith, inr (omega arith, omega arith, tt))));
  types = one_spelled SpellsFuncType (0x60 ∷ 0x00 ∷ 0x00 ∷ []) (record { params = []; results = [] }) type_spelled;
  imports = refl;
  functions = one_spelled SpellsU32 (0x00 ∷ []) 0 (one_byte 0 (omega arith));
  tables = refl;
  memories = refl;
  globals = refl;
  exports = one_spelled SpellsExport (0x06 ∷ (codes "_start" ++ 0x00 ∷ 0x00 ∷ [])) (record { name = codes "_start"; kind = exports.Function; index = 0 }) export_spelled;
  start = refl;
  elements = refl;
  bodies = one_spelled SpellsBody (0x03 ∷ 0x00 ∷ 0x01 ∷ 0x0B ∷ []) (body_with (nop_instr ∷ end_instr ∷ [])) body_spelled;
  segments = refl;
  counts = refl;
}

pub nop_is_spelled : IsSpelled (start_parts (nop_instr ∷ end_instr ∷ []))
nop_is_spelled = record { bytes = preamble ++ from_types; octets = octets_by (preamble ++ from_types) refl; spelled = nop_spelled }
